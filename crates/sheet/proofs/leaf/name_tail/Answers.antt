use Rattle.std.proofs.Common.{◌≡◌, rules, tests}
use Rattle.std.proofs.lemmas.Iterator.{YieldsList-from_slice}
use Rattle.std.proofs.lemmas.Iterator.Search.{all_from_yields_List}
use Rattle.std.specs.List.{list_all}
use Rattle.sheet.specs.Form.{is_inner, name_tail}
use Rattle.sheet.proofs.Names.{tail_last}
use Rattle.sheet.proofs.leaf.name_tail.Goals as goal

pub returns-then-all : goal.returns-then-all
returns-then-all c =
    let a : c.all.result ≡ list_all is_inner c.in-Some.inner.now = all_from_yields_List is_inner _ _ c.all.result c.all.ensures.ran (YieldsList-from_slice c.in-Some.inner.now cc) (λ x b q k. search (rules, tests)) in
    rw (c.in-Some.ensures.cases.0, ← tail_last c.in-Some.inner.now c.in-Some.last.now, ← a, c.if-all.true) c.is_last.ensures

pub returns-else-all : goal.returns-else-all
returns-else-all c =
    let a : c.all.result ≡ list_all is_inner c.in-Some.inner.now = all_from_yields_List is_inner _ _ c.all.result c.all.ensures.ran (YieldsList-from_slice c.in-Some.inner.now cc) (λ x b q k. search (rules, tests)) in
    rw (c.in-Some.ensures.cases.0, ← tail_last c.in-Some.inner.now c.in-Some.last.now, ← a, c.if-all.false)

pub returns-in-None : goal.returns-in-None
unfolding name_tail
returns-in-None c = rw c.in-None.ensures.cases
