use Rattle.std.proofs.Common.{◌≡◌, ◌+◌, ◌-◌, ◌∙◌, refl, arith}
use Rattle.recorder.proofs.Laws.{by_tag, find_step, find_stop, find_end, found_from}
use Rattle.recorder.proofs.codegen.CodeGen.find.Goals as goal

pub returns-then-end-from : goal.returns-then-end-from
returns-then-end-from c = find_end _ _ _ _ _ _ _ _ (omega (arith, c.known-end.ensures, c.if-end-from.true)) refl

pub returns-then-named_at : goal.returns-then-named_at
returns-then-named_at c =
    let here = by_tag c.args.text.now c.args.self.now.book.now c.loop-k.k _ c.args.name.now.start c.args.name.now.len c.args.name.now.sigil _ c.name_tag-tag.ensures c.named_at.ensures in
    found_from _ _ _ _ _ _ _ _ _ _ c.known-end.ensures refl (find_stop _ _ _ _ _ _ _ _ _ (omega (arith, c.loop-k-test.true)) c.loop-k.invariant here c.if-named_at.true)

pub loop-k-preserved : goal.loop-k-preserved
loop-k-preserved c =
    let here = by_tag c.args.text.now c.args.self.now.book.now c.loop-k.k _ c.args.name.now.start c.args.name.now.len c.args.name.now.sigil _ c.name_tag-tag.ensures c.named_at.ensures in
    let e : c.known-end.result - (c.loop-k.k + 1) ≡ c.known-end.result - c.loop-k.k - 1 = omega arith in
    rw e (find_step _ _ _ _ _ _ _ _ _ (omega (arith, c.loop-k-test.true)) c.loop-k.invariant here c.if-named_at.false)

pub returns : goal.returns
returns c =
    let e : c.known-end.result ≡ c.loop-k.k = omega (arith, c.loop-k-test.false, c.loop-k.auto.k-end, c.if-end-from.false) in
    found_from _ _ _ _ _ _ _ _ _ _ c.known-end.ensures refl (e ∙ find_end _ _ _ _ _ _ _ _ (omega (arith, c.loop-k-test.false)) c.loop-k.invariant)
