use Rattle.std.proofs.Common.{sym, ap, ◌∙◌}
use Rattle.resolution.specs.Looks.{search_of}
use Rattle.resolution.proofs.ResolveLaws.{no_label}
use Rattle.resolution.proofs.resolve.settle_waiting.Goals as goal

pub returns-in_default-find-clause-value : goal.returns-in_default-find-clause-value
returns-in_default-find-clause-value g c =
    let w = g.T.Target.waiting in
    let a = sym (ap w.waits c.call_at.ensures) ∙ sym c.is_awaited.ensures ∙ c.if-not-is_awaited.false in
    let none = ap (search_of g.T.Target.number) c.in_default-find.is in
    λ t ms h. no_label t w ms c.args.k _ c.look-q.result _ _ c.look-q.ensures a c.in-Some.ensures (sym none ∙ c.find.ensures ms h) _ (c.miss.ensures.value t)
