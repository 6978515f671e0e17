use Rattle.std.proofs.Common.{◌∙◌, sym, ap, List, get_or, arith}
use Rattle.std.proofs.Math.ListN.{get_or-map}
use Rattle.rules.specs.declared.tables.Sig.TheVariants.{RealOfReal}
use Rattle.rules.specs.Tables.{Signature, signature_of, real_of_real}
use Rattle.rules.specs.Wants.{signature_for}
use Rattle.rules.proofs.tables.Sig.of_function.Goals as goal

pub returns : goal.returns
unfolding signature_of
returns c =
    let h = c.get.ensures.lookup in
    rw (c.unwrap_or.ensures, c.copied.ensures, h.4 (omega arith) RealOfReal)
    (sym (get_or-map signature_for c.sigs.result.now c.args.k RealOfReal) ∙ ap (λ (l : List Signature). get_or l c.args.k real_of_real) c.sigs.ensures)
