use Rattle.std.proofs.Common.{◌≡◌, ◌∙◌, drop, arith}
use Rattle.std.proofs.lemmas.List.{drop_all}
use Rattle.std.proofs.lemmas.Grind.{common_steps}
use Rattle.sheet.proofs.Names.{name_cut}
use Rattle.sheet.proofs.leaf.is_name_range.Goals as goal

pub returns : goal.returns
returns c =
    let u : c.unwrap_or_default-units.result.now ≡ drop c.args.line.base c.args.text.now = grind (arith, common_steps, drop_all) in
    c.is_name.ensures ∙ name_cut c.args.text.now c.args.line.base c.args.r.start c.args.r.end c.get-2.result c.unwrap_or_default.result (rw u at c.get-2.ensures.lookup) c.unwrap_or_default.ensures
