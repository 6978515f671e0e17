use Rattle.std.proofs.Common.{◌≡◌, take, drop, position, rules, tests}
use Rattle.std.proofs.lemmas.Iterator.{YieldsList-from_slice, YieldsList-from_take}
use Rattle.std.proofs.lemmas.Iterator.Search.{position_from_yields_List}
use Rattle.rules.specs.Name.{ends_name}
use Rattle.rules.proofs.Laws.{units_from, name_before}
use Rattle.rules.proofs.name.name_length.Goals as goal

pub returns : goal.returns
returns c =
    let u = units_from _ _ _ _ c.get.ensures.lookup c.unwrap_or_default-units.ensures in
    let p : c.position.result ≡ position ends_name (take c.args.n (drop c.args.at c.args.text.now)) = position_from_yields_List ends_name _ _ _ c.position.ensures.ran (YieldsList-from_take c.args.n (YieldsList-from_slice _ cc) cc) (λ x b q k. search (rules, tests)) in
    let e = name_before c.args.text.now c.args.at c.args.n in
    search (rules, tests)
