-- The third demand, on the rules.
use Rattle.rules.specs.Demand.{Demand}
use Rattle.rules.proofs.ProgramPiles.{accepted_is, formed_piles}
use Rattle.rules.proofs.SheetForm.{accepted_formed}

pub third : Demand
third s t L e w n =
    let a = accepted_is s t L e in
    formed_piles s t a.1 w (accepted_formed s t L.work a.0) n
