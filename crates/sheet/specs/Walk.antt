-- What reading a part of the sheet finds: the place behind it, or the first offence.
use Rattle.std.specs.Prelude.{ℕ, Result}
use Rattle.sheet.specs.declared.form.Offence.{Offence}

abbrev pub Walk : Type 0
Walk = Result ℕ Offence
