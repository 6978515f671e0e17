-- A short name for places in the sheet.
use Rattle.std.specs.Prelude.{List, ℕ}
use Rattle.recorder.specs.Word.{next}

-- the place behind two words
abbrev pub two_on : List ℕ → ℕ → ℕ
two_on s at = next s (next s at)
