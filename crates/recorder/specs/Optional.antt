-- A number that there may be, as the code's links and places hold it.
use Rattle.std.specs.Prelude.{ℕ, suc, Option, None, Some}

-- a number that there may be, plus 1; 0 if there is none
abbrev pub plus_one : Option ℕ → ℕ
plus_one None = 0
plus_one (Some k) = suc k
