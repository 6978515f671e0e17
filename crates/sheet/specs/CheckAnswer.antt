-- The number and the place of what `checked` answers.
use Rattle.std.specs.Prelude.{Ok, Err, ℕ}
use Rattle.sheet.specs.Check.{Checked, refusal_number, refusal_place}

-- a refusal's number and place; 0 is no refusal
abbrev pub answer_number : Checked → ℕ
answer_number (Ok u) = 0
answer_number (Err r) = refusal_number r

abbrev pub answer_place : Checked → ℕ
answer_place (Ok u) = 0
answer_place (Err r) = refusal_place r
