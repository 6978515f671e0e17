-- The contract's shape for a whole call: its answer and the four buffers at the end.
use Rattle.std.specs.Prelude.{Result, Ok, Err, List, ℕ}
use Rattle.sheet.specs.declared.form.Refusal.{Refusal}
use Rattle.sheet.specs.Check.{refusal_number, refusal_place}
use Rattle.rules.specs.Outcome.{Answer, Outcome}
use Rattle.compiler.specs.declared.Sizes.{Sizes}

-- 0 is no refusal; a refusal has no sizes
abbrev pub answer_of : Result Sizes Refusal → Answer
answer_of (Ok x) = record { refusal = 0; place = 0; records = x.records; notes = x.notes; entries = x.entries }
answer_of (Err r) = record { refusal = refusal_number r; place = refusal_place r; records = 0; notes = 0; entries = 0 }

abbrev pub outcome_of : Result Sizes Refusal → List ℕ → List ℕ → List ℕ → List ℕ → Outcome
outcome_of x l n b w = record { answer = answer_of x; list = l; notes = n; book = b; work = w }
