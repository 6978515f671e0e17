-- The text of a whole answer.
use Rattle.std.specs.Prelude.{Result, Ok, Err, ℕ, List, [], ◌∷◌, ◌++◌, codes}
use Rattle.sheet.specs.declared.form.Refusal.{Refusal}
use Rattle.sheet.specs.Check.{refusal_number, refusal_place}
use Rattle.compiler.specs.declared.Sizes.{Sizes}
use Rattle.feed.specs.Text.{line_of, row_text, rows_of, rows_text}

-- the refusal, 0 for none, its place, and the numbers of records, notes and entries
abbrev pub counts_text : ℕ → ℕ → ℕ → ℕ → ℕ → List ℕ
counts_text refusal place records notes entries = row_text (codes "answer") (refusal ∷ place ∷ records ∷ notes ∷ entries ∷ [])

-- the numbers, and then each record, note and entry, on a line of its own; a refusal has none of them
abbrev pub answer_text : Result Sizes Refusal → List ℕ → List ℕ → List ℕ → List ℕ
answer_text (Ok a) list notes book =
    line_of (counts_text 0 0 a.records a.notes a.entries)
    ++ (rows_text (codes "r") (rows_of 5 list) a.records
    ++ (rows_text (codes "n") (rows_of 4 notes) a.notes
    ++ rows_text (codes "b") (rows_of 4 book) a.entries))
answer_text (Err r) list notes book = line_of (counts_text (refusal_number r) (refusal_place r) 0 0 0)
