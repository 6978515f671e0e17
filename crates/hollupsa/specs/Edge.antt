-- What a call from outside leaves in the lent memory.
use Rattle.std.specs.Prelude.{List, [], ◌∷◌, ◌≡◌, ℕ}
use Rattle.rules.specs.Outcome.{Answer, Outcome}

-- the five numbers of an answer
abbrev pub answer_words : Answer → List ℕ
answer_words r = r.refusal ∷ r.place ∷ r.records ∷ r.notes ∷ r.entries ∷ []

-- the answer's numbers and the four buffers hold the outcome
pub record Leaves (o : Outcome) (a l n b w : List ℕ) : Type 0 where
  pub answer : a ≡ answer_words o.answer
  pub list : l ≡ o.list
  pub notes : n ≡ o.notes
  pub book : b ≡ o.book
  pub work : w ≡ o.work
