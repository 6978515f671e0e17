-- The demands of `outcome`, which `compile` equals on every input: what a call leaves, and the piles of the list that it leaves.
use mathlib.Core.Path.{◌≡◌, refl, ap}
use mathlib.Core.Bool.{Bool, true, false}
use mathlib.Core.List.{List}
use Prim.Native.Nat.{ℕ, ◌/◌, ◌≤◌}
use native.Mathlib.Omega.{arith}
use lib.Dec.{ltb}
use lib.ListN.{length}
use Rattle.recorder.specs.Word.{pick}
use Rattle.recorder.specs.Layout.{note_size, entry_size, most_records}
use Rattle.sheet.specs.Check.{Checked}
use Rattle.std.specs.Prelude.{Ok, Err}
use Rattle.sheet.specs.Check.{checked, refusal_number, refusal_place}
use Rattle.sheet.specs.CheckAnswer.{answer_place}
use Rattle.sheet.proofs.Numbers.{refusal_some, refusal_low}
use Rattle.sheet.specs.Tree.{program_at}
use Rattle.walk.proofs.Within.{place_within}
use Rattle.rules.specs.Outcome.{Outcome, Lengths, accepted, finished, sized, outcome_by, outcome}
use Rattle.rules.specs.Missing.{Whole}
use Rattle.rules.specs.Demand.{NoError}
use Rattle.rules.proofs.Third.{third}
use Rattle.compiler.specs.Demanded.{Ended, whole, none, Piled}

ended_pick : (s t : List ℕ) (L : Lengths) (b : Bool) (x y : Outcome) → Ended s t L x → Ended s t L y → Ended s t L (pick b x y)
ended_pick s t L true x y a c = a
ended_pick s t L false x y a c = c

ended_sized : (s t : List ℕ) (L : Lengths) → Ended s t L (sized (finished s t) L)
unfolding sized
ended_sized s t L =
    ended_pick s t L (ltb (most_records L.list) (length (finished s t).records)) _ _ (none 9 0 (omega arith) (omega arith) (omega arith))
    (ended_pick s t L (ltb (L.notes / note_size) (length (finished s t).notes)) _ _ (none 10 0 (omega arith) (omega arith) (omega arith))
    (ended_pick s t L (ltb (L.book / entry_size) (length (finished s t).entries)) _ _ (none 11 0 (omega arith) (omega arith) (omega arith)) whole))

ended_by : (s t : List ℕ) (L : Lengths) (c : Checked) → answer_place c ≤ length s → Ended s t L (outcome_by c s t L)
ended_by s t L (Ok u) h = ended_sized s t L
ended_by s t L (Err r) h = none (refusal_number r) (refusal_place r) (omega (arith, refusal_some r)) (refusal_low r) h

-- THEOREM: the first demand
pub first : (s t : List ℕ) (L : Lengths) → Ended s t L (outcome s t L)
unfolding outcome
first s t L = ended_by s t L (checked s t L.work) (place_within s t L.work)

-- an answer without a refusal is the whole
accepted_whole : (s t : List ℕ) (L : Lengths) (o : Outcome) → Ended s t L o → o.answer.refusal ≡ 0 → o ≡ accepted (finished s t) L
accepted_whole s t L o whole e = refl
accepted_whole s t L o (none k p a b c) e = absurd (omega arith)

-- THEOREM: the third demand, of the list in the lent memory
pub third_of_list : (s t : List ℕ) (L : Lengths) → (outcome s t L).answer.refusal ≡ 0 → Whole (program_at s) → NoError (finished s t).notes → Piled s t L
third_of_list s t L e w n =
    let a = accepted_whole s t L (outcome s t L) (first s t L) e in
    record { words = ap (λ (o : Outcome). o.list) a; count = ap (λ (o : Outcome). o.answer.records) a; piles = third s t L e w n }
