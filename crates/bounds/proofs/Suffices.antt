-- What an accepted sheet makes is bounded by its length, so ample buffers are never too short: refusals 9, 10 and 11 do not come.
use mathlib.Core.Path.{◌≡◌, refl, ap, ◌∙◌}
use mathlib.Core.List.{List}
use Prim.Native.Nat.{ℕ, ◌*◌, ◌/◌, ◌≤◌}
use native.Mathlib.Omega.{arith}
use borrow.Author.Tests.{le-ltb}
use lib.ListN.{length}
use Rattle.recorder.specs.Ideal.{Ideal, how_many}
use Rattle.recorder.specs.Layout.{note_size, entry_size, most_records}
use Rattle.sheet.specs.Check.{Checked}
use Rattle.sheet.specs.Check.{Accepted}
use Rattle.std.specs.Prelude.{Ok, Err}
use Rattle.sheet.specs.Check.{checked}
use Rattle.sheet.specs.CheckAnswer.{answer_number}
use Rattle.sheet.proofs.Numbers.{checked_low}
use Rattle.sheet.specs.Tree.{program_at}
use Rattle.walk.proofs.Within.{walked}
use Rattle.rules.specs.Outcome.{Lengths, lengths, accepted, compiled, finished, sized, outcome_by, outcome}
use Rattle.simulation.proofs.Sim.{how_le}
use Rattle.bounds.specs.Size.{program_words}
use Rattle.bounds.specs.Bounded.{Bounded, Ample}
use Rattle.bounds.proofs.GrowsProgram.{grows}
use Rattle.bounds.proofs.SheetSize.{program_fits}

wider : {i : Ideal} (n m : ℕ) → n ≤ m → Bounded n i → Bounded m i
wider n m h b = omega arith

module _ (s t : List ℕ) where
  -- THEOREM: an accepted sheet of n words makes at most 4 n / 3 records, 2 n notes and n entries
  pub bounded : (work : ℕ) → checked s t work ≡ Accepted → Bounded (length s) (finished s t)
  unfolding finished compiled
  bounded work e = wider (program_words (program_at s)) (length s) (program_fits s t work e) (grows t (program_at s))

  sized_whole : (L : Lengths) → checked s t L.work ≡ Accepted → Ample (length s) L → sized (finished s t) L ≡ accepted (finished s t) L
  unfolding sized
  sized_whole L e a =
      let b = bounded L.work e in
      let i = finished s t in
      rw (
        le-ltb (most_records L.list) (length i.records) (omega (arith, b.records, a.few, a.list)),
        le-ltb (L.notes / note_size) (length i.notes) (omega (arith, b.notes, a.notes)),
        le-ltb (L.book / entry_size) (length i.entries) (omega (arith, b.entries, a.book)),
      )

  -- THEOREM: with ample buffers lent, a sheet that none of 1 to 8 refuses is accepted
  pub suffices : (L : Lengths) → checked s t L.work ≡ Accepted → Ample (length s) L → outcome s t L ≡ accepted (finished s t) L
  unfolding outcome
  suffices L e a = ap (λ (c : Checked). outcome_by c s t L) e ∙ sized_whole L e a

  -- so there is no refusal above 8
  pub never_short : (L : Lengths) → Ample (length s) L → (outcome s t L).answer.refusal ≤ 8
  unfolding outcome
  never_short L a = go (checked s t L.work) refl
    where
      go : (c : Checked) → checked s t L.work ≡ c → (outcome_by c s t L).answer.refusal ≤ 8
      go (Ok u) e = rw (sized_whole L e a) (omega arith)
      go (Err r) e = let h : answer_number (Err r) ≤ 8 = rw e at (checked_low s t L.work) in h

-- a number within its kind is never cut: a head's 24 bits hold it
pub uncut : (s t : List ℕ) (work k : ℕ) → checked s t work ≡ Accepted → how_many k (finished s t).entries ≤ 65536
uncut s t work k e = omega (arith, how_le k (finished s t).entries, (bounded s t work e).entries, (walked s t work e).short)

-- the lengths that include/hollupsa.h names
pub seven_eight_four : (n w : ℕ) → n ≤ 49151 → Ample n (lengths (7 * n) (8 * n) (4 * n) w)
seven_eight_four n w h = omega arith
