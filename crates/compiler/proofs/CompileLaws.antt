-- compile: one law for each way out.
use mathlib.Core.Path.{◌≡◌, refl, sym, ap, ◌∙◌}
use mathlib.Core.Bool.{true, false}
use mathlib.Core.List.{List}
use Prim.Native.Nat.{ℕ, ◌*◌, ◌≤◌, ◌<◌}
use native.Mathlib.Omega.{arith}
use borrow.Author.Tests.{le-leb, lt-leb}
use lib.ListN.{length, replicate, length-replicate}
use Rattle.recorder.specs.Word.{payload_at}
use Rattle.recorder.specs.Mem.{Mem, mem, mem_r, nothing, records_in, list_full}
use Rattle.labels.specs.MarksIn.{MarksIn}
use Rattle.program.specs.Line.{Programmed}
use Rattle.rules.specs.Program.{Lines, close_up}
use Rattle.recorder.specs.Layout.{most_records}
use Rattle.rules.specs.Outcome.{Outcome, Lengths, lengths, refused, finished, sized}
use Rattle.rules.specs.MemAnswer.{mem_sized}
use Rattle.rules.proofs.SimOutcome.{mem_lines, mem_outcome, held_outcome, Long, lines_long, closed_long}

-- the lengths of a memory's buffers, and of work
abbrev pub lens : Mem → ℕ → Lengths
lens m w = lengths (length m.list) (length m.notes) (length m.book) w

lens_are : (L : Lengths) (m : Mem) (w : ℕ) → Long L m → w ≡ L.work → lens m w ≡ L
lens_are L m w l e = rw (l.list, l.notes, l.book, e) refl

-- zeros lent: the run is the memory's
pub record FromZeros (s t : List ℕ) (L : Lengths) (m : Mem) (w : List ℕ) (k : ℕ) : Type 0 where
  pub state : m ≡ (mem_lines s t L).state
  pub marks : MarksIn w k (mem_lines s t L).marks

pub from_zeros : (s t : List ℕ) (m₀ m₁ m₂ : Mem) (w₀ w₁ w₂ : List ℕ) (k : ℕ) → m₀.st ≡ nothing
    → m₁ ≡ mem (replicate (length m₀.list) 0) (replicate (length m₀.notes) 0) (replicate (length m₀.book) 0) m₀.st → w₁ ≡ replicate (length w₀) 0
    → Programmed s t m₁ m₂ w₁ w₂ k → 3 * payload_at s 0 < length w₀ → payload_at s 0 < 65536 → FromZeros s t (lens m₀ (length w₀)) m₂ w₂ k
from_zeros s t m₀ m₁ m₂ w₀ w₁ w₂ k n h hw p hs hf =
    let z : m₁ ≡ mem (replicate (length m₀.list) 0) (replicate (length m₀.notes) 0) (replicate (length m₀.book) 0) nothing = rw n at h in
    let q : Programmed s t (mem (replicate (length m₀.list) 0) (replicate (length m₀.notes) 0) (replicate (length m₀.book) 0) nothing) m₂ w₁ w₂ k = rw z at p in
    let l : length w₁ ≡ length w₀ = ap length hw ∙ length-replicate (length w₀) 0 in
    record { state = q.state; marks = q.marks (rw l hw) (omega (arith, l, hs)) hf }

-- 9, known once the lines are compiled, and what is told where there is room
list_full_lem : (L : Lengths) (m₁ m₂ : Mem) (o : Outcome) → list_full m₁.st ≡ true → o ≡ refused 9 0 L → o ≡ mem_outcome L m₁ m₂
list_full_lem L m₁ m₂ o h e = rw h e

no_room : (L : Lengths) (m₁ m₂ : Mem) (o : Outcome) → list_full m₁.st ≡ false → most_records L.list ≤ records_in m₁.st → o ≡ refused 9 0 L → o ≡ mem_outcome L m₁ m₂
no_room L m₁ m₂ o h i e = rw (h, le-leb (most_records L.list) (records_in m₁.st) i) e

room : (L : Lengths) (m₁ m₂ : Mem) (o : Outcome) → list_full m₁.st ≡ false → records_in m₁.st < most_records L.list → o ≡ mem_sized L m₂ → o ≡ mem_outcome L m₁ m₂
room L m₁ m₂ o h i e = rw (h, lt-leb (most_records L.list) (records_in m₁.st) i) e

-- the three ways out of compile_accepted; h is the length of work on the way
module _ (s t : List ℕ) (L : Lengths) (m : Mem) (w : List ℕ) (k h : ℕ) (o : Outcome) (x : FromZeros s t L m w k) (hw : h ≡ L.work) where
  as_long : lens m h ≡ L
  as_long = lens_are L m h (rw x.state (lines_long s t L)) hw

  pub whole_full : list_full m.st ≡ true → o ≡ refused 9 0 (lens m h) → o ≡ sized (finished s t) L
  whole_full f e =
      let g : list_full (mem_lines s t L).state.st ≡ true = rw x.state at f in
      let d : o ≡ mem_outcome L (mem_lines s t L).state (close_up (mem_r t) (mem_lines s t L)) = list_full_lem L (mem_lines s t L).state (close_up (mem_r t) (mem_lines s t L)) o g (e ∙ ap (refused 9 0) as_long) in
      d ∙ held_outcome s t L

  pub whole_no_room : (r : ℕ) → list_full m.st ≡ false → r ≡ most_records (length m.list) → r ≤ records_in m.st → o ≡ refused 9 0 (lens m h) → o ≡ sized (finished s t) L
  whole_no_room r f hr g e =
      let n : list_full (mem_lines s t L).state.st ≡ false = rw x.state at f in
      let i : r ≡ most_records L.list = hr ∙ ap (λ (z : Lengths). most_records z.list) as_long in
      let y : most_records L.list ≤ records_in (mem_lines s t L).state.st = rw (i, x.state) at g in
      let d : o ≡ mem_outcome L (mem_lines s t L).state (close_up (mem_r t) (mem_lines s t L)) = no_room L (mem_lines s t L).state (close_up (mem_r t) (mem_lines s t L)) o n y (e ∙ ap (refused 9 0) as_long) in
      d ∙ held_outcome s t L

  pub whole_sized : (r : ℕ) (m' : Mem) → list_full m.st ≡ false → r ≡ most_records (length m.list) → records_in m.st < r
      → ((t : List ℕ) (c : Lines Mem) → c.state ≡ m → MarksIn w k c.marks → m' ≡ close_up (mem_r t) c)
      → o ≡ mem_sized (lens m' h) m' → o ≡ sized (finished s t) L
  whole_sized r m' f hr g close e =
      let n : list_full (mem_lines s t L).state.st ≡ false = rw x.state at f in
      let i : r ≡ most_records L.list = hr ∙ ap (λ (z : Lengths). most_records z.list) as_long in
      let y : records_in (mem_lines s t L).state.st < most_records L.list = rw (i, x.state) at g in
      let z : m' ≡ close_up (mem_r t) (mem_lines s t L) = close t (mem_lines s t L) (sym x.state) x.marks in
      let l : lens m' h ≡ L = lens_are L m' h (rw z (closed_long s t L (n, y))) hw in
      let d : o ≡ mem_outcome L (mem_lines s t L).state (close_up (mem_r t) (mem_lines s t L)) = room L (mem_lines s t L).state (close_up (mem_r t) (mem_lines s t L)) o n y (e ∙ ap (λ (v : Lengths). mem_sized v m') l ∙ ap (mem_sized L) z) in
      d ∙ held_outcome s t L
