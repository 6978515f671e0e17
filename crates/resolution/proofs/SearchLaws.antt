-- A label looked up among the labelled lines in chains.
use Rattle.std.specs.Prelude.{Option}
use mathlib.Core.Path.{◌≡◌, refl, sym}
use mathlib.Core.List.{List, [], ◌∷◌}
use mathlib.Core.Bool.{true, false}
use Prim.Native.Nat.{ℕ, ◌<◌}
use lib.Dec.{ltb, eqb}
use borrow.Author.Tests.{ne_eqb, ltb-true}
use native.Mathlib.Omega.{arith}
use Rattle.recorder.specs.declared.label.Addr.{Addr}
use Rattle.recorder.specs.declared.label.DatumIndex.{DatumIndex}
use Rattle.labels.specs.declared.chains.Chains.{Chains}
use Rattle.recorder.specs.Ideal.{Search, missing, found}
use Rattle.recorder.specs.Marks.{Mark, addr_of, data_of}
use Rattle.recorder.proofs.Bools.{both_left, both_right}
use Rattle.labels.specs.MarkWords.{target_found, start_found}
use Rattle.labels.specs.MarksIn.{narrow}
use Rattle.labels.specs.Indexed.{Indexed}
use Rattle.resolution.specs.Looks.{search_of}

-- no line has a label of more than 16 bits: a search that passes over lines of other labels finds none
wide : (find : List Mark → ℕ → Search) → ((l : ℕ) → find [] l ≡ missing)
    → ((m : Mark) (ms : List Mark) (l : ℕ) → eqb m.label l ≡ false → find ms l ≡ missing → find (m ∷ ms) l ≡ missing)
    → (ms : List Mark) (l : ℕ) → narrow ms ≡ true → 65535 < l → find ms l ≡ missing
unfolding narrow
wide find e f [] l r h = e l
wide find e f (m ∷ ms) l r h =
    let b = ltb-true m.label 65536 (both_left (ltb m.label 65536) (narrow ms) r) in
    f m ms l (ne_eqb m.label l (λ z. omega arith)) (wide find e f ms l (both_right (ltb m.label 65536) (narrow ms) r) h)

pub no_target : (c : Chains) (ms : List Mark) (label : ℕ) → Indexed c ms → 65535 < label → missing ≡ addr_of ms label
unfolding addr_of
no_target c ms label h a = sym (wide addr_of (λ l. refl) (λ m ns l e k. rw (e, k)) ms label h.labels a)

pub no_start : (c : Chains) (ms : List Mark) (label : ℕ) → Indexed c ms → 65535 < label → missing ≡ data_of ms label
unfolding data_of
no_start c ms label h a = sym (wide data_of (λ l. refl) (λ m ns l e k. rw (e, k)) ms label h.labels a)

-- what an answer says
pub target_is : (z : Search) (o : Option Addr) → o ≡ target_found z → search_of (λ (a : Addr). a.0) o ≡ z
target_is missing o e = rw e
target_is (found n) o e = rw e

pub start_is : (z : Search) (o : Option DatumIndex) → o ≡ start_found z → search_of (λ (d : DatumIndex). d.0) o ≡ z
start_is missing o e = rw e
start_is (found n) o e = rw e
