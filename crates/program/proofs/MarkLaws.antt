-- The labelled lines in the work, and one more.
use mathlib.Core.Path.{◌≡◌, refl, sym as inv, ap, ◌∙◌}
use mathlib.Core.List.{List, [], ◌∷◌, ◌++◌}
use mathlib.Core.Bool.{Bool, true, false}
use Prim.Native.Nat.{ℕ, ◌+◌, ◌*◌, ◌-◌, ◌<◌}
use lib.Dec.{ltb}
use lib.ListN.{length, replicate, length-append}
use borrow.Author.Tests.{lt-ltb}
use native.Mathlib.Omega.{arith}
use Rattle.recorder.specs.Word.{choose}
use Rattle.recorder.specs.Layout.{words_of, fill}
use Rattle.recorder.specs.Marks.{Mark, mark}
use Rattle.recorder.proofs.Bools.{both_left, both_right}
use Rattle.labels.specs.MarkWords.{mark_words, mark_list, mark_count}
use Rattle.labels.specs.MarksIn.{narrow, MarksIn}
use Rattle.labels.proofs.MarkSearch.{mark_put}
use Rattle.sheet.specs.Tree.{absent, given, Target}
use Rattle.rules.specs.Program.{marked}
use Rattle.program.specs.Line.{line_work, line_count}

narrow_snoc : (ms : List Mark) (m : Mark) → narrow ms ≡ true → m.label < 65536 → narrow (ms ++ (m ∷ [])) ≡ true
unfolding narrow
narrow_snoc [] m r h = rw (lt-ltb m.label 65536 h)
narrow_snoc (k ∷ ms) m r h = rw (both_left (ltb k.label 65536) (narrow ms) r) (narrow_snoc ms m (both_right (ltb k.label 65536) (narrow ms) r) h)

-- what the loop over the lines keeps of the work, with so many lines left
pub record Kept (w : List ℕ) (n left : ℕ) (ms : List Mark) : Type 0 where
  pub marks : MarksIn w n ms
  pub room : 3 * (n + left) < length w
  pub few : n + left < 65536

pub kept_none : (w : List ℕ) (left : ℕ) → w ≡ replicate (length w) 0 → 3 * left < length w → left < 65536 → Kept w 0 left []
unfolding narrow
kept_none w left e h i =
    let z : length w ≡ length w - 0 = omega arith in
    record { marks = record { words = e ∙ ap (λ (x : ℕ). replicate x 0) z; count = refl; labels = refl; few = omega arith; room = omega arith }; room = omega arith; few = omega arith }

kept_label : (w : List ℕ) (n left : ℕ) (ms : List Mark) (l : Target) (a f : ℕ) → l.label < 65536 → 0 < left → Kept w n left ms
    → (w' : List ℕ) → length w' ≡ length w → w' ≡ mark_list w n l.label a f → Kept w' (mark_count w n) (left - 1) (ms ++ (mark l.label a f ∷ []))
kept_label w n left ms l a f b h k w' same e =
    let p = mark_put ms (length w) w n l.label a f k.marks.words refl k.marks.count (omega (arith, k.room)) in
    let more : mark_count w n ≡ n + 1 = p.1 ∙ length-append ms (mark l.label a f ∷ []) ∙ ap (λ (z : ℕ). z + 1) (inv k.marks.count) in record {
      marks = record {
        words = e ∙ p.0 ∙ ap (λ (z : ℕ). fill z (words_of mark_words (ms ++ (mark l.label a f ∷ [])))) (inv same);
        count = p.1;
        labels = narrow_snoc ms (mark l.label a f) k.marks.labels b;
        few = omega (arith, more, k.few);
        room = omega (arith, more, k.room);
      };
      room = omega (arith, more, k.room);
      few = omega (arith, more, k.few);
    }

-- one line more, whose label may be absent
pub kept_line : (b : Bool) (g : ℕ → Target) (p : ℕ) (w : List ℕ) (n left : ℕ) (ms : List Mark) (a f : ℕ) (w' : List ℕ) → (g p).label < 65536 → 0 < left
    → Kept w n left ms → length w' ≡ length w → w' ≡ line_work (choose b (λ q. absent) (λ q. given (g q)) p) a f w n
    → Kept w' (line_count (choose b (λ q. absent) (λ q. given (g q)) p) w n) (left - 1) (marked (choose b (λ q. absent) (λ q. given (g q)) p) a f ms)
kept_line true g p w n left ms a f w' u h k same e = rw e (record { marks = k.marks; room = omega (arith, k.room); few = omega (arith, k.few) })
kept_line false g p w n left ms a f w' u h k same e = kept_label w n left ms (g p) a f u h k w' same e
