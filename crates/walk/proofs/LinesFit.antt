-- A line of an accepted sheet has at least three words: its length, its label or the absence of one, its count. The lines' number
-- stands before them.
use mathlib.Core.Path.{◌≡◌, refl}
use mathlib.Core.Bool.{Bool, true, false}
use mathlib.Core.List.{List}
use Prim.Native.Nat.{ℕ, zero, suc, ◌+◌, ◌*◌, ◌≤◌, ◌<◌}
use native.Mathlib.Omega.{arith}
use borrow.Author.Tests.{eqb-true}
use lib.Dec.{ltb, leb, eqb}
use lib.ListN.{length}
use Rattle.recorder.specs.Word.{pick, choose, both, kind_at, payload_at, next, range_at}
use Rattle.recorder.proofs.Bools.{both_left}
use Rattle.sheet.specs.declared.form.Offence.{Offence}
use Rattle.sheet.specs.declared.form.Offence.TheVariants.{BadWord, BadLength, BadRange}
use Rattle.sheet.specs.Walk.{Walk}
use Rattle.std.specs.Prelude.{Ok, Err}
use Rattle.sheet.specs.declared.form.Line.{Line}
use Rattle.sheet.specs.declared.form.Sort.TheVariants.{Stmt}
use Rattle.sheet.specs.Check.{Accepted}
use Rattle.sheet.specs.Check.{checked}
use Rattle.sheet.specs.Form.{then, is_absent, take_word, absent_form, in_line, range_form, label_form, list_form, node_form, line_of, line_head, line_form, end_form, lines_form, sheet_form}
use Rattle.walk.proofs.Steps.{Ends, repeat_ends, node_ends}
use Rattle.sheet.proofs.Walks.{pick_behind}
use Rattle.walk.proofs.Cycle.{kind_inside, next_inside}
use Rattle.walk.proofs.Lines.{then_first}
use Rattle.walk.proofs.Within.{walked, sheet_within}

-- a walk that comes to its end has read at least n words
pub record Reads (n p : ℕ) (w : Walk) : Type 0 where
  pub past : (q : ℕ) → w ≡ Ok q → p + n ≤ q

reads_then : (a b p : ℕ) (w : Walk) (f : ℕ → Walk) → Reads a p w → ((q : ℕ) → Reads b q (f q)) → Reads (a + b) p (then w f)
reads_then a b p w f x y = record { past = λ q e. let h = then_first (then w f) w f q refl e in omega (arith, x.past h.0 h.1, (y h.0).past q h.2) }

-- a test that goes on from where it stands, or stops
reads_test : (q : ℕ) (b : Bool) (o : Offence) → Reads 0 q (pick b (Ok q) (Err o))
reads_test q b o = record { past = λ r e. omega (arith, (pick_behind b q r o e).1) }

reads_choose : (n p : ℕ) (b : Bool) (f g : ℕ → Walk) → Reads n p (f p) → Reads n p (g p) → Reads n p (choose b f g p)
reads_choose n p true f g x y = x
reads_choose n p false f g x y = y

reads_less : (n m p : ℕ) (w : Walk) → n ≤ m → Reads m p w → Reads n p w
reads_less n m p w h x = record { past = λ q e. omega (arith, x.past q e) }

from_ends : (s : List ℕ) (p : ℕ) (w : Walk) → Ends s p w → Reads 0 p w
from_ends s p w h = record { past = λ q e. let g : Ends s p (Ok q) = rw e at h in omega (arith, g.steps.later) }

module _ (s : List ℕ) where
  pub word_reads : (k n p : ℕ) → 0 < k → Reads 1 p (take_word s k n p)
  unfolding take_word
  word_reads k n p h = record {
    past = λ q e.
        let a : (both (eqb (kind_at s p) k) (ltb (payload_at s p) n) ≡ true) × (next s p ≡ q) = pick_behind _ (next s p) q (BadWord p) e in
        let i : p < length s = kind_inside s p k h (eqb-true _ _ (both_left _ (ltb (payload_at s p) n) a.0)) in
        omega (arith, a.1, next_inside s p i);
  }

  range_reads : (line : Line) (p : ℕ) → Reads 1 p (range_form s line p)
  unfolding range_form
  range_reads line p = reads_then 1 0 p _ _ (word_reads 1 16777216 p (omega arith)) (λ q. reads_test q (in_line line (range_at s p)) (BadRange p))

  label_reads : (line : Line) (p : ℕ) → Reads 1 p (label_form s line p)
  unfolding label_form
  label_reads line p =
      reads_choose 1 p (is_absent s p) (absent_form s) _ (word_reads 2 1 p (omega arith))
      (reads_less 1 2 p _ (omega arith) (reads_then 1 1 p _ _ (range_reads line p) (λ q. word_reads 3 65536 q (omega arith))))

module _ (s t : List ℕ) where
  list_reads : (line : Line) (p : ℕ) → Reads 1 p (list_form s t line (node_form s t line 64 Stmt) p)
  unfolding list_form
  list_reads line p = reads_then 1 0 p _ _ (word_reads s 4 16777216 p (omega arith)) (λ q. from_ends s q _ (repeat_ends s t line _ (node_ends s t line 64 Stmt) _ q))

  head_reads : (base p : ℕ) → Reads 1 p (line_head s t base p)
  unfolding line_head
  head_reads base p = reads_then 1 0 p _ _ (word_reads s 16 4096 p (omega arith)) (λ q. reads_test q (leb (base + payload_at s p) (length t)) (BadLength p))

  line_reads : (base p : ℕ) → Reads 3 p (line_form s t base p)
  unfolding line_form
  line_reads base p = reads_then 1 2 p _ _ (head_reads base p) (λ q. reads_then 1 1 q _ _ (label_reads s (line_of s t base p) q) (λ r. list_reads (line_of s t base p) r))

  pub end_here_lem : (base p q : ℕ) → end_form s t base p ≡ Ok q → p ≡ q
  unfolding end_form
  end_here_lem base p q e = go (ltb p (length s)) (ltb base (length t)) e
    where
      go : (b d : Bool) → pick b (Err (BadWord p)) (pick d (Err (BadLength (length s))) (Ok p)) ≡ Ok q → p ≡ q
      go true d f = let z : ◌≡◌ {A = ℕ} 0 1 = cc in absurd (omega arith)
      go false true f = let z : ◌≡◌ {A = ℕ} 0 1 = cc in absurd (omega arith)
      go false false f = cc

  lines_read : (n base p q : ℕ) → lines_form s t n base p ≡ Ok q → p + 3 * n ≤ q
  unfolding lines_form
  lines_read zero base p q e = omega (arith, end_here_lem base p q e)
  lines_read (suc n) base p q e =
      let a = then_first (lines_form s t (suc n) base p) (line_form s t base p) (λ r. lines_form s t n (base + payload_at s p) r) q refl e in
      omega (arith, (line_reads base p).past a.0 a.1, lines_read n (base + payload_at s p) a.0 q a.2)

  sheet_reads : (q : ℕ) → sheet_form s t ≡ Ok q → 3 * payload_at s 0 < length s
  unfolding sheet_form
  sheet_reads q e =
      let a = then_first (sheet_form s t) (take_word s 15 16777216 0) (λ p. lines_form s t (payload_at s 0) 0 p) q refl e in
      omega (arith, (word_reads s 15 16777216 0 (omega arith)).past a.0 a.1, lines_read (payload_at s 0) 0 a.0 q a.2, sheet_within s t q e)

-- THEOREM: three words for each line of an accepted sheet, and one more, are no more than work has
pub lines_fit : (s t : List ℕ) (work : ℕ) → checked s t work ≡ Accepted → 3 * payload_at s 0 < work
lines_fit s t work e = let w = walked s t work e in omega (arith, sheet_reads s t w.end w.walks, w.enough)

-- THEOREM: the number of an accepted sheet's lines has 16 bits
pub lines_few : (s t : List ℕ) (work : ℕ) → checked s t work ≡ Accepted → payload_at s 0 < 65536
lines_few s t work e = let w = walked s t work e in omega (arith, sheet_reads s t w.end w.walks, w.short)
