-- On an accepted sheet no start in the text is cut, and no half of a literal's m.
use mathlib.Core.Path.{◌≡◌, refl, ap, ◌∙◌}
use mathlib.Core.Bool.{Bool, true, false}
use mathlib.Core.List.{List, [], ◌∷◌}
use Prim.Native.Nat.{ℕ, zero, suc, ◌+◌, ◌≤◌, ◌<◌}
use native.Mathlib.Omega.{arith}
use borrow.Author.Tests.{eqb-true, ltb-true, ltb-false}
use lib.Dec.{ltb, eqb}
use lib.ListN.{length}
use Rattle.recorder.specs.Word.{both, kind_at, payload_at, next, range_at}
use Rattle.recorder.specs.Recorder.{Recorder}
use Rattle.recorder.proofs.Bools.{both_left, both_right}
use Rattle.sheet.specs.declared.form.Offence.TheVariants.{BadWord}
use Rattle.std.specs.Prelude.{Ok}
use Rattle.sheet.specs.Check.{Accepted}
use Rattle.sheet.specs.Form
use Rattle.sheet.specs.Check.{checked}
use Rattle.sheet.specs.Tree.{ProgramLine, items_at, line_at, behind_line, program_at}
use Rattle.sheet.proofs.Walks.{pick_behind}
use Rattle.walk.proofs.Lines.{then_first, line_fits, long_text}
use Rattle.walk.proofs.Within.{walked}
use Rattle.walk.proofs.Accepted.{word_ends_at, high_ends_at}
use Rattle.rules.specs.Program.{Lines, compile_line, first_line}
use Rattle.rules.proofs.SheetWalk.{two_parts}
use Rattle.bounds.specs.Uncut.{line_starts, bases_taken, UncutLine, UncutLines, UncutLiteral}
use Rattle.bounds.proofs.SheetSize.{line_takes}

module _ (s : List ℕ) where
  pub word_taken : (k n p q : ℕ) → Form.take_word s k n p ≡ Ok q → (kind_at s p ≡ k) × (payload_at s p < n)
  unfolding Form.take_word
  word_taken k n p q e =
      let a = eqb (kind_at s p) k in
      let b = ltb (payload_at s p) n in
      let h = (pick_behind (both a b) (next s p) q (BadWord p) e).0 in
      (eqb-true _ _ (both_left a b h), ltb-true _ _ (both_right a b h))

  -- the halves of a literal's m
  high_taken : (e p q : ℕ) → Form.high_form s e p ≡ Ok q → (kind_at s p ≡ 11) × (payload_at s p < 65536)
  unfolding Form.high_form
  high_taken e p q h = let u = then_first _ (Form.take_word s 11 65536 p) _ q refl h in word_taken 11 65536 p u.0 u.1

  low_taken : (e p q : ℕ) → Form.low_form s e p ≡ Ok q → (kind_at s p ≡ 11) × (payload_at s p < 65536)
  unfolding Form.low_form
  low_taken e p q h = let u = then_first _ (Form.take_word s 11 65536 p) _ q refl h in word_taken 11 65536 p u.0 u.1

  -- THEOREM: of a literal that the form takes, neither half of m is cut
  pub literal_uncut : (at q : ℕ) → Form.number_form s at ≡ Ok q → UncutLiteral s at
  unfolding Form.number_form
  literal_uncut at q e =
      let k = payload_at s at in
      let h = next s at in
      let l = next s h in
      let u = two_parts (Form.take_word s 10 257 at) (λ p. Form.then (Form.high_form s k p) (λ r. Form.low_form s k r)) h q (word_ends_at s 10 257 at) e in
      let v = two_parts (Form.high_form s k h) (λ r. Form.low_form s k r) l q (high_ends_at s k h) u.1 in
      let x = high_taken k h l v.0 in
      let y = low_taken k l q v.1 in
      record { kinds = ((word_taken 10 257 at h u.0).0, x.0, y.0); high = x.1; low = y.1; exact = omega arith }

  -- THEOREM: a range's start and end are places that `UncutLine` speaks of, and so is the place behind its start
  pub range_places : (p : ℕ) → ((range_at s p).start < 4096) × ((range_at s p).end < 4096)
  range_places p = (omega arith, omega arith)

-- THEOREM: the text of an accepted sheet has at most 65,536 units
pub text_short : (s t : List ℕ) (work : ℕ) → checked s t work ≡ Accepted → length t ≤ 65536
text_short s t work e = go (ltb 65536 (length t)) refl
  where
    go : (b : Bool) → ltb 65536 (length t) ≡ b → length t ≤ 65536
    go true h =
        let f = long_text s t work (walked s t work e).short (ltb-true 65536 (length t) h) in
        let z : ◌≡◌ {A = ℕ} 0 1 = cc in absurd (omega arith)
    go false h = ltb-false 65536 (length t) h

module _ (s t : List ℕ) (short : length t ≤ 65536) where
  line_short : (base p q : ℕ) → Form.line_form s t base p ≡ Ok q → payload_at s p < 4096
  unfolding Form.line_form Form.line_head
  line_short base p q e =
      let u = then_first _ (Form.line_head s t base p) _ q refl e in
      let v = then_first _ (Form.take_word s 16 4096 p) _ u.0 refl u.1 in
      (word_taken s 16 4096 p v.0 v.1).1

  pub line_uncut : (base p q : ℕ) → Form.line_form s t base p ≡ Ok q → UncutLine t base (payload_at s p)
  line_uncut base p q e =
      let h : base + payload_at s p ≤ length t = line_fits s t base p q (Form.line_form s t base p) refl e in
      record { short = line_short base p q e; within = h; exact = λ n k. omega arith }

  lines_uncut : (n base p q : ℕ) → Form.lines_form s t n base p ≡ Ok q → UncutLines t base (items_at s (line_at s) (behind_line s) n p)
  unfolding Form.lines_form items_at
  lines_uncut zero base p q e = tt
  lines_uncut (suc n) base p q e =
      let b = base + payload_at s p in
      let x = behind_line s p in
      let u = two_parts (Form.line_form s t base p) (λ r. Form.lines_form s t n b r) x q (line_takes s t base p).walk_ends e in
      (line_uncut base p x u.0, lines_uncut n b x q u.1)

  sheet_uncut : (q : ℕ) → Form.sheet_form s t ≡ Ok q → UncutLines t 0 (program_at s)
  unfolding Form.sheet_form program_at
  sheet_uncut q e =
      let n = payload_at s 0 in
      lines_uncut n 0 (next s 0) q (two_parts (Form.take_word s 15 16777216 0) (λ p. Form.lines_form s t n 0 p) (next s 0) q (word_ends_at s 15 16777216 0) e).1

-- THEOREM: the lines of an accepted sheet, begun where those before them end, stand within the text, and no place in them is cut
pub starts_uncut : (s t : List ℕ) (work : ℕ) → checked s t work ≡ Accepted → UncutLines t 0 (program_at s)
starts_uncut s t work e = let w = walked s t work e in sheet_uncut s t (text_short s t work e) w.end w.walks

module _ {S : Type 0} (R : Recorder S) (t : List ℕ) where
  -- the base that a line leaves is where it ends
  pub base_plain : (l : ProgramLine) (c : Lines S) → UncutLine t c.base l.length → (compile_line R t l c).base ≡ c.base + l.length
  unfolding compile_line
  base_plain l c h = h.exact l.length (omega arith)

  pub bases_plain : (ls : List ProgramLine) (c : Lines S) → UncutLines t c.base ls → bases_taken R t ls c ≡ line_starts c.base ls
  unfolding bases_taken line_starts
  bases_plain [] c h = refl
  bases_plain (l ∷ ls) c h =
      let e = base_plain l c h.0 in
      let k : UncutLines t (compile_line R t l c).base ls = rw e h.1 in
      let f : bases_taken R t ls (compile_line R t l c) ≡ line_starts (c.base + l.length) ls = bases_plain ls (compile_line R t l c) k ∙ ap (λ (b : ℕ). line_starts b ls) e in
      rw f

-- THEOREM: each line of an accepted sheet is compiled with the plain sum of the lengths before it, over any recorder
pub bases_uncut : (s t : List ℕ) (work : ℕ) → checked s t work ≡ Accepted → {S : Type 0} (R : Recorder S) (x : S)
    → bases_taken R t (program_at s) (first_line R t x) ≡ line_starts 0 (program_at s)
bases_uncut s t work e R x = bases_plain R t (program_at s) (first_line R t x) (starts_uncut s t work e)
