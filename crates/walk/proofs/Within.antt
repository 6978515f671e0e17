-- What is read of a sheet stands within it: the places that the form's definitions name.
use mathlib.Core.Path.{◌≡◌, refl, sym}
use mathlib.Core.Bool.{Bool, true, false}
use mathlib.Core.List.{List}
use Prim.Native.Nat.{ℕ, zero, suc, ◌+◌, ◌≤◌, ◌<◌}
use native.Mathlib.Omega.{arith}
use borrow.Author.Tests.{ltb-false}
use lib.Dec.{ltb, leb}
use lib.ListN.{length}
use Rattle.recorder.specs.Word.{pick, either, payload_at}
use Rattle.sheet.specs.declared.form.Sort.{Sort}
use Rattle.sheet.specs.declared.form.Sort.TheVariants.{Stmt}
use Rattle.sheet.specs.declared.form.Offence.{Offence}
use Rattle.sheet.specs.declared.form.Offence.TheVariants.{BadWord, TooDeep, BadLength, Fseek}
use Rattle.sheet.specs.Walk.{Walk}
use Rattle.std.specs.Prelude.{Ok, Err}
use Rattle.sheet.specs.declared.form.Line.{Line}
use Rattle.sheet.specs.Check.{Accepted}
use Rattle.sheet.specs.declared.form.Refusal.TheVariants.{TooLong, Surrogate, WorkTooShort}
use Rattle.sheet.specs.Table.{is_fseek}
use Rattle.sheet.specs.Check.{offence_place, form_checked, is_too_long, has_surrogate, checked}
use Rattle.sheet.specs.CheckAnswer.{answer_place}
use Rattle.sheet.specs.Form.{then, take_word, head_form, fseek_form, body_form, node_form, line_of, line_head, line_form, end_form, lines_form, sheet_form}
use Rattle.walk.proofs.Steps.{Steps, Ends, here, pick_ends, back_ends, then_ends, from_later, behind_ends, word_ends, label_ends, list_ends, body_ends_lem, node_ends}
use Rattle.walk.proofs.Cycle.{head_moves}
use Rattle.walk.proofs.Lines.{then_first}

pick_second : (b : Bool) (o : Offence) (p q : ℕ) → pick b (Err o) (Ok p) ≡ Ok q → p ≡ q
pick_second true o p q e = let z : ◌≡◌ {A = ℕ} 0 1 = cc in absurd (omega arith)
pick_second false o p q e = cc

module _ (s t : List ℕ) (line : Line) where
  -- THEOREM: an accepted statement or expression is not empty, and ends within the sheet
  pub node_within : (left : ℕ) (c : Sort) (p q : ℕ) → node_form s t line left c p ≡ Ok q → (p < q) × (q ≤ length s)
  unfolding node_form
  node_within zero c p q e =
      let a = then_first (node_form s t line zero c p) (head_form s c p) (λ r. Err (TooDeep p)) q refl e in
      let y : Err (TooDeep p) ≡ Ok q = a.2 in
      let z : ◌≡◌ {A = ℕ} 0 1 = cc in absurd (omega arith)
  node_within (suc left) c p q e =
      let a = then_first (node_form s t line (suc left) c p) (head_form s c p) (λ r. then (fseek_form s c p r) (λ u. body_form s t line (node_form s t line left) c (payload_at s p) u)) q refl e in
      let m = head_moves s c p a.0 (head_form s c p) refl a.1 in
      let b = then_first (Ok q) (fseek_form s c p a.0) (λ u. body_form s t line (node_form s t line left) c (payload_at s p) u) q (sym a.2) refl in
      let i : a.0 ≡ b.0 = pick_second (is_fseek c (payload_at s p)) (Fseek p) a.0 b.0 b.1 in
      let g : Ends s b.0 (Ok q) = rw b.2 at (body_ends_lem s t line (node_form s t line left) (node_ends s t line left) c (payload_at s p) b.0) in
      let l : b.0 ≤ q = g.steps.later in
      let n : b.0 ≤ length s → q ≤ length s = g.steps.inside in
      (omega (arith, m.1, i, l), n (omega (arith, m.0, m.1, i)))

  -- THEOREM: a refused one offends at or behind its own word, and within the sheet if that word's place is
  pub node_offence : (left : ℕ) (c : Sort) (p : ℕ) (o : Offence) → node_form s t line left c p ≡ Err o → Steps s p (offence_place o)
  node_offence left c p o e = let g : Ends s p (Err o) = rw e at (node_ends s t line left c p) in g.steps

module _ (s t : List ℕ) where
  pub head_ends : (base p : ℕ) → Ends s p (line_head s t base p)
  unfolding line_head
  head_ends base p = back_ends s p _ _ (word_ends s 16 4096 p) (λ q h. pick_ends s p (leb (base + payload_at s p) (length t)) _ _ (behind_ends s p q h) (record { steps = here s p }))

  pub line_ends : (base p : ℕ) → Ends s p (line_form s t base p)
  unfolding line_form
  line_ends base p =
      then_ends s p _ _ (head_ends base p) (λ q. then_ends s q _ _ (label_ends s (line_of s t base p) q)
      (λ r. list_ends s t (line_of s t base p) (node_form s t (line_of s t base p) 64 Stmt) (node_ends s t (line_of s t base p) 64 Stmt) r))

  pub end_ends : (base p : ℕ) → p ≤ length s → Ends s p (end_form s t base p)
  unfolding end_form
  end_ends base p h =
      pick_ends s p (ltb p (length s)) _ _ (record { steps = here s p })
      (pick_ends s p (ltb base (length t)) _ _ (record { steps = record { later = h; inside = λ k. omega arith } }) (behind_ends s p p (here s p)))

  pub lines_ends : (n base p : ℕ) → p ≤ length s → Ends s p (lines_form s t n base p)
  unfolding lines_form
  lines_ends zero base p h = end_ends base p h
  lines_ends (suc n) base p h = back_ends s p _ _ (line_ends base p) (λ q k. from_later s p q _ k (lines_ends n (base + payload_at s p) q (k.inside h)))

  pub sheet_ends : Ends s 0 (sheet_form s t)
  unfolding sheet_form
  sheet_ends = back_ends s 0 _ _ (word_ends s 15 16777216 0) (λ q k. from_later s 0 q _ k (lines_ends (payload_at s 0) 0 q (k.inside (omega arith))))

  end_last : (base p q : ℕ) → end_form s t base p ≡ Ok q → length s ≤ q
  unfolding end_form
  end_last base p q e = go (ltb p (length s)) (ltb base (length t)) refl e
    where
      go : (b d : Bool) → ltb p (length s) ≡ b → pick b (Err (BadWord p)) (pick d (Err (BadLength (length s))) (Ok p)) ≡ Ok q → length s ≤ q
      go true d f k = let z : ◌≡◌ {A = ℕ} 0 1 = cc in absurd (omega arith)
      go false true f k = let z : ◌≡◌ {A = ℕ} 0 1 = cc in absurd (omega arith)
      go false false f k = let z : p ≡ q = cc in let l : length s ≤ p = ltb-false _ _ f in omega arith

  lines_last : (n base p q : ℕ) → lines_form s t n base p ≡ Ok q → length s ≤ q
  unfolding lines_form
  lines_last zero base p q e = end_last base p q e
  lines_last (suc n) base p q e =
      let a = then_first (lines_form s t (suc n) base p) (line_form s t base p) (λ r. lines_form s t n (base + payload_at s p) r) q refl e in
      lines_last n (base + payload_at s p) a.0 q a.2

  -- THEOREM: an accepted sheet is read to its last word, and no further
  pub sheet_within : (p : ℕ) → sheet_form s t ≡ Ok p → p ≡ length s
  unfolding sheet_form
  sheet_within p e =
      let a = then_first (sheet_form s t) (take_word s 15 16777216 0) (λ q. lines_form s t (payload_at s 0) 0 q) p refl e in
      let l : length s ≤ p = lines_last (payload_at s 0) 0 a.0 p a.2 in
      let g : Ends s 0 (Ok p) = rw e at sheet_ends in
      let k : p ≤ length s = g.steps.inside (omega arith) in
      omega arith

  -- THEOREM: a refused sheet offends within it, or at its end
  pub sheet_offence : (o : Offence) → sheet_form s t ≡ Err o → offence_place o ≤ length s
  sheet_offence o e = let g : Ends s 0 (Err o) = rw e at sheet_ends in g.steps.inside (omega arith)

  form_place : (w : Walk) → Ends s 0 w → answer_place (form_checked w) ≤ length s
  form_place (Ok p) g = omega arith
  form_place (Err o) g = g.steps.inside (omega arith)

  -- THEOREM: the place of every answer is within the sheet, or at its end
  pub place_within : (work : ℕ) → answer_place (checked s t work) ≤ length s
  unfolding checked
  place_within work = go (is_too_long s t) (has_surrogate t) (ltb work (length s))
    where
      go : (a b d : Bool) → answer_place (pick a (Err TooLong) (pick b (Err Surrogate) (pick d (Err WorkTooShort) (form_checked (sheet_form s t))))) ≤ length s
      go true b d = omega arith
      go false true d = omega arith
      go false false true = omega arith
      go false false false = form_place (sheet_form s t) sheet_ends

-- of an accepted sheet: it is not too long, its walk comes to an end, and work is long enough
pub record Walked (s t : List ℕ) (work : ℕ) : Type 0 where
  pub short : length s ≤ 65536
  pub end : ℕ
  pub walks : sheet_form s t ≡ Ok end
  pub enough : length s ≤ work

pub walked : (s t : List ℕ) (work : ℕ) → checked s t work ≡ Accepted → Walked s t work
unfolding checked
walked s t work e = go (ltb 65536 (length s)) (ltb 65536 (length t)) (has_surrogate t) (ltb work (length s)) (sheet_form s t) refl refl refl e
  where
    go : (x y b d : Bool) (w : Walk) → ltb 65536 (length s) ≡ x → ltb work (length s) ≡ d → sheet_form s t ≡ w → pick (either x y) (Err TooLong) (pick b (Err Surrogate) (pick d (Err WorkTooShort) (form_checked w))) ≡ Accepted → Walked s t work
    go true y b d w u f h g = let z : ◌≡◌ {A = ℕ} 0 1 = cc in absurd (omega arith)
    go false true b d w u f h g = let z : ◌≡◌ {A = ℕ} 0 1 = cc in absurd (omega arith)
    go false false true d w u f h g = let z : ◌≡◌ {A = ℕ} 0 1 = cc in absurd (omega arith)
    go false false false true w u f h g = let z : ◌≡◌ {A = ℕ} 0 1 = cc in absurd (omega arith)
    go false false false false (Ok q) u f h g = record { short = ltb-false 65536 (length s) u; end = q; walks = h; enough = ltb-false work (length s) f }
    go false false false false (Err o) u f h g = let z : ◌≡◌ {A = ℕ} 0 1 = cc in absurd (omega arith)
