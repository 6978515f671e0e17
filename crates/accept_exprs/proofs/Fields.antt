-- Laws of the direct code: a node's head, own range and fields make the node, and an item alone is a field.
use mathlib.Core.Path.{◌≡◌, refl, sym, ap, ◌∙◌}
use mathlib.Core.Bool.{Bool, true, false}
use mathlib.Core.List.{List, [], ◌∷◌}
use Prim.Native.Nat.{ℕ, zero, suc, ◌-◌, ◌≤◌, ◌<◌}
use native.Mathlib.Omega.{arith}
use borrow.Author.Tests.{eqb-true, lt-ltb}
use lib.Dec.{ltb, eqb}
use lib.ListN.{length}
use Rattle.recorder.specs.Word.{pick, both, either, kind_at, payload_at, next}
use Rattle.sheet.specs.declared.form.Item.{Item}
use Rattle.sheet.specs.declared.form.Item.TheVariants.{Nothing}
use Rattle.sheet.specs.declared.form.Times.TheVariants.{NonEmpty}
use Rattle.sheet.specs.declared.form.Sort.{Sort}
use Rattle.sheet.specs.declared.form.Sort.TheVariants.{Expr, Place, InputPlace, Stmt}
use Rattle.sheet.specs.declared.form.Field.{Field}
use Rattle.sheet.specs.declared.form.Offence.TheVariants.{BadWord, TooDeep}
use Rattle.sheet.specs.Walk.{Walk}
use Rattle.std.specs.Prelude.{Ok, Err}
use Rattle.sheet.specs.declared.form.Line.{Line}
use Rattle.sheet.specs.Table.{one, non_empty, expr_fields, own_range, node_kind, may_stand}
use Rattle.sheet.specs.Form.{then, take_word, range_form, count_form, non_empty_form, head_form, repeat_form, list_form, item_form, pair_form, times_form, field_form, fields_form, body_form, node_form}
use Rattle.walk.proofs.Cycle.{later, head_moves}
use Rattle.walk.proofs.Steps.{Ends, then_ends, word_ends, range_ends, item_ends, node_ends}
use Rattle.walk.proofs.Lines.{then_behind}

module _ (s t : List ℕ) (line : Line) where
  -- an item alone
  pub one_is : (child : Sort → ℕ → Walk) (a : Item) (p : ℕ) → field_form s t line child (one a) p ≡ item_form s t line child a p
  unfolding field_form times_form pair_form item_form
  one_is child a p = then_behind (item_form s t line child a p)

  pub last_is : (child : Sort → ℕ → Walk) (f : Field) (p : ℕ) → fields_form s t line child (f ∷ []) p ≡ field_form s t line child f p
  unfolding fields_form
  last_is child f p = then_behind (field_form s t line child f p)

  -- an expression's own range holds no node
  pub own_is : (child child' : Sort → ℕ → Walk) (k p : ℕ) → item_form s t line child (own_range Expr k) p ≡ item_form s t line child' (own_range Expr k) p
  unfolding item_form
  own_is child child' zero p = refl
  own_is child child' (suc zero) p = refl
  own_is child child' (suc (suc k)) p = refl

  pub expr_deep : (left p : ℕ) → left ≡ 0 → node_form s t line left Expr p ≡ then (head_form s Expr p) (λ h. Err (TooDeep p))
  unfolding node_form
  expr_deep left p e = rw e

  pub expr_is : (left p : ℕ) → (left ≡ 0 → ⊥) → node_form s t line left Expr p
      ≡ then (head_form s Expr p) (λ h. then (item_form s t line (node_form s t line 0) (own_range Expr (payload_at s p)) h)
      (λ q. fields_form s t line (node_form s t line (left - 1)) (expr_fields (payload_at s p)) q))
  unfolding node_form body_form
  expr_is zero p h = absurd (h refl)
  expr_is (suc left) p h = let e : suc left - 1 ≡ left = omega arith in rw e (go (head_form s Expr p))
    where
      go : (w : Walk) → then w (λ h. then (item_form s t line (node_form s t line left) (own_range Expr (payload_at s p)) h) (λ q. fields_form s t line (node_form s t line left) (expr_fields (payload_at s p)) q))
          ≡ then w (λ h. then (item_form s t line (node_form s t line 0) (own_range Expr (payload_at s p)) h) (λ q. fields_form s t line (node_form s t line left) (expr_fields (payload_at s p)) q))
      go (Ok h) = ap (λ (w : Walk). then w (λ q. fields_form s t line (node_form s t line left) (expr_fields (payload_at s p)) q)) (own_is (node_form s t line left) (node_form s t line 0) (payload_at s p) h)
      go (Err o) = refl

  -- a count of at least one, and so many
  pub some_is : (f : ℕ → Walk) (at p : ℕ) → non_empty_form s at ≡ Ok p → times_form s t line NonEmpty f at ≡ repeat_form s t line f (payload_at s at) p
  unfolding times_form list_form non_empty_form
  some_is f at p e = go (count_form s at) (eqb (payload_at s at) 0) e
    where
      go : (w : Walk) (b : Bool) → then w (λ q. pick b (Err (BadWord at)) (Ok q)) ≡ Ok p
          → then (then w (λ q. pick b (Err (BadWord at)) (Ok q))) (λ q. then w (λ r. repeat_form s t line f (payload_at s at) r)) ≡ repeat_form s t line f (payload_at s at) p
      go (Ok q) true h = let z : ◌≡◌ {A = ℕ} 0 1 = cc in absurd (omega arith)
      go (Ok q) false h = let z : q ≡ p = cc in ap (λ (r : ℕ). repeat_form s t line f (payload_at s at) r) z
      go (Err o) b h = let z : ◌≡◌ {A = ℕ} 0 1 = cc in absurd (omega arith)

  pub field_some : (child : Sort → ℕ → Walk) (a : Item) (at p : ℕ) → non_empty_form s at ≡ Ok p
      → field_form s t line child (non_empty a) at ≡ repeat_form s t line (pair_form s t line child a Nothing) (payload_at s at) p
  unfolding field_form
  field_some child a at p e = some_is (pair_form s t line child a Nothing) at p e

  pub operator_ends : (n p : ℕ) → Ends s p (then (range_form s line p) (λ q. take_word s 9 n q))
  operator_ends n p = then_ends s p _ _ (range_ends s line p) (λ q. word_ends s 9 n q)

  -- behind an expression's head and own range: it began within the sheet, and the place is past its beginning
  pub past_own : (at h k q : ℕ) → head_form s Expr at ≡ Ok h → item_form s t line (node_form s t line 0) (own_range Expr k) h ≡ Ok q → (at < length s) × (at < q)
  past_own at h k q a b =
      let x = head_moves s Expr at h _ refl a in
      let y : h ≤ q = later s h q _ _ (item_ends s t line (node_form s t line 0) (node_ends s t line 0) (own_range Expr k) h) refl b in
      (x.0, omega (arith, x.1, y))

  -- a place to store is an expression of few cases
  abbrev head_by : Bool → ℕ → Walk
  head_by b p = pick (both (eqb (kind_at s p) 33) b) (Ok (next s p)) (Err (BadWord p))

  low : (k : ℕ) (a b c d : Bool) → (a ≡ true → k ≡ 0) → (b ≡ true → k ≡ 4) → (c ≡ true → k ≡ 7) → (d ≡ true → k ≡ 9) → either a (either b (either c d)) ≡ true → ltb k 10 ≡ true
  low k true b c d e f g h z = lt-ltb k 10 (omega (arith, e refl))
  low k false true c d e f g h z = lt-ltb k 10 (omega (arith, f refl))
  low k false false true d e f g h z = lt-ltb k 10 (omega (arith, g refl))
  low k false false false true e f g h z = lt-ltb k 10 (omega (arith, h refl))
  low k false false false false e f g h z = let y : ◌≡◌ {A = ℕ} 0 1 = cc in absurd (omega arith)

  place_low : (k : ℕ) → may_stand Place k ≡ true → ltb k 10 ≡ true
  place_low k e = low k (eqb k 0) false (eqb k 7) (eqb k 9) (eqb-true k 0) (λ z. let y : ◌≡◌ {A = ℕ} 0 1 = cc in absurd (omega arith)) (eqb-true k 7) (eqb-true k 9) e

  input_low : (k : ℕ) → may_stand InputPlace k ≡ true → ltb k 10 ≡ true
  input_low k e = low k (eqb k 0) (eqb k 4) (eqb k 7) (eqb k 9) (eqb-true k 0) (eqb-true k 4) (eqb-true k 7) (eqb-true k 9) e

  pub sort_is : (c : Sort) (left p : ℕ) → node_kind c ≡ 33 → may_stand c (payload_at s p) ≡ true → node_form s t line left Expr p ≡ node_form s t line left c p
  unfolding node_form body_form
  sort_is Expr left p h e = refl
  sort_is Place zero p h e = ap (λ (b : Bool). then (head_by b p) (λ q. Err (TooDeep p))) (place_low (payload_at s p) e ∙ sym e)
  sort_is Place (suc left) p h e = ap (λ (b : Bool). then (head_by b p) (λ q. body_form s t line (node_form s t line left) Expr (payload_at s p) q)) (place_low (payload_at s p) e ∙ sym e)
  sort_is InputPlace zero p h e = ap (λ (b : Bool). then (head_by b p) (λ q. Err (TooDeep p))) (input_low (payload_at s p) e ∙ sym e)
  sort_is InputPlace (suc left) p h e = ap (λ (b : Bool). then (head_by b p) (λ q. body_form s t line (node_form s t line left) Expr (payload_at s p) q)) (input_low (payload_at s p) e ∙ sym e)
  sort_is Stmt left p h e = absurd (omega (arith, h))
