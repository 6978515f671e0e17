-- One law for each way out of the functions that walk the sheet, and what makes the remaining words fall.
use mathlib.Core.Path.{◌≡◌, refl, sym, ap, ◌∙◌}
use mathlib.Core.Bool.{Bool, true, false}
use mathlib.Core.List.{List}
use Prim.Native.Nat.{ℕ, zero, suc, ◌+◌, ◌-◌, ◌≤◌, ◌<◌}
use native.Mathlib.Omega.{arith}
use borrow.Author.Tests.{eqb-true, ltb-true, ltb-false, lt-ltb}
use lib.Dec.{ltb, eqb}
use lib.ListN.{length, get_or, get_or-eq_default}
use Rattle.recorder.specs.Word.{both, kind_at, payload_at, next}
use Rattle.recorder.proofs.Bools.{both_left}
use Rattle.sheet.specs.declared.form.Sort.{Sort}
use Rattle.sheet.specs.declared.form.Sort.TheVariants.{Expr, Place, InputPlace, Stmt}
use Rattle.sheet.specs.declared.form.Offence.{Offence}
use Rattle.sheet.specs.declared.form.Offence.TheVariants.{BadWord}
use Rattle.sheet.specs.Walk.{Walk}
use Rattle.std.specs.Prelude.{Ok, Err}
use Rattle.sheet.specs.declared.form.Line.{Line}
use Rattle.sheet.specs.Table.{node_kind, may_stand}
use Rattle.sheet.specs.Form.{head_form, repeat_form}
use Rattle.sheet.proofs.Walks.{then_stop, then_go, pick_behind}
use Rattle.walk.proofs.Steps.{Ends}

-- a walk that came to an end came further
pub later : (s : List ℕ) (p q : ℕ) (w x : Walk) → Ends s p x → w ≡ x → w ≡ Ok q → p ≤ q
later s p q w x h e k = let z : x ≡ Ok q = sym e ∙ k in let y : Ends s p (Ok q) = rw z at h in y.steps.later

-- a head word that is good stands within the sheet
pub kind_inside : (s : List ℕ) (p k : ℕ) → 0 < k → kind_at s p ≡ k → p < length s
kind_inside s p k h e = go (ltb p (length s)) refl
  where
    go : (b : Bool) → ltb p (length s) ≡ b → p < length s
    go true f = ltb-true p (length s) f
    go false f = let z : get_or s p 0 ≡ 0 = get_or-eq_default s 0 (ltb-false p (length s) f) in let y : 0 ≡ k = rw z at e in absurd (omega arith)

node_kind_some : (c : Sort) → 0 < node_kind c
node_kind_some Expr = omega arith
node_kind_some Place = omega arith
node_kind_some InputPlace = omega arith
node_kind_some Stmt = omega arith

pub next_inside : (s : List ℕ) (p : ℕ) → p < length s → next s p ≡ p + 1
unfolding next
next_inside s p h = simp (lt-ltb p (length s) h)

-- behind a good head stands the next word
pub head_moves : (s : List ℕ) (c : Sort) (p q : ℕ) (w : Walk) → w ≡ head_form s c p → w ≡ Ok q → (p < length s) × (q ≡ p + 1)
head_moves s c p q w e h =
    let k : (both (eqb (kind_at s p) (node_kind c)) (may_stand c (payload_at s p)) ≡ true) × (next s p ≡ q) = pick_behind _ (next s p) q (BadWord p) (sym e ∙ h) in
    let i : p < length s = kind_inside s p (node_kind c) (node_kind_some c) (eqb-true _ _ (both_left _ (may_stand c (payload_at s p)) k.0)) in
    (i, sym k.1 ∙ next_inside s p i)

module _ (s t : List ℕ) (line : Line) where
  module _ (f : ℕ → Walk) where
    pub repeat_step : (n p e : ℕ) (v z : Walk) → 0 < n → v ≡ f p → v ≡ Ok e → repeat_form s t line f n p ≡ z → repeat_form s t line f (n - 1) e ≡ z
    unfolding repeat_form
    repeat_step zero p e v z h a b k = absurd (omega arith)
    repeat_step (suc n) p e v z h a b k = let m : suc n - 1 ≡ n = omega arith in rw m (then_go v (f p) (repeat_form s t line f n e) e (λ q. repeat_form s t line f n q) a b refl ∙ k)

    pub repeat_stop : (n p m q n₀ : ℕ) (v : Walk) (o : Offence) → 0 < n → v ≡ f p → v ≡ Err o → repeat_form s t line f n p ≡ repeat_form s t line f n₀ q → n₀ ≡ m
        → v ≡ repeat_form s t line f m q
    unfolding repeat_form
    repeat_stop zero p m q n₀ v o h a b k e = absurd (omega arith)
    repeat_stop (suc n) p m q n₀ v o h a b k e = then_stop v (f p) o (λ r. repeat_form s t line f n r) a b ∙ k ∙ ap (λ (i : ℕ). repeat_form s t line f i q) e

    pub repeat_end : (n p m q n₀ : ℕ) → n ≤ 0 → repeat_form s t line f n p ≡ repeat_form s t line f n₀ q → n₀ ≡ m → Ok p ≡ repeat_form s t line f m q
    unfolding repeat_form
    repeat_end zero p m q n₀ h k e = k ∙ ap (λ (i : ℕ). repeat_form s t line f i q) e
    repeat_end (suc n) p m q n₀ h k e = absurd (omega arith)
