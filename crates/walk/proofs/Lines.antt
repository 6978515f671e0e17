-- One law for each way out of the functions over lines, the whole sheet and the whole input.
use mathlib.Core.Path.{◌≡◌, refl, sym, ◌∙◌}
use mathlib.Core.List.{List}
use Prim.Native.Nat.{ℕ, zero, suc, ◌+◌, ◌-◌, ◌≤◌, ◌<◌}
use native.Mathlib.Omega.{arith}
use borrow.Author.Tests.{lt-ltb, le-ltb, leb-true}
use lib.Dec.{leb}
use lib.ListN.{length}
use Rattle.recorder.specs.Word.{payload_at}
use Rattle.sheet.specs.declared.form.Item.TheVariants.{Nothing, Node}
use Rattle.sheet.specs.declared.form.Sort.{Sort}
use Rattle.sheet.specs.declared.form.Offence.TheVariants.{BadLength}
use Rattle.sheet.specs.Walk.{Walk}
use Rattle.std.specs.Prelude.{Ok, Err}
use Rattle.sheet.specs.declared.form.Line.{Line}
use Rattle.sheet.specs.declared.form.Refusal.TheVariants.{TooLong}
use Rattle.sheet.specs.Form.{then, take_word, item_form, pair_form, repeat_form, list_form, line_head, line_form, lines_form}
use Rattle.sheet.specs.Check.{checked}
use Rattle.sheet.proofs.Walks.{then_go, pick_yes, pick_behind, either_no}

-- a list of nodes is a list of pairs of a node and nothing
pub then_behind : (w : Walk) → then w (λ p. Ok p) ≡ w
then_behind (Ok p) = refl
then_behind (Err o) = refl

pub then_same : (w : Walk) (f g : ℕ → Walk) → ((q : ℕ) → f q ≡ g q) → then w f ≡ then w g
then_same (Ok q) f g h = h q
then_same (Err o) f g h = refl

module _ (s t : List ℕ) (line : Line) where
  pub alone : (child : Sort → ℕ → Walk) (c : Sort) (p : ℕ) → pair_form s t line child (Node c) Nothing p ≡ child c p
  unfolding pair_form item_form
  alone child c p = then_behind (child c p)

  repeat_same : (f g : ℕ → Walk) → ((p : ℕ) → f p ≡ g p) → (n p : ℕ) → repeat_form s t line f n p ≡ repeat_form s t line g n p
  unfolding repeat_form
  repeat_same f g h zero p = refl
  repeat_same f g h (suc n) p = rw (h p) (then_same (g p) (λ q. repeat_form s t line f n q) (λ q. repeat_form s t line g n q) (repeat_same f g h n))

  list_same : (f g : ℕ → Walk) → ((p : ℕ) → f p ≡ g p) → (p : ℕ) → list_form s t line f p ≡ list_form s t line g p
  unfolding list_form
  list_same f g h p =
      then_same (take_word s 4 16777216 p) (λ q. repeat_form s t line f (payload_at s p) q) (λ q. repeat_form s t line g (payload_at s p) q) (repeat_same f g h (payload_at s p))

  pub node_list : (child : Sort → ℕ → Walk) (c : Sort) (p : ℕ) (w : Walk) → w ≡ list_form s t line (pair_form s t line child (Node c) Nothing) p → w ≡ list_form s t line (child c) p
  node_list child c p w e = e ∙ list_same (pair_form s t line child (Node c) Nothing) (child c) (alone child c) p

-- what came to an end had a first part that did
pub then_first : (v x : Walk) (f : ℕ → Walk) (q : ℕ) → v ≡ then x f → v ≡ Ok q → (p : ℕ) × (x ≡ Ok p) × (f p ≡ Ok q)
then_first v (Ok p) f q e h = (p, refl, sym e ∙ h)
then_first v (Err o) f q e h = let y : Err o ≡ Ok q = sym e ∙ h in let z : ◌≡◌ {A = ℕ} 0 1 = cc in absurd (omega arith)

module _ (s t : List ℕ) where
  head_fits : (base p q : ℕ) (v : Walk) → v ≡ line_head s t base p → v ≡ Ok q → base + payload_at s p ≤ length t
  unfolding line_head
  head_fits base p q v e h =
      let a = then_first v (take_word s 16 4096 p) _ q e h in leb-true _ _ (pick_behind (leb (base + payload_at s p) (length t)) a.0 q (BadLength p) a.2).0

  pub line_fits : (base p q : ℕ) (v : Walk) → v ≡ line_form s t base p → v ≡ Ok q → base + payload_at s p ≤ length t
  unfolding line_form
  line_fits base p q v e h = let a = then_first v (line_head s t base p) _ q e h in head_fits base p a.0 (line_head s t base p) refl a.1

  pub lines_step : (left base p q len : ℕ) (v z : Walk) → 0 < left → v ≡ line_form s t base p → v ≡ Ok q → len ≡ payload_at s p
      → lines_form s t left base p ≡ z → lines_form s t (left - 1) (base + len) q ≡ z
  unfolding lines_form
  lines_step zero base p q len v z h a b e k = absurd (omega arith)
  lines_step (suc n) base p q len v z h a b e k =
      let m : suc n - 1 ≡ n = omega arith in
      rw (m, e) (then_go v (line_form s t base p) _ q (λ r. lines_form s t n (base + payload_at s p) r) a b refl ∙ k)

module _ (s t : List ℕ) (work : ℕ) where
  pub long_text : length s ≤ 65536 → 65536 < length t → Err TooLong ≡ checked s t work
  unfolding checked
  long_text h k = pick_yes _ _ _ _ (sym (either_no _ _ _ (le-ltb 65536 (length s) h) (sym (lt-ltb 65536 (length t) k)))) refl
