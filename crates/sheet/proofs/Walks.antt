-- Laws of `then` and `pick`: what a function that returns early, or by a test, has computed.
use mathlib.Core.Path.{◌≡◌, refl, sym, ◌∙◌}
use mathlib.Core.Bool.{Bool, true, false}
use Prim.Native.Nat.{ℕ}
use native.Mathlib.Omega.{arith}
use Rattle.recorder.specs.Word.{pick, choose, both, either}
use Rattle.sheet.specs.declared.form.Offence.{Offence}
use Rattle.sheet.specs.Walk.{Walk}
use Rattle.std.specs.Prelude.{Ok, Err}
use Rattle.sheet.specs.Form.{then}

-- a walk that offends ends what goes on behind it
pub then_stop : (w x : Walk) (o : Offence) (f : ℕ → Walk) → w ≡ x → w ≡ Err o → w ≡ then x f
then_stop w x o f e h = rw (← e, h)

-- a walk that ends at p goes on at p
pub then_go : (w x y : Walk) (p : ℕ) (f : ℕ → Walk) → w ≡ x → w ≡ Ok p → y ≡ f p → y ≡ then x f
then_go w x y p f e h g = rw (← e, h) g

-- a test that let the walk go on
pub pick_behind : (b : Bool) (p q : ℕ) (o : Offence) → pick b (Ok p) (Err o) ≡ Ok q → (b ≡ true) × (p ≡ q)
pick_behind true p q o e = (refl, cc)
pick_behind false p q o e = let z : ◌≡◌ {A = ℕ} 0 1 = cc in absurd (omega arith)

-- a test that a function answered, and what the answer was
pub told : (f a x : Bool) → f ≡ a → f ≡ x → a ≡ x
told f a x e h = sym e ∙ h

pub either_yes : (a b : Bool) → a ≡ true → true ≡ either a b
either_yes a b e = rw e

pub either_no : (a b g : Bool) → a ≡ false → g ≡ b → g ≡ either a b
either_no a b g e h = rw e h

pub both_no : (a b : Bool) → a ≡ false → false ≡ both a b
both_no a b e = rw e

pub both_go : (a b g : Bool) → a ≡ true → g ≡ b → g ≡ both a b
both_go a b g e h = rw e h

module _ {A : Type 0} where
  pub pick_yes : (b : Bool) (x y z : A) → b ≡ true → z ≡ x → z ≡ pick b x y
  pick_yes b x y z e h = rw e h

  pub pick_no : (b : Bool) (x y z : A) → b ≡ false → z ≡ y → z ≡ pick b x y
  pick_no b x y z e h = rw e h

pub choose_yes : (b : Bool) (f g : ℕ → Walk) (p : ℕ) (w : Walk) → b ≡ true → w ≡ f p → w ≡ choose b f g p
choose_yes b f g p w e h = rw e h

pub choose_no : (b : Bool) (f g : ℕ → Walk) (p : ℕ) (w : Walk) → b ≡ false → w ≡ g p → w ≡ choose b f g p
choose_no b f g p w e h = rw e h
