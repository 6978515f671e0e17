-- Two tests joined, and a test that cannot be.
use mathlib.Core.Path.{◌≡◌, refl, sym}
use mathlib.Core.Bool.{Bool, true, false}
use Prim.Native.Nat.{ℕ}
use native.Mathlib.Omega.{arith}
use Rattle.recorder.specs.Word.{both}

pub true_not_false : {A : Type 0} → true ≡ false → A
true_not_false e = absurd (let z : ◌≡◌ {A = ℕ} 0 1 = cc in omega arith)

pub both_left : (a b : Bool) → both a b ≡ true → a ≡ true
both_left true b e = refl
both_left false b e = e

pub both_right : (a b : Bool) → both a b ≡ true → b ≡ true
both_right true b e = e
both_right false b e = true_not_false (sym e)

pub both_parts : (a b : Bool) → both a b ≡ true → (a ≡ true) × (b ≡ true)
both_parts a b e = (both_left a b e, both_right a b e)

pub both_false : (a : Bool) → both a false ≡ false
both_false true = refl
both_false false = refl
