-- What a computed test that holds says of its parts.
use Rattle.std.proofs.Common.{◌≡◌, ℕ, Bool, true, false, ◌⊎◌, sym, refl, ◌∙◌, inl, inr, arith}
use Rattle.recorder.specs.Word.{both, either}

pub no_one : {A : Type 0} → ◌≡◌ {A = Bool} false true → A
no_one e = let y : ◌≡◌ {A = ℕ} 0 1 = cc in absurd (omega arith)

pub not_both : (a b : Bool) → both a b ≡ false → b ≡ true → a ≡ false
not_both true b e f = no_one (sym e ∙ f)
not_both false b e f = refl

pub either_of : (a b : Bool) → either a b ≡ true → (a ≡ true) ⊎ (b ≡ true)
either_of true b e = inl e
either_of false b e = inr e

pub neither : (a b : Bool) → either a b ≡ false → (a ≡ false) × (b ≡ false)
neither true b e = no_one (sym e)
neither false b e = (refl, e)
