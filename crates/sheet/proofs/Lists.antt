-- Lists in the sheet.
use mathlib.Core.Path.{◌≡◌, refl, ap}
use mathlib.Core.List.{List}
use Prim.Native.Nat.{ℕ, zero, suc}
use lib.ListN.{length}
use Rattle.sheet.specs.Tree.{items_at}

-- a list of n has n
pub items_length : {A : Type 0} (s : List ℕ) (f : ℕ → A) (g : ℕ → ℕ) (n at : ℕ) → length (items_at s f g n at) ≡ n
unfolding items_at
items_length s f g zero at = refl
items_length s f g (suc n) at = ap suc (items_length s f g n (g at))
