-- Records changed at addresses: what stands there afterwards, and in which order changes may be made.
use mathlib.Core.Path.{◌≡◌, refl, ap}
use mathlib.Core.List.{List, [], ◌∷◌, ◌++◌}
use Prim.Native.Nat.{ℕ, zero, suc, ◌<◌}
use lib.ListN.{length, get_or}
use native.Mathlib.Omega.{arith}
use Rattle.recorder.specs.Ideal.{Rec, no_rec, change}

pub change_front : (f : Rec → Rec) (xs ys : List Rec) (k : ℕ) → k < length xs → change f (xs ++ ys) k ≡ change f xs k ++ ys
unfolding change
change_front f [] ys k h = absurd (omega arith)
change_front f (x ∷ xs) ys zero h = refl
change_front f (x ∷ xs) ys (suc k) h = ap (λ (z : List Rec). x ∷ z) (change_front f xs ys k (omega arith))

pub change_last : (f : Rec → Rec) (xs : List Rec) (r : Rec) (k : ℕ) → length xs ≡ k → change f (xs ++ (r ∷ [])) k ≡ xs ++ (f r ∷ [])
unfolding change
change_last f [] r zero e = refl
change_last f [] r (suc k) e = absurd (omega arith)
change_last f (x ∷ xs) r zero e = absurd (omega arith)
change_last f (x ∷ xs) r (suc k) e = ap (λ (z : List Rec). x ∷ z) (change_last f xs r k (omega arith))

pub change_comm : (f g : Rec → Rec) (rs : List Rec) (i j : ℕ) → (i ≡ j → ⊥) → change f (change g rs i) j ≡ change g (change f rs j) i
unfolding change
change_comm f g [] i j n = refl
change_comm f g (r ∷ rs) zero zero n = absurd (n refl)
change_comm f g (r ∷ rs) zero (suc j) n = refl
change_comm f g (r ∷ rs) (suc i) zero n = refl
change_comm f g (r ∷ rs) (suc i) (suc j) n = ap (λ (z : List Rec). r ∷ z) (change_comm f g rs i j (λ e. n (ap suc e)))

pub change_twice : (f g : Rec → Rec) (rs : List Rec) (k : ℕ) → change f (change g rs k) k ≡ change (λ (r : Rec). f (g r)) rs k
unfolding change
change_twice f g [] k = refl
change_twice f g (r ∷ rs) zero = refl
change_twice f g (r ∷ rs) (suc k) = ap (λ (z : List Rec). r ∷ z) (change_twice f g rs k)

pub change_same : (f g : Rec → Rec) (rs : List Rec) (k : ℕ) → f (get_or rs k no_rec) ≡ g (get_or rs k no_rec) → change f rs k ≡ change g rs k
unfolding change
change_same f g [] k e = refl
change_same f g (r ∷ rs) zero e = rw e
change_same f g (r ∷ rs) (suc k) e = ap (λ (z : List Rec). r ∷ z) (change_same f g rs k e)

pub change_none : (f : Rec → Rec) (rs : List Rec) (k : ℕ) → f (get_or rs k no_rec) ≡ get_or rs k no_rec → change f rs k ≡ rs
unfolding change
change_none f [] k e = refl
change_none f (r ∷ rs) zero e = rw e
change_none f (r ∷ rs) (suc k) e = ap (λ (z : List Rec). r ∷ z) (change_none f rs k e)

pub at_change : (f : Rec → Rec) (rs : List Rec) (k : ℕ) → k < length rs → get_or (change f rs k) k no_rec ≡ f (get_or rs k no_rec)
unfolding change
at_change f [] k h = absurd (omega arith)
at_change f (r ∷ rs) zero h = refl
at_change f (r ∷ rs) (suc k) h = at_change f rs k (omega arith)

pub at_other : (f : Rec → Rec) (rs : List Rec) (k i : ℕ) → (k ≡ i → ⊥) → get_or (change f rs k) i no_rec ≡ get_or rs i no_rec
unfolding change
at_other f [] k i n = refl
at_other f (r ∷ rs) zero zero n = absurd (n refl)
at_other f (r ∷ rs) zero (suc i) n = refl
at_other f (r ∷ rs) (suc k) zero n = refl
at_other f (r ∷ rs) (suc k) (suc i) n = at_other f rs k i (λ e. n (ap suc e))
