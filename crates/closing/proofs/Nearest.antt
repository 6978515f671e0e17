-- A delay's end is rounded to the nearest whole number, halves up.
use mathlib.Core.Path.{◌≡◌, refl, sym, ap, ◌∙◌}
use Prim.Native.Nat.{ℕ, ◌+◌, ◌*◌, ◌-◌, ◌≤◌, ◌<◌, ◌/◌, ◌^◌}
use borrow.Author.Tests.{lt-ltb, le-ltb, ne_eqb}
use native.Mathlib.Decide.{dec_lt}
use native.Mathlib.Nat.{one-le-pow, pow-le-pow_right, mul-le-mul_right, mul-le-mul, mul_assoc, add-mul, div-mul-le_self, lt-div-mul-add, le_of_mul-le-mul_right}
use native.Mathlib.Omega.{arith}
use Rattle.std.proofs.lemmas.Nat.{pow-add, le-div}
use Rattle.recorder.specs.Numbers.{Value, value, number_zero, IsNumber, zero_number, other_number}
use Rattle.recorder.specs.Closing.{nearest, normal, rounded}
use Rattle.closing.specs.Nearest.{scaled, Nearest}

-- 2^i × 2^j where i and j make k
pow_parts : (i j k : ℕ) → i + j ≡ k → 2 ^ i * 2 ^ j ≡ 2 ^ k
pow_parts i j k e = rw (← e) (sym (pow-add 2 i j))

-- n units are the nearest: m and half a unit cut to n units, counted in P-ths
scaled_up : (m u h n P W : ℕ) → u ≡ 2 * h → u * P ≡ W → 0 < P → n * u ≤ m + h → m + h < n * u + u
    → (2 * (n * W) ≤ 2 * (m * P) + W) × (2 * (m * P) < 2 * (n * W) + W)
scaled_up m u h n P W e f g i j =
    let a : n * u * P ≤ m * P + h * P = rw (← add-mul m h P) (mul-le-mul_right P i) in
    let b : n * W ≤ m * P + h * P = rw (mul_assoc n u P, f) at a in
    let c : (m + h + 1) * P ≤ (n * u + u) * P = mul-le-mul_right P (omega (arith, j)) in
    let d : m * P + h * P + 1 * P ≤ n * u * P + u * P = rw (add-mul (m + h) 1 P, add-mul m h P, add-mul (n * u) u P) at c in
    let k : m * P + h * P + 1 * P ≤ n * W + W = rw (mul_assoc n u P, f) at d in
    let l : 2 * (h * P) ≡ W = sym (mul_assoc 2 h P) ∙ ap (λ (z : ℕ). z * P) (sym e) ∙ f in
    (omega (arith, b, l), omega (arith, k, l, g))

scaled_is : (k c : ℕ) → 0 < k → scaled (value k c) ≡ c * 2 ^ k
scaled_is k c h = rw (ne_eqb k 0 (λ z. omega (arith, z))) refl

-- a value between one half and 2^32: (e, m) in units of 2^(160−e), 1 being 2^160 of P = 2^e
module _ (e m : ℕ) (low : 128 ≤ e) (high : e < 160) (least : 2147483648 ≤ m) (most : m < 4294967296) where
  abbrev u : ℕ
  u = 2 ^ (160 - e)

  abbrev n : ℕ
  n = (m + u / 2) / u

  abbrev P : ℕ
  P = 2 ^ e

  u_pos : 0 < u
  u_pos = one-le-pow (160 - e) 2 (omega arith)

  u_even : u ≡ 2 * (u / 2)
  u_even = let k : 2 * 2 ^ (159 - e) ≡ u = pow_parts 1 (159 - e) (160 - e) (omega arith) in omega (arith, k)

  one_is : u * P ≡ 2 ^ 160
  one_is = pow_parts (160 - e) e 160 (omega arith)

  -- how many units 2^32 are
  all_units : 2 ^ (e - 128) * u ≡ 4294967296
  all_units = pow_parts (e - 128) (160 - e) 32 (omega arith)

  cut_low : n * u ≤ m + u / 2
  cut_low = div-mul-le_self (m + u / 2) u

  cut_high : m + u / 2 < n * u + u
  cut_high = lt-div-mul-add u_pos

  near : (2 * (n * 2 ^ 160) ≤ 2 * (m * P) + 2 ^ 160) × (2 * (m * P) < 2 * (n * 2 ^ 160) + 2 ^ 160)
  near = scaled_up m u (u / 2) n P (2 ^ 160) u_even one_is (one-le-pow e 2 (omega arith)) cut_low cut_high

  -- the mantissa is never above 2^32, and at least 2^31: units of at most 2^31 divide this, and of 2^32 half a one is rounded up
  nearest_most : n * u ≤ 4294967296
  nearest_most = rw all_units at (mul-le-mul_right u few)
    where
      few : n ≤ 2 ^ (e - 128)
      few = go (dec_lt (2 ^ (e - 128)) n)
        where
          go : Dec (2 ^ (e - 128) < n) → n ≤ 2 ^ (e - 128)
          go (yes d) =
              let k : (2 ^ (e - 128) + 1) * u ≤ n * u = mul-le-mul_right u (omega (arith, d)) in
              let l : 2 ^ (e - 128) * u + 1 * u ≤ n * u = rw (add-mul (2 ^ (e - 128)) 1 u) at k in
              absurd (omega (arith, l, cut_low, all_units, u_even, u_pos))
          go (no d) = omega (arith, d)

  nearest_least : 2147483648 ≤ n * u
  nearest_least = go (dec_lt e 129)
    where
      go : Dec (e < 129) → 2147483648 ≤ n * u
      go (yes d) =
          let v : e ≡ 128 = omega (arith, d) in
          let w : u ≡ 4294967296 = ap (λ (z : ℕ). 2 ^ (160 - z)) v in
          let l : 1 ≤ n = le-div 1 (m + u / 2) u u_pos (omega (arith, w)) in
          let k : 1 * u ≤ n * u = mul-le-mul_right u l in
          omega (arith, k, w)
      go (no d) =
          let k : 2 ^ (e - 129) * u ≡ 2147483648 = pow_parts (e - 129) (160 - e) 31 (omega (arith, d)) in
          let l : 2 ^ (e - 129) ≤ n = le-div (2 ^ (e - 129)) (m + u / 2) u u_pos (omega (arith, k)) in
          rw k at (mul-le-mul_right u l)

  -- its value
  scaled_unit : n * u * P ≡ n * 2 ^ 160
  scaled_unit = mul_assoc n u P ∙ ap (λ (z : ℕ). n * z) one_is

  near_of : (v : Value) → IsNumber v → scaled v ≡ n * 2 ^ 160 → Nearest (value e m) v
  near_of v g s = record {
    number = g;
    whole = n;
    is_whole = s;
    not_below = rw (s, scaled_is e m (omega arith)) near.0;
    below = rw (s, scaled_is e m (omega arith)) near.1;
  }

  near_normal : Nearest (value e m) (normal e (nearest m u))
  near_normal = go (dec_lt (n * u) 4294967296)
    where
      go : Dec (n * u < 4294967296) → Nearest (value e m) (normal e (nearest m u))
      go (yes d) = rw (lt-ltb (n * u) 4294967296 d)
          (near_of (value e (n * u)) (other_number (omega arith) (omega arith) nearest_least d) (scaled_is e (n * u) (omega arith) ∙ scaled_unit))
      go (no d) =
          let f : n * u ≡ 4294967296 = omega (arith, d, nearest_most) in
          let p : 2 ^ (e + 1) ≡ 2 ^ e * 2 = pow-add 2 e 1 in
          let s : (n * u / 2) * 2 ^ (e + 1) ≡ n * u * P = rw (p, f) (omega arith) in
          rw (le-ltb (n * u) 4294967296 (omega (arith, d)))
          (near_of (value (e + 1) (n * u / 2)) (other_number (omega arith) (omega arith) (omega (arith, f)) (omega (arith, f))) (scaled_is (e + 1) (n * u / 2) (omega arith) ∙ s ∙ scaled_unit))

near_zero : (e m : ℕ) → 0 < e → e < 128 → m < 4294967296 → Nearest (value e m) number_zero
near_zero e m p q k =
    let c : e ≤ 127 = omega (arith, q) in
    let b : 2 ^ e ≤ 2 ^ 127 = pow-le-pow_right {n = 2} (omega arith) {i = e} {j = 127} c in
    let a : m * 2 ^ e ≤ 4294967295 * 2 ^ 127 = mul-le-mul {n₁ = m} {m₁ = 2 ^ e} {n₂ = 4294967295} {m₂ = 2 ^ 127} (omega (arith, k)) b in
    let s : scaled (value e m) ≡ m * 2 ^ e = scaled_is e m p in
    record { number = zero_number; whole = 0; is_whole = refl; not_below = omega arith; below = rw s (omega (arith, a)) }

near_itself : (e m : ℕ) → 160 ≤ e → IsNumber (value e m) → Nearest (value e m) (value e m)
near_itself e m h g =
    let p : 2 ^ (e - 160) * 2 ^ 160 ≡ 2 ^ e = pow_parts (e - 160) 160 e (omega (arith, h)) in
    let s : scaled (value e m) ≡ m * 2 ^ e = scaled_is e m (omega (arith, h)) in
    record {
      number = g;
      whole = m * 2 ^ (e - 160);
      is_whole = s ∙ ap (λ (z : ℕ). m * z) (sym p) ∙ sym (mul_assoc m (2 ^ (e - 160)) (2 ^ 160));
      not_below = omega arith;
      below = omega arith;
    }

-- THEOREM: a delay's end is rounded to the nearest whole number, an exact half going up
pub rounded_nearest : {x : Value} → IsNumber x → Nearest x (rounded x.e x.m)
unfolding rounded
rounded_nearest zero_number = record { number = zero_number; whole = 0; is_whole = refl; not_below = omega arith; below = omega arith }
rounded_nearest (other_number {e} {m} p q l k) = go (dec_lt e 128) (dec_lt e 160)
  where
    go : Dec (e < 128) → Dec (e < 160) → Nearest (value e m) (rounded e m)
    go (yes d) b = rw (lt-ltb e 128 d) (near_zero e m p d k)
    go (no d) (yes b) = rw (le-ltb e 128 (omega (arith, d)), lt-ltb e 160 b) (near_normal e m (omega (arith, d)) b l k)
    go (no d) (no b) = rw (le-ltb e 128 (omega (arith, d)), le-ltb e 160 (omega (arith, b))) (near_itself e m (omega (arith, b)) (other_number p q l k))

-- numbers of one value are one number: with a larger exponent the least mantissa makes more than any with a smaller one
less_below : (i k a c : ℕ) → i < k → a < 4294967296 → 2147483648 ≤ c → a * 2 ^ i < c * 2 ^ k
less_below i k a c h f g =
    let p : 2 ^ (i + 1) ≡ 2 ^ i * 2 = pow-add 2 i 1 in
    let q : 2 ^ (i + 1) ≤ 2 ^ k = pow-le-pow_right {n = 2} (omega arith) {i = i + 1} {j = k} (omega (arith, h)) in
    let l : 2147483648 * 2 ^ (i + 1) ≤ c * 2 ^ k = mul-le-mul {n₁ = 2147483648} {m₁ = 2 ^ (i + 1)} {n₂ = c} {m₂ = 2 ^ k} g q in
    let b : (a + 1) * 2 ^ i ≤ 4294967296 * 2 ^ i = mul-le-mul_right (2 ^ i) (omega (arith, f)) in
    let d : a * 2 ^ i + 1 * 2 ^ i ≤ 4294967296 * 2 ^ i = rw (add-mul a 1 (2 ^ i)) at b in
    omega (arith, p, l, d, one-le-pow i 2 (omega arith))

above_zero : (k c : ℕ) → 2147483648 ≤ c → 0 < c * 2 ^ k
above_zero k c h =
    let l : 2147483648 * 1 ≤ c * 2 ^ k = mul-le-mul {n₁ = 2147483648} {m₁ = 1} {n₂ = c} {m₂ = 2 ^ k} h (one-le-pow k 2 (omega arith)) in
    omega (arith, l)

same_number : {v w : Value} → IsNumber v → IsNumber w → scaled v ≡ scaled w → v ≡ w
same_number zero_number zero_number e = refl
same_number zero_number (other_number {e = k} {m = c} p q l m) e = absurd (omega (arith, above_zero k c l, scaled_is k c p, e))
same_number (other_number {e = k} {m = c} p q l m) zero_number e = absurd (omega (arith, above_zero k c l, scaled_is k c p, e))
same_number (other_number {e = i} {m = a} p q l m) (other_number {e = k} {m = c} p' q' l' m') e = go (dec_lt i k) (dec_lt k i)
  where
    f : a * 2 ^ i ≡ c * 2 ^ k
    f = sym (scaled_is i a p) ∙ e ∙ scaled_is k c p'

    go : Dec (i < k) → Dec (k < i) → value i a ≡ value k c
    go (yes d) g = absurd (omega (arith, f, less_below i k a c d m l'))
    go (no d) (yes g) = absurd (omega (arith, f, less_below k i c a g m' l))
    go (no d) (no g) =
        let h : i ≡ k = omega (arith, d, g) in
        let j : a * 2 ^ k ≡ c * 2 ^ k = rw h at f in
        let u : a ≤ c = le_of_mul-le-mul_right {k = 2 ^ k} (omega (arith, j)) (one-le-pow k 2 (omega arith)) in
        let v : c ≤ a = le_of_mul-le-mul_right {k = 2 ^ k} (omega (arith, j)) (one-le-pow k 2 (omega arith)) in
        let w : a ≡ c = omega (arith, u, v) in
        rw (h, w) refl

-- THEOREM: no other number is nearest
pub nearest_alone : {x v w : Value} → Nearest x v → Nearest x w → v ≡ w
nearest_alone a b = same_number a.number b.number (omega (arith, a.is_whole, a.not_below, a.below, b.is_whole, b.not_below, b.below))
