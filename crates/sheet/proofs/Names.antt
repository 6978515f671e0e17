-- A name in the text, and the units of a slice: what the rule reads at places of the text, and what the code reads from a slice's ends.
use Rattle.std.proofs.Common.{◌≡◌, ℕ, zero, suc, ◌+◌, ◌-◌, ◌≤◌, ◌<◌, Bool, true, false, ◌&&◌, ltb, Bor, List, [], ◌∷◌, ◌++◌, length, get_or, take, drop, refl, sym, ap, ◌∙◌, lt-ltb, le-ltb, drop-cons, length-drop, arith}
use Rattle.std.specs.Prelude.{Option, None, Some}
use Rattle.std.specs.Option.{UnwrapsOrElse}
use Rattle.std.specs.Slice.{IsGetRangeResult}
use Rattle.std.specs.List.{list_all}
use Rattle.std.proofs.lemmas.List.{drop-drop}
use mathlib.Core.Logic.{◌⊎◌, inl, inr}
use lib.ListN.{get_or-eq_default}
use native.Mathlib.Decide.{dec_lt}
use Rattle.recorder.specs.Word.{both, next}
use Rattle.sheet.specs.Form.{is_letter, is_inner, is_last, name_tail, is_name}

next_first : (u : ℕ) (us : List ℕ) → next (u ∷ us) 0 ≡ 1
unfolding next
next_first u us = rw (lt-ltb 0 (suc (length us)) (omega arith))

next_behind : (u at : ℕ) (us : List ℕ) → next (u ∷ us) (suc at) ≡ suc (next us at)
unfolding next
next_behind u at us = go (dec_lt at (length us))
  where
    go : Dec (at < length us) → next (u ∷ us) (suc at) ≡ suc (next us at)
    go (yes h) = rw (lt-ltb (suc at) (suc (length us)) (omega arith), lt-ltb at (length us) h) (omega arith)
    go (no h) = rw (le-ltb (suc at) (suc (length us)) (omega arith), le-ltb at (length us) (omega arith))

next_inside : (t : List ℕ) (at : ℕ) → at < length t → next t at ≡ suc at
unfolding next
next_inside t at h = rw (lt-ltb at (length t) h) (omega arith)

both_no_second : (a b : Bool) → false ≡ b → false ≡ both a b
both_no_second true b e = e
both_no_second false b e = refl

both_and : (a b c : Bool) → both (a && b) c ≡ both a (both b c)
both_and true b c = refl
both_and false b c = refl

-- a unit in front is not read
tail_behind : (u at n : ℕ) (us : List ℕ) → name_tail (u ∷ us) (suc at) n ≡ name_tail us at n
unfolding name_tail
tail_behind u at zero us = refl
tail_behind u at (suc zero) us = refl
tail_behind u at (suc (suc n)) us = rw next_behind (ap (λ (b : Bool). both (is_inner (get_or us at 0)) b) (tail_behind u (next us at) (suc n) us))

-- the first unit, and the others
tail_first : (u n : ℕ) (us : List ℕ) → name_tail (u ∷ us) 0 (suc (suc n)) ≡ both (is_inner u) (name_tail us 0 (suc n))
unfolding name_tail
tail_first u n us = rw next_first (ap (λ (b : Bool). both (is_inner u) b) (tail_behind u 0 (suc n) us))

pub name_first : (u : ℕ) (us : List ℕ) → both (is_letter u) (name_tail us 0 (length us)) ≡ is_name (u ∷ us) 0 (length (u ∷ us))
unfolding is_name
name_first u us =
    let m : suc (length us) - 1 ≡ length us = omega arith in
    rw (lt-ltb 0 (suc (length us)) (omega arith), next_first u us, m) (ap (λ (b : Bool). both (is_letter u) b) (sym (tail_behind u 0 (length us) us)))

-- the units before the last, and the last
pub tail_last : (xs : List ℕ) (u : ℕ) → both (list_all is_inner xs) (is_last u) ≡ name_tail (xs ++ (u ∷ [])) 0 (length (xs ++ (u ∷ [])))
unfolding name_tail
tail_last [] u = refl
tail_last (x ∷ []) u = both_and (is_inner x) true (is_last u) ∙ sym (tail_first x 0 (u ∷ []))
tail_last (x ∷ y ∷ ys) u =
    both_and (is_inner x) (list_all is_inner (y ∷ ys)) (is_last u)
    ∙ (ap (λ (b : Bool). both (is_inner x) b) (tail_last (y ∷ ys) u) ∙ sym (tail_first x (length (ys ++ (u ∷ []))) (y ∷ ys ++ (u ∷ []))))

-- behind the text no unit may stand in a name
tail_past : (t : List ℕ) (at n : ℕ) → at ≤ length t → length t < at + n → false ≡ name_tail t at n
unfolding name_tail
tail_past t at zero h k = absurd (omega arith)
tail_past t at (suc zero) h k = let i : length t ≤ at = omega arith in rw (get_or-eq_default t 0 i)
tail_past t at (suc (suc n)) h k = go (dec_lt at (length t)) (λ i. tail_past t (suc at) (suc n) (omega arith) (omega arith))
  where
    go : Dec (at < length t) → (at < length t → false ≡ name_tail t (suc at) (suc n)) → false ≡ both (is_inner (get_or t at 0)) (name_tail t (next t at) (suc n))
    go (yes i) e = rw (next_inside t at i) (both_no_second (is_inner (get_or t at 0)) _ (e i))
    go (no i) e = let j : length t ≤ at = omega arith in rw (get_or-eq_default t 0 j)

name_past : (t : List ℕ) (at n : ℕ) → (0 < n → length t < at + n) → false ≡ is_name t at n
unfolding is_name
name_past t at zero h = refl
name_past t at (suc n) h = both_no_second (ltb 0 (suc n)) _ (go (dec_lt at (length t)) (h (omega arith)))
  where
    go : Dec (at < length t) → length t < at + suc n → false ≡ both (is_letter (get_or t at 0)) (name_tail t (next t at) (suc n - 1))
    go (yes i) k = let m : suc n - 1 ≡ n = omega arith in rw (next_inside t at i, m) (both_no_second (is_letter (get_or t at 0)) _ (tail_past t (suc at) n (omega arith) (omega arith)))
    go (no i) k = let j : length t ≤ at = omega arith in rw (get_or-eq_default t 0 j)

-- a part of the text, read alone
part_first : (t : List ℕ) (at n : ℕ) → at < length t → take (suc n) (drop at t) ≡ get_or t at 0 ∷ take n (drop (suc at) t)
part_first t at n h = ap (λ (us : List ℕ). take (suc n) us) (drop-cons t at 0 h)

tail_part : (t : List ℕ) (at n : ℕ) → at + n ≤ length t → name_tail (take n (drop at t)) 0 n ≡ name_tail t at n
unfolding name_tail
tail_part t at zero h = refl
tail_part t at (suc zero) h = ap (λ (us : List ℕ). is_last (get_or us 0 0)) (part_first t at 0 (omega arith))
tail_part t at (suc (suc n)) h =
    let i : at < length t = omega arith in
    ap (λ (us : List ℕ). name_tail us 0 (suc (suc n))) (part_first t at (suc n) i) ∙ (tail_first (get_or t at 0) n (take (suc n) (drop (suc at) t))
    ∙ rw (next_inside t at i) (ap (λ (b : Bool). both (is_inner (get_or t at 0)) b) (tail_part t (suc at) (suc n) (omega arith))))

name_part : (t : List ℕ) (at n : ℕ) → (0 < n → at + n ≤ length t) → is_name (take n (drop at t)) 0 n ≡ is_name t at n
unfolding is_name
name_part t at zero h = refl
name_part t at (suc n) h =
    let j : at + suc n ≤ length t = h (omega arith) in
    let i : at < length t = omega arith in
    let m : suc n - 1 ≡ n = omega arith in
    rw (part_first t at n i, next_first (get_or t at 0) (take n (drop (suc at) t)), m, tail_behind (get_or t at 0) 0 n (take n (drop (suc at) t)), next_inside t at i)
    (ap (λ (b : Bool). both (ltb 0 (suc n)) (both (is_letter (get_or t at 0)) b)) (tail_part t (suc at) n (omega arith)))

-- what a range's units hold, of the text behind where the line begins; none behind the text
pub name_cut : (t : List ℕ) (base a b : ℕ) (o : Option (Bor (List ℕ))) (r : Bor (List ℕ)) → IsGetRangeResult (drop base t) a b o → UnwrapsOrElse o (λ x. x.now ≡ []) r
    → is_name r.now 0 (length r.now) ≡ is_name t (base + a) (b - a)
unfolding is_name
name_cut t base a b None r g e = rw e (name_past t (base + a) (b - a) (out g.0))
  where
    out : (b < a) ⊎ (length (drop base t) < b) → 0 < b - a → length t < base + a + (b - a)
    out (inl h) k = omega arith
    out (inr h) k = omega (arith, length-drop base t)
name_cut t base a b (Some x) r g e =
    let n : length x.now ≡ b - a = omega arith in
    rw (e, n, g.0.2, drop-drop a base t) (name_part t (base + a) (b - a) (λ h. omega (arith, length-drop base t)))
