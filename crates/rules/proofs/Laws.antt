-- The reading of a name: of n units from a place, those before the first that ends it.
use Rattle.std.proofs.Common.{◌≡◌, ℕ, zero, suc, ◌+◌, ◌≤◌, ◌<◌, Bool, true, false, cond, ltb, Bor, List, [], ◌∷◌, length, get_or, take, drop, refl, sym, ap, ◌∙◌, lt-ltb, le-ltb, add-one, drop-cons, arith}
use Rattle.std.specs.Prelude.{Option, None, Some}
use Rattle.std.specs.Option.{UnwrapsOrElse}
use Rattle.std.specs.Slice.{IsGetRangeResult}
use Rattle.std.specs.List.{position_or_len}
use Rattle.std.proofs.lemmas.Bool.Decides.{nat_tests}
use Rattle.std.proofs.lemmas.List.{drop_all}
use Rattle.std.proofs.lemmas.Grind.{common_steps}
use lib.ListN.{get_or-eq_default}
use native.Mathlib.Decide.{dec_lt}
use Rattle.recorder.specs.Word.{pick, next}
use Rattle.rules.specs.Name.{ends_name, name_length}

-- the units from a place on; none behind the text
pub units_from : (t : List ℕ) (at : ℕ) (o : Option (Bor (List ℕ))) (r : Bor (List ℕ)) → IsGetRangeResult t at (length t) o → UnwrapsOrElse o (λ x. x.now ≡ []) r → r.now ≡ drop at t
units_from t at None r g e = grind (arith, common_steps, drop_all)
units_from t at (Some x) r g e = grind (arith, common_steps)

-- of so many units those before the first that ends a name, or n
abbrev pub before_end : List ℕ → ℕ → ℕ
before_end xs n = cond (ltb (position_or_len ends_name xs) (length xs)) (position_or_len ends_name xs) n

suc_test : (m l n : ℕ) → cond (ltb (1 + m) (suc l)) (1 + m) (suc n) ≡ suc (cond (ltb m l) m n)
suc_test m l n = grind (arith, nat_tests)

one_more : (u n : ℕ) (xs : List ℕ) → before_end (u ∷ xs) (suc n) ≡ pick (ends_name u) 0 (suc (before_end xs n))
one_more u n xs = go (ends_name u) refl
  where
    go : (b : Bool) → ends_name u ≡ b → before_end (u ∷ xs) (suc n) ≡ pick b 0 (suc (before_end xs n))
    go true e = rw (e, lt-ltb 0 (suc (length xs)) (omega arith))
    go false e = rw e (suc_test (position_or_len ends_name xs) (length xs) n)

none_left : (n : ℕ) → before_end (take n []) n ≡ n
none_left zero = refl
none_left (suc n) = refl

pub name_before : (t : List ℕ) (at n : ℕ) → before_end (take n (drop at t)) n ≡ name_length t at n
unfolding name_length next
name_before t at zero = refl
name_before t at (suc n) = go (dec_lt at (length t)) (name_before t at n) (name_before t (suc at) n)
  where
    go : Dec (at < length t) → before_end (take n (drop at t)) n ≡ name_length t at n → before_end (take n (drop (suc at) t)) n ≡ name_length t (suc at) n
        → before_end (take (suc n) (drop at t)) (suc n) ≡ pick (ends_name (get_or t at 0)) 0 (suc (name_length t (next t at) n))
    go (yes h) a b = rw (drop-cons t at 0 h, lt-ltb at (length t) h, add-one at) (one_more (get_or t at 0) n (take n (drop (suc at) t)) ∙ ap (λ (z : ℕ). pick (ends_name (get_or t at 0)) 0 (suc z)) b)
    go (no h) a b =
        let i : length t ≤ at = omega arith in
        rw (drop_all at t i, get_or-eq_default t 0 i, le-ltb at (length t) i) (ap suc (sym (none_left n) ∙ rw (drop_all at t i) at a))
