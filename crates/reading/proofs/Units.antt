-- What is read of two texts that agree is the same: names, lengths of texts, LOAD bytes, the search for a name.
use Rattle.std.proofs.Common.{◌≡◌, ℕ, zero, suc, ◌+◌, ◌-◌, ◌<◌, ◌≤◌, Bool, true, false, eqb, ltb, List, length, get_or, refl, arith, eqb-true, ltb-true, lt-ltb}
use Rattle.recorder.specs.Word.{pick, both, next}
use Rattle.recorder.specs.declared.word.Range.{Range}
use Rattle.recorder.specs.Name.{same_units, same_name}
use Rattle.rules.specs.Name.{text_place, ends_name, name_length, read_name}
use Rattle.rules.specs.Expr.{ends_in_quote, quoted_length}
use Rattle.rules.specs.Stmt.{ByteRead, byte_unit, byte_units}
use Rattle.reading.specs.Agreement.{SameUnit, SameUnits, SameName, SameText}

module _ (t u : List ℕ) where
  first_unit : (at n : ℕ) → SameUnits t u at (suc n) → SameUnit t u at
  first_unit at n h = let z : at + 0 ≡ at = omega arith in rw z at (h 0 (omega arith))

  first_same : (at n : ℕ) → SameUnits t u at (suc n) → get_or t at 0 ≡ get_or u at 0
  first_same at n h = (first_unit at n h).0

  next_same : (at n : ℕ) → SameUnits t u at (suc n) → next t at ≡ next u at
  unfolding next
  next_same at n h = rw ((first_unit at n h).1) refl

  rest_same : (at n : ℕ) → SameUnits t u at (suc n) → SameUnits t u (next t at) n
  unfolding next
  rest_same at n h = go (ltb at (length t))
    where
      go : (b : Bool) → SameUnits t u (pick b (at + 1) at) n
      go true k l = let z : at + suc k ≡ at + 1 + k = omega arith in rw z at (h (suc k) (omega arith))
      go false k l = h k (omega arith)

  -- fewer units from the same place
  pub fewer : (at m n : ℕ) → m ≤ n → SameUnits t u at n → SameUnits t u at m
  fewer at m n l h k j = h k (omega arith)

  name_length_same : (n at : ℕ) → SameUnits t u at n → name_length t at n ≡ name_length u at n
  unfolding name_length
  name_length_same zero at h = refl
  name_length_same (suc n) at h = rw (first_same at n h, name_length_same n (next t at) (rest_same at n h), next_same at n h) refl

  pub length_within : (n at : ℕ) → name_length t at n ≤ n
  unfolding name_length
  length_within zero at = omega arith
  length_within (suc n) at = go (ends_name (get_or t at 0)) (length_within n (next t at))
    where
      go : (b : Bool) → name_length t (next t at) n ≤ n → pick b zero (suc (name_length t (next t at) n)) ≤ suc n
      go true h = omega arith
      go false h = omega arith

  pub read_name_same : (base : ℕ) (r : Range) → SameName t u base r → read_name t base r ≡ read_name u base r
  unfolding read_name
  read_name_same base r h = rw (name_length_same (r.end - r.start) (text_place base r.start) h.units, h.last) refl

  -- the units that a name keeps
  pub name_units : (base : ℕ) (r : Range) → SameName t u base r → SameUnits t u (read_name t base r).name.start (read_name t base r).name.len
  unfolding read_name
  name_units base r h =
      fewer (text_place base r.start) _ _ (length_within (r.end - r.start) (text_place base r.start)) h.units

  pub quoted_length_same : (base : ℕ) (r : Range) → SameText t u base r → quoted_length t base r ≡ quoted_length u base r
  unfolding quoted_length
  quoted_length_same base r h = rw (quote_same base r h) refl
    where
      quote_same : (base : ℕ) (r : Range) → SameText t u base r → ends_in_quote t base r ≡ ends_in_quote u base r
      quote_same base r h = go (ltb (r.start + 1) r.end) refl
        where
          go : (b : Bool) → ltb (r.start + 1) r.end ≡ b → both b (eqb (get_or t (text_place base r.end - 1) 0) 34) ≡ both b (eqb (get_or u (text_place base r.end - 1) 0) 34)
          go true e = rw (h (ltb-true _ _ e)) refl
          go false e = refl

  pub byte_units_same : (n at : ℕ) (b : ByteRead) → SameUnits t u at n → byte_units t at n b ≡ byte_units u at n b
  unfolding byte_units
  byte_units_same zero at b h = refl
  byte_units_same (suc n) at b h = rw (first_same at n h, byte_units_same n (next t at) (byte_unit b (get_or u at 0)) (rest_same at n h), next_same at n h) refl

  -- n units from two places on
  pub same_units_same : (n a b : ℕ) → SameUnits t u a n → SameUnits t u b n → same_units t a b n ≡ same_units u a b n
  unfolding same_units
  same_units_same zero a b g h = refl
  same_units_same (suc n) a b g h =
      rw (first_same a n g, first_same b n h, same_units_same n (next t a) (next t b) (rest_same a n g) (rest_same b n h), next_same a n g, next_same b n h) refl

  pub same_name_same : (a n x b m y : ℕ) → SameUnits t u a n → SameUnits t u b m → same_name t a n x b m y ≡ same_name u a n x b m y
  unfolding same_name
  same_name_same a n x b m y g h = go (eqb n m) refl
    where
      go : (i : Bool) → eqb n m ≡ i → pick i (pick (eqb x y) (same_units t a b n) false) false ≡ pick i (pick (eqb x y) (same_units u a b n) false) false
      go true e = rw (same_units_same n a b g (rw (← eqb-true n m e) at h)) refl
      go false e = refl

  -- texts of equal length, and texts that both reach as far
  pub even_units : (at n : ℕ) → length t ≡ length u → ((k : ℕ) → k < n → get_or t (at + k) 0 ≡ get_or u (at + k) 0) → SameUnits t u at n
  even_units at n e h k l = (h k l, rw e refl)

  pub inside_units : (at n : ℕ) → at + n ≤ length t → at + n ≤ length u → ((k : ℕ) → k < n → get_or t (at + k) 0 ≡ get_or u (at + k) 0) → SameUnits t u at n
  inside_units at n a b h k l =
      let x : at + k < length t = omega arith in
      let y : at + k < length u = omega arith in
      (h k l, rw (lt-ltb (at + k) (length t) x, lt-ltb (at + k) (length u) y) refl)
