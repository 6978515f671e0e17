-- The book's names: each has a number of its own, by which its type is found again.
use Rattle.std.proofs.Common.{◌≡◌, ℕ, suc, ◌+◌, ◌%◌, ◌≤◌, Bool, true, false, eqb, List, [], ◌∷◌, ◌++◌, refl, ap, arith, eq-eqb, ne_eqb, eqb-true}
use Rattle.recorder.specs.Word.{pick, both}
use Rattle.recorder.specs.Name.{same_units, same_name}
use Rattle.recorder.specs.Ideal.{Entry, name_kind, how_many, found, find_name}
use Rattle.rules.specs.Types.{sigil_type}
use Rattle.rules.specs.Piles.{symbol_type}

abbrev pub is_name : Entry → Bool
is_name e = eqb e.kind name_kind

abbrev pub counted : Entry → ℕ → ℕ
counted e n = pick (is_name e) (suc n) n

-- n names come before: each name has the next number
abbrev pub Numbered : ℕ → List Entry → Type 0
Numbered n [] = Unit {0}
Numbered n (e ∷ es) = (is_name e ≡ true → e.number ≡ n % 16777216) × Numbered (counted e n) es

pub many_append : (xs ys : List Entry) → how_many name_kind (xs ++ ys) ≡ how_many name_kind xs + how_many name_kind ys
unfolding how_many
many_append [] ys = omega arith
many_append (e ∷ xs) ys = go (is_name e) (many_append xs ys)
  where
    go : (b : Bool) → how_many name_kind (xs ++ ys) ≡ how_many name_kind xs + how_many name_kind ys
        → pick b (suc (how_many name_kind (xs ++ ys))) (how_many name_kind (xs ++ ys)) ≡ pick b (suc (how_many name_kind xs)) (how_many name_kind xs) + how_many name_kind ys
    go true h = omega arith
    go false h = h

pub numbered_append : (n : ℕ) (xs ys : List Entry) → Numbered n xs → Numbered (n + how_many name_kind xs) ys → Numbered n (xs ++ ys)
unfolding how_many
numbered_append n [] ys a b = let e : n + 0 ≡ n = omega arith in rw e at b
numbered_append n (e ∷ xs) ys a b = (a.0, numbered_append (counted e n) xs ys a.1 (go (is_name e) b))
  where
    go : (b : Bool) → Numbered (n + pick b (suc (how_many name_kind xs)) (how_many name_kind xs)) ys → Numbered (pick b (suc n) n + how_many name_kind xs) ys
    go true h = let e : n + suc (how_many name_kind xs) ≡ suc n + how_many name_kind xs = omega arith in rw e at h
    go false h = h

-- a name behind n others has a number from n on, in a book of few names
number_from : (m : ℕ) (ys : List Entry) (e : Entry) (rest : List Entry) → is_name e ≡ true → Numbered m (ys ++ (e ∷ rest)) → m + how_many name_kind (ys ++ (e ∷ rest)) ≤ 16777216 → m ≤ e.number
unfolding how_many
number_from m [] e rest k b q = go (is_name e) k b.0 q
  where
    go : (c : Bool) → c ≡ true → (c ≡ true → e.number ≡ m % 16777216) → m + pick c (suc (how_many name_kind rest)) (how_many name_kind rest) ≤ 16777216 → m ≤ e.number
    go true i f l = omega (arith, f refl)
    go false i f l = let z : ◌≡◌ {A = ℕ} 0 1 = cc in absurd (omega arith)
number_from m (y ∷ ys) e rest k b q = go (is_name y) b.1 q (number_from (suc m) ys e rest k) (number_from m ys e rest k)
  where
    go : (c : Bool) → Numbered (pick c (suc m) m) (ys ++ (e ∷ rest)) → m + pick c (suc (how_many name_kind (ys ++ (e ∷ rest)))) (how_many name_kind (ys ++ (e ∷ rest))) ≤ 16777216
        → (Numbered (suc m) (ys ++ (e ∷ rest)) → suc m + how_many name_kind (ys ++ (e ∷ rest)) ≤ 16777216 → suc m ≤ e.number)
        → (Numbered m (ys ++ (e ∷ rest)) → m + how_many name_kind (ys ++ (e ∷ rest)) ≤ 16777216 → m ≤ e.number) → m ≤ e.number
    go true d l f g = omega (arith, f d (omega arith))
    go false d l f g = g d l

-- a name is found by its number
pub type_at : (n : ℕ) (es : List Entry) (e : Entry) (rest : List Entry) → Numbered n (es ++ (e ∷ rest)) → is_name e ≡ true
    → n + how_many name_kind (es ++ (e ∷ rest)) ≤ 16777216 → symbol_type (es ++ (e ∷ rest)) e.number ≡ sigil_type e.extra
unfolding symbol_type how_many
type_at n [] e rest a k h = rw (k, eq-eqb e.number e.number refl)
type_at n (x ∷ es) e rest a k h = go (is_name x) a.0 a.1 h (type_at n es e rest) (type_at (suc n) es e rest)
  where
    go : (b : Bool) → (b ≡ true → x.number ≡ n % 16777216) → Numbered (pick b (suc n) n) (es ++ (e ∷ rest))
        → n + pick b (suc (how_many name_kind (es ++ (e ∷ rest)))) (how_many name_kind (es ++ (e ∷ rest))) ≤ 16777216
        → (Numbered n (es ++ (e ∷ rest)) → is_name e ≡ true → n + how_many name_kind (es ++ (e ∷ rest)) ≤ 16777216 → symbol_type (es ++ (e ∷ rest)) e.number ≡ sigil_type e.extra)
        → (Numbered (suc n) (es ++ (e ∷ rest)) → is_name e ≡ true → suc n + how_many name_kind (es ++ (e ∷ rest)) ≤ 16777216 → symbol_type (es ++ (e ∷ rest)) e.number ≡ sigil_type e.extra)
        → pick (both b (eqb x.number e.number)) (sigil_type x.extra) (symbol_type (es ++ (e ∷ rest)) e.number) ≡ sigil_type e.extra
    go false f d l u v = u d k l
    go true f d l u v =
        let m : suc n ≤ e.number = number_from (suc n) es e rest k d (omega arith) in
        let w : x.number ≡ n % 16777216 = f refl in
        rw (ne_eqb x.number e.number (λ q. omega arith)) (v d k (omega arith))

-- where a name was found
pub record Found (es : List Entry) (n x : ℕ) : Type 0 where
  pub front : List Entry
  pub it : Entry
  pub back : List Entry
  pub split : es ≡ front ++ (it ∷ back)
  pub name : is_name it ≡ true
  pub number : it.number ≡ n
  pub extra : it.extra ≡ x

same_extra : (t : List ℕ) (a n x b m y : ℕ) → same_name t a n x b m y ≡ true → x ≡ y
unfolding same_name
same_extra t a n x b m y e = go (eqb n m) (eqb x y) refl e
  where
    go : (c d : Bool) → eqb x y ≡ d → pick c (pick d (same_units t a b n) false) false ≡ true → x ≡ y
    go true true f q = eqb-true x y f
    go true false f q = let z : ◌≡◌ {A = ℕ} 0 1 = cc in absurd (omega arith)
    go false d f q = let z : ◌≡◌ {A = ℕ} 0 1 = cc in absurd (omega arith)

pub found_name : (t : List ℕ) (es : List Entry) (s l x n : ℕ) → find_name t es s l x ≡ found n → Found es n x
unfolding find_name
found_name t [] s l x n e = let z : ◌≡◌ {A = ℕ} 0 1 = cc in absurd (omega arith)
found_name t (e ∷ es) s l x n q = go (is_name e) refl (same_name t e.start e.length e.extra s l x) refl q (found_name t es s l x n)
  where
    later : Found es n x → Found (e ∷ es) n x
    later f = record { front = e ∷ f.front; it = f.it; back = f.back; split = ap (λ (z : List Entry). e ∷ z) f.split; name = f.name; number = f.number; extra = f.extra }

    go : (b : Bool) → is_name e ≡ b → (c : Bool) → same_name t e.start e.length e.extra s l x ≡ c → pick (pick b c false) (found e.number) (find_name t es s l x) ≡ found n
        → (find_name t es s l x ≡ found n → Found es n x) → Found (e ∷ es) n x
    go true k true m r f = record { front = []; it = e; back = es; split = refl; name = k; number = cc; extra = same_extra t e.start e.length e.extra s l x m }
    go true k false m r f = later (f r)
    go false k c m r f = later (f r)
