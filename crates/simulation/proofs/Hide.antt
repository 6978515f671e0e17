-- What of a record does not depend on the numbers of book entries.
use mathlib.Core.Path.{◌≡◌, refl, sym, ap, ◌∙◌}
use mathlib.Core.List.{List, [], ◌∷◌, ◌++◌}
use mathlib.Core.Bool.{Bool, true, false}
use Prim.Native.Nat.{ℕ, zero, suc}
use lib.Dec.{eqb}
use lib.ListN.{length, get_or}
use native.Mathlib.Omega.{arith}
use borrow.Author.Tests.{eqb-true}
use Rattle.recorder.specs.declared.word.Range.{Range}
use Rattle.recorder.specs.Word.{pick, both, either}
use Rattle.recorder.specs.Ideal.{Rec, rec, no_rec, change, with_a, with_c, settled, unlabelled}
use Rattle.recorder.proofs.Bools.{both_left, both_right}

-- the calls whose argument a is an entry's number, and those whose argument b is one too
abbrev pub one_of : List ℕ → ℕ → Bool
one_of [] k = false
one_of (x ∷ xs) k = either (eqb k x) (one_of xs k)

abbrev pub numbered : ℕ → Bool
numbered k = one_of (5 ∷ 6 ∷ 7 ∷ 8 ∷ 9 ∷ 12 ∷ 23 ∷ 24 ∷ 26 ∷ 28 ∷ 31 ∷ 35 ∷ []) k

abbrev pub twice : ℕ → Bool
twice k = one_of (9 ∷ 26 ∷ []) k

-- a WHILE is recorded with its end not known
abbrev pub fresh : ℕ → ℕ → Bool
fresh k b = pick (eqb k 25) (eqb b 4294967295) true

-- hidden where the book is full
unfoldable pub hide_rec : Bool → Rec → Rec
hide_rec true r = rec r.call r.line r.range (pick (numbered r.call) 0 r.a) (pick (twice r.call) 0 r.b) r.c
hide_rec false r = r

abbrev pub hide : Bool → List Rec → List Rec
hide b [] = []
hide b (r ∷ rs) = hide_rec b r ∷ hide b rs

pub hide_length : (b : Bool) (rs : List Rec) → length (hide b rs) ≡ length rs
hide_length b [] = refl
hide_length b (r ∷ rs) = ap suc (hide_length b rs)

pub hide_snoc : (b : Bool) (rs : List Rec) (r : Rec) → hide b (rs ++ (r ∷ [])) ≡ hide b rs ++ (hide_rec b r ∷ [])
hide_snoc b [] r = refl
hide_snoc b (x ∷ rs) r = ap (λ (z : List Rec). hide_rec b x ∷ z) (hide_snoc b rs r)

pub hide_false : (rs : List Rec) → hide false rs ≡ rs
unfolding hide_rec
hide_false [] = refl
hide_false (r ∷ rs) = ap (λ (z : List Rec). r ∷ z) (hide_false rs)

pick_twice : (c : Bool) (x y : ℕ) → pick c x (pick c x y) ≡ pick c x y
pick_twice true x y = refl
pick_twice false x y = refl

hide_again : (b : Bool) (r : Rec) → hide_rec true (hide_rec b r) ≡ hide_rec true r
unfolding hide_rec
hide_again true r = rw (pick_twice (numbered r.call) 0 r.a, pick_twice (twice r.call) 0 r.b)
hide_again false r = refl

pub hide_true : (b : Bool) (rs : List Rec) → hide true (hide b rs) ≡ hide true rs
hide_true b [] = refl
hide_true b (r ∷ rs) = rw (hide_again b r, hide_true b rs)

pub hide_at : (b : Bool) (rs : List Rec) (k : ℕ) → get_or (hide b rs) k no_rec ≡ hide_rec b (get_or rs k no_rec)
unfolding hide_rec
hide_at true [] k = refl
hide_at false [] k = refl
hide_at b (r ∷ rs) zero = refl
hide_at b (r ∷ rs) (suc k) = hide_at b rs k

-- changes that agree where they are made agree
pub change_hidden : (b : Bool) (f g : Rec → Rec) (rs is : List Rec) (k : ℕ) → hide b rs ≡ hide b is
    → hide_rec b (f (get_or rs k no_rec)) ≡ hide_rec b (g (get_or is k no_rec)) → hide b (change f rs k) ≡ hide b (change g is k)
unfolding change
change_hidden b f g [] [] k e w = refl
change_hidden b f g [] (i ∷ is) k e w = absurd (let z : ◌≡◌ {A = ℕ} 0 1 = cc in omega arith)
change_hidden b f g (r ∷ rs) [] k e w = absurd (let z : ◌≡◌ {A = ℕ} 0 1 = cc in omega arith)
change_hidden b f g (r ∷ rs) (i ∷ is) zero e w = let t : hide b rs ≡ hide b is = cc in rw (w, t)
change_hidden b f g (r ∷ rs) (i ∷ is) (suc k) e w =
    let t : hide b rs ≡ hide b is = cc in
    let h : hide_rec b r ≡ hide_rec b i = cc in
    rw (h, change_hidden b f g rs is k t w)

-- a change that does not read what is hidden
pub hide_change : (b : Bool) (f : Rec → Rec) (r i : Rec) → ((x : Rec) → hide_rec b (f x) ≡ hide_rec b (f (hide_rec b x))) → hide_rec b r ≡ hide_rec b i → hide_rec b (f r) ≡ hide_rec b (f i)
hide_change b f r i h e = h r ∙ ap (λ (z : Rec). hide_rec b (f z)) e ∙ sym (h i)

pub hide_with_a : (b : Bool) (v : ℕ) (r : Rec) → hide_rec b (with_a v r) ≡ hide_rec b (with_a v (hide_rec b r))
unfolding hide_rec
hide_with_a true v r = rw (pick_twice (twice r.call) 0 r.b)
hide_with_a false v r = refl

pub hide_with_c : (b : Bool) (v : ℕ) (r : Rec) → hide_rec b (with_c v r) ≡ hide_rec b (with_c v (hide_rec b r))
unfolding hide_rec
hide_with_c true v r = rw (pick_twice (numbered r.call) 0 r.a, pick_twice (twice r.call) 0 r.b)
hide_with_c false v r = refl

pub hide_settled : (b : Bool) (v : ℕ) (r : Rec) → hide_rec b (settled v r) ≡ hide_rec b (settled v (hide_rec b r))
unfolding hide_rec
hide_settled true v r = refl
hide_settled false v r = refl

pub hide_unlabelled : (b : Bool) (r : Rec) → hide_rec b (unlabelled r) ≡ hide_rec b (unlabelled (hide_rec b r))
unfolding hide_rec
hide_unlabelled true r = rw (pick_twice (numbered r.call) 0 r.a)
hide_unlabelled false r = refl

-- numbers may differ where they are hidden
pub hide_number : (b : Bool) (k l : ℕ) (r : Range) (x y z c : ℕ) → numbered k ≡ true → (b ≡ false → x ≡ y) → hide_rec b (rec k l r x z c) ≡ hide_rec b (rec k l r y z c)
unfolding hide_rec
hide_number true k l r x y z c n e = rw n
hide_number false k l r x y z c n e = rw (e refl)

pub hide_numbers : (b : Bool) (k l : ℕ) (r : Range) (x y u v c : ℕ) → numbered k ≡ true → twice k ≡ true → (b ≡ false → x ≡ y) → (b ≡ false → u ≡ v)
    → hide_rec b (rec k l r x u c) ≡ hide_rec b (rec k l r y v c)
unfolding hide_rec
hide_numbers true k l r x y u v c n m e f = rw (n, m)
hide_numbers false k l r x y u v c n m e f = rw (e refl, f refl)

-- what is never hidden
pub hide_call : (b : Bool) (r : Rec) → (hide_rec b r).call ≡ r.call
unfolding hide_rec
hide_call true r = refl
hide_call false r = refl

pub hide_line : (b : Bool) (r : Rec) → (hide_rec b r).line ≡ r.line
unfolding hide_rec
hide_line true r = refl
hide_line false r = refl

pub hide_c : (b : Bool) (r : Rec) → (hide_rec b r).c ≡ r.c
unfolding hide_rec
hide_c true r = refl
hide_c false r = refl

pub hide_b : (b : Bool) (r : Rec) → twice r.call ≡ false → (hide_rec b r).b ≡ r.b
unfolding hide_rec
hide_b true r e = rw e
hide_b false r e = refl

-- every WHILE has its end not known
abbrev pub fresh_rec : Rec → Bool
fresh_rec r = fresh r.call r.b

unfoldable pub all_fresh : List Rec → Bool
all_fresh [] = true
all_fresh (r ∷ rs) = both (fresh_rec r) (all_fresh rs)

pub fresh_snoc : (rs : List Rec) (r : Rec) → all_fresh rs ≡ true → fresh_rec r ≡ true → all_fresh (rs ++ (r ∷ [])) ≡ true
unfolding all_fresh
fresh_snoc [] r e f = rw f
fresh_snoc (x ∷ rs) r e f = rw (both_left (fresh_rec x) (all_fresh rs) e, fresh_snoc rs r (both_right (fresh_rec x) (all_fresh rs) e) f)

pub fresh_at : (rs : List Rec) (k : ℕ) → all_fresh rs ≡ true → fresh_rec (get_or rs k no_rec) ≡ true
unfolding all_fresh
fresh_at [] k e = refl
fresh_at (r ∷ rs) zero e = both_left (fresh_rec r) (all_fresh rs) e
fresh_at (r ∷ rs) (suc k) e = fresh_at rs k (both_right (fresh_rec r) (all_fresh rs) e)

pub fresh_change : (f : Rec → Rec) (rs : List Rec) (k : ℕ) → all_fresh rs ≡ true → fresh_rec (f (get_or rs k no_rec)) ≡ true → all_fresh (change f rs k) ≡ true
unfolding all_fresh change
fresh_change f [] k e w = refl
fresh_change f (r ∷ rs) zero e w = rw (w, both_right (fresh_rec r) (all_fresh rs) e)
fresh_change f (r ∷ rs) (suc k) e w = rw (both_left (fresh_rec r) (all_fresh rs) e, fresh_change f rs k (both_right (fresh_rec r) (all_fresh rs) e) w)

-- b is hidden of no WHILE
fresh_hidden : (b : Bool) (r : Rec) → fresh_rec (hide_rec b r) ≡ fresh_rec r
unfolding hide_rec
fresh_hidden false r = refl
fresh_hidden true r = go (eqb r.call 25) refl
  where
    go : (w : Bool) → eqb r.call 25 ≡ w → fresh_rec (hide_rec true r) ≡ fresh_rec r
    go true e = rw (eqb-true r.call 25 e)
    go false e = rw e

pub all_hidden : (b : Bool) (rs : List Rec) → all_fresh (hide b rs) ≡ all_fresh rs
unfolding all_fresh
all_hidden b [] = refl
all_hidden b (r ∷ rs) = rw (fresh_hidden b r, all_hidden b rs)
