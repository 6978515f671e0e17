-- One law for each way out of a function whose contract is not plain: premises are what its calls ensure, the conclusion is its contract.
use Rattle.std.specs.Prelude.{Option, None, Some, unwrap_or}
use mathlib.Core.Path.{◌≡◌, refl, ◌∙◌}
use mathlib.Core.List.{List}
use mathlib.Core.Bool.{Bool, true, false}
use Prim.Native.Nat.{ℕ, zero, suc, ◌+◌, ◌*◌, ◌-◌, ◌≤◌, ◌<◌, ◌/◌, ◌%◌}
use lib.Dec.{ltb}
use lib.ListN.{length, get_or, set, length-set}
use borrow.Author.Tests.{lt-ltb, le-ltb, eq-eqb, ne_eqb}
use native.Mathlib.Numerals.{sub-one}
use native.Mathlib.Omega.{arith}
use Rattle.recorder.specs.declared.codegen.Descent.{Descent}
use Rattle.recorder.specs.declared.codegen.State.{State}
use Rattle.recorder.specs.Word.{pick, next}
use Rattle.recorder.specs.Optional.{plus_one}
use Rattle.recorder.specs.Name.{upper, same_units}
use Rattle.recorder.specs.Mem.{known, sigil_code, with_link, tag_of, name_tag, tagged_at, named_at, lookup, hash_step, hash_of, child_of, descent_from, descent_to, linked_at, note_st}

-- the units' loop: one turn, a difference, the end
pub units_step : (t : List ℕ) (p q n p' q' x y u v : ℕ) (z : Bool) → 0 < n → same_units t p q n ≡ z → x ≡ get_or t p 0 → y ≡ get_or t q 0 → u ≡ upper x → v ≡ upper y
    → u ≡ v → p' ≡ next t p → q' ≡ next t q → same_units t p' q' (n - 1) ≡ z
unfolding same_units
units_step t p q zero p' q' x y u v z h e a b c d s i j = absurd (omega arith)
units_step t p q (suc n) p' q' x y u v z h e a b c d s i j = rw (sub-one, i, j)
    (rw (eq-eqb (upper (get_or t p 0)) (upper (get_or t q 0)) (rw (← a, ← b, ← c, ← d) s)) at e)

pub units_stop : (t : List ℕ) (p q n x y u v : ℕ) (z : Bool) → 0 < n → same_units t p q n ≡ z → x ≡ get_or t p 0 → y ≡ get_or t q 0 → u ≡ upper x → v ≡ upper y
    → (u ≡ v → ⊥) → false ≡ z
unfolding same_units
units_stop t p q zero x y u v z h e a b c d s = absurd (omega arith)
units_stop t p q (suc n) x y u v z h e a b c d s =
    rw (ne_eqb (upper (get_or t p 0)) (upper (get_or t q 0)) (rw (← a, ← b, ← c, ← d) s)) at e

pub units_end : (t : List ℕ) (p q n : ℕ) (z : Bool) → n ≤ 0 → same_units t p q n ≡ z → true ≡ z
unfolding same_units
units_end t p q zero z h e = e
units_end t p q (suc n) z h e = absurd (omega arith)

-- an entry compared with a name's tag is compared with the name
pub by_tag : (t b : List ℕ) (k v x n g : ℕ) (f : Bool) → v ≡ name_tag t x n g → f ≡ tagged_at t b k v x n g → f ≡ named_at t b k x n g
by_tag t b k v x n g f e i = i ∙ rw e

pub tag_of_name : (t : List ℕ) (v x n g h : ℕ) → h ≡ hash_of t x (sigil_code g) n → v ≡ tag_of h → v ≡ name_tag t x n g
tag_of_name t v x n g h j e = e ∙ rw j

-- the search past the tree: one turn, the name, the end
pub find_step : (t b : List ℕ) (x n g k left z : ℕ) (f : Bool) → 0 < left → lookup t b x n g k left ≡ z → f ≡ named_at t b k x n g → f ≡ false
    → lookup t b x n g (k + 1) (left - 1) ≡ z
unfolding lookup
find_step t b x n g k zero z f h e j o = absurd (omega arith)
find_step t b x n g k (suc left) z f h e j o = rw sub-one (rw (← j, o) at e)

pub find_stop : (t b : List ℕ) (x n g k left z : ℕ) (f : Bool) → 0 < left → lookup t b x n g k left ≡ z → f ≡ named_at t b k x n g → f ≡ true → k ≡ z
unfolding lookup
find_stop t b x n g k zero z f h e j o = absurd (omega arith)
find_stop t b x n g k (suc left) z f h e j o = rw (← j, o) at e

pub find_end : (t b : List ℕ) (x n g k left z : ℕ) → left ≤ 0 → lookup t b x n g k left ≡ z → k ≡ z
unfolding lookup
find_end t b x n g k zero z h e = e
find_end t b x n g k (suc left) z h e = absurd (omega arith)

pub found_from : (t b : List ℕ) (x n g from end left m k : ℕ) → end ≡ m → left ≡ end - from → k ≡ lookup t b x n g from left → k ≡ lookup t b x n g from (m - from)
found_from t b x n g from end left m k e f i = i ∙ rw (f, e)

-- the hash of a name
pub hash_next : (t : List ℕ) (p h n p' h' x u z : ℕ) → 0 < n → hash_of t p h n ≡ z → x ≡ get_or t p 0 → u ≡ upper x → h' ≡ hash_step h u → p' ≡ next t p
    → hash_of t p' h' (n - 1) ≡ z
unfolding hash_of
hash_next t p h zero p' h' x u z l e a b c d = absurd (omega arith)
hash_next t p h (suc n) p' h' x u z l e a b c d = rw (sub-one, c, b, a, d) e

pub hash_end : (t : List ℕ) (p h n z : ℕ) → n ≤ 0 → hash_of t p h n ≡ z → h ≡ z
unfolding hash_of
hash_end t p h zero z l e = e
hash_end t p h (suc n) z l e = absurd (omega arith)

-- the descent to a name: one turn; it ends at the name, where its child is no later entry, where it is past the last, or with `left`
abbrev pub descent : ℕ → ℕ → Descent
descent at bits = record { at = at; bits = bits }

pub descent_step : (t b : List ℕ) (end x n g at bits left k bits' : ℕ) (f : Bool) (w : Descent) → 0 < left → descent_from t b end x n g (descent at bits) left ≡ w
    → f ≡ named_at t b at x n g → f ≡ false → k ≡ child_of b (descent at bits) → at < k → k < end → bits' ≡ bits * 2 % 4294967296
    → descent_from t b end x n g (descent k bits') (left - 1) ≡ w
unfolding descent_from
descent_step t b end x n g at bits zero k bits' f w h e i j o p q r = absurd (omega arith)
descent_step t b end x n g at bits (suc left) k bits' f w h e i j o p q r =
    rw (sub-one, r) (rw (← i, j, ← o, lt-ltb at k p, lt-ltb k end q) at e)

pub descent_here : (t b : List ℕ) (end x n g at bits left : ℕ) (f : Bool) (w : Descent) → 0 < left → descent_from t b end x n g (descent at bits) left ≡ w
    → f ≡ named_at t b at x n g → f ≡ true → descent at bits ≡ w
unfolding descent_from
descent_here t b end x n g at bits zero f w h e i j = absurd (omega arith)
descent_here t b end x n g at bits (suc left) f w h e i j = rw (← i, j) at e

pub descent_none : (t b : List ℕ) (end x n g at bits left k : ℕ) (f : Bool) (w : Descent) → 0 < left → descent_from t b end x n g (descent at bits) left ≡ w
    → f ≡ named_at t b at x n g → f ≡ false → k ≡ child_of b (descent at bits) → k ≤ at → descent at bits ≡ w
unfolding descent_from
descent_none t b end x n g at bits zero k f w h e i j o p = absurd (omega arith)
descent_none t b end x n g at bits (suc left) k f w h e i j o p = rw (← i, j, ← o, le-ltb at k p) at e

pub descent_past : (t b : List ℕ) (end x n g at bits left k : ℕ) (f : Bool) (w : Descent) → 0 < left → descent_from t b end x n g (descent at bits) left ≡ w
    → f ≡ named_at t b at x n g → f ≡ false → k ≡ child_of b (descent at bits) → at < k → end ≤ k → descent at bits ≡ w
unfolding descent_from
descent_past t b end x n g at bits zero k f w h e i j o p q = absurd (omega arith)
descent_past t b end x n g at bits (suc left) k f w h e i j o p q = rw (← i, j, ← o, lt-ltb at k p, le-ltb k end q) at e

pub descent_end : (t b : List ℕ) (end x n g at bits left : ℕ) (w : Descent) → left ≤ 0 → descent_from t b end x n g (descent at bits) left ≡ w → descent at bits ≡ w
unfolding descent_from
descent_end t b end x n g at bits zero w h e = e
descent_end t b end x n g at bits (suc left) w h e = absurd (omega arith)

-- the first name's place, by the number that is one more
root_place : (o : Option ℕ) → unwrap_or o 0 ≡ plus_one o - 1
root_place None = refl
root_place (Some k) = rw sub-one refl

pub descent_all : (t b : List ℕ) (st : State) (end x n g at bits : ℕ) (w : Descent) → end ≡ known b st → at ≡ unwrap_or st.root 0 → bits ≡ hash_of t x (sigil_code g) n
    → w ≡ descent_from t b end x n g (descent at bits) end → w ≡ descent_to t b st x n g
unfolding descent_to
descent_all t b st end x n g at bits w i j l e = e ∙ rw (l, j ∙ root_place st.root, i)

-- a new name is linked
pick_length : (f : Bool) (a b : List ℕ) → length a ≡ length b → length (pick f a b) ≡ length b
pick_length true a b e = e
pick_length false a b e = refl

pub linked_length : (b : List ℕ) (k : ℕ) (w : Descent) → length (linked_at b k w) ≡ length b
unfolding linked_at
linked_length b k w = pick_length (ltb w.at (length b / 4)) (set b (4 * w.at + 3) (with_link (ltb 2147483647 w.bits) (get_or b (4 * w.at + 3) 0) k)) b (length-set b (4 * w.at + 3) _)

-- a note leaves the state's other numbers
pub note_records : (l : List ℕ) (s : State) → (note_st l s).records ≡ s.records
unfolding note_st
note_records l s = go (ltb s.notes (length l / 4))
  where
    go : (c : Bool) → (pick c (record s { notes = s.notes + 1 }) (record s { notes_full = true })).records ≡ s.records
    go true = refl
    go false = refl

pub note_list_full : (l : List ℕ) (s : State) → (note_st l s).list_full ≡ s.list_full
unfolding note_st
note_list_full l s = go (ltb s.notes (length l / 4))
  where
    go : (c : Bool) → (pick c (record s { notes = s.notes + 1 }) (record s { notes_full = true })).list_full ≡ s.list_full
    go true = refl
    go false = refl
