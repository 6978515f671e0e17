-- The laws of closing up: a law for each way out.
use mathlib.Core.Path.{◌≡◌, refl, sym, ap, ◌∙◌}
use mathlib.Core.List.{List}
use mathlib.Core.Bool.{Bool, true, false}
use Prim.Native.Nat.{ℕ, suc, ◌+◌, ◌*◌, ◌-◌, ◌≤◌, ◌<◌, ◌/◌, ◌%◌, ◌^◌}
use lib.Dec.{ltb, eqb}
use lib.ListN.{length, get_or, set}
use borrow.Author.Tests.{lt-ltb, le-ltb, eq-eqb, ne_eqb}
use native.Mathlib.Nat.{pow-le-pow_right, one-le-pow, div-mul-le_self}
use native.Mathlib.Omega.{arith}
use Rattle.recorder.specs.Word.{pick, both, either, kind_at, word_of}
use Rattle.recorder.specs.Ideal.{Rec}
use Rattle.recorder.specs.Closing.{is_while, is_wend, is_end, nearest, rounded}
use Rattle.closing.specs.Parts.{passed_of}
use Rattle.recorder.specs.Mem.{Mem, mem, put_note, link_at, rec_of, set_b, at_rec, while_list, while_top, Passed, passed, open_from, sigil_of, unlink_at, unlink_from}
use Rattle.recorder.proofs.Bools.{true_not_false, both_false}

-- tests in a row
pub both_no : (a b f : Bool) → f ≡ a → f ≡ false → false ≡ both a b
both_no true b f e g = true_not_false (sym e ∙ g)
both_no false b f e g = refl

pub either_yes : (a b f : Bool) → f ≡ a → f ≡ true → true ≡ either a b
either_yes true b f e g = refl
either_yes false b f e g = true_not_false (sym g ∙ e)

pub either_no : (a b f x : Bool) → f ≡ a → f ≡ false → x ≡ b → x ≡ either a b
either_no true b f x e g h = true_not_false (sym e ∙ g)
either_no false b f x e g h = h

pub pick_yes : {A : Type 0} (c f : Bool) (a b x : A) → f ≡ c → f ≡ true → x ≡ a → x ≡ pick c a b
pick_yes true f a b x e g h = h
pick_yes false f a b x e g h = true_not_false (sym g ∙ e)

pub pick_no : {A : Type 0} (c f : Bool) (a b x : A) → f ≡ c → f ≡ false → x ≡ b → x ≡ pick c a b
pick_no true f a b x e g h = true_not_false (sym e ∙ g)
pick_no false f a b x e g h = h

pub at_beyond : (f : List ℕ → List ℕ) (l : List ℕ) (k : ℕ) → length l / 5 ≤ k → l ≡ at_rec f l k
unfolding at_rec
at_beyond f l k i = rw (le-ltb k (length l / 5) i)

pub while_other : (l : List ℕ) (top k c : ℕ) (f : Bool) → c ≡ (rec_of l k).call → (c ≡ 25 → ⊥) → f ≡ is_wend (rec_of l k) → f ≡ false → (l ≡ while_list l top k) × (top ≡ while_top l top k)
unfolding while_list while_top
while_other l top k c f e g h i =
    let w : is_while (rec_of l k) ≡ false = ne_eqb (rec_of l k).call 25 (λ z. g (e ∙ z)) in
    let v : is_wend (rec_of l k) ≡ false = sym h ∙ i in
    (rw (w, v), rw (w, v))

-- the WHILEs that are open
pub open_step_lem : (m m1 : Mem) (l : List ℕ) (t t' k end : ℕ) (P : Passed) → k < end → open_from (passed_of m) t (end - k) ≡ P → (t ≡ 0 → ⊥) → t' ≡ link_at m.list (t - 1)
    → m1 ≡ put_note m (word_of 13 (get_or m.list (5 * (t - 1)) 0)) (get_or m.list (5 * (t - 1) + 1) 0) 1 0 → l ≡ at_rec (set_b 4294967295) m1.list (t - 1)
    → open_from (passed l m1.notes m1.st) t' (end - (k + 1)) ≡ P
unfolding open_from
open_step_lem m m1 l t t' k end P h e z b g x =
    let q : end - k ≡ suc (end - (k + 1)) = omega arith in
    rw (x, g, b) (rw (ne_eqb t 0 z) at (rw q at e))

pub open_stop : (m : Mem) (b : List ℕ) (t k end : ℕ) (P : Passed) → k < end → m.book ≡ b → open_from (passed_of m) t (end - k) ≡ P → t ≡ 0 → m ≡ mem P.list P.notes b P.st
unfolding open_from
open_stop m b t k end P h i e z =
    let q : end - k ≡ suc (end - (k + 1)) = omega arith in
    let p : passed_of m ≡ P = rw (eq-eqb t 0 z) at (rw q at e) in
    rw (← i, ← p) refl

pub open_end : (m : Mem) (b : List ℕ) (t k end : ℕ) (P : Passed) → end ≤ k → m.book ≡ b → open_from (passed_of m) t (end - k) ≡ P → m ≡ mem P.list P.notes b P.st
unfolding open_from
open_end m b t k end P h i e =
    let q : end - k ≡ 0 = omega arith in
    let p : passed_of m ≡ P = rw q at e in
    rw (← i, ← p) refl

-- powers of two
pub pow_small : (u k : ℕ) → u ≡ 2 ^ k → k ≤ 32 → (u ≡ 2 ^ k) × (0 < u) × (u ≤ 4294967296)
pow_small u k e h = (e, rw e (one-le-pow k 2 (omega arith)), rw e (pow-le-pow_right {n = 2} (omega arith) h))

-- the delay's end rounded: m has at most 32 bits, and with half a unit at most 33
pub nearest_bound : (m u : ℕ) → 0 < u → u ≤ 4294967296 → m < 4294967296 → nearest m u ≤ 6442450943
nearest_bound m u h i j = omega (arith, div-mul-le_self (m + u / 2) u)

pub rounded_low : (e m : ℕ) → e < 128 → (0 ≡ (rounded e m).e) × (0 ≡ (rounded e m).m)
unfolding rounded
rounded_low e m h = (rw (lt-ltb e 128 h), rw (lt-ltb e 128 h))

pub rounded_whole : (e m : ℕ) → 128 ≤ e → 160 ≤ e → (e ≡ (rounded e m).e) × (m ≡ (rounded e m).m)
unfolding rounded
rounded_whole e m h i = (rw (le-ltb e 128 h, le-ltb e 160 i), rw (le-ltb e 128 h, le-ltb e 160 i))

pub rounded_same : (e m u : ℕ) → 128 ≤ e → e < 160 → u ≡ 2 ^ (160 - e) → nearest m u < 4294967296 → (e ≡ (rounded e m).e) × (nearest m u ≡ (rounded e m).m)
unfolding rounded
rounded_same e m u h i z l =
    let t : ltb (nearest m (2 ^ (160 - e))) 4294967296 ≡ true = lt-ltb (nearest m (2 ^ (160 - e))) 4294967296 (rw z at l) in
    (rw (le-ltb e 128 h, lt-ltb e 160 i, t), rw (le-ltb e 128 h, lt-ltb e 160 i, t, z))

pub rounded_next : (e m u : ℕ) → 128 ≤ e → e < 160 → u ≡ 2 ^ (160 - e) → 4294967296 ≤ nearest m u → (e + 1 ≡ (rounded e m).e) × (nearest m u / 2 ≡ (rounded e m).m)
unfolding rounded
rounded_next e m u h i z l =
    let t : ltb (nearest m (2 ^ (160 - e))) 4294967296 ≡ false = le-ltb (nearest m (2 ^ (160 - e))) 4294967296 (rw z at l) in
    (rw (le-ltb e 128 h, lt-ltb e 160 i, t), rw (le-ltb e 128 h, lt-ltb e 160 i, t, z))

-- a number's or another record's test
pub end_other : (r : Rec) (c : ℕ) → c ≡ r.call → (c ≡ 3 → ⊥) → eqb c 5 ≡ is_end r
end_other r c e f = rw (ne_eqb r.call 3 (λ z. f (e ∙ z))) (ap (λ (z : ℕ). eqb z 5) e)

-- the names' tags and links go: a name, another entry, none; and all of them
pub unlink_name : (b : List ℕ) (k c u h w v : ℕ) → k < length b / 4 → c ≡ kind_at b (4 * k) → 127 < c → u ≡ get_or b (4 * k) 0 → h ≡ word_of 50 u → w ≡ get_or b (4 * k + 3) 0 → v ≡ sigil_of (w % 4)
    → set (set b (4 * k) h) (4 * k + 3) v ≡ unlink_at b k
unlink_name b k c u h w v r e f i j g l = rw (lt-ltb k (length b / 4) r, lt-ltb 127 (kind_at b (4 * k)) (rw e at f), l, g, j, i)

pub unlink_other : (b : List ℕ) (k c : ℕ) → c ≡ kind_at b (4 * k) → c ≤ 127 → b ≡ unlink_at b k
unlink_other b k c e f = rw (le-ltb 127 (kind_at b (4 * k)) (rw e at f), both_false (ltb k (length b / 4)))

pub unlink_none : (b : List ℕ) (k : ℕ) → length b / 4 ≤ k → b ≡ unlink_at b k
unlink_none b k h = rw (le-ltb k (length b / 4) h)

pub unlink_step : (b b' L : List ℕ) (k end : ℕ) → k < end → unlink_from b k (end - k) ≡ L → b' ≡ unlink_at b k → unlink_from b' (k + 1) (end - (k + 1)) ≡ L
unfolding unlink_from
unlink_step b b' L k end h e f =
    let q : end - k ≡ suc (end - (k + 1)) = omega arith in
    rw f (rw q at e)

pub unlink_end : (b L : List ℕ) (k end : ℕ) → end ≤ k → unlink_from b k (end - k) ≡ L → b ≡ L
unfolding unlink_from
unlink_end b L k end h e = let q : end - k ≡ 0 = omega arith in rw q at e
