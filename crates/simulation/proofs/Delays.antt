-- convert_for_loop_to_sleep on words is the rules' delays on records.
use mathlib.Core.Path.{◌≡◌, refl, ap, ◌∙◌}
use mathlib.Core.List.{List, ◌++◌}
use mathlib.Core.Bool.{Bool, true, false}
use Prim.Native.Nat.{ℕ, zero, suc, ◌+◌, ◌-◌, ◌≤◌, ◌<◌, ◌/◌}
use lib.Dec.{eqb}
use lib.ListN.{length, get_or, length-set, get_or-eq_default}
use borrow.Author.Tests.{eqb-true}
use native.Mathlib.Decide.{dec_lt}
use native.Mathlib.Omega.{arith}
use Rattle.recorder.specs.Word.{pick, both, either}
use Rattle.recorder.specs.Ideal.{Rec, rec, no_rec, change}
use Rattle.recorder.specs.Layout.{rec_words, words_of, fill}
use Rattle.recorder.specs.Closing.{is_start, is_end, is_one, is_for, is_next_of, rec_at, is_delay, is_stepped_delay, rounded, no_op, sleep, whole_end, delayed, stepped_delayed, delay_from, delays}
use Rattle.recorder.specs.Mem.{rec_of, at_rec, rewrite, whole_at, delay_at, stepped_at, delayed_at, stepped_delayed_at, delay_list, delays_from}
use Rattle.recorder.proofs.Words.{head_again, change_length, cut_rec, rec_of_lem}
use Rattle.recorder.proofs.Bools.{both_parts}
use Rattle.simulation.proofs.Change.{change_same, change_none}
use Rattle.simulation.proofs.Sim.{at_words, at_long}

-- a list of words that holds records, and zeros behind
pub record Holds (size : ℕ) (rs : List Rec) (l : List ℕ) : Type 0 where
  pub words_are : l ≡ fill size (words_of rec_words rs)
  pub long : length l ≡ size
  pub room : length rs ≤ size / 5

pub holds_rec : {size : ℕ} {rs : List Rec} {l : List ℕ} → Holds size rs l → (k : ℕ) → rec_of l k ≡ cut_rec (get_or rs k no_rec)
holds_rec {size} {rs} {l} h k = rw h.words_are (rec_of_lem rs (size - length (words_of rec_words rs)) k)

-- a record written is a record changed
pub holds_at : (w : List ℕ → List ℕ) (g : Rec → Rec) → ((r : Rec) (ys : List ℕ) → w (rec_words r ++ ys) ≡ rec_words (g r) ++ ys) → ((p : List ℕ) → length (w p) ≡ length p)
    → {size : ℕ} {rs : List Rec} {l : List ℕ} → Holds size rs l → (k : ℕ) → k < length rs → Holds size (change g rs k) (at_rec w l k)
holds_at w g e n {size} {rs} {l} h k i = record {
  words_are = at_words w g e size rs l k h.words_are h.long i h.room;
  long = at_long w n l k ∙ h.long;
  room = rw (change_length g rs k) h.room;
}

pub holds_rewrite : {size : ℕ} {rs : List Rec} {l : List ℕ} → Holds size rs l → (k c x y z : ℕ) → k < length rs
    → Holds size (change (λ (r : Rec). rec c r.line r.range x y z) rs k) (at_rec (rewrite c x y z) l k)
holds_rewrite h k c x y z i = holds_at (rewrite c x y z) (λ (r : Rec). rec c r.line r.range x y z) (λ r ys. rw (head_again c r.call r.line)) (λ p. simp length-set) h k i

holds_whole : {size : ℕ} {rs : List Rec} {l : List ℕ} → Holds size rs l → (k : ℕ) → k < length rs → Holds size (change whole_end rs k) (whole_at l k)
unfolding whole_at
holds_whole {size} {rs} {l} h k i = rw (ap (λ (z : Rec). z.call) q, ap (λ (z : Rec). z.a) q, ap (λ (z : Rec). z.b) q) (go (eqb (get_or rs k no_rec).call 3) refl)
  where
    r : Rec
    r = get_or rs k no_rec

    q : rec_of l k ≡ cut_rec r
    q = holds_rec h k

    go : (c : Bool) → eqb (get_or rs k no_rec).call 3 ≡ c
        → Holds size (change whole_end rs k) (pick c (at_rec (rewrite 3 (rounded (get_or rs k no_rec).a (get_or rs k no_rec).b).e (rounded (get_or rs k no_rec).a (get_or rs k no_rec).b).m 0) l k) l)
    go true e = rw (change_same whole_end (λ (z : Rec). rec 3 z.line z.range (rounded r.a r.b).e (rounded r.a r.b).m 0) rs k (rw e))
        (holds_rewrite h k 3 (rounded r.a r.b).e (rounded r.a r.b).m 0 i)
    go false e = rw (change_none whole_end rs k (rw e)) h

-- the tests
four_same : (f : Rec → Rec → Rec → Rec → Bool) {a b c d x y z w : Rec} → a ≡ x → b ≡ y → c ≡ z → d ≡ w → f a b c d ≡ f x y z w
four_same f e g h i = rw (e, g, h, i)

five_same : (f : Rec → Rec → Rec → Rec → Rec → Bool) {a b c d e x y z w v : Rec} → a ≡ x → b ≡ y → c ≡ z → d ≡ w → e ≡ v → f a b c d e ≡ f x y z w v
five_same f e g h i j = rw (e, g, h, i, j)

delay_is : {size : ℕ} {rs : List Rec} {l : List ℕ} → Holds size rs l → (k : ℕ) → delay_at l k ≡ is_delay rs k
unfolding delay_at
delay_is h k = four_same (λ a b c d. both (is_start a) (both (is_end b) (both (is_for 0 c) (is_next_of c d)))) (holds_rec h k) (holds_rec h (k + 1)) (holds_rec h (k + 2)) (holds_rec h (k + 3))

stepped_is : {size : ℕ} {rs : List Rec} {l : List ℕ} → Holds size rs l → (k : ℕ) → stepped_at l k ≡ is_stepped_delay rs k
unfolding stepped_at
stepped_is h k = five_same (λ a b c d e. both (is_start a) (both (is_end b) (both (is_one c) (both (is_for 1 d) (is_next_of d e))))) (holds_rec h k) (holds_rec h (k + 1)) (holds_rec h (k + 2)) (holds_rec h (k + 3)) (holds_rec h (k + 4))

-- a record that is there
call_there : (rs : List Rec) (k c : ℕ) → eqb (get_or rs k no_rec).call c ≡ true → 0 < c → k < length rs
call_there rs k c e h = go (dec_lt k (length rs))
  where
    go : Dec (k < length rs) → k < length rs
    go (yes d) = d
    go (no d) =
        let z : get_or rs k no_rec ≡ no_rec = get_or-eq_default rs no_rec {n = k} (omega arith) in
        let y : (get_or rs k no_rec).call ≡ 0 = ap (λ (x : Rec). x.call) z in
        absurd (omega (arith, eqb-true (get_or rs k no_rec).call c e))

delay_there : (rs : List Rec) (k : ℕ) → is_delay rs k ≡ true → k + 3 < length rs
delay_there rs k e =
    let a = both_parts (is_start (rec_at rs k)) (both (is_end (rec_at rs (k + 1))) (both (is_for 0 (rec_at rs (k + 2))) (is_next_of (rec_at rs (k + 2)) (rec_at rs (k + 3))))) e in
    let b = both_parts (is_end (rec_at rs (k + 1))) (both (is_for 0 (rec_at rs (k + 2))) (is_next_of (rec_at rs (k + 2)) (rec_at rs (k + 3)))) a.1 in
    let c = both_parts (is_for 0 (rec_at rs (k + 2))) (is_next_of (rec_at rs (k + 2)) (rec_at rs (k + 3))) b.1 in
    let d = both_parts (eqb (rec_at rs (k + 3)).call 24) (either (eqb (rec_at rs (k + 3)).a 0) (eqb (rec_at rs (k + 3)).a ((rec_at rs (k + 2)).a + 1))) c.1 in
    call_there rs (k + 3) 24 d.0 (omega arith)

stepped_there : (rs : List Rec) (k : ℕ) → is_stepped_delay rs k ≡ true → k + 4 < length rs
stepped_there rs k e =
    let a = both_parts (is_start (rec_at rs k)) (both (is_end (rec_at rs (k + 1))) (both (is_one (rec_at rs (k + 2))) (both (is_for 1 (rec_at rs (k + 3))) (is_next_of (rec_at rs (k + 3)) (rec_at rs (k + 4)))))) e in
    let b = both_parts (is_end (rec_at rs (k + 1))) (both (is_one (rec_at rs (k + 2))) (both (is_for 1 (rec_at rs (k + 3))) (is_next_of (rec_at rs (k + 3)) (rec_at rs (k + 4))))) a.1 in
    let c = both_parts (is_one (rec_at rs (k + 2))) (both (is_for 1 (rec_at rs (k + 3))) (is_next_of (rec_at rs (k + 3)) (rec_at rs (k + 4)))) b.1 in
    let f = both_parts (is_for 1 (rec_at rs (k + 3))) (is_next_of (rec_at rs (k + 3)) (rec_at rs (k + 4))) c.1 in
    let d = both_parts (eqb (rec_at rs (k + 4)).call 24) (either (eqb (rec_at rs (k + 4)).a 0) (eqb (rec_at rs (k + 4)).a ((rec_at rs (k + 3)).a + 1))) f.1 in
    call_there rs (k + 4) 24 d.0 (omega arith)

-- a delay made
delayed_holds : {size : ℕ} {rs : List Rec} {l : List ℕ} → Holds size rs l → (k : ℕ) → k + 3 < length rs → Holds size (delayed rs k) (delayed_at l k)
unfolding delayed_at
delayed_holds {size} {rs} {l} h k i =
    let a = change_length no_op rs k in
    let s1 = holds_rewrite h k 1 0 0 0 (omega arith) in
    let b = change_length whole_end (change no_op rs k) (k + 1) in
    let s2 = holds_whole s1 (k + 1) (omega arith) in
    let c = change_length sleep (change whole_end (change no_op rs k) (k + 1)) (k + 2) in
    let s3 = holds_rewrite s2 (k + 2) 2 65 1 0 (omega arith) in
    holds_rewrite s3 (k + 3) 1 0 0 0 (omega arith)

stepped_holds : {size : ℕ} {rs : List Rec} {l : List ℕ} → Holds size rs l → (k : ℕ) → k + 4 < length rs → Holds size (stepped_delayed rs k) (stepped_delayed_at l k)
unfolding stepped_delayed_at
stepped_holds {size} {rs} {l} h k i =
    let a = change_length no_op rs k in
    let s1 = holds_rewrite h k 1 0 0 0 (omega arith) in
    let b = change_length whole_end (change no_op rs k) (k + 1) in
    let s2 = holds_whole s1 (k + 1) (omega arith) in
    let c = change_length no_op (change whole_end (change no_op rs k) (k + 1)) (k + 2) in
    let s3 = holds_rewrite s2 (k + 2) 1 0 0 0 (omega arith) in
    let d = change_length sleep (change no_op (change whole_end (change no_op rs k) (k + 1)) (k + 2)) (k + 3) in
    let s4 = holds_rewrite s3 (k + 3) 2 65 1 0 (omega arith) in
    holds_rewrite s4 (k + 4) 1 0 0 0 (omega arith)

delay_step : {size : ℕ} {rs : List Rec} {l : List ℕ} → Holds size rs l → (k : ℕ) → Holds size (delay_from rs k) (delay_list l k)
unfolding delay_from delay_list
delay_step {size} {rs} {l} h k = rw (delay_is h k, stepped_is h k) (go (is_delay rs k) (is_stepped_delay rs k) refl refl)
  where
    go : (a b : Bool) → is_delay rs k ≡ a → is_stepped_delay rs k ≡ b
        → Holds size (pick a (delayed rs k) (pick b (stepped_delayed rs k) rs)) (pick a (delayed_at l k) (pick b (stepped_delayed_at l k) l))
    go true b e f = delayed_holds h k (delay_there rs k e)
    go false true e f = stepped_holds h k (stepped_there rs k f)
    go false false e f = h

pub delays_hold : {size : ℕ} (n k : ℕ) {rs : List Rec} {l : List ℕ} → Holds size rs l → Holds size (delays n k rs) (delays_from l k n)
unfolding delays delays_from
delays_hold zero k h = h
delays_hold (suc n) k h = delays_hold n (k + 1) (delay_step h k)
