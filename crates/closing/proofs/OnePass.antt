-- WHILEs and delays in one pass. A delay is made of records that are neither WHILE nor WEND, and leaves such records; the step of a
-- WHILE or a WEND writes argument b of a WHILE alone. So neither changes what the other reads.
use mathlib.Core.Path.{◌≡◌, refl, sym, ap, ◌∙◌}
use mathlib.Core.Logic.{◌⊎◌, inl, inr}
use mathlib.Core.List.{List, ◌++◌}
use mathlib.Core.Bool.{Bool, true, false}
use Prim.Native.Nat.{ℕ, zero, suc, ◌+◌, ◌*◌, ◌-◌, ◌≤◌, ◌<◌, ◌/◌}
use lib.Dec.{ltb, eqb}
use lib.ListN.{length, get_or, set, take, drop, length-set, take-append-drop, get_or-eq_default}
use lib.Seq.{length-take-le, take_at, drop_at, take-set-le, drop-set-add, get_or-drop, get_or-set_same, get_or-set_other, set_comm}
use borrow.Author.Tests.{lt-ltb, ltb-true, ltb-false, eqb-true, eqb-false, ne_eqb}
use native.Mathlib.Numerals.{add-one}
use native.Mathlib.Omega.{arith}
use Rattle.recorder.specs.declared.codegen.State.{State}
use Rattle.recorder.specs.Numbers.{unknown}
use Rattle.recorder.specs.Word.{pick, both, either, word_of}
use Rattle.recorder.specs.Ideal.{Rec, no_range}
use Rattle.recorder.specs.Closing.{is_while, is_wend, is_start, is_one, is_end, is_for, is_next_of, rounded}
use Rattle.recorder.specs.Mem.{Mem, mem, put, known, unlink_from, unlinked, clean_up, put_rec, put_st, note_list, note_st, part, rec_of, set_b, at_rec, link_at, while_list, while_top, whiles_from, top_from, Passed, passed, open_step, open_from, present, patch_whiles, rewrite, no_op_at, whole_at, delay_at, stepped_at, delayed_at, stepped_delayed_at, delay_list, delays_from, convert_delays, clean_up_all}
use Rattle.recorder.proofs.Words.{head_kind}
use Rattle.recorder.proofs.Bools.{true_not_false, both_left, both_right}
use Rattle.recorder.proofs.Laws.{note_records}
use Rattle.closing.specs.Parts.{with_passed}
use Rattle.closing.proofs.ClosingLaws.{at_beyond, while_other}

-- a record written, word by word
behind : (xs ys : List ℕ) (n i v : ℕ) → length xs ≡ n → xs ++ set ys i v ≡ set (xs ++ ys) (n + i) v
behind xs ys n i v e =
    let q : take n (set (xs ++ ys) (n + i) v) ≡ xs = take-set-le n (xs ++ ys) (n + i) v (omega arith) ∙ take_at xs ys n e in
    let p : drop n (set (xs ++ ys) (n + i) v) ≡ set ys i v = drop-set-add n (xs ++ ys) i v ∙ ap (λ (z : List ℕ). set z i v) (drop_at xs ys n e) in
    rw (q, p) at (take-append-drop n (set (xs ++ ys) (n + i) v))

b_set : (l : List ℕ) (k v : ℕ) → k < length l / 5 → at_rec (set_b v) l k ≡ set l (5 * k + 3) v
unfolding at_rec part
b_set l k v h = rw (lt-ltb k (length l / 5) h, behind (take (5 * k) l) (drop (5 * k) l) (5 * k) 3 v (length-take-le (5 * k) l (omega arith)), take-append-drop (5 * k) l)

abbrev stored : ℕ → ℕ → ℕ → ℕ → List ℕ → ℕ → List ℕ
stored h a b c l n = set (set (set (set l n h) (n + 2) a) (n + 3) b) (n + 4) c

stored_other : (h a b c : ℕ) (l : List ℕ) (n p : ℕ) → (p ≡ n → ⊥) → (p ≡ n + 2 → ⊥) → (p ≡ n + 3 → ⊥) → (p ≡ n + 4 → ⊥) → get_or (stored h a b c l n) p 0 ≡ get_or l p 0
stored_other h a b c l n p w x y z = simp get_or-set_other

stored_head : (h a b c : ℕ) (l : List ℕ) (n : ℕ) → n < length l → get_or (stored h a b c l n) n 0 ≡ h
stored_head h a b c l n i =
    let x : n ≡ n + 2 → ⊥ = λ e. omega arith in
    let y : n ≡ n + 3 → ⊥ = λ e. omega arith in
    let z : n ≡ n + 4 → ⊥ = λ e. omega arith in
    simp (get_or-set_other, get_or-set_same)

stored_a : (h a b c : ℕ) (l : List ℕ) (n : ℕ) → n + 2 < length l → get_or (stored h a b c l n) (n + 2) 0 ≡ a
stored_a h a b c l n i =
    let y : n + 2 ≡ n + 3 → ⊥ = λ e. omega arith in
    let z : n + 2 ≡ n + 4 → ⊥ = λ e. omega arith in
    let j : n + 2 < length (set l n h) = rw (length-set l n h) i in
    simp (get_or-set_other, get_or-set_same)

stored_comm : (h a b c : ℕ) (l : List ℕ) (n p v : ℕ) → (p ≡ n → ⊥) → (p ≡ n + 2 → ⊥) → (p ≡ n + 3 → ⊥) → (p ≡ n + 4 → ⊥) → stored h a b c (set l p v) n ≡ set (stored h a b c l n) p v
stored_comm h a b c l n p v w x y z =
    rw (set_comm l p n v h w, set_comm (set l n h) p (n + 2) v a x, set_comm (set (set l n h) (n + 2) a) p (n + 3) v b y, set_comm (set (set (set l n h) (n + 2) a) (n + 3) b) p (n + 4) v c z)

stored_behind : (h a b c : ℕ) (xs ys : List ℕ) (n : ℕ) → length xs ≡ n → xs ++ stored h a b c ys 0 ≡ stored h a b c (xs ++ ys) n
stored_behind h a b c xs ys n e =
    let z : n + 0 ≡ n = omega arith in
    behind xs (set (set (set ys 0 h) 2 a) 3 b) n 4 c e
    ∙ rw (behind xs (set (set ys 0 h) 2 a) n 3 b e, behind xs (set ys 0 h) n 2 a e, behind xs ys n 0 h e, z)

rewrite_stored : (l : List ℕ) (k call a b c : ℕ) → k < length l / 5 → at_rec (rewrite call a b c) l k ≡ stored (word_of call (get_or l (5 * k) 0)) a b c l (5 * k)
unfolding at_rec part
rewrite_stored l k call a b c h =
    let z : 5 * k + 0 ≡ 5 * k = omega arith in
    let d : get_or (drop (5 * k) l) 0 0 ≡ get_or l (5 * k) 0 = get_or-drop (5 * k) l 0 0 ∙ ap (λ (i : ℕ). get_or l i 0) z in
    rw (lt-ltb k (length l / 5) h, d)
    (stored_behind (word_of call (get_or l (5 * k) 0)) a b c (take (5 * k) l) (drop (5 * k) l) (5 * k) (length-take-le (5 * k) l (omega arith))
    ∙ rw (take-append-drop (5 * k) l))

-- argument b written, where the list has the record: every other word stays
b_either : (P : List ℕ → Type 0) (l : List ℕ) (k v : ℕ) → P l → P (set l (5 * k + 3) v) → P (at_rec (set_b v) l k)
b_either P l k v x y = go (ltb k (length l / 5)) refl
  where
    go : (c : Bool) → ltb k (length l / 5) ≡ c → P (at_rec (set_b v) l k)
    go true e = rw (b_set l k v (ltb-true k (length l / 5) e)) y
    go false e = rw (← at_beyond (set_b v) l k (ltb-false k (length l / 5) e)) x

b_elsewhere : (l : List ℕ) (k v p : ℕ) → (p ≡ 5 * k + 3 → ⊥) → get_or (at_rec (set_b v) l k) p 0 ≡ get_or l p 0
b_elsewhere l k v p n = b_either (λ m. get_or m p 0 ≡ get_or l p 0) l k v refl (get_or-set_other l (5 * k + 3) p v 0 n)

b_long : (l : List ℕ) (k v : ℕ) → length (at_rec (set_b v) l k) ≡ length l
b_long l k v = b_either (λ m. length m ≡ length l) l k v refl (length-set l (5 * k + 3) v)

-- What a step on the list keeps: the WHILEs with their words, the WENDs; and it does not matter whether it comes before or behind a
-- WHILE's argument b.
pub record Keeps (G : List ℕ → List ℕ) (l : List ℕ) : Type 0 where
  pub long : length (G l) ≡ length l
  pub whiles : (k : ℕ) → is_while (rec_of (G l) k) ≡ is_while (rec_of l k)
  pub wends : (k : ℕ) → is_wend (rec_of (G l) k) ≡ is_wend (rec_of l k)
  pub words : (k p : ℕ) → is_while (rec_of l k) ≡ true → 5 * k ≤ p → p < 5 * k + 5 → get_or (G l) p 0 ≡ get_or l p 0
  pub commutes : (k v : ℕ) → is_while (rec_of l k) ≡ true → G (at_rec (set_b v) l k) ≡ at_rec (set_b v) (G l) k

keeps_none : (l : List ℕ) → Keeps (λ (m : List ℕ). m) l
keeps_none l = record { long = refl; whiles = λ k. refl; wends = λ k. refl; words = λ k p w i j. refl; commutes = λ k v w. refl }

keeps_both : {G H : List ℕ → List ℕ} {l : List ℕ} → Keeps G l → Keeps H (G l) → Keeps (λ (m : List ℕ). H (G m)) l
keeps_both {G} {H} {l} g h = record {
  long = h.long ∙ g.long;
  whiles = λ k. h.whiles k ∙ g.whiles k;
  wends = λ k. h.wends k ∙ g.wends k;
  words = λ k p w i j. h.words k p (g.whiles k ∙ w) i j ∙ g.words k p w i j;
  commutes = λ k v w. ap H (g.commutes k v w) ∙ h.commutes k v (g.whiles k ∙ w);
}

-- a step that does on this list what another does
keeps_as : {G H : List ℕ → List ℕ} {l : List ℕ} → Keeps H l → G l ≡ H l → ((k v : ℕ) → is_while (rec_of l k) ≡ true → G (at_rec (set_b v) l k) ≡ H (at_rec (set_b v) l k)) → Keeps G l
keeps_as {G} {H} {l} h e f = record {
  long = rw e h.long;
  whiles = rw e h.whiles;
  wends = rw e h.wends;
  words = rw e h.words;
  commutes = λ k v w. f k v w ∙ rw e (h.commutes k v w);
}

differ : (l : List ℕ) (k j : ℕ) → is_while (rec_of l k) ≡ true → is_while (rec_of l j) ≡ false → k ≡ j → ⊥
differ l k j w n e = true_not_false (sym w ∙ ap (λ (i : ℕ). is_while (rec_of l i)) e ∙ n)

-- a record rewritten that is neither WHILE nor WEND, before and afterwards
module _ (l : List ℕ) (j call a b c : ℕ) (h : is_while (rec_of l j) ≡ false) (g : is_wend (rec_of l j) ≡ false) (h' : eqb call 25 ≡ false) (g' : both (eqb call 2) (eqb a 62) ≡ false) where
  -- where the list has the record
  module _ (r : j < length l / 5) where
    abbrev head : ℕ
    head = word_of call (get_or l (5 * j) 0)

    abbrev anew : List ℕ
    anew = stored head a b c l (5 * j)

    elsewhere : (k p : ℕ) → (k ≡ j → ⊥) → 5 * k ≤ p → p < 5 * k + 5 → get_or anew p 0 ≡ get_or l p 0
    elsewhere k p n i o = stored_other head a b c l (5 * j) p (λ z. n (omega arith)) (λ z. n (omega arith)) (λ z. n (omega arith)) (λ z. n (omega arith))

    -- a test of call and argument a that fails before and afterwards
    test_same : (P : ℕ → ℕ → Bool) → P (rec_of l j).call (rec_of l j).a ≡ false → P call a ≡ false → (k : ℕ) → P (rec_of anew k).call (rec_of anew k).a ≡ P (rec_of l k).call (rec_of l k).a
    test_same P x y k = go (eqb k j) refl
      where
        go : (f : Bool) → eqb k j ≡ f → P (rec_of anew k).call (rec_of anew k).a ≡ P (rec_of l k).call (rec_of l k).a
        go true e = rw (eqb-true k j e, x, stored_head head a b c l (5 * j) (omega arith), head_kind call (get_or l (5 * j) 0), stored_a head a b c l (5 * j) (omega arith)) y
        go false e = rw (elsewhere k (5 * k) (eqb-false k j e) (omega arith) (omega arith), elsewhere k (5 * k + 2) (eqb-false k j e) (omega arith) (omega arith))

    b_later : (k v : ℕ) → (k ≡ j → ⊥) → at_rec (rewrite call a b c) (at_rec (set_b v) l k) j ≡ at_rec (set_b v) anew k
    b_later k v n = go (ltb k (length l / 5)) refl
      where
        e : length anew ≡ length l
        e = simp length-set

        m : List ℕ
        m = at_rec (set_b v) l k

        f : at_rec (rewrite call a b c) m j ≡ stored head a b c m (5 * j)
        f = rewrite_stored m j call a b c (rw (b_long l k v) r) ∙ rw (b_elsewhere l k v (5 * j) (λ z. omega arith))

        go : (x : Bool) → ltb k (length l / 5) ≡ x → at_rec (rewrite call a b c) m j ≡ at_rec (set_b v) anew k
        go true x = rw (f, b_set l k v (ltb-true k (length l / 5) x), b_set anew k v (rw e (ltb-true k (length l / 5) x)))
            (stored_comm head a b c l (5 * j) (5 * k + 3) v (λ z. n (omega arith)) (λ z. n (omega arith)) (λ z. n (omega arith)) (λ z. n (omega arith)))
        go false x = rw (f, ← at_beyond (set_b v) l k (ltb-false k (length l / 5) x), ← at_beyond (set_b v) anew k (rw e (ltb-false k (length l / 5) x)))

    keeps_anew : Keeps (λ (m : List ℕ). at_rec (rewrite call a b c) m j) l
    keeps_anew =
        let e = rewrite_stored l j call a b c r in
        record {
          long = rw e (simp length-set);
          whiles = rw e (test_same (λ x y. eqb x 25) h h');
          wends = rw e (test_same (λ x y. both (eqb x 2) (eqb y 62)) g g');
          words = rw e (λ k p w i o. elsewhere k p (differ l k j w h) i o);
          commutes = rw e (λ k v w. b_later k v (differ l k j w h));
        }

  keeps_rewrite : Keeps (λ (m : List ℕ). at_rec (rewrite call a b c) m j) l
  keeps_rewrite = go (ltb j (length l / 5)) refl
    where
      go : (x : Bool) → ltb j (length l / 5) ≡ x → Keeps (λ (m : List ℕ). at_rec (rewrite call a b c) m j) l
      go true x = keeps_anew (ltb-true j (length l / 5) x)
      go false x =
          let o : length l / 5 ≤ j = ltb-false j (length l / 5) x in
          keeps_as (keeps_none l) (sym (at_beyond (rewrite call a b c) l j o)) (λ k v w. sym (at_beyond (rewrite call a b c) (at_rec (set_b v) l k) j (rw (b_long l k v) o)))

-- the end of a delay made whole
keeps_whole : (l : List ℕ) (j : ℕ) → Keeps (λ (m : List ℕ). whole_at m j) l
unfolding whole_at
keeps_whole l j = go (eqb (rec_of l j).call 3) refl
  where
    call_same : (k v : ℕ) → (rec_of (at_rec (set_b v) l k) j).call ≡ (rec_of l j).call
    call_same k v = rw (b_elsewhere l k v (5 * j) (λ z. omega arith))

    go : (x : Bool) → eqb (rec_of l j).call 3 ≡ x → Keeps (λ (m : List ℕ). whole_at m j) l
    go true x =
        let t : (rec_of l j).call ≡ 3 = eqb-true (rec_of l j).call 3 x in
        let h : is_while (rec_of l j) ≡ false = rw t in
        let g : is_wend (rec_of l j) ≡ false = rw t in
        keeps_as (keeps_rewrite l j 3 (rounded (rec_of l j).a (rec_of l j).b).e (rounded (rec_of l j).a (rec_of l j).b).m 0 h g refl refl)
        (rw x)
        (λ k v w. let n = differ l k j w h in rw (call_same k v, x, b_elsewhere l k v (5 * j + 2) (λ z. omega arith), b_elsewhere l k v (5 * j + 3) (λ z. n (omega arith))))
    go false x = keeps_as (keeps_none l) (rw x) (λ k v w. rw (call_same k v, x))

-- the tests of a delay: argument b of a WHILE is none of what they read
module _ (l : List ℕ) (k v : ℕ) (w : is_while (rec_of l k) ≡ true) where
  abbrev linked : List ℕ
  linked = at_rec (set_b v) l k

  test_alike : (P : Rec → Bool) → ((r s : Rec) → r.call ≡ 25 → s.call ≡ 25 → P r ≡ P s) → (j : ℕ) → P (rec_of linked j) ≡ P (rec_of l j)
  test_alike P f j = go (eqb j k) refl
    where
      go : (x : Bool) → eqb j k ≡ x → P (rec_of linked j) ≡ P (rec_of l j)
      go true x =
          let z = eqb-true j k x in
          let y : (rec_of l k).call ≡ 25 = eqb-true (rec_of l k).call 25 w in
          rw z (f (rec_of linked k) (rec_of l k) (rw (b_elsewhere l k v (5 * k) (λ o. omega arith)) y) y)
      go false x =
          let n = eqb-false j k x in
          rw (
            b_elsewhere l k v (5 * j) (λ z. omega arith),
            b_elsewhere l k v (5 * j + 1) (λ z. omega arith),
            b_elsewhere l k v (5 * j + 2) (λ z. omega arith),
            b_elsewhere l k v (5 * j + 3) (λ z. n (omega arith)),
            b_elsewhere l k v (5 * j + 4) (λ z. omega arith),
          )

  next_alike : (i j : ℕ) → is_next_of (rec_of linked i) (rec_of linked j) ≡ is_next_of (rec_of l i) (rec_of l j)
  next_alike i j = rw (b_elsewhere l k v (5 * j) (λ z. omega arith), b_elsewhere l k v (5 * j + 2) (λ z. omega arith), b_elsewhere l k v (5 * i + 2) (λ z. omega arith))

  delay_alike : (j : ℕ) → delay_at linked j ≡ delay_at l j
  unfolding delay_at
  delay_alike j = rw (test_alike is_start (λ r s e f. rw (e, f)) j, test_alike is_end (λ r s e f. rw (e, f)) (j + 1), test_alike (is_for 0) (λ r s e f. rw (e, f)) (j + 2), next_alike (j + 2) (j + 3))

  stepped_alike : (j : ℕ) → stepped_at linked j ≡ stepped_at l j
  unfolding stepped_at
  stepped_alike j = rw (test_alike is_start (λ r s e f. rw (e, f)) j, test_alike is_end (λ r s e f. rw (e, f)) (j + 1), test_alike is_one (λ r s e f. rw (e, f)) (j + 2), test_alike (is_for 1) (λ r s e f. rw (e, f)) (j + 3), next_alike (j + 3) (j + 4))

-- the records of a delay that are rewritten
abbrev PlainRec : Rec → Type 0
PlainRec r = (is_while r ≡ false) × (is_wend r ≡ false)

plain_call_lem : (r : Rec) (c : ℕ) → eqb r.call c ≡ true → eqb c 25 ≡ false → eqb c 2 ≡ false → PlainRec r
plain_call_lem r c e f g = rw (eqb-true r.call c e, f, g) (refl, refl)

plain_start : (r : Rec) → is_start r ≡ true → PlainRec r
plain_start r e = plain_call_lem r 3 (go (eqb r.call 3) (eqb r.a 0) (both (eqb r.a 129) (eqb r.b 2147483648)) e) refl refl
  where
    go : (x y z : Bool) → either (both x y) (both x z) ≡ true → x ≡ true
    go true y z f = refl
    go false y z f = f

plain_for : (step : ℕ) (f r : Rec) → both (is_for step f) (is_next_of f r) ≡ true → PlainRec f × PlainRec r
plain_for step f r e = (
  plain_call_lem f 23 (both_left (eqb f.call 23) (eqb f.b step) (both_left (is_for step f) (is_next_of f r) e)) refl refl,
  plain_call_lem r 24 (both_left (eqb r.call 24) (either (eqb r.a 0) (eqb r.a (f.a + 1))) (both_right (is_for step f) (is_next_of f r) e)) refl refl,
)

keeps_then : {G : List ℕ → List ℕ} {l : List ℕ} → Keeps G l → (j call a b c : ℕ) → PlainRec (rec_of l j) → eqb call 25 ≡ false → both (eqb call 2) (eqb a 62) ≡ false
    → Keeps (λ (m : List ℕ). at_rec (rewrite call a b c) (G m) j) l
keeps_then {G} {l} g j call a b c p e f = keeps_both g (keeps_rewrite (G l) j call a b c (g.whiles j ∙ p.0) (g.wends j ∙ p.1) e f)

module _ (l : List ℕ) (j : ℕ) where
  -- the start rewritten, and the end made whole
  keeps_ended : is_start (rec_of l j) ≡ true → Keeps (λ (m : List ℕ). whole_at (no_op_at m j) (j + 1)) l
  keeps_ended t = keeps_both (keeps_then (keeps_none l) j 1 0 0 0 (plain_start (rec_of l j) t) refl refl) (keeps_whole (no_op_at l j) (j + 1))

  keeps_delayed : delay_at l j ≡ true → Keeps (λ (m : List ℕ). delayed_at m j) l
  unfolding delay_at delayed_at
  keeps_delayed t = go (is_start (rec_of l j)) (is_end (rec_of l (j + 1))) refl t
    where
      go : (a b : Bool) → is_start (rec_of l j) ≡ a → both a (both b (both (is_for 0 (rec_of l (j + 2))) (is_next_of (rec_of l (j + 2)) (rec_of l (j + 3))))) ≡ true → Keeps (λ (m : List ℕ). delayed_at m j) l
      go true true e t =
          let p = plain_for 0 (rec_of l (j + 2)) (rec_of l (j + 3)) t in
          keeps_then (keeps_then (keeps_ended e) (j + 2) 2 65 1 0 p.0 refl refl) (j + 3) 1 0 0 0 p.1 refl refl
      go true false e t = true_not_false (sym t)
      go false b e t = true_not_false (sym t)

  keeps_stepped : stepped_at l j ≡ true → Keeps (λ (m : List ℕ). stepped_delayed_at m j) l
  unfolding stepped_at stepped_delayed_at
  keeps_stepped t = go (is_start (rec_of l j)) (is_end (rec_of l (j + 1))) (is_one (rec_of l (j + 2))) refl refl t
    where
      go : (a b c : Bool) → is_start (rec_of l j) ≡ a → is_one (rec_of l (j + 2)) ≡ c → both a (both b (both c (both (is_for 1 (rec_of l (j + 3))) (is_next_of (rec_of l (j + 3)) (rec_of l (j + 4)))))) ≡ true → Keeps (λ (m : List ℕ). stepped_delayed_at m j) l
      go true true true e f t =
          let p = plain_for 1 (rec_of l (j + 3)) (rec_of l (j + 4)) t in
          let o = plain_call_lem (rec_of l (j + 2)) 3 (both_left (eqb (rec_of l (j + 2)).call 3) (both (eqb (rec_of l (j + 2)).a 129) (eqb (rec_of l (j + 2)).b 2147483648)) f) refl refl in
          keeps_then (keeps_then (keeps_then (keeps_ended e) (j + 2) 1 0 0 0 o refl refl) (j + 3) 2 65 1 0 p.0 refl refl) (j + 4) 1 0 0 0 p.1 refl refl
      go true true false e f t = true_not_false (sym t)
      go true false c e f t = true_not_false (sym t)
      go false b c e f t = true_not_false (sym t)

  pub keeps_delay : Keeps (λ (m : List ℕ). delay_list m j) l
  unfolding delay_list
  keeps_delay = go (delay_at l j) (stepped_at l j) refl refl
    where
      go : (a b : Bool) → delay_at l j ≡ a → stepped_at l j ≡ b → Keeps (λ (m : List ℕ). delay_list m j) l
      go true b e f = keeps_as (keeps_delayed e) (rw e) (λ k v w. rw (delay_alike l k v w j, e))
      go false true e f = keeps_as (keeps_stepped f) (rw (e, f)) (λ k v w. rw (delay_alike l k v w j, stepped_alike l k v w j, e, f))
      go false false e f = keeps_as (keeps_none l) (rw (e, f)) (λ k v w. rw (delay_alike l k v w j, stepped_alike l k v w j, e, f))

keeps_delays : (n k : ℕ) (l : List ℕ) → Keeps (λ (m : List ℕ). delays_from m k n) l
unfolding delays_from
keeps_delays zero k l = keeps_none l
keeps_delays (suc n) k l = keeps_both (keeps_delay l k) (keeps_delays n (k + 1) (delay_list l k))

-- The open WHILEs: from the last one on, each is linked to one before it. (Of a record that the list's end cuts off nothing is said.)
pub data OpenWhiles (l : List ℕ) : ℕ → Type 0 where
  none : OpenWhiles l 0
  last : {w : ℕ} → is_while (rec_of l w) ≡ true → (w < length l / 5 → link_at l w ≤ w) → (w < length l / 5 → OpenWhiles l (link_at l w)) → OpenWhiles l (suc w)

opens_kept : {l m : List ℕ} {top : ℕ} → OpenWhiles l top → length m ≡ length l → ((w : ℕ) → w < top → is_while (rec_of l w) ≡ true → (is_while (rec_of m w) ≡ true) × (link_at m w ≡ link_at l w)) → OpenWhiles m top
opens_kept none e f = none
opens_kept {l} {m} (last {w} h i c) e f =
    let q = f w (omega arith) h in
    last q.0
    (λ r. rw q.1 (i (rw e at r)))
    (λ r. rw q.1 (let o : link_at l w ≤ w = i (rw e at r) in opens_kept (c (rw e at r)) e (λ v g x. f v (omega arith) x)))

opens_b : {l : List ℕ} {top : ℕ} (k v : ℕ) → OpenWhiles l top → top ≤ k → OpenWhiles (at_rec (set_b v) l k) top
opens_b {l} k v c h =
    opens_kept c (b_long l k v) (λ w g x. (rw (b_elsewhere l k v (5 * w) (λ z. omega arith)) x, b_elsewhere l k v (5 * w + 3) (λ z. omega arith)))

b_link : (l : List ℕ) (k v : ℕ) → k < length l / 5 → link_at (at_rec (set_b v) l k) k ≡ v
b_link l k v h = rw (b_set l k v h) (get_or-set_same l (5 * k + 3) v 0 (omega arith))

wend_there : (l : List ℕ) (k : ℕ) → is_wend (rec_of l k) ≡ true → 5 * k < length l
wend_there l k e = go (ltb (5 * k) (length l)) refl
  where
    go : (x : Bool) → ltb (5 * k) (length l) ≡ x → 5 * k < length l
    go true x = ltb-true (5 * k) (length l) x
    go false x =
        let z : get_or l (5 * k) 0 ≡ 0 = get_or-eq_default l 0 {n = 5 * k} (ltb-false (5 * k) (length l) x) in
        true_not_false (sym e ∙ rw z)

-- the open WHILEs behind a step
opens_step : (l : List ℕ) (top k : ℕ) → OpenWhiles l top → top ≤ k → OpenWhiles (while_list l top k) (while_top l top k) × (while_top l top k ≤ k + 1)
unfolding while_list while_top
opens_step l top k c h = go c h (is_while (rec_of l k)) (is_wend (rec_of l k)) refl refl
  where
    go : {top : ℕ} → OpenWhiles l top → top ≤ k → (a b : Bool) → is_while (rec_of l k) ≡ a → is_wend (rec_of l k) ≡ b → OpenWhiles (while_list l top k) (while_top l top k) × (while_top l top k ≤ k + 1)
    go {top} c h true b e f = rw (e, add-one k) (
      last {w = k} (rw (b_elsewhere l k top (5 * k) (λ z. omega arith)) e)
          (λ r. rw (b_link l k top (rw (b_long l k top) at r)) h)
          (λ r. rw (b_link l k top (rw (b_long l k top) at r)) (opens_b k top c h)),
      omega arith,
    )
    go {top} c h false false e f = rw (e, f) (c, omega arith)
    go none h false true e f = rw (e, f) (none, omega arith)
    go (last {w} x i c) h false true e f =
        let r : w < length l / 5 = omega (arith, wend_there l k f) in
        let z : suc w - 1 ≡ w = omega arith in
        rw (e, f, lt-ltb 0 (suc w) (omega arith), z) (opens_b w (k + 1) (c r) (i r), omega (arith, i r))

-- A step that keeps WHILEs and WENDs, on any list, may come before the whole pass over them, or behind it.
module _ (G : List ℕ → List ℕ) (K : (l : List ℕ) → Keeps G l) where
  link_same : (l : List ℕ) (w : ℕ) → is_while (rec_of l w) ≡ true → link_at (G l) w ≡ link_at l w
  link_same l w e = (K l).words w (5 * w + 3) e (omega arith) (omega arith)

  while_commutes : (l : List ℕ) (top k : ℕ) → OpenWhiles l top → (while_list (G l) top k ≡ G (while_list l top k)) × (while_top (G l) top k ≡ while_top l top k)
  unfolding while_list while_top
  while_commutes l top k c = rw ((K l).whiles k, (K l).wends k) (go c (is_while (rec_of l k)) (is_wend (rec_of l k)) refl)
    where
      go : {top : ℕ} → OpenWhiles l top → (a b : Bool) → is_while (rec_of l k) ≡ a
          → (pick a (at_rec (set_b top) (G l) k) (pick (both b (ltb 0 top)) (at_rec (set_b (k + 1)) (G l) (top - 1)) (G l)) ≡ G (pick a (at_rec (set_b top) l k) (pick (both b (ltb 0 top)) (at_rec (set_b (k + 1)) l (top - 1)) l)))
          × (pick a (k + 1) (pick (both b (ltb 0 top)) (link_at (G l) (top - 1)) top) ≡ pick a (k + 1) (pick (both b (ltb 0 top)) (link_at l (top - 1)) top))
      go {top} c true b e = (sym ((K l).commutes k top e), refl)
      go c false false e = (refl, refl)
      go none false true e = (refl, refl)
      go (last {w} x i c) false true e =
          let z : suc w - 1 ≡ w = omega arith in
          rw (lt-ltb 0 (suc w) (omega arith), z) (sym ((K l).commutes w (k + 1) x), link_same l w x)

  pub whiles_commute : (n : ℕ) (l : List ℕ) (top k : ℕ) → OpenWhiles l top → top ≤ k → (whiles_from (G l) top k n ≡ G (whiles_from l top k n)) × (top_from (G l) top k n ≡ top_from l top k n)
  unfolding whiles_from top_from
  whiles_commute zero l top k c h = (refl, refl)
  whiles_commute (suc n) l top k c h =
      let q = while_commutes l top k c in
      let s = opens_step l top k c h in
      rw (q.0, q.1) (whiles_commute n (while_list l top k) (while_top l top k) (k + 1) s.0 s.1)

  abbrev on_list : Passed → Passed
  on_list p = passed (G p.list) p.notes p.st

  pub open_commutes : (left : ℕ) (l n : List ℕ) (s : State) {top : ℕ} → OpenWhiles l top → top ≤ length l / 5 → open_from (passed (G l) n s) top left ≡ on_list (open_from (passed l n s) top left)
  unfolding open_from
  open_commutes zero l n s c h = refl
  open_commutes (suc left) l n s none h = refl
  open_commutes (suc left) l n s (last {w} x i c) h =
      let r : w < length l / 5 = omega arith in
      let z : suc w - 1 ≡ w = omega arith in
      rw (ne_eqb (suc w) 0 (λ e. omega arith), z, ← (K l).commutes w unknown x, (K l).words w (5 * w) x (omega arith) (omega arith), (K l).words w (5 * w + 1) x (omega arith) (omega arith), link_same l w x)
      (open_commutes left (at_rec (set_b unknown) l w) (note_list n s (word_of 13 (get_or l (5 * w) 0)) (get_or l (5 * w + 1) 0) 1 0) (note_st n s) (opens_b w unknown (c r) (i r)) (omega (arith, i r, b_long l w unknown)))

-- the whole pass over the WHILEs, and those left open
while_long : (l : List ℕ) (top k : ℕ) → length (while_list l top k) ≡ length l
unfolding while_list
while_long l top k = go (is_while (rec_of l k)) (both (is_wend (rec_of l k)) (ltb 0 top))
  where
    go : (a b : Bool) → length (pick a (at_rec (set_b top) l k) (pick b (at_rec (set_b (k + 1)) l (top - 1)) l)) ≡ length l
    go true b = b_long l k top
    go false true = b_long l (top - 1) (k + 1)
    go false false = refl

whiles_long : (n : ℕ) (l : List ℕ) (top k : ℕ) → length (whiles_from l top k n) ≡ length l
unfolding whiles_from
whiles_long zero l top k = refl
whiles_long (suc n) l top k = whiles_long n (while_list l top k) (while_top l top k) (k + 1) ∙ while_long l top k

opens_all : (n : ℕ) (l : List ℕ) (top k : ℕ) → OpenWhiles l top → top ≤ k → OpenWhiles (whiles_from l top k n) (top_from l top k n) × (top_from l top k n ≤ k + n)
unfolding whiles_from top_from
opens_all zero l top k c h = (c, omega arith)
opens_all (suc n) l top k c h =
    let s = opens_step l top k c h in
    let q = opens_all n (while_list l top k) (while_top l top k) (k + 1) s.0 s.1 in
    (q.0, omega (arith, q.1))

open_present : (left : ℕ) (l n : List ℕ) (s : State) (top : ℕ) → present (open_from (passed l n s) top left).list (open_from (passed l n s) top left).st ≡ present l s
unfolding open_from
open_present zero l n s top = refl
open_present (suc left) l n s top =
    let p : Passed = open_step (passed l n s) (top - 1) in
    go (eqb top 0) (open_from p (link_at l (top - 1)) left)
    (open_present left p.list p.notes p.st (link_at l (top - 1)) ∙ rw (note_records n s, b_long l (top - 1) unknown))
  where
    go : (a : Bool) (p : Passed) → present p.list p.st ≡ present l s → present (pick a (passed l n s) p).list (pick a (passed l n s) p).st ≡ present l s
    go true p e = refl
    go false p e = e

-- One pass over n records: from the record k on, what is left of it does what the two passes would do.
pub record Rest (l : List ℕ) (top k left : ℕ) (L : List ℕ) (T : ℕ) : Type 0 where
  pub opens : OpenWhiles l top
  pub below : top ≤ k
  pub list_is : delays_from (whiles_from l top k left) k left ≡ L
  pub top_is : top_from l top k left ≡ T

pub rest_start : (l : List ℕ) (n : ℕ) → Rest l 0 0 (n - 0) (delays_from (whiles_from l 0 0 n) 0 n) (top_from l 0 0 n)
rest_start l n = let z : n - 0 ≡ n = omega arith in rw z (record { opens = none; below = omega arith; list_is = refl; top_is = refl })

rest_next : (l l' L : List ℕ) (top top' k left T : ℕ) → Rest l top k (suc left) L T → (l' ≡ while_list (delay_list l k) top k) × (top' ≡ while_top (delay_list l k) top k) → Rest l' top' (k + 1) left L T
unfolding delays_from whiles_from top_from
rest_next l l' L top top' k left T r f =
    let D : List ℕ → List ℕ = λ m. delay_list m k in
    let q = while_commutes D (λ m. keeps_delay m k) l top k r.opens in
    let s = opens_step l top k r.opens r.below in
    let t = whiles_commute D (λ m. keeps_delay m k) left (while_list l top k) (while_top l top k) (k + 1) s.0 s.1 in
    rw (f.0, f.1, q.0, q.1) (record {
      opens = opens_delay s.0;
      below = s.1;
      list_is = rw t.0 r.list_is;
      top_is = t.1 ∙ r.top_is;
    })
  where
    opens_delay : {m : List ℕ} {t : ℕ} → OpenWhiles m t → OpenWhiles (delay_list m k) t
    opens_delay {m} c = let K = keeps_delay m k in opens_kept c K.long (λ w g x. (K.whiles w ∙ x, K.words w (5 * w + 3) x (omega arith) (omega arith)))

pub rest_step : (l l' L : List ℕ) (top top' k n T : ℕ) → k < n → Rest l top k (n - k) L T → (l' ≡ while_list (delay_list l k) top k) × (top' ≡ while_top (delay_list l k) top k) → Rest l' top' (k + 1) (n - (k + 1)) L T
rest_step l l' L top top' k n T h r f = let q : n - k ≡ suc (n - (k + 1)) = omega arith in rest_next l l' L top top' k (n - (k + 1)) T (rw q at r) f

pub rest_end : (l L : List ℕ) (top k left T : ℕ) → left ≤ 0 → Rest l top k left L T → (l ≡ L) × (top ≡ T)
unfolding delays_from whiles_from top_from
rest_end l L top k zero T h r = (r.list_is, r.top_is)
rest_end l L top k (suc left) T h r = absurd (omega arith)

-- one record of the pass: a number, a call that may be a WHILE or a WEND, another
no_delay : (l : List ℕ) (k : ℕ) → ((rec_of l k).call ≡ 3 → ⊥) → delay_list l k ≡ l
unfolding delay_list delay_at stepped_at
no_delay l k n = rw (ne_eqb (rec_of l k).call 3 n)

pub loop_delay : (l l' : List ℕ) (top k c : ℕ) → c ≡ (rec_of l k).call → c ≡ 3 → l' ≡ delay_list l k → (l' ≡ while_list (delay_list l k) top k) × (top ≡ while_top (delay_list l k) top k)
loop_delay l l' top k c e f g =
    let t : (rec_of l k).call ≡ 3 = sym e ∙ f in
    let r = rec_of (delay_list l k) k in
    let h : is_while r ≡ false = (keeps_delay l k).whiles k ∙ rw t in
    let i : is_wend r ≡ false = (keeps_delay l k).wends k ∙ rw t in
    let q = while_other (delay_list l k) top k r.call (is_wend r) refl (eqb-false r.call 25 h) refl i in
    (g ∙ q.0, q.1)

pub loop_while : (l l' : List ℕ) (top top' k c : ℕ) → c ≡ (rec_of l k).call → (c ≡ 2) ⊎ (c ≡ 25) → (l' ≡ while_list l top k) × (top' ≡ while_top l top k) → (l' ≡ while_list (delay_list l k) top k) × (top' ≡ while_top (delay_list l k) top k)
loop_while l l' top top' k c e f g = rw (no_delay l k (λ z. go f (e ∙ z))) g
  where
    go : (c ≡ 2) ⊎ (c ≡ 25) → c ≡ 3 → ⊥
    go (inl x) y = omega arith
    go (inr x) y = omega arith

pub loop_other : (l : List ℕ) (top k c : ℕ) → c ≡ (rec_of l k).call → (c ≡ 3 → ⊥) → ((c ≡ 2) ⊎ (c ≡ 25) → ⊥) → (l ≡ while_list (delay_list l k) top k) × (top ≡ while_top (delay_list l k) top k)
loop_other l top k c e f g =
    let n : (rec_of l k).call ≡ 2 → ⊥ = λ z. g (inl (e ∙ z)) in
    rw (no_delay l k (λ z. f (e ∙ z))) (while_other l top k c false e (λ z. g (inr z)) (rw (ne_eqb (rec_of l k).call 2 n)) refl)

-- the pass, the WHILEs left open, End
abbrev ended : Passed → Passed
ended p = passed (put_rec p.list p.st 2 no_range 17 0 0) p.notes (put_st p.list p.st)

passes_done : (l l1 n : List ℕ) (s : State) (k top : ℕ) → k ≡ present l s → (l1 ≡ delays_from (whiles_from l 0 0 k) 0 k) × (top ≡ top_from l 0 0 k)
    → ended (open_from (passed l1 n s) top k) ≡ clean_up_all l n s
unfolding clean_up_all patch_whiles convert_delays
passes_done l l1 n s k top e f =
    let c = opens_all k l 0 0 none (omega arith) in
    let L = whiles_long k l 0 0 in
    let P = open_from (passed (whiles_from l 0 0 k) n s) (top_from l 0 0 k) k in
    let t : open_from (passed (delays_from (whiles_from l 0 0 k) 0 k) n s) (top_from l 0 0 k) k ≡ passed (delays_from P.list 0 k) P.notes P.st =
    open_commutes (λ (m : List ℕ). delays_from m 0 k) (keeps_delays k 0) k (whiles_from l 0 0 k) n s c.0 (omega (arith, c.1)) in
    let q : open_from (passed l1 n s) top k ≡ passed (delays_from P.list 0 k) P.notes P.st = rw (f.0, f.1) t in
    let x : present P.list P.st ≡ k = open_present k (whiles_from l 0 0 k) n s (top_from l 0 0 k) ∙ rw L (sym e) in
    ap ended q ∙ rw (← e, x) refl

-- the whole, the names' links gone
pub clean_done : (m m2 m3 : Mem) (b l1 : List ℕ) (end k top : ℕ) → end ≡ known m.book m.st → b ≡ unlink_from m.book 0 end → k ≡ present m.list m.st
    → (l1 ≡ delays_from (whiles_from m.list 0 0 k) 0 k) × (top ≡ top_from m.list 0 0 k) → m2 ≡ with_passed (mem l1 m.notes b m.st) (open_from (passed l1 m.notes m.st) top k)
    → m3 ≡ put m2 2 no_range 17 0 0 → m3 ≡ clean_up m
unfolding unlinked
clean_done m m2 m3 b l1 end k top r e i f g h = h ∙ ap (λ (x : Mem). put x 2 no_range 17 0 0) g ∙ rw (e, r) (ap (λ (p : Passed). mem p.list p.notes (unlink_from m.book 0 (known m.book m.st)) p.st) (passes_done m.list l1 m.notes m.st k top i f))
