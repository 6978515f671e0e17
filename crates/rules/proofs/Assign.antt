-- From the run of a finished list to a pile before each of its records, and to no other.
use Rattle.std.proofs.Common.{◌≡◌, ℕ, zero, suc, ◌+◌, ◌-◌, ◌<◌, ◌≤◌, Bool, true, false, eqb, ltb, leb, List, [], ◌∷◌, ◌++◌, length, sym, refl, ap, ◌∙◌, add-one, arith, length-append, ext_get_or, ltb-true, eq-eqb, eqb-true, le-leb, leb-true}
use lib.ListN.{get_or-eq_default}
use native.Mathlib.Decide.{dec_lt}
use Rattle.recorder.specs.Word.{pick, both, either}
use Rattle.recorder.specs.Ideal.{Rec, Entry}
use Rattle.recorder.specs.Closing.{is_op, is_wend, is_while, rec_at, end_rec}
use Rattle.recorder.proofs.Bools.{both_left, both_right}
use Rattle.sheet.specs.Tree.{Opt, absent, given}
use Rattle.rules.specs.Missing.{All}
use Rattle.rules.specs.Piles.{num, Pile, operands, effect_of, taken, step}
use Rattle.rules.specs.Demand.{targets, is_in, some_below, call_at, from_on, from_next, inside_on, from_return, from_wend, reached, pile_at, Fits, Orderly, ExactlyOne}
use Rattle.rules.proofs.PileLaws.{and_then, pile_in, empties_call, is_jump_call, Ahead, ahead_append, ahead_at, all_map}
use Rattle.rules.proofs.Blocks.{Body, body_left, pile_none, pile_left}
use Rattle.rules.proofs.Traces.{Trace, trace_at, trace_step, trace_empty, trace_each, trace_on, trace_append}
use Rattle.rules.proofs.ClosingPiles.{Full}
use Rattle.rules.proofs.DelayPiles.{Sound}

abbrev or_empty : Opt Pile → Pile
or_empty absent = []
or_empty (given P) = P

-- a pile before each record
unfoldable pub piles_of : List Entry → List Rec → Pile → List Pile
piles_of E [] P = []
piles_of E (r ∷ rs) P = P ∷ piles_of E rs (or_empty (step E r P))

piles_length : (E : List Entry) (rs : List Rec) (P : Pile) → length (piles_of E rs P) ≡ length rs
unfolding piles_of
piles_length E [] P = refl
piles_length E (r ∷ rs) P = ap suc (piles_length E rs (or_empty (step E r P)))

piles_at : (E : List Entry) (rs : List Rec) (P U : Pile) (k : ℕ) → k < length rs → pile_in E rs P k ≡ given U → pile_at (piles_of E rs P) k ≡ U
unfolding piles_of pile_in
piles_at E [] P U k h e = absurd (omega arith)
piles_at E (r ∷ rs) P U zero h e = cc
piles_at E (r ∷ rs) P U (suc k) h e = go (step E r P) e (λ Q. piles_at E rs Q U k (omega arith))
  where
    go : (o : Opt Pile) → and_then o (λ Q. pile_in E rs Q k) ≡ given U → ((Q : Pile) → pile_in E rs Q k ≡ given U → pile_at (piles_of E rs Q) k ≡ U) → pile_at (piles_of E rs (or_empty o)) k ≡ U
    go absent q f = let y : ◌≡◌ {A = ℕ} 0 1 = cc in absurd (omega arith)
    go (given Q) q f = f Q q

piles_empty : (E : List Entry) (rs : List Rec) (P : Pile) (k : ℕ) → pile_in E rs P k ≡ given [] → pile_at (piles_of E rs P) k ≡ []
piles_empty E rs P k e = go (dec_lt k (length rs))
  where
    go : Dec (k < length rs) → pile_at (piles_of E rs P) k ≡ []
    go (yes h) = piles_at E rs P [] k h e
    go (no h) = get_or-eq_default (piles_of E rs P) [] (omega (arith, piles_length E rs P))

is_in_lem : (X : ℕ → Type 0) (j : ℕ) (xs : List ℕ) → is_in j xs ≡ true → All X xs → X j
is_in_lem X j [] e a = let y : ◌≡◌ {A = ℕ} 0 1 = cc in absurd (omega arith)
is_in_lem X j (x ∷ xs) e a = go (eqb j x) refl e (is_in_lem X j xs)
  where
    go : (b : Bool) → eqb j x ≡ b → either b (is_in j xs) ≡ true → (is_in j xs ≡ true → All X xs → X j) → X j
    go true q h f = rw (eqb-true j x q) a.0
    go false q h f = f h a.1

-- a record with a target leaves an empty pile
targeted_empty : (j : ℕ) (r : Rec) → is_in j (targets r) ≡ true → empties_call r.call ≡ true
targeted_empty j r e = go (both (leb 19 r.call) (leb r.call 21)) refl (eqb r.call 25) refl (eqb r.call 26) refl e
  where
    low : (k : ℕ) → 19 ≤ k → k ≤ 26 → empties_call k ≡ true
    low k p q = rw (le-leb 19 k p, le-leb k 26 q) (any (eqb k 2))
      where
        any : (b : Bool) → either b true ≡ true
        any true = refl
        any false = refl

    go : (a : Bool) → both (leb 19 r.call) (leb r.call 21) ≡ a → (b : Bool) → eqb r.call 25 ≡ b → (c : Bool) → eqb r.call 26 ≡ c
        → is_in j (pick a (r.a ∷ []) (pick b (r.a ∷ r.b ∷ []) (pick c (r.c ∷ []) []))) ≡ true → empties_call r.call ≡ true
    go true p b q c s h = low r.call (leb-true 19 r.call (both_left (leb 19 r.call) (leb r.call 21) p))
        (let l = leb-true r.call 21 (both_right (leb 19 r.call) (leb r.call 21) p) in omega (arith, l))
    go false p true q c s h = rw (eqb-true r.call 25 q) refl
    go false p false q true s h = rw (eqb-true r.call 26 s) refl
    go false p false q false s h = let y : ◌≡◌ {A = ℕ} 0 1 = cc in absurd (omega arith)

some_below_lem : (f : ℕ → Bool) (n : ℕ) → some_below f n ≡ true → (w : ℕ) × (w < n) × (f w ≡ true)
unfolding some_below
some_below_lem f zero e = let y : ◌≡◌ {A = ℕ} 0 1 = cc in absurd (omega arith)
some_below_lem f (suc n) e = go (f n) refl e (some_below_lem f n)
  where
    go : (b : Bool) → f n ≡ b → either b (some_below f n) ≡ true → (some_below f n ≡ true → (w : ℕ) × (w < n) × (f w ≡ true)) → (w : ℕ) × (w < suc n) × (f w ≡ true)
    go true q h g = (n, omega arith, q)
    go false q h g = let u = g h in (u.0, omega (arith, u.1), u.2)

op_empty : (k : ℕ) (r : Rec) → is_op k r ≡ true → empties_call r.call ≡ true
op_empty k r e = let c : r.call ≡ 2 = eqb-true r.call 2 (both_left (eqb r.call 2) (eqb r.a k) e) in rw c refl

call_empty : (r : Rec) (k : ℕ) → empties_call k ≡ true → eqb r.call k ≡ true → empties_call r.call ≡ true
call_empty r k q e = rw (eqb-true r.call k e) q

jump_empty : (k : ℕ) → is_jump_call k ≡ true → empties_call k ≡ true
jump_empty k e = go (eqb k 20) refl (eqb k 21) refl e
  where
    go : (a : Bool) → eqb k 20 ≡ a → (b : Bool) → eqb k 21 ≡ b → either a b ≡ true → empties_call k ≡ true
    go true p b q h = rw (eqb-true k 20 p) refl
    go false p true q h = rw (eqb-true k 21 q) refl
    go false p false q h = let y : ◌≡◌ {A = ℕ} 0 1 = cc in absurd (omega arith)

module _ (E : List Entry) (X Y : ℕ → Type 0) (rs : List Rec) (tr : Trace E (Full X Y) rs [] []) (good : (T : ℕ) → X T → (T < length rs) × (pile_in E rs [] T ≡ given [])) where
  abbrev ps : List Pile
  ps = piles_of E rs []

  before : ℕ → Pile
  before k = (trace_at tr k).0

  before_is : (k : ℕ) → pile_in E rs [] k ≡ given (before k)
  unfolding before
  before_is k = (trace_at tr k).1

  piles_before : (k : ℕ) → k < length rs → pile_at ps k ≡ before k
  piles_before k h = piles_at E rs [] (before k) k h (before_is k)

  empty_leaves : (k : ℕ) → k < length rs → empties_call (rec_at rs k).call ≡ true → before (suc k) ≡ []
  empty_leaves k h q = let e = trace_empty tr k h q in let f = before_is (suc k) in let g : given (before (suc k)) ≡ given [] = sym f ∙ e in cc

  good_before : (j : ℕ) → X j → before j ≡ []
  good_before j x = let g : given (before j) ≡ given [] = sym (before_is j) ∙ (good j x).1 in cc

  -- behind a record that leaves the pile empty
  behind_empty : (j : ℕ) → ltb 0 j ≡ true → j < length rs → empties_call (rec_at rs (j - 1)).call ≡ true → before j ≡ []
  behind_empty j l h q =
      let p = ltb-true 0 j l in
      let e : suc (j - 1) ≡ j = omega (arith, p) in
      rw e at (empty_leaves (j - 1) (omega (arith, p)) q)

  -- wherever a record goes, the pile is the one it leaves
  pile_there : (k : ℕ) → k < length rs → (j : ℕ) → j < length rs → reached rs k j ≡ true → before j ≡ before (suc k)
  unfolding reached
  pile_there k h j i e = next (eqb j (k + 1)) refl e
    where
      wend : from_wend rs k j ≡ true → before j ≡ before (suc k)
      wend q =
          let q₁ = both_left (is_wend (rec_at rs k)) (some_below (λ w. both (is_while (rec_at rs w)) (eqb (rec_at rs w).a j)) (length rs)) q in
          let q₂ = both_right (is_wend (rec_at rs k)) (some_below (λ w. both (is_while (rec_at rs w)) (eqb (rec_at rs w).a j)) (length rs)) q in
          let u = some_below_lem (λ w. both (is_while (rec_at rs w)) (eqb (rec_at rs w).a j)) (length rs) q₂ in
          let c : (rec_at rs u.0).call ≡ 25 = eqb-true (rec_at rs u.0).call 25 (both_left (is_while (rec_at rs u.0)) (eqb (rec_at rs u.0).a j) u.2) in
          let a : (rec_at rs u.0).a ≡ j = eqb-true (rec_at rs u.0).a j (both_right (is_while (rec_at rs u.0)) (eqb (rec_at rs u.0).a j) u.2) in
          let x : X (rec_at rs u.0).a = (rw c at (trace_each tr u.0 u.1).targets).0 in
          good_before j (rw a at x) ∙ sym (empty_leaves k h (op_empty 62 (rec_at rs k) q₁))

      return : (b : Bool) → from_return rs k j ≡ b → either b (from_wend rs k j) ≡ true → before j ≡ before (suc k)
      return false q r = wend r
      return true q r =
          let A = is_op 53 (rec_at rs k) in
          let C = eqb (call_at rs (j - 1)) 21 in
          let D = pick (inside_on rs (j - 1)) false true in
          let q₁ = both_left A (both (ltb 0 j) (both C D)) q in
          let q₂ = both_right A (both (ltb 0 j) (both C D)) q in
          let q₃ = both_left (ltb 0 j) (both C D) q₂ in
          let q₄ = both_left C D (both_right (ltb 0 j) (both C D) q₂) in
          behind_empty j q₃ i (call_empty (rec_at rs (j - 1)) 21 refl q₄) ∙ sym (empty_leaves k h (op_empty 53 (rec_at rs k) q₁))

      loop : (b : Bool) → from_next rs k j ≡ b → either b (either (from_return rs k j) (from_wend rs k j)) ≡ true → before j ≡ before (suc k)
      loop false q r = return (from_return rs k j) refl r
      loop true q r =
          let A = eqb (call_at rs k) 24 in
          let C = eqb (call_at rs (j - 1)) 23 in
          let q₁ = both_left A (both (ltb 0 j) C) q in
          let q₂ = both_right A (both (ltb 0 j) C) q in
          behind_empty j (both_left (ltb 0 j) C q₂) i (call_empty (rec_at rs (j - 1)) 23 refl (both_right (ltb 0 j) C q₂)) ∙ sym (empty_leaves k h (call_empty (rec_at rs k) 24 refl q₁))

      choice : (b : Bool) → from_on rs k j ≡ b → either b (either (from_next rs k j) (either (from_return rs k j) (from_wend rs k j))) ≡ true → before j ≡ before (suc k)
      choice false q r = loop (from_next rs k j) refl r
      choice true q r =
          let A = eqb (call_at rs k) 22 in
          let C = leb j (k + (rec_at rs k).a + 1) in
          let q₁ = both_left A (both (ltb k j) C) q in
          let q₂ = both_right A (both (ltb k j) C) q in
          let l = ltb-true k j (both_left (ltb k j) C q₂) in
          let m = leb-true j (k + (rec_at rs k).a + 1) (both_right (ltb k j) C q₂) in
          from (dec_lt (suc k) j) l m (eqb-true (call_at rs k) 22 q₁)
        where
          from : Dec (suc k < j) → k < j → j ≤ k + (rec_at rs k).a + 1 → (rec_at rs k).call ≡ 22 → before j ≡ before (suc k)
          from (no n) l m c = let e : j ≡ suc k = omega arith in rw e
          from (yes n) l m c =
              let d = j - k - 2 in
              let f : j ≡ suc (suc (k + d)) = omega arith in
              let u = trace_on tr k h c d (omega arith) in
              let g : before (suc (suc (k + d))) ≡ [] = empty_leaves (suc (k + d)) u.0 (jump_empty (rec_at rs (suc (k + d))).call u.1) in
              let w : before (suc k) ≡ [] = empty_leaves k h (rw c refl) in
              rw (f, w) g

      named : (b : Bool) → is_in j (targets (rec_at rs k)) ≡ b → either b (either (from_on rs k j) (either (from_next rs k j) (either (from_return rs k j) (from_wend rs k j)))) ≡ true → before j ≡ before (suc k)
      named false q r = choice (from_on rs k j) refl r
      named true q r = good_before j (is_in_lem X j (targets (rec_at rs k)) q (trace_each tr k h).targets) ∙ sym (empty_leaves k h (targeted_empty j (rec_at rs k) q))

      next : (b : Bool) → eqb j (k + 1) ≡ b → either b (either (is_in j (targets (rec_at rs k))) (either (from_on rs k j) (either (from_next rs k j) (either (from_return rs k j) (from_wend rs k j))))) ≡ true → before j ≡ before (suc k)
      next true q r = let f : j ≡ suc k = eqb-true j (k + 1) q ∙ add-one k in rw f
      next false q r = named (is_in j (targets (rec_at rs k))) refl r

  step_before : (k : ℕ) → k < length rs → step E (rec_at rs k) (before k) ≡ given (before (suc k))
  step_before k h = trace_step tr k h (before_is k) (before_is (suc k))

  pub fits : 0 < length rs → Fits E rs ps
  fits n = record {
    size = piles_length E rs [];
    first = piles_before 0 n ∙ first_is;
    leaves = λ k h. before (suc k);
    takes = λ k h. rw (piles_before k h) (step_before k h);
    reaches = λ k h j i e. piles_before j i ∙ pile_there k h j i e;
  }
    where
      first_is : before 0 ≡ []
      first_is = let g : given (before 0) ≡ given [] = sym (before_is 0) ∙ pile_none E rs [] in cc

  next_reached : (k : ℕ) → reached rs k (suc k) ≡ true
  unfolding reached
  next_reached k = rw (eq-eqb (suc k) (k + 1) (sym (add-one k))) refl

  same_piles : (qs : List Pile) → Fits E rs qs → Fits E rs ps → (k : ℕ) → k < length rs → pile_at qs k ≡ pile_at ps k
  same_piles qs q p zero h = q.first ∙ sym p.first
  same_piles qs q p (suc k) h =
      let l : k < length rs = omega arith in
      let e : pile_at qs k ≡ pile_at ps k = same_piles qs q p k l in
      let a : step E (rec_at rs k) (pile_at ps k) ≡ given (q.leaves k l) = rw e at (q.takes k l) in
      let b : given (q.leaves k l) ≡ given (p.leaves k l) = sym a ∙ p.takes k l in
      let c : q.leaves k l ≡ p.leaves k l = cc in
      q.reaches k l (suc k) h (next_reached k) ∙ c ∙ sym (p.reaches k l (suc k) h (next_reached k))

  pub only : 0 < length rs → (qs : List Pile) → Fits E rs qs → qs ≡ ps
  only n qs q =
      ext_get_or [] qs ps (q.size ∙ sym (piles_length E rs []))
      (λ k h. same_piles qs q (fits n) k (omega (arith, h, q.size)))

  empty_pile : (T : ℕ) → X T → (T < length rs) × (pile_at ps T ≡ [])
  empty_pile T x = ((good T x).0, piles_empty E rs [] T (good T x).1)

  module _ (bodies : (T : ℕ) → Y T → Body E 0 rs T) (ahead : Ahead 0 rs) where
    body_at : (k : ℕ) → k < length rs → (rec_at rs k).call ≡ 26 → Body E 0 rs (rec_at rs k).c
    body_at k h e = bodies (rec_at rs k).c ((trace_each tr k h).body e)

    body_place : (T : ℕ) (b : Body E 0 rs T) → T - 1 ≡ b.at
    body_place T b = omega (arith, b.place)

    -- the 27 is behind its 26
    body_behind : (k : ℕ) (h : k < length rs) (e : (rec_at rs k).call ≡ 26) → k < (body_at k h e).at
    body_behind k h e = let b = body_at k h e in omega (arith, ahead_at 0 rs k h ahead e, b.place)

    pub orderly : (addrs : List ℕ) → All X addrs → Orderly addrs rs ps
    orderly addrs a = record {
      statements = all_map X (λ (k : ℕ). (k < length rs) × (pile_at ps k ≡ [])) addrs empty_pile a;
      body_begins = λ k h e. (omega (arith, body_behind k h e, (body_at k h e).within), rw (add-one k) (piles_empty E rs [] (suc k) (trace_empty tr k h (rw e refl))));
      body_closes = λ k h e. let b = body_at k h e in rw (body_place (rec_at rs k).c b) (body_behind k h e, b.within, b.closes);
      body_ends = λ k h e. let b = body_at k h e in rw (body_place (rec_at rs k).c b) (piles_at E rs [] (num ∷ []) b.at b.within b.pile);
      on_targets = λ k h. all_map X (λ (v : ℕ). (v < length rs) × (pile_at ps v ≡ [])) (targets (rec_at rs k)) empty_pile (trace_each tr k h).targets;
    }

    pub exactly_one : (addrs : List ℕ) → 0 < length rs → All X addrs → ExactlyOne addrs E rs
    exactly_one addrs n a = record { piles = ps; fit = fits n; orderly = orderly addrs a; only = only n }

-- End
end_step : (E : List Entry) (l : ℕ) → step E (end_rec l) [] ≡ given []
unfolding step effect_of taken operands
end_step E l = refl

pub finished_piles : (E : List Entry) (X Y : ℕ → Type 0) (rs : List Rec) (l : ℕ) (addrs : List ℕ) → Sound E X Y rs → All X addrs → ExactlyOne addrs E (rs ++ (end_rec l ∷ []))
finished_piles E X Y rs l addrs s a = exactly_one E X Y us tr good bodies ahead addrs (omega (arith, long)) a
  where
    us : List Rec
    us = rs ++ (end_rec l ∷ [])

    long : length us ≡ length rs + 1
    long = length-append rs (end_rec l ∷ [])

    tr : Trace E (Full X Y) us [] []
    tr = trace_append s.trace (Trace.go (end_step E l) (record { empty_behind = λ q. refl; on = λ q. absurd (omega arith) }) (record { targets = tt; body = λ q. absurd (omega arith) }) Trace.done)

    good : (T : ℕ) → X T → (T < length us) × (pile_in E us [] T ≡ given [])
    good T x =
        let e = s.empties T x in
        let p : T ≡ e.at = omega (arith, e.place) in
        (omega (arith, e.within, long), rw p (pile_left E rs (end_rec l ∷ []) [] e.at e.within ∙ e.pile))

    bodies : (T : ℕ) → Y T → Body E 0 us T
    bodies T y = body_left E 0 rs (end_rec l ∷ []) T (s.bodies T y)

    ahead : Ahead 0 us
    ahead = ahead_append 0 (length rs) rs (end_rec l ∷ []) (omega arith) s.ahead (λ e. absurd (omega arith), tt)
