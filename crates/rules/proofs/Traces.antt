-- The run of a whole list, with what is asked of each of its records, and how closing up changes it.
use Rattle.std.proofs.Common.{◌≡◌, ℕ, zero, suc, ◌+◌, ◌<◌, true, List, [], ◌∷◌, ◌++◌, length, get_or, sym, refl, ◌∙◌, subst, arith}
use Rattle.recorder.specs.Ideal.{Rec, no_rec, Entry}
use Rattle.sheet.specs.Tree.{Opt, absent, given}
use Rattle.rules.specs.Missing.{All}
use Rattle.rules.specs.Piles.{Pile, step}
use Rattle.rules.proofs.PileLaws.{and_then, pile_in, empties_call, fixed_targets, is_jump_call, Jumps, jumps_append, Flow, Ahead}

pub record EmptyBehind (r : Rec) (Q : Pile) (rs : List Rec) : Type 0 where
  pub empty_behind : empties_call r.call ≡ true → Q ≡ []
  pub on : r.call ≡ 22 → Jumps r.a rs

pub data Trace (E : List Entry) (Z : Rec → Type 0) : List Rec → Pile → Pile → Type 0 where
  done : {P : Pile} → Trace E Z [] P P
  go : {r : Rec} {rs : List Rec} {P Q U : Pile} → step E r P ≡ given Q → EmptyBehind r Q rs → Z r → Trace E Z rs Q U → Trace E Z (r ∷ rs) P U

-- what a flow asks of a record by itself
pub record Fixed (X Y : ℕ → Type 0) (r : Rec) : Type 0 where
  pub fixed : All X (fixed_targets r)
  pub body : r.call ≡ 26 → Y r.c

pub flow_trace : {E : List Entry} {X Y : ℕ → Type 0} {xs : List Rec} {P Q : Pile} → Flow E X Y xs P Q → Trace E (Fixed X Y) xs P Q
flow_trace Flow.done = done
flow_trace (Flow.go s w a) = go s (record { empty_behind = w.empty_behind; on = w.on }) (record { fixed = w.fixed; body = w.body }) (flow_trace a)

-- the pile before each record, and behind the last
pub trace_at : {E : List Entry} {Z : Rec → Type 0} {xs : List Rec} {P Q : Pile} → Trace E Z xs P Q → (k : ℕ) → (U : Pile) × (pile_in E xs P k ≡ given U)
unfolding pile_in
trace_at {P = P} done k = (P, refl)
trace_at {P = P} (go s q z a) zero = (P, refl)
trace_at {E} (go {rs = rs} s q z a) (suc k) = let u = trace_at a k in (u.0, rw s u.1)

pub trace_step : {E : List Entry} {Z : Rec → Type 0} {xs : List Rec} {P Q U M : Pile} → Trace E Z xs P Q → (k : ℕ) → k < length xs → pile_in E xs P k ≡ given U → pile_in E xs P (suc k) ≡ given M
    → step E (get_or xs k no_rec) U ≡ given M
unfolding pile_in
trace_step done k h e f = absurd (omega arith)
trace_step {E} {P = P} {U = U} {M = M} (go {r = r} {rs = rs} {Q = N} s q z a) zero h e f =
    let p : P ≡ U = cc in
    let g : and_then (given N) (λ (V' : Pile). pile_in E rs V' 0) ≡ given M = rw s at f in
    let n : pile_in E rs N 0 ≡ given N = none rs N in
    let m : N ≡ M = cc in
    rw (← p, ← m) s
  where
    none : (xs : List Rec) (P : Pile) → pile_in E xs P 0 ≡ given P
    none [] P = refl
    none (x ∷ xs) P = refl
trace_step {E} (go {rs = rs} s q z a) (suc k) h e f = trace_step a k (omega arith) (rw s at e) (rw s at f)

pub trace_empty : {E : List Entry} {Z : Rec → Type 0} {xs : List Rec} {P Q : Pile} → Trace E Z xs P Q → (k : ℕ) → k < length xs → empties_call (get_or xs k no_rec).call ≡ true → pile_in E xs P (suc k) ≡ given []
unfolding pile_in
trace_empty done k h e = absurd (omega arith)
trace_empty {E} (go {rs = rs} {Q = N} s q z a) zero h e = rw (s, q.empty_behind e) (none rs)
  where
    none : (xs : List Rec) → pile_in E xs [] 0 ≡ given []
    none [] = refl
    none (x ∷ xs) = refl
trace_empty {E} (go s q z a) (suc k) h e = rw s (trace_empty a k (omega arith) e)

pub trace_each : {E : List Entry} {Z : Rec → Type 0} {xs : List Rec} {P Q : Pile} → Trace E Z xs P Q → (k : ℕ) → k < length xs → Z (get_or xs k no_rec)
trace_each done k h = absurd (omega arith)
trace_each (go s q z a) zero h = z
trace_each (go s q z a) (suc k) h = trace_each a k (omega arith)

jump_at : (n : ℕ) (rs : List Rec) (j : ℕ) → Jumps n rs → j < n → (j < length rs) × (is_jump_call (get_or rs j no_rec).call ≡ true)
jump_at zero rs j a h = absurd (omega arith)
jump_at (suc n) [] j a h = absurd a
jump_at (suc n) (r ∷ rs) zero a h = (omega arith, a.0)
jump_at (suc n) (r ∷ rs) (suc j) a h = let u = jump_at n rs j a.1 (omega arith) in (omega (arith, u.0), u.1)

pub trace_on : {E : List Entry} {Z : Rec → Type 0} {xs : List Rec} {P Q : Pile} → Trace E Z xs P Q → (k : ℕ) → k < length xs → (get_or xs k no_rec).call ≡ 22 → (j : ℕ) → j < (get_or xs k no_rec).a
    → (suc (k + j) < length xs) × (is_jump_call (get_or xs (suc (k + j)) no_rec).call ≡ true)
trace_on done k h e j i = absurd (omega arith)
trace_on (go {r = r} {rs = rs} s q z a) zero h e j i =
    let u = jump_at r.a rs j (q.on e) i in
    let w : 0 + j ≡ j = omega arith in
    (omega (arith, u.0), rw w u.1)
trace_on (go {rs = rs} s q z a) (suc k) h e j i =
    let u = trace_on a k (omega arith) e j i in
    let w : suc k + j ≡ suc (k + j) = omega arith in
    (omega (arith, u.0), rw w u.1)

-- two lists whose records are alike one by one
pub data Zip (L : Rec → Rec → Type 0) : List Rec → List Rec → Type 0 where
  none : Zip L [] []
  more : {r u : Rec} {rs us : List Rec} → L r u → Zip L rs us → Zip L (r ∷ rs) (u ∷ us)

pub record Alike (E : List Entry) (Z T : Rec → Type 0) (r u : Rec) : Type 0 where
  pub steps : (P : Pile) → step E u P ≡ step E r P
  pub call : u.call ≡ r.call
  pub count : r.call ≡ 22 → u.a ≡ r.a
  pub end : r.call ≡ 26 → u.c ≡ r.c
  pub asked : Z r → T u

zip_jumps : {E : List Entry} {Z T : Rec → Type 0} {rs us : List Rec} (n : ℕ) → Zip (Alike E Z T) rs us → Jumps n rs → Jumps n us
zip_jumps zero z j = tt
zip_jumps (suc n) none j = absurd j
zip_jumps (suc n) (more l z) j = (rw l.call j.0, zip_jumps n z j.1)

pub zip_trace : {E : List Entry} {Z T : Rec → Type 0} {rs us : List Rec} {P Q : Pile} → Zip (Alike E Z T) rs us → Trace E Z rs P Q → Trace E T us P Q
zip_trace none done = done
zip_trace {E} {Z} {T} (more {r = r} {u = u} {rs = rs} {us = us} l z) (go {P = P} {Q = N} s q w a) =
    go (l.steps P ∙ s)
    (record { empty_behind = λ e. q.empty_behind (rw l.call at e); on = λ e. let f : r.call ≡ 22 = rw l.call at e in subst (λ (n : ℕ). Jumps n us) (sym (l.count f)) (zip_jumps r.a z (q.on f)) })
    (l.asked w) (zip_trace z a)

pub zip_pile : {E : List Entry} {Z T : Rec → Type 0} {rs us : List Rec} → Zip (Alike E Z T) rs us → (P : Pile) (k : ℕ) → pile_in E us P k ≡ pile_in E rs P k
unfolding pile_in
zip_pile none P k = refl
zip_pile (more l z) P zero = refl
zip_pile {E} (more {r = r} {u = u} {rs = rs} {us = us} l z) P (suc k) = rw (l.steps P) (next (step E r P) (λ Q. zip_pile z Q k))
  where
    next : (o : Opt Pile) → ((Q : Pile) → pile_in E us Q k ≡ pile_in E rs Q k) → and_then o (λ Q. pile_in E us Q k) ≡ and_then o (λ Q. pile_in E rs Q k)
    next absent f = refl
    next (given Q) f = f Q

pub zip_ahead : {E : List Entry} {Z T : Rec → Type 0} {rs us : List Rec} (B : ℕ) → Zip (Alike E Z T) rs us → Ahead B rs → Ahead B us
zip_ahead B none a = tt
zip_ahead B (more l z) a = (λ e. let f = sym l.call ∙ e in rw (l.end f) (a.0 f), zip_ahead (suc B) z a.1)

pub zip_call : {E : List Entry} {Z T : Rec → Type 0} {rs us : List Rec} → Zip (Alike E Z T) rs us → (k : ℕ) → (get_or us k no_rec).call ≡ (get_or rs k no_rec).call
zip_call none k = refl
zip_call (more l z) zero = l.call
zip_call (more l z) (suc k) = zip_call z k

pub trace_append : {E : List Entry} {Z : Rec → Type 0} {xs ys : List Rec} {P Q U : Pile} → Trace E Z xs P Q → Trace E Z ys Q U → Trace E Z (xs ++ ys) P U
trace_append done b = b
trace_append {ys = ys} (go {r = r} {rs = rs} s q z a) b = go s (record { empty_behind = q.empty_behind; on = λ e. jumps_append r.a rs ys (q.on e) }) z (trace_append a b)
