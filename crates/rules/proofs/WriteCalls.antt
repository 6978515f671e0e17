-- Lists of records and their calls 44 and 45: what changes them, and that closing up does not.
use Rattle.std.proofs.Common.{◌≡◌, ℕ, zero, suc, ◌+◌, ◌-◌, ◌<◌, ◌≤◌, Bool, true, false, eqb, ltb, ◌⊎◌, List, [], ◌∷◌, ◌++◌, length, sym, refl, ap, ◌∙◌, inl, inr, append-nil, arith, length-append, eqb-true}
use lib.Seq.{get_or-append_seam}
use Rattle.recorder.specs.Word.{pick, both}
use Rattle.recorder.specs.Ideal.{Rec, rec, no_rec, Ideal, change, with_a, look_of, Search, missing, found}
use Rattle.recorder.specs.Marks.{Mark}
use Rattle.recorder.specs.Closing.{rules_r, is_while, end_from, end_at, close_whiles, rec_at, is_start, is_end, is_one, is_for, is_next_of, is_delay, is_stepped_delay, no_op, sleep, rounded, whole_end, delayed, stepped_delayed, delay_from, delays, end_rec, clean_up}
use Rattle.recorder.proofs.Words.{change_length}
use Rattle.recorder.proofs.Bools.{both_left, both_right}
use Rattle.rules.specs.Program.{Lines, Waiting, jumps, restores, is_pending, resolve_labels, resolve_datum_indices, close_up}
use Rattle.rules.specs.Missing.{WriteCall, write_call}
use Rattle.rules.specs.Writes.{is_write_call, write_calls, records_from}
use Rattle.rules.proofs.Waits.{Waits, jumps_wait, restores_wait, of_waiting}
use Rattle.rules.proofs.ClosingPiles.{each, settle_rec, settle_to}
use Rattle.rules.proofs.DelayPiles.{start_call, one_call, end_call, for_call, next_call}
use Rattle.rules.proofs.ProgramPiles.{v_records}

-- lists one after the other
pub calls_append : (xs ys : List Rec) → write_calls (xs ++ ys) ≡ write_calls xs ++ write_calls ys
unfolding write_calls
calls_append [] ys = refl
calls_append (r ∷ xs) ys = go (is_write_call r.call) (calls_append xs ys)
  where
    go : (b : Bool) → write_calls (xs ++ ys) ≡ write_calls xs ++ write_calls ys
        → pick b (write_call r.a r.b ∷ write_calls (xs ++ ys)) (write_calls (xs ++ ys)) ≡ pick b (write_call r.a r.b ∷ write_calls xs) (write_calls xs) ++ write_calls ys
    go true e = ap (λ (z : List WriteCall). write_call r.a r.b ∷ z) e
    go false e = e

-- a record of another call
abbrev pub NoWrite : Rec → Type 0
NoWrite r = is_write_call r.call ≡ false

no_write_call : (r : Rec) (k : ℕ) → is_write_call k ≡ false → r.call ≡ k → NoWrite r
no_write_call r k h e = rw e h

no_write_one : (r : Rec) → NoWrite r → write_calls (r ∷ []) ≡ []
unfolding write_calls
no_write_one r h = rw h refl

-- the last record put on
pub no_write_last : (rs : List Rec) (r : Rec) → NoWrite r → write_calls (rs ++ (r ∷ [])) ≡ write_calls rs
no_write_last rs r h = calls_append rs (r ∷ []) ∙ ap (λ (z : List WriteCall). write_calls rs ++ z) (no_write_one r h) ∙ append-nil (write_calls rs)

pub write_last : (rs : List Rec) (r : Rec) → is_write_call r.call ≡ true → write_calls (rs ++ (r ∷ [])) ≡ write_calls rs ++ (write_call r.a r.b ∷ [])
unfolding write_calls
write_last rs r h = calls_append rs (r ∷ []) ∙ ap (λ (z : List WriteCall). write_calls rs ++ z) (rw h refl)

-- the call 44 or 45 that a record is, if it is one; and the one at an address
abbrev pub call_of : Rec → List WriteCall
call_of r = write_calls (r ∷ [])

abbrev pub call_at : List Rec → ℕ → List WriteCall
call_at rs k = call_of (rec_at rs k)

one_first : (r u : Rec) (rs us : List Rec) → call_of u ≡ call_of r → write_calls us ≡ write_calls rs → write_calls (u ∷ us) ≡ write_calls (r ∷ rs)
one_first r u rs us e f = calls_append (u ∷ []) us ∙ rw (e, f) (sym (calls_append (r ∷ []) rs))

no_write_same : (r u : Rec) → NoWrite r → NoWrite u → call_of u ≡ call_of r
no_write_same r u h k = no_write_one u k ∙ sym (no_write_one r h)

-- a list that has the same calls at the same addresses
pub record Same (rs us : List Rec) : Type 0 where
  pub long : length us ≡ length rs
  pub calls : (k : ℕ) → call_at us k ≡ call_at rs k

same_refl : (rs : List Rec) → Same rs rs
same_refl rs = record { long = refl; calls = λ k. refl }

same_then : {rs us ys : List Rec} → Same rs us → Same us ys → Same rs ys
same_then a b = record { long = b.long ∙ a.long; calls = λ k. b.calls k ∙ a.calls k }

same_cons : {r u : Rec} {rs us : List Rec} → call_of u ≡ call_of r → Same rs us → Same (r ∷ rs) (u ∷ us)
same_cons {r} {u} {rs} {us} e a = record { long = ap suc a.long; calls = go }
  where
    go : (k : ℕ) → call_at (u ∷ us) k ≡ call_at (r ∷ rs) k
    go zero = e
    go (suc k) = a.calls k

pub same_calls : (rs us : List Rec) → Same rs us → write_calls us ≡ write_calls rs
same_calls [] [] a = refl
same_calls [] (u ∷ us) a = absurd (omega (arith, a.long))
same_calls (r ∷ rs) [] a = absurd (omega (arith, a.long))
same_calls (r ∷ rs) (u ∷ us) a = one_first r u rs us (a.calls 0) (same_calls rs us (record { long = omega (arith, a.long); calls = λ k. a.calls (suc k) }))

pub same_change : (g : Rec → Rec) (rs : List Rec) (k : ℕ) → call_of (g (rec_at rs k)) ≡ call_at rs k → Same rs (change g rs k)
unfolding change
same_change g [] k e = same_refl []
same_change g (r ∷ rs) zero e = same_cons e (same_refl rs)
same_change g (r ∷ rs) (suc k) e = same_cons refl (same_change g rs k e)

-- a list that goes on behind another, with the same calls at the same addresses
pub record Ahead (rs us : List Rec) : Type 0 where
  pub short : length rs ≤ length us
  pub calls : (k : ℕ) → k < length rs → call_at us k ≡ call_at rs k

pub ahead_same : {rs us : List Rec} → Same rs us → Ahead rs us
ahead_same a = record { short = omega (arith, a.long); calls = λ k h. a.calls k }

pub ahead_then : {rs us ys : List Rec} → Ahead rs us → Ahead us ys → Ahead rs ys
ahead_then a b = record { short = omega (arith, a.short, b.short); calls = λ k h. b.calls k (omega (arith, h, a.short)) ∙ a.calls k h }

at_front : (xs ys : List Rec) (k : ℕ) → k < length xs → rec_at (xs ++ ys) k ≡ rec_at xs k
at_front [] ys k h = absurd (omega arith)
at_front (x ∷ xs) ys zero h = refl
at_front (x ∷ xs) ys (suc k) h = at_front xs ys k (omega arith)

pub ahead_more : (rs xs ys : List Rec) → rs ≡ xs ++ ys → Ahead xs rs
ahead_more rs xs ys e = rw e (record { short = omega (arith, length-append xs ys); calls = λ k h. ap call_of (at_front xs ys k h) })

pub from_calls : (rs us : List Rec) (k n : ℕ) → k + n ≤ length rs → Ahead rs us → write_calls (records_from us k n) ≡ write_calls (records_from rs k n)
unfolding records_from
from_calls rs us k zero h a = refl
from_calls rs us k (suc n) h a =
    one_first (rec_at rs k) (rec_at us k) (records_from rs (suc k) n) (records_from us (suc k) n) (a.calls k (omega arith)) (from_calls rs us (suc k) n (omega arith) a)

from_second : (r : Rec) (rs : List Rec) (k n : ℕ) → records_from (r ∷ rs) (suc k) n ≡ records_from rs k n
unfolding records_from
from_second r rs k zero = refl
from_second r rs k (suc n) = ap (λ (z : List Rec). rec_at rs k ∷ z) (from_second r rs (suc k) n)

pub from_behind : (xs ys : List Rec) → records_from (xs ++ ys) (length xs) (length ys) ≡ ys
unfolding records_from
from_behind [] [] = refl
from_behind [] (y ∷ ys) = ap (λ (z : List Rec). y ∷ z) (from_second y ys 0 (length ys) ∙ from_behind [] ys)
from_behind (x ∷ xs) ys = from_second x (xs ++ ys) (length xs) (length ys) ∙ from_behind xs ys

-- a jump stands at an address: it stays there, and its target may change
abbrev pub JumpAt : List Rec → ℕ → Type 0
JumpAt rs k = (k < length rs) × NoWrite (rec_at rs k)

pub jump_here : (rs : List Rec) (r : Rec) → NoWrite r → JumpAt (rs ++ (r ∷ [])) (length rs)
jump_here rs r h = (omega (arith, length-append rs (r ∷ [])), rw (get_or-append_seam rs r [] no_rec) h)

pub jump_more : (rs xs ys : List Rec) (k : ℕ) → rs ≡ xs ++ ys → JumpAt xs k → JumpAt rs k
jump_more rs xs ys k e h = rw e (omega (arith, h.0, length-append xs ys), rw (at_front xs ys k h.0) h.1)

kept_no_write : (g : Rec → Rec) → ((r : Rec) → NoWrite r → NoWrite (g r)) → (rs : List Rec) (k j : ℕ) → NoWrite (rec_at rs j) → NoWrite (rec_at (change g rs k) j)
unfolding change
kept_no_write g q [] k j h = h
kept_no_write g q (r ∷ rs) zero zero h = q r h
kept_no_write g q (r ∷ rs) zero (suc j) h = h
kept_no_write g q (r ∷ rs) (suc k) zero h = h
kept_no_write g q (r ∷ rs) (suc k) (suc j) h = kept_no_write g q rs k j h

pub jump_kept : (rs : List Rec) (v k j : ℕ) → JumpAt rs j → JumpAt (change (with_a v) rs k) j
jump_kept rs v k j h = (omega (arith, h.0, change_length (with_a v) rs k), kept_no_write (with_a v) (λ r e. e) rs k j h.1)

no_write_change : (g : Rec → Rec) → ((r : Rec) → NoWrite r → NoWrite (g r)) → (rs : List Rec) (k : ℕ) → NoWrite (rec_at rs k) → Same rs (change g rs k)
no_write_change g q rs k h = same_change g rs k (no_write_same (rec_at rs k) (g (rec_at rs k)) h (q (rec_at rs k) h))

pub jump_targeted : (rs : List Rec) (v k : ℕ) → JumpAt rs k → Same rs (change (with_a v) rs k)
jump_targeted rs v k h = no_write_change (with_a v) (λ r e. e) rs k h.1

-- closing up
same_each : (g : Rec → Rec) → ((r : Rec) → call_of (g r) ≡ call_of r) → (rs : List Rec) → Same rs (each g rs)
same_each g q [] = same_refl []
same_each g q (r ∷ rs) = same_cons (q r) (same_each g q rs)

-- a record that waits is no call 44 or 45 and keeps its call
waiting_same : (w : Bool) (r u : Rec) → u.call ≡ r.call → (w ≡ true → NoWrite r) → call_of (pick w u r) ≡ call_of r
waiting_same true r u e h = no_write_same r u (h refl) (rw e (h refl))
waiting_same false r u e h = refl

settled_call : (o : Search) (r : Rec) → (settle_rec o r).call ≡ r.call
settled_call (found v) r = refl
settled_call missing r = refl

settled_same : (w : Waiting) (ms : List Mark) → Waits w → (rs : List Rec) → Same rs (each (settle_to w ms) rs)
settled_same w ms h rs =
    same_each (settle_to w ms) (λ r. waiting_same (is_pending w (look_of r)) r (settle_rec (w.find ms (r.b - 1)) r) (settled_call (w.find ms (r.b - 1)) r)
    (λ e. of_waiting (λ (c : ℕ). is_write_call c ≡ false) refl refl refl h r.call (both_right (ltb 0 r.b) (w.waits r.call) e))) rs

end_call_same : (o : Search) (r : Rec) → (end_at o r).call ≡ r.call
end_call_same (found v) r = refl
end_call_same missing r = refl

while_same : (rs : List Rec) (k : ℕ) → Same rs (close_whiles rs k)
unfolding close_whiles
while_same [] k = same_refl []
while_same (r ∷ rs) k =
    let o = end_from rs 0 (suc k) in
    same_cons (waiting_same (is_while r) r (end_at o r) (end_call_same o r) (λ e. no_write_call r 25 refl (eqb-true r.call 25 e))) (while_same rs (suc k))

-- a list made of another by changes of records that are no call 44 or 45
record NoWriteChanged (rs us : List Rec) : Type 0 where
  same : Same rs us
  no_write : (j : ℕ) → NoWrite (rec_at rs j) → NoWrite (rec_at us j)

unchanged : (rs : List Rec) → NoWriteChanged rs rs
unchanged rs = record { same = same_refl rs; no_write = λ j h. h }

changed : (g : Rec → Rec) → ((r : Rec) → NoWrite r → NoWrite (g r)) → {rs us : List Rec} → NoWriteChanged rs us → (k : ℕ) → NoWrite (rec_at rs k) → NoWriteChanged rs (change g us k)
changed g q {us = us} a k h = record {
  same = same_then a.same (no_write_change g q us k (a.no_write k h));
  no_write = λ j e. kept_no_write g q us k j (a.no_write j e);
}

end_no_write : (r : Rec) → is_end r ≡ true → NoWrite r
end_no_write r e = go (end_call r e)
  where
    go : (r.call ≡ 3) ⊎ (r.call ≡ 5) → NoWrite r
    go (inl q) = no_write_call r 3 refl q
    go (inr q) = no_write_call r 5 refl q

whole_no_write : (r : Rec) → NoWrite r → NoWrite (whole_end r)
whole_no_write r h = go (eqb r.call 3)
  where
    go : (b : Bool) → NoWrite (pick b (rec 3 r.line r.range (rounded r.a r.b).e (rounded r.a r.b).m 0) r)
    go true = refl
    go false = h

delay_same : (rs : List Rec) (k : ℕ) → Same rs (delay_from rs k)
unfolding delay_from
delay_same rs k = go (is_delay rs k) refl (is_stepped_delay rs k) refl
  where
    begun : is_start (rec_at rs k) ≡ true → is_end (rec_at rs (k + 1)) ≡ true → NoWriteChanged rs (change whole_end (change no_op rs k) (k + 1))
    begun s e =
        changed whole_end whole_no_write (changed no_op (λ r h. refl) (unchanged rs) k (no_write_call (rec_at rs k) 3 refl (start_call (rec_at rs k) s)))
        (k + 1) (end_no_write (rec_at rs (k + 1)) e)

    for_no_write : (n : ℕ) (r : Rec) → is_for n r ≡ true → NoWrite r
    for_no_write n r e = no_write_call r 23 refl (for_call n r e).0

    next_no_write : (f r : Rec) → is_next_of f r ≡ true → NoWrite r
    next_no_write f r e = no_write_call r 24 refl (next_call f r e)

    plain : is_delay rs k ≡ true → Same rs (delayed rs k)
    plain e =
        let A = is_start (rec_at rs k) in
        let B = is_end (rec_at rs (k + 1)) in
        let C = is_for 0 (rec_at rs (k + 2)) in
        let D = is_next_of (rec_at rs (k + 2)) (rec_at rs (k + 3)) in
        let e₁ = both_right A (both B (both C D)) e in
        let e₂ = both_right B (both C D) e₁ in
        (changed no_op (λ r h. refl) (changed sleep (λ r h. refl) (begun (both_left A (both B (both C D)) e) (both_left B (both C D) e₁))
        (k + 2) (for_no_write 0 (rec_at rs (k + 2)) (both_left C D e₂))) (k + 3) (next_no_write (rec_at rs (k + 2)) (rec_at rs (k + 3)) (both_right C D e₂))).same

    stepped : is_stepped_delay rs k ≡ true → Same rs (stepped_delayed rs k)
    stepped e =
        let A = is_start (rec_at rs k) in
        let B = is_end (rec_at rs (k + 1)) in
        let C = is_one (rec_at rs (k + 2)) in
        let D = is_for 1 (rec_at rs (k + 3)) in
        let F = is_next_of (rec_at rs (k + 3)) (rec_at rs (k + 4)) in
        let e₁ = both_right A (both B (both C (both D F))) e in
        let e₂ = both_right B (both C (both D F)) e₁ in
        let e₃ = both_right C (both D F) e₂ in
        (changed no_op (λ r h. refl) (changed sleep (λ r h. refl) (changed no_op (λ r h. refl) (begun (both_left A (both B (both C (both D F))) e) (both_left B (both C (both D F)) e₁))
        (k + 2) (no_write_call (rec_at rs (k + 2)) 3 refl (one_call (rec_at rs (k + 2)) (both_left C (both D F) e₂)))) (k + 3) (for_no_write 1 (rec_at rs (k + 3)) (both_left D F e₃)))
        (k + 4) (next_no_write (rec_at rs (k + 3)) (rec_at rs (k + 4)) (both_right D F e₃))).same

    go : (a : Bool) → is_delay rs k ≡ a → (b : Bool) → is_stepped_delay rs k ≡ b → Same rs (pick a (delayed rs k) (pick b (stepped_delayed rs k) rs))
    go true e b f = plain e
    go false e true f = stepped f
    go false e false f = same_refl rs

delays_same : (n k : ℕ) (rs : List Rec) → Same rs (delays n k rs)
unfolding delays
delays_same zero k rs = same_refl rs
delays_same (suc n) k rs = same_then (delay_same rs k) (delays_same n (k + 1) (delay_from rs k))

-- the finished list but for End
pub record Closed (rs us : List Rec) : Type 0 where
  pub list : List Rec
  pub line : ℕ
  pub same : Same rs list
  pub whole : us ≡ list ++ (end_rec line ∷ [])

pub closed : (t : List ℕ) (c : Lines Ideal) → Closed c.state.records (close_up (rules_r t) c).records
unfolding close_up clean_up
closed t c =
    let C = c.state.records in
    let u = resolve_labels (rules_r t) c.marks 0 (length C) c.state in
    let v = resolve_datum_indices (rules_r t) c.marks 0 (length u.records) u in
    let jumped = settled_same jumps c.marks jumps_wait C in
    let restored = settled_same restores c.marks restores_wait (each (settle_to jumps c.marks) C) in
    let resolved : Same C v.records = rw (v_records t c) (same_then jumped restored) in
    record {
      list = delays (length v.records) 0 (close_whiles v.records 0);
      line = v.line;
      same = same_then resolved (same_then (while_same v.records 0) (delays_same (length v.records) 0 (close_whiles v.records 0)));
      whole = refl;
    }
