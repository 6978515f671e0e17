-- patch_while_instr on words is the rules' closing of WHILEs. Between the two stands a run with the open WHILEs on a stack:
-- the words hold the records with each open WHILE's argument b linked to the one below it.
use mathlib.Core.Path.{◌≡◌, refl, sym, ap, ◌∙◌}
use mathlib.Core.List.{List, [], ◌∷◌, ◌++◌, append_assoc, append-nil}
use mathlib.Core.Bool.{Bool, true, false}
use Prim.Native.Nat.{ℕ, zero, suc, ◌+◌, ◌-◌, ◌≤◌, ◌<◌}
use lib.ListN.{length, get_or}
use borrow.Author.Tests.{ne_eqb, eqb-true}
use native.Mathlib.Omega.{arith}
use Rattle.recorder.specs.Word.{pick, choose}
use Rattle.recorder.specs.Ideal.{Rec, Note, note_of, no_rec, change, with_b, missing, found}
use Rattle.recorder.specs.Closing.{is_wend, is_while, closes, opened, end_from, end_at, close_whiles, open_note, open_notes}
use Rattle.recorder.proofs.Words.{length_snoc, change_length}
use Rattle.recorder.proofs.Bools.{true_not_false}
use Rattle.simulation.proofs.Change.{change_front, change_last, change_comm, change_none}

-- a WHILE is no WEND
pub while_wend : (r : Rec) → is_while r ≡ true → is_wend r ≡ false
while_wend r e = let z = eqb-true r.call 25 e in rw z

pub wend_while : (r : Rec) → is_wend r ≡ true → is_while r ≡ false
wend_while r e = go (is_while r) refl
  where
    go : (b : Bool) → is_while r ≡ b → b ≡ false
    go false f = refl
    go true f = true_not_false (sym e ∙ while_wend r f)

-- the end that a WHILE gets, behind one record
end_while : (r : Rec) (rs : List Rec) (i k : ℕ) → is_while r ≡ true → end_from (r ∷ rs) i k ≡ end_from rs (suc i) (suc k)
unfolding end_from
end_while r rs i k e = rw (while_wend r e, e)

end_here_lem : (r : Rec) (rs : List Rec) (k : ℕ) → is_wend r ≡ true → end_from (r ∷ rs) 0 k ≡ found (suc k)
unfolding end_from
end_here_lem r rs k e = rw e

end_wend : (r : Rec) (rs : List Rec) (i k : ℕ) → is_wend r ≡ true → end_from (r ∷ rs) (suc i) k ≡ end_from rs i (suc k)
unfolding end_from
end_wend r rs i k e = let z : suc i - 1 ≡ i = omega arith in rw (e, ne_eqb (suc i) 0 (λ z. omega arith), wend_while r e, z)

end_other : (r : Rec) (rs : List Rec) (i k : ℕ) → is_while r ≡ false → is_wend r ≡ false → end_from (r ∷ rs) i k ≡ end_from rs i (suc k)
unfolding end_from
end_other r rs i k e f = rw (f, e)

-- the run with a stack: the records passed, the addresses of the open WHILEs, the last on top
unfoldable pub step_p : List Rec → List ℕ → ℕ → Rec → List Rec
step_p ps [] k r = ps ++ (r ∷ [])
step_p ps (w ∷ ws) k r = pick (is_while r) ps (pick (is_wend r) (change (with_b (suc k)) ps w) ps) ++ (r ∷ [])

abbrev pub pop : List ℕ → List ℕ
pop [] = []
pop (w ∷ ws) = ws

unfoldable pub step_w : List ℕ → ℕ → Rec → List ℕ
step_w ws k r = pick (is_while r) (k ∷ ws) (pick (is_wend r) (pop ws) ws)

unfoldable pub run_p : List Rec → List ℕ → ℕ → List Rec → List Rec
run_p ps ws k [] = ps
run_p ps ws k (r ∷ rs) = run_p (step_p ps ws k r) (step_w ws k r) (suc k) rs

unfoldable pub run_w : List ℕ → ℕ → List Rec → List ℕ
run_w ws k [] = ws
run_w ws k (r ∷ rs) = run_w (step_w ws k r) (suc k) rs

-- addresses fall down the stack, below k
unfoldable pub Below : List ℕ → ℕ → Type 0
Below [] k = 0 ≤ k
Below (w ∷ ws) k = (w < k) × Below ws w

pub below_more : (ws : List ℕ) (j k : ℕ) → j ≤ k → Below ws j → Below ws k
unfolding Below
below_more [] j k h b = omega arith
below_more (w ∷ ws) j k h b = (omega (arith, b.0), b.1)

pub below_pop : (ws : List ℕ) (k : ℕ) → Below ws k → Below (pop ws) k
unfolding Below
below_pop [] k b = b
below_pop (w ∷ ws) k b = below_more ws w k (omega (arith, b.0)) b.1

pub below_step : (ws : List ℕ) (k : ℕ) (r : Rec) → Below ws k → Below (step_w ws k r) (suc k)
unfolding Below step_w
below_step ws k r b = go (is_while r) (is_wend r)
  where
    go : (c d : Bool) → Below (pick c (k ∷ ws) (pick d (pop ws) ws)) (suc k)
    go true d = (omega arith, b)
    go false true = below_more (pop ws) k (suc k) (omega arith) (below_pop ws k b)
    go false false = below_more ws k (suc k) (omega arith) b

pub below_length : (ws : List ℕ) (k : ℕ) → Below ws k → length ws ≤ k
unfolding Below
below_length [] k b = omega arith
below_length (w ∷ ws) k b = omega (arith, below_length ws w b.1, b.0)

pub step_length : (ps : List Rec) (ws : List ℕ) (k : ℕ) (r : Rec) → length (step_p ps ws k r) ≡ suc (length ps)
unfolding step_p
step_length ps [] k r = length_snoc ps r
step_length ps (w ∷ ws) k r = go (is_while r) (is_wend r)
  where
    go : (c d : Bool) → length (pick c ps (pick d (change (with_b (suc k)) ps w) ps) ++ (r ∷ [])) ≡ suc (length ps)
    go true d = length_snoc ps r
    go false true = length_snoc (change (with_b (suc k)) ps w) r ∙ ap suc (change_length (with_b (suc k)) ps w)
    go false false = length_snoc ps r

-- what becomes of the records passed: the WHILE at place i of the stack ends where i more WENDs have come
unfoldable pub ends : List Rec → List ℕ → List Rec → ℕ → ℕ → List Rec
ends ps [] rs i k = ps
ends ps (w ∷ ws) rs i k = change (end_at (end_from rs i k)) (ends ps ws rs (suc i) k) w

ends_length : (ps : List Rec) (ws : List ℕ) (rs : List Rec) (i k : ℕ) → length (ends ps ws rs i k) ≡ length ps
unfolding ends
ends_length ps [] rs i k = refl
ends_length ps (w ∷ ws) rs i k = change_length (end_at (end_from rs i k)) (ends ps ws rs (suc i) k) w ∙ ends_length ps ws rs (suc i) k

-- the same ends, behind one record
ends_same : (ps : List Rec) (ws : List ℕ) (rs qs : List Rec) (i j k l : ℕ) → ((n : ℕ) → end_from rs (i + n) k ≡ end_from qs (j + n) l) → ends ps ws rs i k ≡ ends ps ws qs j l
unfolding ends
ends_same ps [] rs qs i j k l h = refl
ends_same ps (w ∷ ws) rs qs i j k l h =
    let e : end_from rs i k ≡ end_from qs j l = let a : i + 0 ≡ i = omega arith in let b : j + 0 ≡ j = omega arith in
    ap (λ (z : ℕ). end_from rs z k) (sym a) ∙ h 0 ∙ ap (λ (z : ℕ). end_from qs z l) b in
    rw (
      e,
      ends_same ps ws rs qs (suc i) (suc j) k l (λ n.
          let a : suc i + n ≡ i + suc n = omega arith in let b : suc j + n ≡ j + suc n = omega arith in
          ap (λ (z : ℕ). end_from rs z k) a ∙ h (suc n) ∙ ap (λ (z : ℕ). end_from qs z l) (sym b)),
    )

ends_snoc : (ps : List Rec) (r : Rec) (ws : List ℕ) (rs : List Rec) (i k m : ℕ) → Below ws m → m ≤ length ps → ends (ps ++ (r ∷ [])) ws rs i k ≡ ends ps ws rs i k ++ (r ∷ [])
unfolding ends Below
ends_snoc ps r [] rs i k m b h = refl
ends_snoc ps r (w ∷ ws) rs i k m b h =
    rw (ends_snoc ps r ws rs (suc i) k w b.1 (omega (arith, b.0)))
    (change_front (end_at (end_from rs i k)) (ends ps ws rs (suc i) k) (r ∷ []) w (omega (arith, b.0, ends_length ps ws rs (suc i) k)))

ends_change : (f : Rec → Rec) (ps : List Rec) (ws : List ℕ) (rs : List Rec) (i k w : ℕ) → Below ws w → ends (change f ps w) ws rs i k ≡ change f (ends ps ws rs i k) w
unfolding ends Below
ends_change f ps [] rs i k w b = refl
ends_change f ps (v ∷ ws) rs i k w b =
    rw (ends_change f ps ws rs (suc i) k w (below_more ws v w (omega (arith, b.0)) b.1))
    (change_comm (end_at (end_from rs i k)) f (ends ps ws rs (suc i) k) w v (λ e. omega (arith, b.0)))

-- the records
close_while : (r : Rec) (rs : List Rec) (k : ℕ) → is_while r ≡ true → close_whiles (r ∷ rs) k ≡ end_at (end_from rs 0 (suc k)) r ∷ close_whiles rs (suc k)
unfolding close_whiles
close_while r rs k e = rw e

close_other : (r : Rec) (rs : List Rec) (k : ℕ) → is_while r ≡ false → close_whiles (r ∷ rs) k ≡ r ∷ close_whiles rs (suc k)
unfolding close_whiles
close_other r rs k e = rw e

close_none : (k : ℕ) → close_whiles [] k ≡ []
unfolding close_whiles
close_none k = refl

ends_none : (ps : List Rec) (ws : List ℕ) (i k : ℕ) → ends ps ws [] i k ≡ ps
unfolding ends end_from
ends_none ps [] i k = refl
ends_none ps (w ∷ ws) i k = rw (ends_none ps ws (suc i) k) (change_none (end_at missing) ps w refl)

pub step_p_plain : (ps : List Rec) (ws : List ℕ) (k : ℕ) (r : Rec) → is_while r ≡ true → step_p ps ws k r ≡ ps ++ (r ∷ [])
unfolding step_p
step_p_plain ps [] k r e = refl
step_p_plain ps (w ∷ ws) k r e = rw e

pub step_p_other : (ps : List Rec) (ws : List ℕ) (k : ℕ) (r : Rec) → is_while r ≡ false → is_wend r ≡ false → step_p ps ws k r ≡ ps ++ (r ∷ [])
unfolding step_p
step_p_other ps [] k r e f = refl
step_p_other ps (w ∷ ws) k r e f = rw (e, f)

pub append_middle : (xs : List Rec) (y : Rec) (zs : List Rec) → (xs ++ (y ∷ [])) ++ zs ≡ xs ++ (y ∷ zs)
append_middle xs y zs = append_assoc xs (y ∷ []) zs

from_zero : (rs : List Rec) (n k : ℕ) → end_from rs (0 + n) k ≡ end_from rs n k
from_zero rs n k = let a : 0 + n ≡ n = omega arith in ap (λ (z : ℕ). end_from rs z k) a

from_one : (rs : List Rec) (n k : ℕ) → end_from rs (1 + n) k ≡ end_from rs (suc n) k
from_one rs n k = let a : 1 + n ≡ suc n = omega arith in ap (λ (z : ℕ). end_from rs z k) a

close_open : (ps : List Rec) (ws : List ℕ) (k : ℕ) (r : Rec) (rs : List Rec) → length ps ≡ k → Below ws k → is_while r ≡ true
    → ends (ps ++ (r ∷ [])) (k ∷ ws) rs 0 (suc k) ++ close_whiles rs (suc k) ≡ ends ps ws (r ∷ rs) 0 k ++ close_whiles (r ∷ rs) k
unfolding ends
close_open ps ws k r rs n b e =
    let s : ends ps ws (r ∷ rs) 0 k ≡ ends ps ws rs 1 (suc k) = ends_same ps ws (r ∷ rs) rs 0 1 k (suc k) (λ m. from_zero (r ∷ rs) m k ∙ end_while r rs m k e ∙ sym (from_one rs m (suc k))) in
    rw (ends_snoc ps r ws rs 1 (suc k) k b (omega arith), change_last (end_at (end_from rs 0 (suc k))) (ends ps ws rs 1 (suc k)) r k (ends_length ps ws rs 1 (suc k) ∙ n), s, close_while r rs k e)
    (append_middle (ends ps ws rs 1 (suc k)) (end_at (end_from rs 0 (suc k)) r) (close_whiles rs (suc k)))

close_end : (ps : List Rec) (w : ℕ) (ws : List ℕ) (k : ℕ) (r : Rec) (rs : List Rec) → length ps ≡ k → w < k → Below ws w → is_wend r ≡ true
    → ends (change (with_b (suc k)) ps w ++ (r ∷ [])) ws rs 0 (suc k) ++ close_whiles rs (suc k) ≡ ends ps (w ∷ ws) (r ∷ rs) 0 k ++ close_whiles (r ∷ rs) k
unfolding ends
close_end ps w ws k r rs n h b e =
    let s : ends ps ws (r ∷ rs) 1 k ≡ ends ps ws rs 0 (suc k) = ends_same ps ws (r ∷ rs) rs 1 0 k (suc k) (λ m. from_one (r ∷ rs) m k ∙ end_wend r rs m k e ∙ sym (from_zero rs m (suc k))) in
    rw (
      ends_snoc (change (with_b (suc k)) ps w) r ws rs 0 (suc k) w b (omega (arith, change_length (with_b (suc k)) ps w)),
      ends_change (with_b (suc k)) ps ws rs 0 (suc k) w b,
      s,
      end_here_lem r rs k e,
      close_other r rs k (wend_while r e),
    )
    (append_middle (change (with_b (suc k)) (ends ps ws rs 0 (suc k)) w) r (close_whiles rs (suc k)))

close_pass : (ps : List Rec) (ws : List ℕ) (k : ℕ) (r : Rec) (rs : List Rec) → length ps ≡ k → Below ws k → is_while r ≡ false → ((m : ℕ) → end_from (r ∷ rs) m k ≡ end_from rs m (suc k))
    → ends (ps ++ (r ∷ [])) ws rs 0 (suc k) ++ close_whiles rs (suc k) ≡ ends ps ws (r ∷ rs) 0 k ++ close_whiles (r ∷ rs) k
close_pass ps ws k r rs n b e h =
    let s : ends ps ws (r ∷ rs) 0 k ≡ ends ps ws rs 0 (suc k) = ends_same ps ws (r ∷ rs) rs 0 0 k (suc k) (λ m. from_zero (r ∷ rs) m k ∙ h m ∙ sym (from_zero rs m (suc k))) in
    rw (ends_snoc ps r ws rs 0 (suc k) k b (omega arith), s, close_other r rs k e) (append_middle (ends ps ws rs 0 (suc k)) r (close_whiles rs (suc k)))

close_bare : (ps : List Rec) (k : ℕ) (r : Rec) (rs : List Rec) → is_while r ≡ false → ends (ps ++ (r ∷ [])) [] rs 0 (suc k) ++ close_whiles rs (suc k) ≡ ends ps [] (r ∷ rs) 0 k ++ close_whiles (r ∷ rs) k
unfolding ends
close_bare ps k r rs e = rw (close_other r rs k e) (append_middle ps r (close_whiles rs (suc k)))

close_step : (ps : List Rec) (ws : List ℕ) (k : ℕ) (r : Rec) (rs : List Rec) → length ps ≡ k → Below ws k → (c : Bool) → is_while r ≡ c → (d : Bool) → is_wend r ≡ d
    → ends (step_p ps ws k r) (step_w ws k r) rs 0 (suc k) ++ close_whiles rs (suc k) ≡ ends ps ws (r ∷ rs) 0 k ++ close_whiles (r ∷ rs) k
unfolding step_w step_p Below
close_step ps ws k r rs n b true e d f = rw (step_p_plain ps ws k r e, e) (close_open ps ws k r rs n b e)
close_step ps ws k r rs n b false e false f = rw (step_p_other ps ws k r e f, e, f) (close_pass ps ws k r rs n b e (λ m. end_other r rs m k e f))
close_step ps [] k r rs n b false e true f = rw (e, f) (close_bare ps k r rs e)
close_step ps (w ∷ ws) k r rs n b false e true f = rw (e, f) (close_end ps w ws k r rs n b.0 b.1 f)

pub run_closes : (ps : List Rec) (ws : List ℕ) (k : ℕ) (rs : List Rec) → length ps ≡ k → Below ws k → run_p ps ws k rs ≡ ends ps ws rs 0 k ++ close_whiles rs k
unfolding run_p
run_closes ps ws k [] n b = sym (rw (close_none k, ends_none ps ws 0 k) (append-nil ps))
run_closes ps ws k (r ∷ rs) n b =
    run_closes (step_p ps ws k r) (step_w ws k r) (suc k) rs (step_length ps ws k r ∙ ap suc n) (below_step ws k r b)
    ∙ close_step ps ws k r rs n b (is_while r) refl (is_wend r) refl

-- the notes: those of the WHILEs behind, then those of the stack
unfoldable pub notes_of : List Rec → List ℕ → List Note
notes_of qs [] = []
notes_of qs (w ∷ ws) = note_of 13 (get_or qs w no_rec).line (get_or qs w no_rec).range 1 ∷ notes_of qs ws

unfoldable pub still_open : List Rec → List ℕ → List Rec → ℕ → List Note
still_open qs [] rs i = []
still_open qs (w ∷ ws) rs i = open_note (end_from rs i 0) (get_or qs w no_rec) ++ still_open qs ws rs (suc i)

-- whether a WHILE has an end does not depend on where the records begin
open_any : (rs : List Rec) (i j k : ℕ) (r : Rec) → open_note (end_from rs i j) r ≡ open_note (end_from rs i k) r
unfolding end_from
open_any [] i j k r = refl
open_any (x ∷ rs) i j k r = go (closes x i) (open_any rs (opened x i) (suc j) (suc k) r)
  where
    go : (c : Bool) → open_note (end_from rs (opened x i) (suc j)) r ≡ open_note (end_from rs (opened x i) (suc k)) r
        → open_note (choose c found (end_from rs (opened x i)) (suc j)) r ≡ open_note (choose c found (end_from rs (opened x i)) (suc k)) r
    go true q = refl
    go false q = q

still_same : (qs : List Rec) (ws : List ℕ) (rs ts : List Rec) (i j l : ℕ) → ((n : ℕ) → end_from rs (i + n) 0 ≡ end_from ts (j + n) l) → still_open qs ws rs i ≡ still_open qs ws ts j
unfolding still_open
still_same qs [] rs ts i j l h = refl
still_same qs (w ∷ ws) rs ts i j l h =
    let e : end_from rs i 0 ≡ end_from ts j l = let a : i + 0 ≡ i = omega arith in let b : j + 0 ≡ j = omega arith in
    ap (λ (z : ℕ). end_from rs z 0) (sym a) ∙ h 0 ∙ ap (λ (z : ℕ). end_from ts z l) b in
    rw (
      e,
      open_any ts j l 0 (get_or qs w no_rec),
      still_same qs ws rs ts (suc i) (suc j) l (λ n.
          let a : suc i + n ≡ i + suc n = omega arith in let b : suc j + n ≡ j + suc n = omega arith in
          ap (λ (z : ℕ). end_from rs z 0) a ∙ h (suc n) ∙ ap (λ (z : ℕ). end_from ts z l) (sym b)),
    )

open_while : (r : Rec) (rs : List Rec) → is_while r ≡ true → open_notes (r ∷ rs) ≡ open_notes rs ++ open_note (end_from rs 0 0) r
unfolding open_notes
open_while r rs e = rw e

open_other : (r : Rec) (rs : List Rec) → is_while r ≡ false → open_notes (r ∷ rs) ≡ open_notes rs
unfolding open_notes
open_other r rs e = rw e (append-nil (open_notes rs))

still_none : (qs : List Rec) (ws : List ℕ) (i : ℕ) → still_open qs ws [] i ≡ notes_of qs ws
unfolding still_open notes_of end_from
still_none qs [] i = refl
still_none qs (w ∷ ws) i = rw (still_none qs ws (suc i))

note_step : (qs : List Rec) (ws : List ℕ) (k : ℕ) (r : Rec) (rs : List Rec) → get_or qs k no_rec ≡ r → (c : Bool) → is_while r ≡ c → (d : Bool) → is_wend r ≡ d
    → open_notes rs ++ still_open qs (step_w ws k r) rs 0 ≡ open_notes (r ∷ rs) ++ still_open qs ws (r ∷ rs) 0
unfolding step_w still_open
note_step qs ws k r rs g true e d f =
    let s : still_open qs ws (r ∷ rs) 0 ≡ still_open qs ws rs 1 = still_same qs ws (r ∷ rs) rs 0 1 1 (λ m. from_zero (r ∷ rs) m 0 ∙ end_while r rs m 0 e ∙ sym (from_one rs m 1)) in
    rw (e, open_while r rs e, s, g) (sym (append_assoc (open_notes rs) (open_note (end_from rs 0 0) r) (still_open qs ws rs 1)))
note_step qs ws k r rs g false e false f =
    let s : still_open qs ws (r ∷ rs) 0 ≡ still_open qs ws rs 0 = still_same qs ws (r ∷ rs) rs 0 0 1 (λ m. from_zero (r ∷ rs) m 0 ∙ end_other r rs m 0 e f ∙ sym (from_zero rs m 1)) in
    rw (e, f, open_other r rs e, s)
note_step qs [] k r rs g false e true f = rw (e, f, open_other r rs e)
note_step qs (w ∷ ws) k r rs g false e true f =
    let s : still_open qs ws (r ∷ rs) 1 ≡ still_open qs ws rs 0 = still_same qs ws (r ∷ rs) rs 1 0 1 (λ m. from_one (r ∷ rs) m 0 ∙ end_wend r rs m 0 f ∙ sym (from_zero rs m 1)) in
    rw (e, f, open_other r rs e, end_here_lem r rs 0 f, s)

notes_nil : (qs : List Rec) (ws : List ℕ) → open_notes [] ++ still_open qs ws [] 0 ≡ notes_of qs ws
unfolding open_notes
notes_nil qs ws = still_none qs ws 0

pub at_middle : (ps : List Rec) (r : Rec) (rs : List Rec) (k : ℕ) → length ps ≡ k → get_or (ps ++ (r ∷ rs)) k no_rec ≡ r
at_middle [] r rs zero e = refl
at_middle [] r rs (suc k) e = absurd (omega arith)
at_middle (p ∷ ps) r rs zero e = absurd (omega arith)
at_middle (p ∷ ps) r rs (suc k) e = at_middle ps r rs k (omega arith)

pub run_notes : (ps : List Rec) (ws : List ℕ) (k : ℕ) (rs qs : List Rec) → qs ≡ ps ++ rs → length ps ≡ k → notes_of qs (run_w ws k rs) ≡ open_notes rs ++ still_open qs ws rs 0
unfolding run_w
run_notes ps ws k [] qs e n = sym (notes_nil qs ws)
run_notes ps ws k (r ∷ rs) qs e n =
    run_notes (ps ++ (r ∷ [])) (step_w ws k r) (suc k) rs qs (e ∙ sym (append_middle ps r rs)) (length_snoc ps r ∙ ap suc n)
    ∙ note_step qs ws k r rs (rw e (at_middle ps r rs k n)) (is_while r) refl (is_wend r) refl

-- all records, from the first on
pub all_closed : (rs : List Rec) → run_p [] [] 0 rs ≡ close_whiles rs 0
unfolding ends Below
all_closed rs = run_closes [] [] 0 rs refl (omega arith)

pub all_noted : (rs : List Rec) → notes_of rs (run_w [] 0 rs) ≡ open_notes rs
unfolding still_open
all_noted rs = run_notes [] [] 0 rs rs refl refl ∙ append-nil (open_notes rs)
