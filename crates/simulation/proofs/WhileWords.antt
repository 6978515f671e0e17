-- The words follow the run with a stack.
use mathlib.Core.Path.{◌≡◌, refl, ap, subst, sym, ◌∙◌}
use mathlib.Core.List.{List, [], ◌∷◌, ◌++◌, append_assoc, append-nil}
use mathlib.Core.Bool.{Bool, true, false}
use Prim.Native.Nat.{ℕ, zero, suc, ◌+◌, ◌*◌, ◌-◌, ◌≤◌, ◌<◌}
use lib.Dec.{ltb}
use lib.ListN.{length, get_or, replicate, length-append, length-set}
use borrow.Author.Tests.{lt-ltb, le-ltb, eq-eqb, ne_eqb, eqb-true}
use native.Mathlib.Numerals.{add-one}
use native.Mathlib.Omega.{arith}
use Rattle.recorder.specs.Word.{both, word_of, range_word}
use Rattle.recorder.specs.Ideal.{Rec, Note, note_of, no_rec, change, with_b}
use Rattle.recorder.specs.Layout.{rec_words, note_words, words_of}
use Rattle.recorder.specs.Closing.{is_while, is_wend}
use Rattle.recorder.specs.Mem.{rec_of, set_b, at_rec, link_at, while_list, while_top, whiles_from, top_from, Passed, open_step, open_from, note_list}
use Rattle.recorder.proofs.Words.{head_again, change_length, cut_rec, raw_at}
use Rattle.recorder.proofs.Bools.{both_parts, both_false}
use Rattle.simulation.proofs.Change.{change_front, change_comm, change_twice, change_none, at_change, at_other}
use Rattle.simulation.proofs.Hide.{fresh_rec, all_fresh}
use Rattle.recorder.specs.declared.codegen.State.{State}
use Rattle.simulation.proofs.States.{with_notes, note_in, note_form}
use Rattle.simulation.specs.Held.{Exact}
use Rattle.simulation.proofs.Sim.{exact_put}
use Rattle.simulation.proofs.Delays.{Holds, holds_rec, holds_at}
use Rattle.simulation.proofs.Whiles.{step_p, step_w, run_p, run_w, Below, below_more, below_step, step_length, notes_of, step_p_plain, step_p_other, append_middle, at_middle}

-- the link to a stack: its top's address plus 1, 0 if it is empty
abbrev pub link : List ℕ → ℕ
link [] = 0
link (w ∷ ws) = suc w

unfoldable pub linked : List Rec → List ℕ → List Rec
linked qs [] = qs
linked qs (w ∷ ws) = change (with_b (link ws)) (linked qs ws) w

linked_length : (qs : List Rec) (ws : List ℕ) → length (linked qs ws) ≡ length qs
unfolding linked
linked_length qs [] = refl
linked_length qs (w ∷ ws) = change_length (with_b (link ws)) (linked qs ws) w ∙ linked_length qs ws

linked_at_lem : (qs : List Rec) (ws : List ℕ) (j m : ℕ) → Below ws m → m ≤ j → get_or (linked qs ws) j no_rec ≡ get_or qs j no_rec
unfolding linked Below
linked_at_lem qs [] j m b h = refl
linked_at_lem qs (w ∷ ws) j m b h = at_other (with_b (link ws)) (linked qs ws) w j (λ e. omega (arith, b.0)) ∙ linked_at_lem qs ws j w b.1 (omega (arith, b.0))

linked_change : (f : Rec → Rec) (qs : List Rec) (ws : List ℕ) (w : ℕ) → Below ws w → change f (linked qs ws) w ≡ linked (change f qs w) ws
unfolding linked Below
linked_change f qs [] w b = refl
linked_change f qs (v ∷ ws) w b =
    change_comm f (with_b (link ws)) (linked qs ws) v w (λ e. omega (arith, b.0))
    ∙ ap (λ (z : List Rec). change (with_b (link ws)) z v) (linked_change f qs ws w (below_more ws v w (omega (arith, b.0)) b.1))

-- the top's record: what the link says, and what it becomes
top_link : (qs : List Rec) (w : ℕ) (ws : List ℕ) → Below ws w → w < length qs → get_or (linked qs (w ∷ ws)) w no_rec ≡ with_b (link ws) (get_or qs w no_rec)
unfolding linked
top_link qs w ws b h = at_change (with_b (link ws)) (linked qs ws) w (omega (arith, linked_length qs ws)) ∙ ap (λ (z : Rec). with_b (link ws) z) (linked_at_lem qs ws w w b (omega arith))

top_set : (v : ℕ) (qs : List Rec) (w : ℕ) (ws : List ℕ) → Below ws w → change (with_b v) (linked qs (w ∷ ws)) w ≡ linked (change (with_b v) qs w) ws
unfolding linked
top_set v qs w ws b = change_twice (with_b v) (with_b (link ws)) (linked qs ws) w ∙ linked_change (with_b v) qs ws w b

pub record Linked (size : ℕ) (qs : List Rec) (ws : List ℕ) (l : List ℕ) (top : ℕ) : Type 0 where
  pub holds : Holds size (linked qs ws) l
  pub top_is : top ≡ link ws

-- the three steps on words
list_open : (l : List ℕ) (top k : ℕ) → is_while (rec_of l k) ≡ true → (while_list l top k ≡ at_rec (set_b top) l k) × (while_top l top k ≡ k + 1)
unfolding while_list while_top
list_open l top k e = (rw e, rw e)

list_pass : (l : List ℕ) (top k : ℕ) → is_while (rec_of l k) ≡ false → both (is_wend (rec_of l k)) (ltb 0 top) ≡ false → (while_list l top k ≡ l) × (while_top l top k ≡ top)
unfolding while_list while_top
list_pass l top k e f = (rw (e, f), rw (e, f))

list_close : (l : List ℕ) (top k : ℕ) → is_while (rec_of l k) ≡ false → both (is_wend (rec_of l k)) (ltb 0 top) ≡ true → (while_list l top k ≡ at_rec (set_b (k + 1)) l (top - 1)) × (while_top l top k ≡ link_at l (top - 1))
unfolding while_list while_top
list_close l top k e f = (rw (e, f), rw (e, f))

module _ (size : ℕ) where
  -- a WHILE
  step_open : (qs : List Rec) (ws l : List ℕ) (top k : ℕ) → Linked size qs ws l top → k < length qs → is_while (rec_of l k) ≡ true → Linked size qs (k ∷ ws) (while_list l top k) (while_top l top k)
  unfolding linked
  step_open qs ws l top k h i e =
      let q = list_open l top k e in
      record {
        holds = rw (q.0, ← h.top_is) (holds_at (set_b top) (with_b top) (λ r ys. refl) (λ p. length-set p 3 top) h.holds k (omega (arith, linked_length qs ws)));
        top_is = q.1 ∙ add-one k;
      }

  -- a WEND that closes the last
  step_close : (qs : List Rec) (w : ℕ) (ws l : List ℕ) (top k : ℕ) → Linked size qs (w ∷ ws) l top → Below ws w → w < length qs → is_while (rec_of l k) ≡ false → is_wend (rec_of l k) ≡ true
      → Linked size (change (with_b (suc k)) qs w) ws (while_list l top k) (while_top l top k)
  step_close qs w ws l top k h b i e f =
      let t : top ≡ suc w = h.top_is in
      let u : ltb 0 top ≡ true = lt-ltb 0 top (omega arith) in
      let g : both (is_wend (rec_of l k)) (ltb 0 top) ≡ true = rw (f, u) in
      let q = list_close l top k e g in
      let y : top - 1 ≡ w = omega arith in
      let n : w < length (linked qs (w ∷ ws)) = omega (arith, linked_length qs (w ∷ ws)) in
      let o : link_at l w ≡ link ws = ap (λ (z : Rec). z.b) (holds_rec h.holds w) ∙ ap (λ (z : Rec). z.b) (top_link qs w ws b i) in
      record {
        holds = rw (q.0, y, add-one k, ← top_set (suc k) qs w ws b) (holds_at (set_b (suc k)) (with_b (suc k)) (λ r ys. refl) (λ p. length-set p 3 (suc k)) h.holds w n);
        top_is = q.1 ∙ rw y o;
      }

  -- another record
  step_pass : (qs : List Rec) (ws l : List ℕ) (top k : ℕ) → Linked size qs ws l top → is_while (rec_of l k) ≡ false → both (is_wend (rec_of l k)) (ltb 0 top) ≡ false → Linked size qs ws (while_list l top k) (while_top l top k)
  step_pass qs ws l top k h e f = let q = list_pass l top k e f in rw (q.0, q.1) h

  inside : (ps : List Rec) (r : Rec) (rs : List Rec) (k : ℕ) → length ps ≡ k → k < length (ps ++ (r ∷ rs))
  inside ps r rs k n = omega (arith, length-append ps (r ∷ rs))

  -- the record at k is the next one
  read : (ps : List Rec) (ws : List ℕ) (k : ℕ) (r : Rec) (rs : List Rec) (l : List ℕ) (top : ℕ) → Linked size (ps ++ (r ∷ rs)) ws l top → length ps ≡ k → Below ws k → rec_of l k ≡ cut_rec r
  read ps ws k r rs l top h n b = holds_rec h.holds k ∙ ap (λ (z : Rec). cut_rec z) (linked_at_lem (ps ++ (r ∷ rs)) ws k k b (omega arith) ∙ at_middle ps r rs k n)

  step_words : (ps : List Rec) (ws : List ℕ) (k : ℕ) (r : Rec) (rs : List Rec) (l : List ℕ) (top : ℕ) → Linked size (ps ++ (r ∷ rs)) ws l top → length ps ≡ k → Below ws k
      → (c : Bool) → is_while r ≡ c → (d : Bool) → is_wend r ≡ d
      → Linked size (step_p ps ws k r ++ rs) (step_w ws k r) (while_list l top k) (while_top l top k)
  unfolding step_p step_w Below
  step_words ps ws k r rs l top h n b true e d f =
      let x = read ps ws k r rs l top h n b in
      rw (step_p_plain ps ws k r e, e, append_middle ps r rs)
      (step_open (ps ++ (r ∷ rs)) ws l top k h (inside ps r rs k n) (ap (λ (z : Rec). is_while z) x ∙ e))
  step_words ps ws k r rs l top h n b false e false f =
      let x = read ps ws k r rs l top h n b in
      let v : is_wend (rec_of l k) ≡ false = ap (λ (z : Rec). is_wend z) x ∙ f in
      rw (step_p_other ps ws k r e f, e, f, append_middle ps r rs)
      (step_pass (ps ++ (r ∷ rs)) ws l top k h (ap (λ (z : Rec). is_while z) x ∙ e) (rw v))
  step_words ps [] k r rs l top h n b false e true f =
      let x = read ps [] k r rs l top h n b in
      let u : ltb 0 top ≡ false = le-ltb 0 top (omega (arith, h.top_is)) in
      rw (e, f, append_middle ps r rs)
      (step_pass (ps ++ (r ∷ rs)) [] l top k h (ap (λ (z : Rec). is_while z) x ∙ e) (rw u (both_false (is_wend (rec_of l k)))))
  step_words ps (w ∷ ws) k r rs l top h n b false e true f =
      let x = read ps (w ∷ ws) k r rs l top h n b in
      rw (e, f, append_middle (change (with_b (suc k)) ps w) r rs, ← change_front (with_b (suc k)) ps (r ∷ rs) w (omega (arith, b.0)))
      (step_close (ps ++ (r ∷ rs)) w ws l top k h b.1 (omega (arith, b.0, inside ps r rs k n)) (ap (λ (z : Rec). is_while z) x ∙ e) (ap (λ (z : Rec). is_wend z) x ∙ f))

  whiles_suc : (l : List ℕ) (top k n : ℕ) → whiles_from l top k (suc n) ≡ whiles_from (while_list l top k) (while_top l top k) (suc k) n
  unfolding whiles_from
  whiles_suc l top k n = ap (λ (z : ℕ). whiles_from (while_list l top k) (while_top l top k) z n) (add-one k)

  top_suc : (l : List ℕ) (top k n : ℕ) → top_from l top k (suc n) ≡ top_from (while_list l top k) (while_top l top k) (suc k) n
  unfolding top_from
  top_suc l top k n = ap (λ (z : ℕ). top_from (while_list l top k) (while_top l top k) z n) (add-one k)

  run_none : (ps : List Rec) (ws : List ℕ) (k : ℕ) (l : List ℕ) (top : ℕ) → Linked size (ps ++ []) ws l top → Linked size ps ws (whiles_from l top k 0) (top_from l top k 0)
  unfolding whiles_from top_from
  run_none ps ws k l top h = rw (append-nil ps) at h

  -- the whole pass
  pub run_words : (rs : List Rec) (ps : List Rec) (ws : List ℕ) (k : ℕ) (l : List ℕ) (top : ℕ) → Linked size (ps ++ rs) ws l top → length ps ≡ k → Below ws k
      → Linked size (run_p ps ws k rs) (run_w ws k rs) (whiles_from l top k (length rs)) (top_from l top k (length rs))
  unfolding run_p run_w
  run_words [] ps ws k l top h n b = run_none ps ws k l top h
  run_words (r ∷ rs) ps ws k l top h n b =
      rw (whiles_suc l top k (length rs), top_suc l top k (length rs)) (run_words rs (step_p ps ws k r) (step_w ws k r) (suc k) (while_list l top k) (while_top l top k)
      (step_words ps ws k r rs l top h n b (is_while r) refl (is_wend r) refl) (step_length ps ws k r ∙ ap suc n) (below_step ws k r b))

pub run_below : (rs : List Rec) (ws : List ℕ) (k : ℕ) → Below ws k → Below (run_w ws k rs) (k + length rs)
unfolding run_w
run_below [] ws k b = below_more ws k (k + 0) (omega arith) b
run_below (r ∷ rs) ws k b = let e : suc k + length rs ≡ k + suc (length rs) = omega arith in rw (← e) (run_below rs (step_w ws k r) (suc k) (below_step ws k r b))

-- the ends of the open WHILEs are not known
unfoldable pub Unknown : List Rec → List ℕ → Type 0
Unknown qs [] = length qs ≡ length qs
Unknown qs (w ∷ ws) = ((get_or qs w no_rec).b ≡ 4294967295) × Unknown qs ws

unknown_change : (f : Rec → Rec) (qs : List Rec) (ws : List ℕ) (w : ℕ) → Below ws w → Unknown qs ws → Unknown (change f qs w) ws
unfolding Unknown Below
unknown_change f qs [] w b u = refl
unknown_change f qs (v ∷ ws) w b u =
    (ap (λ (z : Rec). z.b) (at_other f qs w v (λ e. omega (arith, b.0))) ∙ u.0, unknown_change f qs ws w (below_more ws v w (omega (arith, b.0)) b.1) u.1)

fresh_while : (r : Rec) → fresh_rec r ≡ true → is_while r ≡ true → r.b ≡ 4294967295
fresh_while r f e = eqb-true r.b 4294967295 (rw e at f)

unknown_step : (ps : List Rec) (ws : List ℕ) (k : ℕ) (r : Rec) (rs : List Rec) → Unknown (ps ++ (r ∷ rs)) ws → length ps ≡ k → Below ws k → fresh_rec r ≡ true
    → (c : Bool) → is_while r ≡ c → (d : Bool) → is_wend r ≡ d → Unknown (step_p ps ws k r ++ rs) (step_w ws k r)
unfolding step_p step_w Below Unknown
unknown_step ps ws k r rs u n b f true e d g =
    rw (step_p_plain ps ws k r e, e, append_middle ps r rs) (ap (λ (z : Rec). z.b) (at_middle ps r rs k n) ∙ fresh_while r f e, subst (λ (z : List Rec). Unknown z ws) (sym (append_middle ps r rs)) u)
unknown_step ps ws k r rs u n b f false e false g = rw (step_p_other ps ws k r e g, e, g, append_middle ps r rs) u
unknown_step ps [] k r rs u n b f false e true g = rw (e, g) refl
unknown_step ps (w ∷ ws) k r rs u n b f false e true g =
    rw (e, g, append_middle (change (with_b (suc k)) ps w) r rs, ← change_front (with_b (suc k)) ps (r ∷ rs) w (omega (arith, b.0))) (unknown_change (with_b (suc k)) (ps ++ (r ∷ rs)) ws w b.1 u.1)

pub run_unknown : (rs : List Rec) (ps : List Rec) (ws : List ℕ) (k : ℕ) → Unknown (ps ++ rs) ws → length ps ≡ k → Below ws k → all_fresh rs ≡ true → Unknown (run_p ps ws k rs) (run_w ws k rs)
unfolding run_p run_w all_fresh
run_unknown [] ps ws k u n b f = rw (append-nil ps) at u
run_unknown (r ∷ rs) ps ws k u n b f =
    let q = both_parts (fresh_rec r) (all_fresh rs) f in
    run_unknown rs (step_p ps ws k r) (step_w ws k r) (suc k) (unknown_step ps ws k r rs u n b q.0 (is_while r) refl (is_wend r) refl) (step_length ps ws k r ∙ ap suc n) (below_step ws k r b) q.1

-- the notes, and of the state their count and their flag; the rest of it stays
pub record Noted (N : ℕ) (is : List Note) (s : State) (P : Passed) : Type 0 where
  pub many : ℕ
  pub full : Bool
  pub exact : Exact note_words N is P.notes many full
  pub rest : P.st ≡ (with_notes s many full)

-- the WHILEs that are still open
pub record Opened (size N : ℕ) (qs : List Rec) (is : List Note) (s : State) (P : Passed) : Type 0 where
  pub holds : Holds size qs P.list
  pub noted : Noted N is s P

-- one of them: its note, and its link gone
open_one : (size N : ℕ) (qs : List Rec) (w : ℕ) (ws : List ℕ) (is : List Note) (s : State) (p : Passed) (top : ℕ) → Linked size qs (w ∷ ws) p.list top → Below ws w → w < length qs → (get_or qs w no_rec).b ≡ 4294967295
    → Noted N is s p
    → Linked size qs ws (open_step p w).list (link_at p.list w) × Noted N (is ++ (note_of 13 (get_or qs w no_rec).line (get_or qs w no_rec).range 1 ∷ [])) s (open_step p w)
unfolding note_list
open_one size N qs w ws is s p top h b i u x =
    let r : Rec = get_or qs w no_rec in
    let n : w < length (linked qs (w ∷ ws)) = omega (arith, linked_length qs (w ∷ ws)) in
    let t = top_link qs w ws b i in
    let a = raw_at (linked qs (w ∷ ws)) (replicate (size - length (words_of rec_words (linked qs (w ∷ ws)))) 0) w n in
    let c : change (with_b 4294967295) qs w ≡ qs = change_none (with_b 4294967295) qs w (same_b (get_or qs w no_rec) u) in
    let z : change (with_b 4294967295) (linked qs (w ∷ ws)) w ≡ linked qs ws = top_set 4294967295 qs w ws b ∙ ap (λ (y : List Rec). linked y ws) c in
    let g : get_or p.list (5 * w) 0 ≡ word_of (get_or qs w no_rec).call (get_or qs w no_rec).line =
    ap (λ (y : List ℕ). get_or y (5 * w) 0) h.holds.words_are ∙ a.0 ∙ ap (λ (y : Rec). word_of y.call y.line) t in
    let k : get_or p.list (5 * w + 1) 0 ≡ range_word (get_or qs w no_rec).range =
    ap (λ (y : List ℕ). get_or y (5 * w + 1) 0) h.holds.words_are ∙ a.1 ∙ ap (λ (y : Rec). range_word y.range) t in (
      record {
        holds = rw (← z) (holds_at (set_b 4294967295) (with_b 4294967295) (λ r ys. refl) (λ p. length-set p 3 4294967295) h.holds w n);
        top_is = ap (λ (y : Rec). y.b) (holds_rec h.holds w) ∙ ap (λ (y : Rec). y.b) t;
      },
      record {
        many = (note_in p.notes (with_notes s x.many x.full)).notes;
        full = (note_in p.notes (with_notes s x.many x.full)).notes_full;
        exact = rw (x.rest, g, k, head_again 13 (get_or qs w no_rec).call (get_or qs w no_rec).line)
            (exact_put note_words (λ e. refl) N is p.notes x.many x.full (note_of 13 (get_or qs w no_rec).line (get_or qs w no_rec).range 1)
            (word_of 13 (get_or qs w no_rec).line) (range_word (get_or qs w no_rec).range) 1 0 refl x.exact);
        rest = rw x.rest (note_form p.notes (with_notes s x.many x.full));
      },
    )
  where
    same_b : (r : Rec) → r.b ≡ 4294967295 → with_b 4294967295 r ≡ r
    same_b r e = rw (← e)

open_none : (p : Passed) (top left : ℕ) → top ≡ 0 → open_from p top left ≡ p
unfolding open_from
open_none p top zero e = refl
open_none p top (suc left) e = rw (eq-eqb top 0 e)

open_next : (p : Passed) (top w left : ℕ) → top ≡ suc w → open_from p top (suc left) ≡ open_from (open_step p w) (link_at p.list w) left
unfolding open_from
open_next p top w left e = let y : top - 1 ≡ w = omega arith in rw (ne_eqb top 0 (λ z. omega arith), y)

-- the others after it
opened_next : (size N : ℕ) (qs : List Rec) (w : ℕ) (ws : List ℕ) (is : List Note) (s : State) (p : Passed) (top left : ℕ) → top ≡ suc w
    → Opened size N qs ((is ++ (note_of 13 (get_or qs w no_rec).line (get_or qs w no_rec).range 1 ∷ [])) ++ notes_of qs ws) s (open_from (open_step p w) (link_at p.list w) left)
    → Opened size N qs (is ++ notes_of qs (w ∷ ws)) s (open_from p top (suc left))
unfolding notes_of
opened_next size N qs w ws is s p top left h o =
    rw (open_next p top w left h, ← append_assoc is (note_of 13 (get_or qs w no_rec).line (get_or qs w no_rec).range 1 ∷ []) (notes_of qs ws)) o

pub open_all : (size N : ℕ) (qs : List Rec) (ws : List ℕ) (is : List Note) (s : State) (p : Passed) (top left m : ℕ) → Linked size qs ws p.list top → Below ws m → m ≤ length qs → Unknown qs ws
    → Noted N is s p → length ws ≤ left
    → Opened size N qs (is ++ notes_of qs ws) s (open_from p top left)
unfolding Below Unknown notes_of linked
open_all size N qs [] is s p top left m h b j u x f =
    rw (open_none p top left h.top_is, append-nil is) (record { holds = h.holds; noted = x })
open_all size N qs (w ∷ ws) is s p top zero m h b j u x f = absurd (omega arith)
open_all size N qs (w ∷ ws) is s p top (suc left) m h b j u x f =
    let q = open_one size N qs w ws is s p top h b.1 (omega (arith, b.0)) u.0 x in
    opened_next size N qs w ws is s p top left h.top_is
    (open_all size N qs ws (is ++ (note_of 13 (get_or qs w no_rec).line (get_or qs w no_rec).range 1 ∷ [])) s (open_step p w) (link_at p.list w) left w q.0 b.1 (omega (arith, b.0)) u.1 q.1 (omega arith))
