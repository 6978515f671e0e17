-- Closing up, all but the delays: labels, RESTOREs and WHILEs change what records name and not what they take.
use Rattle.std.proofs.Common.{◌≡◌, ℕ, suc, ◌+◌, ◌-◌, ◌<◌, Bool, true, false, eqb, ltb, leb, ◌≢◌, ◌⊎◌, List, [], ◌∷◌, ◌++◌, length, get_or, sym, refl, ap, ◌∙◌, subst, inl, inr, append_assoc, append-nil, arith, length-append, get_or-append-add, ltb-false, eq-eqb, eqb-true, leb-true}
use lib.Seq.{get_or-append_seam}
use borrow.Author.Tests.{eqb-false}
use Rattle.recorder.specs.Calls.{unpack}
use Rattle.recorder.specs.Word.{pick, choose, both, either}
use Rattle.recorder.specs.Recorder.{Recorder}
use Rattle.recorder.specs.Ideal.{Rec, rec, no_rec, Note, note_of, Entry, Ideal, change, settled, unlabelled, with_b, look_of, Search, missing, found}
use Rattle.recorder.specs.Marks.{Mark, addr_of, data_of, or_else}
use Rattle.recorder.specs.Closing.{rules_r, is_wend, is_while, closes, opened, end_from, end_at, close_whiles, open_note, open_notes}
use Rattle.recorder.proofs.Bools.{both_left, both_right}
use Rattle.rules.specs.Program.{Waiting, jumps, restores, is_pending, settle_by, settle_waiting, resolve}
use Rattle.rules.specs.Missing.{All}
use Rattle.rules.specs.Piles.{Pile, effect_of, taken, step}
use Rattle.rules.specs.Demand.{NoError, targets}
use Rattle.rules.proofs.BoolLaws.{not_both}
use Rattle.rules.proofs.PileLaws.{fixed_targets, is_jump_call, all_left, all_right}
use Rattle.rules.proofs.Grown.{Warning, change_at}
use Rattle.rules.proofs.Traces.{Fixed, Zip, Alike}

abbrev pub each : (Rec → Rec) → List Rec → List Rec
each f [] = []
each f (r ∷ rs) = f r ∷ each f rs

-- a pass over the records: what they become, and what holds if it noted no error
pub record Pass (i f : Ideal) (rs : List Rec) (G : Type 0) : Type 0 where
  pub records : f.records ≡ rs
  pub fresh : List Note
  pub notes : f.notes ≡ i.notes ++ fresh
  pub entries : f.entries ≡ i.entries
  pub ok : NoError fresh → G

abbrev pub settle_rec : Search → Rec → Rec
settle_rec (found v) r = settled v r
settle_rec missing r = unlabelled r

-- what becomes of one that waits
abbrev pub settle_to : Waiting → List Mark → Rec → Rec
settle_to w ms r = pick (is_pending w (look_of r)) (settle_rec (w.find ms (r.b - 1)) r) r

-- a pending record without an error is found
abbrev pub Finds : Bool → ℕ → Search → Type 0
Finds p severity s = p ≡ true → severity ≡ 1 → (v : ℕ) × (s ≡ found v)

abbrev pub Settles : Waiting → List Mark → Rec → Type 0
Settles w ms r = Finds (is_pending w (look_of r)) w.severity (w.find ms (r.b - 1))

pass_two : {i j f : Ideal} {rs us : List Rec} {G H : Type 0} → Pass i j rs G → Pass j f us H → Pass i f us (G × H)
pass_two {i} {j} {f} a b = record {
  records = b.records;
  fresh = a.fresh ++ b.fresh;
  notes = b.notes ∙ rw a.notes (append_assoc i.notes a.fresh b.fresh);
  entries = b.entries ∙ a.entries;
  ok = λ e. (a.ok (all_left Warning a.fresh b.fresh e), b.ok (all_right Warning a.fresh b.fresh e));
}

pass_list : {i f : Ideal} {rs us : List Rec} {G : Type 0} → rs ≡ us → Pass i f rs G → Pass i f us G
pass_list e a = record { records = a.records ∙ e; fresh = a.fresh; notes = a.notes; entries = a.entries; ok = a.ok }

change_there : (f : Rec → Rec) (xs front back : List Rec) (r : Rec) (k : ℕ) → xs ≡ front ++ (r ∷ back) → k ≡ length front → change f xs k ≡ (front ++ (f r ∷ [])) ++ back
change_there f xs front back r k e h = rw (e, change_at f front r back k h) (sym (append_assoc front (f r ∷ []) back))

module _ (t : List ℕ) where
  abbrev R : Recorder Ideal
  R = rules_r t

  settle_pass : (w : Waiting) (p : Bool) (s : Search) (r : Rec) (front back : List Rec) (k : ℕ) (i : Ideal)
      → i.records ≡ front ++ (r ∷ back) → k ≡ length front
      → Pass i (pick p (settle_by R w s k (look_of r) i) i) ((front ++ (pick p (settle_rec s r) r ∷ [])) ++ back) (Finds p w.severity s)
  settle_pass w false s r front back k i e h = record {
    records = e ∙ sym (append_assoc front (r ∷ []) back);
    fresh = [];
    notes = sym (append-nil i.notes);
    entries = refl;
    ok = λ n q. let z : ◌≡◌ {A = ℕ} 0 1 = cc in absurd (omega arith);
  }
  settle_pass w true (found v) r front back k i e h = record {
    records = change_there (settled v) i.records front back r k e h;
    fresh = [];
    notes = sym (append-nil i.notes);
    entries = refl;
    ok = λ n q m. (v, refl);
  }
  settle_pass w true missing r front back k i e h = record {
    records = change_there unlabelled i.records front back r k e h;
    fresh = note_of w.class r.line (unpack r.c) w.severity ∷ [];
    notes = refl;
    entries = refl;
    ok = λ n q m. absurd (omega (arith, n.0));
  }

  found_here : (xs front back : List Rec) (r : Rec) (k : ℕ) → xs ≡ front ++ (r ∷ back) → k ≡ length front → get_or xs k no_rec ≡ r
  found_here xs front back r k e h = rw (e, h) (get_or-append_seam front r back no_rec)

  pub pass_waiting : (w : Waiting) (ms : List Mark) (front back : List Rec) (k : ℕ) (i : Ideal)
      → i.records ≡ front ++ back → k ≡ length front
      → Pass i (resolve R w ms k (length back) i) (front ++ each (settle_to w ms) back) (All (Settles w ms) back)
  unfolding resolve
  pass_waiting w ms front [] k i e h = record { records = e; fresh = []; notes = sym (append-nil i.notes); entries = refl; ok = λ n. tt }
  pass_waiting w ms front (r ∷ back) k i e h =
      let p = is_pending w (look_of r) in
      let s = w.find ms (r.b - 1) in
      let j = pick p (settle_by R w s k (look_of r) i) i in
      let u = pick p (settle_rec s r) r in
      let a = settle_pass w p s r front back k i e h in
      let b = pass_waiting w ms (front ++ (u ∷ [])) back (k + 1) j a.records (omega (arith, h, length-append front (u ∷ []))) in
      subst (λ (x : Rec). Pass i (resolve R w ms (k + 1) (length back) (settle_waiting R w ms k (look_of x) i))
      (front ++ (u ∷ each (settle_to w ms) back)) (All (Settles w ms) (r ∷ back)))
      (sym (found_here i.records front back r k e h)) (pass_list (append_assoc front (u ∷ []) (each (settle_to w ms) back)) (pass_two a b))

-- what is found is a mark's address
pub found_mark : (X : ℕ → Type 0) (ms : List Mark) (l v : ℕ) → All (λ (m : Mark). X m.addr) ms → addr_of ms l ≡ found v → X v
unfolding addr_of
found_mark X [] l v a e = let z : ◌≡◌ {A = ℕ} 0 1 = cc in absurd (omega arith)
found_mark X (m ∷ ms) l v a e = go (addr_of ms l) refl (eqb m.label l) e (found_mark X ms l v a.1)
  where
    go : (s : Search) → addr_of ms l ≡ s → (b : Bool) → or_else s (pick b (found m.addr) missing) ≡ found v → (addr_of ms l ≡ found v → X v) → X v
    go (found w) f b q h = h (f ∙ q)
    go missing f true q h = let z : m.addr ≡ v = cc in rw z at a.0
    go missing f false q h = let z : ◌≡◌ {A = ℕ} 0 1 = cc in absurd (omega arith)

-- what a record with every target asks
pub record Targeted (X Y : ℕ → Type 0) (r : Rec) : Type 0 where
  pub fixed : Fixed X Y r
  pub settled : is_jump_call r.call ≡ true → r.b ≡ 0

pub record Full (X Y : ℕ → Type 0) (r : Rec) : Type 0 where
  pub targets : All X (targets r)
  pub body : r.call ≡ 26 → Y r.c

jump_cases : (k : ℕ) → is_jump_call k ≡ true → (k ≡ 20) ⊎ (k ≡ 21)
jump_cases k e = go (eqb k 20) refl (eqb k 21) refl e
  where
    go : (a : Bool) → eqb k 20 ≡ a → (b : Bool) → eqb k 21 ≡ b → either a b ≡ true → (k ≡ 20) ⊎ (k ≡ 21)
    go true p b q h = inl (eqb-true k 20 p)
    go false p true q h = inr (eqb-true k 21 q)
    go false p false q h = let y : ◌≡◌ {A = ℕ} 0 1 = cc in absurd (omega arith)

-- jumps, RESTORE and WHILE
abbrev Bare : ℕ → Type 0
Bare k = (k ≡ 20) ⊎ ((k ≡ 21) ⊎ ((k ≡ 31) ⊎ (k ≡ 25)))

module _ (E : List Entry) (X Y : ℕ → Type 0) where
  -- a record that names no place and is no jump, whatever its arguments
  same_step : (r : Rec) (a b c k : ℕ) → r.call ≡ k → Bare k → (P : Pile) → step E (rec r.call r.line r.range a b c) P ≡ step E r P
  unfolding step effect_of taken
  same_step r a b c k e (inl i) P = rw (e, i) refl
  same_step r a b c k e (inr (inl i)) P = rw (e, i) refl
  same_step r a b c k e (inr (inr (inl i))) P = rw (e, i) refl
  same_step r a b c k e (inr (inr (inr i))) P = rw (e, i) refl

  jump_alike : (v : ℕ) (r : Rec) → is_jump_call r.call ≡ true → X v → Alike E (Fixed X Y) (Targeted X Y) r (settled v r)
  jump_alike v r e x = go (jump_cases r.call e)
    where
      go : (r.call ≡ 20) ⊎ (r.call ≡ 21) → Alike E (Fixed X Y) (Targeted X Y) r (settled v r)
      go (inl q) = record {
        steps = same_step r v 0 0 20 q (inl refl);
        call = refl;
        count = λ z. absurd (omega (arith, q));
        end = λ z. absurd (omega (arith, q));
        asked = λ z. record { fixed = record { fixed = rw q (x, tt); body = λ y. absurd (omega (arith, q)) }; settled = λ y. refl };
      }
      go (inr q) = record {
        steps = same_step r v 0 0 21 q (inr (inl refl));
        call = refl;
        count = λ z. absurd (omega (arith, q));
        end = λ z. absurd (omega (arith, q));
        asked = λ z. record { fixed = record { fixed = rw q (x, tt); body = λ y. absurd (omega (arith, q)) }; settled = λ y. refl };
      }

  label_alike : (ms : List Mark) (r : Rec) → All (λ (m : Mark). X m.addr) ms → Settles jumps ms r
      → Alike E (Fixed X Y) (Targeted X Y) r (settle_to jumps ms r)
  label_alike ms r a f = go (is_pending jumps (look_of r)) refl (addr_of ms (r.b - 1)) refl f
    where
      go : (p : Bool) → is_pending jumps (look_of r) ≡ p → (s : Search) → addr_of ms (r.b - 1) ≡ s → Finds p 1 s → Alike E (Fixed X Y) (Targeted X Y) r (pick p (settle_rec s r) r)
      go false p s q g = record {
        steps = λ P. refl;
        call = refl;
        count = λ z. refl;
        end = λ z. refl;
        asked = λ z. record { fixed = z; settled = λ j. let n = ltb-false 0 r.b (not_both (ltb 0 r.b) (is_jump_call r.call) p j) in omega (arith, n) };
      }
      go true p (found v) q g = jump_alike v r (both_right (ltb 0 r.b) (is_jump_call r.call) p) (found_mark X ms (r.b - 1) v a q)
      go true p missing q g = let u = g refl refl in let e : missing ≡ found u.0 = u.1 in let z : ◌≡◌ {A = ℕ} 0 1 = cc in absurd (omega arith)

  restore_call : (r : Rec) (v : ℕ) → r.call ≡ 31 → Alike E (Targeted X Y) (Targeted X Y) r (rec r.call r.line r.range v 0 0)
  restore_call r v q = record {
    steps = same_step r v 0 0 31 q (inr (inr (inl refl)));
    call = refl;
    count = λ z. absurd (omega (arith, q));
    end = λ z. absurd (omega (arith, q));
    asked = λ z. record { fixed = record { fixed = rw q tt; body = λ y. absurd (omega (arith, q)) }; settled = λ y. refl };
  }

  restore_alike : (ms : List Mark) (r : Rec) → Alike E (Targeted X Y) (Targeted X Y) r (settle_to restores ms r)
  restore_alike ms r = go (is_pending restores (look_of r)) refl (data_of ms (r.b - 1))
    where
      go : (p : Bool) → is_pending restores (look_of r) ≡ p → (s : Search) → Alike E (Targeted X Y) (Targeted X Y) r (pick p (settle_rec s r) r)
      go false p s = record { steps = λ P. refl; call = refl; count = λ z. refl; end = λ z. refl; asked = λ z. z }
      go true p (found v) = restore_call r v (eqb-true r.call 31 (both_right (ltb 0 r.b) (eqb r.call 31) p))
      go true p missing = restore_call r r.a (eqb-true r.call 31 (both_right (ltb 0 r.b) (eqb r.call 31) p))

  pub label_zip : (ms : List Mark) (rs : List Rec) → All (λ (m : Mark). X m.addr) ms → All (Settles jumps ms) rs
      → Zip (Alike E (Fixed X Y) (Targeted X Y)) rs (each (settle_to jumps ms) rs)
  label_zip ms [] a f = Zip.none
  label_zip ms (r ∷ rs) a f = Zip.more (label_alike ms r a f.0) (label_zip ms rs a f.1)

  pub restore_zip : (ms : List Mark) (rs : List Rec) → Zip (Alike E (Targeted X Y) (Targeted X Y)) rs (each (settle_to restores ms) rs)
  restore_zip ms [] = Zip.none
  restore_zip ms (r ∷ rs) = Zip.more (restore_alike ms r) (restore_zip ms rs)

  -- every target of a record that is no WHILE
  all_targets : (r : Rec) → eqb r.call 25 ≡ false → Targeted X Y r → All X (targets r)
  all_targets r w a = go (eqb r.call 19) refl (eqb r.call 20) refl (eqb r.call 21) refl a.fixed.fixed a.settled
    where
      go : (p : Bool) → eqb r.call 19 ≡ p → (q : Bool) → eqb r.call 20 ≡ q → (s : Bool) → eqb r.call 21 ≡ s
          → All X (pick p (r.a ∷ []) (pick (either q s) (pick (eqb r.b 0) (r.a ∷ []) []) (pick (eqb r.call 25) (r.a ∷ []) (pick (eqb r.call 26) (r.c ∷ []) []))))
          → (either q s ≡ true → r.b ≡ 0) → All X (targets r)
      go true e q f s g x y = rw (eqb-true r.call 19 e) x
      go false e true f s g x y = let b : eqb r.b 0 ≡ true = eq-eqb r.b 0 (y refl) in rw (eqb-true r.call 20 f) (rw b at x)
      go false e false f true g x y = let b : eqb r.b 0 ≡ true = eq-eqb r.b 0 (y refl) in rw (eqb-true r.call 21 g) (rw b at x)
      go false e false f false g x y = far (both (leb 19 r.call) (leb r.call 21)) refl
        where
          far : (c : Bool) → both (leb 19 r.call) (leb r.call 21) ≡ c → All X (pick c (r.a ∷ []) (pick (eqb r.call 25) (r.a ∷ r.b ∷ []) (pick (eqb r.call 26) (r.c ∷ []) [])))
          far false h = rw w (rw w at x)
          far true h =
              let l = leb-true 19 r.call (both_left (leb 19 r.call) (leb r.call 21) h) in
              let m = leb-true r.call 21 (both_right (leb 19 r.call) (leb r.call 21) h) in
              let e₁ : r.call ≢ 19 = λ z. eqb-false r.call 19 e z in
              let e₂ : r.call ≢ 20 = λ z. eqb-false r.call 20 f z in
              let e₃ : r.call ≢ 21 = λ z. eqb-false r.call 21 g z in
              absurd (omega (arith, l, m, e₁, e₂, e₃))

  while_alike : (e : ℕ) (r : Rec) → eqb r.call 25 ≡ true → X e → Alike E (Targeted X Y) (Full X Y) r (with_b e r)
  while_alike e r w x =
      let q : r.call ≡ 25 = eqb-true r.call 25 w in
      record {
        steps = same_step r r.a e r.c 25 q (inr (inr (inr refl)));
        call = refl;
        count = λ z. absurd (omega (arith, q));
        end = λ z. absurd (omega (arith, q));
        asked = λ z. record { targets = rw q (first q z.fixed.fixed, (x, tt)); body = λ y. absurd (omega (arith, q)) };
      }
    where
      first : r.call ≡ 25 → All X (fixed_targets r) → X r.a
      first q a = (rw q at a).0

  other_alike : (r : Rec) → eqb r.call 25 ≡ false → Alike E (Targeted X Y) (Full X Y) r r
  other_alike r w = record { steps = λ P. refl; call = refl; count = λ z. refl; end = λ z. refl; asked = λ z. record { targets = all_targets r w z; body = z.fixed.body } }

  -- the end of a WHILE is one past a WEND
  end_found : (rs : List Rec) (m k e : ℕ) → end_from rs m k ≡ found e → (j : ℕ) × (j < length rs) × (is_wend (get_or rs j no_rec) ≡ true) × (e ≡ suc (k + j))
  unfolding end_from
  end_found [] m k e q = let y : ◌≡◌ {A = ℕ} 0 1 = cc in absurd (omega arith)
  end_found (r ∷ rs) m k e q = next (closes r m) refl q (end_found rs (opened r m) (suc k) e)
    where
      next : (b : Bool) → closes r m ≡ b → choose b found (end_from rs (opened r m)) (suc k) ≡ found e
          → (end_from rs (opened r m) (suc k) ≡ found e → (j : ℕ) × (j < length rs) × (is_wend (get_or rs j no_rec) ≡ true) × (e ≡ suc (suc k + j)))
          → (j : ℕ) × (j < length (r ∷ rs)) × (is_wend (get_or (r ∷ rs) j no_rec) ≡ true) × (e ≡ suc (k + j))
      next true c h f = let z : suc k ≡ e = cc in (0, omega arith, both_left (is_wend r) (eqb m 0) c, omega arith)
      next false c h f = let u = f h in (suc u.0, omega (arith, u.1), u.2, omega (arith, u.3))

  end_shift : (rs : List Rec) (m k l : ℕ) → end_from rs m k ≡ missing → end_from rs m l ≡ missing
  unfolding end_from
  end_shift [] m k l q = refl
  end_shift (r ∷ rs) m k l q = next (closes r m) q (end_shift rs (opened r m) (suc k) (suc l))
    where
      next : (b : Bool) → choose b found (end_from rs (opened r m)) (suc k) ≡ missing → (end_from rs (opened r m) (suc k) ≡ missing → end_from rs (opened r m) (suc l) ≡ missing)
          → choose b found (end_from rs (opened r m)) (suc l) ≡ missing
      next true h f = let y : ◌≡◌ {A = ℕ} 0 1 = cc in absurd (omega arith)
      next false h f = f h

  close_zip : (whole front rs : List Rec) (k : ℕ) → whole ≡ front ++ rs → k ≡ length front → NoError (open_notes rs) → ((n : ℕ) → n < length whole → is_wend (get_or whole n no_rec) ≡ true → X (suc n))
      → Zip (Alike E (Targeted X Y) (Full X Y)) rs (close_whiles rs k)
  unfolding close_whiles open_notes
  close_zip whole front [] k e h n x = Zip.none
  close_zip whole front (r ∷ rs) k e h n x =
      Zip.more (next (is_while r) refl (end_from rs 0 0) refl (end_from rs 0 (suc k)) refl (all_right Warning (open_notes rs) (pick (is_while r) (open_note (end_from rs 0 0) r) []) n))
      (close_zip whole (front ++ (r ∷ [])) rs (suc k) (e ∙ sym (append_assoc front (r ∷ []) rs)) (omega (arith, h, length-append front (r ∷ [])))
      (all_left Warning (open_notes rs) (pick (is_while r) (open_note (end_from rs 0 0) r) []) n) x)
    where
      here : (j : ℕ) → get_or whole (suc (k + j)) no_rec ≡ get_or rs j no_rec
      here j =
          let i : suc (k + j) ≡ length front + suc j = omega (arith, h) in
          rw (i, e) (get_or-append-add front (r ∷ rs) (suc j) no_rec)

      next : (b : Bool) → is_while r ≡ b → (s : Search) → end_from rs 0 0 ≡ s → (u : Search) → end_from rs 0 (suc k) ≡ u → NoError (pick b (open_note s r) []) → Alike E (Targeted X Y) (Full X Y) r (pick b (end_at u r) r)
      next false b s p u q m = other_alike r b
      next true b missing p u q m = absurd (omega (arith, m.0))
      next true b (found s) p missing q m = let z : found s ≡ missing = sym p ∙ end_shift rs 0 (suc k) 0 q in let y : ◌≡◌ {A = ℕ} 0 1 = cc in absurd (omega arith)
      next true b (found s) p (found v) q m =
          let w = end_found rs 0 (suc k) v q in
          let l : suc (k + w.0) < length whole = omega (arith, w.1, h, ap length e, length-append front (r ∷ rs)) in
          let g : X (suc (suc (k + w.0))) = x (suc (k + w.0)) l (rw (here w.0) w.2) in
          let f : v ≡ suc (suc (k + w.0)) = omega (arith, w.3) in
          while_alike v r b (rw f g)

  pub while_zip : (rs : List Rec) → NoError (open_notes rs) → ((n : ℕ) → n < length rs → is_wend (get_or rs n no_rec) ≡ true → X (suc n)) → Zip (Alike E (Targeted X Y) (Full X Y)) rs (close_whiles rs 0)
  while_zip rs n x = close_zip rs [] rs 0 refl refl n x
