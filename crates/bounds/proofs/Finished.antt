-- What holds of every record and note that the rules make: the line is one of the program's, a note is an error or a warning and says
-- how many units of a name were lost, and a jump or RESTORE without a label has no range either. Closing up takes the labels away.
use Rattle.std.proofs.Common.{◌≡◌, ℕ, zero, suc, ◌+◌, ◌-◌, ◌≤◌, ◌<◌, Bool, true, false, eqb, ltb, ◌≢◌, ◌⊎◌, List, [], ◌∷◌, ◌++◌, length, sym, refl, ap, ◌∙◌, inl, inr, arith, eqb-true, ltb-true, ltb-false, get_or}
use Rattle.recorder.specs.declared.word.Range.{Range}
use Rattle.recorder.specs.Word.{pick, either, payload_at, next}
use Rattle.recorder.specs.Numbers.{unknown}
use Rattle.recorder.specs.Recorder.{Look}
use Rattle.recorder.specs.Calls.{Awaited, no_label, for_label, label_word, range_number, unpack, number_call, goto_call, gosub_call, while_call, def_call, restore_call, error_note, warning_note, blank_in_name, while_without_wend}
use Rattle.recorder.specs.Ideal.{Rec, rec, no_rec, Note, lost_note, note_of, Ideal, ideal, Search, missing, found, find_name, symbol_in, symbol_of, change, with_a, with_c, settled, unlabelled, look_of}
use Rattle.recorder.specs.Marks.{Mark}
use Rattle.recorder.specs.Closing.{is_while, rec_at, end_from, end_at, close_whiles, open_note, open_notes, no_op, sleep, rounded, whole_end, delayed, stepped_delayed, is_delay, is_stepped_delay, delay_from, delays, end_rec, clean_up, rules_r}
use Rattle.sheet.specs.Check.{Accepted, checked}
use Rattle.sheet.specs.Tree.{ProgramLine, line_at, behind_line, program_at}
use Rattle.sheet.proofs.Lists.{items_length}
use Rattle.walk.proofs.LinesFit.{lines_few}
use Rattle.rules.specs.Name.{read_name}
use Rattle.rules.specs.Program.{Lines, Waiting, jumps, restores, is_pending, first_line, compile_lines, settle_by, resolve, close_up}
use Rattle.rules.specs.Missing.{All}
use Rattle.rules.specs.Outcome.{compiled, finished}
use Rattle.rules.specs.Demand.{NoError}
use Rattle.rules.proofs.BoolLaws.{no_one, not_both, neither}
use Rattle.rules.proofs.PileLaws.{all_map, all_append}
use Rattle.rules.proofs.ClosingPiles.{each, settle_rec, settle_to}
use Rattle.rules.proofs.ProgramPiles.{v_records}
use Rattle.bounds.specs.Uncut.{line_starts}
use Rattle.bounds.specs.Finished.{LostUnits, ErrorOrWarning, waits_for_label, Unlabelled, LineOf}
use Rattle.bounds.proofs.Tally.{tally, note_later, Counts, CountsLines}
use Rattle.bounds.proofs.GrowsProgram.{starts_taken, from_the_first, grow_lines}
use Rattle.bounds.proofs.Uncut.{bases_uncut}

-- a record that is changed, at an address or wherever it stands; a record at an address
change_at : (X : Rec → Type 0) (f : Rec → Rec) (rs : List Rec) (k : ℕ) → (X (rec_at rs k) → X (f (rec_at rs k))) → All X rs → All X (change f rs k)
unfolding change
change_at X f [] k h a = a
change_at X f (r ∷ rs) zero h a = (h a.0, a.1)
change_at X f (r ∷ rs) (suc k) h a = (a.0, change_at X f rs k h a.1)

changed : (X : Rec → Type 0) (f : Rec → Rec) → ((r : Rec) → X r → X (f r)) → (rs : List Rec) (k : ℕ) → All X rs → All X (change f rs k)
changed X f h rs k a = change_at X f rs k (h (rec_at rs k)) a

all_at : (X : Rec → Type 0) (rs : List Rec) (k : ℕ) → X no_rec → All X rs → X (rec_at rs k)
all_at X [] k h a = h
all_at X (r ∷ rs) zero h a = a.0
all_at X (r ∷ rs) (suc k) h a = all_at X rs k h a.1

all_and : {A : Type 0} (X Y : A → Type 0) (xs : List A) → All X xs → All Y xs → All (λ x. X x × Y x) xs
all_and X Y [] a b = tt
all_and X Y (x ∷ xs) a b = ((a.0, b.0), all_and X Y xs a.1 b.1)

-- a function's call 26 stands at an address
abbrev Function : ℕ → Ideal → Type 0
Function a i = (rec_at i.records a).call ≡ def_call

function_here : (rs : List Rec) (r : Rec) → rec_at (rs ++ (r ∷ [])) (length rs) ≡ r
function_here [] r = refl
function_here (x ∷ rs) r = function_here rs r

function_stays : (rs : List Rec) (r : Rec) (a : ℕ) → (rec_at rs a).call ≡ def_call → (rec_at (rs ++ (r ∷ [])) a).call ≡ def_call
function_stays [] r a h = absurd (omega (arith, h))
function_stays (x ∷ rs) r zero h = h
function_stays (x ∷ rs) r (suc a) h = function_stays rs r a h

same_call : (f : Rec → Rec) → ((r : Rec) → (f r).call ≡ r.call) → (rs : List Rec) (k a : ℕ) → (rec_at (change f rs k) a).call ≡ (rec_at rs a).call
unfolding change
same_call f h [] k a = refl
same_call f h (r ∷ rs) zero zero = h r
same_call f h (r ∷ rs) zero (suc a) = refl
same_call f h (r ∷ rs) (suc k) zero = refl
same_call f h (r ∷ rs) (suc k) (suc a) = same_call f h rs k a

-- a label is a number above 0 in argument b, with the range in c
abbrev Labelled : Rec → Type 0
Labelled r = waits_for_label r.call ≡ true → r.b ≡ 0 → r.c ≡ 0

other_call : (W : Type 0) (c : ℕ) → note_later c ≡ false → waits_for_label c ≡ true → W
other_call W c e h = no_one (sym (neither (waits_for_label c) (eqb c while_call) e).0 ∙ h)

awaited : (w : Awaited) (c l : ℕ) (r : Range) (x : ℕ) → Labelled (rec c l r x (label_word w) (range_number w))
awaited no_label c l r x e z = refl
awaited (for_label n q) c l r x e z = absurd (omega (arith, z))

-- no unit is lost in a note of another class; in one of class 10 what the name and its sigil leave of the range
no_units : {t : List ℕ} {base : ℕ} {n : Note} → eqb n.class blank_in_name ≡ false → n.lost ≡ 0 → LostUnits t base n
no_units {n = n} e z = record { other = λ h. z; some = λ h. ten h; whole = λ h. ten h }
  where
    ten : {A : Type 0} → n.class ≡ blank_in_name → A
    ten h = no_one (sym (rw h at e))

lost_units_of : (t : List ℕ) (base : ℕ) (l : ℕ) (r : Range) → ltb 0 (read_name t base r).lost ≡ true
    → LostUnits t base (lost_note blank_in_name l r warning_note (read_name t base r).lost)
unfolding read_name
lost_units_of t base l r e =
    let n = read_name t base r in
    let h : 0 < n.lost = ltb-true 0 n.lost e in
    record { other = λ f. absurd (f refl); some = λ f. h; whole = λ f. omega (arith, h) }

-- of a program of m lines, of which each begins in the text where `starts` says
module _ (m : ℕ) (t : List ℕ) (starts : ℕ → ℕ) where
  abbrev Line : ℕ → Type 0
  Line l = l ≤ m - 1

  abbrev RecMade : Rec → Type 0
  RecMade r = Line r.line × Labelled r

  record NoteMade (n : Note) : Type 0 where
    line : Line n.line
    severity : ErrorOrWarning n.severity
    lost : LostUnits t (starts n.line) n

  -- on a line that begins at `base`
  record Made (base : ℕ) (i : Ideal) : Type 0 where
    records : All RecMade i.records
    notes : All NoteMade i.notes
    line : Line i.line
    here : starts i.line ≡ base

  put : {b : ℕ} {i : Ideal} (c : ℕ) (r : Range) (x y z : ℕ) → Labelled (rec c i.line r x y z) → Made b i
      → Made b (ideal (i.records ++ (rec c i.line r x y z ∷ [])) i.notes i.entries i.line i.first_datum)
  put {i = i} c r x y z h p = record { records = all_append RecMade i.records _ p.records ((p.line, h), tt); notes = p.notes; line = p.line; here = p.here }

  noted : {b : ℕ} {i : Ideal} (n : Note) → NoteMade n → Made b i → Made b (ideal i.records (i.notes ++ (n ∷ [])) i.entries i.line i.first_datum)
  noted {i = i} n h p = record { records = p.records; notes = all_append NoteMade i.notes _ p.notes (h, tt); line = p.line; here = p.here }

  -- a note of another class than 10
  other_note : (c l : ℕ) (r : Range) (v : ℕ) → Line l → eqb c blank_in_name ≡ false → ErrorOrWarning v → NoteMade (note_of c l r v)
  other_note c l r v g e h = record { line = g; severity = h; lost = no_units e refl }

  named : {b : ℕ} {i : Ideal} (o : Search) (x n g : ℕ) → Made b i → Made b (symbol_in o i x n g).state
  named (found v) x n g p = p
  named missing x n g p = record { records = p.records; notes = p.notes; line = p.line; here = p.here }

  on : {b : ℕ} {i : Ideal} (f : Rec → Rec) (k : ℕ) → (RecMade (rec_at i.records k) → RecMade (f (rec_at i.records k))) → Made b i
      → Made b (ideal (change f i.records k) i.notes i.entries i.line i.first_datum)
  on {i = i} f k h p = record { records = change_at RecMade f i.records k h p.records; notes = p.notes; line = p.line; here = p.here }

  made : (b : ℕ) → Counts (rules_r t) t b (λ k i. Made b i)
  unfolding symbol_of
  made b = record {
    emit = λ {s = i} {c} {r} {x} {y} {z} e p. put c r x y z (other_call (y ≡ 0 → z ≡ 0) c e) p;
    emit_waiting = λ {s = i} {c} {r} {x} w p. put c r x (label_word w) (range_number w) (awaited w c i.line r x) p;
    emit_while = λ {r = r} {x} p. put while_call r x unknown 0 (λ e z. refl) p;
    error = λ {s = i} {c} {r} e p. noted _ (other_note c i.line r error_note p.line e (inl refl)) p;
    warning = λ {s = i} {c} {r} e p. noted _ (other_note c i.line r warning_note p.line e (inr refl)) p;
    blank = λ {s = i} r e p. noted _ (record { line = p.line; severity = inr refl; lost = rw p.here (lost_units_of t b i.line r e) }) p;
    symbol = λ {s = i} {x} {n} {g} p. named (find_name t i.entries x n g) x n g p;
    datum = λ p. record { records = p.records; notes = p.notes; line = p.line; here = p.here };
    byte = λ p. record { records = p.records; notes = p.notes; line = p.line; here = p.here };
    patch = λ {a = a} {v} p. on (with_a v) a (λ h. h) p;
    fit = λ p h. p;
  }

  -- in a function's body
  named_call : (i : Ideal) (o : Search) (a x n g : ℕ) → Function a i → Function a (symbol_in o i x n g).state
  named_call i (found v) a x n g h = h
  named_call i missing a x n g h = h

  in_body : (b a : ℕ) → Counts (rules_r t) t b (λ k i. Made b i × Function a i)
  unfolding symbol_of
  in_body b a =
      let κ = made b in
      record {
        emit = λ {k} {s = i} {c} {r} {x} {y} {z} e p. (κ.emit {k = k} {x = x} e p.0, function_stays i.records (rec c i.line r x y z) a p.1);
        emit_waiting = λ {k} {s = i} {c} {r} {x} w p.
            (κ.emit_waiting {k = k} {x = x} w p.0, function_stays i.records (rec c i.line r x (label_word w) (range_number w)) a p.1);
        emit_while = λ {k} {s = i} {r} {x} p. (κ.emit_while {k = k} {x = x} p.0, function_stays i.records (rec while_call i.line r x unknown 0) a p.1);
        error = λ {k} e p. (κ.error {k = k} e p.0, p.1);
        warning = λ {k} e p. (κ.warning {k = k} e p.0, p.1);
        blank = λ {k} r e p. (κ.blank {k = k} r e p.0, p.1);
        symbol = λ {k} {s = i} {x} {n} {g} p. (κ.symbol {k = k} p.0, named_call i (find_name t i.entries x n g) a x n g p.1);
        datum = λ {k} {q = q} p. (κ.datum {k = k} {q = q} p.0, p.1);
        byte = λ {k} {v = v} p. (κ.byte {k = k} {v = v} p.0, p.1);
        patch = λ {k} {s = i} {a = c} {v} p. (κ.patch {k = k} {a = c} p.0, same_call (with_a v) (λ r. refl) i.records c a ∙ p.1);
        fit = λ p h. p;
      }

  -- a function's end is no jump's argument
  ended : (v : ℕ) (r : Rec) → r.call ≡ def_call → RecMade r → RecMade (with_c v r)
  ended v r e h = (h.0, λ w z. no_one (rw e at w))

  -- between two lines the state's own is the line
  made_lines : CountsLines (rules_r t) t m starts (λ k i. Made (starts i.line) i) (λ b k i. Made b i) (λ b a k i. Made b i × Function a i)
  made_lines = record {
    between = λ p h. p;
    counts = made;
    body = in_body;
    begin_def = λ {b} {k} {s = i} {r} {x} {y} p.
        ((made b).emit {k = k} {x = x} {y = y} refl p, ap (λ (q : Rec). q.call) (function_here i.records (rec def_call i.line r x y unknown)));
    end_def = λ {s = i} {a} {v} p. on (with_c v) a (ended v (rec_at i.records a) p.1) p.0;
    begin_line = λ h p. record { records = p.records; notes = p.notes; line = omega (arith, h); here = refl };
    end_line = λ p. record { records = p.records; notes = p.notes; line = p.line; here = refl };
  }

  -- a jump or a RESTORE gets its target, or a note
  record Noting (w : Waiting) : Type 0 where
    class : eqb w.class blank_in_name ≡ false
    severity : ErrorOrWarning w.severity

  settle_made : {b : ℕ} {i : Ideal} (w : Waiting) → Noting w → (o : Search) (k : ℕ) (q : Look) → Line q.line
      → Made b i → Made b (settle_by (rules_r t) w o k q i)
  settle_made w h (found v) k q g p = on (settled v) k (λ x. (x.0, λ e z. refl)) p
  settle_made w h missing k q g p =
      noted _ (other_note w.class q.line (unpack q.c) w.severity g h.class h.severity) (on unlabelled k (λ x. (x.0, λ e z. refl)) p)

  step_made : {b : ℕ} {i : Ideal} (w : Waiting) → Noting w → (o : Search) (k : ℕ) (q : Look) (c : Bool) → Line q.line
      → Made b i → Made b (pick c (settle_by (rules_r t) w o k q i) i)
  step_made w h o k q true g p = settle_made w h o k q g p
  step_made w h o k q false g p = p

  resolve_made : {b : ℕ} (w : Waiting) → Noting w → (ms : List Mark) (k n : ℕ) {i : Ideal} → Made b i
      → Made b (resolve (rules_r t) w ms k n i)
  unfolding resolve
  resolve_made w h ms k zero p = p
  resolve_made w h ms k (suc n) {i = i} p =
      let r = rec_at i.records k in
      let g : Line r.line = all_at (λ x. Line x.line) i.records k (omega arith) (all_map RecMade (λ x. Line x.line) i.records (λ x y. y.0) p.records) in
      resolve_made w h ms (k + 1) n (step_made w h (w.find ms (r.b - 1)) k (look_of r) (is_pending w (look_of r)) g p)

  -- a WHILE without end gets a note
  open_made : (rs : List Rec) → All RecMade rs → All NoteMade (open_notes rs)
  unfolding open_notes
  open_made [] a = tt
  open_made (r ∷ rs) a = all_append NoteMade (open_notes rs) _ (open_made rs a.1) (go (is_while r) (end_from rs 0 0))
    where
      go : (b : Bool) (o : Search) → All NoteMade (pick b (open_note o r) [])
      go true missing = (other_note while_without_wend r.line r.range error_note a.0.0 refl (inl refl), tt)
      go true (found e) = tt
      go false o = tt

  -- records without labels, and the passes over them
  abbrev RecDone : Rec → Type 0
  RecDone r = Line r.line × Unlabelled r

  close_done : (rs : List Rec) (k : ℕ) → All RecDone rs → All RecDone (close_whiles rs k)
  unfolding close_whiles
  close_done [] k a = tt
  close_done (r ∷ rs) k a = (go (is_while r) refl (end_from rs 0 (suc k)), close_done rs (suc k) a.1)
    where
      go : (b : Bool) → is_while r ≡ b → (o : Search) → RecDone (pick b (end_at o r) r)
      go true e missing = a.0
      go true e (found v) = (a.0.0, λ w. no_one (rw (eqb-true r.call while_call e) at w))
      go false e o = a.0

  whole_done : (r : Rec) → RecDone r → RecDone (whole_end r)
  whole_done r h = go (eqb r.call number_call)
    where
      go : (b : Bool) → RecDone (pick b (rec number_call r.line r.range (rounded r.a r.b).e (rounded r.a r.b).m 0) r)
      go true = (h.0, λ w. no_one w)
      go false = h

  none_at : (rs : List Rec) (k : ℕ) → All RecDone rs → All RecDone (change no_op rs k)
  none_at rs k a = changed RecDone no_op (λ r h. (h.0, λ w. no_one w)) rs k a

  sleep_at : (rs : List Rec) (k : ℕ) → All RecDone rs → All RecDone (change sleep rs k)
  sleep_at rs k a = changed RecDone sleep (λ r h. (h.0, λ w. no_one w)) rs k a

  delay_done : (rs : List Rec) (k : ℕ) → All RecDone rs → All RecDone (delay_from rs k)
  unfolding delay_from
  delay_done rs k a = go (is_delay rs k) (is_stepped_delay rs k)
    where
      begun : All RecDone (change whole_end (change no_op rs k) (k + 1))
      begun = changed RecDone whole_end whole_done _ (k + 1) (none_at rs k a)

      go : (b c : Bool) → All RecDone (pick b (delayed rs k) (pick c (stepped_delayed rs k) rs))
      go true c = none_at _ (k + 3) (sleep_at _ (k + 2) begun)
      go false true = none_at _ (k + 4) (sleep_at _ (k + 3) (none_at _ (k + 2) begun))
      go false false = a

  delays_done : (n k : ℕ) (rs : List Rec) → All RecDone rs → All RecDone (delays n k rs)
  unfolding delays
  delays_done zero k rs a = a
  delays_done (suc n) k rs a = delays_done n (k + 1) (delay_from rs k) (delay_done rs k a)

  record Done (i : Ideal) : Type 0 where
    records : All RecDone i.records
    notes : All NoteMade i.notes

  clean_done : {b : ℕ} (i : Ideal) → Made b i → All Unlabelled i.records → Done (clean_up i)
  unfolding clean_up
  clean_done i p u =
      let n = length i.records in
      let both = all_and (λ r. Line r.line) Unlabelled i.records (all_map RecMade (λ r. Line r.line) i.records (λ r h. h.0) p.records) u in
      let closed = delays_done n 0 (close_whiles i.records 0) (close_done i.records 0 both) in
      record {
        records = all_append RecDone _ (end_rec i.line ∷ []) closed ((p.line, λ w. no_one w), tt);
        notes = all_append NoteMade i.notes (open_notes i.records) p.notes (open_made i.records p.records);
      }

-- both passes over the pending records take their labels away
abbrev Cleared : Rec → Type 0
Cleared r = (r.b ≡ 0) × (r.c ≡ 0)

settle_clears : (o : Search) (r : Rec) → Cleared (settle_rec o r)
settle_clears (found v) r = (refl, refl)
settle_clears missing r = (refl, refl)

settle_keeps : (o : Search) (r : Rec) → (settle_rec o r).call ≡ r.call
settle_keeps (found v) r = refl
settle_keeps missing r = refl

one_of : (k : ℕ) → waits_for_label k ≡ true → (jumps.waits k ≡ true) ⊎ (restores.waits k ≡ true)
one_of k e = go (eqb k goto_call) (eqb k gosub_call) (eqb k restore_call) e
  where
    go : (a b c : Bool) → either a (either b c) ≡ true → (either a b ≡ true) ⊎ (c ≡ true)
    go true b c f = inl refl
    go false true c f = inl refl
    go false false c f = inr f

module _ (ms : List Mark) (w : Waiting) (r : Rec) where
  abbrev o : Search
  o = w.find ms (r.b - 1)

  pass_call : (settle_to w ms r).call ≡ r.call
  pass_call = go (is_pending w (look_of r))
    where
      go : (b : Bool) → (pick b (settle_rec o r) r).call ≡ r.call
      go true = settle_keeps o r
      go false = refl

  pass_labelled : Labelled r → Labelled (settle_to w ms r)
  pass_labelled h = go (is_pending w (look_of r))
    where
      go : (b : Bool) → Labelled (pick b (settle_rec o r) r)
      go true = λ e z. (settle_clears o r).1
      go false = h

  pass_cleared : Cleared r → Cleared (settle_to w ms r)
  pass_cleared h = go (is_pending w (look_of r))
    where
      go : (b : Bool) → Cleared (pick b (settle_rec o r) r)
      go true = settle_clears o r
      go false = h

  pass_clears : w.waits r.call ≡ true → waits_for_label r.call ≡ true → Labelled r → Cleared (settle_to w ms r)
  pass_clears e f h = go (is_pending w (look_of r)) refl
    where
      go : (b : Bool) → is_pending w (look_of r) ≡ b → Cleared (pick b (settle_rec o r) r)
      go true p = settle_clears o r
      go false p =
          let n = ltb-false 0 r.b (not_both (ltb 0 r.b) (w.waits r.call) p e) in
          let z : r.b ≡ 0 = omega (arith, n) in
          (z, h f z)

passes_clear : (ms : List Mark) (r : Rec) → Labelled r → Unlabelled (settle_to restores ms (settle_to jumps ms r))
passes_clear ms r h e =
    let u = settle_to jumps ms r in
    let c : u.call ≡ r.call = pass_call ms jumps r in
    let d : waits_for_label u.call ≡ true = rw (pass_call ms restores u) at e in
    let f : waits_for_label r.call ≡ true = rw c at d in
    go (one_of r.call f) c d f
  where
    go : (jumps.waits r.call ≡ true) ⊎ (restores.waits r.call ≡ true) → (settle_to jumps ms r).call ≡ r.call
        → waits_for_label (settle_to jumps ms r).call ≡ true → waits_for_label r.call ≡ true
        → Cleared (settle_to restores ms (settle_to jumps ms r))
    go (inl j) c d f = pass_cleared ms restores (settle_to jumps ms r) (pass_clears ms jumps r j f h)
    go (inr q) c d f = pass_clears ms restores (settle_to jumps ms r) (rw c q) d (pass_labelled ms jumps r h)

all_clear : (ms : List Mark) (rs : List Rec) → All Labelled rs → All Unlabelled (each (settle_to restores ms) (each (settle_to jumps ms) rs))
all_clear ms [] a = tt
all_clear ms (r ∷ rs) a = (passes_clear ms r a.0, all_clear ms rs a.1)

-- the finished form
close_all : (m : ℕ) (t : List ℕ) (starts : ℕ → ℕ) {b : ℕ} (c : Lines Ideal) → Made m t starts b c.state → Done m t starts (close_up (rules_r t) c)
unfolding close_up
close_all m t starts c p =
    let j : Noting m t starts jumps = record { class = refl; severity = inl refl } in
    let u = resolve_made m t starts jumps j c.marks 0 (length c.state.records) p in
    clean_done m t starts _ (resolve_made m t starts restores (record { class = refl; severity = inr refl }) c.marks 0 _ u)
    (rw (v_records t c) (all_clear c.marks c.state.records (all_map (RecMade m t starts) Labelled c.state.records (λ r h. h.1) p.records)))

module _ (s t : List ℕ) where
  abbrev ls : List ProgramLine
  ls = program_at s

  abbrev lines : ℕ
  lines = length ls

  abbrev begun : ℕ → ℕ
  begun = starts_taken t ls

  all_done : Done lines t begun (finished s t)
  unfolding finished compiled
  all_done =
      let c = first_line (rules_r t) t (ideal [] [] [] 0 0) in
      let p : Made lines t begun (begun 0) c.state = record { records = tt; notes = tt; line = omega arith; here = refl } in
      close_all lines t begun (compile_lines (rules_r t) t ls c)
      (grow_lines (made_lines lines t begun) ls c {k = tally 0 0 0 0 0} (omega arith) (λ j g. from_the_first t ls j) p)

  -- THEOREM: every note of a finished form is an error or a warning
  pub severities : All (λ (n : Note). ErrorOrWarning n.severity) (finished s t).notes
  severities = all_map (NoteMade lines t begun) (λ n. ErrorOrWarning n.severity) (finished s t).notes (λ n h. h.severity) all_done.notes

-- THEOREM: so "every note is a warning" is "no note is an error"
pub no_error : (s t : List ℕ) → All (λ (n : Note). n.severity ≢ error_note) (finished s t).notes → NoError (finished s t).notes
no_error s t h =
    all_map (λ n. ErrorOrWarning n.severity × (n.severity ≢ error_note)) (λ n. n.severity ≡ warning_note) (finished s t).notes one
    (all_and (λ n. ErrorOrWarning n.severity) (λ n. n.severity ≢ error_note) (finished s t).notes (severities s t) h)
  where
    one : (n : Note) → ErrorOrWarning n.severity × (n.severity ≢ error_note) → n.severity ≡ warning_note
    one n (inl e, f) = absurd (f e)
    one n (inr e, f) = e

-- THEOREM: no jump and no RESTORE of a finished form keeps a label, or the range that its note would carry
pub labels_cleared : (s t : List ℕ) → All Unlabelled (finished s t).records
labels_cleared s t = all_map (RecDone (lines s t) t (begun s t)) Unlabelled (finished s t).records (λ r h. h.1) (all_done s t).records

program_length : (s : List ℕ) → length (program_at s) ≡ payload_at s 0
unfolding program_at
program_length s = items_length s (line_at s) (behind_line s) (payload_at s 0) (next s 0)

module _ (s t : List ℕ) (work : ℕ) (e : checked s t work ≡ Accepted) where
  line_of : (l : ℕ) → l ≤ length (program_at s) - 1 → LineOf s l
  line_of l h =
      let few : l < 65536 = omega (arith, h, program_length s, lines_few s t work e) in
      record { among = h; short = few; exact = λ k. omega (arith, few) }

  -- THEOREM: every record of an accepted sheet's finished form carries the index of one of its lines, uncut
  pub record_lines : All (λ (r : Rec). LineOf s r.line) (finished s t).records
  record_lines = all_map (RecDone (lines s t) t (begun s t)) (λ r. LineOf s r.line) (finished s t).records (λ r h. line_of r.line h.0) (all_done s t).records

  -- THEOREM: so does every note
  pub note_lines : All (λ (n : Note). LineOf s n.line) (finished s t).notes
  note_lines = all_map (NoteMade (lines s t) t (begun s t)) (λ n. LineOf s n.line) (finished s t).notes (λ n h. line_of n.line h.line) (all_done s t).notes

  -- THEOREM: a note of class 10 says how many units of its name were left out, and no other note says any
  pub units_lost : All (λ (n : Note). LostUnits t (get_or (line_starts 0 (program_at s)) n.line 0) n) (finished s t).notes
  units_lost =
      let x = first_line (rules_r t) t (ideal [] [] [] 0 0) in
      rw (← bases_uncut s t work e (rules_r t) x.state)
      (all_map (NoteMade (lines s t) t (begun s t)) (λ n. LostUnits t (begun s t n.line) n) (finished s t).notes (λ n h. h.lost) (all_done s t).notes)
