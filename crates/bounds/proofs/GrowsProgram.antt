-- A program's words bound its records, notes and book entries, closed up too. Closing up adds at most one note for each jump or
-- RESTORE that waits for its label and for each WHILE: such a record counts as a note from the beginning.
use mathlib.Core.Path.{◌≡◌, refl, sym, ap, ◌∙◌}
use mathlib.Core.List.{List, [], ◌∷◌, ◌++◌}
use mathlib.Core.Bool.{Bool, true, false}
use Prim.Native.Nat.{ℕ, zero, suc, ◌+◌, ◌*◌, ◌-◌, ◌≤◌, ◌<◌}
use lib.Dec.{ltb}
use lib.ListN.{length, get_or, length-append}
use borrow.Author.Tests.{eqb-true}
use native.Mathlib.Omega.{arith}
use Rattle.recorder.specs.Numbers.{unknown}
use Rattle.recorder.specs.Calls.{unpack, label_word, range_number, while_call, error_note, warning_note, blank_in_name}
use Rattle.recorder.specs.Word.{pick, both, either}
use Rattle.recorder.specs.Recorder.{Recorder, Look}
use Rattle.recorder.specs.Ideal.{Rec, rec, lost_note, note_of, Entry, Ideal, ideal, Search, missing, found, find_name, symbol_in, symbol_of, change, with_a, with_c, settled, unlabelled, look_of}
use Rattle.recorder.specs.Marks.{Mark}
use Rattle.recorder.specs.Closing.{is_while, rec_at, end_from, close_whiles, open_note, open_notes, delays, end_rec, clean_up, rules_r}
use Rattle.recorder.proofs.Bools.{true_not_false, both_left, both_right}
use Rattle.recorder.proofs.Words.{length_snoc, change_length}
use Rattle.simulation.proofs.Clean.{close_length, delays_length}
use Rattle.sheet.specs.Tree.{Opt, absent, given, Target, ProgramLine}
use Rattle.rules.specs.Name.{read_name}
use Rattle.rules.specs.Program.{Lines, Waiting, is_pending, label_note, compile_line, compile_lines, first_line, settle_by, resolve, close_up}
use Rattle.rules.proofs.Waits.{Waits, jumps_wait, restores_wait, of_waiting}
use Rattle.bounds.specs.Size.{opt_target, line_words, lines_words, program_words}
use Rattle.bounds.specs.Bounded.{Bounded}
use Rattle.bounds.specs.Finished.{waits_for_label}
use Rattle.bounds.specs.Uncut.{bases_taken}
use Rattle.bounds.proofs.Tally.{Tally, tally, makes, reads, Counts, CountsLines}
use Rattle.bounds.proofs.Grows.{pick_in, grow_block}

-- lines
module _ {S : Type 0} {R : Recorder S} {t : List ℕ} {m : ℕ} {starts : ℕ → ℕ} {P : Tally → S → Type 0} {W : ℕ → Tally → S → Type 0} {D : ℕ → ℕ → Tally → S → Type 0} (κ : CountsLines R t m starts P W D) where
  grow_label : {k : Tally} {s : S} (base last : ℕ) (l : Opt Target) → W base k s → W base (reads (opt_target l) k) (label_note R t base last l s)
  grow_label base last absent p = (κ.counts base).fit p (omega arith)
  grow_label base last (given l) p =
      let γ = κ.counts base in
      pick_in t base γ (ltb l.label last) (γ.fit (γ.error refl p) (omega arith)) (γ.fit p (omega arith))

  grow_line : {k : Tally} (l : ProgramLine) (c : Lines S) → c.line < m → starts c.line ≡ c.base → P k c.state → P (reads (line_words l) k) (compile_line R t l c).state
  unfolding compile_line
  grow_line l c h e p =
      let q = grow_label c.base c.last l.label (rw e at (κ.begin_line h p)) in
      κ.end_line ((κ.counts c.base).fit (grow_block κ c.base l.stmts q) (omega arith))

  -- the lines from c on
  pub grow_lines : (ls : List ProgramLine) (c : Lines S) {k : Tally} → c.line + length ls ≤ m → ((j : ℕ) → j < length ls → starts (c.line + j) ≡ get_or (bases_taken R t ls c) j 0)
      → P k c.state → P (reads (lines_words ls) k) (compile_lines R t ls c).state
  unfolding compile_lines compile_line lines_words bases_taken
  grow_lines [] c h e p = κ.between p (omega arith)
  grow_lines (l ∷ ls) c h e p =
      let here : starts c.line ≡ c.base = rw (plus_none c.line) at (e 0 (omega arith)) in
      let next = grow_line l c (omega (arith, h)) here p in
      κ.between
      (grow_lines ls (compile_line R t l c) (omega (arith, h)) (λ j g. ap starts (plus_one c.line j) ∙ e (suc j) (omega (arith, g))) next) (omega arith)
    where
      plus_none : (n : ℕ) → n + 0 ≡ n
      plus_none n = omega arith

      plus_one : (n j : ℕ) → n + 1 + j ≡ n + suc j
      plus_one n j = omega arith

-- the records for which closing up may add a note: those that wait for a label, and WHILEs
abbrev one : Bool → ℕ
one true = 1
one false = 0

abbrev waits : Rec → Bool
waits r = both (waits_for_label r.call) (ltb 0 r.b)

abbrev later_note : Rec → ℕ
later_note r = one (pick (waits_for_label r.call) (ltb 0 r.b) (is_while r))

unfoldable later_notes : List Rec → ℕ
later_notes [] = 0
later_notes (r ∷ rs) = later_note r + later_notes rs

later_snoc : (rs : List Rec) (r : Rec) → later_notes (rs ++ (r ∷ [])) ≡ later_notes rs + later_note r
unfolding later_notes
later_snoc [] r = omega arith
later_snoc (x ∷ rs) r = omega (arith, later_snoc rs r)

at_most : (b : Bool) → one b ≤ 1
at_most true = omega arith
at_most false = omega arith

no_later : (a b c : Bool) → either a c ≡ false → one (pick a b c) ≡ 0
no_later true b c e = true_not_false e
no_later false b c e = rw e

later_same : (f : Rec → Rec) → ((r : Rec) → later_note (f r) ≡ later_note r) → (rs : List Rec) (k : ℕ) → later_notes (change f rs k) ≡ later_notes rs
unfolding later_notes change
later_same f h [] k = refl
later_same f h (r ∷ rs) zero = omega (arith, h r)
later_same f h (r ∷ rs) (suc k) = omega (arith, later_same f h rs k)

-- a jump or a RESTORE that waits no longer
one_less : (a b c : Bool) → both a b ≡ true → suc (one (pick a false c)) ≡ one (pick a b c)
one_less true true c e = refl
one_less true false c e = true_not_false (sym e)
one_less false b c e = true_not_false (sym e)

later_less : (f : Rec → Rec) → ((r : Rec) → later_note (f r) ≡ one (pick (waits_for_label r.call) false (is_while r))) → (rs : List Rec) (k : ℕ) → waits (rec_at rs k) ≡ true
    → suc (later_notes (change f rs k)) ≡ later_notes rs
unfolding later_notes change
later_less f h [] k e = true_not_false (sym e)
later_less f h (r ∷ rs) zero e = omega (arith, h r, one_less (waits_for_label r.call) (ltb 0 r.b) (is_while r) e)
later_less f h (r ∷ rs) (suc k) e = omega (arith, later_less f h rs k e)

-- what the rules' recorder holds, within a tally
record Room (k : Tally) (i : Ideal) : Type 0 where
  records : 3 * length i.records + 5 * k.values ≤ 4 * k.words + 3 * k.records
  notes : length i.notes + later_notes i.records + 3 * k.values ≤ 2 * k.words + k.notes
  entries : length i.entries + k.values ≤ k.words + k.entries

entry_room : {k : Tally} {i : Ideal} (e : Entry) (d : ℕ) → Room k i → Room (makes 0 0 1 k) (ideal i.records i.notes (i.entries ++ (e ∷ [])) i.line d)
entry_room {i = i} e d p = omega (arith, length_snoc i.entries e)

symbol_room : {k : Tally} {i : Ideal} (o : Search) (x n g : ℕ) → Room k i → Room (makes 0 0 1 k) (symbol_in o i x n g).state
symbol_room (found v) x n g p = omega arith
symbol_room missing x n g p = entry_room _ _ p

counts : (t : List ℕ) (base : ℕ) → Counts (rules_r t) t base Room
unfolding symbol_of
counts t base = record {
  emit = λ {s = i} {c} {r} {x} {y} {z} e p.
      let v = rec c i.line r x y z in
      omega (arith, length_snoc i.records v, later_snoc i.records v, no_later (waits_for_label c) (ltb 0 y) (is_while v) e);
  emit_waiting = λ {s = i} {c} {r} {x} w p.
      let v = rec c i.line r x (label_word w) (range_number w) in
      omega (arith, length_snoc i.records v, later_snoc i.records v, at_most (pick (waits_for_label c) (ltb 0 v.b) (is_while v)));
  emit_while = λ {s = i} {r} {x} p.
      let v = rec while_call i.line r x unknown 0 in
      omega (arith, length_snoc i.records v, later_snoc i.records v);
  error = λ {s = i} {c} {r} e p. omega (arith, length_snoc i.notes (note_of c i.line r error_note));
  warning = λ {s = i} {c} {r} e p. omega (arith, length_snoc i.notes (note_of c i.line r warning_note));
  blank = λ {s = i} r e p. omega (arith, length_snoc i.notes (lost_note blank_in_name i.line r warning_note (read_name t base r).lost));
  symbol = λ {s = i} {x} {n} {g} p. symbol_room (find_name t i.entries x n g) x n g p;
  datum = λ p. entry_room _ _ p;
  byte = λ p. entry_room _ _ p;
  patch = λ {s = i} {a} {v} p. omega (arith, change_length (with_a v) i.records a, later_same (with_a v) (λ r. refl) i.records a);
  fit = λ p h. omega arith;
}

counts_lines : (t : List ℕ) (m : ℕ) (starts : ℕ → ℕ) → CountsLines (rules_r t) t m starts Room (λ b. Room) (λ b a. Room)
counts_lines t m starts = record {
  between = λ p h. (counts t 0).fit p h;
  counts = counts t;
  body = λ b a. counts t b;
  begin_def = λ p. (counts t 0).emit refl p;
  end_def = λ {s = i} {a} {v} p. omega (arith, change_length (with_c v) i.records a, later_same (with_c v) (λ r. refl) i.records a);
  begin_line = λ h p. omega arith;
  end_line = λ p. p;
}

-- a jump or a RESTORE gets its target, or a note
settle_room : {k : Tally} {i : Ideal} (t : List ℕ) (w : Waiting) (o : Search) (at : ℕ) (q : Look) → waits (rec_at i.records at) ≡ true
    → Room k i → Room k (settle_by (rules_r t) w o at q i)
settle_room {i = i} t w (found v) at q e p =
    omega (arith, change_length (settled v) i.records at, later_less (settled v) (λ r. refl) i.records at e)
settle_room {i = i} t w missing at q e p =
    omega (
      arith,
      change_length unlabelled i.records at,
      later_less unlabelled (λ r. refl) i.records at e,
      length_snoc i.notes (note_of w.class q.line (unpack q.c) w.severity),
    )

step_room : {k : Tally} {i : Ideal} (t : List ℕ) (w : Waiting) (o : Search) (at : ℕ) (b : Bool) → (b ≡ true → waits (rec_at i.records at) ≡ true)
    → Room k i → Room k (pick b (settle_by (rules_r t) w o at (look_of (rec_at i.records at)) i) i)
step_room t w o at true h p = settle_room t w o at _ (h refl) p
step_room t w o at false h p = p

pending_waits : {w : Waiting} → Waits w → (r : Rec) → is_pending w (look_of r) ≡ true → waits r ≡ true
pending_waits {w} h r e =
    let p = of_waiting (λ (c : ℕ). waits_for_label c ≡ true) refl refl refl h r.call (both_right (ltb 0 r.b) (w.waits r.call) e) in
    rw (p, both_left (ltb 0 r.b) (w.waits r.call) e)

resolve_room : (t : List ℕ) {w : Waiting} → Waits w → (ms : List Mark) (at n : ℕ) {k : Tally} {i : Ideal} → Room k i
    → Room k (resolve (rules_r t) w ms at n i)
unfolding resolve
resolve_room t h ms at zero p = p
resolve_room t {w} h ms at (suc n) {i = i} p =
    let r = rec_at i.records at in
    resolve_room t h ms (at + 1) n (step_room t w (w.find ms (r.b - 1)) at (is_pending w (look_of r)) (pending_waits h r) p)

-- a WHILE without end gets a note
open_note_lem : (o : Search) (r : Rec) (b : Bool) → is_while r ≡ b → length (pick b (open_note o r) []) ≤ later_note r
open_note_lem missing r true e = let c = eqb-true r.call 25 e in rw c (omega arith)
open_note_lem (found v) r true e = omega arith
open_note_lem o r false e = omega arith

open_notes_lem : (rs : List Rec) → length (open_notes rs) ≤ later_notes rs
unfolding open_notes later_notes
open_notes_lem [] = omega arith
open_notes_lem (r ∷ rs) =
    omega (arith, open_notes_lem rs, length-append (open_notes rs) (pick (is_while r) (open_note (end_from rs 0 0) r) []), open_note_lem (end_from rs 0 0) r (is_while r) refl)

clean_room : (w : ℕ) (i : Ideal) → Room (tally w 0 0 0 0) i → Bounded (1 + w) (clean_up i)
unfolding clean_up
clean_room w i p =
    let n = length i.records in
    omega (
      arith,
      length_snoc (delays n 0 (close_whiles i.records 0)) (end_rec i.line),
      delays_length n 0 (close_whiles i.records 0),
      close_length i.records 0,
      length-append i.notes (open_notes i.records),
      open_notes_lem i.records,
    )

nothing : Room (tally 0 0 0 0 0) (ideal [] [] [] 0 0)
unfolding later_notes
nothing = omega arith

-- where the rules take the lines to begin
abbrev pub starts_taken : List ℕ → List ProgramLine → ℕ → ℕ
starts_taken t ls l = get_or (bases_taken (rules_r t) t ls (first_line (rules_r t) t (ideal [] [] [] 0 0))) l 0

pub from_the_first : (t : List ℕ) (ls : List ProgramLine) (j : ℕ) → starts_taken t ls (0 + j) ≡ starts_taken t ls j
from_the_first t ls j = ap (starts_taken t ls) (omega arith)

-- Three times a form's records never exceed four times its sheet's words; there are at most two notes and one entry a word.
pub grows : (t : List ℕ) (ls : List ProgramLine)
    → Bounded (program_words ls) (close_up (rules_r t) (compile_lines (rules_r t) t ls (first_line (rules_r t) t (ideal [] [] [] 0 0))))
unfolding close_up
grows t ls =
    clean_room (lines_words ls) _ (resolve_room t restores_wait _ 0 _ (resolve_room t jumps_wait _ 0 _
    ((counts t 0).fit
    (grow_lines (counts_lines t (length ls) (starts_taken t ls)) ls (first_line (rules_r t) t (ideal [] [] [] 0 0)) (omega arith) (λ j g. from_the_first t ls j) nothing) (omega arith))))
