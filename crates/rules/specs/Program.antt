-- Compiling a program, over any recorder: compile_prog, resolve_labels and resolve_datum_indices of compiler.rs.
use Rattle.std.specs.Prelude.{ℕ, zero, suc, ◌+◌, ◌-◌, Bool, List, [], ◌∷◌, ◌++◌, ◌==◌, nat_lt}
use Rattle.recorder.specs.Word.{pick, both, either}
use Rattle.recorder.specs.Recorder.{Recorder, Look}
use Rattle.recorder.specs.Calls.{goto_call, gosub_call, restore_call, error_note, warning_note, labels_not_rising, target_missing, restore_target_missing, unpack}
use Rattle.recorder.specs.Ideal.{Search, missing, found}
use Rattle.recorder.specs.Marks.{Mark, mark, addr_of, data_of}
use Rattle.sheet.specs.Tree.{Opt, absent, given, Target, ProgramLine}
use Rattle.rules.specs.Name.{text_place}
use Rattle.rules.specs.Expr.{add_error}
use Rattle.rules.specs.Stmt.{compile_stmts}

-- how far the lines are compiled: the state, the labelled lines so far, the last label plus 1 (0 before the first), where
-- the next line begins in the text, and its index
pub record Lines (S : Type 0) : Type 0 where
  pub state : S
  pub marks : List Mark
  pub last : ℕ
  pub base : ℕ
  pub line : ℕ

abbrev pub last_label : ℕ → Opt Target → ℕ
last_label last absent = last
last_label last (given l) = l.label + 1

abbrev pub marked : Opt Target → ℕ → ℕ → List Mark → List Mark
marked absent addr first ms = ms
marked (given l) addr first ms = ms ++ (mark l.label addr first ∷ [])

-- "After the lines: jumps in order of pending, then RESTOREs": which calls wait, what they get for a label, and class and severity of
-- the note on a label that is nowhere
pub record Waiting : Type 0 where
  pub waits : ℕ → Bool
  pub find : List Mark → ℕ → Search
  pub class : ℕ
  pub severity : ℕ

-- a jump waits for its line's address: "2 target missing"
abbrev pub jumps : Waiting
jumps = record { waits = λ call. either (call == goto_call) (call == gosub_call); find = addr_of; class = target_missing; severity = error_note }

-- a RESTORE waits for its DATA index: "3 RESTORE target missing (warning)"
abbrev pub restores : Waiting
restores = record { waits = λ call. call == restore_call; find = data_of; class = restore_target_missing; severity = warning_note }

-- A pending record keeps its label plus 1 in b.
abbrev pub is_pending : Waiting → Look → Bool
is_pending w q = both (nat_lt 0 q.b) (w.waits q.call)

module _ {S : Type 0} (R : Recorder S) (t : List ℕ) where
  -- "1 labels not rising": compared with the last label, a bad one too
  abbrev pub label_note : ℕ → ℕ → Opt Target → S → S
  label_note base last absent s = s
  label_note base last (given l) s = pick (nat_lt l.label last) (add_error R t base labels_not_rising l.range s) s

  -- one line: begin_line, its label, its statements
  abbrev pub line_begun : Lines S → ProgramLine → S
  line_begun c l = label_note c.base c.last l.label (R.begin_line c.state c.line)

  abbrev pub line_done : Lines S → ProgramLine → S → Lines S
  line_done c l s = record {
    state = s;
    marks = marked l.label (R.count c.state) (R.first_datum s) c.marks;
    last = last_label c.last l.label;
    base = text_place c.base l.length;
    line = c.line + 1;
  }

  unfoldable pub compile_line : ProgramLine → Lines S → Lines S
  compile_line l c = line_done c l (compile_stmts R t c.base l.stmts (line_begun c l))

  unfoldable pub compile_lines : List ProgramLine → Lines S → Lines S
  compile_lines [] c = c
  compile_lines (l ∷ ls) c = compile_lines ls (compile_line l c)

  abbrev pub first_line : S → Lines S
  first_line s = record { state = s; marks = []; last = 0; base = 0; line = 0 }

module _ {S : Type 0} (R : Recorder S) where
  -- found: the record gets it; missing: it waits no more, and its own line gets the note
  abbrev pub settle_by : Waiting → Search → ℕ → Look → S → S
  settle_by w (found v) k q s = R.settle s k v
  settle_by w missing k q s = R.note_at (R.drop_label s k) q.line w.class (unpack q.c) w.severity

  abbrev pub settle_waiting : Waiting → List Mark → ℕ → Look → S → S
  settle_waiting w ms k q s = pick (is_pending w q) (settle_by w (w.find ms (q.b - 1)) k q s) s

  -- the n records from the address k on
  unfoldable pub resolve : Waiting → List Mark → ℕ → ℕ → S → S
  resolve w ms k zero s = s
  resolve w ms k (suc n) s = resolve w ms (k + 1) n (settle_waiting w ms k (R.look s k) s)

  abbrev pub resolve_labels : List Mark → ℕ → ℕ → S → S
  resolve_labels = resolve jumps

  abbrev pub resolve_datum_indices : List Mark → ℕ → ℕ → S → S
  resolve_datum_indices = resolve restores

  -- "Closing up": jumps, RESTOREs, then WHILEs, delays and End
  unfoldable pub close_up : Lines S → S
  close_up c =
      let u = resolve_labels c.marks 0 (R.count c.state) c.state in
      R.clean_up (resolve_datum_indices c.marks 0 (R.count u) u)
