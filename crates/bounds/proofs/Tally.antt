-- Tallies of words, which bound the records, notes and entries that are made, and the recorders whose operations are counted by
-- them, or keep a fact of all that was made.
use mathlib.Core.Path.{◌≡◌}
use mathlib.Core.Bool.{Bool, true, false}
use Prim.Native.Nat.{ℕ, zero, suc, ◌+◌, ◌*◌, ◌≤◌, ◌<◌}
use lib.Dec.{eqb, ltb}
use mathlib.Core.List.{List}
use native.Mathlib.Omega.{arith}
use Rattle.recorder.specs.Word.{either}
use Rattle.recorder.specs.declared.word.Range.{Range}
use Rattle.recorder.specs.Recorder.{Recorder}
use Rattle.recorder.specs.Calls.{Awaited, label_word, range_number, while_call, emit_while, begin_def_fn, error_note, warning_note, blank_in_name}
use Rattle.sheet.specs.Tree.{Expr, ident, string_lit, number_lit, sys_func_call, user_func_call, binary, unary, index, inkey, error, Exprs, none, more, count}
use Rattle.rules.specs.Name.{read_name}
use Rattle.bounds.specs.Size.{expr_words, exprs_words}
use Rattle.bounds.specs.Finished.{waits_for_label}

-- So many words were read, so many expressions among them left a value, and so many records, notes and entries were made besides.
-- That allows 4 words + 3 records - 5 values for three times the records, 2 words + notes - 3 values for the notes, and
-- words + entries - values for the entries.
pub record Tally : Type 0 where
  pub words : ℕ
  pub values : ℕ
  pub records : ℕ
  pub notes : ℕ
  pub entries : ℕ

abbrev pub tally : ℕ → ℕ → ℕ → ℕ → ℕ → Tally
tally w v r n b = record { words = w; values = v; records = r; notes = n; entries = b }

-- so many records, notes and entries more: numerals, added one by one so that their sums compute
abbrev pub plus : ℕ → ℕ → ℕ
plus zero m = m
plus (suc n) m = suc (plus n m)

pub plus_is : (n m : ℕ) → plus n m ≡ n + m
plus_is zero m = omega arith
plus_is (suc n) m = omega (arith, plus_is n m)

abbrev pub makes : ℕ → ℕ → ℕ → Tally → Tally
makes r n b k = tally k.words k.values (plus r k.records) (plus n k.notes) (plus b k.entries)

-- so many words more; an expression's words and its value; arguments, each of which may have a note
abbrev pub reads : ℕ → Tally → Tally
reads w k = tally (k.words + w) k.values k.records k.notes k.entries

abbrev pub valued : Expr → Tally → Tally
valued e k = tally (k.words + expr_words e) (k.values + 1) k.records k.notes k.entries

abbrev pub args : Exprs → Tally → Tally
args es k = tally (k.words + exprs_words es) (k.values + count es) k.records (k.notes + count es) k.entries

-- as many notes, or entries, as there are arguments
abbrev pub noted : Exprs → Tally → Tally
noted es k = tally k.words k.values k.records (k.notes + count es) k.entries

abbrev pub entered : Exprs → Tally → Tally
entered es k = tally k.words k.values k.records k.notes (k.entries + count es)

-- the second tally allows at least as much
pub record AtMost (k l : Tally) : Type 0 where
  pub records : 4 * k.words + 3 * k.records + 5 * l.values ≤ 4 * l.words + 3 * l.records + 5 * k.values
  pub notes : 2 * k.words + k.notes + 3 * l.values ≤ 2 * l.words + l.notes + 3 * k.values
  pub entries : k.words + k.entries + l.values ≤ l.words + l.entries + k.values

-- the calls for which closing up may add a note: those that wait for a label, and WHILE
abbrev pub note_later : ℕ → Bool
note_later c = either (waits_for_label c) (eqb c while_call)

-- P k s: what s holds is within the tally k, or a fact of all that s holds. The line's units begin at `base`.
pub record Counts {S : Type 0} (R : Recorder S) (t : List ℕ) (base : ℕ) (P : Tally → S → Type 0) : Type 0 where
  pub emit : {k : Tally} {s : S} {c : ℕ} {r : Range} {x y z : ℕ} → note_later c ≡ false → P k s → P (makes 1 0 0 k) (R.emit s c r x y z)
  -- a jump or a RESTORE, with what it waits for; a WHILE
  pub emit_waiting : {k : Tally} {s : S} {c : ℕ} {r : Range} {x : ℕ} (w : Awaited) → P k s → P (makes 1 1 0 k) (R.emit s c r x (label_word w) (range_number w))
  pub emit_while : {k : Tally} {s : S} {r : Range} {x : ℕ} → P k s → P (makes 1 1 0 k) (emit_while (R.emit s) x r)
  pub error : {k : Tally} {s : S} {c : ℕ} {r : Range} → eqb c blank_in_name ≡ false → P k s → P (makes 0 1 0 k) (R.note s c r error_note)
  pub warning : {k : Tally} {s : S} {c : ℕ} {r : Range} → eqb c blank_in_name ≡ false → P k s → P (makes 0 1 0 k) (R.note s c r warning_note)
  -- the warning on a name of which units are lost
  pub blank : {k : Tally} {s : S} (r : Range) → ltb 0 (read_name t base r).lost ≡ true → P k s
      → P (makes 0 1 0 k) (R.note_lost s blank_in_name r warning_note (read_name t base r).lost)
  pub symbol : {k : Tally} {s : S} {x n g : ℕ} → P k s → P (makes 0 0 1 k) (R.symbol s x n g).state
  pub datum : {k : Tally} {s : S} {x n q : ℕ} → P k s → P (makes 0 0 1 k) (R.datum s x n q)
  pub byte : {k : Tally} {s : S} {x n v : ℕ} → P k s → P (makes 0 0 1 k) (R.byte s x n v)
  pub patch : {k : Tally} {s : S} {a v : ℕ} → P k s → P k (R.patch s a v)
  pub fit : {k l : Tally} {s : S} → P k s → AtMost k l → P l s

-- So of a program of n lines, of which each begins where `starts` says: P between them, W b in one that begins at b. While a function's
-- body is made, D b a k s says also that the function's call 26 stands at the address a.
pub record CountsLines {S : Type 0} (R : Recorder S) (t : List ℕ) (n : ℕ) (starts : ℕ → ℕ) (P : Tally → S → Type 0) (W : ℕ → Tally → S → Type 0) (D : ℕ → ℕ → Tally → S → Type 0) : Type 0 where
  pub between : {k l : Tally} {s : S} → P k s → AtMost k l → P l s
  pub counts : (b : ℕ) → Counts R t b (W b)
  pub body : (b a : ℕ) → Counts R t b (D b a)
  pub begin_def : {b : ℕ} {k : Tally} {s : S} {r : Range} {x y : ℕ} → W b k s → D b (R.count s) (makes 1 0 0 k) (begin_def_fn (R.emit s) x y r)
  pub end_def : {b : ℕ} {k : Tally} {s : S} {a v : ℕ} → D b a k s → W b k (R.patch_end s a v)
  pub begin_line : {k : Tally} {s : S} {l : ℕ} → l < n → P k s → W (starts l) k (R.begin_line s l)
  pub end_line : {b : ℕ} {k : Tally} {s : S} → W b k s → P k s

pub two_words : (e : Expr) → 2 ≤ expr_words e
unfolding expr_words
two_words (ident r) = omega arith
two_words (string_lit r) = omega arith
two_words (number_lit r e m) = omega arith
two_words (sys_func_call r fr k es) = omega arith
two_words (user_func_call r f e) = omega arith
two_words (binary r a o k b) = omega arith
two_words (unary r k e) = omega arith
two_words (index r n es) = omega arith
two_words (inkey r) = omega arith
two_words (error r) = omega arith

pub count_words : (es : Exprs) → count es ≤ exprs_words es
unfolding count exprs_words
count_words none = omega arith
count_words (more e es) = omega (arith, two_words e, count_words es)
