-- What a call answers and leaves in the lent memory, for every sheet, text and lengths: document 01's rules, whole.
use Rattle.std.specs.Prelude.{Ok, Err, ℕ, ◌/◌, List, [], length, replicate, nat_lt}
use Rattle.recorder.specs.Word.{pick}
use Rattle.recorder.specs.Ideal.{Ideal, ideal}
use Rattle.recorder.specs.Closing.{rules_r}
use Rattle.recorder.specs.Layout.{words_of, rec_words, note_words, entry_words, note_size, entry_size, most_records, fill}
use Rattle.sheet.specs.declared.form.Refusal.{Refusal}
use Rattle.sheet.specs.Check.{Checked, checked, refusal_number, refusal_place}
use Rattle.sheet.specs.Tree.{program_at}
use Rattle.rules.specs.Program.{Lines, first_line, compile_lines, close_up}

-- the answer: refusal (0 is none), its place, and the numbers of records, notes and book entries
pub record Answer : Type 0 where
  pub refusal : ℕ
  pub place : ℕ
  pub records : ℕ
  pub notes : ℕ
  pub entries : ℕ

-- the answer and the four buffers at the end
pub record Outcome : Type 0 where
  pub answer : Answer
  pub list : List ℕ
  pub notes : List ℕ
  pub book : List ℕ
  pub work : List ℕ

-- the lengths of list, notes, book and work
pub record Lengths : Type 0 where
  pub list : ℕ
  pub notes : ℕ
  pub book : ℕ
  pub work : ℕ

abbrev pub lengths : ℕ → ℕ → ℕ → ℕ → Lengths
lengths l n b w = record { list = l; notes = n; book = b; work = w }

-- "A refusal brings its number, the offending word's index for 4 to 8 ..., zero counts, and zeros in all four buffers."
abbrev pub refused : ℕ → ℕ → Lengths → Outcome
refused k p L = record {
  answer = record { refusal = k; place = p; records = 0; notes = 0; entries = 0 };
  list = replicate L.list 0;
  notes = replicate L.notes 0;
  book = replicate L.book 0;
  work = replicate L.work 0;
}

-- "Answer 0 ... brings the numbers of records, notes and book entries; unused words and all of work are zero."
abbrev pub accepted : Ideal → Lengths → Outcome
accepted i L = record {
  answer = record { refusal = 0; place = 0; records = length i.records; notes = length i.notes; entries = length i.entries };
  list = fill L.list (words_of rec_words i.records);
  notes = fill L.notes (words_of note_words i.notes);
  book = fill L.book (words_of entry_words i.entries);
  work = replicate L.work 0;
}

-- the rules' run: the lines, and closed up
unfoldable pub compiled : List ℕ → List ℕ → Lines Ideal
compiled s t = compile_lines (rules_r t) t (program_at s) (first_line (rules_r t) t (ideal [] [] [] 0 0))

unfoldable pub finished : List ℕ → List ℕ → Ideal
finished s t = close_up (rules_r t) (compiled s t)

-- 9: "List below five words a record, or more than 65,535 records." 10: "Notes below four words a note."
-- 11: "Book below four words an entry." "The lowest number decides".
unfoldable pub sized : Ideal → Lengths → Outcome
sized i L =
    pick (nat_lt (most_records L.list) (length i.records)) (refused 9 0 L)
    (pick (nat_lt (L.notes / note_size) (length i.notes)) (refused 10 0 L)
    (pick (nat_lt (L.book / entry_size) (length i.entries)) (refused 11 0 L)
    (accepted i L)))

-- 1 to 8
abbrev pub refused_by : Refusal → Lengths → Outcome
refused_by r L = refused (refusal_number r) (refusal_place r) L

abbrev pub outcome_by : Checked → List ℕ → List ℕ → Lengths → Outcome
outcome_by (Ok u) s t L = sized (finished s t) L
outcome_by (Err r) s t L = refused_by r L

unfoldable pub outcome : List ℕ → List ℕ → Lengths → Outcome
outcome s t L = outcome_by (checked s t L.work) s t L
