-- What a call answers from the lent memory once all records are in the list and it is closed up: the code's side of `sized`.
use Rattle.std.specs.Prelude.{replicate}
use Rattle.recorder.specs.Word.{pick}
use Rattle.recorder.specs.Mem.{Mem, as_word, records_in, notes_in, entries_in, notes_full, book_full}
use Rattle.rules.specs.Outcome.{Outcome, Lengths, refused}

-- answer 0: the memory as it is, and zeros in work
abbrev pub mem_accepted : Lengths → Mem → Outcome
mem_accepted L m = record {
  answer = record { refusal = 0; place = 0; records = as_word (records_in m.st); notes = notes_in m.st; entries = entries_in m.st };
  list = m.list;
  notes = m.notes;
  book = m.book;
  work = replicate L.work 0;
}

-- 10 and 11 by the flags
abbrev pub mem_sized : Lengths → Mem → Outcome
mem_sized L m = pick (notes_full m.st) (refused 10 0 L) (pick (book_full m.st) (refused 11 0 L) (mem_accepted L m))
