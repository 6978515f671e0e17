-- What compiling does to the state that it writes into, whatever that state is: CodeEmitter of compiler.rs.
use Rattle.std.specs.Prelude.{ℕ}
use Rattle.recorder.specs.declared.word.Range.{Range}

-- a state and the number of the entry that was found or made
pub record Named (S : Type 0) : Type 0 where
  pub state : S
  pub number : ℕ

-- what resolution reads of a record: its call, its line, and its last two arguments, which say what it waits for
pub record Look : Type 0 where
  pub call : ℕ
  pub line : ℕ
  pub b : ℕ
  pub c : ℕ

pub record Recorder (S : Type 0) : Type 0 where
  -- begin_line: the line that records and notes carry from here on
  pub begin_line : S → ℕ → S
  -- one record: its call, its range, three arguments
  pub emit : S → ℕ → Range → ℕ → ℕ → ℕ → S
  -- current_addr: "An address is the count of records before."
  pub count : S → ℕ
  -- a note on the current line: its class, its range, 1 error or 2 warning; and one on a line that is named
  pub note : S → ℕ → Range → ℕ → S
  pub note_at : S → ℕ → ℕ → Range → ℕ → S
  -- a note on the current line that says besides how many units of a name were lost
  pub note_lost : S → ℕ → Range → ℕ → ℕ → S
  -- make_symbol: the name of so many units from a place of the text, with its sigil's unit or 0
  pub symbol : S → ℕ → ℕ → ℕ → Named S
  -- emit_datum: start, length, quoted; and the line's first datum plus 1, 0 while it has none
  pub datum : S → ℕ → ℕ → ℕ → S
  pub first_datum : S → ℕ
  -- a byte of emit_load_bytes: start and length of its literal, its value; and the number that the next one gets
  pub byte : S → ℕ → ℕ → ℕ → S
  pub next_byte : S → ℕ
  -- patch_jump_addr on an IF's jump: argument a of the record at an address; end_def_fn's: argument c
  pub patch : S → ℕ → ℕ → S
  pub patch_end : S → ℕ → ℕ → S
  -- what stands at an address; a pending jump or RESTORE that is settled: argument a, and its label is gone;
  -- one whose label is nowhere: only its label is gone
  pub look : S → ℕ → Look
  pub settle : S → ℕ → ℕ → S
  pub drop_label : S → ℕ → S
  -- clean_up: WHILEs, delays, End
  pub clean_up : S → S
