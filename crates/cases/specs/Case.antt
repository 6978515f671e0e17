-- What a case is: a sheet, a text and the lengths of the lent buffers, and what the Rust says of them, document 02's points put in
-- (oracle/src/points.rs).
use Rattle.std.specs.Prelude.{ℕ, List, [], replicate}
use Rattle.recorder.specs.Layout.{fill}
use Rattle.rules.specs.Outcome.{Answer, Outcome, Lengths, outcome}

-- the answer, and the words of list, notes and book in front of the zeros
pub record Said : Type 0 where
  pub answer : Answer
  pub list : List ℕ
  pub notes : List ℕ
  pub book : List ℕ

-- a refusal with its place; an acceptance with the numbers of records, notes and entries
abbrev pub refused : ℕ → ℕ → Said
refused k p = record {
  answer = record { refusal = k; place = p; records = 0; notes = 0; entries = 0 };
  list = [];
  notes = [];
  book = [];
}

abbrev pub accepted : ℕ → ℕ → ℕ → List ℕ → List ℕ → List ℕ → Said
accepted r n e l m b = record {
  answer = record { refusal = 0; place = 0; records = r; notes = n; entries = e };
  list = l;
  notes = m;
  book = b;
}

pub record Case : Type 0 where
  pub sheet : List ℕ
  pub text : List ℕ
  pub lengths : Lengths
  pub said : Said

abbrev pub case : List ℕ → List ℕ → Lengths → Said → Case
case s t L x = record { sheet = s; text = t; lengths = L; said = x }

-- what the rules give
abbrev pub by_rules : Case → Outcome
by_rules c = outcome c.sheet c.text c.lengths

-- what the Rust says, with zeros behind, and all of work zero
abbrev pub by_rust : Case → Outcome
by_rust c = record {
  answer = c.said.answer;
  list = fill c.lengths.list c.said.list;
  notes = fill c.lengths.notes c.said.notes;
  book = fill c.lengths.book c.said.book;
  work = replicate c.lengths.work 0;
}
