-- What is left out of a name: "the number of units left out, from the first blank up to a sigil or the end" (document 02). Of a name as
-- the form takes it, said of the units themselves.
use Rattle.std.specs.Prelude.{◌≡◌, ◌≢◌, List, ℕ, ◌+◌, ◌<◌, slice_index}
use Rattle.recorder.specs.declared.word.Range.{Range}
use Rattle.sheet.specs.declared.form.Line.{Line}
use Rattle.sheet.specs.Tree.{ProgramLine}
use Rattle.rules.specs.Name.{read_name}
use Rattle.items.specs.Items.{Items}
use Rattle.items.specs.Standing.{nothing}

-- no unit that is kept is a blank, and where units are left out the first of them is one
pub record CutAtBlank (t : List ℕ) (line : Line) (r : Range) : Type 0 where
  pub kept : (j : ℕ) → j < (read_name t line.base r).name.len → slice_index t (line.base + r.start + j) ≢ 32
  pub blank : 0 < (read_name t line.base r).lost → slice_index t (line.base + r.start + (read_name t line.base r).name.len) ≡ 32

-- the same of every name of a program
abbrev pub Names : (Line → Range → Type 0) → List ProgramLine → Type 0
Names P ls = Items (λ line. record nothing { name = P line }) 0 ls
