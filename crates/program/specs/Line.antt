-- The contracts' shapes for a line and for all lines: the work that is left, and what is compiled.
use Rattle.std.specs.Prelude.{◌≡◌, List, ℕ, ◌+◌, ◌*◌, ◌<◌, length, replicate, Option, None, Some}
use Rattle.recorder.specs.declared.label.Label.{Label}
use Rattle.recorder.specs.Numbers.{sheet_limit}
use Rattle.recorder.specs.Word.{payload_at}
use Rattle.recorder.specs.Marks.{Mark}
use Rattle.labels.specs.MarkWords.{mark_list, mark_count}
use Rattle.labels.specs.MarksIn.{MarksIn}
use Rattle.recorder.specs.Mem.{Mem, mem_r}
use Rattle.sheet.specs.Tree.{Opt, absent, given, Target, line_at, behind_line, program_at}
use Rattle.rules.specs.Program.{marked, compile_line, compile_lines, first_line}
use Rattle.rules.specs.Program
use Rattle.program.specs.declared.line.Lines.{Lines}

-- what a line does to the work, and to the count there
abbrev pub line_work : Opt Target → ℕ → ℕ → List ℕ → ℕ → List ℕ
line_work absent addr first w n = w
line_work (given l) addr first w n = mark_list w n l.label addr first

abbrev pub line_count : Opt Target → List ℕ → ℕ → ℕ
line_count absent w n = n
line_count (given l) w n = mark_count w n

-- the last label plus 1; 0 before the first
abbrev pub label_word : Option Label → ℕ
label_word None = 0
label_word (Some l) = l.0 + 1

-- the rules' account of what the code's says, with a memory and the labelled lines so far
abbrev pub lines_of : Lines → ℕ → Mem → List Mark → Program.Lines Mem
lines_of c line m ms = record { state = m; marks = ms; last = label_word c.last; base = c.base; line = line }

-- the line at c's place
pub record CompiledLine (s t : List ℕ) (line : ℕ) (c d : Lines) (m m' : Mem) (w w' : List ℕ) : Type 0 where
  pub place : d.at ≡ behind_line s c.at
  pub lines : (ms : List Mark) → lines_of d (line + 1) m' (marked (line_at s c.at).label ((mem_r t).count m) ((mem_r t).first_datum m') ms) ≡ compile_line (mem_r t) t (line_at s c.at) (lines_of c line m ms)
  pub words : w' ≡ line_work (line_at s c.at).label ((mem_r t).count m) ((mem_r t).first_datum m') w c.marks
  pub count : d.marks ≡ line_count (line_at s c.at).label w c.marks

-- all lines; the labelled ones are in the work if it was zeros, with three words for each line and one more, and the lines' number has
-- 16 bits
pub record Programmed (s t : List ℕ) (m m' : Mem) (w w' : List ℕ) (n : ℕ) : Type 0 where
  pub state : m' ≡ (compile_lines (mem_r t) t (program_at s) (first_line (mem_r t) t m)).state
  pub marks : w ≡ replicate (length w) 0 → 3 * payload_at s 0 < length w → payload_at s 0 < sheet_limit → MarksIn w' n (compile_lines (mem_r t) t (program_at s) (first_line (mem_r t) t m)).marks
