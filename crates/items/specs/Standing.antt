-- What stands in the sheet as words that the form checked, uncut: of every range, name, text, datum, number and label of a tree.
use Rattle.std.specs.Prelude.{◌≡◌, List, true, ℕ, ◌+◌, ◌-◌, ◌*◌, ◌≤◌, ◌<◌, length}
use Rattle.recorder.specs.Numbers.{word_size, line_size, label_size, half_size, too_large, value, IsNumber}
use Rattle.recorder.specs.Calls.{pack, unpack}
use Rattle.recorder.specs.Word.{kind_at, payload_at, next, range_at}
use Rattle.recorder.specs.declared.word.Range.{Range}
use Rattle.sheet.specs.declared.form.Kind.TheVariants.{Range as RangeWord, Label as LabelWord, Flag as FlagWord}
use Rattle.sheet.specs.declared.form.Line.{Line}
use Rattle.sheet.specs.Table.{kind_number}
use Rattle.sheet.specs.Form.{is_name}
use Rattle.sheet.specs.Tree.{ProgramLine}
use Rattle.bounds.specs.Uncut.{UncutLiteral}
use Rattle.items.specs.Items.{Facts, Items}

-- "01 range: start times 4,096 plus end, within the line." So it is within the text, too, whose places from base on are the line's.
pub record RangeStands (s t : List ℕ) (line : Line) (r : Range) : Type 0 where
  pub at : ℕ
  pub inside : at < length s
  pub kind : kind_at s at ≡ kind_number RangeWord
  pub same : r ≡ range_at s at
  pub rises : r.start ≤ r.end
  pub within : r.end ≤ line.len
  pub short : r.end < line_size
  pub in_text : line.base + r.end ≤ length t

-- "A name is an ASCII letter, then letters, digits or blanks, then at most one % or $; its last unit is no blank."
pub record NameStands (s t : List ℕ) (line : Line) (r : Range) : Type 0 where
  pub range : RangeStands s t line r
  pub well_formed : is_name t (line.base + r.start) (r.end - r.start) ≡ true

-- no "string, prompt or quoted datum range without a unit"
pub record TextStands (s t : List ℕ) (line : Line) (r : Range) : Type 0 where
  pub range : RangeStands s t line r
  pub unit : r.start < r.end

-- a datum is its range and, behind that, whether it is quoted: "05 yes or no, 1 or 0"
pub record DatumStands (s t : List ℕ) (line : Line) (r : Range) (quoted : ℕ) : Type 0 where
  pub range : RangeStands s t line r
  pub kind : kind_at s (next s range.at) ≡ kind_number FlagWord
  pub same : quoted ≡ payload_at s (next s range.at)
  pub yes_or_no : quoted < 2
  pub unit : quoted ≡ 1 → r.start < r.end

-- e and m are those of a literal of the sheet, uncut
pub record Stands (s : List ℕ) (e m : ℕ) : Type 0 where
  pub at : ℕ
  pub literal : UncutLiteral s at
  pub exponent : e ≡ payload_at s at
  pub mantissa : m ≡ payload_at s (next s at) * half_size + payload_at s (next s (next s at))

-- the value of a literal is a number, or "256 for too large"
pub data IsLiteral : ℕ → ℕ → Type 0 where
  number_literal : {e m : ℕ} → IsNumber (value e m) → IsLiteral e m
  too_large_literal : IsLiteral too_large 0

-- a number literal is its range and, behind that, its value
pub record NumberStands (s t : List ℕ) (line : Line) (r : Range) (e m : ℕ) : Type 0 where
  pub range : RangeStands s t line r
  pub value : Stands s e m
  pub behind : value.at ≡ next s range.at

-- "03 label, 0 to 65,535": reading it modulo 65,536 cuts nothing
pub record LabelStands (s : List ℕ) (l : ℕ) : Type 0 where
  pub at : ℕ
  pub inside : at < length s
  pub kind : kind_at s at ≡ kind_number LabelWord
  pub same : l ≡ payload_at s at
  pub short : l < label_size

-- of the items of one line
abbrev pub Standing : List ℕ → List ℕ → Line → Facts
Standing s t line = record {
  range = RangeStands s t line;
  name = NameStands s t line;
  text = TextStands s t line;
  datum = DatumStands s t line;
  number = NumberStands s t line;
  label = LabelStands s;
}

-- a range that was packed into one number, as a pending jump or RESTORE keeps it: the number is a word, and the range is given back
pub record Packed (r : Range) : Type 0 where
  pub word : pack r < word_size
  pub back : unpack (pack r) ≡ r

-- of one sort of item alone: of every literal's e and m, of every label, of every range
abbrev pub nothing : Facts
nothing = record {
  range = λ r. Unit {0};
  name = λ r. Unit {0};
  text = λ r. Unit {0};
  datum = λ r q. Unit {0};
  number = λ r e m. Unit {0};
  label = λ l. Unit {0};
}

abbrev pub of_literals : (ℕ → ℕ → Type 0) → Facts
of_literals P = record nothing { number = λ r e m. P e m }

abbrev pub of_labels : (ℕ → Type 0) → Facts
of_labels P = record nothing { label = P }

abbrev pub of_ranges : (Range → Type 0) → Facts
of_ranges P = record nothing { range = P; name = P; text = P; datum = λ r q. P r; number = λ r e m. P r }

-- the same of a program
abbrev pub Literals : (ℕ → ℕ → Type 0) → List ProgramLine → Type 0
Literals P ls = Items (λ line. of_literals P) 0 ls

abbrev pub Labels : (ℕ → Type 0) → List ProgramLine → Type 0
Labels P ls = Items (λ line. of_labels P) 0 ls

abbrev pub Ranges : (Range → Type 0) → List ProgramLine → Type 0
Ranges P ls = Items (λ line. of_ranges P) 0 ls
