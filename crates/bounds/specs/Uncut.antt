-- What is cut with `%` so that every function is total, stated without the cut: where lines begin in the text, and a literal's m.
use Rattle.std.specs.Prelude.{◌≡◌, List, [], ◌∷◌, ℕ, ◌+◌, ◌*◌, ◌≤◌, ◌<◌, length}
use Rattle.recorder.specs.Numbers.{line_size, half_size}
use Rattle.recorder.specs.Word.{kind_at, payload_at, next}
use Rattle.recorder.specs.Recorder.{Recorder}
use Rattle.sheet.specs.declared.form.Kind.TheVariants.{Exponent as ExponentWord, Mantissa as MantissaWord}
use Rattle.sheet.specs.Table.{kind_number}
use Rattle.sheet.specs.Tree.{ProgramLine, mantissa_at}
use Rattle.rules.specs.Name.{text_place}
use Rattle.rules.specs.Program.{Lines, compile_line}

-- where the lines begin: each behind those before it, by plain sums of their lengths
unfoldable pub line_starts : ℕ → List ProgramLine → List ℕ
line_starts b [] = []
line_starts b (l ∷ ls) = b ∷ line_starts (b + l.length) ls

-- where the rules take the lines to begin: the base with which `compile_lines` compiles each
unfoldable pub bases_taken : {S : Type 0} → Recorder S → List ℕ → List ProgramLine → Lines S → List ℕ
bases_taken R t [] c = []
bases_taken R t (l ∷ ls) c = c.base ∷ bases_taken R t ls (compile_line R t l c)

-- a line that begins at b and has `len` units stands within the text, and no place from its beginning up to 4,096 units on is
-- cut. The rules ask for the places of the line's length, of a range's start and end, and of its start + 1.
pub record UncutLine (t : List ℕ) (b len : ℕ) : Type 0 where
  pub short : len < line_size
  pub within : b + len ≤ length t
  pub exact : (n : ℕ) → n ≤ line_size → text_place b n ≡ b + n

-- so of every line, the first of which begins at b
abbrev pub UncutLines : List ℕ → ℕ → List ProgramLine → Type 0
UncutLines t b [] = Unit {0}
UncutLines t b (l ∷ ls) = UncutLine t b l.length × UncutLines t (b + l.length) ls

-- a literal whose 0A word, with e, stands at `at`: behind it two 0B words of 16 bits each, from which m is read uncut
pub record UncutLiteral (s : List ℕ) (at : ℕ) : Type 0 where
  pub kinds : (kind_at s at ≡ kind_number ExponentWord) × (kind_at s (next s at) ≡ kind_number MantissaWord)
      × (kind_at s (next s (next s at)) ≡ kind_number MantissaWord)
  pub high : payload_at s (next s at) < half_size
  pub low : payload_at s (next s (next s at)) < half_size
  pub exact : mantissa_at s (next s at) ≡ payload_at s (next s at) * half_size + payload_at s (next s (next s at))
