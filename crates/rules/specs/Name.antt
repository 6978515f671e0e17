-- Reading a name from its units: the first half of compile_sym of compiler.rs.
use Rattle.std.specs.Prelude.{ℕ, zero, suc, ◌+◌, ◌-◌, ◌%◌, Bool, List, ◌==◌, nat_lt, slice_index}
use Rattle.recorder.specs.Numbers.{word_size}
use Rattle.recorder.specs.Word.{pick, either, next}
use Rattle.recorder.specs.declared.word.Range.{Range}
use Rattle.recorder.specs.declared.codegen.Name.{Name as Units}
use Rattle.rules.specs.declared.types.«Type».{«Type» as Ty}
use Rattle.rules.specs.declared.name.Name.{Name}
use Rattle.rules.specs.Types.{sigil_unit, sigil_type}

-- "Starts are in the whole text": so many units behind where the line begins, as a word
abbrev pub text_place : ℕ → ℕ → ℕ
text_place base n = (base + n) % word_size

-- a blank cuts a name, a sigil ends it
abbrev pub ends_name : ℕ → Bool
ends_name u = either (u == 32) (either (u == 36) (u == 37))

-- of the n units from `at`, those before the first blank or sigil
unfoldable pub name_length : List ℕ → ℕ → ℕ → ℕ
name_length t at zero = zero
name_length t at (suc n) = pick (ends_name (slice_index t at)) zero (suc (name_length t (next t at) n))

abbrev pub sigil_count : ℕ → ℕ
sigil_count u = pick (nat_lt 0 u) 1 0

-- A name is cut at its first blank, its kind is told by its last unit, and its sigil is kept; what is left out stands from the
-- first blank up to the sigil or the end. The line's units begin at `base`.
abbrev pub units_of : List ℕ → ℕ → ℕ → Ty → Units
units_of t at n ty = record { start = at; len = name_length t at n; sigil = sigil_unit ty }

abbrev pub name_of : List ℕ → ℕ → ℕ → Ty → Name
name_of t at n ty = record {
  name = units_of t at n ty;
  ty = ty;
  lost = n - name_length t at n - sigil_count (sigil_unit ty);
}

unfoldable pub read_name : List ℕ → ℕ → Range → Name
read_name t base r = name_of t (text_place base r.start) (r.end - r.start) (sigil_type (slice_index t (text_place base r.end - 1)))
