-- The kinds of values: impl Type of compiler.rs.
use Rattle.std.specs.Prelude.{ℕ, Bool, true, false, ◌==◌}
use Rattle.recorder.specs.Word.{pick}
use Rattle.rules.specs.declared.types.«Type».{«Type» as Ty}
use Rattle.rules.specs.declared.types.«Type».TheVariants.{Integer, Real, String, Error}

-- matches: an error fits anything, numbers fit numbers, texts fit texts
abbrev pub matches_type : Ty → Ty → Bool
matches_type Error b = true
matches_type String Error = true
matches_type String String = true
matches_type String Integer = false
matches_type String Real = false
matches_type Integer Error = true
matches_type Integer String = false
matches_type Integer Integer = true
matches_type Integer Real = true
matches_type Real Error = true
matches_type Real String = false
matches_type Real Integer = true
matches_type Real Real = true

abbrev pub type_number : Ty → ℕ
type_number Integer = 0
type_number Real = 1
type_number String = 2
type_number Error = 3

-- exact_matches
abbrev pub exact_matches : Ty → Ty → Bool
exact_matches a b = type_number a == type_number b

-- sigil: the unit % or $, or 0
abbrev pub sigil_unit : Ty → ℕ
sigil_unit Integer = 37
sigil_unit Real = 0
sigil_unit String = 36
sigil_unit Error = 0

-- a name's kind by its last unit
abbrev pub sigil_type : ℕ → Ty
sigil_type u = pick (u == 37) Integer (pick (u == 36) String Real)

-- as_rvalue_type
abbrev pub rvalue_type : Ty → Ty
rvalue_type Integer = Real
rvalue_type Real = Real
rvalue_type String = String
rvalue_type Error = Error
