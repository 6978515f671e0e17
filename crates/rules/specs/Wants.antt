-- The code's names for signatures, and for the ways in which a list of arguments is checked.
use Rattle.std.specs.Prelude.{[], ◌∷◌, ℕ}
use Rattle.rules.specs.declared.types.«Type».{«Type» as Ty}
use Rattle.rules.specs.declared.types.«Type».TheVariants.{Real, String}
use Rattle.rules.specs.declared.tables.Sig.{Sig}
use Rattle.rules.specs.declared.tables.Sig.TheVariants.{RealOfReal, RealOfText, TextOfReal, TextPart, Mid, Point}
use Rattle.rules.specs.declared.tables.Wants.{Wants}
use Rattle.rules.specs.declared.tables.Wants.TheVariants.{Func, Every, Draw, Operands}
use Rattle.rules.specs.Tables.{Signature, signature, real_of_real, real_of_text, text_of_real, text_part, signature_of, wanted, every_real, drawn, operand}

-- the code's names for the six signatures, and for the four ways in which a list of arguments is checked
abbrev pub signature_for : Sig → Signature
signature_for RealOfReal = real_of_real
signature_for RealOfText = real_of_text
signature_for TextOfReal = text_of_real
signature_for TextPart = text_part
signature_for Mid = signature 2 (String ∷ Real ∷ Real ∷ []) String
signature_for Point = signature 2 (Real ∷ Real ∷ []) Real

abbrev pub wanted_by : Wants → ℕ → Ty
wanted_by (Func k) = wanted (signature_of k).args
wanted_by Every = every_real
wanted_by (Draw k) = drawn k
wanted_by (Operands k) = operand k
