-- Numbers that are never 0: the kinds of words, and the refusals, of which the form decides those up to 8.
use Rattle.std.proofs.Common.{ℕ, List, Bool, true, false, ◌<◌, ◌≤◌, length, arith}
use lib.Dec.{ltb}
use Rattle.std.specs.Prelude.{Ok, Err}
use Rattle.recorder.specs.Word.{pick}
use Rattle.sheet.specs.declared.form.Kind.{Kind}
use Rattle.sheet.specs.declared.form.Kind.TheVariants.{Range as RangeWord, Absent as AbsentWord, Label as LabelWord, Count as CountWord, Flag as FlagWord, Mode as ModeWord, Source as SourceWord, Element as ElementWord, Place as PlaceWord, Exponent as ExponentWord, Mantissa as MantissaWord, Program as ProgramWord, Line as LineWord, Stmt as StmtWord, Expr as ExprWord}
use Rattle.sheet.specs.declared.form.Offence.{Offence}
use Rattle.sheet.specs.declared.form.Offence.TheVariants.{BadWord, TooDeep, BadLength, BadRange, Fseek}
use Rattle.sheet.specs.declared.form.Refusal.{Refusal}
use Rattle.sheet.specs.declared.form.Refusal.TheVariants.{TooLong, Surrogate, WorkTooShort, Offends, ListTooShort, NotesTooShort, BookTooShort}
use Rattle.sheet.specs.Table.{kind_number}
use Rattle.sheet.specs.Walk.{Walk}
use Rattle.sheet.specs.Form.{sheet_form}
use Rattle.sheet.specs.Check.{is_too_long, has_surrogate, form_checked, checked, offence_number, refusal_number}
use Rattle.sheet.specs.CheckAnswer.{answer_number}

pub kind_some : (k : Kind) → 0 < kind_number k
kind_some RangeWord = omega arith
kind_some AbsentWord = omega arith
kind_some LabelWord = omega arith
kind_some CountWord = omega arith
kind_some FlagWord = omega arith
kind_some ModeWord = omega arith
kind_some SourceWord = omega arith
kind_some ElementWord = omega arith
kind_some PlaceWord = omega arith
kind_some ExponentWord = omega arith
kind_some MantissaWord = omega arith
kind_some ProgramWord = omega arith
kind_some LineWord = omega arith
kind_some StmtWord = omega arith
kind_some ExprWord = omega arith

pub refusal_some : (r : Refusal) → 0 < refusal_number r
refusal_some TooLong = omega arith
refusal_some Surrogate = omega arith
refusal_some WorkTooShort = omega arith
refusal_some (Offends (BadWord p)) = omega arith
refusal_some (Offends (TooDeep p)) = omega arith
refusal_some (Offends (BadLength p)) = omega arith
refusal_some (Offends (BadRange p)) = omega arith
refusal_some (Offends (Fseek p)) = omega arith
refusal_some ListTooShort = omega arith
refusal_some NotesTooShort = omega arith
refusal_some BookTooShort = omega arith

offence_low : (o : Offence) → offence_number o ≤ 8
offence_low (BadWord p) = omega arith
offence_low (TooDeep p) = omega arith
offence_low (BadLength p) = omega arith
offence_low (BadRange p) = omega arith
offence_low (Fseek p) = omega arith

form_low : (w : Walk) → answer_number (form_checked w) ≤ 8
form_low (Ok p) = omega arith
form_low (Err o) = offence_low o

pub checked_low : (s t : List ℕ) (work : ℕ) → answer_number (checked s t work) ≤ 8
unfolding checked
checked_low s t work = go (is_too_long s t) (has_surrogate t) (ltb work (length s))
  where
    go : (a b d : Bool) → answer_number (pick a (Err TooLong) (pick b (Err Surrogate) (pick d (Err WorkTooShort) (form_checked (sheet_form s t))))) ≤ 8
    go true b d = omega arith
    go false true d = omega arith
    go false false true = omega arith
    go false false false = form_low (sheet_form s t)

pub refusal_low : (r : Refusal) → refusal_number r ≤ 11
refusal_low TooLong = omega arith
refusal_low Surrogate = omega arith
refusal_low WorkTooShort = omega arith
refusal_low (Offends o) = omega (arith, offence_low o)
refusal_low ListTooShort = omega arith
refusal_low NotesTooShort = omega arith
refusal_low BookTooShort = omega arith
