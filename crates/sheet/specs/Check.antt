-- Refusals 1 to 8 of a whole input: which one decides, and its place.
use Rattle.std.specs.Prelude.{Result, Ok, Err, List, [], ◌∷◌, Bool, false, ℕ, ltb, length}
use Rattle.recorder.specs.Numbers.{sheet_limit}
use Rattle.recorder.specs.Word.{pick, either}
use Rattle.sheet.specs.declared.form.Offence.{Offence}
use Rattle.sheet.specs.declared.form.Offence.TheVariants.{BadWord, TooDeep, BadLength, BadRange, Fseek}
use Rattle.sheet.specs.Walk.{Walk}
use Rattle.sheet.specs.declared.form.Refusal.{Refusal}
use Rattle.sheet.specs.declared.form.Refusal.TheVariants.{TooLong, Surrogate, WorkTooShort, Offends, ListTooShort, NotesTooShort, BookTooShort}
use Rattle.sheet.specs.Form.{between, sheet_form}

-- 2: "A text unit from hexadecimal D800 to DFFF."
unfoldable pub has_surrogate : List ℕ → Bool
has_surrogate [] = false
has_surrogate (u ∷ us) = either (between 55296 u 57343) (has_surrogate us)

-- 1: "Sheet above 65,536 words or text above 65,536 units."
abbrev pub is_too_long : List ℕ → List ℕ → Bool
is_too_long s t = either (ltb sheet_limit (length s)) (ltb sheet_limit (length t))

-- none of the refusals 1 to 8, or the one that decides
abbrev pub Checked : Type 0
Checked = Result Unit Refusal

abbrev pub Accepted : Checked
Accepted = Ok tt

abbrev pub form_checked : Walk → Checked
form_checked (Ok p) = Accepted
form_checked (Err o) = Err (Offends o)

-- "The lowest number decides, but among 4 to 8 first the earliest offending place."
-- 3: "Work shorter than the sheet."
unfoldable pub checked : List ℕ → List ℕ → ℕ → Checked
checked s t work =
    pick (is_too_long s t) (Err TooLong)
    (pick (has_surrogate t) (Err Surrogate)
    (pick (ltb work (length s)) (Err WorkTooShort)
    (form_checked (sheet_form s t))))

-- document 01's number and place for each refusal
abbrev pub offence_number : Offence → ℕ
offence_number (BadWord p) = 4
offence_number (TooDeep p) = 5
offence_number (BadLength p) = 6
offence_number (BadRange p) = 7
offence_number (Fseek p) = 8

abbrev pub offence_place : Offence → ℕ
offence_place (BadWord p) = p
offence_place (TooDeep p) = p
offence_place (BadLength p) = p
offence_place (BadRange p) = p
offence_place (Fseek p) = p

-- 9 to 11 are lists, notes and books that are too short
abbrev pub refusal_number : Refusal → ℕ
refusal_number TooLong = 1
refusal_number Surrogate = 2
refusal_number WorkTooShort = 3
refusal_number (Offends o) = offence_number o
refusal_number ListTooShort = 9
refusal_number NotesTooShort = 10
refusal_number BookTooShort = 11

-- "the offending word's index for 4 to 8 (the sheet's length if the end offends; 0 for the others)"
abbrev pub refusal_place : Refusal → ℕ
refusal_place (Offends o) = offence_place o
refusal_place TooLong = 0
refusal_place Surrogate = 0
refusal_place WorkTooShort = 0
refusal_place ListTooShort = 0
refusal_place NotesTooShort = 0
refusal_place BookTooShort = 0
