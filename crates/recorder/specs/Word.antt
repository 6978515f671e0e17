-- The words of a sheet and of a list, and the places between them.
use Rattle.std.specs.Prelude.{List, Bool, true, false, ℕ, ◌+◌, ◌*◌, ◌/◌, ◌%◌, ltb, length, get_or}
use Rattle.recorder.specs.declared.word.Range.{Range}
use Rattle.recorder.specs.Numbers.{payload_size, line_size, label_size}

abbrev pub pick {ℓ} : {A : Type ℓ} → Bool → A → A → A
pick true a b = a
pick false a b = b

-- one of two readers, at a place: only the one that is chosen is computed
abbrev pub choose {ℓ} : {A : Type ℓ} → Bool → (ℕ → A) → (ℕ → A) → ℕ → A
choose true f g p = f p
choose false f g p = g p

abbrev pub both : Bool → Bool → Bool
both true b = b
both false b = false

abbrev pub either : Bool → Bool → Bool
either true b = true
either false b = b

-- "A word's top 8 bits are its kind (hexadecimal below), its low 24 its payload."
abbrev pub kind : ℕ → ℕ
kind w = w / payload_size

abbrev pub payload : ℕ → ℕ
payload w = w % payload_size

-- a kind and the low 24 bits of a number: a head of the list, the notes or the book
abbrev pub word_of : ℕ → ℕ → ℕ
word_of k n = k * payload_size + n % payload_size

-- what stands at a place; behind the end stands 0, whose kind is none of the form's
abbrev pub kind_at : List ℕ → ℕ → ℕ
kind_at s at = kind (get_or s at 0)

abbrev pub payload_at : List ℕ → ℕ → ℕ
payload_at s at = payload (get_or s at 0)

-- the place behind a word, or a unit; the end stays
unfoldable pub next : {A : Type 0} → List A → ℕ → ℕ
next s at = pick (ltb at (length s)) (at + 1) at

-- "01 range: start times 4,096 plus end, within the line."
abbrev pub range_of : ℕ → Range
range_of w = record { start = payload w / line_size; end = payload w % line_size }

abbrev pub range_at : List ℕ → ℕ → Range
range_at s at = range_of (get_or s at 0)

abbrev pub range_word : Range → ℕ
range_word r = payload_size + r.start * line_size + r.end

-- "03 label, 0 to 65,535"
abbrev pub label_at : List ℕ → ℕ → ℕ
label_at s at = get_or s at 0 % label_size

-- a flag in a word: 0 or 1
abbrev pub flag_of : Bool → ℕ
flag_of true = 1
flag_of false = 0
