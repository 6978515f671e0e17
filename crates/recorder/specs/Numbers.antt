-- The numbers of document 01's words, lists and limits, each said here alone.
use Rattle.std.specs.Prelude.{ℕ, ◌≤◌, ◌<◌}

-- sheet and list are "32-bit words"
abbrev pub word_size : ℕ
word_size = 4294967296

-- "A word's top 8 bits are its kind (hexadecimal below), its low 24 its payload."
abbrev pub payload_size : ℕ
payload_size = 16777216

-- "its length in units (at most 4,095)"; "start times 4,096 plus end"
abbrev pub line_size : ℕ
line_size = 4096

-- "03 label, 0 to 65,535"
abbrev pub label_size : ℕ
label_size = 65536

-- "two 0B words, the high and low 16 bits of m"
abbrev pub half_size : ℕ
half_size = 65536

-- "Sheet above 65,536 words or text above 65,536 units."
abbrev pub sheet_limit : ℕ
sheet_limit = 65536

-- "more than 65,535 records"
abbrev pub record_limit : ℕ
record_limit = 65535

-- "A statement or expression nested deeper than 64"
abbrev pub depth_limit : ℕ
depth_limit = 64

-- a LOAD byte
abbrev pub byte_size : ℕ
byte_size = 256

-- "8 text above 255"
abbrev pub text_limit : ℕ
text_limit = 255

-- "A target ... not yet known is all ones"
abbrev pub unknown : ℕ
unknown = 4294967295

-- A number: "The value is m × 2^(e−160), zero at e 0", with m "at least 2^31" at every other e.
pub record Value : Type 0 where
  pub e : ℕ
  pub m : ℕ

abbrev pub value : ℕ → ℕ → Value
value e m = record { e = e; m = m }

abbrev pub bias : ℕ
bias = 160

abbrev pub least_mantissa : ℕ
least_mantissa = 2147483648

-- its high 16 bits
abbrev pub least_high : ℕ
least_high = 32768

abbrev pub number_zero : Value
number_zero = value 0 0

abbrev pub number_half : Value
number_half = value 128 least_mantissa

abbrev pub number_one : Value
number_one = value 129 least_mantissa

-- "exponent e (0 to 255), or 256 for too large"
abbrev pub too_large : ℕ
too_large = 256

-- "For e 0 or 256, m is 0; else m is at least 2^31", and m is a word: a number, which is not too large
pub data IsNumber : Value → Type 0 where
  zero_number : IsNumber number_zero
  other_number : {e m : ℕ} → 0 < e → e < too_large → least_mantissa ≤ m → m < word_size → IsNumber (value e m)
