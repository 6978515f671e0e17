-- Places within the words of a record and of a book entry, for the recorder in lent memory.
use Rattle.std.specs.Prelude.{ℕ}

-- where a record's range and its arguments stand, and an entry's extra
abbrev pub range_word_at : ℕ
range_word_at = 1

abbrev pub arg_a : ℕ
arg_a = 2

abbrev pub arg_b : ℕ
arg_b = 3

abbrev pub arg_c : ℕ
arg_c = 4

abbrev pub extra_at : ℕ
extra_at = 3
