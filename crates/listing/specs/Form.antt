-- The bytes of a form as the program reads it.
use Rattle.std.specs.Prelude.{ℕ, List, [], ◌∷◌, ◌++◌, length}
use Rattle.feed.specs.Format.{words_bytes, units_bytes}

-- the word count, the unit count, the words and the units
abbrev pub form_bytes : List ℕ → List ℕ → List ℕ
form_bytes words units = words_bytes (length words ∷ length units ∷ []) ++ (words_bytes words ++ units_bytes units)
