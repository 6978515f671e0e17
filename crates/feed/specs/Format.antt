-- The bytes of an input in the replay format.
use Rattle.std.specs.Prelude.{ℕ, List, [], ◌∷◌, ◌++◌}
use Rattle.std.specs.Int.{w16, w32, to_le_bytes}
use Rattle.std.specs.List.{flat_map}
use Rattle.feed.specs.declared.Counts.{Counts}

abbrev pub words_bytes : List ℕ → List ℕ
words_bytes words = flat_map (to_le_bytes w32) words

abbrev pub units_bytes : List ℕ → List ℕ
units_bytes units = flat_map (to_le_bytes w16) units

abbrev pub counts_bytes : Counts → List ℕ
counts_bytes c = words_bytes (c.words ∷ c.units ∷ c.list ∷ c.notes ∷ c.book ∷ c.work ∷ [])

-- six counts, then the words, then the units
abbrev pub input_bytes : Counts → List ℕ → List ℕ → List ℕ
input_bytes c words units = counts_bytes c ++ (words_bytes words ++ units_bytes units)
