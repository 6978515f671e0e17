-- What the programs print.
use Rattle.std.specs.Prelude.{ℕ, zero, suc, List, [], ◌∷◌, ◌++◌, ◌/◌, if◌then◌else◌, length, take, drop, nat_lt}
use Rattle.std.specs.List.{flat_map}
use Rattle.std.specs.Fmt.{decimal}
use Rattle.std.specs.Simd.{first_chunks}

-- a blank and the number
abbrev pub next_text : ℕ → List ℕ
next_text n = 32 ∷ decimal n

-- the mark and the numbers of a row
abbrev pub row_text : List ℕ → List ℕ → List ℕ
row_text mark numbers = mark ++ flat_map next_text numbers

-- a text on a line of its own
abbrev pub line_of : List ℕ → List ℕ
line_of text = text ++ 10 ∷ []

-- so many of the rows, each on a line
abbrev pub rows_text : List ℕ → List (List ℕ) → ℕ → List ℕ
rows_text mark rows count = flat_map (λ row. line_of (row_text mark row)) (take count rows)

-- words in rows of that size
abbrev pub rows_of : ℕ → List ℕ → List (List ℕ)
rows_of size words = first_chunks size (length words / size) words

-- so many rows of that size, each on a line, up to the first for which fewer words are left
abbrev pub rows_from : List ℕ → List ℕ → ℕ → ℕ → List ℕ
rows_from mark words size zero = []
rows_from mark words size (suc n) =
    if nat_lt (length words) size then [] else line_of (row_text mark (take size words)) ++ rows_from mark (drop size words) size n
