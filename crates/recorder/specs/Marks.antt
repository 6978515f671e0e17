-- The labelled lines, in order: what resolution looks labels up in.
use Rattle.std.specs.Prelude.{List, [], ◌∷◌, ℕ, zero, suc, eqb}
use Rattle.recorder.specs.Word.{pick}
use Rattle.recorder.specs.Ideal.{Search, missing, found}

-- a labelled line: its label, the address of its first record, and its first datum plus 1, 0 if it has none
pub record Mark : Type 0 where
  pub label : ℕ
  pub addr : ℕ
  pub first : ℕ

abbrev pub mark : ℕ → ℕ → ℕ → Mark
mark l a f = record { label = l; addr = a; first = f }

abbrev pub or_else : Search → Search → Search
or_else (found n) b = found n
or_else missing b = b

-- "A target is the address of the last line with that label"
unfoldable pub addr_of : List Mark → ℕ → Search
addr_of [] l = missing
addr_of (m ∷ ms) l = or_else (addr_of ms l) (pick (eqb m.label l) (found m.addr) missing)

-- "A DATA index is the first DATA of that label."
abbrev pub datum_from : ℕ → Search
datum_from zero = missing
datum_from (suc n) = found n

unfoldable pub data_of : List Mark → ℕ → Search
data_of [] l = missing
data_of (m ∷ ms) l = or_else (pick (eqb m.label l) (datum_from m.first) missing) (data_of ms l)
