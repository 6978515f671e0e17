-- "Names equal in upper case, cut at the first blank, sigil kept, are one symbol."
use Rattle.std.specs.Prelude.{List, Bool, true, false, ℕ, zero, suc, ◌-◌, ltb, eqb, get_or}
use Rattle.recorder.specs.Word.{pick, next}

-- an ASCII letter in upper case, any other unit as it is
abbrev pub upper : ℕ → ℕ
upper u = pick (ltb u 97) u (pick (ltb 122 u) u (u - 32))

-- n units of the text from a and from b
unfoldable pub same_units : List ℕ → ℕ → ℕ → ℕ → Bool
same_units t a b zero = true
same_units t a b (suc n) = pick (eqb (upper (get_or t a 0)) (upper (get_or t b 0))) (same_units t (next t a) (next t b) n) false

-- a name: where it starts, how many units it has before a blank or its sigil, and the sigil's unit or 0
unfoldable pub same_name : List ℕ → ℕ → ℕ → ℕ → ℕ → ℕ → ℕ → Bool
same_name t a n x b m y = pick (eqb n m) (pick (eqb x y) (same_units t a b n) false) false
