-- What a list's loop promises of the closure that reads one part of it.
use Rattle.std.specs.Prelude.{◌≡◌, ℕ}
use Rattle.sheet.specs.Walk.{Walk}

-- the calls at places give what the rule f gives there
abbrev pub Reads : (ℕ → Walk → Type 0) → (ℕ → Walk) → Type 0
Reads post f = (p : ℕ) (w : Walk) → post p w → w ≡ f p
