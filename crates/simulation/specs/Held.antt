-- What the memory holds of a list of records, notes or entries that may be longer than its buffer.
use Rattle.std.specs.Prelude.{◌≡◌, List, Bool, false, ℕ, ◌/◌, min, ltb, length}
use Rattle.recorder.specs.Layout.{words_of, fill}

-- a count that stays where the room ends, and a flag that says so
pub record Held (cap n count : ℕ) (full : Bool) : Type 0 where
  pub number : count ≡ min n cap
  pub flag : full ≡ ltb cap n

-- the notes and the book: four words each, all of them while they fit
pub record Exact {A : Type 0} (f : A → List ℕ) (size : ℕ) (is : List A) (l : List ℕ) (count : ℕ) (full : Bool) : Type 0 where
  pub long : length l ≡ size
  pub held : Held (size / 4) (length is) count full
  pub same : full ≡ false → l ≡ fill size (words_of f is)
