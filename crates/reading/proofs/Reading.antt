-- Two recorders whose operations do the same in states in which the names made so far stand where two texts agree.
use mathlib.Core.Path.{◌≡◌}
use mathlib.Core.List.{List}
use Prim.Native.Nat.{ℕ}
use Rattle.recorder.specs.declared.word.Range.{Range}
use Rattle.recorder.specs.Recorder.{Recorder, Named}
use Rattle.rules.specs.Expr.{Out, Sym}
use Rattle.reading.specs.Agreement.{SameUnits}

-- the same result, of which I holds
pub record Same {A : Type 0} (I : A → Type 0) (a b : A) : Type 0 where
  pub is : a ≡ b
  pub keeps : I b

module _ {S : Type 0} (I : S → Type 0) where
  -- with the same number, the same kind, both
  pub record SameNamed (a b : Named S) : Type 0 where
    pub follows : Same I a.state b.state
    pub number : a.number ≡ b.number

  pub record SameOut (a b : Out S) : Type 0 where
    pub follows : Same I a.state b.state
    pub ty : a.ty ≡ b.ty

  pub record SameSym (a b : Sym S) : Type 0 where
    pub follows : Same I a.state b.state
    pub number : a.number ≡ b.number
    pub ty : a.ty ≡ b.ty

-- I holds of every state, and a name may be made where the texts agree
pub record Alike {S : Type 0} (R Q : Recorder S) (t u : List ℕ) (I : S → Type 0) : Type 0 where
  pub begin_line : {s : S} {l : ℕ} → I s → Same I (R.begin_line s l) (Q.begin_line s l)
  pub emit : {s : S} {k : ℕ} {r : Range} {a b c : ℕ} → I s → Same I (R.emit s k r a b c) (Q.emit s k r a b c)
  pub count : {s : S} → I s → R.count s ≡ Q.count s
  pub note : {s : S} {k : ℕ} {r : Range} {v : ℕ} → I s → Same I (R.note s k r v) (Q.note s k r v)
  pub note_lost : {s : S} {k : ℕ} {r : Range} {v n : ℕ} → I s → Same I (R.note_lost s k r v n) (Q.note_lost s k r v n)
  pub symbol : {s : S} (x n g : ℕ) → SameUnits t u x n → I s → SameNamed I (R.symbol s x n g) (Q.symbol s x n g)
  pub datum : {s : S} {x n q : ℕ} → I s → Same I (R.datum s x n q) (Q.datum s x n q)
  pub first_datum : {s : S} → I s → R.first_datum s ≡ Q.first_datum s
  pub byte : {s : S} {x n v : ℕ} → I s → Same I (R.byte s x n v) (Q.byte s x n v)
  pub next_byte : {s : S} → I s → R.next_byte s ≡ Q.next_byte s
  pub patch : {s : S} {k v : ℕ} → I s → Same I (R.patch s k v) (Q.patch s k v)
  pub patch_end : {s : S} {k v : ℕ} → I s → Same I (R.patch_end s k v) (Q.patch_end s k v)
