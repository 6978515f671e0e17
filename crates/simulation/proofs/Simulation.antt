-- One recorder's states follow another's. A number that an operation gave, and an address, may differ where the second recorder says so.
use mathlib.Core.Path.{◌≡◌}
use mathlib.Core.Bool.{true, false}
use Prim.Native.Nat.{ℕ, ◌%◌}
use lib.Dec.{eqb}
use Rattle.recorder.specs.declared.word.Range.{Range}
use Rattle.recorder.specs.Recorder.{Recorder, Look}
use Rattle.recorder.specs.Mem.{sigil_code, sigil_of}
use Rattle.simulation.proofs.Hide.{numbered, twice, fresh}

-- two lines that stand as one in a head word
abbrev pub SameLine : ℕ → ℕ → Type 0
SameLine l k = l % 16777216 ≡ k % 16777216

-- none, $ or %: what a code stands for
abbrev pub Sigil : ℕ → Type 0
Sigil g = sigil_of (sigil_code g) ≡ g

pub record Looks (x y : Look) : Type 0 where
  pub call : x.call ≡ y.call
  pub line : SameLine x.line y.line
  pub b : twice x.call ≡ false → x.b ≡ y.b
  pub c : x.c ≡ y.c

pub record Simulation {S T : Type 0} (R : Recorder S) (Q : Recorder T) : Type 1 where
  pub Sim : S → T → Type 0
  -- a number of an entry, an address, and states that come later: both stay related
  pub Number : T → ℕ → ℕ → Type 0
  pub Place : T → ℕ → ℕ → Type 0
  pub Later : T → T → Type 0
  pub later_refl : (t : T) → Later t t
  pub later_trans : (a b c : T) → Later a b → Later b c → Later a c
  pub number_refl : (t : T) (x : ℕ) → Number t x x
  pub number_later : (t u : T) (x y : ℕ) → Later t u → Number t x y → Number u x y
  pub number_map : (t : T) (f : ℕ → ℕ) (x y : ℕ) → Number t x y → Number t (f x) (f y)
  pub place_refl : (t : T) (x : ℕ) → Place t x x
  pub place_later : (t u : T) (x y : ℕ) → Later t u → Place t x y → Place u x y
  -- all records so far fit: addresses are the same. Room: one more record fits, too
  pub Fits : T → Type 0
  pub fits_later : (t u : T) → Later t u → Fits u → Fits t
  pub place_is : (t : T) (x y : ℕ) → Fits t → Place t x y → x ≡ y
  pub Room : T → Type 0
  pub room_fits : (t : T) → Room t → Fits t
  pub begin_line : (s : S) (t : T) (l : ℕ) → Sim s t → Sim (R.begin_line s l) (Q.begin_line t l)
  pub begin_line_later : (t : T) (l : ℕ) → Later t (Q.begin_line t l)
  -- a record whose arguments are the same; whose a is a number; whose a and b are numbers; whose a is an address
  pub emit : (s : S) (t : T) (k : ℕ) (r : Range) (a b c : ℕ) → fresh k b ≡ true → Sim s t → Sim (R.emit s k r a b c) (Q.emit t k r a b c)
  pub emit_number : (s : S) (t : T) (k : ℕ) (r : Range) (a a' b c : ℕ) → fresh k b ≡ true → numbered k ≡ true → Sim s t → Number t a a'
      → Sim (R.emit s k r a b c) (Q.emit t k r a' b c)
  pub emit_numbers : (s : S) (t : T) (k : ℕ) (r : Range) (a a' b b' c : ℕ) → fresh k b ≡ true → numbered k ≡ true → twice k ≡ true → Sim s t → Number t a a' → Number t b b'
      → Sim (R.emit s k r a b c) (Q.emit t k r a' b' c)
  pub emit_place : (s : S) (t : T) (k : ℕ) (r : Range) (a a' b c : ℕ) → fresh k b ≡ true → Sim s t → Place t a a'
      → Sim (R.emit s k r a b c) (Q.emit t k r a' b c)
  pub emit_later : (t : T) (k : ℕ) (r : Range) (a b c : ℕ) → Later t (Q.emit t k r a b c)
  pub count : (s : S) (t : T) → Sim s t → Place t (R.count s) (Q.count t)
  pub note : (s : S) (t : T) (k : ℕ) (r : Range) (v : ℕ) → Sim s t → Sim (R.note s k r v) (Q.note t k r v)
  pub note_later_lem : (t : T) (k : ℕ) (r : Range) (v : ℕ) → Later t (Q.note t k r v)
  pub note_lost : (s : S) (t : T) (k : ℕ) (r : Range) (v n : ℕ) → Sim s t → Sim (R.note_lost s k r v n) (Q.note_lost t k r v n)
  pub note_lost_later : (t : T) (k : ℕ) (r : Range) (v n : ℕ) → Later t (Q.note_lost t k r v n)
  pub note_at : (s : S) (t : T) (l l' k : ℕ) (r : Range) (v : ℕ) → SameLine l l' → Sim s t → Sim (R.note_at s l k r v) (Q.note_at t l' k r v)
  pub note_at_later : (t : T) (l k : ℕ) (r : Range) (v : ℕ) → Later t (Q.note_at t l k r v)
  -- a name whose sigil is one
  pub symbol : (s : S) (t : T) (x n g : ℕ) → Sigil g → Sim s t → Sim (R.symbol s x n g).state (Q.symbol t x n g).state
  pub symbol_number_lem : (s : S) (t : T) (x n g : ℕ) → Sigil g → Sim s t → Number (Q.symbol t x n g).state (R.symbol s x n g).number (Q.symbol t x n g).number
  pub symbol_later : (t : T) (x n g : ℕ) → Later t (Q.symbol t x n g).state
  pub datum : (s : S) (t : T) (x n q : ℕ) → Sim s t → Sim (R.datum s x n q) (Q.datum t x n q)
  pub datum_later : (t : T) (x n q : ℕ) → Later t (Q.datum t x n q)
  -- the line's first datum: a number, and in both or in neither there is one
  pub first_datum : (s : S) (t : T) → Sim s t → Number t (R.first_datum s) (Q.first_datum t)
  pub first_datum_none : (s : S) (t : T) → Sim s t → eqb (R.first_datum s) 0 ≡ eqb (Q.first_datum t) 0
  pub byte : (s : S) (t : T) (x n v : ℕ) → Sim s t → Sim (R.byte s x n v) (Q.byte t x n v)
  pub byte_later : (t : T) (x n v : ℕ) → Later t (Q.byte t x n v)
  pub next_byte : (s : S) (t : T) → Sim s t → Number t (R.next_byte s) (Q.next_byte t)
  pub patch : (s : S) (t : T) (k k' v v' : ℕ) → Sim s t → Place t k k' → Place t v v' → Sim (R.patch s k v) (Q.patch t k' v')
  pub patch_later : (t : T) (k v : ℕ) → Later t (Q.patch t k v)
  pub patch_end : (s : S) (t : T) (k k' v v' : ℕ) → Sim s t → Place t k k' → Place t v v' → Sim (R.patch_end s k v) (Q.patch_end t k' v')
  pub patch_end_later : (t : T) (k v : ℕ) → Later t (Q.patch_end t k v)
  -- closing up, where all records fit. What is settled is no WHILE
  pub look : (s : S) (t : T) (k : ℕ) → Sim s t → Fits t → Looks (R.look s k) (Q.look t k)
  pub settle : (s : S) (t : T) (k v v' : ℕ) → eqb (R.look s k).call 25 ≡ false → Sim s t → Place t v v' → Sim (R.settle s k v) (Q.settle t k v')
  pub settle_number : (s : S) (t : T) (k v v' : ℕ) → (R.look s k).call ≡ 31 → Sim s t → Number t v v' → Sim (R.settle s k v) (Q.settle t k v')
  pub settle_later : (t : T) (k v : ℕ) → Later t (Q.settle t k v)
  pub drop_label : (s : S) (t : T) (k : ℕ) → eqb (R.look s k).call 25 ≡ false → Sim s t → Sim (R.drop_label s k) (Q.drop_label t k)
  pub drop_label_later : (t : T) (k : ℕ) → Later t (Q.drop_label t k)
  -- the operations of closing up take no room
  pub note_at_fits : (t : T) (l k : ℕ) (r : Range) (v : ℕ) → Fits t → Fits (Q.note_at t l k r v)
  pub settle_fits : (t : T) (k v : ℕ) → Fits t → Fits (Q.settle t k v)
  pub drop_label_fits : (t : T) (k : ℕ) → Fits t → Fits (Q.drop_label t k)
  pub note_at_room : (t : T) (l k : ℕ) (r : Range) (v : ℕ) → Room t → Room (Q.note_at t l k r v)
  pub settle_room : (t : T) (k v : ℕ) → Room t → Room (Q.settle t k v)
  pub drop_label_room : (t : T) (k : ℕ) → Room t → Room (Q.drop_label t k)
  -- clean_up, where one more record fits
  pub Done : S → T → Type 0
  pub clean_up : (s : S) (t : T) → Sim s t → Room t → Done (R.clean_up s) (Q.clean_up t)
