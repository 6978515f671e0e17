-- What a put changes of the state, and that flags stay set.
use Rattle.std.specs.Prelude.{Option, None}
use mathlib.Core.Path.{◌≡◌, refl}
use mathlib.Core.List.{List}
use mathlib.Core.Bool.{Bool, true, false}
use Prim.Native.Nat.{ℕ, ◌+◌, ◌/◌}
use lib.Dec.{ltb}
use lib.ListN.{length}
use Rattle.recorder.specs.declared.codegen.State.{State}
use Rattle.recorder.specs.declared.label.DatumIndex.{DatumIndex}
use Rattle.recorder.specs.Word.{pick}
use Rattle.recorder.specs.Layout.{most_records}
use Rattle.recorder.specs.Mem.{on_line, put_st, note_st, entry_st, known, entry_of, new_st, symbol_st, datum_st, byte_st}
use Rattle.recorder.proofs.Bools.{true_not_false}

-- one count anew, and its buffer's flag; or one kind's count
abbrev pub with_records : State → ℕ → Bool → State
with_records s n f = record s { records = n; list_full = f }

abbrev pub with_notes : State → ℕ → Bool → State
with_notes s n f = record s { notes = n; notes_full = f }

abbrev pub with_entries : State → ℕ → Bool → State
with_entries s n f = record s { entries = n; book_full = f }

abbrev pub with_names : State → ℕ → Option ℕ → State
with_names s n k = record s { names = n; root = k }

abbrev pub with_data : State → ℕ → Option DatumIndex → State
with_data s n d = record s { datums = n; first = d }

abbrev pub with_bytes : State → ℕ → State
with_bytes s n = record s { bytes = n }

abbrev pub with_line : State → ℕ → State
with_line s l = record s { line = l; first = None }

-- a record, a note, an entry put
abbrev pub put_in : List ℕ → State → State
put_in l s = with_records s (pick (ltb s.records (most_records (length l))) (s.records + 1) s.records) (pick (ltb s.records (most_records (length l))) s.list_full true)

abbrev pub note_in : List ℕ → State → State
note_in l s = with_notes s (pick (ltb s.notes (length l / 4)) (s.notes + 1) s.notes) (pick (ltb s.notes (length l / 4)) s.notes_full true)

abbrev pub entry_in : List ℕ → State → State
entry_in l s = with_entries s (pick (ltb s.entries (length l / 4)) (s.entries + 1) s.entries) (pick (ltb s.entries (length l / 4)) s.book_full true)

pub put_form : (l : List ℕ) (s : State) → put_st l s ≡ put_in l s
unfolding put_st
put_form l s = go (ltb s.records (most_records (length l)))
  where
    go : (c : Bool) → pick c (record s { records = s.records + 1 }) (record s { list_full = true }) ≡ with_records s (pick c (s.records + 1) s.records) (pick c s.list_full true)
    go true = refl
    go false = refl

pub note_form : (l : List ℕ) (s : State) → note_st l s ≡ note_in l s
unfolding note_st
note_form l s = go (ltb s.notes (length l / 4))
  where
    go : (c : Bool) → pick c (record s { notes = s.notes + 1 }) (record s { notes_full = true }) ≡ with_notes s (pick c (s.notes + 1) s.notes) (pick c s.notes_full true)
    go true = refl
    go false = refl

pub entry_form : (l : List ℕ) (s : State) → entry_st l s ≡ entry_in l s
unfolding entry_st
entry_form l s = go (ltb s.entries (length l / 4))
  where
    go : (c : Bool) → pick c (record s { entries = s.entries + 1 }) (record s { book_full = true }) ≡ with_entries s (pick c (s.entries + 1) s.entries) (pick c s.book_full true)
    go true = refl
    go false = refl

-- the flags of records and of entries that are not set after a change were not set before it
abbrev pub Stays : State → State → Type 0
Stays s u = (u.list_full ≡ false → s.list_full ≡ false) × (u.book_full ≡ false → s.book_full ≡ false)

pub line_stays : (s : State) (l : ℕ) → Stays s (on_line s l)
line_stays s l = (λ e. e, λ e. e)

pub put_stays : (l : List ℕ) (s : State) → Stays s (put_st l s)
unfolding put_st
put_stays l s = go (ltb s.records (most_records (length l)))
  where
    go : (c : Bool) → Stays s (pick c (record s { records = s.records + 1 }) (record s { list_full = true }))
    go true = (λ e. e, λ e. e)
    go false = (λ e. true_not_false e, λ e. e)

pub note_stays : (l : List ℕ) (s : State) → Stays s (note_st l s)
unfolding note_st
note_stays l s = go (ltb s.notes (length l / 4))
  where
    go : (c : Bool) → Stays s (pick c (record s { notes = s.notes + 1 }) (record s { notes_full = true }))
    go true = (λ e. e, λ e. e)
    go false = (λ e. e, λ e. e)

entry_stays : (b : List ℕ) (s : State) → Stays s (entry_st b s)
unfolding entry_st
entry_stays b s = go (ltb s.entries (length b / 4))
  where
    go : (c : Bool) → Stays s (pick c (record s { entries = s.entries + 1 }) (record s { book_full = true }))
    go true = (λ e. e, λ e. e)
    go false = (λ e. e, λ e. true_not_false e)

pub symbol_stays : (t b : List ℕ) (s : State) (x n g : ℕ) → Stays s (symbol_st t b s x n g)
unfolding symbol_st
symbol_stays t b s x n g = go (ltb (entry_of t b s x n g) (known b s))
  where
    go : (c : Bool) → Stays s (pick c s (new_st b s))
    go true = (λ e. e, λ e. e)
    go false = entry_stays b s

pub datum_stays : (b : List ℕ) (s : State) → Stays s (datum_st b s)
unfolding datum_st
datum_stays b s = entry_stays b s

pub byte_stays : (b : List ℕ) (s : State) → Stays s (byte_st b s)
unfolding byte_st
byte_stays b s = entry_stays b s
