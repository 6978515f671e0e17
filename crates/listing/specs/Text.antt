-- What the listing says.
use Rattle.std.specs.Prelude.{Result, Ok, Err, ℕ, zero, suc, List, [], ◌∷◌, ◌++◌, length, take, drop, slice_index, get_or, codes}
use Rattle.std.specs.Fmt.{decimal}
use Rattle.std.specs.List.{flat_map}
use Rattle.recorder.specs.Word.{kind, payload, range_of}
use Rattle.sheet.specs.declared.form.Refusal.{Refusal}
use Rattle.sheet.specs.Check.{refusal_number}
use Rattle.compiler.specs.declared.Sizes.{Sizes}
use Rattle.feed.specs.Text.{next_text, line_of, row_text, rows_of}

-- a record: its address, line, call and arguments, with a blank between
abbrev pub record_text : ℕ → ℕ → ℕ → List ℕ → List ℕ
record_text address line call arguments = decimal address ++ flat_map next_text (line ∷ call ∷ arguments)

-- a note: "note", its class, line, start and end
abbrev pub note_text : ℕ → ℕ → ℕ → ℕ → List ℕ
note_text class line start end = codes "note" ++ flat_map next_text (class ∷ line ∷ start ∷ end ∷ [])

-- the line of the record at an address, from its five words
abbrev pub record_line : ℕ → List ℕ → List ℕ
record_line address words =
    line_of (record_text address (payload (slice_index words 0)) (kind (slice_index words 0)) (drop 2 words))

-- the line of a note, from its four words
abbrev pub note_line : List ℕ → List ℕ
note_line words =
    let range = range_of (slice_index words 1) in
    line_of (note_text (kind (slice_index words 0)) (payload (slice_index words 0)) range.start range.end)

-- the lines of the first so many records
abbrev pub record_lines : List (List ℕ) → ℕ → List ℕ
record_lines rows zero = []
record_lines rows (suc k) = record_lines rows k ++ record_line k (get_or rows k [])

abbrev pub refusal_line : ℕ → List ℕ
refusal_line number = line_of (row_text (codes "refused") (number ∷ []))

abbrev pub records_text : List ℕ → ℕ → List ℕ
records_text list count = let rows = take count (rows_of 5 list) in record_lines rows (length rows)

abbrev pub notes_text : List ℕ → ℕ → List ℕ
notes_text notes count = flat_map note_line (take count (rows_of 4 notes))

-- the refusal, or a line for each record and then a line for each note
abbrev pub listing_text : Result Sizes Refusal → List ℕ → List ℕ → List ℕ
listing_text (Ok a) list notes = records_text list a.records ++ notes_text notes a.notes
listing_text (Err r) list notes = refusal_line (refusal_number r)
