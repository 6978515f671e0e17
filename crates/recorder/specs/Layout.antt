-- How records, notes and book entries stand in words.
use Rattle.std.specs.Prelude.{List, [], ◌∷◌, ◌++◌, ℕ, ◌-◌, ◌/◌, min, length, replicate}
use Rattle.recorder.specs.Numbers.{record_limit}
use Rattle.recorder.specs.Word.{word_of, range_word}
use Rattle.recorder.specs.Ideal.{Rec, Note, Entry}

-- "one record of five words: call number (top 8 bits) with the line index from 0, range word, three arguments"
abbrev pub rec_words : Rec → List ℕ
rec_words r = word_of r.call r.line ∷ range_word r.range ∷ r.a ∷ r.b ∷ r.c ∷ []

-- "class (top 8 bits) and line, range, 1 error or 2 warning, 0"
abbrev pub note_words : Note → List ℕ
note_words n = word_of n.class n.line ∷ range_word n.range ∷ n.severity ∷ n.lost ∷ []

-- "head: kind, top 8 bits, and number within it ...; start; length; extra"
abbrev pub entry_words : Entry → List ℕ
entry_words e = word_of e.kind e.number ∷ e.start ∷ e.length ∷ e.extra ∷ []

abbrev pub words_of : {A : Type 0} → (A → List ℕ) → List A → List ℕ
words_of f [] = []
words_of f (x ∷ xs) = f x ++ words_of f xs

-- so many words each
abbrev pub rec_size : ℕ
rec_size = 5

abbrev pub note_size : ℕ
note_size = 4

abbrev pub entry_size : ℕ
entry_size = 4

-- "List below five words a record, or more than 65,535 records": so many records fit into so many words
abbrev pub most_records : ℕ → ℕ
most_records words = min (words / rec_size) record_limit

-- so many words, zeros behind
abbrev pub fill : ℕ → List ℕ → List ℕ
fill size xs = xs ++ replicate (size - length xs) 0
