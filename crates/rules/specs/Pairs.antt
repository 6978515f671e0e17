-- Twelve of document 01's "Pairs to run", in one table.
use Rattle.std.specs.Prelude.{ℕ, List, [], ◌∷◌, ◌++◌, map, length, replicate}
use Rattle.recorder.specs.Ideal.{Rec, Note, Entry, Ideal}
use Rattle.sheet.specs.Check.{checked}
use Rattle.sheet.specs.CheckAnswer.{answer_number}
use Rattle.rules.specs.Outcome.{finished}

-- what is looked at: the refusal, the notes' classes, each record's call and first two arguments but End's, and the book
-- entries' extra words
pub record Shown : Type 0 where
  pub refusal : ℕ
  pub classes : List ℕ
  pub calls : List (List ℕ)
  pub extras : List ℕ

abbrev pub shown : ℕ → List ℕ → List (List ℕ) → List ℕ → Shown
shown k c r e = record { refusal = k; classes = c; calls = r; extras = e }

pub record Pair : Type 0 where
  pub sheet : List ℕ
  pub text : List ℕ
  pub shows : Shown

abbrev pub pair : List ℕ → List ℕ → Shown → Pair
pair s t x = record { sheet = s; text = t; shows = x }

abbrev pub pairs : List Pair
pairs =
    -- PLAY of a text of 255 units: no note
    pair (0x0F000001 ∷ 0x10000106 ∷ 0x02000000 ∷ 0x04000001 ∷ 0x2000002C ∷ 0x01000106 ∷ 0x21000001 ∷ 0x01005106 ∷ [])
    (80 ∷ 76 ∷ 65 ∷ 89 ∷ 32 ∷ 34 ∷ (replicate 255 65 ++ (34 ∷ [])))
    (shown 0 [] ((4 ∷ 6 ∷ 255 ∷ []) ∷ (2 ∷ 44 ∷ 1 ∷ []) ∷ []) [])
    -- PLAY of a text of 256 units: class 8
    ∷ pair (0x0F000001 ∷ 0x10000107 ∷ 0x02000000 ∷ 0x04000001 ∷ 0x2000002C ∷ 0x01000107 ∷ 0x21000001 ∷ 0x01005107 ∷ [])
    (80 ∷ 76 ∷ 65 ∷ 89 ∷ 32 ∷ 34 ∷ (replicate 256 65 ++ (34 ∷ [])))
    (shown 0 (8 ∷ []) ((4 ∷ 6 ∷ 256 ∷ []) ∷ (2 ∷ 44 ∷ 1 ∷ []) ∷ []) [])
    -- label 0: no note
    ∷ pair (0x0F000001 ∷ 0x10000002 ∷ 0x01000001 ∷ 0x03000000 ∷ 0x04000000 ∷ [])
    (48 ∷ 32 ∷ [])
    (shown 0 [] [] [])
    -- labels 10, 10: one note
    ∷ pair (0x0F000002 ∷ 0x10000003 ∷ 0x01000002 ∷ 0x0300000A ∷ 0x04000000 ∷ 0x10000003 ∷ 0x01000002 ∷ 0x0300000A ∷ 0x04000000 ∷ [])
    (49 ∷ 48 ∷ 32 ∷ 49 ∷ 48 ∷ 32 ∷ [])
    (shown 0 (1 ∷ []) [] [])
    -- labels 10, 5, 7: one note
    ∷ pair (0x0F000003 ∷ 0x10000003 ∷ 0x01000002 ∷ 0x0300000A ∷ 0x04000000 ∷ 0x10000002 ∷ 0x01000001 ∷ 0x03000005 ∷ 0x04000000 ∷ 0x10000002 ∷ 0x01000001 ∷ 0x03000007 ∷ 0x04000000 ∷ [])
    (49 ∷ 48 ∷ 32 ∷ 53 ∷ 32 ∷ 55 ∷ 32 ∷ [])
    (shown 0 (1 ∷ []) [] [])
    -- FPUTC #+"A",+"A", each operand a missing part + text: call 14, kind Error, since a text would have a note as the file's number, a
    -- number as what is put
    ∷ pair (0x0F000001 ∷ 0x10000010 ∷ 0x02000000 ∷ 0x04000001 ∷ 0x20000042 ∷ 0x01000010 ∷ 0x21000005 ∷ 0x0100700B ∷ 0x21000009 ∷ 0x01007007 ∷ 0x01007008 ∷ 0x09000006 ∷ 0x21000001 ∷ 0x0100800B ∷ 0x21000005 ∷ 0x0100C010 ∷ 0x21000009 ∷ 0x0100C00C ∷ 0x0100C00D ∷ 0x09000006 ∷ 0x21000001 ∷ 0x0100D010 ∷ [])
    (70 ∷ 80 ∷ 85 ∷ 84 ∷ 67 ∷ 32 ∷ 35 ∷ 43 ∷ 34 ∷ 65 ∷ 34 ∷ 44 ∷ 43 ∷ 34 ∷ 65 ∷ 34 ∷ [])
    (shown 0 [] ((4 ∷ 9 ∷ 1 ∷ []) ∷ (14 ∷ 6 ∷ 0 ∷ []) ∷ (4 ∷ 14 ∷ 1 ∷ []) ∷ (14 ∷ 6 ∷ 0 ∷ []) ∷ (2 ∷ 66 ∷ 2 ∷ []) ∷ []) [])
    -- CALL "A"+, a text + missing part: call 15, a text, for which CALL has a note
    ∷ pair (0x0F000001 ∷ 0x10000009 ∷ 0x02000000 ∷ 0x04000001 ∷ 0x20000003 ∷ 0x01000009 ∷ 0x21000005 ∷ 0x01005009 ∷ 0x21000001 ∷ 0x01005008 ∷ 0x01008009 ∷ 0x09000006 ∷ 0x21000009 ∷ 0x01009009 ∷ [])
    (67 ∷ 65 ∷ 76 ∷ 76 ∷ 32 ∷ 34 ∷ 65 ∷ 34 ∷ 43 ∷ [])
    (shown 0 (4 ∷ []) ((4 ∷ 6 ∷ 1 ∷ []) ∷ (15 ∷ 6 ∷ 0 ∷ []) ∷ (2 ∷ 3 ∷ 1 ∷ []) ∷ []) [])
    -- LOAD 1,+5: the byte 5
    ∷ pair (0x0F000001 ∷ 0x10000009 ∷ 0x02000000 ∷ 0x04000001 ∷ 0x20000022 ∷ 0x01000009 ∷ 0x04000002 ∷ 0x21000002 ∷ 0x01005006 ∷ 0x0A000081 ∷ 0x0B008000 ∷ 0x0B000000 ∷ 0x21000002 ∷ 0x01007009 ∷ 0x0A000083 ∷ 0x0B00A000 ∷ 0x0B000000 ∷ [])
    (76 ∷ 79 ∷ 65 ∷ 68 ∷ 32 ∷ 49 ∷ 44 ∷ 43 ∷ 53 ∷ [])
    (shown 0 [] ((3 ∷ 129 ∷ 2147483648 ∷ []) ∷ (35 ∷ 0 ∷ 1 ∷ []) ∷ []) (5 ∷ []))
    -- LOAD 1,0 07: the byte 7
    ∷ pair (0x0F000001 ∷ 0x1000000B ∷ 0x02000000 ∷ 0x04000001 ∷ 0x20000022 ∷ 0x0100000B ∷ 0x04000002 ∷ 0x21000002 ∷ 0x01005006 ∷ 0x0A000081 ∷ 0x0B008000 ∷ 0x0B000000 ∷ 0x21000002 ∷ 0x0100700B ∷ 0x0A000083 ∷ 0x0B00E000 ∷ 0x0B000000 ∷ [])
    (76 ∷ 79 ∷ 65 ∷ 68 ∷ 32 ∷ 49 ∷ 44 ∷ 48 ∷ 32 ∷ 48 ∷ 55 ∷ [])
    (shown 0 [] ((3 ∷ 129 ∷ 2147483648 ∷ []) ∷ (35 ∷ 0 ∷ 1 ∷ []) ∷ []) (7 ∷ []))
    -- LOAD 1,256: class 12
    ∷ pair (0x0F000001 ∷ 0x1000000A ∷ 0x02000000 ∷ 0x04000001 ∷ 0x20000022 ∷ 0x0100000A ∷ 0x04000002 ∷ 0x21000002 ∷ 0x01005006 ∷ 0x0A000081 ∷ 0x0B008000 ∷ 0x0B000000 ∷ 0x21000002 ∷ 0x0100700A ∷ 0x0A000089 ∷ 0x0B008000 ∷ 0x0B000000 ∷ [])
    (76 ∷ 79 ∷ 65 ∷ 68 ∷ 32 ∷ 49 ∷ 44 ∷ 50 ∷ 53 ∷ 54 ∷ [])
    (shown 0 (12 ∷ []) ((3 ∷ 129 ∷ 2147483648 ∷ []) ∷ []) [])
    -- FOR I=0 TO 12:NEXT, FOR at address 2: a delay of 12, (132, 12 × 2^28)
    ∷ pair (0x0F000001 ∷ 0x10000012 ∷ 0x02000000 ∷ 0x04000002 ∷ 0x20000015 ∷ 0x0100000D ∷ 0x01004005 ∷ 0x21000002 ∷ 0x01006007 ∷ 0x0A000000 ∷ 0x0B000000 ∷ 0x0B000000 ∷ 0x21000002 ∷ 0x0100B00D ∷ 0x0A000084 ∷ 0x0B00C000 ∷ 0x0B000000 ∷ 0x02000000 ∷ 0x20000026 ∷ 0x0100E012 ∷ 0x04000000 ∷ [])
    (70 ∷ 79 ∷ 82 ∷ 32 ∷ 73 ∷ 61 ∷ 48 ∷ 32 ∷ 84 ∷ 79 ∷ 32 ∷ 49 ∷ 50 ∷ 58 ∷ 78 ∷ 69 ∷ 88 ∷ 84 ∷ [])
    (shown 0 [] ((1 ∷ 0 ∷ 0 ∷ []) ∷ (3 ∷ 132 ∷ 3221225472 ∷ []) ∷ (2 ∷ 65 ∷ 1 ∷ []) ∷ (1 ∷ 0 ∷ 0 ∷ []) ∷ []) (0 ∷ []))
    -- FOR I=0 TO 12.5:NEXT: a delay of 13, (132, 13 × 2^28)
    ∷ pair (0x0F000001 ∷ 0x10000014 ∷ 0x02000000 ∷ 0x04000002 ∷ 0x20000015 ∷ 0x0100000F ∷ 0x01004005 ∷ 0x21000002 ∷ 0x01006007 ∷ 0x0A000000 ∷ 0x0B000000 ∷ 0x0B000000 ∷ 0x21000002 ∷ 0x0100B00F ∷ 0x0A000084 ∷ 0x0B00C800 ∷ 0x0B000000 ∷ 0x02000000 ∷ 0x20000026 ∷ 0x01010014 ∷ 0x04000000 ∷ [])
    (70 ∷ 79 ∷ 82 ∷ 32 ∷ 73 ∷ 61 ∷ 48 ∷ 32 ∷ 84 ∷ 79 ∷ 32 ∷ 49 ∷ 50 ∷ 46 ∷ 53 ∷ 58 ∷ 78 ∷ 69 ∷ 88 ∷ 84 ∷ [])
    (shown 0 [] ((1 ∷ 0 ∷ 0 ∷ []) ∷ (3 ∷ 132 ∷ 3489660928 ∷ []) ∷ (2 ∷ 65 ∷ 1 ∷ []) ∷ (1 ∷ 0 ∷ 0 ∷ []) ∷ []) (0 ∷ []))
    ∷ []

abbrev pub calls_shown : List Rec → List (List ℕ)
calls_shown [] = []
calls_shown (r ∷ []) = []
calls_shown (r ∷ x ∷ rs) = (r.call ∷ r.a ∷ r.b ∷ []) ∷ calls_shown (x ∷ rs)

abbrev pub shown_of : ℕ → Ideal → Shown
shown_of k i = shown k (map (λ (n : Note). n.class) i.notes) (calls_shown i.records) (map (λ (e : Entry). e.extra) i.entries)

-- what the rules give
abbrev pub rules_show : Pair → Shown
rules_show p = shown_of (answer_number (checked p.sheet p.text (length p.sheet))) (finished p.sheet p.text)
