-- The rules' recorder: records, notes and book entries in lists that grow.
use Rattle.std.specs.Prelude.{List, [], ◌∷◌, ◌++◌, Bool, false, ℕ, zero, suc, ◌%◌, eqb, length, get_or}
use Rattle.recorder.specs.declared.word.Range.{Range}
use Rattle.recorder.specs.Numbers.{payload_size}
use Rattle.recorder.specs.Word.{pick}
use Rattle.recorder.specs.Name.{same_name}
use Rattle.recorder.specs.Recorder.{Recorder, Named, Look}

-- "Each numbered call below appends one record of five words: call number ... with the line index from 0, range word, three
-- arguments (0 where unused)."
pub record Rec : Type 0 where
  pub call : ℕ
  pub line : ℕ
  pub range : Range
  pub a : ℕ
  pub b : ℕ
  pub c : ℕ

abbrev pub rec : ℕ → ℕ → Range → ℕ → ℕ → ℕ → Rec
rec k l r x y z = record { call = k; line = l; range = r; a = x; b = y; c = z }

-- "Notes: class ... and line, range, 1 error or 2 warning, 0." Document 02 puts a number in place of that 0: how many units of a name
-- were lost. "All other notes keep 0 there".
pub record Note : Type 0 where
  pub class : ℕ
  pub line : ℕ
  pub range : Range
  pub severity : ℕ
  pub lost : ℕ

abbrev pub lost_note : ℕ → ℕ → Range → ℕ → ℕ → Note
lost_note k l r v n = record { class = k; line = l; range = r; severity = v; lost = n }

abbrev pub note_of : ℕ → ℕ → Range → ℕ → Note
note_of k l r v = lost_note k l r v 0

-- "Book entries in order of making (head: kind ... and number within it, which calls cite; start; length; extra)"
pub record Entry : Type 0 where
  pub kind : ℕ
  pub number : ℕ
  pub start : ℕ
  pub length : ℕ
  pub extra : ℕ

abbrev pub entry : ℕ → ℕ → ℕ → ℕ → ℕ → Entry
entry k n s l x = record { kind = k; number = n; start = s; length = l; extra = x }

-- 50 name, 51 datum, 52 LOAD byte
abbrev pub name_kind : ℕ
name_kind = 50

abbrev pub datum_kind : ℕ
datum_kind = 51

abbrev pub byte_kind : ℕ
byte_kind = 52

pub record Ideal : Type 0 where
  pub records : List Rec
  pub notes : List Note
  pub entries : List Entry
  -- the current line, and its first datum plus 1, 0 while it has none
  pub line : ℕ
  pub first_datum : ℕ

abbrev pub ideal : List Rec → List Note → List Entry → ℕ → ℕ → Ideal
ideal r n b l d = record { records = r; notes = n; entries = b; line = l; first_datum = d }

-- the entries of a kind
unfoldable pub how_many : ℕ → List Entry → ℕ
how_many k [] = zero
how_many k (e ∷ es) = pick (eqb e.kind k) (suc (how_many k es)) (how_many k es)

-- the number that the next entry of a kind gets: what the low 24 bits of its head hold
abbrev pub next_number : ℕ → List Entry → ℕ
next_number k es = how_many k es % payload_size

abbrev pub added : ℕ → List Entry → ℕ → ℕ → ℕ → List Entry
added k es s l x = es ++ (entry k (next_number k es) s l x ∷ [])

-- whether an entry is this name
abbrev pub is_named : List ℕ → Entry → ℕ → ℕ → ℕ → Bool
is_named t e s l x = pick (eqb e.kind name_kind) (same_name t e.start e.length e.extra s l x) false

pub data Search : Type 0 where
  missing : Search
  found : ℕ → Search

-- the first entry that is this name
unfoldable pub find_name : List ℕ → List Entry → ℕ → ℕ → ℕ → Search
find_name t [] s l x = missing
find_name t (e ∷ es) s l x = pick (is_named t e s l x) (found e.number) (find_name t es s l x)

-- the symbol of a name: "50 name as first made"
abbrev pub symbol_in : Search → Ideal → ℕ → ℕ → ℕ → Named Ideal
symbol_in (found n) i s l x = record { state = i; number = n }
symbol_in missing i s l x = record {
  state = ideal i.records i.notes (added name_kind i.entries s l x) i.line i.first_datum;
  number = next_number name_kind i.entries;
}

unfoldable pub symbol_of : List ℕ → Ideal → ℕ → ℕ → ℕ → Named Ideal
symbol_of t i s l x = symbol_in (find_name t i.entries s l x) i s l x

-- the record at an address, changed
unfoldable pub change : (Rec → Rec) → List Rec → ℕ → List Rec
change f [] k = []
change f (r ∷ rs) zero = f r ∷ rs
change f (r ∷ rs) (suc k) = r ∷ change f rs k

abbrev pub with_a : ℕ → Rec → Rec
with_a v r = rec r.call r.line r.range v r.b r.c

abbrev pub with_b : ℕ → Rec → Rec
with_b v r = rec r.call r.line r.range r.a v r.c

abbrev pub with_c : ℕ → Rec → Rec
with_c v r = rec r.call r.line r.range r.a r.b v

-- a pending jump or RESTORE: settled, or without its label
abbrev pub settled : ℕ → Rec → Rec
settled v r = rec r.call r.line r.range v 0 0

abbrev pub unlabelled : Rec → Rec
unlabelled r = rec r.call r.line r.range r.a 0 0

abbrev pub no_range : Range
no_range = record { start = 0; end = 0 }

abbrev pub no_rec : Rec
no_rec = rec 0 0 no_range 0 0 0

abbrev pub look_of : Rec → Look
look_of r = record { call = r.call; line = r.line; b = r.b; c = r.c }

abbrev pub on_records : (List Rec → List Rec) → Ideal → Ideal
on_records f i = ideal (f i.records) i.notes i.entries i.line i.first_datum

-- the line's first datum stays
abbrev pub first_of : ℕ → ℕ → ℕ
first_of zero n = suc n
first_of (suc d) n = suc d

-- the rules' recorder, all but clean_up
abbrev pub ideal_r : List ℕ → (Ideal → Ideal) → Recorder Ideal
ideal_r t clean = record {
  begin_line = λ i l. ideal i.records i.notes i.entries l 0;
  emit = λ i k r a b c. ideal (i.records ++ (rec k i.line r a b c ∷ [])) i.notes i.entries i.line i.first_datum;
  count = λ i. length i.records;
  note = λ i k r v. ideal i.records (i.notes ++ (note_of k i.line r v ∷ [])) i.entries i.line i.first_datum;
  note_at = λ i l k r v. ideal i.records (i.notes ++ (note_of k l r v ∷ [])) i.entries i.line i.first_datum;
  note_lost = λ i k r v n. ideal i.records (i.notes ++ (lost_note k i.line r v n ∷ [])) i.entries i.line i.first_datum;
  symbol = λ i s l x. symbol_of t i s l x;
  datum = λ i s l q. ideal i.records i.notes (added datum_kind i.entries s l q) i.line (first_of i.first_datum (next_number datum_kind i.entries));
  first_datum = λ i. i.first_datum;
  byte = λ i s l v. ideal i.records i.notes (added byte_kind i.entries s l v) i.line i.first_datum;
  next_byte = λ i. next_number byte_kind i.entries;
  patch = λ i k v. on_records (λ rs. change (with_a v) rs k) i;
  patch_end = λ i k v. on_records (λ rs. change (with_c v) rs k) i;
  look = λ i k. look_of (get_or i.records k no_rec);
  settle = λ i k v. on_records (λ rs. change (settled v) rs k) i;
  drop_label = λ i k. on_records (λ rs. change unlabelled rs k) i;
  clean_up = clean;
}
