-- How much a sheet of so many words can make: "Three times a form's records never exceed four times its sheet's words"
-- (document 02), at most two notes a word, at most one entry a word.
use Rattle.std.specs.Prelude.{ℕ, ◌*◌, ◌/◌, ◌≤◌, length}
use Rattle.recorder.specs.Ideal.{Ideal}
use Rattle.recorder.specs.Layout.{rec_size, note_size, entry_size}
use Rattle.rules.specs.Outcome.{Lengths}

pub record Bounded (words : ℕ) (i : Ideal) : Type 0 where
  pub records : 3 * length i.records ≤ 4 * words
  pub notes : length i.notes ≤ 2 * words
  pub entries : length i.entries ≤ words

-- lent buffers that hold so much; a sheet of more words could make more than 65,535 records
pub record Ample (words : ℕ) (L : Lengths) : Type 0 where
  pub few : words ≤ 49151
  pub list : rec_size * (4 * words / 3) ≤ L.list
  pub notes : note_size * (2 * words) ≤ L.notes
  pub book : entry_size * words ≤ L.book
