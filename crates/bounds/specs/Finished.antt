-- What holds of each record and note of a finished form: severities, how much of a name was lost, labels that no call keeps, line
-- indexes that no head cuts.
use Rattle.std.specs.Prelude.{◌≡◌, ◌≢◌, ℕ, ◌+◌, ◌-◌, ◌*◌, ◌≤◌, ◌<◌, ◌⊎◌, Bool, true, List, length, ◌==◌}
use Rattle.recorder.specs.Numbers.{payload_size, sheet_limit}
use Rattle.recorder.specs.Word.{either, word_of}
use Rattle.recorder.specs.Calls.{goto_call, gosub_call, restore_call, error_note, warning_note, blank_in_name}
use Rattle.recorder.specs.Ideal.{Rec, Note}
use Rattle.sheet.specs.Tree.{program_at}
use Rattle.rules.specs.Name.{sigil_count, read_name}

-- "1 error or 2 warning"
abbrev pub ErrorOrWarning : ℕ → Type 0
ErrorOrWarning v = (v ≡ error_note) ⊎ (v ≡ warning_note)

-- the calls that may wait for a label
abbrev pub waits_for_label : ℕ → Bool
waits_for_label k = either (k == goto_call) (either (k == gosub_call) (k == restore_call))

-- "three arguments (0 where unused)": such a call keeps neither a label nor its range
abbrev pub Unlabelled : Rec → Type 0
Unlabelled r = waits_for_label r.call ≡ true → (r.b ≡ 0) × (r.c ≡ 0)

-- "the number of units left out, from the first blank up to a sigil or the end": a note of class 10 on a line that begins at `base`
-- has so many that its name's range is the units kept, those, and the sigil if there is one. "All other notes keep 0 there". That the
-- first left out is a blank says `names_cut` (crates/items/proofs/Names.antt).
pub record LostUnits (t : List ℕ) (base : ℕ) (n : Note) : Type 0 where
  pub other : n.class ≢ blank_in_name → n.lost ≡ 0
  pub some : n.class ≡ blank_in_name → 0 < n.lost
  pub whole : n.class ≡ blank_in_name
      → n.range.start + (read_name t base n.range).name.len + n.lost + sigil_count (read_name t base n.range).name.sigil ≡ n.range.end

-- "the line index from 0": the index of one of the sheet's lines, or 0 if it has none, which a head's 24 bits hold
pub record LineOf (s : List ℕ) (l : ℕ) : Type 0 where
  pub among : l ≤ length (program_at s) - 1
  pub short : l < sheet_limit
  pub exact : (k : ℕ) → word_of k l ≡ k * payload_size + l
