-- The labelled lines as they stand in the work.
use Rattle.std.specs.Prelude.{◌≡◌, List, [], ◌∷◌, Bool, true, ℕ, ◌*◌, ◌<◌, ltb, length}
use Rattle.recorder.specs.Numbers.{label_size, sheet_limit}
use Rattle.recorder.specs.Word.{both}
use Rattle.recorder.specs.Layout.{words_of, fill}
use Rattle.recorder.specs.Marks.{Mark}
use Rattle.labels.specs.MarkWords.{mark_words}

-- every label has 16 bits
unfoldable pub narrow : List Mark → Bool
narrow [] = true
narrow (m ∷ ms) = both (ltb m.label label_size) (narrow ms)

-- n labelled lines, whose numbers have 16 bits, and zeros behind, one at least
pub record MarksIn (w : List ℕ) (n : ℕ) (ms : List Mark) : Type 0 where
  pub words : w ≡ fill (length w) (words_of mark_words ms)
  pub count : n ≡ length ms
  pub labels : narrow ms ≡ true
  pub few : n < sheet_limit
  pub room : 3 * n < length w
