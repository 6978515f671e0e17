-- The labelled lines in words, three each, and the answers of the searches for a label.
use Rattle.std.specs.Prelude.{List, [], ◌∷◌, ℕ, ◌+◌, ◌*◌, ◌/◌, min, ltb, length, set, Option, None, Some}
use Rattle.recorder.specs.declared.label.Addr.{Addr}
use Rattle.recorder.specs.declared.label.DatumIndex.{DatumIndex}
use Rattle.recorder.specs.Word.{pick}
use Rattle.recorder.specs.Ideal.{Search, missing, found}
use Rattle.recorder.specs.Marks.{Mark}

-- label, address of its first record, first datum plus 1
abbrev pub mark_words : Mark → List ℕ
mark_words m = m.label ∷ m.addr ∷ m.first ∷ []

-- the answers of the two searches
abbrev pub target_found : Search → Option Addr
target_found missing = None
target_found (found a) = Some (record { 0 = a })

abbrev pub start_found : Search → Option DatumIndex
start_found missing = None
start_found (found d) = Some (record { 0 = d })

unfoldable pub mark_list : List ℕ → ℕ → ℕ → ℕ → ℕ → List ℕ
mark_list w n l a f = pick (ltb n (length w / 3)) (set (set (set w (3 * n) l) (3 * n + 1) a) (3 * n + 2) f) w

unfoldable pub mark_count : List ℕ → ℕ → ℕ
mark_count w n = pick (ltb n (length w / 3)) (n + 1) n

-- the labelled lines that the words have
abbrev pub marked_lines : List ℕ → ℕ → ℕ
marked_lines w n = min n (length w / 3)
