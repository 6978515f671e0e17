-- The labelled lines as they stand in the work while labels are looked up: in chains.
use Rattle.std.specs.Prelude.{◌≡◌, List, true, ℕ, zero, suc, ◌+◌, ◌*◌, ◌-◌, ◌/◌, ◌%◌, ◌≤◌, ◌<◌, min, ltb, eqb, length, get_or}
use Rattle.recorder.specs.Numbers.{label_size}
use Rattle.recorder.specs.Word.{pick}
use Rattle.recorder.specs.Marks.{Mark, mark}
use Rattle.labels.specs.MarksIn.{narrow}

-- the line k, and its label
abbrev pub line_of : List Mark → ℕ → Mark
line_of ms k = get_or ms k (mark 0 0 0)

abbrev pub label_of : List Mark → ℕ → ℕ
label_of ms k = (line_of ms k).label

-- the chain b of h has the lines whose label leaves b when divided by h: the last of the first j lines in it, plus 1, or 0
unfoldable pub last_in : ℕ → List Mark → ℕ → ℕ → ℕ
last_in h ms b zero = 0
last_in h ms b (suc j) = pick (eqb (label_of ms j % h) b) (suc j) (last_in h ms b j)

-- with the first j lines in chains, the line before line k in its chain, plus 1, or 0
abbrev pub link_of : ℕ → ℕ → List Mark → ℕ → ℕ
link_of h j ms k = pick (ltb k j) (last_in h ms (label_of ms k % h) k) 0

-- n labelled lines, of which the first j are in h chains: a line's label word holds its link above its label, 16 bits each, and the
-- last line of each chain, plus 1, stands behind the lines
pub record Chained (w : List ℕ) (n h j : ℕ) (ms : List Mark) : Type 0 where
  pub count : n ≡ length ms
  pub labels : narrow ms ≡ true
  pub some : 0 < h
  pub room : 3 * n + h ≤ length w
  pub label : (k : ℕ) → k < n → get_or w (3 * k) 0 ≡ label_of ms k + label_size * link_of h j ms k
  pub addr : (k : ℕ) → k < n → get_or w (3 * k + 1) 0 ≡ (line_of ms k).addr
  pub first : (k : ℕ) → k < n → get_or w (3 * k + 2) 0 ≡ (line_of ms k).first
  pub heads : (b : ℕ) → b < h → get_or w (3 * n + b) 0 ≡ last_in h ms b j

-- So many chains for n lines in so many words: two for each and some, one more than a multiple of 30, but no more than words are free.
abbrev pub chain_count : ℕ → ℕ → ℕ
chain_count n words = min (n / 15 * 30 + 31) (words - 3 * n)
