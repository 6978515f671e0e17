-- What the first and the third demand ask of a call, in terms of `outcome`.
use Rattle.std.specs.Prelude.{◌≡◌, List, ℕ, ◌≤◌, length}
use Rattle.recorder.specs.Layout.{words_of, rec_words, fill}
use Rattle.rules.specs.Outcome.{Outcome, Lengths, refused, accepted, finished, outcome}
use Rattle.rules.specs.Demand.{ExactlyOne, statement_addrs}

-- "either the finished list, notes and book with zeros behind them, or zeros throughout beside one of document 01's eleven refusals"
pub data Ended (s t : List ℕ) (L : Lengths) : Outcome → Type 0 where
  whole : Ended s t L (accepted (finished s t) L)
  none : (k p : ℕ) → 1 ≤ k → k ≤ 11 → p ≤ length s → Ended s t L (refused k p L)

-- the list that is left, and its piles
pub record Piled (s t : List ℕ) (L : Lengths) : Type 0 where
  pub words : (outcome s t L).list ≡ fill L.list (words_of rec_words (finished s t).records)
  pub count : (outcome s t L).answer.records ≡ length (finished s t).records
  pub piles : ExactlyOne (statement_addrs s t) (finished s t).entries (finished s t).records
