-- The laws of the searches for labels, a law for each way out.
use mathlib.Core.Path.{◌≡◌, refl, sym, ap, ◌∙◌}
use mathlib.Core.List.{List}
use mathlib.Core.Bool.{Bool, true, false}
use Rattle.std.proofs.Common.{add-zero}
use lib.Dec.{eqb}
use borrow.Author.Tests.{eqb-true, eqb-false}
use Prim.Native.Nat.{ℕ, suc, ◌+◌, ◌*◌, ◌-◌, ◌/◌, ◌%◌, ◌≤◌, ◌<◌, min}
use lib.ListN.{length, get_or, set, take}
use native.Mathlib.Omega.{arith}
use Rattle.std.specs.Prelude.{Option, None, Some}
use Rattle.std.specs.Option.{SomeIff, option_or}
use Rattle.recorder.specs.declared.label.DatumIndex.{DatumIndex}
use Rattle.recorder.specs.Optional.{plus_one}
use Rattle.recorder.specs.Ideal.{Search, missing, found}
use Rattle.recorder.specs.Marks.{Mark, or_else, addr_of, data_of}
use Rattle.labels.specs.MarkWords.{target_found, start_found}
use Rattle.labels.specs.MarksIn.{MarksIn}
use Rattle.labels.specs.Chains.{line_of, label_of, last_in, Chained}
use Rattle.labels.proofs.MarkSearch.{chain_start, chain_step, last_within, or_missing, data_or, datum_here, addrs, addrs_skip, data_skip, Seeking, seek_head, seek_link, word_label, word_link, addr_here, addr_past, data_past}

-- the chains: none yet, one line more
module _ (w : List ℕ) (n m : ℕ) (e : m ≡ min n (length w / 3)) where
  lines_all : (ms : List Mark) → MarksIn w n ms → m ≡ n
  lines_all ms k = omega (arith, e, k.room)

  pub index_start : (h f : ℕ) (ms : List Mark) → h ≡ min f (length w - 3 * m) → (h ≡ 0 → ⊥) → MarksIn w n ms → Chained w m h 0 ms
  index_start h f ms i d k = rw (lines_all ms k) (chain_start w n h ms (omega arith) (omega (arith, i, lines_all ms k, k.room)) k)

  pub index_step : (w' : List ℕ) (h j : ℕ) (ms : List Mark) → j < m → MarksIn w n ms → Chained w' m h j ms
      → Chained (set (set w' (3 * j) (get_or w' (3 * j) 0 % 65536 + 65536 * (get_or w' (3 * m + get_or w' (3 * j) 0 % 65536 % h) 0 % 65536))) (3 * m + get_or w' (3 * j) 0 % 65536 % h) (j % 65536 + 1)) m h (j + 1) ms
  index_step w' h j ms i k c = chain_step w' m h j ms c i (omega (arith, lines_all ms k, k.few)) _ _ refl refl

-- a number less 1, if it is one at least
pub less_one : (o : Option ℕ) (x : ℕ) → SomeIff o (1 ≤ x) (x - 1) → plus_one o ≡ x
less_one None x h = omega (arith, h)
less_one (Some k) x h = omega (arith, h.0, h.1)

-- the words of a line in its chain
module _ (w : List ℕ) (n h : ℕ) (ms : List Mark) (c : Chained w n h n ms) (k : ℕ) (i : k < n) (x : ℕ) (e : x ≡ get_or w (3 * k + 0) 0) where
  inside : k < length ms
  inside = omega (arith, c.count)

  pub label_is : x % 65536 ≡ label_of ms k
  label_is = rw (e, add-zero) (word_label w n h ms c k inside)

  pub link_is : x / 65536 ≡ last_in h ms (label_of ms k % h) k
  link_is = rw (e, add-zero) (word_link w n h ms c k inside)

  pub link_low : k < x / 65536 → ⊥
  link_low g = omega (arith, link_is, last_within h ms (label_of ms k % h) k)

-- on the way down a chain: the line k comes next
module _ (w : List ℕ) (n h l : ℕ) (ms : List Mark) (c : Chained w n h n ms) where
  seeking_within : (f : List Mark → Search) (p k : ℕ) (o : Search) → p ≡ suc k → Seeking f l h ms p o → k < n
  seeking_within f p k o e s = omega (arith, s.within, c.count)

  abbrev pub SeekingAddr : ℕ → Type 0
  SeekingAddr p = Seeking (addrs l) l h ms p (addr_of ms l)

  pub target_start : (p : ℕ) → p ≡ last_in h ms (l % h) n → SeekingAddr p
  target_start p e = seek_head (addrs l) l h ms (addrs_skip l) p n (addr_of ms l) c.count e refl

  pub target_none : (p : ℕ) → p ≡ 0 → SeekingAddr p → None ≡ target_found (addr_of ms l)
  unfolding addr_of
  target_none p e s = ap target_found (ap (λ (x : ℕ). addrs l (take x ms)) (sym e) ∙ s.rest)

  module _ (p k : ℕ) (b : Bool) (e : p ≡ suc k) (d : k < n → b ≡ eqb (label_of ms k) l) (s : SeekingAddr p) where
    here : k < n
    here = seeking_within (addrs l) p k (addr_of ms l) e s

    -- its label is another
    pub target_link : (q : ℕ) → b ≡ false → (k < n → q ≡ last_in h ms (label_of ms k % h) k) → SeekingAddr q
    target_link q t g =
        seek_link (addrs l) l h ms (addrs_skip l) (addrs l) p k q (addr_of ms l) s e (g here)
        (addr_past ms l k (omega (arith, c.count, here)) (eqb-false (label_of ms k) l (sym (d here) ∙ t)))

    pub target_here : (v : ℕ) → b ≡ true → v ≡ get_or w (3 * k + 1) 0 → Some (record { 0 = v }) ≡ target_found (addr_of ms l)
    target_here v t a =
        let z : v ≡ (line_of ms k).addr = a ∙ c.addr k here in
        let y : label_of ms k ≡ l = eqb-true (label_of ms k) l (sym (d here) ∙ t) in
        let q : found (line_of ms k).addr ≡ addr_of ms l = sym (addr_here ms l k (omega (arith, c.count, here)) y) ∙ ap (λ (x : ℕ). addrs l (take x ms)) (sym e) ∙ s.rest in
        ap (λ (x : ℕ). target_found (found x)) z ∙ ap target_found q

-- what an answer says
abbrev pub start_search : Option DatumIndex → Search
start_search None = missing
start_search (Some d) = found d.0

start_again : (o : Option DatumIndex) → o ≡ start_found (start_search o)
start_again None = refl
start_again (Some d) = refl

start_or : (z : Search) (o : Option DatumIndex) → start_search (option_or (start_found z) o) ≡ or_else z (start_search o)
start_or missing o = refl
start_or (found d) o = refl

module _ (w : List ℕ) (n h l : ℕ) (ms : List Mark) (c : Chained w n h n ms) where
  abbrev pub SeekingDatum : ℕ → Option DatumIndex → Type 0
  SeekingDatum p o = Seeking (data_or l (start_search o)) l h ms p (data_of ms l)

  -- its datum
  pub datum_link : (p k q : ℕ) (o o' x : Option DatumIndex) → p ≡ suc k → (k < n → x ≡ start_found (datum_here ms l k)) → o' ≡ option_or x o → (k < n → q ≡ last_in h ms (label_of ms k % h) k)
      → SeekingDatum p o → SeekingDatum q o'
  datum_link p k q o o' x e a b g s =
      let i = seeking_within w n h l ms c (data_or l (start_search o)) p k _ e s in
      let z : start_search o' ≡ or_else (datum_here ms l k) (start_search o) = ap start_search (b ∙ ap (λ (y : Option DatumIndex). option_or y o) (a i)) ∙ start_or (datum_here ms l k) o in
      seek_link (data_or l (start_search o')) l h ms (data_skip l (start_search o')) (data_or l (start_search o)) p k q (data_of ms l) s e (g i)
      (ap (λ (y : Search). data_or l y (take k ms)) z ∙ data_past ms l k (start_search o) (omega (arith, c.count, i)))

  pub datum_start_lem : (p : ℕ) → p ≡ last_in h ms (l % h) n → SeekingDatum p None
  datum_start_lem p e = seek_head (data_or l missing) l h ms (data_skip l missing) p n (data_of ms l) c.count e (or_missing (data_of ms l))

  pub datum_end : (p : ℕ) (o : Option DatumIndex) → p ≡ 0 → SeekingDatum p o → o ≡ start_found (data_of ms l)
  unfolding data_of
  datum_end p o e s = start_again o ∙ ap start_found (ap (λ (x : ℕ). data_or l (start_search o) (take x ms)) (sym e) ∙ s.rest)
