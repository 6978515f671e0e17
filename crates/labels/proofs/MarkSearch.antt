-- Looking a label up in chains of the labelled lines is looking it up among the lines.
use mathlib.Core.Path.{◌≡◌, refl, sym, ap, ◌∙◌}
use mathlib.Core.List.{List, [], ◌∷◌, ◌++◌}
use mathlib.Core.Bool.{Bool, true, false}
use Prim.Native.Nat.{ℕ, zero, suc, ◌+◌, ◌*◌, ◌-◌, ◌≤◌, ◌<◌, ◌/◌, ◌%◌}
use lib.Dec.{ltb, eqb}
use lib.ListN.{length, get_or, set, take, replicate, length-append, length-set, get_or-replicate}
use lib.Seq.{take-suc, take-length, get_or-append-add, get_or-set_same, get_or-set_other}
use borrow.Author.Tests.{lt-ltb, le-ltb, eq-eqb, ne_eqb, ltb-true, eqb-true, eqb-false}
use native.Mathlib.Decide.{dec_lt}
use native.Mathlib.Nat.{mod-lt}
use native.Mathlib.Numerals.{add-one, add-two}
use native.Mathlib.Omega.{arith}
use Rattle.recorder.proofs.Words.{sets_fill, words_snoc}
use Rattle.recorder.specs.Word.{pick}
use Rattle.recorder.specs.Ideal.{Search, missing, found}
use Rattle.recorder.specs.Layout.{words_of, fill}
use Rattle.recorder.specs.Marks.{Mark, mark, or_else, addr_of, datum_from, data_of}
use Rattle.recorder.proofs.Bools.{both_left, both_right}
use Rattle.labels.specs.MarkWords.{mark_words, mark_list, mark_count}
use Rattle.labels.specs.MarksIn.{narrow, MarksIn}
use Rattle.labels.specs.Chains.{line_of, label_of, last_in, link_of, Chained}

length_marks : (ms : List Mark) → length (words_of mark_words ms) ≡ 3 * length ms
length_marks [] = refl
length_marks (m ∷ ms) = omega (arith, length_marks ms)

-- the words of the k-th line
mark_at : (ms : List Mark) (zs : List ℕ) (k : ℕ) → k < length ms
    → (get_or (words_of mark_words ms ++ zs) (3 * k) 0 ≡ label_of ms k) × (get_or (words_of mark_words ms ++ zs) (3 * k + 1) 0 ≡ (line_of ms k).addr)
    × (get_or (words_of mark_words ms ++ zs) (3 * k + 2) 0 ≡ (line_of ms k).first)
mark_at [] zs k h = absurd (omega arith)
mark_at (m ∷ ms) zs zero h = (refl, refl, refl)
mark_at (m ∷ ms) zs (suc k) h =
    let e0 : 3 * suc k ≡ suc (suc (suc (3 * k))) = omega arith in
    let e1 : 3 * suc k + 1 ≡ suc (suc (suc (3 * k + 1))) = omega arith in
    let e2 : 3 * suc k + 2 ≡ suc (suc (suc (3 * k + 2))) = omega arith in
    let q = mark_at ms zs k (omega arith) in
    (rw e0 q.0, rw e1 q.1, rw e2 q.2)

-- one line more, where the words have room for it
pub mark_put : (ms : List Mark) (size : ℕ) (w : List ℕ) (n l a f : ℕ) → w ≡ fill size (words_of mark_words ms) → length w ≡ size → n ≡ length ms → n < size / 3
    → (mark_list w n l a f ≡ fill size (words_of mark_words (ms ++ (mark l a f ∷ [])))) × (mark_count w n ≡ length (ms ++ (mark l a f ∷ [])))
unfolding mark_list mark_count
mark_put ms size w n l a f e h i j =
    let k : length (words_of mark_words ms) ≡ 3 * n = length_marks ms ∙ ap (λ (z : ℕ). 3 * z) (sym i) in (
      rw (h, lt-ltb n (size / 3) j, e, add-one (3 * n), add-two (3 * n), ← k)
          (sets_fill size (l ∷ a ∷ f ∷ []) (words_of mark_words ms) (omega arith) ∙ ap (λ (z : List ℕ). fill size z) (sym (words_snoc mark_words ms (mark l a f)))),
      rw (h, lt-ltb n (size / 3) j) (omega (arith, length-append ms (mark l a f ∷ []))),
    )

pub label_narrow : (ms : List Mark) (k : ℕ) → narrow ms ≡ true → k < length ms → label_of ms k < 65536
unfolding narrow
label_narrow [] k r h = absurd (omega arith)
label_narrow (m ∷ ms) zero r h = ltb-true m.label 65536 (both_left (ltb m.label 65536) (narrow ms) r)
label_narrow (m ∷ ms) (suc k) r h = label_narrow ms k (both_right (ltb m.label 65536) (narrow ms) r) (omega arith)

-- the last line of a chain: it is one of the first j, and in that chain
pub last_within : (h : ℕ) (ms : List Mark) (b j : ℕ) → last_in h ms b j ≤ j
unfolding last_in
last_within h ms b zero = omega arith
last_within h ms b (suc j) = go (eqb (label_of ms j % h) b) (last_within h ms b j)
  where
    go : (c : Bool) → last_in h ms b j ≤ j → pick c (suc j) (last_in h ms b j) ≤ suc j
    go true i = omega arith
    go false i = omega arith

last_chain : (h : ℕ) (ms : List Mark) (b j k : ℕ) → last_in h ms b j ≡ suc k → label_of ms k % h ≡ b
unfolding last_in
last_chain h ms b zero k e = absurd (omega arith)
last_chain h ms b (suc j) k e = go (eqb (label_of ms j % h) b) refl e (last_chain h ms b j k)
  where
    go : (c : Bool) → eqb (label_of ms j % h) b ≡ c → pick c (suc j) (last_in h ms b j) ≡ suc k → (last_in h ms b j ≡ suc k → label_of ms k % h ≡ b) → label_of ms k % h ≡ b
    go true f g i = let z : k ≡ j = omega arith in rw z (eqb-true (label_of ms j % h) b f)
    go false f g i = i g

last_here : (h : ℕ) (ms : List Mark) (j : ℕ) → last_in h ms (label_of ms j % h) (j + 1) ≡ j + 1
unfolding last_in
last_here h ms j = rw (add-one j, eq-eqb (label_of ms j % h) (label_of ms j % h) refl)

last_other : (h : ℕ) (ms : List Mark) (b j : ℕ) → (label_of ms j % h ≡ b → ⊥) → last_in h ms b (j + 1) ≡ last_in h ms b j
unfolding last_in
last_other h ms b j d = rw (add-one j, ne_eqb (label_of ms j % h) b d)

-- before the first line is in its chain
pub chain_start : (w : List ℕ) (n h : ℕ) (ms : List Mark) → 0 < h → 3 * n + h ≤ length w → MarksIn w n ms → Chained w n h 0 ms
unfolding last_in
chain_start w n h ms s r m =
    let xs = words_of mark_words ms in
    let zs : List ℕ = replicate (length w - length (words_of mark_words ms)) 0 in
    let e : w ≡ xs ++ zs = m.words in
    let three : 3 * n ≡ length xs = omega (arith, length_marks ms, m.count) in
    let at : (k : ℕ) → k < n → (get_or w (3 * k) 0 ≡ label_of ms k) × (get_or w (3 * k + 1) 0 ≡ (line_of ms k).addr) × (get_or w (3 * k + 2) 0 ≡ (line_of ms k).first) =
    λ k i. rw e (mark_at ms zs k (omega (arith, m.count))) in
    record {
      count = m.count;
      labels = m.labels;
      some = s;
      room = r;
      label = λ k i. rw (le-ltb k 0 (omega arith)) ((at k i).0 ∙ omega arith);
      addr = λ k i. (at k i).1;
      first = λ k i. (at k i).2;
      heads = λ b i. ap (λ (z : List ℕ). get_or z (3 * n + b) 0) e ∙ ap (λ (z : ℕ). get_or (xs ++ zs) (z + b) 0) three
          ∙ get_or-append-add xs zs b 0 ∙ get_or-replicate (length w - length xs) b 0 0 (omega arith);
    }

-- two words stored
module _ (w : List ℕ) (a p u v : ℕ) where
  elsewhere : (x : ℕ) → (x ≡ a → ⊥) → (x ≡ p → ⊥) → get_or (set (set w a u) p v) x 0 ≡ get_or w x 0
  elsewhere x d e = get_or-set_other (set w a u) p x v 0 e ∙ get_or-set_other w a x u 0 d

  at_first_lem : (a ≡ p → ⊥) → a < length w → get_or (set (set w a u) p v) a 0 ≡ u
  at_first_lem d i = get_or-set_other (set w a u) p a v 0 d ∙ get_or-set_same w a u 0 i

  at_second : p < length w → get_or (set (set w a u) p v) p 0 ≡ v
  at_second i = get_or-set_same (set w a u) p v 0 (simp length-set i)

link_same : (h j : ℕ) (ms : List Mark) (k : ℕ) → (k ≡ j → ⊥) → link_of h j ms k ≡ link_of h (j + 1) ms k
link_same h j ms k d = go (dec_lt k j)
  where
    go : Dec (k < j) → link_of h j ms k ≡ link_of h (j + 1) ms k
    go (yes i) = rw (lt-ltb k j i, lt-ltb k (j + 1) (omega arith))
    go (no i) = rw (le-ltb k j (omega arith), le-ltb k (j + 1) (above (dec_lt j k)))
      where
        above : Dec (j < k) → j + 1 ≤ k
        above (yes z) = omega arith
        above (no z) = absurd (d (omega arith))

-- line j becomes the head of its chain
module _ (w : List ℕ) (n h j : ℕ) (ms : List Mark) (c : Chained w n h j ms) (i : j < n) where
  own : get_or w (3 * j) 0 ≡ label_of ms j
  own = c.label j i ∙ rw (le-ltb j j (omega arith)) (omega arith)

  own_label : get_or w (3 * j) 0 % 65536 ≡ label_of ms j
  own_label = omega (arith, own, label_narrow ms j c.labels (omega (arith, c.count)))

  own_chain : label_of ms j % h < h
  own_chain = mod-lt (label_of ms j) c.some

  module _ (few : n < 65536) where
    abbrev after : ℕ → List ℕ
    after v = set (set w (3 * j) (label_of ms j + 65536 * v)) (3 * n + label_of ms j % h) (j % 65536 + 1)

    after_label : (v k : ℕ) → v ≡ last_in h ms (label_of ms j % h) j → k < n → get_or (after v) (3 * k) 0 ≡ label_of ms k + 65536 * link_of h (j + 1) ms k
    after_label v k e d = go (dec_lt k j) (dec_lt j k)
      where
        same : (k ≡ j → ⊥) → get_or (after v) (3 * k) 0 ≡ label_of ms k + 65536 * link_of h (j + 1) ms k
        same z = elsewhere w (3 * j) (3 * n + label_of ms j % h) _ _ (3 * k) (λ y. z (omega arith)) (λ y. omega arith)
            ∙ c.label k d ∙ ap (λ (x : ℕ). label_of ms k + 65536 * x) (link_same h j ms k z)

        go : Dec (k < j) → Dec (j < k) → get_or (after v) (3 * k) 0 ≡ label_of ms k + 65536 * link_of h (j + 1) ms k
        go (yes z) y = same (λ x. omega arith)
        go (no z) (yes y) = same (λ x. omega arith)
        go (no z) (no y) =
            let q : k ≡ j = omega arith in
            rw (q, lt-ltb j (j + 1) (omega arith)) (at_first_lem w (3 * j) (3 * n + label_of ms j % h) _ _ (λ x. omega arith) (omega (arith, c.room)) ∙ ap (λ (x : ℕ). label_of ms j + 65536 * x) e)

    after_head : (v b : ℕ) → b < h → get_or (after v) (3 * n + b) 0 ≡ last_in h ms b (j + 1)
    after_head v b d = go (eqb (label_of ms j % h) b) refl
      where
        go : (t : Bool) → eqb (label_of ms j % h) b ≡ t → get_or (after v) (3 * n + b) 0 ≡ last_in h ms b (j + 1)
        go true e =
            let q = eqb-true (label_of ms j % h) b e in
            let r : j % 65536 + 1 ≡ j + 1 = omega arith in
            rw (← q) (at_second w (3 * j) (3 * n + label_of ms j % h) _ _ (omega (arith, own_chain, c.room)) ∙ r ∙ sym (last_here h ms j))
        go false e =
            let q = eqb-false (label_of ms j % h) b e in
            elsewhere w (3 * j) (3 * n + label_of ms j % h) _ _ (3 * n + b) (λ y. omega arith) (λ y. q (omega arith)) ∙ c.heads b d ∙ sym (last_other h ms b j q)

    linked : (v : ℕ) → v ≡ last_in h ms (label_of ms j % h) j → Chained (after v) n h (j + 1) ms
    linked v e = record {
      count = c.count;
      labels = c.labels;
      some = c.some;
      room = simp length-set c.room;
      label = λ k d. after_label v k e d;
      addr = λ k d. elsewhere w (3 * j) (3 * n + label_of ms j % h) _ _ (3 * k + 1) (λ y. omega arith) (λ y. omega arith) ∙ c.addr k d;
      first = λ k d. elsewhere w (3 * j) (3 * n + label_of ms j % h) _ _ (3 * k + 2) (λ y. omega arith) (λ y. omega arith) ∙ c.first k d;
      heads = λ b d. after_head v b d;
    }

    own_link : get_or w (3 * n + label_of ms j % h) 0 % 65536 ≡ last_in h ms (label_of ms j % h) j
    own_link = omega (arith, c.heads (label_of ms j % h) own_chain, last_within h ms (label_of ms j % h) j)

    pub chain_step : (l p : ℕ) → l ≡ get_or w (3 * j) 0 % 65536 → p ≡ 3 * n + l % h
        → Chained (set (set w (3 * j) (l + 65536 * (get_or w p 0 % 65536))) p (j % 65536 + 1)) n h (j + 1) ms
    chain_step l p e f = rw (f, e, own_label) (linked (get_or w (3 * n + label_of ms j % h) 0 % 65536) own_link)

-- the searches of the rules, with one line more behind
or_assoc : (a b c : Search) → or_else (or_else a b) c ≡ or_else a (or_else b c)
or_assoc (found n) b c = refl
or_assoc missing b c = refl

pub or_missing : (o : Search) → or_else o missing ≡ o
or_missing (found n) = refl
or_missing missing = refl

addr_snoc : (xs : List Mark) (m : Mark) (l : ℕ) → addr_of (xs ++ (m ∷ [])) l ≡ or_else (pick (eqb m.label l) (found m.addr) missing) (addr_of xs l)
unfolding addr_of
addr_snoc [] m l = sym (or_missing (pick (eqb m.label l) (found m.addr) missing))
addr_snoc (x ∷ xs) m l = rw (addr_snoc xs m l) (or_assoc (pick (eqb m.label l) (found m.addr) missing) (addr_of xs l) (pick (eqb x.label l) (found x.addr) missing))

data_snoc : (xs : List Mark) (m : Mark) (l : ℕ) → data_of (xs ++ (m ∷ [])) l ≡ or_else (data_of xs l) (pick (eqb m.label l) (datum_from m.first) missing)
unfolding data_of
data_snoc [] m l = or_missing (pick (eqb m.label l) (datum_from m.first) missing)
data_snoc (x ∷ xs) m l = rw (data_snoc xs m l) (sym (or_assoc (pick (eqb x.label l) (datum_from x.first) missing) (data_of xs l) (pick (eqb m.label l) (datum_from m.first) missing)))

-- what a search of the lines makes of them, with what was found behind them
abbrev pub data_or : ℕ → Search → List Mark → Search
data_or l d xs = or_else (data_of xs l) d

abbrev pub addrs : ℕ → List Mark → Search
addrs l xs = addr_of xs l

-- a line with another label makes no difference
abbrev pub Skips : ℕ → (List Mark → Search) → Type 0
Skips l f = (xs : List Mark) (m : Mark) → (m.label ≡ l → ⊥) → f (xs ++ (m ∷ [])) ≡ f xs

pub addrs_skip : (l : ℕ) → Skips l (addrs l)
addrs_skip l xs m d = addr_snoc xs m l ∙ rw (ne_eqb m.label l d)

pub data_skip : (l : ℕ) (d : Search) → Skips l (data_or l d)
data_skip l d xs m z = rw (data_snoc xs m l, ne_eqb m.label l z, or_missing (data_of xs l))

-- on the way down the chain of the label l: the lines before p decide
pub record Seeking (f : List Mark → Search) (l h : ℕ) (ms : List Mark) (p : ℕ) (o : Search) : Type 0 where
  pub within : p ≤ length ms
  pub chain : (k : ℕ) → p ≡ suc k → label_of ms k % h ≡ l % h
  pub rest : f (take p ms) ≡ o

module _ (f : List Mark → Search) (l h : ℕ) (ms : List Mark) (s : Skips l f) where
  -- the lines between the last of the chain and the j-th have other labels
  between : (j : ℕ) → j ≤ length ms → f (take (last_in h ms (l % h) j) ms) ≡ f (take j ms)
  unfolding last_in
  between zero i = refl
  between (suc j) i = go (eqb (label_of ms j % h) (l % h)) refl (between j (omega arith))
    where
      go : (c : Bool) → eqb (label_of ms j % h) (l % h) ≡ c → f (take (last_in h ms (l % h) j) ms) ≡ f (take j ms) → f (take (pick c (suc j) (last_in h ms (l % h) j)) ms) ≡ f (take (suc j) ms)
      go true e g = refl
      go false e g =
          let d : (label_of ms j ≡ l → ⊥) = λ z. eqb-false (label_of ms j % h) (l % h) e (ap (λ (x : ℕ). x % h) z) in
          g ∙ sym (s (take j ms) (line_of ms j) d) ∙ ap f (sym (take-suc ms j (mark 0 0 0) i))

  seeking : (p j : ℕ) (o : Search) → j ≤ length ms → p ≡ last_in h ms (l % h) j → f (take j ms) ≡ o → Seeking f l h ms p o
  seeking p j o i e g = record {
    within = omega (arith, last_within h ms (l % h) j);
    chain = λ k q. last_chain h ms (l % h) j k (sym e ∙ q);
    rest = ap (λ (z : ℕ). f (take z ms)) e ∙ between j i ∙ g;
  }

  -- from the head on: all lines
  pub seek_head : (p n : ℕ) (o : Search) → n ≡ length ms → p ≡ last_in h ms (l % h) n → f ms ≡ o → Seeking f l h ms p o
  seek_head p n o e g d = seeking p n o (omega arith) g (ap (λ (z : ℕ). f (take z ms)) e ∙ ap f (take-length ms) ∙ d)

  -- from a line to the one before it, where what it has is no more asked
  pub seek_link : (e : List Mark → Search) (p k q : ℕ) (o : Search) → Seeking e l h ms p o → p ≡ suc k → q ≡ last_in h ms (label_of ms k % h) k
      → f (take k ms) ≡ e (take (suc k) ms) → Seeking f l h ms q o
  seek_link e p k q o c i g d = seeking q k o (omega (arith, c.within)) (g ∙ ap (λ (z : ℕ). last_in h ms z k) (c.chain k i)) (d ∙ ap (λ (z : ℕ). e (take z ms)) (sym i) ∙ c.rest)

-- the words of a line in its chain
module _ (w : List ℕ) (n h : ℕ) (ms : List Mark) (c : Chained w n h n ms) (k : ℕ) (i : k < length ms) where
  label_word : get_or w (3 * k) 0 ≡ label_of ms k + 65536 * last_in h ms (label_of ms k % h) k
  label_word = c.label k (omega (arith, c.count)) ∙ rw (lt-ltb k n (omega (arith, c.count)))

  pub word_label : get_or w (3 * k) 0 % 65536 ≡ label_of ms k
  word_label = omega (arith, label_word, label_narrow ms k c.labels i)

  pub word_link : get_or w (3 * k) 0 / 65536 ≡ last_in h ms (label_of ms k % h) k
  word_link = omega (arith, label_word, label_narrow ms k c.labels i)

-- the line k itself
pub addr_here : (ms : List Mark) (l k : ℕ) → k < length ms → label_of ms k ≡ l → addrs l (take (suc k) ms) ≡ found (line_of ms k).addr
addr_here ms l k i e = rw (take-suc ms k (mark 0 0 0) i, addr_snoc (take k ms) (line_of ms k) l, eq-eqb (label_of ms k) l e)

pub addr_past : (ms : List Mark) (l k : ℕ) → k < length ms → (label_of ms k ≡ l → ⊥) → addrs l (take k ms) ≡ addrs l (take (suc k) ms)
addr_past ms l k i d = rw (take-suc ms k (mark 0 0 0) i) (sym (addrs_skip l (take k ms) (line_of ms k) d))

-- the datum behind the lines before k: line k's where it has one and that label
abbrev pub datum_here : List Mark → ℕ → ℕ → Search
datum_here ms l k = pick (eqb (label_of ms k) l) (datum_from (line_of ms k).first) missing

pub data_past : (ms : List Mark) (l k : ℕ) (d : Search) → k < length ms → data_or l (or_else (datum_here ms l k) d) (take k ms) ≡ data_or l d (take (suc k) ms)
data_past ms l k d i = rw (take-suc ms k (mark 0 0 0) i, data_snoc (take k ms) (line_of ms k) l) (sym (or_assoc (data_of (take k ms) l) (datum_here ms l k) d))
