-- The tree of the names in the book: what it says, that the descent through it comes to a name, and what a new entry does to it.
use mathlib.Core.Path.{◌≡◌, refl, sym, ap, ◌∙◌}
use mathlib.Core.List.{List}
use mathlib.Core.Bool.{Bool, true, false}
use Prim.Native.Nat.{ℕ, zero, suc, ◌+◌, ◌*◌, ◌-◌, ◌≤◌, ◌<◌, ◌/◌, ◌%◌, min}
use lib.Dec.{ltb, eqb}
use lib.ListN.{length, get_or, set, length-set}
use lib.Seq.{get_or-set_same, get_or-set_other}
use borrow.Author.Tests.{lt-ltb, le-ltb, ltb-true, eqb-true, eq-eqb, ne_eqb}
use native.Mathlib.Decide.{dec_lt, ℕ_discrete}
use native.Mathlib.Numerals.{add-one}
use native.Mathlib.Omega.{arith}
use Rattle.recorder.specs.declared.codegen.Descent.{Descent}
use Rattle.recorder.specs.declared.codegen.State.{State}
use Rattle.recorder.specs.Word.{pick, both, kind, kind_at, next}
use Rattle.recorder.specs.Optional.{plus_one}
use Rattle.recorder.specs.Name.{upper, same_units, same_name}
use Rattle.recorder.specs.Mem.{entries_in, root_in, four, sigil_code, sigil_of, link_of, with_link, known, tag_of, name_tag, named_at, lookup, hash_step, hash_of, child_of, has_child, descent_from, descent_to, entry_of, may_link, linked_at, linked, root_of}
use Rattle.recorder.proofs.Bools.{true_not_false, both_parts, both_false}

pick_true : (c a : Bool) → pick c a false ≡ true → (c ≡ true) × (a ≡ true)
pick_true true a e = (refl, e)
pick_true false a e = true_not_false (sym e)

is_false : (c : Bool) → (c ≡ true → ⊥) → c ≡ false
is_false true h = absurd (h refl)
is_false false h = refl

-- the link of an entry on a side, and the side that a name's bits choose
abbrev pub link_from : List ℕ → Bool → ℕ → ℕ
link_from b h k = link_of h (get_or b (4 * k + 3) 0)

abbrev pub side : ℕ → Bool
side bits = ltb 2147483647 bits

-- the bits of the name that an entry is
abbrev pub turns_at : List ℕ → List ℕ → ℕ → ℕ
turns_at t b k = hash_of t (get_or b (4 * k + 1) 0) (get_or b (4 * k + 3) 0 % 4) (get_or b (4 * k + 2) 0)

-- an entry is reached by bits: links that rise lead to it
pub data Reach (b : List ℕ) (i : ℕ) : ℕ → ℕ → Type 0 where
  here : {at bits : ℕ} → at ≡ i → Reach b i at bits
  onto : {at bits : ℕ} → at < link_from b (side bits) at → Reach b i (link_from b (side bits) at) (bits * 2 % 4294967296) → Reach b i at bits

reach_le : {b : List ℕ} {i at bits : ℕ} → Reach b i at bits → at ≤ i
reach_le (here e) = omega arith
reach_le (onto h r) = omega (arith, reach_le r)

-- the tree: the names below 32,768 are reached from the first; a link leads to a name; a name has its tag, and no kind is 50
pub record Tree (t b : List ℕ) (n root : ℕ) : Type 0 where
  pub none : root ≡ 0 → (k : ℕ) → k < n → k < 32768 → 127 < kind_at b (4 * k) → ⊥
  pub first : 0 < root → (root - 1 < n) × (root - 1 < 32768) × (127 < kind_at b (4 * (root - 1)))
  pub reached : 0 < root → (k : ℕ) → k < n → k < 32768 → 127 < kind_at b (4 * k) → Reach b k (root - 1) (turns_at t b k)
  pub links : (k : ℕ) → k < n → 127 < kind_at b (4 * k) → (h : Bool) → 0 < link_from b h k
      → (link_from b h k < n) × (link_from b h k < 32768) × (127 < kind_at b (4 * link_from b h k))
  pub sigils : (k : ℕ) → k < n → 127 < kind_at b (4 * k) → sigil_code (sigil_of (get_or b (4 * k + 3) 0 % 4)) ≡ get_or b (4 * k + 3) 0 % 4
  pub tags : (k : ℕ) → k < n → 127 < kind_at b (4 * k) → kind_at b (4 * k) ≡ tag_of (turns_at t b k)
  pub kinds : (k : ℕ) → k < n → kind_at b (4 * k) ≡ 50 → ⊥

pub tag_high : (h : ℕ) → 127 < tag_of h
tag_high h = omega arith

-- equal names have the same bits
same_turns : (t : List ℕ) (a c h n : ℕ) → same_units t a c n ≡ true → hash_of t a h n ≡ hash_of t c h n
unfolding same_units hash_of
same_turns t a c h zero e = refl
same_turns t a c h (suc n) e =
    let p = pick_true (eqb (upper (get_or t a 0)) (upper (get_or t c 0))) (same_units t (next t a) (next t c) n) e in
    rw (eqb-true (upper (get_or t a 0)) (upper (get_or t c 0)) p.0) (same_turns t (next t a) (next t c) (hash_step h (upper (get_or t c 0))) n p.1)

pub same_hash : (t : List ℕ) (a m c x n g : ℕ) → same_name t a m c x n (sigil_code g) ≡ true → hash_of t a c m ≡ hash_of t x (sigil_code g) n
unfolding same_name
same_hash t a m c x n g e =
    let r = pick_true (eqb m n) (pick (eqb c (sigil_code g)) (same_units t a x m) false) e in
    let s = pick_true (eqb c (sigil_code g)) (same_units t a x m) r.1 in
    let w : same_units t a x n ≡ true = rw (eqb-true m n r.0) at s.1 in
    rw (eqb-true m n r.0, eqb-true c (sigil_code g) s.0) (same_turns t a x (sigil_code g) n w)

named_is : (t b : List ℕ) (k x n g : ℕ) → named_at t b k x n g ≡ true → (k < length b / 4) × (127 < kind_at b (4 * k)) × (turns_at t b k ≡ hash_of t x (sigil_code g) n)
named_is t b k x n g e =
    let a : ℕ = get_or b (4 * k + 1) 0 in
    let m : ℕ = get_or b (4 * k + 2) 0 in
    let y : ℕ = get_or b (4 * k + 3) 0 in
    let p = pick_true (ltb k (length b / 4)) (pick (eqb (kind_at b (4 * k)) (name_tag t x n g)) (same_name t a m (y % 4) x n (sigil_code g)) false) e in
    let q = pick_true (eqb (kind_at b (4 * k)) (name_tag t x n g)) (same_name t a m (y % 4) x n (sigil_code g)) p.1 in
    let v : kind_at b (4 * k) ≡ name_tag t x n g = eqb-true (kind_at b (4 * k)) (name_tag t x n g) q.0 in
    (ltb-true k (length b / 4) p.0, rw v (tag_high (hash_of t x (sigil_code g) n)), same_hash t a m (y % 4) x n g q.1)

-- the descent from an entry to another
pub data Walk (b : List ℕ) (end e u : ℕ) : ℕ → ℕ → Type 0 where
  stay : {at bits : ℕ} → at ≡ e → bits ≡ u → Walk b end e u at bits
  move : {at bits : ℕ} → at < link_from b (side bits) at → link_from b (side bits) at < end → Walk b end e u (link_from b (side bits) at) (bits * 2 % 4294967296) → Walk b end e u at bits

abbrev descent : ℕ → ℕ → Descent
descent at bits = record { at = at; bits = bits }

walk_name : {t b : List ℕ} {n root e u at bits : ℕ} → Tree t b n root → Walk b n e u at bits → at < n → at < 32768 → 127 < kind_at b (4 * at) → (e < n) × (e < 32768) × (127 < kind_at b (4 * e))
walk_name T (stay h i) l m k = rw (← h) (l, m, k)
walk_name T (move {at} {bits} h i w) l m k =
    let q = T.links at l k (side bits) (omega arith) in
    walk_name T w q.0 q.1 q.2

module _ (t b : List ℕ) (end x n g : ℕ) (in-book : end ≤ length b / 4) where
  abbrev W : ℕ → ℕ → ℕ → Descent
  W at bits left = descent_from t b end x n g (descent at bits) left

  step : (e u at bits k : ℕ) → k ≡ link_from b (side bits) at → at < k → k < end → Walk b end e u k (bits * 2 % 4294967296) → Walk b end e u at bits
  step e u at bits k o p q w = move (rw o at p) (rw o at q) (rw o at w)

  descent_walks : (at bits left : ℕ) → at < end → Walk b end (W at bits left).at (W at bits left).bits at bits
  unfolding descent_from
  descent_walks at bits zero l = stay refl refl
  descent_walks at bits (suc left) l = go (named_at t b at x n g) (has_child b end (descent at bits)) refl (descent_walks (child_of b (descent at bits)) (bits * 2 % 4294967296) left)
    where
      go : (c d : Bool) → has_child b end (descent at bits) ≡ d
          → (child_of b (descent at bits) < end → Walk b end (W (child_of b (descent at bits)) (bits * 2 % 4294967296) left).at (W (child_of b (descent at bits)) (bits * 2 % 4294967296) left).bits (child_of b (descent at bits)) (bits * 2 % 4294967296))
          → Walk b end (pick c (descent at bits) (pick d (W (child_of b (descent at bits)) (bits * 2 % 4294967296) left) (descent at bits))).at
          (pick c (descent at bits) (pick d (W (child_of b (descent at bits)) (bits * 2 % 4294967296) left) (descent at bits))).bits at bits
      go true d q w = stay refl refl
      go false false q w = stay refl refl
      go false true q w =
          let r = both_parts (ltb at (child_of b (descent at bits))) (ltb (child_of b (descent at bits)) end) q in
          let v = ltb-true (child_of b (descent at bits)) end r.1 in
          let o : child_of b (descent at bits) ≡ link_from b (side bits) at = rw (lt-ltb at (length b / 4) (omega arith)) in
          step (W (child_of b (descent at bits)) (bits * 2 % 4294967296) left).at (W (child_of b (descent at bits)) (bits * 2 % 4294967296) left).bits at bits (child_of b (descent at bits)) o
          (ltb-true at (child_of b (descent at bits)) r.0) v (w v)

  -- it ends at the name, or where there is no child
  descent_stops : (at bits left : ℕ) → at < end → end ≤ at + left → named_at t b (W at bits left).at x n g ≡ false → has_child b end (W at bits left) ≡ false
  unfolding descent_from
  descent_stops at bits zero l m = absurd (omega arith)
  descent_stops at bits (suc left) l m = go (named_at t b at x n g) refl (has_child b end (descent at bits)) refl (descent_stops (child_of b (descent at bits)) (bits * 2 % 4294967296) left)
    where
      go : (c : Bool) → named_at t b at x n g ≡ c → (d : Bool) → has_child b end (descent at bits) ≡ d
          → (child_of b (descent at bits) < end → end ≤ child_of b (descent at bits) + left → named_at t b (W (child_of b (descent at bits)) (bits * 2 % 4294967296) left).at x n g ≡ false
          → has_child b end (W (child_of b (descent at bits)) (bits * 2 % 4294967296) left) ≡ false)
          → named_at t b (pick c (descent at bits) (pick d (W (child_of b (descent at bits)) (bits * 2 % 4294967296) left) (descent at bits))).at x n g ≡ false
          → has_child b end (pick c (descent at bits) (pick d (W (child_of b (descent at bits)) (bits * 2 % 4294967296) left) (descent at bits))) ≡ false
      go true p d q w h = true_not_false (sym p ∙ h)
      go false p false q w h = q
      go false p true q w h =
          let r = both_parts (ltb at (child_of b (descent at bits))) (ltb (child_of b (descent at bits)) end) q in
          let u = ltb-true at (child_of b (descent at bits)) r.0 in
          let v = ltb-true (child_of b (descent at bits)) end r.1 in
          w v (omega arith) h

  -- the first entry that is this name, if it is reached
  descent_finds : (i at bits left : ℕ) → Reach b i at bits → i < end → end ≤ at + left → ((k : ℕ) → k < i → named_at t b k x n g ≡ false) → named_at t b i x n g ≡ true
      → (W at bits left).at ≡ i
  unfolding descent_from
  descent_finds i at bits zero r l m f e = absurd (omega (arith, reach_le r))
  descent_finds i at bits (suc left) (here h) l m f e = let c : named_at t b at x n g ≡ true = rw h e in rw c h
  descent_finds i at bits (suc left) (onto h r) l m f e =
      let j = reach_le r in
      let a : at < i = omega arith in
      let c : named_at t b at x n g ≡ false = f at a in
      rw (c, lt-ltb at (length b / 4) (omega arith), lt-ltb at (link_from b (side bits) at) h, lt-ltb (link_from b (side bits) at) end (omega arith))
      (descent_finds i (link_from b (side bits) at) (bits * 2 % 4294967296) left r l (omega arith) f e)

-- the first of some entries that is this name, or their end
pub record First (t b : List ℕ) (x n g k end j : ℕ) : Type 0 where
  pub from : k ≤ j
  pub to : j ≤ end
  pub before : (i : ℕ) → k ≤ i → i < j → named_at t b i x n g ≡ false
  pub is : j < end → named_at t b j x n g ≡ true

module _ (t b : List ℕ) (x n g : ℕ) where
  lookup_first : (k left : ℕ) → First t b x n g k (k + left) (lookup t b x n g k left)
  unfolding lookup
  lookup_first k zero = record { from = omega arith; to = omega arith; before = λ i p q. absurd (omega arith); is = λ h. absurd (omega arith) }
  lookup_first k (suc left) = go (named_at t b k x n g) refl (lookup_first (k + 1) left)
    where
      go : (c : Bool) → named_at t b k x n g ≡ c → First t b x n g (k + 1) (k + 1 + left) (lookup t b x n g (k + 1) left)
          → First t b x n g k (k + suc left) (pick c k (lookup t b x n g (k + 1) left))
      go true e q = record { from = omega arith; to = omega arith; before = λ i p r. absurd (omega arith); is = λ h. e }
      go false e q = record {
        from = omega (arith, q.from);
        to = omega (arith, q.to);
        before = λ i p r. early i p r (dec_lt k i);
        is = λ h. q.is (omega arith);
      }
        where
          early : (i : ℕ) → k ≤ i → i < lookup t b x n g (k + 1) left → Dec (k < i) → named_at t b i x n g ≡ false
          early i p r (yes d) = q.before i (omega arith) r
          early i p r (no d) = let z : i ≡ k = omega arith in rw z e

  first_same : (k end i j : ℕ) → First t b x n g k end i → First t b x n g k end j → i ≡ j
  first_same k end i j p q = go (dec_lt i j) (dec_lt j i)
    where
      go : Dec (i < j) → Dec (j < i) → i ≡ j
      go (yes d) e = true_not_false (sym (p.is (omega (arith, q.to))) ∙ q.before i p.from d)
      go (no d) (yes e) = true_not_false (sym (q.is (omega (arith, p.to))) ∙ p.before j q.from e)
      go (no d) (no e) = omega arith

  first_skip : (k end j : ℕ) → First t b x n g k end j → ((i : ℕ) → i < k → named_at t b i x n g ≡ false) → First t b x n g 0 end j
  first_skip k end j p f = record { from = omega arith; to = p.to; before = λ i l m. early i m (dec_lt i k); is = p.is }
    where
      early : (i : ℕ) → i < j → Dec (i < k) → named_at t b i x n g ≡ false
      early i m (yes d) = f i d
      early i m (no d) = p.before i (omega arith) m

-- the search by the tree finds what the search in order finds
module _ (t b : List ℕ) (x n g : ℕ) (s : State) (T : Tree t b (known b s) (root_in s)) where
  abbrev N : ℕ
  N = known b s

  abbrev J : ℕ
  J = lookup t b x n g 0 (known b s)

  abbrev E : Descent
  E = descent_from t b (known b s) x n g (descent (root_in s - 1) (hash_of t x (sigil_code g) n)) (known b s)

  in_order : First t b x n g 0 N J
  in_order = let z : 0 + known b s ≡ known b s = omega arith in rw z at (lookup_first t b x n g 0 (known b s))

  -- no name below 32,768: it is sought in order from there on
  late : ((i : ℕ) → i < N → i < 32768 → named_at t b i x n g ≡ true → ⊥) → First t b x n g 0 N (lookup t b x n g (min N 32768) (N - 32768))
  late f =
      let z : min (known b s) 32768 + (known b s - 32768) ≡ known b s = omega arith in
      first_skip t b x n g (min N 32768) N (lookup t b x n g (min N 32768) (N - 32768)) (rw z at (lookup_first t b x n g (min (known b s) 32768) (known b s - 32768)))
      (λ i l. is_false (named_at t b i x n g) (λ e. f i (omega arith) (omega arith) e))

  end_name : 0 < root_in s → (E.at < N) × (E.at < 32768) × (127 < kind_at b (4 * E.at))
  end_name w =
      let q = T.first w in
      walk_name T (descent_walks t b N x n g (omega arith) (root_in s - 1) (hash_of t x (sigil_code g) n) N q.0) q.0 q.1 q.2

  not_found : 0 < root_in s → ((i : ℕ) → i < N → i < 32768 → i < J)
      → First t b x n g 0 N (pick (both (ltb E.at N) (named_at t b E.at x n g)) E.at (lookup t b x n g (min N 32768) (N - 32768)))
  not_found w f =
      let q = end_name w in
      let F = in_order in
      let c : named_at t b E.at x n g ≡ false = F.before E.at (omega arith) (f E.at q.0 q.1) in
      rw (c, both_false (ltb E.at N)) (late (λ i l m e. true_not_false (sym e ∙ F.before i (omega arith) (f i l m))))

  by_tree : 0 < root_in s → Dec (J < N) → Dec (J < 32768)
      → First t b x n g 0 N (pick (both (ltb E.at N) (named_at t b E.at x n g)) E.at (lookup t b x n g (min N 32768) (N - 32768)))
  by_tree w (yes d) (yes e) =
      let F = in_order in
      let i = named_is t b J x n g (F.is d) in
      let r : Reach b J (root_in s - 1) (hash_of t x (sigil_code g) n) = rw i.2 at (T.reached w J d e i.1) in
      let c : E.at ≡ J = descent_finds t b N x n g (omega arith) J (root_in s - 1) (hash_of t x (sigil_code g) n) N r d (omega arith) (λ k l. F.before k (omega arith) l) (F.is d) in
      rw (c, lt-ltb J N d, F.is d) F
  by_tree w (yes d) (no e) = not_found w (λ i l m. omega arith)
  by_tree w (no d) e = not_found w (λ i l m. omega arith)

  seek_first : First t b x n g 0 N (entry_of t b s x n g)
  unfolding entry_of descent_to
  seek_first = which (dec_lt 0 (root_in s))
    where
      which : Dec (0 < root_in s) → First t b x n g 0 N (pick (both (ltb 0 (root_in s)) (both (ltb E.at N) (named_at t b E.at x n g))) E.at (lookup t b x n g (min N 32768) (N - 32768)))
      which (yes w) = rw (lt-ltb 0 (root_in s) w) (by_tree w (dec_lt J N) (dec_lt J 32768))
      which (no w) = rw (le-ltb 0 (root_in s) (omega arith)) (late (λ i l m e. T.none (omega arith) i l m (named_is t b i x n g e).1))

  pub seek_is : entry_of t b s x n g ≡ J
  seek_is = first_same t b x n g 0 N (entry_of t b s x n g) J seek_first in_order

-- One entry more: what stands before it is the same, but that one link may lead to it.
pub data NewLink (b b' : List ℕ) (n k : ℕ) (h : Bool) : Type 0 where
  as_was : link_from b' h k ≡ link_from b h k → NewLink b b' n k h
  to_new : link_from b' h k ≡ n → n < 32768 → 127 < kind_at b' (4 * n) → NewLink b b' n k h

pub record Grown (b b' : List ℕ) (n : ℕ) : Type 0 where
  pub head : (k : ℕ) → k < n → get_or b' (4 * k) 0 ≡ get_or b (4 * k) 0
  pub start : (k : ℕ) → k < n → get_or b' (4 * k + 1) 0 ≡ get_or b (4 * k + 1) 0
  pub size : (k : ℕ) → k < n → get_or b' (4 * k + 2) 0 ≡ get_or b (4 * k + 2) 0
  pub code : (k : ℕ) → k < n → get_or b' (4 * k + 3) 0 % 4 ≡ get_or b (4 * k + 3) 0 % 4
  pub link_kept : (k : ℕ) → k < n → (h : Bool) → k < link_from b h k → link_from b h k < n → link_from b' h k ≡ link_from b h k
  pub new : (k : ℕ) → k < n → (h : Bool) → NewLink b b' n k h

reach_grown : {b b' : List ℕ} {n i at bits : ℕ} → Grown b b' n → i < n → Reach b i at bits → Reach b' i at bits
reach_grown G l (here e) = here e
reach_grown G l (onto {at} {bits} h r) =
    let m = reach_le r in
    let e = G.link_kept at (omega arith) (side bits) h (omega arith) in
    onto {at = at} {bits = bits} (rw e h) (rw e (reach_grown G l r))

walk_grown : {b b' : List ℕ} {n i e u at bits : ℕ} → Grown b b' n → Walk b n e u at bits → Reach b' i e u → Reach b' i at bits
walk_grown G (stay p q) r = rw (p, q) r
walk_grown G (move {at} {bits} h l w) r =
    let e = G.link_kept at (omega arith) (side bits) h l in
    onto {at = at} {bits = bits} (rw e h) (rw e (walk_grown G w r))

-- the entry that is new, if it is a name: it has no links, and it is reached if a tree may hold it
pub record Fresh (t b : List ℕ) (n root : ℕ) : Type 0 where
  pub no_links : (h : Bool) → link_from b h n ≡ 0
  pub sigil : sigil_code (sigil_of (get_or b (4 * n + 3) 0 % 4)) ≡ get_or b (4 * n + 3) 0 % 4
  pub tag : kind_at b (4 * n) ≡ tag_of (turns_at t b n)
  pub some_root : n < 32768 → 0 < root
  pub is_reached : n < 32768 → Reach b n (root - 1) (turns_at t b n)

module _ (t b b' : List ℕ) (n : ℕ) (G : Grown b b' n) where
  kind_same : (k : ℕ) → k < n → 127 < kind_at b' (4 * k) → 127 < kind_at b (4 * k)
  kind_same k l e = rw (G.head k l) at e

  kind_kept : (k : ℕ) → k < n → 127 < kind_at b (4 * k) → 127 < kind_at b' (4 * k)
  kind_kept k l e = rw (G.head k l) e

  turns_same : (k : ℕ) → k < n → turns_at t b' k ≡ turns_at t b k
  turns_same k l = rw (G.start k l, G.size k l, G.code k l)

  -- the links and the sigils, whatever the root
  links_grown : (root root' : ℕ) → Tree t b n root → (127 < kind_at b' (4 * n) → Fresh t b' n root') → (k : ℕ) → k < n + 1 → 127 < kind_at b' (4 * k) → (h : Bool) → 0 < link_from b' h k
      → (link_from b' h k < n + 1) × (link_from b' h k < 32768) × (127 < kind_at b' (4 * link_from b' h k))
  links_grown root root' T F k l e h p = go (dec_lt k n)
    where
      old : (k < n) → NewLink b b' n k h → (link_from b' h k < n + 1) × (link_from b' h k < 32768) × (127 < kind_at b' (4 * link_from b' h k))
      old d (as_was q) =
          let r = T.links k d (kind_same k d e) h (rw q at p) in
          rw q (omega (arith, r.0), r.1, kind_kept (link_from b h k) r.0 r.2)
      old d (to_new q r s) = rw q (omega arith, r, s)

      go : Dec (k < n) → (link_from b' h k < n + 1) × (link_from b' h k < 32768) × (127 < kind_at b' (4 * link_from b' h k))
      go (yes d) = old d (G.new k d h)
      go (no d) = let z : k ≡ n = omega arith in absurd (let f = (F (rw z at e)).no_links h in let q = rw z at p in omega arith)

  -- what holds of the entries before, and of the new one, holds of all
  all_grown : (P : ℕ → Type 0) → ((k : ℕ) → k < n → P k) → P n → (k : ℕ) → k < n + 1 → P k
  all_grown P old new k l = go (dec_lt k n)
    where
      go : Dec (k < n) → P k
      go (yes d) = old k d
      go (no d) = let z : k ≡ n = omega arith in rw z new

  sigils_grown : (root root' : ℕ) → Tree t b n root → (127 < kind_at b' (4 * n) → Fresh t b' n root') → (k : ℕ) → k < n + 1 → 127 < kind_at b' (4 * k)
      → sigil_code (sigil_of (get_or b' (4 * k + 3) 0 % 4)) ≡ get_or b' (4 * k + 3) 0 % 4
  sigils_grown root root' T F =
      all_grown (λ k. 127 < kind_at b' (4 * k) → sigil_code (sigil_of (get_or b' (4 * k + 3) 0 % 4)) ≡ get_or b' (4 * k + 3) 0 % 4)
      (λ k d e. rw (G.code k d) (T.sigils k d (kind_same k d e))) (λ e. (F e).sigil)

  tags_grown : (root root' : ℕ) → Tree t b n root → (127 < kind_at b' (4 * n) → Fresh t b' n root') → (k : ℕ) → k < n + 1 → 127 < kind_at b' (4 * k)
      → kind_at b' (4 * k) ≡ tag_of (turns_at t b' k)
  tags_grown root root' T F =
      all_grown (λ k. 127 < kind_at b' (4 * k) → kind_at b' (4 * k) ≡ tag_of (turns_at t b' k))
      (λ k d e. ap kind (G.head k d) ∙ T.tags k d (kind_same k d e) ∙ ap tag_of (sym (turns_same k d))) (λ e. (F e).tag)

  kinds_grown : (root : ℕ) → Tree t b n root → (kind_at b' (4 * n) ≡ 50 → ⊥) → (k : ℕ) → k < n + 1 → kind_at b' (4 * k) ≡ 50 → ⊥
  kinds_grown root T f = all_grown (λ k. kind_at b' (4 * k) ≡ 50 → ⊥) (λ k d e. T.kinds k d (rw (G.head k d) at e)) f

  tree_grown : (root : ℕ) → Tree t b n root → (127 < kind_at b' (4 * n) → Fresh t b' n root) → (kind_at b' (4 * n) ≡ 50 → ⊥) → Tree t b' (n + 1) root
  tree_grown root T F f = record {
    none = λ z k l m e. none z k l m e (dec_lt k n);
    first = λ w. let q = T.first w in (omega (arith, q.0), q.1, kind_kept (root - 1) q.0 q.2);
    reached = λ w k l m e. reached w k l m e (dec_lt k n);
    links = links_grown root root T F;
    sigils = sigils_grown root root T F;
    tags = tags_grown root root T F;
    kinds = kinds_grown root T f;
  }
    where
      none : root ≡ 0 → (k : ℕ) → k < n + 1 → k < 32768 → 127 < kind_at b' (4 * k) → Dec (k < n) → ⊥
      none z k l m e (yes d) = T.none z k d m (kind_same k d e)
      none z k l m e (no d) = let y : k ≡ n = omega arith in let f = (F (rw y at e)).some_root (omega arith) in omega arith

      reached : 0 < root → (k : ℕ) → k < n + 1 → k < 32768 → 127 < kind_at b' (4 * k) → Dec (k < n) → Reach b' k (root - 1) (turns_at t b' k)
      reached w k l m e (yes d) = rw (turns_same k d) (reach_grown G d (T.reached w k d m (kind_same k d e)))
      reached w k l m e (no d) = let y : k ≡ n = omega arith in rw y ((F (rw y at e)).is_reached (omega arith))

  -- the first name
  tree_first : Tree t b n 0 → n < 32768 → 127 < kind_at b' (4 * n) → Fresh t b' n (n + 1) → Tree t b' (n + 1) (n + 1)
  tree_first T m e F = record {
    none = λ z k l i c. omega arith;
    first = λ w. let z : n + 1 - 1 ≡ n = omega arith in rw z (omega arith, m, e);
    reached = λ w k l i c. reached k l i c (dec_lt k n);
    links = links_grown 0 (n + 1) T (λ c. F);
    sigils = sigils_grown 0 (n + 1) T (λ c. F);
    tags = tags_grown 0 (n + 1) T (λ c. F);
    kinds = kinds_grown 0 T (λ c. omega arith);
  }
    where
      reached : (k : ℕ) → k < n + 1 → k < 32768 → 127 < kind_at b' (4 * k) → Dec (k < n) → Reach b' k (n + 1 - 1) (turns_at t b' k)
      reached k l i c (yes d) = absurd (T.none refl k d i (kind_same k d c))
      reached k l i c (no d) = let y : k ≡ n = omega arith in rw y (F.is_reached m)

-- four words put behind
four_before : (b : List ℕ) (n h x y z i : ℕ) → i < 4 * n → get_or (four b n h x y z) i 0 ≡ get_or b i 0
four_before b n h x y z i l =
    get_or-set_other (set (set (set b (4 * n) h) (4 * n + 1) x) (4 * n + 2) y) (4 * n + 3) i z 0 (λ e. omega arith)
    ∙ get_or-set_other (set (set b (4 * n) h) (4 * n + 1) x) (4 * n + 2) i y 0 (λ e. omega arith)
    ∙ get_or-set_other (set b (4 * n) h) (4 * n + 1) i x 0 (λ e. omega arith)
    ∙ get_or-set_other b (4 * n) i h 0 (λ e. omega arith)

module _ (b : List ℕ) (n h x y z : ℕ) (room : n < length b / 4) where
  four_head : get_or (four b n h x y z) (4 * n) 0 ≡ h
  four_head =
      get_or-set_other (set (set (set b (4 * n) h) (4 * n + 1) x) (4 * n + 2) y) (4 * n + 3) (4 * n) z 0 (λ e. omega arith)
      ∙ get_or-set_other (set (set b (4 * n) h) (4 * n + 1) x) (4 * n + 2) (4 * n) y 0 (λ e. omega arith)
      ∙ get_or-set_other (set b (4 * n) h) (4 * n + 1) (4 * n) x 0 (λ e. omega arith)
      ∙ get_or-set_same b (4 * n) h 0 (omega arith)

  four_start : get_or (four b n h x y z) (4 * n + 1) 0 ≡ x
  four_start =
      get_or-set_other (set (set (set b (4 * n) h) (4 * n + 1) x) (4 * n + 2) y) (4 * n + 3) (4 * n + 1) z 0 (λ e. omega arith)
      ∙ get_or-set_other (set (set b (4 * n) h) (4 * n + 1) x) (4 * n + 2) (4 * n + 1) y 0 (λ e. omega arith)
      ∙ get_or-set_same (set b (4 * n) h) (4 * n + 1) x 0 (simp length-set (omega arith))

  four_size : get_or (four b n h x y z) (4 * n + 2) 0 ≡ y
  four_size =
      get_or-set_other (set (set (set b (4 * n) h) (4 * n + 1) x) (4 * n + 2) y) (4 * n + 3) (4 * n + 2) z 0 (λ e. omega arith)
      ∙ get_or-set_same (set (set b (4 * n) h) (4 * n + 1) x) (4 * n + 2) y 0 (simp length-set (omega arith))

  four_last : get_or (four b n h x y z) (4 * n + 3) 0 ≡ z
  four_last = get_or-set_same (set (set (set b (4 * n) h) (4 * n + 1) x) (4 * n + 2) y) (4 * n + 3) z 0 (simp length-set (omega arith))

  four_grown : Grown b (four b n h x y z) n
  four_grown = record {
    head = λ k l. four_before b n h x y z (4 * k) (omega arith);
    start = λ k l. four_before b n h x y z (4 * k + 1) (omega arith);
    size = λ k l. four_before b n h x y z (4 * k + 2) (omega arith);
    code = λ k l. ap (λ (w : ℕ). w % 4) (four_before b n h x y z (4 * k + 3) (omega arith));
    link_kept = λ k l s i j. ap (λ (w : ℕ). link_of s w) (four_before b n h x y z (4 * k + 3) (omega arith));
    new = λ k l s. as_was (ap (λ (w : ℕ). link_of s w) (four_before b n h x y z (4 * k + 3) (omega arith)));
  }

-- a link set
link_set : (h : Bool) (w k : ℕ) → k < 32768 → link_of h (with_link h w k) ≡ k
link_set true w k l = omega arith
link_set false w k l = omega arith

pub link_code : (h : Bool) (w k : ℕ) → with_link h w k % 4 ≡ w % 4
link_code true w k = omega arith
link_code false w k = omega arith

link_high : (w k : ℕ) → link_of true (with_link false w k) ≡ link_of true w
link_high w k = omega arith

link_low : (w k : ℕ) → link_of false (with_link true w k) ≡ link_of false w
link_low w k = omega arith

-- a link that led nowhere, set: those that lead on stay
with_link_kept : (h s : Bool) (e w n : ℕ) → both (ltb e (link_of h w)) (ltb (link_of h w) n) ≡ false → e < link_of s w → link_of s w < n → link_of s (with_link h w n) ≡ link_of s w
with_link_kept true true e w n f l m = true_not_false (rw (lt-ltb e (link_of true w) l, lt-ltb (link_of true w) n m) at f)
with_link_kept false false e w n f l m = true_not_false (rw (lt-ltb e (link_of false w) l, lt-ltb (link_of false w) n m) at f)
with_link_kept true false e w n f l m = link_low w n
with_link_kept false true e w n f l m = link_high w n

link_new : (h s : Bool) (w n : ℕ) → n < 32768 → {A : Type 0} → (link_of s (with_link h w n) ≡ link_of s w → A) → (link_of s (with_link h w n) ≡ n → A) → A
link_new true true w n l f g = g (link_set true w n l)
link_new false false w n l f g = g (link_set false w n l)
link_new true false w n l f g = f (link_low w n)
link_new false true w n l f g = f (link_high w n)

-- the book with a new name n that is linked from the entry e
abbrev pub link_book : List ℕ → ℕ → ℕ → ℕ → List ℕ
link_book b n e u = set b (4 * e + 3) (with_link (side u) (get_or b (4 * e + 3) 0) n)

module _ (b : List ℕ) (n e u h x y z : ℕ) (room : n < length b / 4) (small : n < 32768) (before : e < n) (named : 127 < kind h)
    (free : both (ltb e (link_from b (side u) e)) (ltb (link_from b (side u) e) n) ≡ false) where
  abbrev grown_book : List ℕ
  grown_book = four (link_book b n e u) n h x y z

  linked_room : n < length (link_book b n e u) / 4
  linked_room = simp length-set room

  word_other : (i : ℕ) → i < 4 * n → (i ≡ 4 * e + 3 → ⊥) → get_or grown_book i 0 ≡ get_or b i 0
  word_other i l m = four_before (link_book b n e u) n h x y z i l ∙ get_or-set_other b (4 * e + 3) i (with_link (side u) (get_or b (4 * e + 3) 0) n) 0 m

  word_linked : get_or grown_book (4 * e + 3) 0 ≡ with_link (side u) (get_or b (4 * e + 3) 0) n
  word_linked = four_before (link_book b n e u) n h x y z (4 * e + 3) (omega arith) ∙ get_or-set_same b (4 * e + 3) (with_link (side u) (get_or b (4 * e + 3) 0) n) 0 (omega arith)

  new_kind : 127 < kind_at grown_book (4 * n)
  new_kind = rw (four_head (link_book b n e u) n h x y z linked_room) named

  linked_grown : Grown b grown_book n
  linked_grown = record {
    head = λ k l. word_other (4 * k) (omega arith) (λ q. omega arith);
    start = λ k l. word_other (4 * k + 1) (omega arith) (λ q. omega arith);
    size = λ k l. word_other (4 * k + 2) (omega arith) (λ q. omega arith);
    code = λ k l. code k l (ℕ_discrete k e);
    link_kept = λ k l s i j. link_kept k l s i j (ℕ_discrete k e);
    new = λ k l s. new k l s (ℕ_discrete k e);
  }
    where
      code : (k : ℕ) → k < n → Dec (k ≡ e) → get_or grown_book (4 * k + 3) 0 % 4 ≡ get_or b (4 * k + 3) 0 % 4
      code k l (yes d) = rw (d, word_linked) (link_code (side u) (get_or b (4 * e + 3) 0) n)
      code k l (no d) = ap (λ (w : ℕ). w % 4) (word_other (4 * k + 3) (omega arith) (λ q. d (omega arith)))

      link_kept : (k : ℕ) → k < n → (s : Bool) → k < link_from b s k → link_from b s k < n → Dec (k ≡ e) → link_from grown_book s k ≡ link_from b s k
      link_kept k l s i j (yes d) = rw (d, word_linked) (with_link_kept (side u) s e (get_or b (4 * e + 3) 0) n free (rw d at i) (rw d at j))
      link_kept k l s i j (no d) = ap (λ (w : ℕ). link_of s w) (word_other (4 * k + 3) (omega arith) (λ q. d (omega arith)))

      new : (k : ℕ) → k < n → (s : Bool) → Dec (k ≡ e) → NewLink b grown_book n k s
      new k l s (yes d) = link_new (side u) s (get_or b (4 * e + 3) 0) n small
          (λ q. as_was (rw (d, word_linked) q)) (λ q. to_new (rw (d, word_linked) q) small new_kind)
      new k l s (no d) = as_was (ap (λ (w : ℕ). link_of s w) (word_other (4 * k + 3) (omega arith) (λ q. d (omega arith))))

  new_link : link_from grown_book (side u) e ≡ n
  new_link = rw word_linked (link_set (side u) (get_or b (4 * e + 3) 0) n small)

  reached_new : Reach grown_book n e u
  reached_new = onto {at = e} {bits = u} (rw new_link before) (here new_link)

-- codes of sigils
code_small : (g : ℕ) → sigil_code g < 3
code_small g = go (eqb g 36) (eqb g 37)
  where
    go : (c d : Bool) → pick c 1 (pick d 2 0) < 3
    go true d = omega arith
    go false true = omega arith
    go false false = omega arith

code_of : (g : ℕ) → sigil_code (sigil_of (sigil_code g)) ≡ sigil_code g
code_of g = go (eqb g 36) (eqb g 37)
  where
    go : (c d : Bool) → sigil_code (sigil_of (pick c 1 (pick d 2 0))) ≡ pick c 1 (pick d 2 0)
    go true d = refl
    go false true = refl
    go false false = refl

pub code_whole : (g : ℕ) → sigil_code g % 4 ≡ sigil_code g
code_whole g = go (eqb g 36) (eqb g 37)
  where
    go : (c d : Bool) → pick c 1 (pick d 2 0) % 4 ≡ pick c 1 (pick d 2 0)
    go true d = refl
    go false true = refl
    go false false = refl

fresh_new : (t b : List ℕ) (n h x m g root : ℕ) → n < length b / 4 → kind h ≡ name_tag t x m g → (n < 32768 → 0 < root)
    → (n < 32768 → Reach (four b n h x m (sigil_code g)) n (root - 1) (hash_of t x (sigil_code g) m)) → Fresh t (four b n h x m (sigil_code g)) n root
fresh_new t b n h x m g root room v w r = record {
  no_links = λ s. rw (four_last b n h x m (sigil_code g) room) (none s (sigil_code g) (code_small g));
  sigil = rw (four_last b n h x m (sigil_code g) room, code_whole g) (code_of g);
  tag = rw (four_head b n h x m (sigil_code g) room, four_start b n h x m (sigil_code g) room, four_size b n h x m (sigil_code g) room, four_last b n h x m (sigil_code g) room, code_whole g) v;
  some_root = w;
  is_reached = λ l. rw (four_start b n h x m (sigil_code g) room, four_size b n h x m (sigil_code g) room, four_last b n h x m (sigil_code g) room, code_whole g) (r l);
}
  where
    none : (s : Bool) (c : ℕ) → c < 3 → link_of s c ≡ 0
    none true c l = omega arith
    none false c l = omega arith

-- a datum or a byte
pub tree_other : (t b : List ℕ) (n root h x y z : ℕ) → n < length b / 4 → (127 < kind h → ⊥) → (kind h ≡ 50 → ⊥) → Tree t b n root → Tree t (four b n h x y z) (n + 1) root
tree_other t b n root h x y z room k j T =
    tree_grown t b (four b n h x y z) n (four_grown b n h x y z room) root T (λ e. absurd (k (rw (four_head b n h x y z room) at e))) (λ e. j (rw (four_head b n h x y z room) at e))

pub linked_length : (t b : List ℕ) (x n g : ℕ) (s : State) → length (linked b s (descent_to t b s x n g)) ≡ length b
unfolding linked linked_at
linked_length t b x n g s = go (both (ltb 0 (root_in s)) (may_link b s)) (ltb (descent_to t b s x n g).at (length b / 4))
  where
    go : (c d : Bool) → length (pick c (pick d (link_book b (entries_in s) (descent_to t b s x n g).at (descent_to t b s x n g).bits) b) b) ≡ length b
    go true true = length-set b (4 * (descent_to t b s x n g).at + 3) (with_link (side (descent_to t b s x n g).bits) (get_or b (4 * (descent_to t b s x n g).at + 3) 0) (entries_in s))
    go true false = refl
    go false d = refl

-- what is linked: nothing, or an earlier name
pub data Linking (t b : List ℕ) (x n g : ℕ) (s : State) : Type 0 where
  from_none : linked b s (descent_to t b s x n g) ≡ b → Linking t b x n g s
  from_name : (e u : ℕ) → linked b s (descent_to t b s x n g) ≡ link_book b (entries_in s) e u → e < entries_in s → 127 < kind_at b (4 * e) → Linking t b x n g s

-- a new name: where its descent ends there is no child
module _ (t b : List ℕ) (x n g h : ℕ) (s : State) (T : Tree t b (known b s) (root_in s)) (absent : entry_of t b s x n g ≡ known b s) (room : entries_in s < length b / 4) (tagged : kind h ≡ name_tag t x n g) where
  abbrev D : Descent
  D = descent_to t b s x n g

  named : 127 < kind h
  named = rw tagged (tag_high (hash_of t x (sigil_code g) n))

  -- the new head is no plain kind, whatever the book is that it is put into
  not_plain : (b' : List ℕ) → entries_in s < length b' / 4 → kind_at (four b' (entries_in s) h x n (sigil_code g)) (4 * entries_in s) ≡ 50 → ⊥
  not_plain b' r e = let q : kind h ≡ 50 = rw (four_head b' (entries_in s) h x n (sigil_code g) r) at e in omega (arith, named)

  known_is : known b s ≡ entries_in s
  known_is = omega arith

  T' : Tree t b (entries_in s) (root_in s)
  T' = rw known_is at T

  end_known : 0 < root_in s → (D.at < known b s) × (D.at < 32768) × (127 < kind_at b (4 * D.at))
  unfolding descent_to
  end_known w = end_name t b x n g s T w

  end_is : 0 < root_in s → (D.at < entries_in s) × (D.at < 32768) × (127 < kind_at b (4 * D.at))
  end_is w = rw known_is at (end_known w)

  end_unnamed : 0 < root_in s → named_at t b D.at x n g ≡ false
  end_unnamed w = let q = end_is w in (seek_first t b x n g s T).before D.at (omega arith) (rw (absent, known_is) q.0)

  end_stops : 0 < root_in s → has_child b (known b s) D ≡ false
  unfolding descent_to
  end_stops w = let f = T.first w in descent_stops t b (known b s) x n g (omega arith) (root_in s - 1) (hash_of t x (sigil_code g) n) (known b s) f.0 (omega arith) (end_unnamed w)

  end_free : 0 < root_in s → both (ltb D.at (link_from b (side D.bits) D.at)) (ltb (link_from b (side D.bits) D.at) (entries_in s)) ≡ false
  end_free w = let q = end_is w in rw (known_is, lt-ltb D.at (length b / 4) (omega arith)) at (end_stops w)

  walk_known : 0 < root_in s → Walk b (known b s) D.at D.bits (root_in s - 1) (hash_of t x (sigil_code g) n)
  unfolding descent_to
  walk_known w = let f = T.first w in descent_walks t b (known b s) x n g (omega arith) (root_in s - 1) (hash_of t x (sigil_code g) n) (known b s) f.0

  end_walk : 0 < root_in s → Walk b (entries_in s) D.at D.bits (root_in s - 1) (hash_of t x (sigil_code g) n)
  end_walk w = rw known_is at (walk_known w)

  -- the book that the entry is put into, and the root
  not_linked : both (ltb 0 (root_in s)) (ltb (entries_in s) 32768) ≡ false → linked b s (descent_to t b s x n g) ≡ b
  unfolding linked
  not_linked e = rw (lt-ltb (entries_in s) (length b / 4) room, e)

  is_linked : 0 < root_in s → entries_in s < 32768 → linked b s (descent_to t b s x n g) ≡ link_book b (entries_in s) D.at D.bits
  unfolding linked linked_at
  is_linked w l = let q = end_is w in rw (lt-ltb 0 (root_in s) w, lt-ltb (entries_in s) (length b / 4) room, lt-ltb (entries_in s) 32768 l, lt-ltb D.at (length b / 4) (omega arith))

  root_stays : both (eqb (root_in s) 0) (ltb (entries_in s) 32768) ≡ false → plus_one (root_of b s) ≡ root_in s
  unfolding root_of
  root_stays e = rw (lt-ltb (entries_in s) (length b / 4) room, e)

  root_new : root_in s ≡ 0 → entries_in s < 32768 → plus_one (root_of b s) ≡ entries_in s + 1
  unfolding root_of
  root_new e l = rw (lt-ltb (entries_in s) (length b / 4) room, eq-eqb (root_in s) 0 e, lt-ltb (entries_in s) 32768 l) (sym (add-one (entries_in s)))

  pub linking : Linking t b x n g s
  linking = go (dec_lt 0 (root_in s)) (dec_lt (entries_in s) 32768)
    where
      go : Dec (0 < root_in s) → Dec (entries_in s < 32768) → Linking t b x n g s
      go (yes w) (yes l) = let q = end_is w in from_name D.at D.bits (is_linked w l) q.0 q.2
      go (no w) l = from_none (not_linked (rw (le-ltb 0 (root_in s) (omega arith))))
      go (yes w) (no l) = from_none (not_linked (rw (le-ltb (entries_in s) 32768 (omega arith)) (both_false (ltb 0 (root_in s)))))

  pub tree_name : Tree t (four (linked b s (descent_to t b s x n g)) (entries_in s) h x n (sigil_code g)) (entries_in s + 1) (plus_one (root_of b s))
  tree_name = go (dec_lt 0 (root_in s)) (dec_lt (entries_in s) 32768)
    where
      go : Dec (0 < root_in s) → Dec (entries_in s < 32768) → Tree t (four (linked b s (descent_to t b s x n g)) (entries_in s) h x n (sigil_code g)) (entries_in s + 1) (plus_one (root_of b s))
      go w (no l) =
          rw (not_linked (rw (le-ltb (entries_in s) 32768 (omega arith)) (both_false (ltb 0 (root_in s)))), root_stays (rw (le-ltb (entries_in s) 32768 (omega arith)) (both_false (eqb (root_in s) 0))))
          (tree_grown t b (four b (entries_in s) h x n (sigil_code g)) (entries_in s) (four_grown b (entries_in s) h x n (sigil_code g) room) (root_in s) T'
          (λ e. fresh_new t b (entries_in s) h x n g (root_in s) room tagged (λ i. absurd (l i)) (λ i. absurd (l i))) (not_plain b room))
      go (no w) (yes l) =
          let z : root_in s ≡ 0 = omega arith in
          rw (not_linked (rw (le-ltb 0 (root_in s) (omega arith))), root_new z l)
          (tree_first t b (four b (entries_in s) h x n (sigil_code g)) (entries_in s) (four_grown b (entries_in s) h x n (sigil_code g) room) (rw z at T') l
          (rw (four_head b (entries_in s) h x n (sigil_code g) room) named)
          (fresh_new t b (entries_in s) h x n g (entries_in s + 1) room tagged (λ i. omega arith) (λ i. here (omega arith))))
      go (yes w) (yes l) =
          let q = end_is w in
          let G = linked_grown b (entries_in s) D.at D.bits h x n (sigil_code g) room l q.0 named (end_free w) in
          let r = reached_new b (entries_in s) D.at D.bits h x n (sigil_code g) room l q.0 named (end_free w) in
          let m = linked_room b (entries_in s) D.at D.bits h x n (sigil_code g) room l q.0 named (end_free w) in
          rw (is_linked w l, root_stays (rw (ne_eqb (root_in s) 0 (λ e. omega arith))))
          (tree_grown t b (four (link_book b (entries_in s) D.at D.bits) (entries_in s) h x n (sigil_code g)) (entries_in s) G (root_in s) T'
          (λ e. fresh_new t (link_book b (entries_in s) D.at D.bits) (entries_in s) h x n g (root_in s) m tagged (λ i. w) (λ i. walk_grown G (end_walk w) r))
          (not_plain (link_book b (entries_in s) D.at D.bits) m))
