-- The entries of the book as they stand while compiling: a name's head has a tag, its last word has links, and closing up takes both
-- away.
use mathlib.Core.Path.{◌≡◌, refl, sym, ap, ◌∙◌}
use mathlib.Core.List.{List, [], ◌∷◌, ◌++◌, append_assoc}
use mathlib.Core.Bool.{Bool, true, false}
use Prim.Native.Nat.{ℕ, zero, suc, ◌+◌, ◌*◌, ◌-◌, ◌≤◌, ◌<◌, ◌/◌, ◌%◌}
use lib.Dec.{ltb, eqb}
use lib.ListN.{length, get_or, set, replicate, length-append, length-set}
use lib.Seq.{get_or_at, set_at}
use borrow.Author.Tests.{lt-ltb, le-ltb, ltb-true, eq-eqb, ne_eqb}
use native.Mathlib.Decide.{dec_lt, ℕ_discrete}
use native.Mathlib.Numerals.{add-one}
use native.Mathlib.Omega.{arith}
use Rattle.recorder.specs.Word.{pick, both, kind_at, payload_at, word_of}
use Rattle.recorder.specs.Name.{same_name}
use Rattle.recorder.specs.Ideal.{Entry, entry, Search, missing, found, is_named, find_name}
use Rattle.recorder.specs.Layout.{entry_words, words_of, fill}
use Rattle.recorder.specs.Mem.{sigil_code, sigil_of, tag_of, name_tag, hash_of, lookup, four, unlink_at, unlink_from}
use Rattle.recorder.proofs.Words.{head_kind, length_snoc, put4, words_snoc, length_words4}
use Rattle.recorder.proofs.Bools.{true_not_false}
use Rattle.simulation.proofs.Simulation.{Sigil}
use Rattle.simulation.proofs.Tree.{Tree, code_whole, tag_high, same_hash}

-- an entry without tag and links: a name's kind, and its sigil alone
unfoldable pub bare : Entry → Entry
bare e = pick (ltb 127 e.kind) (entry 50 e.number e.start e.length (sigil_of (e.extra % 4))) e

unfoldable pub bares : List Entry → List Entry
bares [] = []
bares (e ∷ es) = bare e ∷ bares es

pub bares_length : (es : List Entry) → length (bares es) ≡ length es
unfolding bares
bares_length [] = refl
bares_length (e ∷ es) = ap suc (bares_length es)

pub bares_snoc : (es : List Entry) (e : Entry) → bares (es ++ (e ∷ [])) ≡ bares es ++ (bare e ∷ [])
unfolding bares
bares_snoc [] e = refl
bares_snoc (x ∷ es) e = ap (λ (z : List Entry). bare x ∷ z) (bares_snoc es e)

bare_number : (e : Entry) → (bare e).number ≡ e.number
unfolding bare
bare_number e = go (ltb 127 e.kind)
  where
    go : (c : Bool) → (pick c (entry 50 e.number e.start e.length (sigil_of (e.extra % 4))) e).number ≡ e.number
    go true = refl
    go false = refl

-- a name as it is made, and what is no name
pub bare_name : (v k x y g : ℕ) → 127 < v → Sigil g → bare (entry v k x y (sigil_code g)) ≡ entry 50 k x y g
unfolding bare
bare_name v k x y g h p = rw (lt-ltb 127 v h) (ap (λ (z : ℕ). entry 50 k x y z) (ap sigil_of (code_whole g) ∙ p))

pub bare_other : (e : Entry) → ltb 127 e.kind ≡ false → bare e ≡ e
unfolding bare
bare_other e h = rw h

-- the words of an entry in the middle
entry_at : (ps : List Entry) (y : Entry) (zs b : List ℕ) (k : ℕ) → b ≡ words_of entry_words ps ++ (entry_words y ++ zs) → length ps ≡ k
    → (get_or b (4 * k) 0 ≡ word_of y.kind y.number) × (get_or b (4 * k + 1) 0 ≡ y.start) × (get_or b (4 * k + 2) 0 ≡ y.length) × (get_or b (4 * k + 3) 0 ≡ y.extra)
entry_at ps y zs b k e p =
    let w : length (words_of entry_words ps) ≡ 4 * k = length_words4 entry_words (λ x. refl) ps ∙ ap (λ (z : ℕ). 4 * z) p in (
      rw e (get_or_at (words_of entry_words ps) (word_of y.kind y.number) (y.start ∷ y.length ∷ y.extra ∷ zs) 0 (4 * k) w),
      rw e (next 1 (word_of y.kind y.number ∷ []) y.start (y.length ∷ y.extra ∷ zs) w refl),
      rw e (next 2 (word_of y.kind y.number ∷ y.start ∷ []) y.length (y.extra ∷ zs) w refl),
      rw e (next 3 (word_of y.kind y.number ∷ y.start ∷ y.length ∷ []) y.extra zs w refl),
    )
  where
    next : (i : ℕ) (us : List ℕ) (v : ℕ) (vs : List ℕ) → length (words_of entry_words ps) ≡ 4 * k → length us ≡ i → get_or (words_of entry_words ps ++ (us ++ (v ∷ vs))) (4 * k + i) 0 ≡ v
    next i us v vs w u =
        rw (← append_assoc (words_of entry_words ps) us (v ∷ vs))
        (get_or_at (words_of entry_words ps ++ us) v vs 0 (4 * k + i) (omega (arith, length-append (words_of entry_words ps) us)))

-- the last word of an entry in the middle, anew
last_at : (ps : List Entry) (k n x y z v : ℕ) (zs b : List ℕ) (i : ℕ) → b ≡ words_of entry_words ps ++ (word_of k n ∷ x ∷ y ∷ z ∷ zs) → length ps ≡ i
    → set b (4 * i + 3) v ≡ words_of entry_words ps ++ (word_of k n ∷ x ∷ y ∷ v ∷ zs)
last_at ps k n x y z v zs b i e p =
    let us : List ℕ = word_of k n ∷ x ∷ y ∷ [] in
    let w : length (words_of entry_words ps ++ us) ≡ 4 * i + 3 = omega (arith, length-append (words_of entry_words ps) us, length_words4 entry_words (λ q. refl) ps) in
    rw e (ap (λ (l : List ℕ). set l (4 * i + 3) v) (sym (append_assoc (words_of entry_words ps) us (z ∷ zs)))
    ∙ set_at (words_of entry_words ps ++ us) z zs v (4 * i + 3) w ∙ append_assoc (words_of entry_words ps) us (v ∷ zs))

-- a name's link changes its last word alone, and not its sigil
pub record Relinked (qs : List Entry) (l : List ℕ) (zs : List ℕ) : Type 0 where
  pub rs : List Entry
  pub words_are : l ≡ words_of entry_words rs ++ zs
  pub bare_same : bares rs ≡ bares qs

relink_one : (y : Entry) (v : ℕ) → 127 < y.kind → v % 4 ≡ y.extra % 4 → bare (entry y.kind y.number y.start y.length v) ≡ bare y
unfolding bare
relink_one y v e h = rw (lt-ltb 127 y.kind e, h)

relink_on : (y : Entry) (qs : List Entry) (zs : List ℕ) (k v : ℕ) → Relinked qs (set (words_of entry_words qs ++ zs) (4 * k + 3) v) zs
    → Relinked (y ∷ qs) (set (words_of entry_words (y ∷ qs) ++ zs) (4 * suc k + 3) v) zs
unfolding bares
relink_on y qs zs k v q =
    let e : 4 * suc k + 3 ≡ suc (suc (suc (suc (4 * k + 3)))) = omega arith in
    record {
      rs = y ∷ q.rs;
      words_are = rw e (ap (λ (z : List ℕ). word_of y.kind y.number ∷ y.start ∷ y.length ∷ y.extra ∷ z) q.words_are);
      bare_same = ap (λ (z : List Entry). bare y ∷ z) q.bare_same;
    }

pub relink : (qs : List Entry) (zs : List ℕ) (k v : ℕ) → k < length qs → 127 < kind_at (words_of entry_words qs ++ zs) (4 * k) → v % 4 ≡ get_or (words_of entry_words qs ++ zs) (4 * k + 3) 0 % 4
    → Relinked qs (set (words_of entry_words qs ++ zs) (4 * k + 3) v) zs
unfolding bares
relink [] zs k v l e h = absurd (omega arith)
relink (y ∷ qs) zs zero v l e h =
    record { rs = entry y.kind y.number y.start y.length v ∷ qs; words_are = refl; bare_same = ap (λ (z : Entry). z ∷ bares qs) (relink_one y v (rw (head_kind y.kind y.number) at e) h) }
relink (y ∷ qs) zs (suc k) v l e h =
    let e0 : 4 * suc k ≡ suc (suc (suc (suc (4 * k)))) = omega arith in
    let e3 : 4 * suc k + 3 ≡ suc (suc (suc (suc (4 * k + 3)))) = omega arith in
    relink_on y qs zs k v (relink qs zs k v (omega arith) (rw e0 at e) (rw e3 at h))

-- one entry more
pub put_entry : (size : ℕ) (qs : List Entry) (b : List ℕ) (n k m x y z : ℕ) → b ≡ fill size (words_of entry_words qs) → length qs ≡ n → n < size / 4
    → four b n (word_of k m) x y z ≡ fill size (words_of entry_words (qs ++ (entry k m x y z ∷ [])))
put_entry size qs b n k m x y z e l r =
    let w : length (words_of entry_words qs) ≡ 4 * n = length_words4 entry_words (λ q. refl) qs ∙ ap (λ (i : ℕ). 4 * i) l in
    rw e (put4 size (4 * n) (word_of k m) x y z (words_of entry_words qs) w (omega arith) ∙ ap (λ (i : List ℕ). fill size i) (sym (words_snoc entry_words qs (entry k m x y z))))

-- numbers are of 24 bits
unfoldable pub all_small : List Entry → Bool
all_small [] = true
all_small (e ∷ es) = both (ltb e.number 16777216) (all_small es)

pub small_snoc : (es : List Entry) (e : Entry) → all_small es ≡ true → ltb e.number 16777216 ≡ true → all_small (es ++ (e ∷ [])) ≡ true
unfolding all_small
small_snoc [] e h i = rw i
small_snoc (x ∷ es) e h i = go (ltb x.number 16777216) h (λ g. small_snoc es e g i)
  where
    go : (c : Bool) → both c (all_small es) ≡ true → (all_small es ≡ true → all_small (es ++ (e ∷ [])) ≡ true) → both c (all_small (es ++ (e ∷ []))) ≡ true
    go true g q = q g
    go false g q = true_not_false (sym g)

-- sigils are the same where their codes are
code_same : (c g : ℕ) → sigil_code (sigil_of c) ≡ c → Sigil g → eqb c (sigil_code g) ≡ eqb (sigil_of c) g
code_same c g p q = go (ℕ_discrete c (sigil_code g))
  where
    go : Dec (c ≡ sigil_code g) → eqb c (sigil_code g) ≡ eqb (sigil_of c) g
    go (yes d) = eq-eqb c (sigil_code g) d ∙ sym (eq-eqb (sigil_of c) g (ap sigil_of d ∙ q))
    go (no d) = ne_eqb c (sigil_code g) d ∙ sym (ne_eqb (sigil_of c) g (λ e. d (sym p ∙ ap sigil_code e)))

pick_implied : (c f : Bool) → (f ≡ true → c ≡ true) → pick c f false ≡ f
pick_implied true f h = refl
pick_implied false true h = true_not_false (sym (h refl))
pick_implied false false h = refl

-- names compared by the codes of their sigils
by_codes : (t : List ℕ) (a m c x n g : ℕ) → sigil_code (sigil_of c) ≡ c → Sigil g → same_name t a m c x n (sigil_code g) ≡ same_name t a m (sigil_of c) x n g
unfolding same_name
by_codes t a m c x n g h p = rw (code_same c g h p)

-- an entry is the name by its tag exactly if it is the name
named_same : (t : List ℕ) (y : Entry) (x n g : ℕ) → Sigil g → (127 < y.kind → sigil_code (sigil_of (y.extra % 4)) ≡ y.extra % 4)
    → (127 < y.kind → y.kind ≡ tag_of (hash_of t y.start (y.extra % 4) y.length)) → (y.kind ≡ 50 → ⊥)
    → pick (eqb y.kind (name_tag t x n g)) (same_name t y.start y.length (y.extra % 4) x n (sigil_code g)) false ≡ is_named t (bare y) x n g
unfolding bare
named_same t y x n g p h v f = go (dec_lt 127 y.kind)
  where
    go : Dec (127 < y.kind) → pick (eqb y.kind (name_tag t x n g)) (same_name t y.start y.length (y.extra % 4) x n (sigil_code g)) false
        ≡ is_named t (pick (ltb 127 y.kind) (entry 50 y.number y.start y.length (sigil_of (y.extra % 4))) y) x n g
    go (yes d) = rw (lt-ltb 127 y.kind d)
        (pick_implied (eqb y.kind (name_tag t x n g)) (same_name t y.start y.length (y.extra % 4) x n (sigil_code g))
        (λ e. eq-eqb y.kind (name_tag t x n g) (v d ∙ ap tag_of (same_hash t y.start y.length (y.extra % 4) x n g e)))
        ∙ by_codes t y.start y.length (y.extra % 4) x n g (h d) p)
    go (no d) =
        let u = tag_high (hash_of t x (sigil_code g) n) in
        rw (le-ltb 127 y.kind (omega arith), ne_eqb y.kind (name_tag t x n g) (λ e. d (rw e u)), ne_eqb y.kind 50 f)

-- searching: where it stops, and what stands there
unfoldable pub Finds : Search → ℕ → ℕ → List ℕ → Type 0
Finds missing end j b = j ≡ end
Finds (found v) end j b = (j < end) × (payload_at b (4 * j) ≡ v)

pub lookup_finds : (t b : List ℕ) (x n g k end : ℕ) (ps es : List Entry) (zs : List ℕ) → Sigil g
    → b ≡ words_of entry_words ps ++ (words_of entry_words es ++ zs) → length ps ≡ k → k + length es ≡ end → end ≤ length b / 4
    → {root : ℕ} → Tree t b end root
    → all_small (bares es) ≡ true → Finds (find_name t (bares es) x n g) end (lookup t b x n g k (length es)) b
unfolding lookup find_name Finds all_small bares
lookup_finds t b x n g k end ps [] zs v e p l r c s = omega arith
lookup_finds t b x n g k end ps (y ∷ es) zs v e p l r c s =
    let a = entry_at ps y (words_of entry_words es ++ zs) b k (e ∙ ap (λ (z : List ℕ). words_of entry_words ps ++ z) (append_assoc (entry_words y) (words_of entry_words es) zs)) p in
    let e' : b ≡ words_of entry_words (ps ++ (y ∷ [])) ++ (words_of entry_words es ++ zs) =
    e ∙ rw (words_snoc entry_words ps y) (sym (append_assoc (words_of entry_words ps) (entry_words y) (words_of entry_words es ++ zs))) in
    let i : kind_at b (4 * k) ≡ y.kind = rw a.0 (head_kind y.kind y.number) in
    let d : 127 < y.kind → sigil_code (sigil_of (y.extra % 4)) ≡ y.extra % 4 = λ q. rw a.3 at (c.sigils k (omega arith) (rw i q)) in
    let j : 127 < y.kind → y.kind ≡ tag_of (hash_of t y.start (y.extra % 4) y.length) = λ q. rw (i, a.1, a.2, a.3) at (c.tags k (omega arith) (rw i q)) in
    let f : y.kind ≡ 50 → ⊥ = λ q. c.kinds k (omega arith) (i ∙ q) in
    rw (lt-ltb k (length b / 4) (omega arith), a.0, a.1, a.2, a.3, head_kind y.kind y.number, named_same t y x n g v d j f)
    (go (is_named t (bare y) x n g) a.0 (ltb (bare y).number 16777216) refl s
    (λ z. lookup_finds t b x n g (k + 1) end (ps ++ (y ∷ [])) es zs v e' (length_snoc ps y ∙ ap suc p ∙ sym (add-one k)) (omega arith) r c z))
  where
    go : (c : Bool) → get_or b (4 * k) 0 ≡ word_of y.kind y.number → (d : Bool) → ltb (bare y).number 16777216 ≡ d → both d (all_small (bares es)) ≡ true
        → (all_small (bares es) ≡ true → Finds (find_name t (bares es) x n g) end (lookup t b x n g (k + 1) (length es)) b)
        → Finds (pick c (found (bare y).number) (find_name t (bares es) x n g)) end (pick c k (lookup t b x n g (k + 1) (length es))) b
    go true w true d i q = (omega arith, rw w (let o = ltb-true (bare y).number 16777216 d in let u = bare_number y in omega arith))
    go false w true d i q = q i
    go c w false d i q = true_not_false (sym i)

-- closing up: tags and links are gone
head_at : (ps : List Entry) (h v : ℕ) (zs b : List ℕ) (i : ℕ) → b ≡ words_of entry_words ps ++ (h ∷ zs) → length ps ≡ i → set b (4 * i) v ≡ words_of entry_words ps ++ (v ∷ zs)
head_at ps h v zs b i e p =
    let w : length (words_of entry_words ps) ≡ 4 * i = length_words4 entry_words (λ x. refl) ps ∙ ap (λ (z : ℕ). 4 * z) p in
    rw e (set_at (words_of entry_words ps) h zs v (4 * i) w)

kind_anew : (k n : ℕ) → word_of 50 (word_of k n) ≡ word_of 50 n
kind_anew k n = omega arith

unlink_one : (ps : List Entry) (y : Entry) (zs b : List ℕ) (k : ℕ) → b ≡ words_of entry_words ps ++ (entry_words y ++ zs) → length ps ≡ k
    → unlink_at b k ≡ words_of entry_words ps ++ (entry_words (bare y) ++ zs)
unfolding bare
unlink_one ps y zs b k e p =
    let a = entry_at ps y zs b k e p in
    let n : length b ≡ length (words_of entry_words ps) + length (entry_words y ++ zs) = rw e (length-append (words_of entry_words ps) (entry_words y ++ zs)) in
    let r : k < length b / 4 = omega (arith, length_words4 entry_words (λ x. refl) ps) in
    rw (lt-ltb k (length b / 4) r, a.0, a.3, head_kind y.kind y.number, kind_anew y.kind y.number) (go (ltb 127 y.kind))
  where
    go : (c : Bool) → pick c (set (set b (4 * k) (word_of 50 y.number)) (4 * k + 3) (sigil_of (y.extra % 4))) b
        ≡ words_of entry_words ps ++ (entry_words (pick c (entry 50 y.number y.start y.length (sigil_of (y.extra % 4))) y) ++ zs)
    go true =
        last_at ps 50 y.number y.start y.length y.extra (sigil_of (y.extra % 4)) zs (set b (4 * k) (word_of 50 y.number)) k
        (head_at ps (word_of y.kind y.number) (word_of 50 y.number) (y.start ∷ y.length ∷ y.extra ∷ zs) b k e p) p
    go false = e

unlink_words : (ps es : List Entry) (zs b : List ℕ) (k : ℕ) → b ≡ words_of entry_words ps ++ (words_of entry_words es ++ zs) → length ps ≡ k
    → unlink_from b k (length es) ≡ words_of entry_words ps ++ (words_of entry_words (bares es) ++ zs)
unfolding unlink_from bares
unlink_words ps [] zs b k e p = e
unlink_words ps (y ∷ es) zs b k e p =
    let a = unlink_one ps y (words_of entry_words es ++ zs) b k (e ∙ ap (λ (z : List ℕ). words_of entry_words ps ++ z) (append_assoc (entry_words y) (words_of entry_words es) zs)) p in
    unlink_words (ps ++ (bare y ∷ [])) es zs (unlink_at b k) (k + 1)
    (a ∙ rw (words_snoc entry_words ps (bare y)) (sym (append_assoc (words_of entry_words ps) (entry_words (bare y)) (words_of entry_words es ++ zs))))
    (length_snoc ps (bare y) ∙ ap suc p ∙ sym (add-one k))
    ∙ rw (words_snoc entry_words ps (bare y)) (append_assoc (words_of entry_words ps) (entry_words (bare y)) (words_of entry_words (bares es) ++ zs))

pub unlink_all : (size : ℕ) (qs : List Entry) (b : List ℕ) → b ≡ fill size (words_of entry_words qs) → unlink_from b 0 (length qs) ≡ fill size (words_of entry_words (bares qs))
unlink_all size qs b e =
    let w : length (words_of entry_words qs) ≡ length (words_of entry_words (bares qs)) =
    length_words4 entry_words (λ z. refl) qs ∙ ap (λ (z : ℕ). 4 * z) (sym (bares_length qs)) ∙ sym (length_words4 entry_words (λ z. refl) (bares qs)) in
    unlink_words [] qs (replicate (size - length (words_of entry_words qs)) 0) b 0 e refl ∙ ap (λ (z : ℕ). words_of entry_words (bares qs) ++ replicate (size - z) 0) w

pub unlink_length : (b : List ℕ) (k left : ℕ) → length (unlink_from b k left) ≡ length b
unfolding unlink_from
unlink_length b k zero = refl
unlink_length b k (suc left) = unlink_length (unlink_at b k) (k + 1) left ∙ one (both (ltb k (length b / 4)) (ltb 127 (kind_at b (4 * k))))
  where
    one : (c : Bool) → length (pick c (set (set b (4 * k) (word_of 50 (get_or b (4 * k) 0))) (4 * k + 3) (sigil_of (get_or b (4 * k + 3) 0 % 4))) b) ≡ length b
    one true = simp length-set
    one false = refl
