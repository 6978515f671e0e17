-- Records, notes and entries as words: one more at the end, one changed, one read.
use mathlib.Core.Path.{◌≡◌, refl, sym, ap, ◌∙◌}
use mathlib.Core.List.{List, [], ◌∷◌, ◌++◌, append_assoc, append-nil}
use Prim.Native.Nat.{ℕ, zero, suc, ◌+◌, ◌*◌, ◌-◌, ◌≤◌, ◌<◌, ◌%◌}
use lib.ListN.{length, get_or, set, replicate, length-append}
use lib.Seq.{sets, set-append_seam}
use native.Mathlib.Numerals.{add-one, add-two, add-three, add-four}
use native.Mathlib.Omega.{arith}
use Rattle.recorder.specs.Word.{kind, payload, word_of, range_of, range_word}
use Rattle.recorder.specs.Ideal.{Rec, rec, no_rec, change}
use Rattle.recorder.specs.Layout.{rec_words, words_of, fill}
use Rattle.recorder.specs.Mem.{part, rec_of}

pub length_snoc : {A : Type 0} (xs : List A) (v : A) → length (xs ++ (v ∷ [])) ≡ suc (length xs)
length_snoc xs v = length-append xs (v ∷ []) ∙ add-one (length xs)

-- stores at the end of what is held
zeros : (k : ℕ) → 0 < k → replicate k (zero) ≡ zero ∷ replicate (k - 1) zero
zeros zero h = absurd (omega arith)
zeros (suc k) h = let e : k ≡ suc k - 1 = omega arith in ap (λ (n : ℕ). zero ∷ replicate n zero) e

set_fill : (size : ℕ) (xs : List ℕ) (v : ℕ) → length xs < size → set (fill size xs) (length xs) v ≡ fill size (xs ++ (v ∷ []))
set_fill size xs v h =
    let e : size - length xs - 1 ≡ size - length (xs ++ (v ∷ [])) = omega (arith, length_snoc xs v) in
    ap (λ (z : List ℕ). set (xs ++ z) (length xs) v) (zeros (size - length xs) (omega arith))
    ∙ set-append_seam xs zero (replicate (size - length xs - 1) zero) v
    ∙ sym (append_assoc xs (v ∷ []) (replicate (size - length xs - 1) zero))
    ∙ ap (λ (n : ℕ). (xs ++ (v ∷ [])) ++ replicate n zero) e

pub sets_fill : (size : ℕ) (vs xs : List ℕ) → length xs + length vs ≤ size → sets (fill size xs) (length xs) vs ≡ fill size (xs ++ vs)
sets_fill size [] xs h = ap (λ (z : List ℕ). fill size z) (sym (append-nil xs))
sets_fill size (v ∷ vs) xs h =
    ap (λ (l : List ℕ). sets l (suc (length xs)) vs) (set_fill size xs v (omega arith))
    ∙ ap (λ (n : ℕ). sets (fill size (xs ++ (v ∷ []))) n vs) (sym (length_snoc xs v))
    ∙ sets_fill size vs (xs ++ (v ∷ [])) (omega (arith, length_snoc xs v))
    ∙ ap (λ (z : List ℕ). fill size z) (append_assoc xs (v ∷ []) vs)

pub put5 : (size n h r a b c : ℕ) (xs : List ℕ) → length xs ≡ n → n + 5 ≤ size
    → set (set (set (set (set (fill size xs) n h) (n + 1) r) (n + 2) a) (n + 3) b) (n + 4) c ≡ fill size (xs ++ (h ∷ r ∷ a ∷ b ∷ c ∷ []))
put5 size n h r a b c xs e f =
    rw (add-one n, add-two n, add-three n, add-four n, ← e) (sets_fill size (h ∷ r ∷ a ∷ b ∷ c ∷ []) xs (omega arith))

pub put4 : (size n h x y z : ℕ) (xs : List ℕ) → length xs ≡ n → n + 4 ≤ size
    → set (set (set (set (fill size xs) n h) (n + 1) x) (n + 2) y) (n + 3) z ≡ fill size (xs ++ (h ∷ x ∷ y ∷ z ∷ []))
put4 size n h x y z xs e f =
    rw (add-one n, add-two n, add-three n, ← e) (sets_fill size (h ∷ x ∷ y ∷ z ∷ []) xs (omega arith))

-- the words of many
pub words_snoc : {A : Type 0} (f : A → List ℕ) (xs : List A) (x : A) → words_of f (xs ++ (x ∷ [])) ≡ words_of f xs ++ f x
words_snoc f [] x = append-nil (f x)
words_snoc f (y ∷ xs) x = ap (λ (z : List ℕ). f y ++ z) (words_snoc f xs x) ∙ sym (append_assoc (f y) (words_of f xs) (f x))

pub length_words4 : {A : Type 0} (f : A → List ℕ) → ((x : A) → length (f x) ≡ 4) → (xs : List A) → length (words_of f xs) ≡ 4 * length xs
length_words4 f h [] = refl
length_words4 f h (x ∷ xs) = omega (arith, length-append (f x) (words_of f xs), h x, length_words4 f h xs)

pub length_words : (rs : List Rec) → length (words_of rec_words rs) ≡ 5 * length rs
length_words [] = refl
length_words (r ∷ rs) = omega (arith, length_words rs)

pub change_length : (f : Rec → Rec) (rs : List Rec) (k : ℕ) → length (change f rs k) ≡ length rs
unfolding change
change_length f [] k = refl
change_length f (r ∷ rs) zero = refl
change_length f (r ∷ rs) (suc k) = ap suc (change_length f rs k)

pub change_out : (f : Rec → Rec) (rs : List Rec) (k : ℕ) → length rs ≤ k → change f rs k ≡ rs
unfolding change
change_out f [] k h = refl
change_out f (r ∷ rs) zero h = absurd (omega arith)
change_out f (r ∷ rs) (suc k) h = ap (λ (z : List Rec). r ∷ z) (change_out f rs k (omega arith))

-- a record written as the part that begins at it: g on words is f on the record
pub change_words : (g : List ℕ → List ℕ) (f : Rec → Rec) → ((r : Rec) (ys : List ℕ) → g (rec_words r ++ ys) ≡ rec_words (f r) ++ ys)
    → (rs : List Rec) (zs : List ℕ) (k : ℕ) → k < length rs → part g (words_of rec_words rs ++ zs) (5 * k) ≡ words_of rec_words (change f rs k) ++ zs
unfolding part change
change_words g f w [] zs k h = absurd (omega arith)
change_words g f w (r ∷ rs) zs zero h = w r (words_of rec_words rs ++ zs)
change_words g f w (r ∷ rs) zs (suc k) h =
    let e : 5 * suc k ≡ suc (suc (suc (suc (suc (5 * k))))) = omega arith in
    rw e (ap (λ (z : List ℕ). word_of r.call r.line ∷ range_word r.range ∷ r.a ∷ r.b ∷ r.c ∷ z) (change_words g f w rs zs k (omega arith)))

-- what a record's words say: its line's low 24 bits, and its range as far as a word holds it
abbrev pub cut_rec : Rec → Rec
cut_rec r = rec r.call (r.line % 16777216) (range_of (range_word r.range)) r.a r.b r.c

zeros_at : (n k : ℕ) → get_or (replicate n zero) k 0 ≡ 0
zeros_at zero k = refl
zeros_at (suc n) zero = refl
zeros_at (suc n) (suc k) = zeros_at n k

pub head_kind : (k l : ℕ) → kind (word_of k l) ≡ k
head_kind k l = omega arith

pub head_again : (k c l : ℕ) → word_of k (word_of c l) ≡ word_of k l
head_again k c l = omega arith

head_payload : (k l : ℕ) → payload (word_of k l) ≡ l % 16777216
head_payload k l = omega arith

pub rec_of_lem : (rs : List Rec) (n k : ℕ) → rec_of (words_of rec_words rs ++ replicate n 0) k ≡ cut_rec (get_or rs k no_rec)
rec_of_lem [] n k = rw (zeros_at n (5 * k + 1), zeros_at n (5 * k + 2), zeros_at n (5 * k + 3), zeros_at n (5 * k + 4), zeros_at n (5 * k))
rec_of_lem (r ∷ rs) n zero = rw (head_kind r.call r.line, head_payload r.call r.line)
rec_of_lem (r ∷ rs) n (suc k) =
    let e0 : 5 * suc k ≡ suc (suc (suc (suc (suc (5 * k))))) = omega arith in
    let e1 : 5 * suc k + 1 ≡ suc (suc (suc (suc (suc (5 * k + 1))))) = omega arith in
    let e2 : 5 * suc k + 2 ≡ suc (suc (suc (suc (suc (5 * k + 2))))) = omega arith in
    let e3 : 5 * suc k + 3 ≡ suc (suc (suc (suc (suc (5 * k + 3))))) = omega arith in
    let e4 : 5 * suc k + 4 ≡ suc (suc (suc (suc (suc (5 * k + 4))))) = omega arith in
    rw (e1, e2, e3, e4, e0) (rec_of_lem rs n k)

-- the first two words of a record, as they stand
pub raw_at : (rs : List Rec) (zs : List ℕ) (k : ℕ) → k < length rs
    → (get_or (words_of rec_words rs ++ zs) (5 * k) 0 ≡ word_of (get_or rs k no_rec).call (get_or rs k no_rec).line) × (get_or (words_of rec_words rs ++ zs) (5 * k + 1) 0 ≡ range_word (get_or rs k no_rec).range)
raw_at [] zs k h = absurd (omega arith)
raw_at (r ∷ rs) zs zero h = (refl, refl)
raw_at (r ∷ rs) zs (suc k) h =
    let e0 : 5 * suc k ≡ suc (suc (suc (suc (suc (5 * k))))) = omega arith in
    let e1 : 5 * suc k + 1 ≡ suc (suc (suc (suc (suc (5 * k + 1))))) = omega arith in
    let q = raw_at rs zs k (omega arith) in
    (rw e0 q.0, rw e1 q.1)
