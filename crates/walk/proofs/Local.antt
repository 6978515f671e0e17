-- A refusal is local: it is decided by the words up to the offending one, and one word more.
use mathlib.Core.Path.{◌≡◌, refl, sym, ap, ◌∙◌}
use mathlib.Core.Bool.{Bool, true, false}
use mathlib.Core.List.{List, [], ◌∷◌}
use Prim.Native.Nat.{ℕ, zero, suc, ◌+◌, ◌≤◌, ◌<◌}
use native.Mathlib.Omega.{arith}
use borrow.Author.Tests.{ltb-true, ltb-false, lt-ltb, le-ltb}
use lib.Dec.{ltb, leb, eqb}
use lib.ListN.{length, get_or, get_or-eq_default}
use Rattle.recorder.specs.Word.{pick, choose, both, kind, payload, kind_at, payload_at, next, range_of, range_at}
use Rattle.recorder.proofs.Bools.{both_left, both_right}
use Rattle.sheet.specs.declared.form.Item.{Item}
use Rattle.sheet.specs.declared.form.Item.TheVariants.{Nothing, Word, Range as range, Name as name, OptionalName as optionalName, Text as text, Node, Number as number, OptionalLabel as optionalLabel, Source as source, Element as element, Datum as datum}
use Rattle.sheet.specs.declared.form.Sort.{Sort}
use Rattle.sheet.specs.declared.form.Sort.TheVariants.{Expr, Place, InputPlace, Stmt}
use Rattle.sheet.specs.declared.form.Times.{Times}
use Rattle.sheet.specs.declared.form.Times.TheVariants.{Once, Optional, List as Listed, NonEmpty, OptionalList}
use Rattle.sheet.specs.declared.form.Field.{Field}
use Rattle.sheet.specs.declared.form.Offence.{Offence}
use Rattle.sheet.specs.declared.form.Offence.TheVariants.{BadWord, TooDeep, BadLength, BadRange, Fseek}
use Rattle.sheet.specs.Walk.{Walk}
use Rattle.std.specs.Prelude.{Ok, Err}
use Rattle.sheet.specs.declared.form.Line.{Line}
use Rattle.sheet.specs.Table.{kind_number, expr_table, stmt_table, expr_fields, stmt_fields, node_kind, may_stand, own_range, fields_of, is_fseek}
use Rattle.sheet.specs.Check.{offence_place}
use Rattle.sheet.specs.Form.{then, is_absent, has_unit, is_name_range, take_word, absent_form, non_empty_form, high_form, low_form, number_form, head_form, fseek_form, in_line, range_form, text_form, datum_form, label_form, name_form, source_rest, element_rest, item_form, pair_form, repeat_form, list_form, times_form, field_form, fields_form, body_form, node_form, line_of, line_head, line_form, end_form, lines_form, sheet_form, high_fits, low_fits, lacks_unit}
use Rattle.walk.proofs.Steps.{Ends, end_of, to_next, high_ends, low_ends, range_ends, word_ends, item_ends, pair_ends, repeat_ends, list_ends, fields_ends, body_ends_lem, node_ends, label_ends}
use Rattle.walk.proofs.Accepted.{EndsAt, ok_ends_at, err_ends_at, ends_at_pick, ends_at_then, word_ends_at, non_empty_ends_at, head_ends_at, range_ends_at}
use Rattle.walk.proofs.Within.{line_ends, lines_ends}

-- how many words decide a walk: those before its end, or those up to the offending one and one word more
abbrev pub reads : Walk → ℕ
reads (Ok p) = p
reads (Err o) = offence_place o + 2

-- two sheets with the same words below n, which end at the same place if one of them ends at n or before
pub record Alike (s s' : List ℕ) (n : ℕ) : Type 0 where
  pub word : (i : ℕ) → i < n → get_or s i 0 ≡ get_or s' i 0
  pub inside : (i : ℕ) → i ≤ n → ltb i (length s) ≡ ltb i (length s')

-- a walk over one that n words decide is the walk over the other
pub record Agrees (n : ℕ) (w w' : Walk) : Type 0 where
  pub same : reads w ≤ n → w ≡ w'

end_reads : (w : Walk) → end_of w ≤ reads w
end_reads (Ok p) = omega arith
end_reads (Err o) = omega arith

next_near : (s : List ℕ) (p : ℕ) → next s p ≤ p + 1
unfolding next
next_near s p = go (ltb p (length s))
  where
    go : (b : Bool) → pick b (p + 1) p ≤ p + 1
    go true = omega arith
    go false = omega arith

pick_reads : (m : ℕ) (b : Bool) (v w : Walk) → m ≤ reads v → m ≤ reads w → m ≤ reads (pick b v w)
pick_reads m true v w a b = a
pick_reads m false v w a b = b

choose_reads : (m : ℕ) (b : Bool) (f g : ℕ → Walk) (p : ℕ) → m ≤ reads (f p) → m ≤ reads (g p) → m ≤ reads (choose b f g p)
choose_reads m true f g p a b = a
choose_reads m false f g p a b = b

then_reads : (m : ℕ) (w : Walk) (f : ℕ → Walk) → m ≤ reads w → ((q : ℕ) → w ≡ Ok q → q ≤ reads (f q)) → m ≤ reads (then w f)
then_reads m (Ok q) f a b = let h : q ≤ reads (f q) = b q refl in omega (arith, a, h)
then_reads m (Err o) f a b = a

same_agrees : (n : ℕ) (w : Walk) → Agrees n w w
same_agrees n w = record { same = λ h. refl }

choose_agrees : (n : ℕ) (b : Bool) (f g f' g' : ℕ → Walk) (p : ℕ) → Agrees n (f p) (f' p) → Agrees n (g p) (g' p) → Agrees n (choose b f g p) (choose b f' g' p)
choose_agrees n true f g f' g' p a b = a
choose_agrees n false f g f' g' p a b = b

then_agrees : (n : ℕ) (w w' : Walk) (f f' : ℕ → Walk) → Agrees n w w' → ((q : ℕ) → w ≡ Ok q → q ≤ reads (f q))
    → ((q : ℕ) → w ≡ Ok q → Agrees n (f q) (f' q)) → Agrees n (then w f) (then w' f')
then_agrees n (Ok q) w' f f' a m b = record { same = λ h. let k : q ≤ reads (f q) = m q refl in let e : Ok q ≡ w' = a.same (omega (arith, h, k)) in ((b q refl).same h) ∙ ap (λ (v : Walk). then v f') e }
then_agrees n (Err o) w' f f' a m b = record { same = λ h. ap (λ (v : Walk). then v f') (a.same h) }

-- an item that reads a word: all but nothing
abbrev reads_word : Item → Bool
reads_word Nothing = false
reads_word (Word k n) = true
reads_word range = true
reads_word name = true
reads_word optionalName = true
reads_word text = true
reads_word (Node c) = true
reads_word number = true
reads_word optionalLabel = true
reads_word source = true
reads_word element = true
reads_word datum = true

abbrev fields_read_words : List Field → Bool
fields_read_words [] = true
fields_read_words (f ∷ fs) = both (reads_word f.first) (fields_read_words fs)

abbrev rows_read_words : List (List Field) → Bool
rows_read_words [] = true
rows_read_words (r ∷ rs) = both (fields_read_words r) (rows_read_words rs)

row_reads_words : (rs : List (List Field)) (k : ℕ) → rows_read_words rs ≡ true → fields_read_words (get_or rs k []) ≡ true
row_reads_words [] k e = refl
row_reads_words (r ∷ rs) zero e = both_left (fields_read_words r) (rows_read_words rs) e
row_reads_words (r ∷ rs) (suc k) e = row_reads_words rs k (both_right (fields_read_words r) (rows_read_words rs) e)

expr_reads_words : (k : ℕ) → fields_read_words (expr_fields k) ≡ true
unfolding expr_fields
expr_reads_words k = row_reads_words expr_table k refl

stmt_reads_words : (k : ℕ) → fields_read_words (stmt_fields k) ≡ true
unfolding stmt_fields
stmt_reads_words k = row_reads_words stmt_table k refl

-- every field of the form begins with a word
node_reads_words : (c : Sort) (k : ℕ) → fields_read_words (fields_of c k) ≡ true
node_reads_words Expr k = expr_reads_words k
node_reads_words Place k = expr_reads_words k
node_reads_words InputPlace k = expr_reads_words k
node_reads_words Stmt k = stmt_reads_words k

module _ (s s' : List ℕ) (n : ℕ) (al : Alike s s' n) where
  same_word : (p : ℕ) → next s p ≤ n → get_or s p 0 ≡ get_or s' p 0
  unfolding next
  same_word p h = go (ltb p (length s)) refl h
    where
      go : (b : Bool) → ltb p (length s) ≡ b → pick b (p + 1) p ≤ n → get_or s p 0 ≡ get_or s' p 0
      go true e k = al.word p (omega arith)
      go false e k = get_or-eq_default s 0 (ltb-false p (length s) e) ∙ sym (get_or-eq_default s' 0 (ltb-false p (length s') (sym (al.inside p k) ∙ e)))

  same_next : (p : ℕ) → next s p ≤ n → next s p ≡ next s' p
  unfolding next
  same_next p h = let k : p ≤ next s p = (to_next s p).later in ap (λ (b : Bool). pick b (p + 1) p) (al.inside p (omega (arith, h, k)))

  -- where the word at p was read, the walk may depend on it
  swap : (p : ℕ) (H H' : ℕ → Walk) → ((x : ℕ) → Agrees n (H x) (H' x)) → next s p ≤ reads (H (get_or s p 0)) → Agrees n (H (get_or s p 0)) (H' (get_or s' p 0))
  swap p H H' a m = record { same = λ h. ((a (get_or s p 0)).same h) ∙ ap H' (same_word p (omega (arith, m, h))) }

  -- a first part that ends behind the word at p, and what goes on by that word
  branch : (p : ℕ) (w w' : Walk) (H H' : ℕ → ℕ → Walk) → EndsAt w (next s p) → Agrees n w w' → ((x q : ℕ) → q ≡ next s p → q ≤ reads (H x q))
      → ((x q : ℕ) → q ≡ next s p → Agrees n (H x q) (H' x q)) → Agrees n (then w (λ q. H (get_or s p 0) q)) (then w' (λ q. H' (get_or s' p 0) q))
  branch p w w' H H' l a m b =
      then_agrees n w w' (λ q. H (get_or s p 0) q) (λ q. H' (get_or s' p 0) q) a (λ q e. m (get_or s p 0) q (l.ends q e))
      (λ q e. swap p (λ x. H x q) (λ x. H' x q) (λ x. b x q (l.ends q e)) (let h : q ≡ next s p = l.ends q e in let k : q ≤ reads (H (get_or s p 0) q) = m (get_or s p 0) q h in omega (arith, h, k)))

  word_reads : (k m p : ℕ) → next s p ≤ reads (take_word s k m p)
  unfolding take_word
  word_reads k m p = let h : next s p ≤ p + 1 = next_near s p in pick_reads (next s p) (both (eqb (kind_at s p) k) (ltb (payload_at s p) m)) (Ok (next s p)) (Err (BadWord p)) (omega arith) (omega arith)

  word_agrees : (k m p : ℕ) → Agrees n (take_word s k m p) (take_word s' k m p)
  unfolding take_word
  word_agrees k m p = record {
    same = λ h. let i : next s p ≤ n = omega (arith, h, word_reads k m p) in
        ap (λ (x : ℕ). pick (both (eqb (kind x) k) (ltb (payload x) m)) (Ok (next s p)) (Err (BadWord p))) (same_word p i)
        ∙ ap (λ (q : ℕ). pick (both (eqb (kind_at s' p) k) (ltb (payload_at s' p) m)) (Ok q) (Err (BadWord p))) (same_next p i);
  }

  head_reads : (c : Sort) (p : ℕ) → next s p ≤ reads (head_form s c p)
  head_reads c p = let h : next s p ≤ p + 1 = next_near s p in pick_reads (next s p) (both (eqb (kind_at s p) (node_kind c)) (may_stand c (payload_at s p))) (Ok (next s p)) (Err (BadWord p)) (omega arith) (omega arith)

  head_agrees : (c : Sort) (p : ℕ) → Agrees n (head_form s c p) (head_form s' c p)
  head_agrees c p = record {
    same = λ h. let i : next s p ≤ n = omega (arith, h, head_reads c p) in
        ap (λ (x : ℕ). pick (both (eqb (kind x) (node_kind c)) (may_stand c (payload x))) (Ok (next s p)) (Err (BadWord p))) (same_word p i)
        ∙ ap (λ (q : ℕ). pick (both (eqb (kind_at s' p) (node_kind c)) (may_stand c (payload_at s' p))) (Ok q) (Err (BadWord p))) (same_next p i);
  }

  -- the tests of one word
  good_first : (p q : ℕ) (b : Bool) (o : Offence) → offence_place o ≡ p → q ≡ next s p → q ≤ reads (pick b (Ok q) (Err o))
  good_first p q b o e h = let k : next s p ≤ p + 1 = next_near s p in pick_reads q b (Ok q) (Err o) (omega arith) (omega (arith, e, h, k))

  bad_first : (p q : ℕ) (b : Bool) (o : Offence) → offence_place o ≡ p → q ≡ next s p → q ≤ reads (pick b (Err o) (Ok q))
  bad_first p q b o e h = let k : next s p ≤ p + 1 = next_near s p in pick_reads q b (Err o) (Ok q) (omega (arith, e, h, k)) (omega arith)

  tested : (p : ℕ) (w w' : Walk) (T : ℕ → Bool) (o : Offence) → offence_place o ≡ p → EndsAt w (next s p) → Agrees n w w'
      → Agrees n (then w (λ q. pick (T (get_or s p 0)) (Ok q) (Err o))) (then w' (λ q. pick (T (get_or s' p 0)) (Ok q) (Err o)))
  tested p w w' T o e l a = branch p w w' (λ x q. pick (T x) (Ok q) (Err o)) (λ x q. pick (T x) (Ok q) (Err o)) l a (λ x q h. good_first p q (T x) o e h) (λ x q h. same_agrees n _)

  tested_reads : (p : ℕ) (w : Walk) (b : Bool) (o : Offence) → offence_place o ≡ p → EndsAt w (next s p) → next s p ≤ reads w → next s p ≤ reads (then w (λ q. pick b (Ok q) (Err o)))
  tested_reads p w b o e l m = then_reads (next s p) w (λ q. pick b (Ok q) (Err o)) m (λ q h. good_first p q b o e (l.ends q h))

  non_empty_agrees : (p : ℕ) → Agrees n (non_empty_form s p) (non_empty_form s' p)
  unfolding non_empty_form
  non_empty_agrees p = branch p (take_word s 4 16777216 p) (take_word s' 4 16777216 p) (λ x q. pick (eqb (payload x) 0) (Err (BadWord p)) (Ok q)) (λ x q. pick (eqb (payload x) 0) (Err (BadWord p)) (Ok q))
      (word_ends_at s 4 16777216 p) (word_agrees 4 16777216 p) (λ x q h. bad_first p q (eqb (payload x) 0) (BadWord p) refl h) (λ x q h. same_agrees n _)

  high_agrees : (e p : ℕ) → Agrees n (high_form s e p) (high_form s' e p)
  unfolding high_form
  high_agrees e p = tested p (take_word s 11 65536 p) (take_word s' 11 65536 p) (λ x. high_fits e (payload x)) (BadWord p) refl (word_ends_at s 11 65536 p) (word_agrees 11 65536 p)

  low_agrees : (e p : ℕ) → Agrees n (low_form s e p) (low_form s' e p)
  unfolding low_form
  low_agrees e p = tested p (take_word s 11 65536 p) (take_word s' 11 65536 p) (λ x. low_fits e (payload x)) (BadWord p) refl (word_ends_at s 11 65536 p) (word_agrees 11 65536 p)

  -- what goes on at q ends at or behind q
  forward : (q : ℕ) (w : Walk) → Ends s q w → q ≤ reads w
  forward q w e = let a : q ≤ end_of w = e.steps.later in let b : end_of w ≤ reads w = end_reads w in omega (arith, a, b)

  number_rest_agrees : (e q : ℕ) → Agrees n (then (high_form s e q) (λ r. low_form s e r)) (then (high_form s' e q) (λ r. low_form s' e r))
  number_rest_agrees e q = then_agrees n (high_form s e q) (high_form s' e q) (λ r. low_form s e r) (λ r. low_form s' e r) (high_agrees e q) (λ r h. forward r _ (low_ends s e r)) (λ r h. low_agrees e r)

  number_rest_reads : (e q : ℕ) → q ≤ reads (then (high_form s e q) (λ r. low_form s e r))
  number_rest_reads e q = then_reads q (high_form s e q) (λ r. low_form s e r) (forward q _ (high_ends s e q)) (λ r h. forward r _ (low_ends s e r))

  number_agrees : (p : ℕ) → Agrees n (number_form s p) (number_form s' p)
  unfolding number_form
  number_agrees p =
      branch p (take_word s 10 257 p) (take_word s' 10 257 p) (λ x q. then (high_form s (payload x) q) (λ r. low_form s (payload x) r)) (λ x q. then (high_form s' (payload x) q) (λ r. low_form s' (payload x) r))
      (word_ends_at s 10 257 p) (word_agrees 10 257 p) (λ x q h. number_rest_reads (payload x) q) (λ x q h. number_rest_agrees (payload x) q)

  number_reads : (p : ℕ) → next s p ≤ reads (number_form s p)
  unfolding number_form
  number_reads p = then_reads (next s p) (take_word s 10 257 p) (λ q. then (high_form s (payload_at s p) q) (λ r. low_form s (payload_at s p) r)) (word_reads 10 257 p) (λ q h. number_rest_reads (payload_at s p) q)

  module _ (line : Line) where
    range_agrees : (p : ℕ) → Agrees n (range_form s line p) (range_form s' line p)
    unfolding range_form
    range_agrees p = tested p (take_word s 1 16777216 p) (take_word s' 1 16777216 p) (λ x. in_line line (range_of x)) (BadRange p) refl (word_ends_at s 1 16777216 p) (word_agrees 1 16777216 p)

    range_reads : (p : ℕ) → next s p ≤ reads (range_form s line p)
    unfolding range_form
    range_reads p = tested_reads p (take_word s 1 16777216 p) (in_line line (range_at s p)) (BadRange p) refl (word_ends_at s 1 16777216 p) (word_reads 1 16777216 p)

    text_agrees : (p : ℕ) → Agrees n (text_form s line p) (text_form s' line p)
    unfolding text_form
    text_agrees p = tested p (range_form s line p) (range_form s' line p) (λ x. has_unit (range_of x)) (BadRange p) refl (range_ends_at s line p) (range_agrees p)

    text_reads : (p : ℕ) → next s p ≤ reads (text_form s line p)
    unfolding text_form
    text_reads p = tested_reads p (range_form s line p) (has_unit (range_at s p)) (BadRange p) refl (range_ends_at s line p) (range_reads p)

    -- the word behind a datum's range: the one word more
    datum_rest_reads : (p q x : ℕ) → q ≡ next s p → q ≤ reads (then (take_word s 5 2 q) (λ r. pick (lacks_unit (payload_at s q) (range_of x)) (Err (BadRange p)) (Ok r)))
    datum_rest_reads p q x h =
        let a : q ≤ next s q = (to_next s q).later in
        let b : next s q ≤ q + 1 = next_near s q in
        let d : next s p ≤ p + 1 = next_near s p in
        let m : next s q ≤ reads (take_word s 5 2 q) = word_reads 5 2 q in
        then_reads q (take_word s 5 2 q) (λ r. pick (lacks_unit (payload_at s q) (range_of x)) (Err (BadRange p)) (Ok r)) (omega (arith, a, m))
        (λ r e. let k : r ≡ next s q = (word_ends_at s 5 2 q).ends r e in pick_reads r (lacks_unit (payload_at s q) (range_of x)) (Err (BadRange p)) (Ok r) (omega (arith, k, b, h, d)) (omega arith))

    datum_rest_agrees : (p q x : ℕ) → q ≡ next s p
        → Agrees n (then (take_word s 5 2 q) (λ r. pick (lacks_unit (payload_at s q) (range_of x)) (Err (BadRange p)) (Ok r)))
        (then (take_word s' 5 2 q) (λ r. pick (lacks_unit (payload_at s' q) (range_of x)) (Err (BadRange p)) (Ok r)))
    datum_rest_agrees p q x h =
        let b : next s q ≤ q + 1 = next_near s q in
        let d : next s p ≤ p + 1 = next_near s p in
        branch q (take_word s 5 2 q) (take_word s' 5 2 q) (λ y r. pick (lacks_unit (payload y) (range_of x)) (Err (BadRange p)) (Ok r)) (λ y r. pick (lacks_unit (payload y) (range_of x)) (Err (BadRange p)) (Ok r))
        (word_ends_at s 5 2 q) (word_agrees 5 2 q)
        (λ y r k. pick_reads r (lacks_unit (payload y) (range_of x)) (Err (BadRange p)) (Ok r) (omega (arith, k, b, h, d)) (omega arith)) (λ y r k. same_agrees n _)

    datum_agrees : (p : ℕ) → Agrees n (datum_form s line p) (datum_form s' line p)
    unfolding datum_form
    datum_agrees p =
        branch p (range_form s line p) (range_form s' line p)
        (λ x q. then (take_word s 5 2 q) (λ r. pick (lacks_unit (payload_at s q) (range_of x)) (Err (BadRange p)) (Ok r)))
        (λ x q. then (take_word s' 5 2 q) (λ r. pick (lacks_unit (payload_at s' q) (range_of x)) (Err (BadRange p)) (Ok r)))
        (range_ends_at s line p) (range_agrees p) (λ x q h. datum_rest_reads p q x h) (λ x q h. datum_rest_agrees p q x h)

    datum_reads : (p : ℕ) → next s p ≤ reads (datum_form s line p)
    unfolding datum_form
    datum_reads p =
        then_reads (next s p) (range_form s line p) (λ q. then (take_word s 5 2 q) (λ r. pick (lacks_unit (payload_at s q) (range_at s p)) (Err (BadRange p)) (Ok r)))
        (range_reads p) (λ q e. datum_rest_reads p q (get_or s p 0) ((range_ends_at s line p).ends q e))

    -- absent, or something that reads the word there
    optional_agrees : (p : ℕ) (g g' : ℕ → Walk) → Agrees n (g p) (g' p) → next s p ≤ reads (g p)
        → Agrees n (choose (is_absent s p) (absent_form s) g p) (choose (is_absent s' p) (absent_form s') g' p)
    optional_agrees p g g' a m =
        swap p (λ x. choose (eqb (kind x) 2) (absent_form s) g p) (λ x. choose (eqb (kind x) 2) (absent_form s') g' p)
        (λ x. choose_agrees n (eqb (kind x) 2) (absent_form s) g (absent_form s') g' p (word_agrees 2 1 p) a)
        (choose_reads (next s p) (is_absent s p) (absent_form s) g p (word_reads 2 1 p) m)

    optional_reads : (p : ℕ) (g : ℕ → Walk) → next s p ≤ reads (g p) → next s p ≤ reads (choose (is_absent s p) (absent_form s) g p)
    optional_reads p g m = choose_reads (next s p) (is_absent s p) (absent_form s) g p (word_reads 2 1 p) m

    label_agrees : (p : ℕ) → Agrees n (label_form s line p) (label_form s' line p)
    unfolding label_form
    label_agrees p =
        optional_agrees p (λ r. then (range_form s line r) (λ q. take_word s 3 65536 q)) (λ r. then (range_form s' line r) (λ q. take_word s' 3 65536 q))
        (then_agrees n (range_form s line p) (range_form s' line p) (λ q. take_word s 3 65536 q) (λ q. take_word s' 3 65536 q) (range_agrees p) (λ q e. forward q _ (word_ends s 3 65536 q)) (λ q e. word_agrees 3 65536 q))
        (then_reads (next s p) (range_form s line p) (λ q. take_word s 3 65536 q) (range_reads p) (λ q e. forward q _ (word_ends s 3 65536 q)))

    module _ (t : List ℕ) where
      name_agrees : (p : ℕ) → Agrees n (name_form s t line p) (name_form s' t line p)
      unfolding name_form
      name_agrees p = tested p (range_form s line p) (range_form s' line p) (λ x. is_name_range s t line (range_of x)) (BadRange p) refl (range_ends_at s line p) (range_agrees p)

      name_reads : (p : ℕ) → next s p ≤ reads (name_form s t line p)
      unfolding name_form
      name_reads p = tested_reads p (range_form s line p) (is_name_range s t line (range_at s p)) (BadRange p) refl (range_ends_at s line p) (range_reads p)

      -- what a child has to give
      module _ (child child' : Sort → ℕ → Walk) (below : (c : Sort) (p : ℕ) → Ends s p (child c p)) (first : (c : Sort) (p : ℕ) → next s p ≤ reads (child c p))
          (alike : (c : Sort) (p : ℕ) → Agrees n (child c p) (child' c p)) where
        source_agrees : (m p : ℕ) → Agrees n (source_rest s t line child m p) (source_rest s' t line child' m p)
        source_agrees zero p = same_agrees n _
        source_agrees (suc zero) p = text_agrees p
        source_agrees (suc (suc m)) p = alike Expr p

        source_reads : (m p : ℕ) → p ≤ reads (source_rest s t line child m p)
        source_reads zero p = omega arith
        source_reads (suc zero) p = let a : p ≤ next s p = (to_next s p).later in let b : next s p ≤ reads (text_form s line p) = text_reads p in omega (arith, a, b)
        source_reads (suc (suc m)) p = forward p _ (below Expr p)

        element_agrees : (m p : ℕ) → Agrees n (element_rest s t line child m p) (element_rest s' t line child' m p)
        element_agrees zero p = alike Expr p
        element_agrees (suc m) p = range_agrees p

        element_reads : (m p : ℕ) → p ≤ reads (element_rest s t line child m p)
        element_reads zero p = forward p _ (below Expr p)
        element_reads (suc m) p = forward p _ (range_ends s line p)

        item_agrees : (i : Item) (p : ℕ) → Agrees n (item_form s t line child i p) (item_form s' t line child' i p)
        unfolding item_form
        item_agrees Nothing p = same_agrees n _
        item_agrees (Word k m) p = word_agrees (kind_number k) m p
        item_agrees range p = range_agrees p
        item_agrees name p = name_agrees p
        item_agrees optionalName p = optional_agrees p (name_form s t line) (name_form s' t line) (name_agrees p) (name_reads p)
        item_agrees text p = text_agrees p
        item_agrees (Node c) p = alike c p
        item_agrees number p = number_agrees p
        item_agrees optionalLabel p = optional_agrees p (take_word s 3 65536) (take_word s' 3 65536) (word_agrees 3 65536 p) (word_reads 3 65536 p)
        item_agrees source p =
            branch p (take_word s 7 3 p) (take_word s' 7 3 p) (λ x q. source_rest s t line child (payload x) q) (λ x q. source_rest s' t line child' (payload x) q)
            (word_ends_at s 7 3 p) (word_agrees 7 3 p) (λ x q h. source_reads (payload x) q) (λ x q h. source_agrees (payload x) q)
        item_agrees element p =
            branch p (take_word s 8 3 p) (take_word s' 8 3 p) (λ x q. element_rest s t line child (payload x) q) (λ x q. element_rest s' t line child' (payload x) q)
            (word_ends_at s 8 3 p) (word_agrees 8 3 p) (λ x q h. element_reads (payload x) q) (λ x q h. element_agrees (payload x) q)
        item_agrees datum p = datum_agrees p

        item_reads : (i : Item) (p : ℕ) → reads_word i ≡ true → next s p ≤ reads (item_form s t line child i p)
        unfolding item_form
        item_reads Nothing p e = let z : ◌≡◌ {A = ℕ} 0 1 = cc in absurd (omega arith)
        item_reads (Word k m) p e = word_reads (kind_number k) m p
        item_reads range p e = range_reads p
        item_reads name p e = name_reads p
        item_reads optionalName p e = optional_reads p (name_form s t line) (name_reads p)
        item_reads text p e = text_reads p
        item_reads (Node c) p e = first c p
        item_reads number p e = number_reads p
        item_reads optionalLabel p e = optional_reads p (take_word s 3 65536) (word_reads 3 65536 p)
        item_reads source p e = then_reads (next s p) (take_word s 7 3 p) (λ q. source_rest s t line child (payload_at s p) q) (word_reads 7 3 p) (λ q h. source_reads (payload_at s p) q)
        item_reads element p e = then_reads (next s p) (take_word s 8 3 p) (λ q. element_rest s t line child (payload_at s p) q) (word_reads 8 3 p) (λ q h. element_reads (payload_at s p) q)
        item_reads datum p e = datum_reads p

        pair_agrees : (a b : Item) (p : ℕ) → Agrees n (pair_form s t line child a b p) (pair_form s' t line child' a b p)
        unfolding pair_form
        pair_agrees a b p =
            then_agrees n (item_form s t line child a p) (item_form s' t line child' a p) (λ q. item_form s t line child b q) (λ q. item_form s' t line child' b q)
            (item_agrees a p) (λ q h. forward q _ (item_ends s t line child below b q)) (λ q h. item_agrees b q)

        pair_reads : (a b : Item) (p : ℕ) → reads_word a ≡ true → next s p ≤ reads (pair_form s t line child a b p)
        unfolding pair_form
        pair_reads a b p e = then_reads (next s p) (item_form s t line child a p) (λ q. item_form s t line child b q) (item_reads a p e) (λ q h. forward q _ (item_ends s t line child below b q))

      module _ (f f' : ℕ → Walk) (ends : (p : ℕ) → Ends s p (f p)) (each : (p : ℕ) → Agrees n (f p) (f' p)) where
        repeat_agrees : (m p : ℕ) → Agrees n (repeat_form s t line f m p) (repeat_form s' t line f' m p)
        unfolding repeat_form
        repeat_agrees zero p = same_agrees n _
        repeat_agrees (suc m) p =
            then_agrees n (f p) (f' p) (λ q. repeat_form s t line f m q) (λ q. repeat_form s' t line f' m q) (each p)
            (λ q h. forward q _ (repeat_ends s t line f ends m q)) (λ q h. repeat_agrees m q)

        list_agrees : (p : ℕ) → Agrees n (list_form s t line f p) (list_form s' t line f' p)
        unfolding list_form
        list_agrees p =
            branch p (take_word s 4 16777216 p) (take_word s' 4 16777216 p) (λ x q. repeat_form s t line f (payload x) q) (λ x q. repeat_form s' t line f' (payload x) q)
            (word_ends_at s 4 16777216 p) (word_agrees 4 16777216 p) (λ x q h. forward q _ (repeat_ends s t line f ends (payload x) q)) (λ x q h. repeat_agrees (payload x) q)

        list_reads : (p : ℕ) → next s p ≤ reads (list_form s t line f p)
        unfolding list_form
        list_reads p = then_reads (next s p) (take_word s 4 16777216 p) (λ q. repeat_form s t line f (payload_at s p) q) (word_reads 4 16777216 p) (λ q h. forward q _ (repeat_ends s t line f ends (payload_at s p) q))

        times_agrees : (m : Times) (p : ℕ) → next s p ≤ reads (f p) → Agrees n (times_form s t line m f p) (times_form s' t line m f' p)
        unfolding times_form
        times_agrees Once p h = each p
        times_agrees Optional p h = optional_agrees p f f' (each p) h
        times_agrees Listed p h = list_agrees p
        times_agrees NonEmpty p h =
            then_agrees n (non_empty_form s p) (non_empty_form s' p) (λ q. list_form s t line f p) (λ q. list_form s' t line f' p) (non_empty_agrees p)
            (λ q e. let k : q ≡ next s p = (non_empty_ends_at s p).ends q e in let l : next s p ≤ reads (list_form s t line f p) = list_reads p in omega (arith, k, l)) (λ q e. list_agrees p)
        times_agrees OptionalList p h = optional_agrees p (list_form s t line f) (list_form s' t line f') (list_agrees p) (list_reads p)

      module _ (child child' : Sort → ℕ → Walk) (below : (c : Sort) (p : ℕ) → Ends s p (child c p)) (first : (c : Sort) (p : ℕ) → next s p ≤ reads (child c p))
          (alike : (c : Sort) (p : ℕ) → Agrees n (child c p) (child' c p)) where
        field_agrees : (f : Field) (p : ℕ) → reads_word f.first ≡ true → Agrees n (field_form s t line child f p) (field_form s' t line child' f p)
        unfolding field_form
        field_agrees f p e =
            times_agrees (pair_form s t line child f.first f.second) (pair_form s' t line child' f.first f.second) (pair_ends s t line child below f.first f.second)
            (pair_agrees child child' below first alike f.first f.second) f.times p (pair_reads child child' below first alike f.first f.second p e)

        fields_agrees : (fs : List Field) (p : ℕ) → fields_read_words fs ≡ true → Agrees n (fields_form s t line child fs p) (fields_form s' t line child' fs p)
        unfolding fields_form
        fields_agrees [] p e = same_agrees n _
        fields_agrees (f ∷ fs) p e =
            then_agrees n (field_form s t line child f p) (field_form s' t line child' f p) (λ q. fields_form s t line child fs q) (λ q. fields_form s' t line child' fs q)
            (field_agrees f p (both_left (reads_word f.first) (fields_read_words fs) e)) (λ q h. forward q _ (fields_ends s t line child below fs q))
            (λ q h. fields_agrees fs q (both_right (reads_word f.first) (fields_read_words fs) e))

        body_agrees : (c : Sort) (k p : ℕ) → Agrees n (body_form s t line child c k p) (body_form s' t line child' c k p)
        unfolding body_form
        body_agrees c k p =
            then_agrees n (item_form s t line child (own_range c k) p) (item_form s' t line child' (own_range c k) p) (λ q. fields_form s t line child (fields_of c k) q) (λ q. fields_form s' t line child' (fields_of c k) q)
            (item_agrees child child' below first alike (own_range c k) p) (λ q h. forward q _ (fields_ends s t line child below (fields_of c k) q)) (λ q h. fields_agrees (fields_of c k) q (node_reads_words c k))

      node_rest_reads : (left : ℕ) (c : Sort) (p q x : ℕ) → q ≡ next s p
          → q ≤ reads (then (pick (is_fseek c (payload x)) (Err (Fseek p)) (Ok q)) (λ r. body_form s t line (node_form s t line left) c (payload x) r))
      node_rest_reads left c p q x h =
          then_reads q (pick (is_fseek c (payload x)) (Err (Fseek p)) (Ok q)) (λ r. body_form s t line (node_form s t line left) c (payload x) r)
          (bad_first p q (is_fseek c (payload x)) (Fseek p) refl h) (λ r e. forward r _ (body_ends_lem s t line (node_form s t line left) (node_ends s t line left) c (payload x) r))

      node_reads : (left : ℕ) (c : Sort) (p : ℕ) → next s p ≤ reads (node_form s t line left c p)
      unfolding node_form
      node_reads zero c p = then_reads (next s p) (head_form s c p) (λ q. Err (TooDeep p)) (head_reads c p) (λ q e. let h : q ≡ next s p = (head_ends_at s c p).ends q e in let k : next s p ≤ p + 1 = next_near s p in omega (arith, h, k))
      node_reads (suc left) c p =
          then_reads (next s p) (head_form s c p) (λ q. then (fseek_form s c p q) (λ r. body_form s t line (node_form s t line left) c (payload_at s p) r)) (head_reads c p)
          (λ q e. node_rest_reads left c p q (get_or s p 0) ((head_ends_at s c p).ends q e))

      -- THEOREM: a statement or an expression that n words decide is the same on both sheets
      pub node_agrees : (left : ℕ) (c : Sort) (p : ℕ) → Agrees n (node_form s t line left c p) (node_form s' t line left c p)
      unfolding node_form
      node_agrees zero c p =
          then_agrees n (head_form s c p) (head_form s' c p) (λ q. Err (TooDeep p)) (λ q. Err (TooDeep p)) (head_agrees c p)
          (λ q e. let h : q ≡ next s p = (head_ends_at s c p).ends q e in let k : next s p ≤ p + 1 = next_near s p in omega (arith, h, k)) (λ q e. same_agrees n _)
      node_agrees (suc left) c p =
          branch p (head_form s c p) (head_form s' c p)
          (λ x q. then (pick (is_fseek c (payload x)) (Err (Fseek p)) (Ok q)) (λ r. body_form s t line (node_form s t line left) c (payload x) r))
          (λ x q. then (pick (is_fseek c (payload x)) (Err (Fseek p)) (Ok q)) (λ r. body_form s' t line (node_form s' t line left) c (payload x) r))
          (head_ends_at s c p) (head_agrees c p) (λ x q h. node_rest_reads left c p q x h)
          (λ x q h. then_agrees n (pick (is_fseek c (payload x)) (Err (Fseek p)) (Ok q)) (pick (is_fseek c (payload x)) (Err (Fseek p)) (Ok q))
          (λ r. body_form s t line (node_form s t line left) c (payload x) r) (λ r. body_form s' t line (node_form s' t line left) c (payload x) r) (same_agrees n _)
          (λ r e. forward r _ (body_ends_lem s t line (node_form s t line left) (node_ends s t line left) c (payload x) r))
          (λ r e. body_agrees (node_form s t line left) (node_form s' t line left) (node_ends s t line left) (node_reads left) (node_agrees left) c (payload x) r))

  module _ (t : List ℕ) where
    line_head_ends_at : (base p : ℕ) → EndsAt (line_head s t base p) (next s p)
    unfolding line_head
    line_head_ends_at base p =
        ends_at_then _ _ (next s p) _ (word_ends_at s 16 4096 p) (ends_at_pick (leb (base + payload_at s p) (length t)) _ _ _ (ok_ends_at (next s p)) (err_ends_at (BadLength p) (next s p)))

    line_head_agrees : (base p : ℕ) → Agrees n (line_head s t base p) (line_head s' t base p)
    unfolding line_head
    line_head_agrees base p =
        tested p (take_word s 16 4096 p) (take_word s' 16 4096 p) (λ x. leb (base + payload x) (length t)) (BadLength p) refl (word_ends_at s 16 4096 p) (word_agrees 16 4096 p)

    line_head_reads : (base p : ℕ) → next s p ≤ reads (line_head s t base p)
    unfolding line_head
    line_head_reads base p = tested_reads p (take_word s 16 4096 p) (leb (base + payload_at s p) (length t)) (BadLength p) refl (word_ends_at s 16 4096 p) (word_reads 16 4096 p)

    module _ (line : Line) where
      stmts_ends : (q : ℕ) → Ends s q (list_form s t line (node_form s t line 64 Stmt) q)
      stmts_ends q = list_ends s t line (node_form s t line 64 Stmt) (node_ends s t line 64 Stmt) q

      line_rest_agrees : (q : ℕ) → Agrees n (then (label_form s line q) (λ r. list_form s t line (node_form s t line 64 Stmt) r)) (then (label_form s' line q) (λ r. list_form s' t line (node_form s' t line 64 Stmt) r))
      line_rest_agrees q =
          then_agrees n (label_form s line q) (label_form s' line q) (λ r. list_form s t line (node_form s t line 64 Stmt) r) (λ r. list_form s' t line (node_form s' t line 64 Stmt) r)
          (label_agrees line q) (λ r e. forward r _ (stmts_ends r))
          (λ r e. list_agrees line t (node_form s t line 64 Stmt) (node_form s' t line 64 Stmt) (node_ends s t line 64 Stmt) (node_agrees line t 64 Stmt) r)

      line_rest_reads : (q : ℕ) → q ≤ reads (then (label_form s line q) (λ r. list_form s t line (node_form s t line 64 Stmt) r))
      line_rest_reads q = then_reads q (label_form s line q) (λ r. list_form s t line (node_form s t line 64 Stmt) r) (forward q _ (label_ends s line q)) (λ r e. forward r _ (stmts_ends r))

    -- the line that a head word makes
    abbrev line_by : ℕ → ℕ → Line
    line_by base x = record { base = base; len = payload x }

    line_agrees : (base p : ℕ) → Agrees n (line_form s t base p) (line_form s' t base p)
    unfolding line_form
    line_agrees base p =
        branch p (line_head s t base p) (line_head s' t base p)
        (λ x q. then (label_form s (line_by base x) q) (λ r. list_form s t (line_by base x) (node_form s t (line_by base x) 64 Stmt) r))
        (λ x q. then (label_form s' (line_by base x) q) (λ r. list_form s' t (line_by base x) (node_form s' t (line_by base x) 64 Stmt) r))
        (line_head_ends_at base p) (line_head_agrees base p) (λ x q h. line_rest_reads (line_by base x) q) (λ x q h. line_rest_agrees (line_by base x) q)

    line_reads : (base p : ℕ) → next s p ≤ reads (line_form s t base p)
    unfolding line_form
    line_reads base p =
        then_reads (next s p) (line_head s t base p) (λ q. then (label_form s (line_of s t base p) q) (λ r. list_form s t (line_of s t base p) (node_form s t (line_of s t base p) 64 Stmt) r))
        (line_head_reads base p) (λ q e. line_rest_reads (line_of s t base p) q)

    -- where one sheet ends, the other does
    same_length : (p : ℕ) → p ≤ n → length s ≤ p → p ≤ length s → length s ≡ length s'
    same_length zero h a b = let c : length s' ≤ 0 = ltb-false 0 (length s') (sym (al.inside 0 h) ∙ le-ltb 0 (length s) a) in omega arith
    same_length (suc k) h a b =
        let c : length s' ≤ suc k = ltb-false (suc k) (length s') (sym (al.inside (suc k) h) ∙ le-ltb (suc k) (length s) a) in
        let d : k < length s' = ltb-true k (length s') (sym (al.inside k (omega arith)) ∙ lt-ltb k (length s) (omega arith)) in
        omega arith

    end_agrees : (base p : ℕ) → p ≤ length s → Agrees n (end_form s t base p) (end_form s' t base p)
    unfolding end_form
    end_agrees base p i = record { same = λ h. go (ltb p (length s)) (ltb base (length t)) refl h }
      where
        go : (b d : Bool) → ltb p (length s) ≡ b → reads (pick b (Err (BadWord p)) (pick d (Err (BadLength (length s))) (Ok p))) ≤ n
            → pick b (Err (BadWord p)) (pick d (Err (BadLength (length s))) (Ok p)) ≡ pick (ltb p (length s')) (Err (BadWord p)) (pick d (Err (BadLength (length s'))) (Ok p))
        go true d e h = let k : ltb p (length s') ≡ true = sym (al.inside p (omega (arith, h))) ∙ e in rw k
        go false true e h =
            let k : ltb p (length s') ≡ false = sym (al.inside p (omega (arith, h, i))) ∙ e in
            let l : length s ≡ length s' = same_length p (omega (arith, h, i)) (ltb-false p (length s) e) i in
            rw k (ap (λ (m : ℕ). Err (BadLength m)) l)
        go false false e h = let k : ltb p (length s') ≡ false = sym (al.inside p h) ∙ e in rw k

    reads_behind : (w : Walk) (q m : ℕ) → w ≡ Ok q → m ≤ reads w → m ≤ q
    reads_behind w q m e h = rw e at h

    lines_agrees : (m base p : ℕ) → p ≤ length s → Agrees n (lines_form s t m base p) (lines_form s' t m base p)
    unfolding lines_form
    lines_agrees zero base p i = end_agrees base p i
    lines_agrees (suc m) base p i =
        then_agrees n (line_form s t base p) (line_form s' t base p) (λ q. lines_form s t m (base + payload_at s p) q) (λ q. lines_form s' t m (base + payload_at s' p) q) (line_agrees base p)
        (λ q e. forward q _ (lines_ends s t m (base + payload_at s p) q (inside_of q e)))
        (λ q e. swap p (λ x. lines_form s t m (base + payload x) q) (λ x. lines_form s' t m (base + payload x) q) (λ x. lines_agrees m (base + payload x) q (inside_of q e))
        (let a : next s p ≤ q = reads_behind (line_form s t base p) q (next s p) e (line_reads base p) in
        let b : q ≤ reads (lines_form s t m (base + payload_at s p) q) = forward q _ (lines_ends s t m (base + payload_at s p) q (inside_of q e)) in omega (arith, a, b)))
      where
        inside_of : (q : ℕ) → line_form s t base p ≡ Ok q → q ≤ length s
        inside_of q e = let g : Ends s p (Ok q) = rw e at (line_ends s t base p) in g.steps.inside i

    -- THEOREM: a sheet that n words decide is the same as one that is alike up to there
    pub sheet_agrees : Agrees n (sheet_form s t) (sheet_form s' t)
    unfolding sheet_form
    sheet_agrees =
        branch 0 (take_word s 15 16777216 0) (take_word s' 15 16777216 0) (λ x q. lines_form s t (payload x) 0 q) (λ x q. lines_form s' t (payload x) 0 q)
        (word_ends_at s 15 16777216 0) (word_agrees 15 16777216 0)
        (λ x q h. forward q _ (lines_ends s t (payload x) 0 q (inside_of q h))) (λ x q h. lines_agrees (payload x) 0 q (inside_of q h))
      where
        inside_of : (q : ℕ) → q ≡ next s 0 → q ≤ length s
        inside_of q h = let a : next s 0 ≤ length s = (to_next s 0).inside (omega arith) in omega (arith, h, a)

-- two sheets of one length
pub alike : (s s' : List ℕ) (n : ℕ) → length s ≡ length s' → ((i : ℕ) → i < n → get_or s i 0 ≡ get_or s' i 0) → Alike s s' n
alike s s' n e w = record { word = w; inside = λ i h. ap (λ (l : ℕ). ltb i l) e }

-- THEOREM: two sheets of one length, with the same words up to the offending one and one word more, offend alike
pub node_local : (s s' t : List ℕ) (line : Line) (left : ℕ) (c : Sort) (p : ℕ) (o : Offence) → length s ≡ length s'
    → ((i : ℕ) → i < offence_place o + 2 → get_or s i 0 ≡ get_or s' i 0) → node_form s t line left c p ≡ Err o → node_form s' t line left c p ≡ Err o
node_local s s' t line left c p o e w h =
    let a : Agrees (offence_place o + 2) (Err o) (node_form s' t line left c p) = rw h at (node_agrees s s' (offence_place o + 2) (alike s s' (offence_place o + 2) e w) line t left c p) in
    sym (a.same (omega arith))

-- THEOREM: the same of whole sheets
pub sheet_local : (s s' t : List ℕ) (o : Offence) → length s ≡ length s'
    → ((i : ℕ) → i < offence_place o + 2 → get_or s i 0 ≡ get_or s' i 0) → sheet_form s t ≡ Err o → sheet_form s' t ≡ Err o
sheet_local s s' t o e w h =
    let a : Agrees (offence_place o + 2) (Err o) (sheet_form s' t) = rw h at (sheet_agrees s s' (offence_place o + 2) (alike s s' (offence_place o + 2) e w) t) in
    sym (a.same (omega arith))

-- two sheets that go on behind n
pub alike_longer : (s s' : List ℕ) (n : ℕ) → n < length s → n < length s' → ((i : ℕ) → i < n → get_or s i 0 ≡ get_or s' i 0) → Alike s s' n
alike_longer s s' n a b w = record { word = w; inside = λ i h. lt-ltb i (length s) (omega arith) ∙ sym (lt-ltb i (length s') (omega arith)) }

-- THEOREM: what stands further behind the offending word does not matter, nor how much of it
pub sheet_prefix : (s s' t : List ℕ) (o : Offence) → offence_place o + 2 < length s → offence_place o + 2 < length s'
    → ((i : ℕ) → i < offence_place o + 2 → get_or s i 0 ≡ get_or s' i 0) → sheet_form s t ≡ Err o → sheet_form s' t ≡ Err o
sheet_prefix s s' t o a b w h =
    let g : Agrees (offence_place o + 2) (Err o) (sheet_form s' t) = rw h at (sheet_agrees s s' (offence_place o + 2) (alike_longer s s' (offence_place o + 2) a b w) t) in
    sym (g.same (omega arith))
