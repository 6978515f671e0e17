-- Where a walk can end: at or behind its start, and within the sheet.
use mathlib.Core.Path.{◌≡◌, refl}
use mathlib.Core.Bool.{Bool, true, false}
use mathlib.Core.List.{List, [], ◌∷◌}
use Prim.Native.Nat.{ℕ, zero, suc, ◌+◌, ◌≤◌, ◌<◌}
use native.Mathlib.Omega.{arith}
use borrow.Author.Tests.{ltb-true}
use lib.Dec.{ltb, eqb}
use lib.ListN.{length}
use Rattle.recorder.specs.Word.{pick, choose, both, kind_at, payload_at, next, range_at}
use Rattle.sheet.specs.declared.form.Item.{Item}
use Rattle.sheet.specs.declared.form.Item.TheVariants.{Nothing, Word, Range as range, Name as name, OptionalName as optionalName, Text as text, Node, Number as number, OptionalLabel as optionalLabel, Source as source, Element as element, Datum as datum}
use Rattle.sheet.specs.declared.form.Sort.{Sort}
use Rattle.sheet.specs.declared.form.Sort.TheVariants.{Expr}
use Rattle.sheet.specs.declared.form.Times.{Times}
use Rattle.sheet.specs.declared.form.Times.TheVariants.{Once, Optional, List as Listed, NonEmpty, OptionalList}
use Rattle.sheet.specs.declared.form.Field.{Field}
use Rattle.sheet.specs.declared.form.Offence.TheVariants.{BadWord, BadRange}
use Rattle.sheet.specs.Walk.{Walk}
use Rattle.std.specs.Prelude.{Ok, Err}
use Rattle.sheet.specs.declared.form.Line.{Line}
use Rattle.sheet.specs.Table.{kind_number, node_kind, may_stand, own_range, fields_of, is_fseek}
use Rattle.sheet.specs.Check.{offence_place}
use Rattle.sheet.specs.Form.{then, is_absent, has_unit, is_name_range, take_word, absent_form, non_empty_form, high_form, low_form, number_form, head_form, in_line, range_form, text_form, datum_form, label_form, name_form, source_rest, element_rest, item_form, pair_form, repeat_form, list_form, times_form, field_form, fields_form, body_form, node_form, high_fits, low_fits, lacks_unit}

-- where a walk ends or offends
abbrev pub end_of : Walk → ℕ
end_of (Ok p) = p
end_of (Err o) = offence_place o

-- q is at or behind p, and within the sheet if p is
pub record Steps (s : List ℕ) (p q : ℕ) : Type 0 where
  pub later : p ≤ q
  pub inside : p ≤ length s → q ≤ length s

pub here : (s : List ℕ) (p : ℕ) → Steps s p p
here s p = record { later = omega arith; inside = λ h. h }

pub further : (s : List ℕ) (p q r : ℕ) → Steps s p q → Steps s q r → Steps s p r
further s p q r a b = record { later = omega (arith, a.later, b.later); inside = λ h. b.inside (a.inside h) }

pub to_next : (s : List ℕ) (p : ℕ) → Steps s p (next s p)
unfolding next
to_next s p = go (ltb p (length s)) refl
  where
    go : (b : Bool) → ltb p (length s) ≡ b → Steps s p (pick b (p + 1) p)
    go true e = let h : p < length s = ltb-true _ _ e in record { later = omega arith; inside = λ k. omega arith }
    go false e = here s p

-- a walk from p ends, or offends, at or behind p, and within the sheet if p is
pub record Ends (s : List ℕ) (p : ℕ) (w : Walk) : Type 0 where
  pub steps : Steps s p (end_of w)

-- A walk's parts, each from where it starts.
module _ (s : List ℕ) where
  pub behind_ends : (p q : ℕ) → Steps s p q → Ends s p (Ok q)
  behind_ends p q h = record { steps = h }

  bad_word : (p : ℕ) → Ends s p (Err (BadWord p))
  bad_word p = record { steps = here s p }

  bad_range : (p : ℕ) → Ends s p (Err (BadRange p))
  bad_range p = record { steps = here s p }

  pub from_later : (p q : ℕ) (w : Walk) → Steps s p q → Ends s q w → Ends s p w
  from_later p q w h e = record { steps = further s p q _ h e.steps }

  pub pick_ends : (p : ℕ) (b : Bool) (x y : Walk) → Ends s p x → Ends s p y → Ends s p (pick b x y)
  pick_ends p true x y a b = a
  pick_ends p false x y a b = b

  choose_ends : (p : ℕ) (b : Bool) (f g : ℕ → Walk) → Ends s p (f p) → Ends s p (g p) → Ends s p (choose b f g p)
  choose_ends p true f g a b = a
  choose_ends p false f g a b = b

  -- what goes on may offend at a word already read
  pub back_ends : (p : ℕ) (w : Walk) (f : ℕ → Walk) → Ends s p w → ((q : ℕ) → Steps s p q → Ends s p (f q)) → Ends s p (then w f)
  back_ends p (Ok q) f a b = b q a.steps
  back_ends p (Err o) f a b = a

  pub then_ends : (p : ℕ) (w : Walk) (f : ℕ → Walk) → Ends s p w → ((q : ℕ) → Ends s q (f q)) → Ends s p (then w f)
  then_ends p w f a b = back_ends p w f a (λ q h. from_later p q _ h (b q))

  pub word_ends : (k n p : ℕ) → Ends s p (take_word s k n p)
  unfolding take_word
  word_ends k n p = pick_ends p (both (eqb (kind_at s p) k) (ltb (payload_at s p) n)) _ _ (behind_ends p _ (to_next s p)) (bad_word p)

  pub absent_or : (p : ℕ) (g : ℕ → Walk) → Ends s p (g p) → Ends s p (choose (is_absent s p) (absent_form s) g p)
  absent_or p g h = choose_ends p (is_absent s p) (absent_form s) g (word_ends 2 1 p) h

  pub non_empty_ends : (p : ℕ) → Ends s p (non_empty_form s p)
  unfolding non_empty_form
  non_empty_ends p = back_ends p _ _ (word_ends 4 16777216 p) (λ q h. pick_ends p (eqb (payload_at s p) 0) _ _ (bad_word p) (behind_ends p q h))

  pub high_ends : (e p : ℕ) → Ends s p (high_form s e p)
  unfolding high_form
  high_ends e p = back_ends p _ _ (word_ends 11 65536 p) (λ q h. pick_ends p (high_fits e (payload_at s p)) _ _ (behind_ends p q h) (bad_word p))

  pub low_ends : (e p : ℕ) → Ends s p (low_form s e p)
  unfolding low_form
  low_ends e p = back_ends p _ _ (word_ends 11 65536 p) (λ q h. pick_ends p (low_fits e (payload_at s p)) _ _ (behind_ends p q h) (bad_word p))

  pub number_ends : (p : ℕ) → Ends s p (number_form s p)
  unfolding number_form
  number_ends p = then_ends p _ _ (word_ends 10 257 p) (λ q. then_ends q _ _ (high_ends _ q) (λ r. low_ends _ r))

  pub head_ends : (c : Sort) (p : ℕ) → Ends s p (head_form s c p)
  head_ends c p = pick_ends p (both (eqb (kind_at s p) (node_kind c)) (may_stand c (payload_at s p))) _ _ (behind_ends p _ (to_next s p)) (bad_word p)

  pub range_ends : (line : Line) (p : ℕ) → Ends s p (range_form s line p)
  unfolding range_form
  range_ends line p = back_ends p _ _ (word_ends 1 16777216 p) (λ q h. pick_ends p (in_line line (range_at s p)) _ _ (behind_ends p q h) (bad_range p))

  pub text_ends : (line : Line) (p : ℕ) → Ends s p (text_form s line p)
  unfolding text_form
  text_ends line p = back_ends p _ _ (range_ends line p) (λ q h. pick_ends p (has_unit (range_at s p)) _ _ (behind_ends p q h) (bad_range p))

  pub datum_ends : (line : Line) (p : ℕ) → Ends s p (datum_form s line p)
  unfolding datum_form
  datum_ends line p = back_ends p _ _ (range_ends line p) (λ q h. back_ends p _ _ (from_later p q _ h (word_ends 5 2 q)) (λ r k. pick_ends p (lacks_unit (payload_at s q) (range_at s p)) _ _ (bad_range p) (behind_ends p r k)))

  pub label_ends : (line : Line) (p : ℕ) → Ends s p (label_form s line p)
  unfolding label_form
  label_ends line p = absent_or p (λ q. then (range_form s line q) (λ r. take_word s 3 65536 r)) (then_ends p _ _ (range_ends line p) (λ q. word_ends 3 65536 q))

  module _ (t : List ℕ) (line : Line) where
    pub name_ends : (p : ℕ) → Ends s p (name_form s t line p)
    unfolding name_form
    name_ends p = back_ends p _ _ (range_ends line p) (λ q h. pick_ends p (is_name_range s t line (range_at s p)) _ _ (behind_ends p q h) (bad_range p))

    module _ (child : Sort → ℕ → Walk) (below : (c : Sort) (p : ℕ) → Ends s p (child c p)) where
      source_ends : (n p : ℕ) → Ends s p (source_rest s t line child n p)
      source_ends zero p = behind_ends p p (here s p)
      source_ends (suc zero) p = text_ends line p
      source_ends (suc (suc n)) p = below Expr p

      element_ends : (n p : ℕ) → Ends s p (element_rest s t line child n p)
      element_ends zero p = below Expr p
      element_ends (suc n) p = range_ends line p

      pub item_ends : (i : Item) (p : ℕ) → Ends s p (item_form s t line child i p)
      unfolding item_form
      item_ends Nothing p = behind_ends p p (here s p)
      item_ends (Word k n) p = word_ends (kind_number k) n p
      item_ends range p = range_ends line p
      item_ends name p = name_ends p
      item_ends optionalName p = absent_or p (name_form s t line) (name_ends p)
      item_ends text p = text_ends line p
      item_ends (Node c) p = below c p
      item_ends number p = number_ends p
      item_ends optionalLabel p = absent_or p (take_word s 3 65536) (word_ends 3 65536 p)
      item_ends source p = then_ends p _ _ (word_ends 7 3 p) (λ q. source_ends (payload_at s p) q)
      item_ends element p = then_ends p _ _ (word_ends 8 3 p) (λ q. element_ends (payload_at s p) q)
      item_ends datum p = datum_ends line p

      pub pair_ends : (a b : Item) (p : ℕ) → Ends s p (pair_form s t line child a b p)
      unfolding pair_form
      pair_ends a b p = then_ends p _ _ (item_ends a p) (λ q. item_ends b q)

    module _ (f : ℕ → Walk) (each : (p : ℕ) → Ends s p (f p)) where
      pub repeat_ends : (n p : ℕ) → Ends s p (repeat_form s t line f n p)
      unfolding repeat_form
      repeat_ends zero p = behind_ends p p (here s p)
      repeat_ends (suc n) p = then_ends p _ _ (each p) (λ q. repeat_ends n q)

      pub list_ends : (p : ℕ) → Ends s p (list_form s t line f p)
      unfolding list_form
      list_ends p = then_ends p _ _ (word_ends 4 16777216 p) (λ q. repeat_ends _ q)

      times_ends : (m : Times) (p : ℕ) → Ends s p (times_form s t line m f p)
      unfolding times_form
      times_ends Once p = each p
      times_ends Optional p = absent_or p f (each p)
      times_ends Listed p = list_ends p
      times_ends NonEmpty p = back_ends p _ _ (non_empty_ends p) (λ q h. list_ends p)
      times_ends OptionalList p = absent_or p (list_form s t line f) (list_ends p)

    module _ (child : Sort → ℕ → Walk) (below : (c : Sort) (p : ℕ) → Ends s p (child c p)) where
      pub field_ends : (f : Field) (p : ℕ) → Ends s p (field_form s t line child f p)
      unfolding field_form
      field_ends f p = times_ends _ (pair_ends child below f.first f.second) f.times p

      pub fields_ends : (fs : List Field) (p : ℕ) → Ends s p (fields_form s t line child fs p)
      unfolding fields_form
      fields_ends [] p = behind_ends p p (here s p)
      fields_ends (f ∷ fs) p = then_ends p _ _ (field_ends f p) (λ q. fields_ends fs q)

      pub body_ends_lem : (c : Sort) (k p : ℕ) → Ends s p (body_form s t line child c k p)
      unfolding body_form
      body_ends_lem c k p = then_ends p _ _ (item_ends child below (own_range c k) p) (λ q. fields_ends (fields_of c k) q)

    -- THEOREM: a statement or an expression ends, or offends, at or behind its own word, and within the sheet if that is
    pub node_ends : (left : ℕ) (c : Sort) (p : ℕ) → Ends s p (node_form s t line left c p)
    unfolding node_form
    node_ends zero c p = back_ends p _ _ (head_ends c p) (λ q h. record { steps = here s p })
    node_ends (suc left) c p = back_ends p _ _ (head_ends c p) (λ q h. back_ends p _ _ (pick_ends p (is_fseek c (payload_at s p)) _ _ (record { steps = here s p }) (behind_ends p q h)) (λ r k. from_later p r _ k (body_ends_lem (node_form s t line left) (node_ends left) c (payload_at s p) r)))
