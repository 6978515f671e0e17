-- The skip finds the place where the check of an accepted part ended.
use mathlib.Core.Path.{◌≡◌, refl}
use mathlib.Core.Bool.{Bool, true, false}
use mathlib.Core.List.{List, [], ◌∷◌}
use Prim.Native.Nat.{ℕ, zero, suc}
use native.Mathlib.Omega.{arith}
use lib.Dec.{ltb, eqb}
use Rattle.recorder.specs.Word.{pick, choose, both, kind_at, payload_at, next, range_at}
use Rattle.sheet.specs.declared.form.Item.{Item}
use Rattle.sheet.specs.declared.form.Item.TheVariants.{Nothing, Word, Range as range, Name as name, OptionalName as optionalName, Text as text, Node, Number as number, OptionalLabel as optionalLabel, Source as source, Element as element, Datum as datum}
use Rattle.sheet.specs.declared.form.Sort.{Sort}
use Rattle.sheet.specs.declared.form.Sort.TheVariants.{Expr, Place, InputPlace, Stmt}
use Rattle.sheet.specs.declared.form.Times.{Times}
use Rattle.sheet.specs.declared.form.Times.TheVariants.{Once, Optional, List as Listed, NonEmpty, OptionalList}
use Rattle.sheet.specs.declared.form.Field.{Field}
use Rattle.sheet.specs.declared.form.Offence.{Offence}
use Rattle.sheet.specs.declared.form.Offence.TheVariants.{BadWord, BadRange, Fseek}
use Rattle.sheet.specs.Walk.{Walk}
use Rattle.std.specs.Prelude.{Ok, Err}
use Rattle.sheet.specs.declared.form.Line.{Line}
use Rattle.sheet.specs.Table.{kind_number, node_kind, may_stand, expr_range_item, own_range, fields_of, is_fseek}
use Rattle.sheet.specs.Form.{then, is_absent, has_unit, is_name_range, take_word, absent_form, non_empty_form, high_form, low_form, number_form, head_form, in_line, range_form, text_form, datum_form, name_form, source_rest, element_rest, item_form, pair_form, repeat_form, list_form, times_form, field_form, fields_form, body_form, node_form, high_fits, low_fits, lacks_unit}
use Rattle.sheet.specs.Skip.{skip_source, skip_element, skip_item, skip_pair, skip_repeat, skip_list, skip_times, skip_field, skip_fields, skip_node}

-- where the walk is accepted, it ends at x
pub record EndsAt (w : Walk) (x : ℕ) : Type 0 where
  pub ends : (p : ℕ) → w ≡ Ok p → p ≡ x

pub ok_ends_at : (x : ℕ) → EndsAt (Ok x) x
ok_ends_at x = record { ends = λ p e. let z : p ≡ x = cc in z }

pub err_ends_at : (o : Offence) (x : ℕ) → EndsAt (Err o) x
err_ends_at o x = record { ends = λ p e. let z : ◌≡◌ {A = ℕ} 0 1 = cc in absurd (omega arith) }

ends_at_same : (p x : ℕ) → EndsAt (Ok p) x → p ≡ x
ends_at_same p x h = h.ends p refl

pub ends_at_pick : (b : Bool) (v w : Walk) (x : ℕ) → EndsAt v x → EndsAt w x → EndsAt (pick b v w) x
ends_at_pick true v w x a b = a
ends_at_pick false v w x a b = b

pub ends_at_choose : (b : Bool) (f g : ℕ → Walk) (d e : ℕ → ℕ) (p : ℕ) → EndsAt (f p) (d p) → EndsAt (g p) (e p) → EndsAt (choose b f g p) (choose b d e p)
ends_at_choose true f g d e p a b = a
ends_at_choose false f g d e p a b = b

ends_at_either : (b : Bool) (f g : ℕ → Walk) (p x : ℕ) → EndsAt (f p) x → EndsAt (g p) x → EndsAt (choose b f g p) x
ends_at_either true f g p x a b = a
ends_at_either false f g p x a b = b

pub ends_at_then : (w : Walk) (f : ℕ → Walk) (x y : ℕ) → EndsAt w x → EndsAt (f x) y → EndsAt (then w f) y
ends_at_then (Ok p) f x y a b = let e : p ≡ x = ends_at_same p x a in rw e b
ends_at_then (Err o) f x y a b = err_ends_at o y

module _ (s : List ℕ) where
  pub word_ends_at : (k n p : ℕ) → EndsAt (take_word s k n p) (next s p)
  unfolding take_word
  word_ends_at k n p = ends_at_pick (both (eqb (kind_at s p) k) (ltb (payload_at s p) n)) _ _ _ (ok_ends_at (next s p)) (err_ends_at (BadWord p) (next s p))

  pub non_empty_ends_at : (p : ℕ) → EndsAt (non_empty_form s p) (next s p)
  unfolding non_empty_form
  non_empty_ends_at p = ends_at_then _ _ (next s p) _ (word_ends_at 4 16777216 p) (ends_at_pick (eqb (payload_at s p) 0) _ _ _ (err_ends_at (BadWord p) (next s p)) (ok_ends_at (next s p)))

  pub high_ends_at : (e p : ℕ) → EndsAt (high_form s e p) (next s p)
  unfolding high_form
  high_ends_at e p = ends_at_then _ _ (next s p) _ (word_ends_at 11 65536 p) (ends_at_pick (high_fits e (payload_at s p)) _ _ _ (ok_ends_at (next s p)) (err_ends_at (BadWord p) (next s p)))

  low_ends_at : (e p : ℕ) → EndsAt (low_form s e p) (next s p)
  unfolding low_form
  low_ends_at e p = ends_at_then _ _ (next s p) _ (word_ends_at 11 65536 p) (ends_at_pick (low_fits e (payload_at s p)) _ _ _ (ok_ends_at (next s p)) (err_ends_at (BadWord p) (next s p)))

  number_ends_at : (p : ℕ) → EndsAt (number_form s p) (next s (next s (next s p)))
  unfolding number_form
  number_ends_at p = ends_at_then _ _ (next s p) _ (word_ends_at 10 257 p) (ends_at_then _ _ (next s (next s p)) _ (high_ends_at (payload_at s p) (next s p)) (low_ends_at (payload_at s p) (next s (next s p))))

  pub head_ends_at : (c : Sort) (p : ℕ) → EndsAt (head_form s c p) (next s p)
  head_ends_at c p = ends_at_pick (both (eqb (kind_at s p) (node_kind c)) (may_stand c (payload_at s p))) _ _ _ (ok_ends_at (next s p)) (err_ends_at (BadWord p) (next s p))

  pub range_ends_at : (line : Line) (p : ℕ) → EndsAt (range_form s line p) (next s p)
  unfolding range_form
  range_ends_at line p = ends_at_then _ _ (next s p) _ (word_ends_at 1 16777216 p) (ends_at_pick (in_line line (range_at s p)) _ _ _ (ok_ends_at (next s p)) (err_ends_at (BadRange p) (next s p)))

  text_ends_at : (line : Line) (p : ℕ) → EndsAt (text_form s line p) (next s p)
  unfolding text_form
  text_ends_at line p = ends_at_then _ _ (next s p) _ (range_ends_at line p) (ends_at_pick (has_unit (range_at s p)) _ _ _ (ok_ends_at (next s p)) (err_ends_at (BadRange p) (next s p)))

  datum_ends_at : (line : Line) (p : ℕ) → EndsAt (datum_form s line p) (next s (next s p))
  unfolding datum_form
  datum_ends_at line p =
      ends_at_then _ _ (next s p) _ (range_ends_at line p) (ends_at_then _ _ (next s (next s p)) _ (word_ends_at 5 2 (next s p))
      (ends_at_pick (lacks_unit (payload_at s (next s p)) (range_at s p)) _ _ _ (err_ends_at (BadRange p) (next s (next s p))) (ok_ends_at (next s (next s p)))))

  module _ (t : List ℕ) (line : Line) where
    name_ends_at : (p : ℕ) → EndsAt (name_form s t line p) (next s p)
    unfolding name_form
    name_ends_at p = ends_at_then _ _ (next s p) _ (range_ends_at line p) (ends_at_pick (is_name_range s t line (range_at s p)) _ _ _ (ok_ends_at (next s p)) (err_ends_at (BadRange p) (next s p)))

    module _ (child : Sort → ℕ → Walk) (skip : Sort → ℕ → ℕ) (below : (c : Sort) (p : ℕ) → EndsAt (child c p) (skip c p)) where
      source_ends_at : (n p : ℕ) → EndsAt (source_rest s t line child n p) (skip_source s skip n p)
      source_ends_at zero p = ok_ends_at p
      source_ends_at (suc zero) p = text_ends_at line p
      source_ends_at (suc (suc n)) p = below Expr p

      element_ends_at : (n p : ℕ) → EndsAt (element_rest s t line child n p) (skip_element s skip n p)
      element_ends_at zero p = below Expr p
      element_ends_at (suc n) p = range_ends_at line p

      pub item_ends_at : (i : Item) (p : ℕ) → EndsAt (item_form s t line child i p) (skip_item s skip i p)
      unfolding item_form skip_item
      item_ends_at Nothing p = ok_ends_at p
      item_ends_at (Word k n) p = word_ends_at (kind_number k) n p
      item_ends_at range p = range_ends_at line p
      item_ends_at name p = name_ends_at p
      item_ends_at optionalName p = ends_at_either (is_absent s p) (absent_form s) (name_form s t line) p (next s p) (word_ends_at 2 1 p) (name_ends_at p)
      item_ends_at text p = text_ends_at line p
      item_ends_at (Node c) p = below c p
      item_ends_at number p = number_ends_at p
      item_ends_at optionalLabel p = ends_at_either (is_absent s p) (absent_form s) (take_word s 3 65536) p (next s p) (word_ends_at 2 1 p) (word_ends_at 3 65536 p)
      item_ends_at source p = ends_at_then _ _ (next s p) _ (word_ends_at 7 3 p) (source_ends_at (payload_at s p) (next s p))
      item_ends_at element p = ends_at_then _ _ (next s p) _ (word_ends_at 8 3 p) (element_ends_at (payload_at s p) (next s p))
      item_ends_at datum p = datum_ends_at line p

      pub pair_ends_at : (a b : Item) (p : ℕ) → EndsAt (pair_form s t line child a b p) (skip_pair s skip a b p)
      unfolding pair_form skip_pair
      pair_ends_at a b p = ends_at_then _ _ (skip_item s skip a p) _ (item_ends_at a p) (item_ends_at b (skip_item s skip a p))

      expr_own_ends_at : (k p : ℕ) → EndsAt (item_form s t line child (expr_range_item k) p) (next s p)
      unfolding item_form
      expr_own_ends_at zero p = name_ends_at p
      expr_own_ends_at (suc zero) p = text_ends_at line p
      expr_own_ends_at (suc (suc k)) p = range_ends_at line p

      pub own_ends_at : (c : Sort) (k p : ℕ) → EndsAt (item_form s t line child (own_range c k) p) (next s p)
      unfolding item_form
      own_ends_at Expr k p = expr_own_ends_at k p
      own_ends_at Place k p = expr_own_ends_at k p
      own_ends_at InputPlace k p = expr_own_ends_at k p
      own_ends_at Stmt k p = range_ends_at line p

    module _ (f : ℕ → Walk) (d : ℕ → ℕ) (each : (p : ℕ) → EndsAt (f p) (d p)) where
      repeat_ends_at : (n p : ℕ) → EndsAt (repeat_form s t line f n p) (skip_repeat s d n p)
      unfolding repeat_form skip_repeat
      repeat_ends_at zero p = ok_ends_at p
      repeat_ends_at (suc n) p = ends_at_then _ _ (d p) _ (each p) (repeat_ends_at n (d p))

      pub list_ends_at : (p : ℕ) → EndsAt (list_form s t line f p) (skip_list s d p)
      unfolding list_form skip_list
      list_ends_at p = ends_at_then _ _ (next s p) _ (word_ends_at 4 16777216 p) (repeat_ends_at (payload_at s p) (next s p))

      times_ends_at : (m : Times) (p : ℕ) → EndsAt (times_form s t line m f p) (skip_times s m d p)
      unfolding times_form skip_times
      times_ends_at Once p = each p
      times_ends_at Optional p = ends_at_choose (is_absent s p) (absent_form s) f (next s) d p (word_ends_at 2 1 p) (each p)
      times_ends_at Listed p = list_ends_at p
      times_ends_at NonEmpty p = ends_at_then _ _ (next s p) _ (non_empty_ends_at p) (list_ends_at p)
      times_ends_at OptionalList p = ends_at_choose (is_absent s p) (absent_form s) (list_form s t line f) (next s) (skip_list s d) p (word_ends_at 2 1 p) (list_ends_at p)

    module _ (child : Sort → ℕ → Walk) (skip : Sort → ℕ → ℕ) (below : (c : Sort) (p : ℕ) → EndsAt (child c p) (skip c p)) where
      pub field_ends_at : (f : Field) (p : ℕ) → EndsAt (field_form s t line child f p) (skip_field s skip f p)
      unfolding field_form skip_field
      field_ends_at f p = times_ends_at _ _ (pair_ends_at child skip below f.first f.second) f.times p

      fields_ends_at : (fs : List Field) (p : ℕ) → EndsAt (fields_form s t line child fs p) (skip_fields s skip fs p)
      unfolding fields_form skip_fields
      fields_ends_at [] p = ok_ends_at p
      fields_ends_at (f ∷ fs) p = ends_at_then _ _ (skip_field s skip f p) _ (field_ends_at f p) (fields_ends_at fs (skip_field s skip f p))

      body_ends_at : (c : Sort) (k p : ℕ) → EndsAt (body_form s t line child c k p) (skip_fields s skip (fields_of c k) (next s p))
      unfolding body_form
      body_ends_at c k p = ends_at_then _ _ (next s p) _ (own_ends_at child skip below c k p) (fields_ends_at (fields_of c k) (next s p))

    pub node_ends_at : (left : ℕ) (c : Sort) (p : ℕ) → EndsAt (node_form s t line left c p) (skip_node s left c p)
    unfolding node_form skip_node
    node_ends_at zero c p = ends_at_then _ _ (next s p) _ (head_ends_at c p) (err_ends_at _ p)
    node_ends_at (suc left) c p =
        ends_at_then _ _ (next s p) _ (head_ends_at c p)
        (ends_at_then _ _ (next s p) _ (ends_at_pick (is_fseek c (payload_at s p)) _ _ _ (err_ends_at (Fseek p) (next s p)) (ok_ends_at (next s p)))
        (body_ends_at (node_form s t line left) (skip_node s left) (node_ends_at left) c (payload_at s p) (next s p)))

    -- THEOREM: behind an accepted statement or expression stands what the skip finds
    pub accepted : (left : ℕ) (c : Sort) (p q : ℕ) → node_form s t line left c p ≡ Ok q → q ≡ skip_node s left c p
    accepted left c p q e = (node_ends_at left c p).ends q e
