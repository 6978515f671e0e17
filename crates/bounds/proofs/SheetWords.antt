-- The words of each part of a sheet, counted by the table of fields at the places that the skip finds.
-- The check of an accepted part moves on by at least so many.
use mathlib.Core.Path.{◌≡◌, refl}
use mathlib.Core.Bool.{Bool, true, false}
use mathlib.Core.List.{List, [], ◌∷◌}
use Prim.Native.Nat.{ℕ, zero, suc, ◌+◌, ◌≤◌, ◌<◌}
use native.Mathlib.Omega.{arith}
use borrow.Author.Tests.{eqb-true}
use lib.Dec.{ltb, eqb}
use Rattle.recorder.specs.Word.{pick, choose, both, kind_at, payload_at, next, range_at}
use Rattle.recorder.proofs.Bools.{both_left}
use Rattle.sheet.specs.declared.form.Item.{Item}
use Rattle.sheet.specs.declared.form.Item.TheVariants.{Nothing, Word, Range as range, Name as name, OptionalName as optionalName, Text as text, Node, Number as number, OptionalLabel as optionalLabel, Source as source, Element as element, Datum as datum}
use Rattle.sheet.specs.declared.form.Sort.{Sort}
use Rattle.sheet.specs.declared.form.Sort.TheVariants.{Expr, Place, InputPlace, Stmt}
use Rattle.sheet.specs.declared.form.Times.{Times}
use Rattle.sheet.specs.declared.form.Times.TheVariants.{Once, Optional, List as Listed, NonEmpty, OptionalList}
use Rattle.sheet.specs.declared.form.Field.{Field}
use Rattle.sheet.specs.declared.form.Offence.{Offence}
use Rattle.sheet.specs.declared.form.Offence.TheVariants.{BadWord, TooDeep}
use Rattle.sheet.specs.Walk.{Walk}
use Rattle.std.specs.Prelude.{Ok, Err}
use Rattle.sheet.specs.declared.form.Line.{Line}
use Rattle.sheet.proofs.Numbers.{kind_some}
use Rattle.sheet.specs.Table.{kind_number, expr_range_item, own_range, fields_of, is_fseek}
use Rattle.sheet.specs.Form.{then, is_absent, has_unit, is_name_range, take_word, absent_form, non_empty_form, high_form, low_form, number_form, head_form, in_line, range_form, text_form, datum_form, name_form, source_rest, element_rest, item_form, pair_form, repeat_form, list_form, times_form, field_form, fields_form, body_form, node_form, high_fits, low_fits, lacks_unit}
use Rattle.sheet.specs.Skip.{skip_source, skip_element, skip_item, skip_pair, skip_repeat, skip_list, skip_times, skip_field, skip_fields, skip_node}
use Rattle.sheet.proofs.Walks.{pick_behind}
use Rattle.walk.proofs.Cycle.{kind_inside, next_inside, head_moves}
use Rattle.walk.proofs.Accepted.{EndsAt, ok_ends_at, err_ends_at, ends_at_then, word_ends_at, head_ends_at}
use Rattle.rules.proofs.SheetWalk.{two_parts}

module _ (s : List ℕ) where
  -- n items, each counted by `f`, the next found by `d`
  unfoldable pub repeat_count : (ℕ → ℕ) → (ℕ → ℕ) → ℕ → ℕ → ℕ
  repeat_count f d zero p = 0
  repeat_count f d (suc n) p = f p + repeat_count f d n (d p)

  abbrev pub list_count : (ℕ → ℕ) → (ℕ → ℕ) → ℕ → ℕ
  list_count f d p = 1 + repeat_count f d (payload_at s p) (next s p)

  abbrev pub times_count : Times → (ℕ → ℕ) → (ℕ → ℕ) → ℕ → ℕ
  times_count Once f d p = f p
  times_count Optional f d p = choose (is_absent s p) (λ q. 1) f p
  times_count Listed f d p = list_count f d p
  times_count NonEmpty f d p = list_count f d p
  times_count OptionalList f d p = choose (is_absent s p) (λ q. 1) (list_count f d) p

  -- where `words` counts the statements and expressions below
  module _ (words : Sort → ℕ → ℕ) where
    abbrev pub source_count : ℕ → ℕ → ℕ
    source_count zero p = 0
    source_count (suc zero) p = 1
    source_count (suc (suc n)) p = words Expr p

    abbrev pub element_count : ℕ → ℕ → ℕ
    element_count zero p = words Expr p
    element_count (suc n) p = 1

    abbrev pub item_count : Item → ℕ → ℕ
    item_count Nothing p = 0
    item_count (Word k n) p = 1
    item_count range p = 1
    item_count name p = 1
    item_count optionalName p = 1
    item_count text p = 1
    item_count (Node c) p = words c p
    item_count number p = 3
    item_count optionalLabel p = 1
    item_count source p = 1 + source_count (payload_at s p) (next s p)
    item_count element p = 1 + element_count (payload_at s p) (next s p)
    item_count datum p = 2

    -- and `skip` finds the place behind one
    module _ (skip : Sort → ℕ → ℕ) where
      abbrev pub pair_count : Item → Item → ℕ → ℕ
      pair_count a b p = item_count a p + item_count b (skip_item s skip a p)

      abbrev pub field_count : Field → ℕ → ℕ
      field_count f p = times_count f.times (pair_count f.first f.second) (skip_pair s skip f.first f.second) p

      abbrev pub fields_count : List Field → ℕ → ℕ
      fields_count [] p = 0
      fields_count (f ∷ fs) p = field_count f p + fields_count fs (skip_field s skip f p)

  unfoldable pub node_count : ℕ → Sort → ℕ → ℕ
  node_count zero c p = 2
  node_count (suc left) c p = 2 + fields_count (node_count left) (skip_node s left) (fields_of c (payload_at s p)) (next s (next s p))

-- where the walk from p is accepted, it ends at x, and has moved on by at least n
pub record Takes (n p x : ℕ) (w : Walk) : Type 0 where
  pub walk_ends : EndsAt w x
  pub past : (q : ℕ) → w ≡ Ok q → p + n ≤ q

pub takes_at : (x : ℕ) → Takes 0 x x (Ok x)
takes_at x = record { walk_ends = ok_ends_at x; past = λ q e. let z : x ≡ q = cc in omega arith }

err_takes : (n p x : ℕ) (o : Offence) → Takes n p x (Err o)
err_takes n p x o = record { walk_ends = err_ends_at o x; past = λ q e. let z : ◌≡◌ {A = ℕ} 0 1 = cc in absurd (omega arith) }

pub takes_then : {a b p x y : ℕ} {w : Walk} (f : ℕ → Walk) → Takes a p x w → Takes b x y (f x) → Takes (a + b) p y (then w f)
takes_then {a} {b} {p} {x} {y} {w} f h k = record {
  walk_ends = ends_at_then w f x y h.walk_ends k.walk_ends;
  past = λ q e. let u = two_parts w f x q h.walk_ends e in omega (arith, h.past x u.0, k.past q u.1);
}

pub takes_less : {m n p x : ℕ} {w : Walk} → Takes n p x w → m ≤ n → Takes m p x w
takes_less h k = record { walk_ends = h.walk_ends; past = λ q e. omega (arith, h.past q e) }

-- a test before what is read
pub takes_test : {n p x : ℕ} {w : Walk} (b : Bool) (o : Offence) → Takes n p x w → Takes n p x (pick b w (Err o))
takes_test true o h = h
takes_test false o h = err_takes _ _ _ o

pub takes_refuse : {n p x : ℕ} {w : Walk} (b : Bool) (o : Offence) → Takes n p x w → Takes n p x (pick b (Err o) w)
takes_refuse true o h = err_takes _ _ _ o
takes_refuse false o h = h

-- a walk that begins again from the start of another
takes_again : {n p x : ℕ} {v : Walk} (w : Walk) → Takes n p x v → Takes n p x (then w (λ q. v))
takes_again (Ok q) h = h
takes_again (Err o) h = err_takes _ _ _ o

takes_either : {n p x : ℕ} (b : Bool) (f g : ℕ → Walk) → Takes n p x (f p) → Takes n p x (g p) → Takes n p x (choose b f g p)
takes_either true f g h k = h
takes_either false f g h k = k

pub takes_choose : (b : Bool) (m n d e : ℕ → ℕ) (f g : ℕ → Walk) (p : ℕ) → Takes (m p) p (d p) (f p) → Takes (n p) p (e p) (g p) → Takes (choose b m n p) p (choose b d e p) (choose b f g p)
takes_choose true m n d e f g p h k = h
takes_choose false m n d e f g p h k = k

module _ (s : List ℕ) where
  pub word_takes : (k n p : ℕ) → 0 < k → Takes 1 p (next s p) (take_word s k n p)
  unfolding take_word
  word_takes k n p h = record {
    walk_ends = word_ends_at s k n p;
    past = λ q e.
        let a = pick_behind (both (eqb (kind_at s p) k) (ltb (payload_at s p) n)) (next s p) q (BadWord p) e in
        omega (arith, a.1, next_inside s p (kind_inside s p k h (eqb-true _ _ (both_left _ (ltb (payload_at s p) n) a.0))));
  }

  head_takes : (c : Sort) (p : ℕ) → Takes 1 p (next s p) (head_form s c p)
  head_takes c p = record { walk_ends = head_ends_at s c p; past = λ q e. omega (arith, (head_moves s c p q (head_form s c p) refl e).1) }

  high_takes : (e p : ℕ) → Takes 1 p (next s p) (high_form s e p)
  unfolding high_form
  high_takes e p = takes_then _ (word_takes 11 65536 p (omega arith)) (takes_test (high_fits e (payload_at s p)) _ (takes_at _))

  low_takes : (e p : ℕ) → Takes 1 p (next s p) (low_form s e p)
  unfolding low_form
  low_takes e p = takes_then _ (word_takes 11 65536 p (omega arith)) (takes_test (low_fits e (payload_at s p)) _ (takes_at _))

  number_takes : (p : ℕ) → Takes 3 p (next s (next s (next s p))) (number_form s p)
  unfolding number_form
  number_takes p = takes_then _ (word_takes 10 257 p (omega arith)) (takes_then _ (high_takes _ _) (low_takes _ _))

  module _ (line : Line) where
    pub range_takes : (p : ℕ) → Takes 1 p (next s p) (range_form s line p)
    unfolding range_form
    range_takes p = takes_then _ (word_takes 1 16777216 p (omega arith)) (takes_test (in_line line (range_at s p)) _ (takes_at _))

    text_takes : (p : ℕ) → Takes 1 p (next s p) (text_form s line p)
    unfolding text_form
    text_takes p = takes_then _ (range_takes p) (takes_test (has_unit (range_at s p)) _ (takes_at _))

    datum_takes : (p : ℕ) → Takes 2 p (next s (next s p)) (datum_form s line p)
    unfolding datum_form
    datum_takes p = takes_then _ (range_takes p) (takes_then _ (word_takes 5 2 (next s p) (omega arith)) (takes_refuse (lacks_unit (payload_at s (next s p)) (range_at s p)) _ (takes_at _)))

  module _ (t : List ℕ) (line : Line) where
    name_takes : (p : ℕ) → Takes 1 p (next s p) (name_form s t line p)
    unfolding name_form
    name_takes p = takes_then _ (range_takes line p) (takes_test (is_name_range s t line (range_at s p)) _ (takes_at _))

    module _ (f : ℕ → Walk) (m d : ℕ → ℕ) (each : (p : ℕ) → Takes (m p) p (d p) (f p)) where
      repeat_takes : (n p : ℕ) → Takes (repeat_count s m d n p) p (skip_repeat s d n p) (repeat_form s t line f n p)
      unfolding repeat_count skip_repeat repeat_form
      repeat_takes zero p = takes_at p
      repeat_takes (suc n) p = takes_then _ (each p) (repeat_takes n (d p))

      pub list_takes : (p : ℕ) → Takes (list_count s m d p) p (skip_list s d p) (list_form s t line f p)
      unfolding skip_list list_form
      list_takes p = takes_then _ (word_takes 4 16777216 p (omega arith)) (repeat_takes (payload_at s p) (next s p))

      times_takes : (i : Times) (p : ℕ) → Takes (times_count s i m d p) p (skip_times s i d p) (times_form s t line i f p)
      unfolding skip_times times_form
      times_takes Once p = each p
      times_takes Optional p = takes_choose (is_absent s p) (λ q. 1) m (next s) d (absent_form s) f p (word_takes 2 1 p (omega arith)) (each p)
      times_takes Listed p = list_takes p
      times_takes NonEmpty p = takes_again (non_empty_form s p) (list_takes p)
      times_takes OptionalList p = takes_choose (is_absent s p) (λ q. 1) (list_count s m d) (next s) (skip_list s d) (absent_form s) (list_form s t line f) p (word_takes 2 1 p (omega arith)) (list_takes p)

    module _ (child : Sort → ℕ → Walk) (words skip : Sort → ℕ → ℕ) (below : (c : Sort) (p : ℕ) → Takes (words c p) p (skip c p) (child c p)) where
      source_takes : (n p : ℕ) → Takes (source_count s words n p) p (skip_source s skip n p) (source_rest s t line child n p)
      source_takes zero p = takes_at p
      source_takes (suc zero) p = text_takes line p
      source_takes (suc (suc n)) p = below Expr p

      element_takes : (n p : ℕ) → Takes (element_count s words n p) p (skip_element s skip n p) (element_rest s t line child n p)
      element_takes zero p = below Expr p
      element_takes (suc n) p = range_takes line p

      item_takes : (i : Item) (p : ℕ) → Takes (item_count s words i p) p (skip_item s skip i p) (item_form s t line child i p)
      unfolding skip_item item_form
      item_takes Nothing p = takes_at p
      item_takes (Word k n) p = word_takes (kind_number k) n p (kind_some k)
      item_takes range p = range_takes line p
      item_takes name p = name_takes p
      item_takes optionalName p = takes_either (is_absent s p) (absent_form s) (name_form s t line) (word_takes 2 1 p (omega arith)) (name_takes p)
      item_takes text p = text_takes line p
      item_takes (Node c) p = below c p
      item_takes number p = number_takes p
      item_takes optionalLabel p = takes_either (is_absent s p) (absent_form s) (take_word s 3 65536) (word_takes 2 1 p (omega arith)) (word_takes 3 65536 p (omega arith))
      item_takes source p = takes_then _ (word_takes 7 3 p (omega arith)) (source_takes (payload_at s p) (next s p))
      item_takes element p = takes_then _ (word_takes 8 3 p (omega arith)) (element_takes (payload_at s p) (next s p))
      item_takes datum p = datum_takes line p

      pair_takes : (a b : Item) (p : ℕ) → Takes (pair_count s words skip a b p) p (skip_pair s skip a b p) (pair_form s t line child a b p)
      unfolding skip_pair pair_form
      pair_takes a b p = takes_then _ (item_takes a p) (item_takes b (skip_item s skip a p))

      field_takes : (f : Field) (p : ℕ) → Takes (field_count s words skip f p) p (skip_field s skip f p) (field_form s t line child f p)
      unfolding skip_field field_form
      field_takes f p = times_takes _ _ _ (pair_takes f.first f.second) f.times p

      fields_takes : (fs : List Field) (p : ℕ) → Takes (fields_count s words skip fs p) p (skip_fields s skip fs p) (fields_form s t line child fs p)
      unfolding skip_fields fields_form
      fields_takes [] p = takes_at p
      fields_takes (f ∷ fs) p = takes_then _ (field_takes f p) (fields_takes fs (skip_field s skip f p))

      expr_own_takes : (k p : ℕ) → Takes 1 p (next s p) (item_form s t line child (expr_range_item k) p)
      unfolding item_form
      expr_own_takes zero p = name_takes p
      expr_own_takes (suc zero) p = text_takes line p
      expr_own_takes (suc (suc k)) p = range_takes line p

      own_takes : (c : Sort) (k p : ℕ) → Takes 1 p (next s p) (item_form s t line child (own_range c k) p)
      unfolding item_form
      own_takes Expr k p = expr_own_takes k p
      own_takes Place k p = expr_own_takes k p
      own_takes InputPlace k p = expr_own_takes k p
      own_takes Stmt k p = range_takes line p

    -- THEOREM: the check of an accepted statement or expression moves on by at least its count of words, to the place that the skip finds
    pub node_takes : (left : ℕ) (c : Sort) (p : ℕ) → Takes (node_count s left c p) p (skip_node s left c p) (node_form s t line left c p)
    unfolding node_count skip_node node_form body_form
    node_takes zero c p = takes_then _ (head_takes c p) (err_takes 1 (next s p) p (TooDeep p))
    node_takes (suc left) c p =
        takes_less
        (takes_then _ (head_takes c p) (takes_then _ (takes_refuse (is_fseek c (payload_at s p)) _ (takes_at _))
        (takes_then _ (own_takes _ _ _ (node_takes left) c (payload_at s p) (next s p)) (fields_takes _ _ _ (node_takes left) (fields_of c (payload_at s p)) (next s (next s p))))))
        (omega arith)
