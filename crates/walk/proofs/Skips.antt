-- The place behind a part: at or behind its start, and within the sheet if that is. One law for each way out of the code.
use mathlib.Core.Path.{◌≡◌, refl, sym, ap, ◌∙◌}
use mathlib.Core.Bool.{Bool, true, false}
use mathlib.Core.List.{List, [], ◌∷◌}
use Prim.Native.Nat.{ℕ, zero, suc, ◌+◌, ◌-◌, ◌≤◌, ◌<◌}
use native.Mathlib.Omega.{arith}
use borrow.Author.Tests.{le-ltb}
use lib.ListN.{length, get_or, get_or-eq_default, drop}
use Rattle.std.proofs.Math.Seq.{drop-cons}
use Rattle.recorder.specs.Word.{choose, payload_at, next}
use Rattle.sheet.specs.declared.form.Item.{Item}
use Rattle.sheet.specs.declared.form.Item.TheVariants.{Nothing, Word, Range as range, Name as name, OptionalName as optionalName, Text as text, Node, Number as number, OptionalLabel as optionalLabel, Source as source, Element as element, Datum as datum}
use Rattle.sheet.specs.declared.form.Sort.{Sort}
use Rattle.sheet.specs.declared.form.Sort.TheVariants.{Expr, Place, InputPlace, Stmt}
use Rattle.sheet.specs.declared.form.Times.{Times}
use Rattle.sheet.specs.declared.form.Times.TheVariants.{Once, Optional, List as Listed, NonEmpty, OptionalList}
use Rattle.sheet.specs.declared.form.Field.{Field}
use Rattle.sheet.specs.declared.form.SourceKind.TheVariants.{File}
use Rattle.sheet.specs.Table.{fields_of, expr_fields, stmt_fields}
use Rattle.sheet.specs.Kinds.{source_kind}
use Rattle.sheet.specs.Form.{is_absent}
use Rattle.sheet.specs.Skip.{skip_source, skip_element, skip_item, skip_pair, skip_repeat, skip_list, skip_times, skip_field, skip_fields, skip_node}
use Rattle.sheet.proofs.Cases.{source_number}
use Rattle.walk.proofs.Steps.{Steps, here, further, to_next}

pub file_two : (k : ℕ) → File ≡ source_kind k → 2 ≤ k
file_two k e = source_number k File e

module _ (s : List ℕ) where
  two_next : (p : ℕ) → Steps s p (next s (next s p))
  two_next p = further s p _ _ (to_next s p) (to_next s (next s p))

  choose_skips : (p : ℕ) (b : Bool) (f g : ℕ → ℕ) → Steps s p (f p) → Steps s p (g p) → Steps s p (choose b f g p)
  choose_skips p true f g a b = a
  choose_skips p false f g a b = b

  pub over_file : (child : Sort → ℕ → ℕ) (k p : ℕ) → 2 ≤ k → skip_source s child k p ≡ child Expr p
  over_file child zero p h = absurd (omega (arith, h))
  over_file child (suc zero) p h = absurd (omega (arith, h))
  over_file child (suc (suc k)) p h = refl

  pub over_mark : (child : Sort → ℕ → ℕ) (k p : ℕ) → 1 ≤ k → skip_element s child k p ≡ next s p
  over_mark child zero p h = absurd (omega (arith, h))
  over_mark child (suc k) p h = refl

  module _ (child : Sort → ℕ → ℕ) (below : (c : Sort) (p : ℕ) → Steps s p (child c p)) where
    source_skips : (n p : ℕ) → Steps s p (skip_source s child n p)
    source_skips zero p = here s p
    source_skips (suc zero) p = to_next s p
    source_skips (suc (suc n)) p = below Expr p

    element_skips : (n p : ℕ) → Steps s p (skip_element s child n p)
    element_skips zero p = below Expr p
    element_skips (suc n) p = to_next s p

    pub item_skips : (i : Item) (p : ℕ) → Steps s p (skip_item s child i p)
    unfolding skip_item
    item_skips Nothing p = here s p
    item_skips (Word k n) p = to_next s p
    item_skips range p = to_next s p
    item_skips name p = to_next s p
    item_skips optionalName p = to_next s p
    item_skips text p = to_next s p
    item_skips (Node c) p = below c p
    item_skips number p = further s p _ _ (to_next s p) (two_next (next s p))
    item_skips optionalLabel p = to_next s p
    item_skips source p = further s p _ _ (to_next s p) (source_skips (payload_at s p) (next s p))
    item_skips element p = further s p _ _ (to_next s p) (element_skips (payload_at s p) (next s p))
    item_skips datum p = two_next p

    pub pair_skips : (a b : Item) (p : ℕ) → Steps s p (skip_pair s child a b p)
    unfolding skip_pair
    pair_skips a b p = further s p _ _ (item_skips a p) (item_skips b (skip_item s child a p))

  module _ (f : ℕ → ℕ) (each : (p : ℕ) → Steps s p (f p)) where
    repeat_skips : (n p : ℕ) → Steps s p (skip_repeat s f n p)
    unfolding skip_repeat
    repeat_skips zero p = here s p
    repeat_skips (suc n) p = further s p _ _ (each p) (repeat_skips n (f p))

    list_skips : (p : ℕ) → Steps s p (skip_list s f p)
    unfolding skip_list
    list_skips p = further s p _ _ (to_next s p) (repeat_skips (payload_at s p) (next s p))

    times_skips : (m : Times) (p : ℕ) → Steps s p (skip_times s m f p)
    unfolding skip_times
    times_skips Once p = each p
    times_skips Optional p = choose_skips p (is_absent s p) (next s) f (to_next s p) (each p)
    times_skips Listed p = list_skips p
    times_skips NonEmpty p = list_skips p
    times_skips OptionalList p = choose_skips p (is_absent s p) (next s) (skip_list s f) (to_next s p) (list_skips p)

  module _ (child : Sort → ℕ → ℕ) (below : (c : Sort) (p : ℕ) → Steps s p (child c p)) where
    pub field_skips : (f : Field) (p : ℕ) → Steps s p (skip_field s child f p)
    unfolding skip_field
    field_skips f p = times_skips _ (pair_skips child below f.first f.second) f.times p

    fields_skips : (fs : List Field) (p : ℕ) → Steps s p (skip_fields s child fs p)
    unfolding skip_fields
    fields_skips [] p = here s p
    fields_skips (f ∷ fs) p = further s p _ _ (field_skips f p) (fields_skips fs (skip_field s child f p))

  -- THEOREM: the place behind a part is at or behind its start, and within the sheet if that is
  pub node_skips : (left : ℕ) (c : Sort) (p : ℕ) → Steps s p (skip_node s left c p)
  unfolding skip_node
  node_skips zero c p = here s p
  node_skips (suc left) c p = further s p _ _ (two_next p) (fields_skips (skip_node s left) (node_skips left) (fields_of c (payload_at s p)) (next s (next s p)))

  -- at the end it stays
  pub end_stays : (p : ℕ) → length s ≤ p → next s p ≡ p
  unfolding next
  end_stays p h = simp (le-ltb p (length s) h)

  expr_end : (child : Sort → ℕ → ℕ) (p : ℕ) → skip_fields s child (expr_fields 0) p ≡ p
  unfolding expr_fields skip_fields
  expr_end child p = refl

  stmt_end : (child : Sort → ℕ → ℕ) (p : ℕ) → length s ≤ p → skip_fields s child (stmt_fields 0) p ≡ p
  unfolding stmt_fields skip_fields skip_field skip_times skip_pair skip_item
  stmt_end child p h = end_stays p h

  kind_end : (child : Sort → ℕ → ℕ) (c : Sort) (p : ℕ) → length s ≤ p → skip_fields s child (fields_of c 0) p ≡ p
  kind_end child Expr p h = expr_end child p
  kind_end child Place p h = expr_end child p
  kind_end child InputPlace p h = expr_end child p
  kind_end child Stmt p h = stmt_end child p h

  pub node_end : (left : ℕ) (c : Sort) (p : ℕ) → length s ≤ p → p ≡ skip_node s left c p
  unfolding skip_node
  node_end zero c p h = refl
  node_end (suc left) c p h = rw (end_stays p h, end_stays p h, get_or-eq_default s 0 h) (sym (kind_end (skip_node s left) c p h))

  module _ (child : Sort → ℕ → ℕ) where
    pub fields_step : (fs : List Field) (i p q : ℕ) (f : Field) (z : ℕ) → i < length fs → f ≡ get_or fs i f → q ≡ skip_field s child f p
        → skip_fields s child (drop i fs) p ≡ z → skip_fields s child (drop (i + 1) fs) q ≡ z
    unfolding skip_fields
    fields_step fs i p q f z h a b k =
        let e : i + 1 ≡ suc i = omega arith in
        let m : drop i fs ≡ f ∷ drop (suc i) fs = drop-cons fs i f h ∙ ap (λ (g : Field). g ∷ drop (suc i) fs) (sym a) in
        rw (e, b) (rw m at k)

  module _ (f : ℕ → ℕ) where
    pub repeat_step : (n p q z : ℕ) → 0 < n → q ≡ f p → skip_repeat s f n p ≡ z → skip_repeat s f (n - 1) q ≡ z
    unfolding skip_repeat
    repeat_step zero p q z h a k = absurd (omega arith)
    repeat_step (suc n) p q z h a k = let m : suc n - 1 ≡ n = omega arith in rw (m, a) k
