-- The place behind a part of the sheet, found by reading its own children.
use Rattle.std.specs.Prelude.{List, [], ◌∷◌, ℕ, zero, suc}
use Rattle.recorder.specs.Word.{choose, payload_at, next}
use Rattle.sheet.specs.declared.form.Item.{Item}
use Rattle.sheet.specs.declared.form.Item.TheVariants.{Nothing, Word, Range as range, Name as name, OptionalName as optionalName, Text as text, Node, Number as number, OptionalLabel as optionalLabel, Source as source, Element as element, Datum as datum}
use Rattle.sheet.specs.declared.form.Sort.{Sort}
use Rattle.sheet.specs.declared.form.Sort.TheVariants.{Expr}
use Rattle.sheet.specs.declared.form.Times.{Times}
use Rattle.sheet.specs.declared.form.Times.TheVariants.{Once, Optional, List as Listed, NonEmpty, OptionalList}
use Rattle.sheet.specs.declared.form.Field.{Field}
use Rattle.sheet.specs.Table.{fields_of}
use Rattle.sheet.specs.Form.{is_absent}

module _ (s : List ℕ) where
  abbrev pub skip_source : (Sort → ℕ → ℕ) → ℕ → ℕ → ℕ
  skip_source child zero p = p
  skip_source child (suc zero) p = next s p
  skip_source child (suc (suc n)) p = child Expr p

  abbrev pub skip_element : (Sort → ℕ → ℕ) → ℕ → ℕ → ℕ
  skip_element child zero p = child Expr p
  skip_element child (suc n) p = next s p

  unfoldable pub skip_item : (Sort → ℕ → ℕ) → Item → ℕ → ℕ
  skip_item child Nothing at = at
  skip_item child (Word k n) at = next s at
  skip_item child range at = next s at
  skip_item child name at = next s at
  skip_item child optionalName at = next s at
  skip_item child text at = next s at
  skip_item child (Node c) at = child c at
  skip_item child number at = next s (next s (next s at))
  skip_item child optionalLabel at = next s at
  skip_item child source at = skip_source child (payload_at s at) (next s at)
  skip_item child element at = skip_element child (payload_at s at) (next s at)
  skip_item child datum at = next s (next s at)

  unfoldable pub skip_pair : (Sort → ℕ → ℕ) → Item → Item → ℕ → ℕ
  skip_pair child a b at = skip_item child b (skip_item child a at)

  unfoldable pub skip_repeat : (ℕ → ℕ) → ℕ → ℕ → ℕ
  skip_repeat f zero at = at
  skip_repeat f (suc n) at = skip_repeat f n (f at)

  unfoldable pub skip_list : (ℕ → ℕ) → ℕ → ℕ
  skip_list f at = skip_repeat f (payload_at s at) (next s at)

  unfoldable pub skip_times : Times → (ℕ → ℕ) → ℕ → ℕ
  skip_times Once f at = f at
  skip_times Optional f at = choose (is_absent s at) (next s) f at
  skip_times Listed f at = skip_list f at
  skip_times NonEmpty f at = skip_list f at
  skip_times OptionalList f at = choose (is_absent s at) (next s) (skip_list f) at

  unfoldable pub skip_field : (Sort → ℕ → ℕ) → Field → ℕ → ℕ
  skip_field child f at = skip_times f.times (skip_pair child f.first f.second) at

  unfoldable pub skip_fields : (Sort → ℕ → ℕ) → List Field → ℕ → ℕ
  skip_fields child [] at = at
  skip_fields child (f ∷ fs) at = skip_fields child fs (skip_field child f at)

  -- a statement or an expression with `left` depths left
  unfoldable pub skip_node : ℕ → Sort → ℕ → ℕ
  skip_node zero c at = at
  skip_node (suc left) c at = skip_fields (skip_node left) (fields_of c (payload_at s at)) (next s (next s at))
