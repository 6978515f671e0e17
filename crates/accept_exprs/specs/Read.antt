-- The parts of a line's form, read at a place of it; its nodes have `left` depths left.
use Rattle.std.specs.Prelude.{List, ℕ}
use Rattle.sheet.specs.declared.form.Field.{Field}
use Rattle.sheet.specs.declared.form.Item.{Item}
use Rattle.sheet.specs.declared.form.Sort.{Sort}
use Rattle.sheet.specs.declared.form.Times.TheVariants.{NonEmpty}
use Rattle.sheet.specs.Walk.{Walk}
use Rattle.sheet.specs.Form.{item_form, pair_form, list_form, times_form, field_form, fields_form, node_form}
use Rattle.sheet.specs.declared.form.LineForm.{LineForm}

module _ (f : LineForm) (left : ℕ) where
  abbrev pub node_in : Sort → ℕ → Walk
  node_in c at = node_form f.sheet.now f.text.now f.line left c at

  abbrev pub item_in : Item → ℕ → Walk
  item_in a at = item_form f.sheet.now f.text.now f.line node_in a at

  abbrev pub pair_in : Item → Item → ℕ → Walk
  pair_in a b at = pair_form f.sheet.now f.text.now f.line node_in a b at

  abbrev pub list_in : (ℕ → Walk) → ℕ → Walk
  list_in each at = list_form f.sheet.now f.text.now f.line each at

  abbrev pub some_in : (ℕ → Walk) → ℕ → Walk
  some_in each at = times_form f.sheet.now f.text.now f.line NonEmpty each at

  abbrev pub field_in : Field → ℕ → Walk
  field_in g at = field_form f.sheet.now f.text.now f.line node_in g at

  abbrev pub fields_in : List Field → ℕ → Walk
  fields_in gs at = fields_form f.sheet.now f.text.now f.line node_in gs at
