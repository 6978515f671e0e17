-- The fields of a statement are those of its shape.
use mathlib.Core.Path.{◌≡◌, sym}
use Prim.Native.Nat.{ℕ}
use lib.ListN.{get_or-map}
use Rattle.sheet.specs.declared.form.Shape.TheVariants.{NoOp}
use Rattle.sheet.specs.Table.{stmt_fields}
use Rattle.sheet.specs.Shapes.{shape_fields}
use Rattle.sheet.specs.Tree.{shape_table, shape_of}

pub fields_rule : (k : ℕ) → shape_fields (shape_of k) ≡ stmt_fields k
unfolding shape_of stmt_fields
fields_rule k = sym (get_or-map shape_fields shape_table k NoOp)
