-- Depth 64 is taken and 65 refused: a WHILE, at depth 1, whose condition is so many unary operators around an Error expression.
use mathlib.Core.Path.{◌≡◌, refl}
use mathlib.Core.List.{List, [], ◌∷◌}
use Prim.Native.Nat.{ℕ, zero, suc}
use Rattle.recorder.specs.Word.{next}
use Rattle.sheet.specs.declared.form.Offence.TheVariants.{TooDeep}
use Rattle.std.specs.Prelude.{Ok, Err}
use Rattle.sheet.specs.Table.{expr_fields, stmt_fields}
use Rattle.sheet.specs.Form.{take_word, non_empty_form, number_form, range_form, text_form, datum_form, label_form, name_form, item_form, pair_form, repeat_form, list_form, times_form, field_form, fields_form, body_form, node_form, line_head, line_form, end_form, lines_form, sheet_form}

-- n unary operators, then Error
unfoldable pub nested : ℕ → List ℕ
nested zero = 0x21000009 ∷ 0x01000000 ∷ []
nested (suc n) = 0x21000006 ∷ 0x01000000 ∷ 0x01000000 ∷ 0x09000000 ∷ nested n

-- one line of no units, with a WHILE
unfoldable pub deep : ℕ → List ℕ
deep n = 0x0F000001 ∷ 0x10000000 ∷ 0x02000000 ∷ 0x04000001 ∷ 0x2000003F ∷ 0x01000000 ∷ nested n

-- THEOREM: with 62 operators the Error stands at depth 64
pub depth_64 : sheet_form (deep 62) [] ≡ Ok 256
unfolding nested deep next expr_fields stmt_fields take_word non_empty_form number_form range_form text_form datum_form label_form name_form item_form pair_form repeat_form list_form times_form field_form fields_form body_form node_form line_head line_form end_form lines_form sheet_form
depth_64 = refl

-- THEOREM: with 63 it stands at 65, and its own word offends
pub depth_65 : sheet_form (deep 63) [] ≡ Err (TooDeep 258)
unfolding nested deep next expr_fields stmt_fields take_word non_empty_form number_form range_form text_form datum_form label_form name_form item_form pair_form repeat_form list_form times_form field_form fields_form body_form node_form line_head line_form end_form lines_form sheet_form
depth_65 = refl
