-- The code's names for the cases of expressions, of INPUT's sources and of PRINT's elements.
use Rattle.std.specs.Prelude.{List, [], ◌∷◌, ℕ, get_or}
use Rattle.sheet.specs.declared.form.ExprKind.{ExprKind}
use Rattle.sheet.specs.declared.form.ExprKind.TheVariants.{Ident, StringLit, NumberLit, SysFuncCall, UserFuncCall, Binary, Unary, Index, Inkey, Error}
use Rattle.sheet.specs.declared.form.SourceKind.{SourceKind}
use Rattle.sheet.specs.declared.form.SourceKind.TheVariants.{Keyboard, KeyboardWithPrompt, File}
use Rattle.sheet.specs.declared.form.ElementKind.{ElementKind}
use Rattle.sheet.specs.declared.form.ElementKind.TheVariants.{Expr as Value, Comma, Semicolon}

-- the cases of ExprKind by their numbers; what is no case reads as Error
abbrev pub expr_kinds : List ExprKind
expr_kinds = Ident ∷ StringLit ∷ NumberLit ∷ SysFuncCall ∷ UserFuncCall ∷ Binary ∷ Unary ∷ Index ∷ Inkey ∷ Error ∷ []

unfoldable pub expr_kind : ℕ → ExprKind
expr_kind k = get_or expr_kinds k Error

-- INPUT's sources and PRINT's elements by their numbers; every larger number reads as the last
unfoldable pub source_kind : ℕ → SourceKind
source_kind k = get_or (Keyboard ∷ KeyboardWithPrompt ∷ []) k File

unfoldable pub element_kind : ℕ → ElementKind
element_kind k = get_or (Value ∷ Comma ∷ []) k Semicolon
