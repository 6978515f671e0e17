-- What a case of ExprKind, of SourceKind or of ElementKind says of its number.
use mathlib.Core.Path.{◌≡◌, refl, sym, ap, ◌∙◌}
use mathlib.Core.List.{List, [], ◌∷◌}
use mathlib.Core.Bool.{Bool, true, false}
use Prim.Native.Nat.{ℕ, zero, suc, ◌-◌, ◌≤◌, ◌<◌}
use lib.Dec.{ltb, eqb}
use lib.ListN.{get_or-map}
use borrow.Author.Tests.{ne_eqb, le-ltb}
use native.Mathlib.Omega.{arith}
use Rattle.std.proofs.Common.{◌⊎◌, inl, inr}
use Rattle.recorder.specs.Word.{both}
use Rattle.sheet.specs.declared.form.Sort.TheVariants.{Place, InputPlace}
use Rattle.sheet.specs.declared.form.ExprKind.{ExprKind}
use Rattle.sheet.specs.declared.form.ExprKind.TheVariants.{Ident, StringLit, NumberLit, SysFuncCall, UserFuncCall, Binary, Unary, Index, Inkey, Error}
use Rattle.sheet.specs.declared.form.SourceKind.{SourceKind}
use Rattle.sheet.specs.declared.form.SourceKind.TheVariants.{Keyboard, KeyboardWithPrompt, File}
use Rattle.sheet.specs.declared.form.ElementKind.{ElementKind}
use Rattle.sheet.specs.declared.form.ElementKind.TheVariants.{Expr, Comma, Semicolon}
use Rattle.sheet.specs.declared.form.Field.{Field}
use Rattle.sheet.specs.declared.form.Item.{Item}
use Rattle.sheet.specs.declared.form.Item.TheVariants.{Range as range, Name as name, OptionalName as optionalName, Text as text, Number as number}
use Rattle.sheet.specs.Table.{expr, sys_func, binary_op, unary_op, one, non_empty, expr_fields, expr_range_item, may_stand}
use Rattle.sheet.specs.Kinds.{expr_kinds, expr_kind, source_kind, element_kind}

-- Error's number is 9, and every larger one reads as it
abbrev pub ExprNumber : ExprKind → ℕ → Type 0
ExprNumber Ident k = k ≡ 0
ExprNumber StringLit k = k ≡ 1
ExprNumber NumberLit k = k ≡ 2
ExprNumber SysFuncCall k = k ≡ 3
ExprNumber UserFuncCall k = k ≡ 4
ExprNumber Binary k = k ≡ 5
ExprNumber Unary k = k ≡ 6
ExprNumber Index k = k ≡ 7
ExprNumber Inkey k = k ≡ 8
ExprNumber Error k = 9 ≤ k

expr_here : (k : ℕ) → ExprNumber (expr_kind k) k
unfolding expr_kind
expr_here zero = refl
expr_here (suc zero) = refl
expr_here (suc (suc zero)) = refl
expr_here (suc (suc (suc zero))) = refl
expr_here (suc (suc (suc (suc zero)))) = refl
expr_here (suc (suc (suc (suc (suc zero))))) = refl
expr_here (suc (suc (suc (suc (suc (suc zero)))))) = refl
expr_here (suc (suc (suc (suc (suc (suc (suc zero))))))) = refl
expr_here (suc (suc (suc (suc (suc (suc (suc (suc zero)))))))) = refl
expr_here (suc (suc (suc (suc (suc (suc (suc (suc (suc zero))))))))) = omega arith
expr_here (suc (suc (suc (suc (suc (suc (suc (suc (suc (suc k)))))))))) = omega arith

pub expr_number : (k : ℕ) (x : ExprKind) → x ≡ expr_kind k → ExprNumber x k
expr_number k x e = rw e (expr_here k)

abbrev pub expr_place : ExprKind → ℕ
expr_place Ident = 0
expr_place StringLit = 1
expr_place NumberLit = 2
expr_place SysFuncCall = 3
expr_place UserFuncCall = 4
expr_place Binary = 5
expr_place Unary = 6
expr_place Index = 7
expr_place Inkey = 8
expr_place Error = 9

there : (x : ExprKind) → expr_kind (expr_place x) ≡ x
unfolding expr_kind
there Ident = refl
there StringLit = refl
there NumberLit = refl
there SysFuncCall = refl
there UserFuncCall = refl
there Binary = refl
there Unary = refl
there Index = refl
there Inkey = refl
there Error = refl

-- another case has another number
pub expr_other : (k : ℕ) (x y : ExprKind) → x ≡ expr_kind k → (x ≡ y → ⊥) → k ≡ expr_place y → ⊥
expr_other k x y e h q = h (e ∙ ap expr_kind q ∙ there y)

-- an expression's fields and its own range, by its case
abbrev pub fields_by : ExprKind → List Field
fields_by Ident = []
fields_by StringLit = []
fields_by NumberLit = one number ∷ []
fields_by SysFuncCall = one range ∷ one sys_func ∷ non_empty expr ∷ []
fields_by UserFuncCall = one optionalName ∷ one expr ∷ []
fields_by Binary = one expr ∷ one range ∷ one binary_op ∷ one expr ∷ []
fields_by Unary = one range ∷ one unary_op ∷ one expr ∷ []
fields_by Index = one optionalName ∷ non_empty expr ∷ []
fields_by Inkey = []
fields_by Error = []

pub fields_rule : (k : ℕ) → expr_fields k ≡ fields_by (expr_kind k)
unfolding expr_fields expr_kind
fields_rule k = get_or-map fields_by expr_kinds k Error

abbrev pub range_by : ExprKind → Item
range_by Ident = name
range_by StringLit = text
range_by NumberLit = range
range_by SysFuncCall = range
range_by UserFuncCall = range
range_by Binary = range
range_by Unary = range
range_by Index = range
range_by Inkey = range
range_by Error = range

pub range_rule : (k : ℕ) → expr_range_item k ≡ range_by (expr_kind k)
unfolding expr_kind
range_rule zero = refl
range_rule (suc zero) = refl
range_rule (suc (suc (zero))) = refl
range_rule (suc (suc (suc (zero)))) = refl
range_rule (suc (suc (suc (suc (zero))))) = refl
range_rule (suc (suc (suc (suc (suc (zero)))))) = refl
range_rule (suc (suc (suc (suc (suc (suc (zero))))))) = refl
range_rule (suc (suc (suc (suc (suc (suc (suc (zero)))))))) = refl
range_rule (suc (suc (suc (suc (suc (suc (suc (suc (zero))))))))) = refl
range_rule (suc (suc (suc (suc (suc (suc (suc (suc (suc (zero)))))))))) = refl
range_rule (suc (suc (suc (suc (suc (suc (suc (suc (suc (suc (k))))))))))) = refl

-- where the cases may stand
far : (k n : ℕ) → 10 ≤ k → n < 10 → eqb k n ≡ false
far k n h l = ne_eqb k n (λ q. omega (arith, h, l, q))

place_far : (k : ℕ) → 10 ≤ k → may_stand Place k ≡ both (ltb k 10) true
place_far k h = rw (far k 0 h (omega arith), far k 7 h (omega arith), far k 9 h (omega arith), le-ltb _ _ h)

input_far : (k : ℕ) → 10 ≤ k → may_stand InputPlace k ≡ both (ltb k 10) true
input_far k h = rw (far k 0 h (omega arith), far k 4 h (omega arith), far k 7 h (omega arith), far k 9 h (omega arith), le-ltb _ _ h)

abbrev pub place_by : ExprKind → Bool
place_by Ident = true
place_by StringLit = false
place_by NumberLit = false
place_by SysFuncCall = false
place_by UserFuncCall = false
place_by Binary = false
place_by Unary = false
place_by Index = true
place_by Inkey = false
place_by Error = true

pub place_rule : (k : ℕ) → may_stand Place k ≡ both (ltb k 10) (place_by (expr_kind k))
unfolding expr_kind
place_rule zero = refl
place_rule (suc zero) = refl
place_rule (suc (suc zero)) = refl
place_rule (suc (suc (suc zero))) = refl
place_rule (suc (suc (suc (suc zero)))) = refl
place_rule (suc (suc (suc (suc (suc zero))))) = refl
place_rule (suc (suc (suc (suc (suc (suc zero)))))) = refl
place_rule (suc (suc (suc (suc (suc (suc (suc zero))))))) = refl
place_rule (suc (suc (suc (suc (suc (suc (suc (suc zero)))))))) = refl
place_rule (suc (suc (suc (suc (suc (suc (suc (suc (suc zero))))))))) = refl
place_rule (suc (suc (suc (suc (suc (suc (suc (suc (suc (suc k)))))))))) = place_far _ (omega arith)

abbrev pub input_by : ExprKind → Bool
input_by Ident = true
input_by StringLit = false
input_by NumberLit = false
input_by SysFuncCall = false
input_by UserFuncCall = true
input_by Binary = false
input_by Unary = false
input_by Index = true
input_by Inkey = false
input_by Error = true

pub input_rule : (k : ℕ) → may_stand InputPlace k ≡ both (ltb k 10) (input_by (expr_kind k))
unfolding expr_kind
input_rule zero = refl
input_rule (suc zero) = refl
input_rule (suc (suc zero)) = refl
input_rule (suc (suc (suc zero))) = refl
input_rule (suc (suc (suc (suc zero)))) = refl
input_rule (suc (suc (suc (suc (suc zero))))) = refl
input_rule (suc (suc (suc (suc (suc (suc zero)))))) = refl
input_rule (suc (suc (suc (suc (suc (suc (suc zero))))))) = refl
input_rule (suc (suc (suc (suc (suc (suc (suc (suc zero)))))))) = refl
input_rule (suc (suc (suc (suc (suc (suc (suc (suc (suc zero))))))))) = refl
input_rule (suc (suc (suc (suc (suc (suc (suc (suc (suc (suc k)))))))))) = input_far _ (omega arith)

abbrev pub SourceNumber : SourceKind → ℕ → Type 0
SourceNumber Keyboard k = k ≡ 0
SourceNumber KeyboardWithPrompt k = k ≡ 1
SourceNumber File k = 2 ≤ k

source_here : (k : ℕ) → SourceNumber (source_kind k) k
unfolding source_kind
source_here zero = refl
source_here (suc zero) = refl
source_here (suc (suc k)) = omega arith

pub source_number : (k : ℕ) (x : SourceKind) → x ≡ source_kind k → SourceNumber x k
source_number k x e = rw e (source_here k)

pub keyboard_number : (k : ℕ) → Keyboard ≡ source_kind k → k ≡ 0
keyboard_number k e = source_number k Keyboard e

pub prompt_number : (k : ℕ) → KeyboardWithPrompt ≡ source_kind k → k ≡ 1
prompt_number k e = source_number k KeyboardWithPrompt e

pub file_number : (k : ℕ) → File ≡ source_kind k → k ≡ suc (suc (k - 2))
file_number k e = let h = source_number k File e in omega (arith, h)

abbrev pub ElementNumber : ElementKind → ℕ → Type 0
ElementNumber Expr k = k ≡ 0
ElementNumber Comma k = k ≡ 1
ElementNumber Semicolon k = 2 ≤ k

element_here : (k : ℕ) → ElementNumber (element_kind k) k
unfolding element_kind
element_here zero = refl
element_here (suc zero) = refl
element_here (suc (suc k)) = omega arith

pub element_number : (k : ℕ) (x : ElementKind) → x ≡ element_kind k → ElementNumber x k
element_number k x e = rw e (element_here k)

pub value_first : element_kind 0 ≡ Expr
unfolding element_kind
value_first = refl

pub value_number : (k : ℕ) → Expr ≡ element_kind k → k ≡ 0
value_number k e = element_number k Expr e

pub comma_number : (k : ℕ) → Comma ≡ element_kind k → k ≡ 1
comma_number k e = element_number k Comma e

pub semicolon_number : (k : ℕ) → Semicolon ≡ element_kind k → k ≡ suc (suc (k - 2))
semicolon_number k e = let h = element_number k Semicolon e in omega (arith, h)

-- a comma or a semicolon
pub mark_number : (k : ℕ) (x : ElementKind) → x ≡ element_kind k → (x ≡ Comma) ⊎ (x ≡ Semicolon) → 1 ≤ k
mark_number k x e (inl h) = let n = comma_number k (sym h ∙ e) in omega (arith, n)
mark_number k x e (inr h) = let n = element_number k Semicolon (sym h ∙ e) in omega (arith, n)
