-- PRINT: one law for each way out.
use mathlib.Core.Path.{◌≡◌, refl, sym as inv, ap, subst, ◌∙◌}
use mathlib.Core.List.{List}
use mathlib.Core.Bool.{Bool, true, false}
use Prim.Native.Nat.{ℕ, zero, suc, ◌-◌, ◌≤◌, ◌<◌}
use lib.Dec.{T, eqb}
use borrow.Author.Tests.{le-ltb, eq-eqb, ne_eqb}
use native.Mathlib.Numerals.{sub-one}
use native.Mathlib.Omega.{arith}
use Rattle.recorder.specs.declared.word.Range.{Range}
use Rattle.recorder.specs.Word.{pick, both, either, payload_at, range_at, next}
use Rattle.recorder.specs.Mem.{Mem, mem_r}
use Rattle.recorder.specs.CodeGen.{emit}
use Rattle.recorder.specs.declared.call.Call.TheVariants.{PrintNum, PrintStr}
use Rattle.sheet.specs.declared.form.Sort.TheVariants.{Expr as exprSort}
use Rattle.sheet.specs.declared.form.Shape.TheVariants.{Print}
use Rattle.sheet.specs.declared.form.ElementKind.{ElementKind}
use Rattle.sheet.specs.declared.form.ElementKind.TheVariants.{Expr as Value, Comma, Semicolon}
use Rattle.sheet.specs.Table.{expr_fields}
use Rattle.sheet.specs.Kinds.{element_kind}
use Rattle.sheet.proofs.Cases.{value_first, value_number, comma_number, semicolon_number}
use Rattle.sheet.specs.Skip.{skip_node, skip_repeat, skip_list, skip_fields, skip_field, skip_times, skip_pair, skip_item}
use Rattle.sheet.specs.Tree.{Expr, sys_func_call, Stmt, PrintElement, value, expr_range, expr_at, expr_node, items_at, element_at, element_of, stmt_node}
use Rattle.sheet.specs.Args.{args_at}
use Rattle.rules.specs.declared.types.«Type».{«Type» as Ty}
use Rattle.rules.specs.declared.types.«Type».TheVariants.{Real}
use Rattle.rules.specs.declared.tables.Wants.TheVariants.{Func}
use Rattle.rules.specs.Types.{matches_type}
use Rattle.rules.specs.Stmt.{compile_stmt, is_tab_spc, is_value, surplus_notes, tab_call, print_value, blank_between, behind_value, print_one, print_each, empty_line, compile_print}
use Rattle.nodes.specs.Compiled.{Compiled, CompiledArgs, PayloadAt}
use Rattle.expressions.specs.Body.{Body}
use Rattle.expressions.proofs.ExprLaws.{range_of_lem}
use Rattle.prints.specs.Parts.{over_element, tab_emit, behind_call, blank_line, args_here, Tabbed, Valued, Printed}

true_not_false : {X : Type 0} → false ≡ true → X
true_not_false e = absurd (subst T (inv e) tt)

-- TAB and SPC
pub tab_zero : (s : List ℕ) (left at : ℕ) → left ≡ 0 → false ≡ is_tab_spc (expr_at s left at)
unfolding expr_at
tab_zero s left at e = rw e

-- the expression of case 3 at a place
func_at : (s : List ℕ) (left at : ℕ) → (left ≡ 0 → ⊥) → payload_at s at ≡ 3
    → expr_at s left at ≡ sys_func_call (range_at s (next s at)) (range_at s (next s (next s at))) (payload_at s (next s (next s (next s at)))) (args_here s (left - 1) (next s (next s at)))
unfolding expr_at expr_node
func_at s zero at d e = absurd (d refl)
func_at s (suc left) at d e = rw (sub-one, e)

over_func : (s : List ℕ) (left at : ℕ) → (left ≡ 0 → ⊥) → payload_at s at ≡ 3
    → skip_node s left exprSort at ≡ skip_repeat s (skip_node s (left - 1) exprSort) (payload_at s (next s (next s (next s (next s at))))) (next s (next s (next s (next s (next s at)))))
unfolding skip_node skip_fields skip_field skip_times skip_pair skip_item skip_list expr_fields
over_func s zero at d e = absurd (d refl)
over_func s (suc left) at d e = rw (sub-one, e)

pub tab_func : (s : List ℕ) (left at k p q q1 f : ℕ) (b : Bool) → (left ≡ 0 → ⊥) → k ≡ payload_at s at → k ≡ 3 → p ≡ next s at → q ≡ next s p → q1 ≡ next s q → f ≡ payload_at s q1
    → b ≡ either (eqb f 27) (eqb f 28) → b ≡ is_tab_spc (expr_at s left at)
tab_func s left at k p q q1 f b d hk e hp hq h1 hf hb =
    let g : payload_at s at ≡ 3 = inv hk ∙ e in
    rw (func_at s left at d g, hb, hf, h1, hq, hp)

case_three : (s : List ℕ) (f : ℕ → Expr) (g : ℕ → ℕ) (k : ℕ) (r : Range) (p : ℕ) → is_tab_spc (expr_node s f g k r p) ≡ true → k ≡ 3
unfolding expr_node
case_three s f g zero r p h = true_not_false h
case_three s f g (suc zero) r p h = true_not_false h
case_three s f g (suc (suc zero)) r p h = true_not_false h
case_three s f g (suc (suc (suc zero))) r p h = refl
case_three s f g (suc (suc (suc (suc zero)))) r p h = true_not_false h
case_three s f g (suc (suc (suc (suc (suc zero))))) r p h = true_not_false h
case_three s f g (suc (suc (suc (suc (suc (suc zero)))))) r p h = true_not_false h
case_three s f g (suc (suc (suc (suc (suc (suc (suc zero))))))) r p h = true_not_false h
case_three s f g (suc (suc (suc (suc (suc (suc (suc (suc zero)))))))) r p h = true_not_false h
case_three s f g (suc (suc (suc (suc (suc (suc (suc (suc (suc zero))))))))) r p h = true_not_false h
case_three s f g (suc (suc (suc (suc (suc (suc (suc (suc (suc (suc k)))))))))) r p h = true_not_false h

pub tab_three : (s : List ℕ) (left at : ℕ) → is_tab_spc (expr_at s left at) ≡ true → payload_at s at ≡ 3
unfolding expr_at
tab_three s zero at h = true_not_false h
tab_three s (suc left) at h = case_three s (expr_at s left) (skip_node s left exprSort) (payload_at s at) (range_at s (next s at)) (next s (next s at)) h

pub tab_deep : (s : List ℕ) (left at : ℕ) (b : Bool) → b ≡ is_tab_spc (expr_at s left at) → b ≡ true → 0 < left
unfolding expr_at
tab_deep s zero at b h e = true_not_false (inv h ∙ e)
tab_deep s (suc left) at b h e = omega arith

or_not : (b : Bool) → (b ≡ true → ⊥) → false ≡ b
or_not true h = absurd (h refl)
or_not false h = refl

pub tab_other : (s : List ℕ) (left at k : ℕ) → k ≡ payload_at s at → (k ≡ 3 → ⊥) → false ≡ is_tab_spc (expr_at s left at)
tab_other s left at k hk h = or_not (is_tab_spc (expr_at s left at)) (λ e. h (hk ∙ tab_three s left at e))

-- elements by their numbers
pub value_yes : (k : ℕ) → Value ≡ element_kind k → eqb k 0 ≡ true
value_yes k h = eq-eqb k 0 (value_number k h)

pub value_no : (k : ℕ) (x : ElementKind) → x ≡ element_kind k → (x ≡ Value → ⊥) → eqb k 0 ≡ false
value_no k x e h = ne_eqb k 0 (λ z. h (e ∙ ap element_kind z ∙ value_first))

pub first : (s : List ℕ) (at k : ℕ) → k ≡ payload_at s at → Value ≡ element_kind k → payload_at s at ≡ 0
first s at k e h = inv e ∙ value_number k h

pub second : (s : List ℕ) (at k : ℕ) → k ≡ payload_at s at → Comma ≡ element_kind k → payload_at s at ≡ 1
second s at k e h = inv e ∙ comma_number k h

pub third : (s : List ℕ) (at k : ℕ) → k ≡ payload_at s at → Semicolon ≡ element_kind k → payload_at s at ≡ suc (suc (k - 2))
third s at k e h = inv e ∙ semicolon_number k h

-- what follows a value
pub behind_blank : (t : List ℕ) (base : ℕ) (b : Bool) (r er : Range) (n : ℕ) (v w : Bool) (m m1 : Mem) → 2 ≤ n → w ≡ both v (pick b false true) → w ≡ true → m1 ≡ blank_between (mem_r t) t base er m
    → m1 ≡ behind_call (mem_r t) b r er n v m
behind_blank t base b r er n v w m m1 h e g p = let q : both v (pick b false true) ≡ true = inv e ∙ g in rw (le-ltb _ _ h, q) p

value_is : (s : List ℕ) (left : ℕ) (child : ℕ → Stmt) (k p : ℕ) → is_value (element_of s left child k p) ≡ eqb k 0
value_is s left child zero p = refl
value_is s left child (suc zero) p = refl
value_is s left child (suc (suc k)) p = let z : suc (suc k) ≡ 0 → ⊥ = λ q. omega (arith, q) in inv (ne_eqb _ _ z)

-- the rules' list of what is left is as long as the count says
behind_is : (s t : List ℕ) (base left : ℕ) (child : ℕ → Stmt) (b : Bool) (r er : Range) (g : ℕ → ℕ) (n at : ℕ) (m : Mem)
    → behind_call (mem_r t) b r er n (eqb (payload_at s at) 0) m ≡ behind_value (mem_r t) t base b r er (items_at s (element_at s left child) g (n - 1) at) m
unfolding items_at
behind_is s t base left child b r er g zero at m = refl
behind_is s t base left child b r er g (suc zero) at m = refl
behind_is s t base left child b r er g (suc (suc n)) at m =
    let e : suc (suc n) - 1 ≡ suc n = omega arith in
    let h : 2 ≤ suc (suc n) = omega arith in
    let v : is_value (element_of s left child (payload_at s at) (next s at)) ≡ eqb (payload_at s at) 0 = value_is s left child (payload_at s at) (next s at) in
    rw (e, le-ltb _ _ h, v)

pub tab_of : (s t : List ℕ) (base left : ℕ) (r : Range) (at q k q1 n q2 p : ℕ) (m m1 m2 m3 : Mem) → q ≡ next s at → PayloadAt s q k q1 → PayloadAt s q1 n q2
    → m1 ≡ surplus_notes (mem_r t) t base 1 (args_at s left n q2) m → CompiledArgs s t base left q2 n (Func k) m1 m2 p → m3 ≡ tab_emit (mem_r t) r k m2
    → Tabbed s t base left r at m m3 p
tab_of s t base left r at q k q1 n q2 p m m1 m2 m3 hq c d e x f = record {
  place = rw (← hq, ← c.place, ← d.place, ← d.value) x.place;
  result = rw (← hq, ← c.place, ← c.value, ← d.place, ← d.value, f, x.result, e);
}

-- elements
tab_value : (t : List ℕ) (base : ℕ) (r er : Range) (e : Expr) (xs : List PrintElement) (m m1 m2 : Mem) → is_tab_spc e ≡ true → er ≡ expr_range e → m1 ≡ tab_call (mem_r t) t base e m
    → m2 ≡ behind_value (mem_r t) t base true r er xs m1 → m2 ≡ print_one (mem_r t) t base r (value e) xs m
tab_value t base r er e xs m m1 m2 h hr p q = rw (h, q, p, hr)

plain_value : (t : List ℕ) (base : ℕ) (r er : Range) (e : Expr) (xs : List PrintElement) (m m1 m2 : Mem) → is_tab_spc e ≡ false → er ≡ expr_range e → m1 ≡ print_value (mem_r t) t base e m
    → m2 ≡ behind_value (mem_r t) t base false r er xs m1 → m2 ≡ print_one (mem_r t) t base r (value e) xs m
plain_value t base r er e xs m m1 m2 h hr p q = rw (h, q, p, hr)

call_is : (s t : List ℕ) (base left at : ℕ) (m m1 : Mem) (p : ℕ) → (left ≡ 0 → ⊥) → payload_at s at ≡ 3 → Tabbed s t base (left - 1) (range_at s (next s at)) (next s (next s at)) m m1 p
    → m1 ≡ tab_call (mem_r t) t base (expr_at s left at) m
call_is s t base left at m m1 p d e x = rw (func_at s left at d e) x.result

pub value_tab : (s t : List ℕ) (base left n : ℕ) (r er : Range) (at q q1 p : ℕ) (b : Bool) (m m1 m2 : Mem) → er ≡ range_at s (next s at) → b ≡ is_tab_spc (expr_at s left at) → b ≡ true
    → q ≡ next s at → q1 ≡ next s q → Tabbed s t base (left - 1) er q1 m m1 p → m2 ≡ behind_call (mem_r t) true r er n (eqb (payload_at s p) 0) m1 → Valued s t base left n r at m m2 p
value_tab s t base left n r er at q q1 p b m m1 m2 hr hb h hq h1 x f =
    let z : 0 < left = tab_deep s left at b hb h in
    let d : left ≡ 0 → ⊥ = λ w. omega (arith, z, w) in
    let i : is_tab_spc (expr_at s left at) ≡ true = inv hb ∙ h in
    let e : payload_at s at ≡ 3 = tab_three s left at i in
    let y : Tabbed s t base (left - 1) (range_at s (next s at)) q1 m m1 p = subst (λ w. Tabbed s t base (left - 1) w q1 m m1 p) hr x in
    let x' : Tabbed s t base (left - 1) (range_at s (next s at)) (next s (next s at)) m m1 p = subst (λ w. Tabbed s t base (left - 1) (range_at s (next s at)) w m m1 p) (h1 ∙ ap (λ w. next s w) hq) y in
    record {
      place = rw (over_func s left at d e) x'.place;
      result = λ child. tab_value t base r er (expr_at s left at) (items_at s (element_at s left child) (over_element s left) (n - 1) p) m m1 m2 i (hr ∙ inv (range_of_lem s left at)) (call_is s t base left at m m1 p d e x') (f ∙ behind_is s t base left child true r er (over_element s left) n p m1);
    }

printed_is : (s t : List ℕ) (base left : ℕ) (er : Range) (at p : ℕ) (m m1 m2 : Mem) (ty : Ty) → er ≡ range_at s (next s at) → Compiled s t base left at m m1 p ty
    → m2 ≡ pick (matches_type ty Real) (emit m1 er PrintNum) (emit m1 er PrintStr) → m2 ≡ print_value (mem_r t) t base (expr_at s left at) m
printed_is s t base left er at p m m1 m2 ty hr x e = rw (← x.result, range_of_lem s left at, e, hr) refl

pub value_plain : (s t : List ℕ) (base left n : ℕ) (r er : Range) (at p : ℕ) (b : Bool) (m m1 m2 m3 : Mem) (ty : Ty) → er ≡ range_at s (next s at) → b ≡ is_tab_spc (expr_at s left at) → b ≡ false
    → Compiled s t base left at m m1 p ty → m2 ≡ pick (matches_type ty Real) (emit m1 er PrintNum) (emit m1 er PrintStr) → m3 ≡ behind_call (mem_r t) false r er n (eqb (payload_at s p) 0) m2 → Valued s t base left n r at m m3 p
value_plain s t base left n r er at p b m m1 m2 m3 ty hr hb h x e f = record {
  place = x.place;
  result = λ child. plain_value t base r er (expr_at s left at) (items_at s (element_at s left child) (over_element s left) (n - 1) p) m m2 m3 (inv hb ∙ h) (hr ∙ inv (range_of_lem s left at)) (printed_is s t base left er at p m m1 m2 ty hr x e) (f ∙ behind_is s t base left child false r er (over_element s left) n p m2);
}

empty_is : (s t : List ℕ) (base : ℕ) (r : Range) (f : ℕ → PrintElement) (g : ℕ → ℕ) (n at : ℕ) (m : Mem) → blank_line (mem_r t) n r m ≡ empty_line (mem_r t) t base r (items_at s f g n at) m
unfolding items_at
empty_is s t base r f g zero at m = refl
empty_is s t base r f g (suc n) at m = let z : suc n ≡ 0 → ⊥ = λ q. omega (arith, q) in let b : eqb (suc n) 0 ≡ false = ne_eqb _ _ z in rw b

print_result : (s t : List ℕ) (base : ℕ) (r : Range) (f : ℕ → PrintElement) (g : ℕ → ℕ) (n at : ℕ) (m m1 m2 m3 : Mem) → m1 ≡ print_each (mem_r t) t base r (items_at s f g n at) m
    → m2 ≡ blank_line (mem_r t) n r m1 → m3 ≡ (mem_r t).emit m2 43 r 0 0 0 → m3 ≡ compile_print (mem_r t) t base r (items_at s f g n at) m
unfolding compile_print
print_result s t base r f g n at m m1 m2 m3 p q e =
    let w : m2 ≡ empty_line (mem_r t) t base r (items_at s f g n at) m1 = q ∙ empty_is s t base r f g n at m1 in
    rw (e, w, p)

pub print_of : (s t : List ℕ) (base left k : ℕ) (r : Range) (at n q p : ℕ) (m m1 m2 m3 : Mem) → PayloadAt s at n q → Printed s t base left n r q m m1 p → m2 ≡ blank_line (mem_r t) n r m1
    → m3 ≡ (mem_r t).emit m2 43 r 0 0 0 → Body s t base left Print k r at m m3 p
unfolding skip_fields skip_field skip_times skip_pair skip_item skip_list stmt_node compile_stmt
print_of s t base left k r at n q p m m1 m2 m3 c x e f = record {
  place = rw (← c.place, ← c.value) x.place;
  result = λ child. rw (← c.place, ← c.value) (print_result s t base r (element_at s left child) (over_element s left) n q m m1 m2 m3 (x.result child) e f);
}
