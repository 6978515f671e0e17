-- INPUT: one law for each way out.
use mathlib.Core.Path.{◌≡◌, refl, sym as inv, ap, ◌∙◌}
use mathlib.Core.List.{List}
use mathlib.Core.Bool.{Bool, true, false}
use Prim.Native.Nat.{ℕ, zero, suc, ◌-◌}
use lib.Dec.{eqb}
use borrow.Author.Tests.{eq-eqb, ne_eqb}
use native.Mathlib.Omega.{arith}
use Rattle.recorder.specs.declared.word.Range.{Range}
use Rattle.recorder.specs.Word.{payload_at, range_at, next}
use Rattle.recorder.specs.Mem.{Mem, mem_r}
use Rattle.sheet.specs.declared.form.Item.TheVariants.{Source as source}
use Rattle.sheet.specs.declared.form.Sort.TheVariants.{Expr as exprSort}
use Rattle.sheet.specs.declared.form.Shape.TheVariants.{Input}
use Rattle.sheet.specs.declared.form.SourceKind.{SourceKind}
use Rattle.sheet.specs.declared.form.SourceKind.TheVariants.{Keyboard, KeyboardWithPrompt, File}
use Rattle.sheet.specs.Kinds.{source_kind}
use Rattle.sheet.proofs.Cases.{keyboard_number, prompt_number, file_number}
use Rattle.std.proofs.Common.{◌⊎◌, inl, inr}
use Rattle.sheet.specs.Skip.{skip_node, skip_list, skip_fields, skip_field, skip_times, skip_pair, skip_item}
use Rattle.sheet.specs.Tree.{Expr, Stmt, expr_range, count, expr_at, expr_node, opt_at, stmt_node, source_of}
use Rattle.sheet.specs.Args.{args_at}
use Rattle.rules.specs.declared.types.«Type».{«Type» as Ty}
use Rattle.rules.specs.Expr.{opt_real_sym, compile_lvalue}
use Rattle.rules.specs.Stmt.{compile_stmt, is_ident, is_file, input_arg_by, fn_place, input_fn, fn_input, input_var, input_source, compile_input}
use Rattle.std.specs.Prelude.{Option}
use Rattle.nodes.specs.Compiled.{named, opt_of, CompiledPlace, PayloadAt}
use Rattle.expressions.specs.Body.{Body}
use Rattle.expressions.proofs.Lists.{input_same}
use Rattle.expressions.proofs.ExprLaws.{Head, node, range_of_lem, how_many_lem}
use Rattle.inputs.specs.Parts.{Taken, TakenAll}

ident_case : (s : List ℕ) (f : ℕ → Expr) (g : ℕ → ℕ) (k : ℕ) (r : Range) (p : ℕ) → eqb k 0 ≡ is_ident (expr_node s f g k r p)
unfolding expr_node
ident_case s f g zero r p = refl
ident_case s f g (suc zero) r p = refl
ident_case s f g (suc (suc zero)) r p = refl
ident_case s f g (suc (suc (suc zero))) r p = refl
ident_case s f g (suc (suc (suc (suc zero)))) r p = refl
ident_case s f g (suc (suc (suc (suc (suc zero))))) r p = refl
ident_case s f g (suc (suc (suc (suc (suc (suc zero)))))) r p = refl
ident_case s f g (suc (suc (suc (suc (suc (suc (suc zero))))))) r p = refl
ident_case s f g (suc (suc (suc (suc (suc (suc (suc (suc zero)))))))) r p = refl
ident_case s f g (suc (suc (suc (suc (suc (suc (suc (suc (suc zero))))))))) r p = refl
ident_case s f g (suc (suc (suc (suc (suc (suc (suc (suc (suc (suc k)))))))))) r p =
    let n : suc (suc (suc (suc (suc (suc (suc (suc (suc (suc k))))))))) ≡ 0 → ⊥ = λ q. omega (arith, q) in ne_eqb _ _ n

pub ident_zero : (s : List ℕ) (left at : ℕ) → left ≡ 0 → false ≡ is_ident (expr_at s left at)
unfolding expr_at
ident_zero s left at e = rw e

ident_there : (s : List ℕ) (left at k : ℕ) → (left ≡ 0 → ⊥) → k ≡ payload_at s at → eqb k 0 ≡ is_ident (expr_at s left at)
ident_there s left at k d e =
    rw (node s left at k (range_at s (next s at)) (next s (next s at)) (record { deep = d; kind = e; range = refl; behind = refl }))
    (ident_case s (expr_at s (left - 1)) (skip_node s (left - 1) exprSort) k (range_at s (next s at)) (next s (next s at)))

pub ident_yes : (s : List ℕ) (left at k : ℕ) → (left ≡ 0 → ⊥) → k ≡ payload_at s at → k ≡ 0 → true ≡ is_ident (expr_at s left at)
ident_yes s left at k d e z = inv (eq-eqb k 0 z) ∙ ident_there s left at k d e

pub ident_no : (s : List ℕ) (left at k : ℕ) → (left ≡ 0 → ⊥) → k ≡ payload_at s at → (k ≡ 0 → ⊥) → false ≡ is_ident (expr_at s left at)
ident_no s left at k d e z = inv (ne_eqb k 0 z) ∙ ident_there s left at k d e

pub input_fn_of : (s t : List ℕ) (base left at : ℕ) (r : Range) (o : Option Range) (q x y : ℕ) (b : Bool) (ar : Range) (m m1 m2 m3 : Mem) → opt_of o ≡ opt_at s (range_at s) at → q ≡ next s at
    → named m1 x ≡ opt_real_sym (mem_r t) t base (opt_of o) m → b ≡ is_ident (expr_at s left q) → ar ≡ range_at s (next s q)
    → ((e : Expr) → expr_range e ≡ ar → named m2 y ≡ input_arg_by (mem_r t) t base b e m1) → m3 ≡ fn_place (mem_r t) t base (opt_of o) b r x y m2
    → m3 ≡ input_fn (mem_r t) t base r (opt_at s (range_at s) at) (expr_at s left (next s at)) m
input_fn_of s t base left at r o q x y b ar m m1 m2 m3 ho hq hx hb ha hy e =
    let range_is : expr_range (expr_at s left q) ≡ ar = range_of_lem s left q ∙ inv ha in
    let arg : named m2 y ≡ input_arg_by (mem_r t) t base b (expr_at s left q) m1 = hy (expr_at s left q) range_is in
    rw (← ho, ← hq, ← hx, ← hb, ← arg) e

pub taken_zero : (s t : List ℕ) (base left at : ℕ) (b : Bool) (m : Mem) → left ≡ 0 → Taken s t base left at b m m at
unfolding expr_at skip_node input_var compile_lvalue
taken_zero s t base left at b m e = rw e (record { place = refl; result = refl })

pub taken_fn : (s t : List ℕ) (base left at k : ℕ) (r : Range) (p q : ℕ) (b : Bool) (m m1 : Mem) → Head s left at k r p → k ≡ 4
    → m1 ≡ fn_input (mem_r t) t base b r (opt_at s (range_at s) p) (expr_at s (left - 1) (next s p)) m → q ≡ skip_node s left exprSort at → Taken s t base left at b m m1 q
unfolding expr_node input_var
taken_fn s t base left at k r p q b m m1 h e f hq = record { place = hq; result = rw (node s left at k r p h, e) f }

no_fn : (s t : List ℕ) (base : ℕ) (f : ℕ → Expr) (g : ℕ → ℕ) (k : ℕ) (r : Range) (p : ℕ) (b : Bool) (m : Mem) → (k ≡ 4 → ⊥)
    → (compile_lvalue (mem_r t) t base (expr_node s f g k r p) m).state ≡ input_var (mem_r t) t base b (expr_node s f g k r p) m
unfolding expr_node input_var
no_fn s t base f g zero r p b m n = refl
no_fn s t base f g (suc zero) r p b m n = refl
no_fn s t base f g (suc (suc zero)) r p b m n = refl
no_fn s t base f g (suc (suc (suc zero))) r p b m n = refl
no_fn s t base f g (suc (suc (suc (suc zero)))) r p b m n = absurd (n refl)
no_fn s t base f g (suc (suc (suc (suc (suc zero))))) r p b m n = refl
no_fn s t base f g (suc (suc (suc (suc (suc (suc zero)))))) r p b m n = refl
no_fn s t base f g (suc (suc (suc (suc (suc (suc (suc zero))))))) r p b m n = refl
no_fn s t base f g (suc (suc (suc (suc (suc (suc (suc (suc zero)))))))) r p b m n = refl
no_fn s t base f g (suc (suc (suc (suc (suc (suc (suc (suc (suc zero))))))))) r p b m n = refl
no_fn s t base f g (suc (suc (suc (suc (suc (suc (suc (suc (suc (suc k)))))))))) r p b m n = refl

pub taken_place : (s t : List ℕ) (base left at k : ℕ) (r : Range) (p q : ℕ) (b : Bool) (m m1 : Mem) (ty : Ty) → Head s left at k r p → (k ≡ 4 → ⊥) → CompiledPlace s t base left at m m1 q ty
    → Taken s t base left at b m m1 q
taken_place s t base left at k r p q b m m1 ty h n x =
    let same : (compile_lvalue (mem_r t) t base (expr_at s left at) m).state ≡ input_var (mem_r t) t base b (expr_at s left at) m =
    rw (node s left at k r p h) (no_fn s t base (expr_at s (left - 1)) (skip_node s (left - 1) exprSort) k r p b m n) in
    let left_is : m1 ≡ (compile_lvalue (mem_r t) t base (expr_at s left at) m).state = ap (λ z. z.state) x.result in
    record { place = x.place; result = left_is ∙ same }

-- its source
pub first : (s : List ℕ) (at k : ℕ) → k ≡ payload_at s at → Keyboard ≡ source_kind k → payload_at s at ≡ 0
first s at k e h = inv e ∙ keyboard_number k h

pub second : (s : List ℕ) (at k : ℕ) → k ≡ payload_at s at → KeyboardWithPrompt ≡ source_kind k → payload_at s at ≡ 1
second s at k e h = inv e ∙ prompt_number k h

pub third : (s : List ℕ) (at k : ℕ) → k ≡ payload_at s at → File ≡ source_kind k → payload_at s at ≡ suc (suc (k - 2))
third s at k e h = inv e ∙ file_number k h

pub no_file : (s : List ℕ) (at k : ℕ) (x : SourceKind) → k ≡ payload_at s at → x ≡ source_kind k → (x ≡ File → ⊥) → (payload_at s at ≡ 0) ⊎ (payload_at s at ≡ 1)
no_file s at k Keyboard e h d = inl (inv e ∙ keyboard_number k h)
no_file s at k KeyboardWithPrompt e h d = inr (inv e ∙ prompt_number k h)
no_file s at k File e h d = absurd (d refl)

pub at_input : (s t : List ℕ) (base left k at : ℕ) (r : Range) (q n p p1 : ℕ) (b : Bool) (m m1 m2 : Mem) → q ≡ skip_item s (skip_node s left) source at
    → ((child : ℕ → Stmt) → b ≡ is_file (source_of s left child (payload_at s at) (next s at))) → PayloadAt s q n p → TakenAll s t base left p n b m m1 p1
    → ((child : ℕ → Stmt) → m2 ≡ input_source (mem_r t) t base r n (source_of s left child (payload_at s at) (next s at)) m1) → Body s t base left Input k r at m m2 p1
unfolding stmt_node compile_stmt compile_input skip_fields skip_field skip_times skip_pair skip_item skip_list
at_input s t base left k at r q n p p1 b m m1 m2 hq hb c d e =
    let count_is : count (args_at s left n p) ≡ n = how_many_lem s (expr_at s left) (skip_node s left exprSort) n p in
    record {
      place = rw (input_same s left, ← hq, ← c.place, ← c.value) d.place;
      result = λ child. rw (input_same s left, ← hq, ← c.place, ← c.value, count_is, ← hb child, ← d.result) (e child);
    }
