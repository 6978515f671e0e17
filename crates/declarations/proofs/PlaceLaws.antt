-- DIM and FIELD: one law for each way out.
use mathlib.Core.Path.{◌≡◌, refl, ap}
use mathlib.Core.List.{List}
use Prim.Native.Nat.{ℕ, zero, suc, ◌-◌}
use lib.ListN.{length}
use Rattle.recorder.specs.declared.word.Range.{Range}
use Rattle.recorder.specs.Word.{payload_at, range_at, next}
use Rattle.recorder.specs.Mem.{Mem, mem_r}
use Rattle.sheet.specs.declared.form.Sort.TheVariants.{Expr as exprSort, Place as placeSort}
use Rattle.sheet.specs.declared.form.Shape.TheVariants.{Field}
use Rattle.sheet.specs.Table.{expr_fields}
use Rattle.sheet.specs.Skip.{skip_node, skip_list, skip_fields, skip_field, skip_times, skip_pair, skip_item}
use Rattle.sheet.specs.Tree.{Expr, count, expr_at, expr_node, exprs_at, items_at, opt_at, stmt_node, field_spec_at}
use Rattle.rules.specs.declared.types.«Type».TheVariants.{Real}
use Rattle.rules.specs.declared.tables.Wants.TheVariants.{Every}
use Rattle.rules.specs.Stmt.{compile_stmt, dim_node, dim_one, compile_field}
use Rattle.std.specs.Prelude.{Option}
use Rattle.nodes.specs.Compiled.{opt_of, CompiledArgs, CompiledTyped, PayloadAt}
use Rattle.expressions.specs.Body.{Body}
use Rattle.sheet.proofs.Lists.{items_length}
use Rattle.expressions.proofs.Lists.{place_same}
use Rattle.expressions.proofs.ExprLaws.{Head, node, over, how_many_lem}
use Rattle.declarations.specs.Parts.{Dimmed, pair_on, FieldsDone}

-- DIM
pub plain_head : (s : List ℕ) (left at k q p : ℕ) → (left ≡ 0 → ⊥) → k ≡ payload_at s at → q ≡ next s at → p ≡ next s q → Head s left at k (range_at s (next s at)) p
plain_head s left at k q p d hk hq hp = record { deep = d; kind = hk; range = refl; behind = rw (← hq) hp }

pub dim_array : (s t : List ℕ) (base left at k : ℕ) (r : Range) (p : ℕ) (o : Option Range) (q n q1 q2 : ℕ) (m m1 m2 : Mem) → Head s left at k r p → k ≡ 7
    → opt_of o ≡ opt_at s (range_at s) p → q ≡ next s p → PayloadAt s q n q1 → CompiledArgs s t base (left - 1) q1 n Every m m1 q2
    → m2 ≡ dim_node (mem_r t) t base (opt_of o) n m1 → Dimmed s t base left at m m2 q2
unfolding expr_node dim_one skip_fields skip_field skip_times skip_pair skip_item skip_list expr_fields
dim_array s t base left at k r p o q n q1 q2 m m1 m2 h e ho hq c x f =
    let count_is : count (exprs_at s (expr_at s (left - 1)) (skip_node s (left - 1) exprSort) n q1) ≡ n = how_many_lem s (expr_at s (left - 1)) (skip_node s (left - 1) exprSort) n q1 in
    record {
      place = rw (over s left at k r p h, e, ← hq, ← c.place, ← c.value) x.place;
      result = rw (node s left at k r p h, e, ← ho, ← hq, ← c.place, ← c.value, count_is, ← x.result) f;
    }

no_array : (s t : List ℕ) (base : ℕ) (f : ℕ → Expr) (g : ℕ → ℕ) (k : ℕ) (r : Range) (p : ℕ) (m : Mem) → (k ≡ 7 → ⊥) → m ≡ dim_one (mem_r t) t base (expr_node s f g k r p) m
unfolding expr_node dim_one
no_array s t base f g zero r p m b = refl
no_array s t base f g (suc zero) r p m b = refl
no_array s t base f g (suc (suc zero)) r p m b = refl
no_array s t base f g (suc (suc (suc zero))) r p m b = refl
no_array s t base f g (suc (suc (suc (suc zero)))) r p m b = refl
no_array s t base f g (suc (suc (suc (suc (suc zero))))) r p m b = refl
no_array s t base f g (suc (suc (suc (suc (suc (suc zero)))))) r p m b = refl
no_array s t base f g (suc (suc (suc (suc (suc (suc (suc zero))))))) r p m b = absurd (b refl)
no_array s t base f g (suc (suc (suc (suc (suc (suc (suc (suc zero)))))))) r p m b = refl
no_array s t base f g (suc (suc (suc (suc (suc (suc (suc (suc (suc zero))))))))) r p m b = refl
no_array s t base f g (suc (suc (suc (suc (suc (suc (suc (suc (suc (suc k)))))))))) r p m b = refl

pub dim_other : (s t : List ℕ) (base left at k : ℕ) (r : Range) (p q : ℕ) (m : Mem) → Head s left at k r p → (k ≡ 7 → ⊥) → q ≡ skip_node s left exprSort at
    → Dimmed s t base left at m m q
dim_other s t base left at k r p q m h b e =
    record { place = e; result = rw (node s left at k r p h) (no_array s t base (expr_at s (left - 1)) (skip_node s (left - 1) exprSort) k r p m b) }

-- FIELD
pub at_field : (s t : List ℕ) (base left k at : ℕ) (r : Range) (p n q q1 q2 : ℕ) (m m1 m2 m3 : Mem) → p ≡ skip_node s left exprSort at → PayloadAt s p n q → FieldsDone s t base left q n m m1 q1
    → CompiledTyped s t base left at Real m1 m2 q2 → m3 ≡ (mem_r t).emit m2 29 r n 0 0 → Body s t base left Field k r at m m3 q1
unfolding stmt_node compile_stmt compile_field skip_fields skip_field skip_times skip_pair skip_item skip_list
at_field s t base left k at r p n q q1 q2 m m1 m2 m3 hp c d x e =
    let pairs : (λ z. skip_node s left placeSort (skip_node s left exprSort z)) ≡ pair_on s left =
    ap (λ g z. g (skip_node s left exprSort z)) (place_same s left) in
    let count_is : length (items_at s (field_spec_at s left) (pair_on s left) n q) ≡ n = items_length s (field_spec_at s left) (pair_on s left) n q in
    record {
      place = rw (← hp, ← c.place, ← c.value, pairs) d.place;
      result = λ child. rw (← hp, ← c.place, ← c.value, pairs, count_is, ← d.result, ← x.result) e;
    }
