-- FOR and NEXT: one law for each way out.
use mathlib.Core.Path.{◌≡◌, refl, sym as inv, ap, ◌∙◌}
use mathlib.Core.List.{List}
use mathlib.Core.Bool.{Bool, true, false}
use Prim.Native.Nat.{ℕ, zero, suc, ◌*◌, ◌%◌, ◌<◌}
use lib.ListN.{get_or, length}
use lib.Dec.{ltb}
use native.Mathlib.Omega.{arith}
use Rattle.recorder.specs.declared.word.Range.{Range}
use Rattle.recorder.specs.declared.codegen.State.{State}
use Rattle.recorder.specs.Word.{pick, payload_at, range_at, next, flag_of}
use Rattle.recorder.specs.Mem.{Mem, mem_r, names_in, symbol_number, entry_of, known}
use Rattle.sheet.specs.declared.form.Shape.TheVariants.{For, Next}
use Rattle.sheet.specs.Skip.{skip_repeat, skip_list, skip_fields, skip_field, skip_times, skip_pair, skip_item}
use Rattle.sheet.specs.Tree.{Opt, Expr, expr_at, items_at, opt_at, stmt_node}
use Rattle.rules.specs.declared.types.«Type».{«Type» as Ty}
use Rattle.rules.specs.declared.types.«Type».TheVariants.{Real}
use Rattle.rules.specs.Expr.{compile_sym, opt_real_sym}
use Rattle.rules.specs.Stmt.{compile_stmt, compile_for, for_node, step_flag, next_each, compile_next}
use Rattle.std.specs.Prelude.{Option}
use Rattle.nodes.specs.Compiled.{sym, named, opt_of, CompiledTyped, PayloadAt}
use Rattle.expressions.specs.Body.{Body}
use Rattle.sheet.proofs.Lists.{items_length}
use Rattle.loops.specs.Parts.{Stepped, NextDone}

-- FOR
pub at_for : (s t : List ℕ) (base left k at : ℕ) (r : Range) (o : Option Range) (v q1 q2 q3 q4 : ℕ) (f : Bool) (m m1 m2 m3 m4 m5 : Mem) → opt_of o ≡ opt_at s (range_at s) at
    → named m1 v ≡ opt_real_sym (mem_r t) t base (opt_of o) m → q1 ≡ next s at → CompiledTyped s t base left q1 Real m1 m2 q2 → CompiledTyped s t base left q2 Real m2 m3 q3
    → Stepped s t base left q3 m3 m4 q4 f → ((e : Opt Expr) → flag_of f ≡ step_flag e → m5 ≡ for_node (mem_r t) t base (opt_of o) r v e m4) → Body s t base left For k r at m m5 q4
unfolding stmt_node compile_stmt compile_for skip_fields skip_field skip_times skip_pair skip_item
at_for s t base left k at r o v q1 q2 q3 q4 f m m1 m2 m3 m4 m5 ho hv h1 x y z last = record {
  place = rw (← h1, ← x.place, ← y.place) z.place;
  result = λ child. rw (← ho, ← h1, ← x.place, ← y.place, ← hv, ← x.result, ← y.result, ← z.result) (last (opt_at s (expr_at s left) q3) z.told);
}

-- NEXT
below : (c : Bool) (a b : ℕ) → pick c (a % 16777216) (b % 16777216) < 16777216
below true a b = omega arith
below false a b = omega arith

small : (t b : List ℕ) (s : State) (x n g : ℕ) → symbol_number t b s x n g < 16777216
unfolding symbol_number
small t b s x n g = below (ltb (entry_of t b s x n g) (known b s)) (get_or b (4 * entry_of t b s x n g) 0) (names_in s)

pub sym_small : (t : List ℕ) (base : ℕ) (r : Range) (m m1 : Mem) (v : ℕ) (ty : Ty) → sym m1 v ty ≡ compile_sym (mem_r t) t base r m → v < 16777216
unfolding compile_sym
sym_small t base r m m1 v ty e = let f : v ≡ (compile_sym (mem_r t) t base r m).number = ap (λ z. z.number) e in rw f (small _ _ _ _ _ _)

pub at_no_next : (s t : List ℕ) (base left k at : ℕ) (r : Range) (n p : ℕ) (m m1 : Mem) → PayloadAt s at n p → n ≡ 0 → m1 ≡ (mem_r t).emit m 24 r 0 0 0 → Body s t base left Next k r at m m1 p
unfolding stmt_node compile_stmt compile_next items_at skip_fields skip_field skip_times skip_pair skip_item skip_list skip_repeat
at_no_next s t base left k at r n p m m1 c z e =
    let none_there : payload_at s at ≡ 0 = inv c.value ∙ z in
    record { place = rw (none_there, c.place); result = λ child. rw (none_there, e) }

names_next : (t : List ℕ) (base : ℕ) (r : Range) (s : List ℕ) (n at : ℕ) (m : Mem) → (n ≡ 0 → ⊥)
    → compile_next (mem_r t) t base r (items_at s (opt_at s (range_at s)) (next s) n at) m ≡ next_each (mem_r t) t base n r (items_at s (opt_at s (range_at s)) (next s) n at) m
unfolding compile_next items_at
names_next t base r s zero at m h = absurd (h refl)
names_next t base r s (suc n) at m h =
    let e : length (items_at s (opt_at s (range_at s)) (next s) n (next s at)) ≡ n = items_length s (opt_at s (range_at s)) (next s) n (next s at) in
    rw e

pub at_next : (s t : List ℕ) (base left k at : ℕ) (r : Range) (n p q : ℕ) (m m1 : Mem) → PayloadAt s at n p → (n ≡ 0 → ⊥) → NextDone s t base p n r m m1 q → Body s t base left Next k r at m m1 q
unfolding stmt_node compile_stmt skip_fields skip_field skip_times skip_pair skip_item skip_list
at_next s t base left k at r n p q m m1 c h d = record {
  place = rw (← c.place, ← c.value) d.place;
  result = λ child. rw (← c.place, ← c.value, names_next t base r s n p m h) d.result;
}
