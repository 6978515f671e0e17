-- compile_expr and compile_args: one law for each way out.
use mathlib.Core.Path.{◌≡◌, refl, ap}
use mathlib.Core.List.{List}
use Prim.Native.Nat.{ℕ, zero, suc, ◌+◌, ◌-◌, ◌≤◌}
use native.Mathlib.Numerals.{sub-one}
use native.Mathlib.Omega.{arith}
use Rattle.recorder.specs.declared.word.Range.{Range}
use Rattle.recorder.specs.Word.{payload_at, range_at, next}
use Rattle.recorder.specs.Mem.{Mem, mem_r}
use Rattle.sheet.specs.declared.form.Sort.{Sort}
use Rattle.sheet.specs.declared.form.Sort.TheVariants.{Expr as exprSort}
use Rattle.sheet.specs.Table.{expr_fields}
use Rattle.sheet.specs.Skip.{skip_node, skip_list, skip_fields, skip_field, skip_times, skip_pair, skip_item}
use Rattle.sheet.specs.Tree.{Expr, error, expr_range, count, expr_at, expr_node, exprs_at, opt_at, mantissa_at}
use Rattle.rules.specs.declared.types.«Type».{«Type» as Ty}
use Rattle.rules.specs.declared.types.«Type».TheVariants.{Real, String, Error}
use Rattle.rules.specs.declared.tables.Wants.TheVariants.{Func, Every}
use Rattle.rules.specs.Expr.{out, compile_expr, check_type, var_node, text_node, number_node, func_notes, func_node, opt_real_sym, user_call, binary_node, unary_node, index_node, index_place, var_place, compile_lvalue}
use Rattle.std.specs.Prelude.{Option}
use Rattle.nodes.specs.Compiled.{named, opt_of, Compiled, CompiledArgs, CompiledPlace, OpAt, PayloadAt}

-- a node's case, its range, and the place behind both
pub record Head (s : List ℕ) (left at k : ℕ) (r : Range) (p : ℕ) : Type 0 where
  pub deep : left ≡ 0 → ⊥
  pub kind : k ≡ payload_at s at
  pub range : r ≡ range_at s (next s at)
  pub behind : p ≡ next s (next s at)

pub head : (s : List ℕ) (left at k : ℕ) (r : Range) (q p : ℕ) → (left ≡ 0 → ⊥) → k ≡ payload_at s at → r ≡ range_at s (next s at) → q ≡ next s at → p ≡ next s q → Head s left at k r p
head s left at k r q p d hk hr hq hp = record { deep = d; kind = hk; range = hr; behind = rw (← hq) hp }

pub node : (s : List ℕ) (left at k : ℕ) (r : Range) (p : ℕ) → Head s left at k r p → expr_at s left at ≡ expr_node s (expr_at s (left - 1)) (skip_node s (left - 1) exprSort) k r p
unfolding expr_at
node s zero at k r p h = absurd (h.deep refl)
node s (suc left) at k r p h = rw (sub-one, h.kind, h.range, h.behind)

pub over : (s : List ℕ) (left at k : ℕ) (r : Range) (p : ℕ) → Head s left at k r p → skip_node s left exprSort at ≡ skip_fields s (skip_node s (left - 1)) (expr_fields k) p
unfolding skip_node
over s zero at k r p h = absurd (h.deep refl)
over s (suc left) at k r p h = rw (sub-one, h.kind, h.behind)

-- the range of an expression is the word behind its head
from_cases : (s : List ℕ) (f : ℕ → Expr) (g : ℕ → ℕ) (k : ℕ) (r : Range) (p : ℕ) → expr_range (expr_node s f g k r p) ≡ r
unfolding expr_node
from_cases s f g zero r p = refl
from_cases s f g (suc zero) r p = refl
from_cases s f g (suc (suc zero)) r p = refl
from_cases s f g (suc (suc (suc zero))) r p = refl
from_cases s f g (suc (suc (suc (suc zero)))) r p = refl
from_cases s f g (suc (suc (suc (suc (suc zero))))) r p = refl
from_cases s f g (suc (suc (suc (suc (suc (suc zero)))))) r p = refl
from_cases s f g (suc (suc (suc (suc (suc (suc (suc zero))))))) r p = refl
from_cases s f g (suc (suc (suc (suc (suc (suc (suc (suc zero)))))))) r p = refl
from_cases s f g (suc (suc (suc (suc (suc (suc (suc (suc (suc zero))))))))) r p = refl
from_cases s f g (suc (suc (suc (suc (suc (suc (suc (suc (suc (suc k)))))))))) r p = refl

pub range_of_lem : (s : List ℕ) (left at : ℕ) → expr_range (expr_at s left at) ≡ range_at s (next s at)
unfolding expr_at
range_of_lem s zero at = refl
range_of_lem s (suc left) at = from_cases s (expr_at s left) (skip_node s left exprSort) (payload_at s at) (range_at s (next s at)) (next s (next s at))

-- a list of n has n
pub how_many_lem : (s : List ℕ) (f : ℕ → Expr) (g : ℕ → ℕ) (n at : ℕ) → count (exprs_at s f g n at) ≡ n
unfolding exprs_at count
how_many_lem s f g zero at = refl
how_many_lem s f g (suc n) at = ap suc (how_many_lem s f g n (g at))

pub at_var : (s t : List ℕ) (base left at k : ℕ) (r : Range) (p : ℕ) (m m1 : Mem) (ty : Ty) → Head s left at k r p → k ≡ 0 → out m1 ty ≡ var_node (mem_r t) t base r m
    → Compiled s t base left at m m1 p ty
unfolding expr_node compile_expr skip_fields expr_fields
at_var s t base left at k r p m m1 ty h e f = record { place = rw (over s left at k r p h, e); result = rw (node s left at k r p h, e) f }

pub at_text : (s t : List ℕ) (base left at k : ℕ) (r : Range) (p : ℕ) (m m1 : Mem) → Head s left at k r p → k ≡ 1 → m1 ≡ text_node (mem_r t) t base r m
    → Compiled s t base left at m m1 p String
unfolding expr_node compile_expr skip_fields expr_fields
at_text s t base left at k r p m m1 h e f = record { place = rw (over s left at k r p h, e); result = rw (node s left at k r p h, e, f) }

pub at_number : (s t : List ℕ) (base left at k : ℕ) (r : Range) (p x q v q1 q2 : ℕ) (m m1 : Mem) → Head s left at k r p → k ≡ 2 → PayloadAt s p x q → v ≡ mantissa_at s q
    → q1 ≡ next s q → q2 ≡ next s q1 → m1 ≡ number_node (mem_r t) t base r x v m → Compiled s t base left at m m1 q2 Real
unfolding expr_node compile_expr skip_fields skip_field skip_times skip_pair skip_item expr_fields
at_number s t base left at k r p x q v q1 q2 m m1 h e c hv h1 h2 f = record {
  place = rw (over s left at k r p h, e, h2, h1, c.place);
  result = rw (node s left at k r p h, e, f, hv, c.value, c.place);
}

pub at_func : (s t : List ℕ) (base left at k : ℕ) (r : Range) (p : ℕ) (fr : Range) (f q n q1 q2 : ℕ) (m m1 m2 m3 : Mem) (ty : Ty) → Head s left at k r p → k ≡ 3 → OpAt s p fr f q
    → PayloadAt s q n q1 → m1 ≡ func_notes (mem_r t) t base f n fr r m → CompiledArgs s t base (left - 1) q1 n (Func f) m1 m2 q2 → out m3 ty ≡ func_node (mem_r t) t base f n r m2
    → Compiled s t base left at m m3 q2 ty
unfolding expr_node compile_expr skip_fields skip_field skip_times skip_pair skip_item skip_list expr_fields
at_func s t base left at k r p fr f q n q1 q2 m m1 m2 m3 ty h e o c f1 x f2 =
    let count_is : count (exprs_at s (expr_at s (left - 1)) (skip_node s (left - 1) exprSort) n q1) ≡ n = how_many_lem s (expr_at s (left - 1)) (skip_node s (left - 1) exprSort) n q1 in
    record {
      place = rw (over s left at k r p h, e, ← o.place, ← c.place, ← c.value) x.place;
      result = rw (node s left at k r p h, e, ← o.place, ← o.kind, ← o.range, ← c.place, ← c.value, count_is, ← f1, ← x.result) f2;
    }

pub at_user : (s t : List ℕ) (base left at k : ℕ) (r : Range) (p : ℕ) (o : Option Range) (q v q1 : ℕ) (ar : Range) (m m1 m2 m3 m4 : Mem) (ty : Ty) → Head s left at k r p → k ≡ 4
    → opt_of o ≡ opt_at s (range_at s) p → q ≡ next s p → named m1 v ≡ opt_real_sym (mem_r t) t base (opt_of o) m → Compiled s t base (left - 1) q m1 m2 q1 ty → ar ≡ range_at s (next s q)
    → m3 ≡ check_type (mem_r t) t base Real ar ty m2 → m4 ≡ user_call (mem_r t) t base (opt_of o) r v m3 → Compiled s t base left at m m4 q1 Real
unfolding expr_node compile_expr skip_fields skip_field skip_times skip_pair skip_item expr_fields
at_user s t base left at k r p o q v q1 ar m m1 m2 m3 m4 ty h e ho hq f1 x ha f2 f3 = record {
  place = rw (over s left at k r p h, e, ← hq) x.place;
  result = rw (node s left at k r p h, e, ← ho, ← hq, ← f1, ← x.result, range_of_lem s (left - 1) q, ← ha, ← f2, f3);
}

pub at_binary : (s t : List ℕ) (base left at k : ℕ) (r : Range) (p q : ℕ) (or : Range) (f q1 q2 : ℕ) (ar br : Range) (m m1 m2 m3 : Mem) (t1 t2 ty : Ty) → Head s left at k r p → k ≡ 5
    → Compiled s t base (left - 1) p m m1 q t1 → OpAt s q or f q1 → Compiled s t base (left - 1) q1 m1 m2 q2 t2 → ar ≡ range_at s (next s p) → br ≡ range_at s (next s q1)
    → out m3 ty ≡ binary_node (mem_r t) t base f r ar or br t1 t2 m2 → Compiled s t base left at m m3 q2 ty
unfolding expr_node compile_expr skip_fields skip_field skip_times skip_pair skip_item expr_fields
at_binary s t base left at k r p q or f q1 q2 ar br m m1 m2 m3 t1 t2 ty h e x o y ha hb f2 = record {
  place = rw (over s left at k r p h, e, ← x.place, ← o.place) y.place;
  result = rw (node s left at k r p h, e, ← x.place, ← o.place, ← o.kind, ← o.range, range_of_lem s (left - 1) p, range_of_lem s (left - 1) q1, ← ha, ← hb, ← x.result, ← y.result) f2;
}

pub at_unary : (s t : List ℕ) (base left at k : ℕ) (r : Range) (p : ℕ) (or : Range) (f q q1 : ℕ) (ar : Range) (m m1 m2 : Mem) (t1 ty : Ty) → Head s left at k r p → k ≡ 6
    → OpAt s p or f q → Compiled s t base (left - 1) q m m1 q1 t1 → ar ≡ range_at s (next s q) → out m2 ty ≡ unary_node (mem_r t) t base f r ar t1 m1
    → Compiled s t base left at m m2 q1 ty
unfolding expr_node compile_expr skip_fields skip_field skip_times skip_pair skip_item expr_fields
at_unary s t base left at k r p or f q q1 ar m m1 m2 t1 ty h e o x ha f2 = record {
  place = rw (over s left at k r p h, e, ← o.place) x.place;
  result = rw (node s left at k r p h, e, ← o.place, ← o.kind, range_of_lem s (left - 1) q, ← ha, ← x.result) f2;
}

pub at_index : (s t : List ℕ) (base left at k : ℕ) (r : Range) (p : ℕ) (o : Option Range) (q n q1 q2 : ℕ) (m m1 m2 : Mem) (ty : Ty) → Head s left at k r p → k ≡ 7
    → opt_of o ≡ opt_at s (range_at s) p → q ≡ next s p → PayloadAt s q n q1 → CompiledArgs s t base (left - 1) q1 n Every m m1 q2
    → out m2 ty ≡ index_node (mem_r t) t base (opt_of o) r n m1 → Compiled s t base left at m m2 q2 ty
unfolding expr_node compile_expr skip_fields skip_field skip_times skip_pair skip_item skip_list expr_fields
at_index s t base left at k r p o q n q1 q2 m m1 m2 ty h e ho hq c x f =
    let count_is : count (exprs_at s (expr_at s (left - 1)) (skip_node s (left - 1) exprSort) n q1) ≡ n = how_many_lem s (expr_at s (left - 1)) (skip_node s (left - 1) exprSort) n q1 in
    record {
      place = rw (over s left at k r p h, e, ← hq, ← c.place, ← c.value) x.place;
      result = rw (node s left at k r p h, e, ← ho, ← hq, ← c.place, ← c.value, count_is, ← x.result) f;
    }

pub at_inkey : (s t : List ℕ) (base left at k : ℕ) (r : Range) (p : ℕ) (m m1 : Mem) → Head s left at k r p → k ≡ 8 → m1 ≡ (mem_r t).emit m 10 r 0 0 0
    → Compiled s t base left at m m1 p String
unfolding expr_node compile_expr skip_fields expr_fields
at_inkey s t base left at k r p m m1 h e f = record { place = rw (over s left at k r p h, e); result = rw (node s left at k r p h, e, f) }

-- a case that is none of these: Error, or a number that is no case
other : (s : List ℕ) (f : ℕ → Expr) (g : ℕ → ℕ) (c : Sort → ℕ → ℕ) (k j : ℕ) (r : Range) (p : ℕ) → k ≡ 9 + j → (expr_node s f g k r p ≡ error r) × (skip_fields s c (expr_fields k) p ≡ p)
unfolding expr_node skip_fields expr_fields
other s f g c k zero r p e = rw e (refl, refl)
other s f g c k (suc j) r p e = let e' : k ≡ suc (suc (suc (suc (suc (suc (suc (suc (suc (suc j))))))))) = omega arith in rw e' (refl, refl)

pub at_other : (s t : List ℕ) (base left at k : ℕ) (r : Range) (p : ℕ) (m : Mem) → Head s left at k r p → 9 ≤ k → Compiled s t base left at m m p Error
unfolding compile_expr
at_other s t base left at k r p m h n =
    let o : (expr_node s (expr_at s (left - 1)) (skip_node s (left - 1) exprSort) k r p ≡ error r) × (skip_fields s (skip_node s (left - 1)) (expr_fields k) p ≡ p) =
    other s (expr_at s (left - 1)) (skip_node s (left - 1) exprSort) (skip_node s (left - 1)) k (k - 9) r p (omega arith) in
    record { place = rw (over s left at k r p h, o.1); result = rw (node s left at k r p h, o.0) }

-- places to store
pub place_var : (s t : List ℕ) (base left at k : ℕ) (r : Range) (p : ℕ) (m m1 : Mem) (ty : Ty) → Head s left at k r p → k ≡ 0 → out m1 ty ≡ var_place (mem_r t) t base r m
    → CompiledPlace s t base left at m m1 p ty
unfolding expr_node compile_lvalue skip_fields expr_fields
place_var s t base left at k r p m m1 ty h e f = record { place = rw (over s left at k r p h, e); result = rw (node s left at k r p h, e) f }

pub place_index : (s t : List ℕ) (base left at k : ℕ) (r : Range) (p : ℕ) (o : Option Range) (q n q1 q2 : ℕ) (m m1 m2 : Mem) (ty : Ty) → Head s left at k r p → k ≡ 7
    → opt_of o ≡ opt_at s (range_at s) p → q ≡ next s p → PayloadAt s q n q1 → CompiledArgs s t base (left - 1) q1 n Every m m1 q2
    → out m2 ty ≡ index_place (mem_r t) t base (opt_of o) n m1 → CompiledPlace s t base left at m m2 q2 ty
unfolding expr_node compile_lvalue skip_fields skip_field skip_times skip_pair skip_item skip_list expr_fields
place_index s t base left at k r p o q n q1 q2 m m1 m2 ty h e ho hq c x f =
    let count_is : count (exprs_at s (expr_at s (left - 1)) (skip_node s (left - 1) exprSort) n q1) ≡ n = how_many_lem s (expr_at s (left - 1)) (skip_node s (left - 1) exprSort) n q1 in
    record {
      place = rw (over s left at k r p h, e, ← hq, ← c.place, ← c.value) x.place;
      result = rw (node s left at k r p h, e, ← ho, ← hq, ← c.place, ← c.value, count_is, ← x.result) f;
    }

-- any other case
not_place : (s t : List ℕ) (base : ℕ) (f : ℕ → Expr) (g : ℕ → ℕ) (k : ℕ) (r : Range) (p : ℕ) (m : Mem) → (k ≡ 0 → ⊥) → (k ≡ 7 → ⊥)
    → out m Error ≡ compile_lvalue (mem_r t) t base (expr_node s f g k r p) m
unfolding expr_node compile_lvalue
not_place s t base f g zero r p m a b = absurd (a refl)
not_place s t base f g (suc zero) r p m a b = refl
not_place s t base f g (suc (suc zero)) r p m a b = refl
not_place s t base f g (suc (suc (suc zero))) r p m a b = refl
not_place s t base f g (suc (suc (suc (suc zero)))) r p m a b = refl
not_place s t base f g (suc (suc (suc (suc (suc zero))))) r p m a b = refl
not_place s t base f g (suc (suc (suc (suc (suc (suc zero)))))) r p m a b = refl
not_place s t base f g (suc (suc (suc (suc (suc (suc (suc zero))))))) r p m a b = absurd (b refl)
not_place s t base f g (suc (suc (suc (suc (suc (suc (suc (suc zero)))))))) r p m a b = refl
not_place s t base f g (suc (suc (suc (suc (suc (suc (suc (suc (suc zero))))))))) r p m a b = refl
not_place s t base f g (suc (suc (suc (suc (suc (suc (suc (suc (suc (suc k)))))))))) r p m a b = refl

pub place_other : (s t : List ℕ) (base left at k : ℕ) (r : Range) (p q : ℕ) (m : Mem) → Head s left at k r p → (k ≡ 0 → ⊥) → (k ≡ 7 → ⊥) → q ≡ skip_node s left exprSort at
    → CompiledPlace s t base left at m m q Error
place_other s t base left at k r p q m h a b e =
    record { place = e; result = rw (node s left at k r p h) (not_place s t base (expr_at s (left - 1)) (skip_node s (left - 1) exprSort) k r p m a b) }
