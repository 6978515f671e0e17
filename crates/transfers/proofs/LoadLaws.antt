-- LOAD: one law for each way out.
use mathlib.Core.Path.{◌≡◌, refl, sym as inv, ap, ◌∙◌}
use mathlib.Core.List.{List}
use mathlib.Core.Bool.{Bool, true}
use Prim.Native.Nat.{ℕ, zero, suc, ◌-◌}
use native.Mathlib.Numerals.{sub-one}
use Rattle.recorder.specs.declared.word.Range.{Range}
use Rattle.recorder.specs.Word.{pick, payload_at, range_at, next}
use Rattle.recorder.specs.Mem.{Mem, mem_r}
use Rattle.sheet.specs.declared.form.Sort.TheVariants.{Expr as exprSort}
use Rattle.sheet.specs.declared.form.Shape.TheVariants.{Load}
use Rattle.sheet.specs.Skip.{skip_node, skip_repeat, skip_list, skip_fields, skip_field, skip_times, skip_pair, skip_item}
use Rattle.sheet.specs.Tree.{absent, Expr, number_lit, count, mantissa_at, expr_at, expr_node, exprs_at, stmt_node}
use Rattle.sheet.specs.Args.{args_at}
use Rattle.rules.specs.declared.types.«Type».TheVariants.{Real}
use Rattle.rules.specs.Name.{text_place}
use Rattle.rules.specs.Stmt.{compile_stmt, fresh, byte_units, final_byte, byte_of, bad_bytes, all_bytes, load_bytes, load_node, compile_load}
use Rattle.std.specs.Prelude.{Option}
use Rattle.nodes.specs.Compiled.{opt_of, CompiledTyped, PayloadAt}
use Rattle.expressions.specs.Body.{Body}
use Rattle.expressions.proofs.ExprLaws.{how_many_lem}
use Rattle.transfers.specs.declared.loads.ReadByte.{ReadByte}
use Rattle.transfers.specs.Parts.{read_of, BytesNoted, Loaded}

-- an argument
pub byte_zero : (s t : List ℕ) (base left at : ℕ) → left ≡ 0 → absent ≡ byte_of t base (expr_at s left at)
unfolding expr_at
byte_zero s t base left at e = rw e

literal_at : (s : List ℕ) (left at : ℕ) → (left ≡ 0 → ⊥) → payload_at s at ≡ 2
    → expr_at s left at ≡ number_lit (range_at s (next s at)) (payload_at s (next s (next s at))) (mantissa_at s (next s (next s (next s at))))
unfolding expr_at expr_node
literal_at s zero at d e = absurd (d refl)
literal_at s (suc left) at d e = rw e

pub byte_literal : (s t : List ℕ) (base left at k : ℕ) (r : Range) (a n : ℕ) (b : ReadByte) (x : Option ℕ) → (left ≡ 0 → ⊥) → k ≡ payload_at s at → k ≡ 2 → r ≡ range_at s (next s at) → a ≡ text_place base r.start → n ≡ r.end - r.start
    → read_of b ≡ byte_units t a n fresh → opt_of x ≡ final_byte (read_of b) → opt_of x ≡ byte_of t base (expr_at s left at)
byte_literal s t base left at k r a n b x d hk e hr ha hn p f =
    let g : payload_at s at ≡ 2 = inv hk ∙ e in
    let q : byte_units t a n fresh ≡ byte_units t (text_place base r.start) (r.end - r.start) fresh = rw (ha, hn) in
    let l : byte_of t base (expr_at s left at) ≡ byte_of t base (number_lit r (payload_at s (next s (next s at))) (mantissa_at s (next s (next s (next s at))))) = rw (literal_at s left at d g, hr) in
    f ∙ ap final_byte (p ∙ q) ∙ inv l

no_literal : (s t : List ℕ) (base : ℕ) (f : ℕ → Expr) (g : ℕ → ℕ) (k : ℕ) (r : Range) (p : ℕ) → (k ≡ 2 → ⊥) → absent ≡ byte_of t base (expr_node s f g k r p)
unfolding expr_node
no_literal s t base f g zero r p h = refl
no_literal s t base f g (suc zero) r p h = refl
no_literal s t base f g (suc (suc zero)) r p h = absurd (h refl)
no_literal s t base f g (suc (suc (suc zero))) r p h = refl
no_literal s t base f g (suc (suc (suc (suc zero)))) r p h = refl
no_literal s t base f g (suc (suc (suc (suc (suc zero))))) r p h = refl
no_literal s t base f g (suc (suc (suc (suc (suc (suc zero)))))) r p h = refl
no_literal s t base f g (suc (suc (suc (suc (suc (suc (suc zero))))))) r p h = refl
no_literal s t base f g (suc (suc (suc (suc (suc (suc (suc (suc zero)))))))) r p h = refl
no_literal s t base f g (suc (suc (suc (suc (suc (suc (suc (suc (suc zero))))))))) r p h = refl
no_literal s t base f g (suc (suc (suc (suc (suc (suc (suc (suc (suc (suc k)))))))))) r p h = refl

pub byte_other : (s t : List ℕ) (base left at k : ℕ) → k ≡ payload_at s at → (k ≡ 2 → ⊥) → absent ≡ byte_of t base (expr_at s left at)
unfolding expr_at
byte_other s t base zero at k hk h = refl
byte_other s t base (suc left) at k hk h =
    no_literal s t base (expr_at s left) (skip_node s left exprSort) (payload_at s at) (range_at s (next s at)) (next s (next s at)) (λ z. h (hk ∙ z))

-- the whole
node_some : (s t : List ℕ) (base n : ℕ) (r : Range) (f : ℕ → Expr) (g : ℕ → ℕ) (at : ℕ) (m : Mem) → (n ≡ 0 → ⊥) → load_node (mem_r t) t base r (exprs_at s f g n at) m
    ≡ pick (all_bytes (mem_r t) t base (exprs_at s f g n at)) ((mem_r t).emit (load_bytes (mem_r t) t base (exprs_at s f g n at) (bad_bytes (mem_r t) t base (exprs_at s f g n at) m)) 35 r ((mem_r t).next_byte (bad_bytes (mem_r t) t base (exprs_at s f g n at) m)) n 0) (bad_bytes (mem_r t) t base (exprs_at s f g n at) m)
unfolding load_node exprs_at count
node_some s t base zero r f g at m h = absurd (h refl)
node_some s t base (suc n) r f g at m h = let e : count (exprs_at s f g n (g at)) ≡ n = how_many_lem s f g n (g at) in rw e

pub node_bytes : (s t : List ℕ) (base left n : ℕ) (r : Range) (at p first : ℕ) (b : Bool) (m m1 m2 m3 : Mem) → (n ≡ 0 → ⊥) → BytesNoted s t base left n at m m1 p
    → b ≡ all_bytes (mem_r t) t base (args_at s left n at) → b ≡ true → first ≡ (mem_r t).next_byte m1
    → m2 ≡ load_bytes (mem_r t) t base (args_at s left n at) m1 → m3 ≡ (mem_r t).emit m2 35 r first n 0
    → Loaded s t base left n r at m m3 p
node_bytes s t base left n r at p first b m m1 m2 m3 h u hb g hf e f =
    let q : all_bytes (mem_r t) t base (args_at s left n at) ≡ true = inv hb ∙ g in
    record {
      place = u.place;
      result = rw (node_some s t base n r (expr_at s left) (skip_node s left exprSort) at m h, q, ← u.result, f, e, hf);
    }

pub load_empty : (s t : List ℕ) (base left k : ℕ) (r : Range) (at n q : ℕ) (m : Mem) → PayloadAt s at n q → n ≡ 0 → Body s t base left Load k r at m m q
unfolding skip_fields skip_field skip_times skip_pair skip_item skip_list skip_repeat stmt_node compile_stmt compile_load exprs_at
load_empty s t base left k r at n q m c e =
    let g : payload_at s at ≡ 0 = inv c.value ∙ e in
    record { place = rw (g, c.place); result = λ child. rw g }

pub load_of : (s t : List ℕ) (base left k : ℕ) (r : Range) (at n q q1 p : ℕ) (m m1 m2 : Mem) → PayloadAt s at n q → (n ≡ 0 → ⊥) → CompiledTyped s t base left q Real m m1 q1
    → Loaded s t base left (n - 1) r q1 m1 m2 p → Body s t base left Load k r at m m2 p
unfolding skip_fields skip_field skip_times skip_pair skip_item skip_list skip_repeat stmt_node compile_stmt compile_load exprs_at
load_of s t base left k r at zero q q1 p m m1 m2 c h x y = absurd (h refl)
load_of s t base left k r at (suc n) q q1 p m m1 m2 c h x y =
    let z = rw sub-one at y in
    record { place = rw (← c.place, ← c.value, ← x.place) z.place; result = λ child. rw (← c.place, ← c.value, ← x.place, ← x.result) z.result }
