-- WRITE: one law for each way out.
use mathlib.Core.Path.{◌≡◌, refl, sym as inv, ◌∙◌}
use mathlib.Core.List.{List}
use mathlib.Core.Bool.{Bool, true, false}
use Prim.Native.Nat.{ℕ, zero, suc}
use lib.Dec.{eqb}
use borrow.Author.Tests.{ne_eqb}
use native.Mathlib.Omega.{arith}
use Rattle.recorder.specs.declared.word.Range.{Range}
use Rattle.recorder.specs.Word.{pick, either, flag_of}
use Rattle.recorder.specs.Mem.{Mem, mem_r}
use Rattle.recorder.specs.CodeGen.{emit}
use Rattle.recorder.specs.declared.call.Call.TheVariants.{WriteNum, WriteStr, PopNum, PopStr}
use Rattle.sheet.specs.Tree.{WriteElement, expr_range, items_at}
use Rattle.rules.specs.declared.types.«Type».{«Type» as Ty}
use Rattle.rules.specs.declared.types.«Type».TheVariants.{Real}
use Rattle.rules.specs.Types.{matches_type}
use Rattle.rules.specs.Stmt.{is_last, write_value}

pub value_kept : (t : List ℕ) (base n : ℕ) (r : Range) (ty : Ty) (d : WriteElement) (b c f : Bool) (m m1 : Mem) → b ≡ either (eqb n 1) c → b ≡ true
    → m1 ≡ pick (matches_type ty Real) (emit m r (WriteNum f (eqb n 1))) (emit m r (WriteStr f (eqb n 1))) → r ≡ expr_range d.datum → c ≡ eqb d.comma 1
    → m1 ≡ write_value (mem_r t) t base (flag_of f) d (eqb n 1) ty m
unfolding write_value
value_kept t base n r ty d b c f m m1 h g p hr hc =
    let q : either (eqb n 1) (eqb d.comma 1) ≡ true = rw (← hc) (inv h ∙ g) in
    rw (q, p, ← hr) refl

pub value_dropped : (t : List ℕ) (base f n : ℕ) (r : Range) (ty : Ty) (d : WriteElement) (b c : Bool) (m m1 m2 : Mem) → b ≡ either (eqb n 1) c → b ≡ false → m1 ≡ (mem_r t).note m 11 r 2
    → m2 ≡ pick (matches_type ty Real) (emit m1 r PopNum) (emit m1 r PopStr) → r ≡ expr_range d.datum → c ≡ eqb d.comma 1 → m2 ≡ write_value (mem_r t) t base f d (eqb n 1) ty m
unfolding write_value
value_dropped t base f n r ty d b c m m1 m2 h g p q hr hc =
    let z : either (eqb n 1) (eqb d.comma 1) ≡ false = rw (← hc) (inv h ∙ g) in
    rw (z, q, p, ← hr) refl

-- the last is the one behind which nothing is left
pub last_of : (s : List ℕ) (f : ℕ → WriteElement) (g : ℕ → ℕ) (n at : ℕ) → is_last (items_at s f g n at) ≡ eqb (suc n) 1
unfolding items_at
last_of s f g zero at = refl
last_of s f g (suc n) at = let z : suc (suc n) ≡ 1 → ⊥ = λ q. omega (arith, q) in inv (ne_eqb _ _ z)
