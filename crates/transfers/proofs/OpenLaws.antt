-- OPEN with a length.
use mathlib.Core.Path.{◌≡◌, sym as inv, ◌∙◌}
use mathlib.Core.List.{List}
use mathlib.Core.Bool.{Bool, false}
use Prim.Native.Nat.{ℕ}
use Rattle.recorder.specs.declared.word.Range.{Range}
use Rattle.recorder.specs.Word.{range_at, next}
use Rattle.recorder.specs.Mem.{Mem, mem_r}
use Rattle.sheet.specs.Form.{is_absent}
use Rattle.rules.specs.declared.types.«Type».TheVariants.{Real}
use Rattle.rules.specs.Stmt.{len_notes}
use Rattle.nodes.specs.Compiled.{CompiledTyped}
use Rattle.transfers.specs.Parts.{open_call, Opened}

pub with_len : (s t : List ℕ) (base left mode : ℕ) (r : Range) (at : ℕ) (k : Bool) (q p : ℕ) (lr : Range) (m m1 m2 m3 : Mem) → k ≡ is_absent s at → k ≡ false → q ≡ next s at → lr ≡ range_at s at
    → m1 ≡ len_notes (mem_r t) t base mode lr m → CompiledTyped s t base left q Real m1 m2 p → m3 ≡ open_call (mem_r t) mode r m2 → Opened s t base left mode r at m m3 p
with_len s t base left mode r at k q p lr m m1 m2 m3 e h hq hr f x g =
    let b : is_absent s at ≡ false = inv e ∙ h in
    record { place = rw (b, ← hq) x.place; result = rw (b, g, x.result, f, hr, hq) }
