-- Lists in the sheet: one turn of a loop over them, and lists that are passed over in the same way.
use mathlib.Core.Path.{◌≡◌, refl}
use mathlib.Core.List.{List}
use Prim.Native.Nat.{ℕ, zero, suc, ◌+◌, ◌-◌, ◌≤◌, ◌<◌}
use native.Mathlib.Omega.{arith}
use Rattle.recorder.specs.declared.codegen.CodeGen.{CodeGen}
use Rattle.recorder.specs.CodeGen.{mem_of, SameLoans}
use Rattle.recorder.specs.Mem.{Mem}
use Rattle.sheet.specs.declared.form.Sort.TheVariants.{Expr as exprSort, Place as placeSort, InputPlace as inputSort}
use Rattle.sheet.specs.Skip.{skip_node, skip_repeat}

-- a loop over n, of which i are done: one more is left, or none
pub more_left : (n i : ℕ) → i < n → n - i ≡ suc (n - (i + 1))
more_left n i h = omega arith

pub none_left : (n i : ℕ) → n ≤ i → n - i ≡ 0
none_left n i h = omega arith

pub ruleset turns = (more_left, none_left)

-- what such a loop keeps, where `skip` finds the place behind one and `make` is what so many from a place on make: the next is at p
abbrev pub Turns : (s : List ℕ) (skip : ℕ → ℕ) (make : ℕ → ℕ → Mem → Mem) (n i at p : ℕ) (old new : CodeGen) → Type 0
Turns s skip make n i at p old new = record {
  same : SameLoans old new;
  place : skip_repeat s skip (n - i) p ≡ skip_repeat s skip n at;
  result : make (n - i) p (mem_of new) ≡ make n at (mem_of old);
}

-- places to store and places of INPUT are passed over as expressions are
pub place_same : (s : List ℕ) (left : ℕ) → skip_node s left placeSort ≡ skip_node s left exprSort
unfolding skip_node
place_same s zero = refl
place_same s (suc left) = refl

pub input_same : (s : List ℕ) (left : ℕ) → skip_node s left inputSort ≡ skip_node s left exprSort
unfolding skip_node
input_same s zero = refl
input_same s (suc left) = refl
