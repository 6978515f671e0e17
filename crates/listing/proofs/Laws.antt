-- The program's buffers are ample for 2,048 words.
use mathlib.Core.Path.{◌≡◌, ap}
use mathlib.Core.List.{List}
use Prim.Native.Nat.{ℕ, ◌≤◌}
use native.Mathlib.Omega.{arith}
use lib.ListN.{length}
use Rattle.rules.specs.Outcome.{Outcome, lengths, outcome}
use Rattle.bounds.specs.Bounded.{Ample}
use Rattle.bounds.proofs.Suffices.{never_short}

ample : (n l m b w : ℕ) → n ≤ 2048 → 13650 ≤ l → 16384 ≤ m → 8192 ≤ b → Ample n (lengths l m b w)
ample n l m b w h x y z = omega arith

pub short_enough : (s t l n b w : List ℕ) (o : Outcome) → 13650 ≤ length l → 16384 ≤ length n → 8192 ≤ length b
    → o ≡ outcome s t (lengths (length l) (length n) (length b) (length w)) → length s ≤ 2048 → o.answer.refusal ≤ 8
short_enough s t l n b w o x y z e h =
    omega (arith, ap (λ (u : Outcome). u.answer.refusal) e, never_short s t _ (ample (length s) (length l) (length n) (length b) (length w) h x y z))
