-- Which calls wait for a label: the jumps' and RESTORE's.
use Rattle.std.proofs.Common.{◌≡◌, ℕ, true, eqb, ◌⊎◌, inl, inr, eqb-true}
use Rattle.rules.specs.Program.{Waiting, jumps, restores}
use Rattle.rules.proofs.BoolLaws.{either_of}

pub record Waits (w : Waiting) : Type 0 where
  call : (c : ℕ) → w.waits c ≡ true → (c ≡ 20) ⊎ ((c ≡ 21) ⊎ (c ≡ 31))

pub jumps_wait : Waits jumps
jumps_wait = record { call = λ c e. go c (either_of (eqb c 20) (eqb c 21) e) }
  where
    go : (c : ℕ) → (eqb c 20 ≡ true) ⊎ (eqb c 21 ≡ true) → (c ≡ 20) ⊎ ((c ≡ 21) ⊎ (c ≡ 31))
    go c (inl q) = inl (eqb-true c 20 q)
    go c (inr q) = inr (inl (eqb-true c 21 q))

pub restores_wait : Waits restores
restores_wait = record { call = λ c e. inr (inr (eqb-true c 31 e)) }

-- what holds of the three calls holds of one that waits
pub of_waiting : (P : ℕ → Type 0) → P 20 → P 21 → P 31 → {w : Waiting} → Waits w → (c : ℕ) → w.waits c ≡ true → P c
of_waiting P x y z h c e = go (h.call c e)
  where
    go : (c ≡ 20) ⊎ ((c ≡ 21) ⊎ (c ≡ 31)) → P c
    go (inl q) = rw q x
    go (inr (inl q)) = rw q y
    go (inr (inr q)) = rw q z
