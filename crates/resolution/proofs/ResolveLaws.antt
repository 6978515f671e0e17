-- One law for each way out of the functions that resolve labels and DATA indices.
use mathlib.Core.Path.{◌≡◌, sym as inv, ap, ◌∙◌}
use mathlib.Core.List.{List}
use mathlib.Core.Bool.{true}
use Prim.Native.Nat.{ℕ, suc, ◌+◌, ◌-◌, ◌≤◌, ◌<◌}
use borrow.Author.Tests.{lt-ltb}
use native.Mathlib.Omega.{arith}
use Rattle.recorder.specs.declared.codegen.Looked.{Looked}
use Rattle.recorder.specs.Recorder.{Look}
use Rattle.recorder.specs.Ideal.{missing}
use Rattle.recorder.specs.Marks.{Mark}
use Rattle.recorder.specs.CodeGen.{look_is}
use Rattle.recorder.specs.Mem.{Mem, mem_r, as_word, records_in, clean_up, look_at}
use Rattle.rules.specs.Program.{Lines, Waiting, settle_by, settle_waiting, resolve, resolve_labels, resolve_datum_indices, close_up}
use Rattle.resolution.specs.Looks.{as_look}

look_as : (q : Looked) (u : Look) → look_is q u → as_look q ≡ u
look_as q u p = rw (p.0, p.1, p.2, p.3)

-- a record that waits for a label that is nowhere
pub no_label : (t : List ℕ) (w : Waiting) (ms : List Mark) (k : ℕ) (u : Look) (q : Looked) (label : ℕ) (m : Mem)
    → look_is q u → w.waits u.call ≡ true → (1 ≤ q.b) × (label ≡ q.b - 1) → missing ≡ w.find ms label
    → (m1 : Mem) → m1 ≡ settle_by (mem_r t) w missing k (as_look q) m → m1 ≡ settle_waiting (mem_r t) w ms k u m
no_label t w ms k u q label m i a h z m1 p = rw (← look_as q u i, lt-ltb 0 q.b (omega arith), i.0, a, ← h.1, ← z) p

-- the pass over the records
module _ (t : List ℕ) (w : Waiting) (ms : List Mark) (k n : ℕ) (m m1 : Mem) where
  pub resolve_step : k < n → m1 ≡ settle_waiting (mem_r t) w ms k (look_at m.list k) m
      → resolve (mem_r t) w ms (k + 1) (n - (k + 1)) m1 ≡ resolve (mem_r t) w ms k (n - k) m
  unfolding resolve
  resolve_step h p = let e : n - k ≡ suc (n - (k + 1)) = omega arith in rw (e, p)

  pub resolve_done : n ≤ k → resolve (mem_r t) w ms k (n - k) m ≡ m1 → m ≡ m1
  unfolding resolve
  resolve_done h p = let e : n - k ≡ 0 = omega arith in inv (ap (λ (z : ℕ). resolve (mem_r t) w ms k z m) e) ∙ p

pub closed : (t : List ℕ) (c : Lines Mem) (m m1 m2 m3 : Mem) → c.state ≡ m
    → m1 ≡ resolve_labels (mem_r t) c.marks 0 (as_word (records_in m.st)) m
    → m2 ≡ resolve_datum_indices (mem_r t) c.marks 0 (as_word (records_in m1.st)) m1 → m3 ≡ clean_up m2
    → m3 ≡ close_up (mem_r t) c
unfolding close_up
closed t c m m1 m2 m3 e p1 p2 p3 =
    let q1 : m1 ≡ resolve_labels (mem_r t) c.marks 0 ((mem_r t).count c.state) c.state = rw e p1 in
    let q2 = p2 ∙ ap (λ (z : Mem). resolve_datum_indices (mem_r t) c.marks 0 ((mem_r t).count z) z) q1 in
    p3 ∙ ap (mem_r t).clean_up q2
