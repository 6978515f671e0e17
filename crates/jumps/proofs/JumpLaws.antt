-- RESTORE, and the loops over the targets of ON.
use mathlib.Core.Path.{◌≡◌, refl, ap, ◌∙◌}
use mathlib.Core.List.{List, [], ◌∷◌}
use mathlib.Core.Bool.{Bool, true, false}
use lib.Dec.{eqb}
use Prim.Native.Nat.{ℕ}
use Rattle.recorder.specs.declared.word.Range.{Range}
use Rattle.recorder.specs.declared.label.Label.{Label}
use Rattle.recorder.specs.Word.{pick, flag_of}
use Rattle.recorder.specs.Mem.{Mem, mem_r}
use Rattle.sheet.specs.declared.form.Shape.TheVariants.{Restore}
use Rattle.sheet.specs.Skip.{skip_fields, skip_field, skip_times, skip_pair, skip_item}
use Rattle.sheet.specs.Tree.{OnTarget, stmt_node, opt_at, target_at, behind_label}
use Rattle.rules.specs.Stmt.{pending_jump, compile_restore, label_or0, on_jumps, compile_stmt}
use Rattle.expressions.specs.Body.{Body}
use Rattle.std.specs.Prelude.{Option}
use Rattle.jumps.specs.Parts.{target_of}

pub restore_of : (s t : List ℕ) (base left k : ℕ) (r : Range) (p q : ℕ) (o : Option (Range × Label)) (m m1 : Mem) → target_of o ≡ opt_at s (target_at s) p
    → m1 ≡ compile_restore (mem_r t) t base r (target_of o) m → q ≡ behind_label s p → Body s t base left Restore k r p m m1 q
unfolding stmt_node compile_stmt skip_fields skip_field skip_times skip_pair skip_item
restore_of s t base left k r p q o m m1 ho e f = record { place = f; result = λ child. e ∙ ap (λ g. compile_restore (mem_r t) t base r g m) ho }

-- ON
-- whether an ON's jumps are GOSUB's is told by its number
same_sub : (n : ℕ) → eqb (flag_of (eqb n 1)) 1 ≡ eqb n 1
same_sub n = go (eqb n 1)
  where
    go : (b : Bool) → eqb (flag_of b) 1 ≡ b
    go true = refl
    go false = refl

pub same_jumps : (t : List ℕ) (base n : ℕ) (gs : List OnTarget) (m : Mem) → on_jumps (mem_r t) t base (flag_of (eqb n 1)) gs m ≡ on_jumps (mem_r t) t base n gs m
unfolding on_jumps
same_jumps t base n [] m = refl
same_jumps t base n (g ∷ gs) m = rw (same_sub n) (same_jumps t base n gs (pending_jump (mem_r t) t base n g.range (label_or0 g.label) g.range m))
