-- DEF: its law.
use mathlib.Core.Path.{◌≡◌}
use mathlib.Core.List.{List}
use Prim.Native.Nat.{ℕ}
use Rattle.recorder.specs.declared.word.Range.{Range}
use Rattle.recorder.specs.Word.{range_at, next}
use Rattle.recorder.specs.Mem.{Mem, mem_r}
use Rattle.sheet.specs.declared.form.Shape.TheVariants.{Def}
use Rattle.sheet.specs.Skip.{skip_fields, skip_field, skip_times, skip_pair, skip_item}
use Rattle.sheet.specs.Tree.{opt_at, stmt_node}
use Rattle.rules.specs.Expr.{opt_real_sym}
use Rattle.rules.specs.Stmt.{compile_stmt, compile_def}
use Rattle.std.specs.Prelude.{Option}
use Rattle.nodes.specs.Compiled.{named, opt_of}
use Rattle.expressions.specs.Body.{Body}
use Rattle.declarations.specs.Parts.{Defined}

pub at_def : (s t : List ℕ) (base left k at : ℕ) (r : Range) (o a : Option Range) (x y p q p1 : ℕ) (m m1 m2 m3 : Mem) → p ≡ next s at → opt_of o ≡ opt_at s (range_at s) at
    → opt_of a ≡ opt_at s (range_at s) p → named m1 x ≡ opt_real_sym (mem_r t) t base (opt_of o) m → named m2 y ≡ opt_real_sym (mem_r t) t base (opt_of a) m1 → q ≡ next s p
    → Defined s t base left q (opt_of o) (opt_of a) r x y m2 m3 p1 → Body s t base left Def k r at m m3 p1
unfolding stmt_node compile_stmt compile_def skip_fields skip_field skip_times skip_pair skip_item
at_def s t base left k at r o a x y p q p1 m m1 m2 m3 hp ho ha hx hy hq z = record {
  place = rw (← hp, ← hq) z.place;
  result = λ child. rw (← hp, ← hq, ← ho, ← ha, ← hx, ← hy) z.result;
}
