use Rattle.std.proofs.Common.{◌≡◌, ◌-◌, ℕ}
use Rattle.recorder.specs.Mem.{mem_r}
use Rattle.sheet.specs.Skip.{skip_repeat}
use Rattle.sheet.specs.Tree.{Stmt, items_at, element_at}
use Rattle.rules.specs.Stmt.{print_each}
use Rattle.prints.specs.Parts.{over_element}
use Rattle.recorder.specs.CodeGen.{mem_of, SameLoans}
use Rattle.prints.proofs.prints.print_each.Given as goal

abbrev pub invariant-loop-i : goal.invariant-loop-i
invariant-loop-i l = record {
  same : SameLoans l.initial.code l.code;
  place : skip_repeat l.src.sheet.now (over_element l.src.sheet.now l.left) (l.n - l.i) l.p ≡ skip_repeat l.src.sheet.now (over_element l.src.sheet.now l.left) l.n l.at;
  result : (child : ℕ → Stmt) → print_each (mem_r l.src.text.now) l.src.text.now l.src.base l.r (items_at l.src.sheet.now (element_at l.src.sheet.now l.left child) (over_element l.src.sheet.now l.left) (l.n - l.i) l.p) (mem_of l.code)
      ≡ print_each (mem_r l.src.text.now) l.src.text.now l.src.base l.r (items_at l.src.sheet.now (element_at l.src.sheet.now l.left child) (over_element l.src.sheet.now l.left) l.n l.at) (mem_of l.initial.code);
}
