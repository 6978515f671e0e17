-- The loop over the lines.
use Rattle.std.specs.Prelude.{None}
use mathlib.Core.Path.{◌≡◌, refl, sym as inv, ap, ◌∙◌}
use mathlib.Core.List.{List, [], ◌∷◌}
use Prim.Native.Nat.{ℕ, zero, suc, ◌+◌, ◌*◌, ◌-◌, ◌≤◌, ◌<◌}
use lib.ListN.{length, replicate}
use native.Mathlib.Numerals.{sub-one}
use native.Mathlib.Omega.{arith}
use Rattle.recorder.specs.Word.{payload_at, next}
use Rattle.recorder.specs.Marks.{Mark}
use Rattle.recorder.specs.Mem.{Mem, mem_r}
use Rattle.sheet.specs.Form.{is_absent}
use Rattle.sheet.specs.Tree.{ProgramLine, target_at, line_at, behind_line, items_at, program_at}
use Rattle.rules.specs.Program.{Lines as RulesLines, marked, compile_line, compile_lines, first_line}
use Rattle.program.specs.declared.line.Lines.{Lines}
use Rattle.program.specs.Line.{lines_of, CompiledLine, Programmed}
use Rattle.program.proofs.MarkLaws.{Kept, kept_none, kept_line}

-- the loop: the labelled lines so far, and what is left to compile
pub record Going (s t : List ℕ) (count line : ℕ) (c : Lines) (m₀ m : Mem) (w₀ w : List ℕ) : Type 0 where
  pub marks : List Mark
  pub kept : w₀ ≡ replicate (length w₀) 0 → 3 * payload_at s 0 < length w₀ → payload_at s 0 < 65536 → Kept w c.marks (count - line) marks
  pub lines : compile_lines (mem_r t) t (items_at s (line_at s) (behind_line s) (count - line) c.at) (lines_of c line m marks) ≡ compile_lines (mem_r t) t (program_at s) (first_line (mem_r t) t m₀)

pub going_start : (s t : List ℕ) (count at : ℕ) (m : Mem) (w : List ℕ) → count ≡ payload_at s 0 → at ≡ next s 0
    → Going s t count 0 (record { at = at; marks = 0; last = None; base = 0 }) m m w w
unfolding program_at
going_start s t count at m w hc ha = record {
  marks = [];
  kept = λ z h i. kept_none w (count - 0) z (omega arith) (omega arith);
  lines = let e : count - 0 ≡ payload_at s 0 = omega arith in rw (e, ha);
}

items_step : (s : List ℕ) (n at : ℕ) → 0 < n → items_at s (line_at s) (behind_line s) n at ≡ line_at s at ∷ items_at s (line_at s) (behind_line s) (n - 1) (behind_line s at)
unfolding items_at
items_step s zero at h = absurd (omega arith)
items_step s (suc n) at h = rw sub-one

lines_more : (t : List ℕ) (l : ProgramLine) (ls : List ProgramLine) (c : RulesLines Mem) → compile_lines (mem_r t) t (l ∷ ls) c ≡ compile_lines (mem_r t) t ls (compile_line (mem_r t) t l c)
unfolding compile_lines
lines_more t l ls c = refl

pub going_on : (s t : List ℕ) (count line : ℕ) (c d : Lines) (m₀ m m' : Mem) (w₀ w w' : List ℕ) → line < count → CompiledLine s t line c d m m' w w' → length w' ≡ length w
    → Going s t count line c m₀ m w₀ w → Going s t count (line + 1) d m₀ m' w₀ w'
going_on s t count line c d m₀ m m' w₀ w w' h x same g =
    let left : count - (line + 1) ≡ count - line - 1 = omega arith in
    record {
      marks = marked (line_at s c.at).label ((mem_r t).count m) ((mem_r t).first_datum m') g.marks;
      kept = λ z i j. rw (left, x.count) (kept_line (is_absent s (next s c.at)) (target_at s) (next s c.at) w c.marks (count - line) g.marks
          ((mem_r t).count m) ((mem_r t).first_datum m') w' (omega arith) (omega arith) (g.kept z i j) same x.words);
      lines = rw (left, x.place, x.lines g.marks) (inv (lines_more t (line_at s c.at) (items_at s (line_at s) (behind_line s) (count - line - 1) (behind_line s c.at)) (lines_of c line m g.marks))
          ∙ ap (λ (z : List ProgramLine). compile_lines (mem_r t) t z (lines_of c line m g.marks)) (inv (items_step s (count - line) c.at (omega arith))) ∙ g.lines);
    }

lines_none : (s t : List ℕ) (n at : ℕ) (c : RulesLines Mem) → n ≡ 0 → c ≡ compile_lines (mem_r t) t (items_at s (line_at s) (behind_line s) n at) c
unfolding compile_lines items_at
lines_none s t n at c e = rw e

pub going_done : (s t : List ℕ) (count line : ℕ) (c : Lines) (m₀ m : Mem) (w₀ w : List ℕ) → count ≤ line → Going s t count line c m₀ m w₀ w → Programmed s t m₀ m w₀ w c.marks
going_done s t count line c m₀ m w₀ w h g =
    let e : lines_of c line m g.marks ≡ compile_lines (mem_r t) t (program_at s) (first_line (mem_r t) t m₀) = lines_none s t (count - line) c.at (lines_of c line m g.marks) (omega arith) ∙ g.lines in
    record {
      state = ap (λ (z : RulesLines Mem). z.state) e;
      marks = λ z i j. rw (← ap (λ (z : RulesLines Mem). z.marks) e) (g.kept z i j).marks;
    }
