-- Lines in front of the place from which two texts differ are compiled the same with both.
use Rattle.std.proofs.Common.{◌≡◌, ℕ, ◌+◌, ◌<◌, ◌≤◌, List, [], ◌∷◌, ◌++◌, length, get_or, arith}
use Rattle.recorder.specs.Ideal.{ideal}
use Rattle.recorder.specs.Closing.{rules_r}
use Rattle.sheet.specs.declared.form.Line.{Line}
use Rattle.sheet.specs.Tree.{ProgramLine, program_at}
use Rattle.sheet.specs.Check.{checked, Accepted}
use Rattle.rules.specs.Name.{text_place}
use Rattle.rules.specs.Program.{first_line, compile_lines}
use Rattle.bounds.specs.Uncut.{UncutLines}
use Rattle.bounds.proofs.Uncut.{text_short, starts_uncut}
use Rattle.items.specs.Items.{Items}
use Rattle.items.specs.Standing.{Standing}
use Rattle.items.proofs.Standing.{items_stand}
use Rattle.items.specs.Carries.{Together}
use Rattle.items.proofs.Together.{stmts_together}
use Rattle.reading.specs.Agreement.{plainly, shared, AgreeLines, lines_end}
use Rattle.reading.proofs.Accepted.{all_shared}
use Rattle.reading.proofs.Agreed.{rules_agreed}

module _ (s t u : List ℕ) (short : length t ≤ 65536) (end : ℕ) (reach : end ≤ length u) (same : (p : ℕ) → p < end → get_or t p 0 ≡ get_or u p 0) where
  plainly_before : (line : Line) → line.base + line.len ≤ end → Together (Standing s t line) (Standing s t line) (plainly t u line)
  plainly_before line n = record {
    range = λ r h g. tt;
    name = λ r h g p a b. same p (omega (arith, h.range.within));
    text = λ r h g p a b. same p (omega (arith, h.range.within));
    datum = λ r q h g p a b. same p (omega (arith, h.range.within));
    number = λ r e m h g p a b. same p (omega (arith, h.range.within));
    label = λ l h g. tt;
  }

  end_behind : (b : ℕ) (ls : List ProgramLine) → b ≤ lines_end b ls
  unfolding lines_end
  end_behind b [] = omega arith
  end_behind b (l ∷ ls) = omega (arith, end_behind (b + l.length) ls)

  -- the first lines of a program
  lines_before : (b : ℕ) (ls ms : List ProgramLine) → lines_end b ls ≤ end → UncutLines t b (ls ++ ms) → Items (Standing s t) b (ls ++ ms) → AgreeLines t u b ls
  unfolding AgreeLines lines_end
  lines_before b [] ms n h x = tt
  lines_before b (l ∷ ls) ms n h x =
      let k = h.0.short in
      let e : text_place b l.length ≡ b + l.length = h.0.exact l.length (omega arith) in
      let line : Line = record { base = b; len = l.length } in
      let before : b + l.length ≤ end = omega (arith, end_behind (b + l.length) ls, n) in
      let g = stmts_together (Standing s t line) (Standing s t line) (plainly t u line) (plainly_before line before) l.stmts x.0.1 x.0.1 in
      let j = all_shared s t u short line (λ r m. omega (arith, m.within)) in
      (stmts_together (Standing s t line) (plainly t u line) (shared t u b) j l.stmts x.0.1 g, rw e (lines_before (b + l.length) ls ms n h.1 x.1))

-- THEOREM: the first lines of an accepted sheet are compiled the same with any text that agrees with the sheet's up to where they end
pub first_lines_agreed : (s t u : List ℕ) (work : ℕ) (ls ms : List ProgramLine) → checked s t work ≡ Accepted → program_at s ≡ ls ++ ms
    → lines_end 0 ls ≤ length u → ((p : ℕ) → p < lines_end 0 ls → get_or t p 0 ≡ get_or u p 0)
    → compile_lines (rules_r t) t ls (first_line (rules_r t) t (ideal [] [] [] 0 0)) ≡ compile_lines (rules_r u) u ls (first_line (rules_r u) u (ideal [] [] [] 0 0))
first_lines_agreed s t u work ls ms a e n h =
    let x = rw e at (starts_uncut s t work a) in
    let y = rw e at (items_stand s t work a) in
    let k = lines_before s t u (text_short s t work a) (lines_end 0 ls) n h 0 ls ms (omega arith) x y in
    (rules_agreed t u ls (first_line (rules_r u) u (ideal [] [] [] 0 0)) tt k).0
