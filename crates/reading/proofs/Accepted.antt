-- On an accepted sheet the units that are read are those of the ranges, by plain sums.
use Rattle.std.proofs.Common.{◌≡◌, ℕ, ◌+◌, ◌-◌, ◌<◌, ◌≤◌, true, ltb, List, [], ◌∷◌, length, sym, ◌∙◌, arith, ltb-true}
use Rattle.recorder.specs.declared.word.Range.{Range}
use Rattle.recorder.proofs.Bools.{both_left}
use Rattle.sheet.specs.declared.form.Line.{Line}
use Rattle.sheet.specs.Form.{is_name}
use Rattle.sheet.specs.Tree.{ProgramLine, program_at}
use Rattle.sheet.specs.Check.{checked, Accepted}
use Rattle.rules.specs.Name.{text_place}
use Rattle.rules.specs.Outcome.{Lengths, finished, outcome}
use Rattle.bounds.specs.Uncut.{UncutLines}
use Rattle.bounds.proofs.Uncut.{text_short, starts_uncut}
use Rattle.items.specs.Items.{Items}
use Rattle.items.specs.Standing.{RangeStands, Standing}
use Rattle.items.proofs.Standing.{items_stand}
use Rattle.items.specs.Carries.{Together}
use Rattle.items.proofs.Together.{items_together}
use Rattle.reading.specs.Agreement.{SamePlaces, SameRange, SameLast, shared, plainly, DifferElsewhere, AgreeLines}
use Rattle.reading.proofs.Units.{inside_units}
use Rattle.reading.proofs.Agreed.{finished_agreed, outcome_agreed}

-- a name has a unit
name_unit : (t : List ℕ) (at n : ℕ) → is_name t at n ≡ true → 0 < n
unfolding is_name
name_unit t at n e = ltb-true 0 n (both_left (ltb 0 n) _ e)

module _ (s t u : List ℕ) (short : length t ≤ 65536) (line : Line) where
  range_shared : (r : Range) → RangeStands s t line r → line.base + r.end ≤ length u → SamePlaces t u line.base r → SameRange t u line.base r
  range_shared r h n g =
      let i = h.in_text in
      let j = h.rises in
      let at = line.base + r.start in
      let e : text_place line.base r.start ≡ at = omega arith in
      rw e (inside_units t u at (r.end - r.start) (omega arith) (omega arith) (λ k l. g (at + k) (omega arith) (omega arith)))

  last_shared : (r : Range) → RangeStands s t line r → r.start < r.end → SamePlaces t u line.base r → SameLast t u line.base r
  last_shared r h x g =
      let i = h.in_text in
      let e : text_place line.base r.end ≡ line.base + r.end = omega arith in
      rw e (g (line.base + r.end - 1) (omega arith) (omega arith))

  -- what is plainly said suffices, where it reaches as far as the ranges
  pub all_shared : ((r : Range) → RangeStands s t line r → line.base + r.end ≤ length u) → Together (Standing s t line) (plainly t u line) (shared t u line.base)
  all_shared n = record {
    range = λ r h g. tt;
    name = λ r h g. record {
      units = range_shared r h.range (n r h.range) g;
      last = last_shared r h.range (let i = name_unit _ _ _ h.well_formed in omega arith) g;
    };
    text = λ r h g x. last_shared r h.range h.unit g;
    datum = λ r q h g e x. last_shared r h.range (h.unit e) g;
    number = λ r e m h g. range_shared r h.range (n r h.range) g;
    label = λ l h g. tt;
  }

-- the lines begin where the rules take them to begin
lines_shared : (t u : List ℕ) (b : ℕ) (ls : List ProgramLine) → UncutLines t b ls → Items (λ line. shared t u line.base) b ls → AgreeLines t u b ls
unfolding AgreeLines
lines_shared t u b [] h x = tt
lines_shared t u b (l ∷ ls) h x =
    let k = h.0.short in
    let e : text_place b l.length ≡ b + l.length = h.0.exact l.length (omega arith) in
    (x.0.1, rw e (lines_shared t u (b + l.length) ls h.1 x.1))

-- THEOREM: texts that differ only at places that no name, string, prompt, datum or number of an accepted sheet has agree where they are read
pub accepted_shared : (s t u : List ℕ) (work : ℕ) → checked s t work ≡ Accepted → length t ≤ length u
    → DifferElsewhere t u (program_at s) → AgreeLines t u 0 (program_at s)
accepted_shared s t u work e n h =
    let j = λ (line : Line). all_shared s t u (text_short s t work e) line (λ r k. omega (arith, k.in_text)) in
    lines_shared t u 0 (program_at s) (starts_uncut s t work e)
    (items_together (Standing s t) (plainly t u) (λ line. shared t u line.base) j 0 (program_at s) (items_stand s t work e) h)

-- THEOREM: so, where the second text is no shorter, the sheet is compiled to the same list, notes and book with both
pub finished_elsewhere : (s t u : List ℕ) (work : ℕ) → checked s t work ≡ Accepted → length t ≤ length u
    → DifferElsewhere t u (program_at s) → finished s t ≡ finished s u
finished_elsewhere s t u work e n h = finished_agreed t u s (accepted_shared s t u work e n h)

-- THEOREM: and where the form accepts the sheet with both texts, answer and buffers are the same
pub outcome_elsewhere : (s t u : List ℕ) (L : Lengths) → checked s t L.work ≡ Accepted → checked s u L.work ≡ Accepted → length t ≤ length u
    → DifferElsewhere t u (program_at s) → outcome s t L ≡ outcome s u L
outcome_elsewhere s t u L e f n h = outcome_agreed t u s L (e ∙ sym f) (accepted_shared s t u L.work e n h)
