-- Two texts that agree where compiling reads them: in a name every unit, of a text or a quoted datum the last unit, in a number every
-- unit, which LOAD reads and nothing else. The line begins at `base`, and places are the rules' (`text_place`).
use Rattle.std.specs.Prelude.{◌≡◌, List, [], ◌∷◌, ℕ, ◌+◌, ◌-◌, ◌<◌, ◌≤◌, ltb, length, get_or}
use Rattle.recorder.specs.declared.word.Range.{Range}
use Rattle.recorder.specs.Ideal.{Entry, name_kind, Ideal}
use Rattle.sheet.specs.declared.form.Line.{Line}
use Rattle.sheet.specs.Tree.{Stmts, ProgramLine}
use Rattle.rules.specs.Name.{text_place}
use Rattle.rules.specs.Missing.{All}
use Rattle.items.specs.Items.{Facts, ItemsStmts, Items}

-- a unit, in both texts or in neither; the n units from a place on
abbrev pub SameUnit : List ℕ → List ℕ → ℕ → Type 0
SameUnit t u p = (get_or t p 0 ≡ get_or u p 0) × (ltb p (length t) ≡ ltb p (length u))

abbrev pub SameUnits : List ℕ → List ℕ → ℕ → ℕ → Type 0
SameUnits t u at n = (k : ℕ) → k < n → SameUnit t u (at + k)

-- the last unit of a range
abbrev pub SameLast : List ℕ → List ℕ → ℕ → Range → Type 0
SameLast t u base r = get_or t (text_place base r.end - 1) 0 ≡ get_or u (text_place base r.end - 1) 0

-- the units of a range
abbrev pub SameRange : List ℕ → List ℕ → ℕ → Range → Type 0
SameRange t u base r = SameUnits t u (text_place base r.start) (r.end - r.start)

-- a name's units; the last tells its kind
pub record SameName (t u : List ℕ) (base : ℕ) (r : Range) : Type 0 where
  pub units : SameRange t u base r
  pub last : SameLast t u base r

-- a text's last unit, which may be a quote, if it has more units than one
abbrev pub SameText : List ℕ → List ℕ → ℕ → Range → Type 0
SameText t u base r = r.start + 1 < r.end → SameLast t u base r

-- what two texts have to share of each item of a tree
abbrev pub shared : List ℕ → List ℕ → ℕ → Facts
shared t u base = record {
  range = λ r. Unit {0};
  name = λ r. SameName t u base r;
  text = λ r. SameText t u base r;
  datum = λ r q. q ≡ 1 → SameText t u base r;
  number = λ r e m. SameRange t u base r;
  label = λ l. Unit {0};
}

-- texts that agree where statements, or lines, the first of which the rules take to begin at b, are read
abbrev pub AgreeStmts : List ℕ → List ℕ → ℕ → Stmts → Type 0
AgreeStmts t u base xs = ItemsStmts (shared t u base) xs

unfoldable pub AgreeLines : List ℕ → List ℕ → ℕ → List ProgramLine → Type 0
AgreeLines t u b [] = Unit {0}
AgreeLines t u b (l ∷ ls) = AgreeStmts t u b l.stmts × AgreeLines t u (text_place b l.length) ls

-- a name of the book stands where the texts agree, and so do all of a book
abbrev pub NameKept : List ℕ → List ℕ → Entry → Type 0
NameKept t u e = e.kind ≡ name_kind → SameUnits t u e.start e.length

abbrev pub NamesKept : List ℕ → List ℕ → Ideal → Type 0
NamesKept t u i = All (NameKept t u) i.entries

-- Plainly said, of a sheet in form: the units of a range, by plain sums
abbrev pub SamePlaces : List ℕ → List ℕ → ℕ → Range → Type 0
SamePlaces t u b r = (p : ℕ) → b + r.start ≤ p → p < b + r.end → get_or t p 0 ≡ get_or u p 0

abbrev pub plainly : List ℕ → List ℕ → Line → Facts
plainly t u line = record {
  range = λ r. Unit {0};
  name = SamePlaces t u line.base;
  text = SamePlaces t u line.base;
  datum = λ r q. SamePlaces t u line.base r;
  number = λ r e m. SamePlaces t u line.base r;
  label = λ l. Unit {0};
}

-- texts that differ, in a program, only at places that no name, string, prompt, datum or number has
abbrev pub DifferElsewhere : List ℕ → List ℕ → List ProgramLine → Type 0
DifferElsewhere t u ls = Items (plainly t u) 0 ls

-- where lines end of which the first begins at b
unfoldable pub lines_end : ℕ → List ProgramLine → ℕ
lines_end b [] = b
lines_end b (l ∷ ls) = lines_end (b + l.length) ls
