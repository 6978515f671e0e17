-- Compiling lines reads the texts where the items of their statements stand; closing up reads no text.
use Rattle.std.proofs.Common.{◌≡◌, ℕ, zero, suc, ◌+◌, ◌-◌, ltb, List, [], ◌∷◌, length, refl}
use Rattle.recorder.specs.Recorder.{Recorder, Look}
use Rattle.recorder.specs.Ideal.{Ideal, Search, missing, found}
use Rattle.recorder.specs.Marks.{Mark}
use Rattle.recorder.specs.Closing.{rules_r}
use Rattle.sheet.specs.Tree.{Opt, absent, given, Target, ProgramLine}
use Rattle.rules.specs.Program.{Lines, Waiting, label_note, line_begun, line_done, compile_line, compile_lines, settle_by, settle_waiting, resolve, resolve_labels, close_up}
use Rattle.reading.specs.Agreement.{AgreeStmts, AgreeLines}
use Rattle.reading.proofs.Reading.{Same, Alike}
use Rattle.reading.proofs.Exprs.{pick_same, noted}
use Rattle.reading.proofs.Stmts.{same_stmts}

module _ {S : Type 0} {R Q : Recorder S} {t u : List ℕ} {I : S → Type 0} (κ : Alike R Q t u I) where
  abbrev pub SameLines : Lines S → Lines S → Type 0
  SameLines a b = Same (λ (c : Lines S). I c.state) a b

  same_label : {s v : S} (base last : ℕ) (l : Opt Target) → Same I s v → Same I (label_note R t base last l s) (label_note Q u base last l v)
  same_label base last absent g = g
  same_label base last (given l) g = pick_same (ltb l.label last) (noted κ g) g

  same_begun : (l : ProgramLine) (c : Lines S) → I c.state → Same I (line_begun R t c l) (line_begun Q u c l)
  same_begun l c i = same_label c.base c.last l.label (κ.begin_line i)

  same_done : {s v : S} (l : ProgramLine) (c : Lines S) → I c.state → Same I s v → SameLines (line_done R t c l s) (line_done Q u c l v)
  same_done l c i g = record { is = rw (g.is, κ.count i, κ.first_datum g.keeps) refl; keeps = g.keeps }

  pub same_line : (l : ProgramLine) (c : Lines S) → AgreeStmts t u c.base l.stmts → I c.state → SameLines (compile_line R t l c) (compile_line Q u l c)
  unfolding compile_line
  same_line l c h i = same_done l c i (same_stmts κ c.base l.stmts h (same_begun l c i))

  pub same_lines : (ls : List ProgramLine) (c : Lines S) → AgreeLines t u c.base ls → I c.state → SameLines (compile_lines R t ls c) (compile_lines Q u ls c)
  unfolding compile_lines compile_line AgreeLines
  same_lines [] c h i = record { is = refl; keeps = i }
  same_lines (l ∷ ls) c h i = let y = same_line l c h.0 i in rw y.is (same_lines ls (compile_line Q u l c) h.1 y.keeps)

-- closing up with the rules' recorders
module _ (t u : List ℕ) where
  settle_same : (w : Waiting) (o : Search) (k : ℕ) (q : Look) (i : Ideal) → settle_by (rules_r t) w o k q i ≡ settle_by (rules_r u) w o k q i
  settle_same w (found v) k q i = refl
  settle_same w missing k q i = refl

  resolve_same : (w : Waiting) (ms : List Mark) (k n : ℕ) (i : Ideal) → resolve (rules_r t) w ms k n i ≡ resolve (rules_r u) w ms k n i
  unfolding resolve
  resolve_same w ms k zero i = refl
  resolve_same w ms k (suc n) i =
      let q = (rules_r u).look i k in
      rw (settle_same w (w.find ms (q.b - 1)) k q i) (resolve_same w ms (k + 1) n (settle_waiting (rules_r u) w ms k q i))

  pub close_same : (c : Lines Ideal) → close_up (rules_r t) c ≡ close_up (rules_r u) c
  unfolding close_up
  close_same c =
      let x = resolve_labels (rules_r u) c.marks 0 (length c.state.records) c.state in
      rw (resolve_same _ c.marks 0 (length c.state.records) c.state, resolve_same _ c.marks 0 (length x.records) x) refl
