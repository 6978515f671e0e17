-- The piles of a whole program: its lines, and closed up.
use Rattle.std.proofs.Common.{◌≡◌, ℕ, suc, ◌+◌, ◌/◌, ◌<◌, ◌≤◌, Bool, true, false, eqb, ltb, List, [], ◌∷◌, ◌++◌, length, get_or, sym, refl, ap, ◌∙◌, append-nil, arith, length-append, ltb-false, eqb-true}
use Rattle.recorder.specs.Word.{pick}
use Rattle.recorder.specs.Recorder.{Recorder}
use Rattle.recorder.specs.Ideal.{Rec, no_rec, Entry, how_many, Ideal, ideal}
use Rattle.recorder.specs.Marks.{Mark, mark}
use Rattle.recorder.specs.Closing.{rules_r, clean_up, close_whiles, open_notes, delays, end_rec, is_wend}
use Rattle.recorder.proofs.Bools.{both_left}
use Rattle.simulation.proofs.Clean.{close_length, delays_length}
use Rattle.sheet.specs.Check.{Checked}
use Rattle.sheet.specs.Check.{Accepted}
use Rattle.std.specs.Prelude.{Ok, Err}
use Rattle.sheet.proofs.Numbers.{refusal_some}
use Rattle.sheet.specs.Check.{checked}
use Rattle.sheet.specs.Tree.{Opt, absent, given, Target, ProgramLine, program_at}
use Rattle.rules.specs.Stmt.{compile_stmts}
use Rattle.rules.specs.Program.{jumps, restores, Lines, marked, label_note, line_begun, compile_line, compile_lines, first_line, resolve_labels, resolve_datum_indices, close_up}
use Rattle.recorder.specs.Layout.{most_records}
use Rattle.rules.specs.Outcome.{Lengths, refused, accepted, sized, outcome_by, outcome, compiled, finished}
use Rattle.rules.specs.Missing.{All, Whole, WholeStmts}
use Rattle.rules.specs.Piles.{Pile}
use Rattle.rules.specs.Each.{each_stmts, each_lines}
use Rattle.rules.specs.Demand.{NoError, around, statement_addrs, ExactlyOne}
use Rattle.rules.proofs.PileLaws.{all_left, all_right, all_append, pile_in}
use Rattle.rules.proofs.Grown.{Prefix, Code, seq, stay, fails, with_ok, Warning, same}
use Rattle.rules.proofs.ExprPiles.{Few}
use Rattle.rules.proofs.Blocks.{Empty, Body, Good, good_nil, first_empty}
use Rattle.rules.proofs.BlockPiles.{FormedStmts, then_of, stmts_code}
use Rattle.rules.proofs.Traces.{Fixed, Trace, Zip, Alike, flow_trace, trace_empty, zip_trace, zip_pile, zip_ahead, zip_call}
use Rattle.rules.proofs.ClosingPiles.{each, settle_to, Settles, Pass, Targeted, Full, pass_waiting, label_zip, restore_zip, while_zip}
use Rattle.rules.proofs.DelayPiles.{Sound, delays_sound}
use Rattle.rules.proofs.Assign.{finished_piles}

-- what the form of the sheet says of a program
abbrev pub Formed : List ProgramLine → Type 0
Formed ls = All (λ (l : ProgramLine). FormedStmts l.stmts) ls

module _ (t : List ℕ) where
  abbrev R : Recorder Ideal
  R = rules_r t

  -- where lines begin, and where their statements begin and end
  abbrev all_addrs : List ProgramLine → Lines Ideal → List ℕ
  all_addrs [] c = []
  all_addrs (l ∷ ls) c = (length c.state.records ∷ each_stmts t (around t) c.base l.stmts (line_begun R t c l)) ++ all_addrs ls (compile_line R t l c)

  addrs_of : (X : ℕ → Type 0) (ls : List ProgramLine) (c : Lines Ideal) → All X (all_addrs ls c) → All X (each_lines t (around t) ls c)
  unfolding each_lines
  addrs_of X [] c a = tt
  addrs_of X (l ∷ ls) c a =
      let ms = each_stmts t (around t) c.base l.stmts (line_begun R t c l) in
      all_append X ms (each_lines t (around t) ls (compile_line R t l c)) (all_left X ms (all_addrs ls (compile_line R t l c)) a.1) (addrs_of X ls (compile_line R t l c) (all_right X ms (all_addrs ls (compile_line R t l c)) a.1))

  marks_of : (X : ℕ → Type 0) (ls : List ProgramLine) (c : Lines Ideal) → All X (all_addrs ls c) → All (λ (m : Mark). X m.addr) c.marks → All (λ (m : Mark). X m.addr) (compile_lines R t ls c).marks
  unfolding compile_lines compile_line
  marks_of X [] c a m = m
  marks_of X (l ∷ ls) c a m =
      let ms = each_stmts t (around t) c.base l.stmts (line_begun R t c l) in
      marks_of X ls (compile_line R t l c) (all_right X ms (all_addrs ls (compile_line R t l c)) a.1) (go l.label)
    where
      go : (o : Opt Target) → All (λ (m : Mark). X m.addr) (marked o (length c.state.records) (R.first_datum (compile_stmts R t c.base l.stmts (line_begun R t c l))) c.marks)
      go absent = m
      go (given x) = all_append (λ (m : Mark). X m.addr) c.marks (mark x.label (length c.state.records) (R.first_datum (compile_stmts R t c.base l.stmts (line_begun R t c l))) ∷ []) m (a.0, tt)

  module _ (E : List Entry) (few : Few E) where
    note_code : (base last : ℕ) (o : Opt Target) (i : Ideal) → Code E 0 i (label_note R t base last o i) (Unit {0}) (λ xs. xs ≡ [])
    note_code base last absent i = stay E i (Unit {0}) _ (λ w. refl)
    note_code base last (given x) i = go (ltb x.label last)
      where
        go : (b : Bool) → Code E 0 i (pick b (R.note i 1 x.range 1) i) (Unit {0}) (λ xs. xs ≡ [])
        go true = fails E i 1 i.line x.range 0 (Unit {0}) _
        go false = stay E i (Unit {0}) _ (λ w. refl)

    begun_code : (c : Lines Ideal) (l : ProgramLine) → Code E 0 c.state (line_begun R t c l) (Unit {0}) (λ xs. Good E (length c.state.records) [] xs)
    begun_code c l =
        let j = R.begin_line c.state c.line in
        seq E {d₁ = 0} {d₂ = 0} {W₁ = Unit {0}} {W₂ = Unit {0}} {A = λ xs. xs ≡ []} {B = λ xs. xs ≡ []} {C = λ xs. Good E (length c.state.records) [] xs}
        (same E c.state j (Unit {0}) (λ xs. xs ≡ []) refl refl refl (λ w. refl)) (note_code c.base c.last l.label j) (λ w. w) (λ w. w)
        (λ xs ys u v. rw (u, v) (good_nil E (length c.state.records)))

    line_code : (l : ProgramLine) (c : Lines Ideal) → Code E 0 c.state (compile_line R t l c).state (WholeStmts l.stmts × FormedStmts l.stmts)
        (λ xs. Good E (length c.state.records) (length c.state.records ∷ each_stmts t (around t) c.base l.stmts (line_begun R t c l)) xs)
    unfolding compile_line
    line_code l c =
        let b = line_begun R t c l in
        let ms = each_stmts t (around t) c.base l.stmts b in
        let B = length c.state.records in
        with_ok E {W = Unit {0} × (WholeStmts l.stmts × FormedStmts l.stmts)} {A = λ xs. Good E B ms xs} 0 (omega arith)
        (then_of E few t c.base c.state b (compile_stmts R t c.base l.stmts b) [] ms (begun_code c l) (stmts_code E few t c.base l.stmts b))
        (λ w. (tt, w)) (λ w xs u. record { flow = u.flow; addrs = (first_empty E B xs, u.addrs); ahead = u.ahead })

    pub lines_code : (ls : List ProgramLine) (c : Lines Ideal) → Code E 0 c.state (compile_lines R t ls c).state (Whole ls × Formed ls) (λ xs. Good E (length c.state.records) (all_addrs ls c) xs)
    unfolding compile_lines
    lines_code [] c = stay E c.state (Unit {0} × Unit {0}) _ (λ w. good_nil E (length c.state.records))
    lines_code (l ∷ ls) c =
        let d = compile_line R t l c in
        with_ok E {W = (WholeStmts l.stmts × FormedStmts l.stmts) × (Whole ls × Formed ls)} {A = λ xs. Good E (length c.state.records) (all_addrs (l ∷ ls) c) xs} 0 (omega arith)
        (then_of E few t c.base c.state d.state (compile_lines R t ls d).state (length c.state.records ∷ each_stmts t (around t) c.base l.stmts (line_begun R t c l)) (all_addrs ls d) (line_code l c) (lines_code ls d))
        (λ w. ((w.0.0, w.1.0), (w.0.1, w.1.1))) (λ w xs u. u)

-- closing up keeps the number of records, but for End
each_length : (f : Rec → Rec) (rs : List Rec) → length (each f rs) ≡ length rs
each_length f [] = refl
each_length f (r ∷ rs) = ap suc (each_length f rs)

module _ (t : List ℕ) (c : Lines Ideal) where
  abbrev C : List Rec
  C = c.state.records

  abbrev u : Ideal
  u = resolve_labels (rules_r t) c.marks 0 (length C) c.state

  abbrev v : Ideal
  v = resolve_datum_indices (rules_r t) c.marks 0 (length u.records) u

  pub first_pass : Pass c.state u (each (settle_to jumps c.marks) C) (All (Settles jumps c.marks) C)
  first_pass = pass_waiting t jumps c.marks [] C 0 c.state refl refl

  second_pass : Pass u v (each (settle_to restores c.marks) u.records) (All (Settles restores c.marks) u.records)
  second_pass = pass_waiting t restores c.marks [] u.records 0 u refl refl

  -- the finished list, by its passes
  pub v_records : v.records ≡ each (settle_to restores c.marks) (each (settle_to jumps c.marks) C)
  v_records = second_pass.records ∙ ap (λ (z : List Rec). each (settle_to restores c.marks) z) first_pass.records

  v_length : length v.records ≡ length C
  v_length = ap length v_records ∙ each_length (settle_to restores c.marks) (each (settle_to jumps c.marks) C) ∙ each_length (settle_to jumps c.marks) C

  pub closed_length : length (close_up (rules_r t) c).records ≡ length C + 1
  unfolding close_up clean_up
  closed_length = length-append (delays (length v.records) 0 (close_whiles v.records 0)) (end_rec v.line ∷ []) ∙ rw (delays_length (length v.records) 0 (close_whiles v.records 0), close_length v.records 0, v_length) refl

  pub closed_entries : (close_up (rules_r t) c).entries ≡ c.state.entries
  unfolding close_up clean_up
  closed_entries = second_pass.entries ∙ first_pass.entries

  -- if no error was noted ...
  pub closed_notes : NoError (close_up (rules_r t) c).notes
      → NoError c.state.notes × NoError first_pass.fresh × NoError (open_notes v.records)
  unfolding close_up clean_up
  closed_notes n =
      let a = all_left Warning v.notes (open_notes v.records) n in
      let b = all_right Warning v.notes (open_notes v.records) n in
      let d = all_left Warning u.notes second_pass.fresh (rw second_pass.notes at a) in
      let e : NoError (c.state.notes ++ first_pass.fresh) = rw first_pass.notes at d in
      (all_left Warning c.state.notes first_pass.fresh e, all_right Warning c.state.notes first_pass.fresh e, b)

  -- ... good lines make a sound list
  pub closed_sound : (E : List Entry) (ms : List ℕ) → Good E 0 ms C → All (λ (m : Mark). Empty E 0 C m.addr) c.marks → NoError first_pass.fresh → NoError (open_notes v.records)
      → Sound E (Empty E 0 C) (Body E 0 C) (delays (length v.records) 0 (close_whiles v.records 0))
  closed_sound E ms g marks n₁ n₂ =
      delays_sound E X Y (length v.records) 0 W (omega (arith, close_length v.records 0)) (record {
        trace = zip_trace z₃ tr₂;
        empties = λ T e. record { at = e.at; place = e.place; within = omega (arith, e.within, long); pile = pile_same [] e.at ∙ e.pile };
        bodies = λ T e. record { at = e.at; place = e.place; within = omega (arith, e.within, long); closes = call_same e.at ∙ e.closes; pile = pile_same [] e.at ∙ e.pile };
        ahead = zip_ahead 0 z₃ (zip_ahead 0 z₂ (zip_ahead 0 z₁ g.ahead));
      })
    where
      X : ℕ → Type 0
      X = Empty E 0 C

      Y : ℕ → Type 0
      Y = Body E 0 C

      W : List Rec
      W = close_whiles v.records 0

      z₁ : Zip (Alike E (Fixed X Y) (Targeted X Y)) C (each (settle_to jumps c.marks) C)
      z₁ = label_zip E X Y c.marks C marks (first_pass.ok n₁)

      z₂ : Zip (Alike E (Targeted X Y) (Targeted X Y)) (each (settle_to jumps c.marks) C) v.records
      z₂ = rw v_records (restore_zip E X Y c.marks (each (settle_to jumps c.marks) C))

      tr₂ : Trace E (Targeted X Y) v.records [] []
      tr₂ = zip_trace z₂ (zip_trace z₁ (flow_trace g.flow))

      wends : (n : ℕ) → n < length v.records → is_wend (get_or v.records n no_rec) ≡ true → X (suc n)
      wends n h e =
          let k : (get_or v.records n no_rec).call ≡ 2 = eqb-true (get_or v.records n no_rec).call 2 (both_left (eqb (get_or v.records n no_rec).call 2) (eqb (get_or v.records n no_rec).a 62) e) in
          let q : pile_in E v.records [] (suc n) ≡ given [] = trace_empty tr₂ n h (rw k refl) in
          record { at = suc n; place = omega arith; within = omega (arith, h, v_length); pile = sym (zip_pile z₁ [] (suc n)) ∙ sym (zip_pile z₂ [] (suc n)) ∙ q }

      z₃ : Zip (Alike E (Targeted X Y) (Full X Y)) v.records W
      z₃ = while_zip E X Y v.records n₂ wends

      long : length W ≡ length C
      long = close_length v.records 0 ∙ v_length

      pile_same : (P : Pile) (k : ℕ) → pile_in E W P k ≡ pile_in E C P k
      pile_same P k = zip_pile z₃ P k ∙ zip_pile z₂ P k ∙ zip_pile z₁ P k

      call_same : (k : ℕ) → (get_or W k no_rec).call ≡ (get_or C k no_rec).call
      call_same k = zip_call z₃ k ∙ zip_call z₂ k ∙ zip_call z₁ k

  pub closed_piles : (E : List Entry) (ms addrs : List ℕ) → Good E 0 ms C → All (λ (m : Mark). Empty E 0 C m.addr) c.marks → NoError first_pass.fresh → NoError (open_notes v.records)
      → All (Empty E 0 C) addrs → ExactlyOne addrs E (close_up (rules_r t) c).records
  unfolding close_up clean_up
  closed_piles E ms addrs g marks n₁ n₂ a =
      finished_piles E (Empty E 0 C) (Body E 0 C) (delays (length v.records) 0 (close_whiles v.records 0)) v.line addrs (closed_sound E ms g marks n₁ n₂) a

-- what an accepted input is
accepted_by : (k : Checked) (s t : List ℕ) (L : Lengths) → (outcome_by k s t L).answer.refusal ≡ 0 → (k ≡ Accepted) × (length (finished s t).records ≤ 65535)
unfolding sized
accepted_by (Ok u) s t L e = (refl, go (ltb (most_records L.list) (length (finished s t).records)) refl e)
  where
    go : (b : Bool) → ltb (most_records L.list) (length (finished s t).records) ≡ b
        → (pick b (refused 9 0 L)
        (pick (ltb (L.notes / 4) (length (finished s t).notes)) (refused 10 0 L)
        (pick (ltb (L.book / 4) (length (finished s t).entries)) (refused 11 0 L) (accepted (finished s t) L)))).answer.refusal ≡ 0
        → length (finished s t).records ≤ 65535
    go true q h = absurd (omega (arith, h))
    go false q h = let l = ltb-false (most_records L.list) (length (finished s t).records) q in omega (arith, l)
accepted_by (Err r) s t L e = absurd (omega (arith, e, refusal_some r))

pub accepted_is : (s t : List ℕ) (L : Lengths) → (outcome s t L).answer.refusal ≡ 0 → (checked s t L.work ≡ Accepted) × (length (finished s t).records ≤ 65535)
unfolding outcome
accepted_is s t L e = accepted_by (checked s t L.work) s t L e

-- no name at all: what is made of names does not depend on the book that they are looked up in
pub few_none : Few []
unfolding how_many
few_none = record { numbered = tt; most = omega arith }

pub few_names : (s t : List ℕ) → Whole (program_at s) → Formed (program_at s) → NoError (compiled s t).state.notes → length (compiled s t).state.records ≤ 65535 → Few (compiled s t).state.entries
unfolding compiled how_many
few_names s t w f n l =
    let c = first_line (rules_r t) t (ideal [] [] [] 0 0) in
    let k = lines_code t [] few_none (program_at s) c in
    let m = k.names (w, f) (rw k.notes at n) in
    record {
      numbered = rw k.entries k.numbered;
      most = rw k.entries (omega (arith, m, l, ap length k.records));
    }

-- the third demand, of a sheet in form
pub formed_piles : (s t : List ℕ) → length (finished s t).records ≤ 65535 → Whole (program_at s) → Formed (program_at s) → NoError (finished s t).notes
    → ExactlyOne (statement_addrs s t) (finished s t).entries (finished s t).records
unfolding finished compiled
formed_piles s t l w f n =
    let c₀ = first_line (rules_r t) t (ideal [] [] [] 0 0) in
    let c = compile_lines (rules_r t) t (program_at s) c₀ in
    let E = c.state.entries in
    let X = Empty E 0 c.state.records in
    let ns = closed_notes t c n in
    let few : Few E = few_names s t w f ns.0 (omega (arith, l, closed_length t c)) in
    let k = lines_code t E few (program_at s) c₀ in
    let e : c.state.records ≡ k.code = k.records in
    let p : Prefix E E = record { rest = []; whole = sym (append-nil E) } in
    let g : Good E 0 (all_addrs t (program_at s) c₀) c.state.records = rw e (k.ok (w, f) (rw k.notes at ns.0) p) in
    let marks : All (λ (m : Mark). X m.addr) c.marks = marks_of t X (program_at s) c₀ g.addrs tt in
    let addrs : All X (statement_addrs s t) = addrs_of t X (program_at s) c₀ g.addrs in
    rw (closed_entries t c) (closed_piles t c E (all_addrs t (program_at s) c₀) (statement_addrs s t) g marks ns.1 ns.2 addrs)
