-- Compiling keeps a simulation, for any two recorders: lines, and closing up where all records fit.
use Rattle.std.proofs.Common.{◌≡◌, ℕ, zero, suc, ◌+◌, ◌-◌, Bool, true, false, eqb, ltb, List, [], ◌∷◌, ◌++◌, refl, arith, eqb-true}
use lib.Dec.{eqb-suc-zero}
use Rattle.recorder.specs.Word.{pick}
use Rattle.recorder.specs.Recorder.{Recorder, Look}
use Rattle.recorder.specs.Ideal.{Search, missing, found}
use Rattle.recorder.specs.Marks.{Mark, or_else, addr_of, datum_from, data_of}
use Rattle.recorder.proofs.Bools.{both_false}
use Rattle.recorder.proofs.Bools.{both_right}
use Rattle.simulation.proofs.Hide.{twice}
use Rattle.simulation.proofs.Simulation.{Simulation, Looks}
use Rattle.sheet.specs.Tree.{Opt, absent, given, Stmts, Target, ProgramLine}
use Rattle.rules.specs.Stmt.{compile_stmts}
use Rattle.rules.specs.Program.{Lines, marked, Waiting, jumps, restores, is_pending, label_note, line_begun, line_done, compile_line, compile_lines, first_line, settle_by, settle_waiting, resolve, resolve_labels, resolve_datum_indices, close_up}
use Rattle.rules.proofs.Waits.{Waits, jumps_wait, restores_wait, of_waiting}
use Rattle.rules.proofs.SimExpr.{Follows, begin, start, over, noted, pick_follows, place_then}
use Rattle.rules.proofs.SimStmt.{sim_stmts}

-- two searches that find alike: both nothing, or both something
pub data Alike (P : ℕ → ℕ → Type 0) : Search → Search → Type 0 where
  no_one : Alike P missing missing
  each : {x y : ℕ} → P x y → Alike P (found x) (found y)

or_else_lem : {P : ℕ → ℕ → Type 0} {a b c d : Search} → Alike P a b → Alike P c d → Alike P (or_else a c) (or_else b d)
or_else_lem no_one h = h
or_else_lem (each p) h = each p

pick_alike : {P : ℕ → ℕ → Type 0} {a b : Search} (i : Bool) → Alike P a b → Alike P (pick i a missing) (pick i b missing)
pick_alike true h = h
pick_alike false h = no_one

same_label : {P : ℕ → ℕ → Type 0} {a b : Search} {x y : ℕ} (l : ℕ) → x ≡ y → Alike P a b → Alike P (pick (eqb x l) a missing) (pick (eqb y l) b missing)
same_label {y = y} l e h = rw e (pick_alike (eqb y l) h)

-- the number before
before : ℕ → ℕ
before zero = zero
before (suc n) = n

-- what resolution reads is the same on both sides: the calls with two numbers are not among those that wait
waiting_label : {w : Waiting} (h : Waits w) (x y : Look) → Looks x y → w.waits x.call ≡ true → x.b ≡ y.b
waiting_label h x y l e = l.b (of_waiting (λ (c : ℕ). twice c ≡ false) refl refl refl h x.call e)

pending_alike : {w : Waiting} (h : Waits w) (x y : Look) → Looks x y → is_pending w x ≡ is_pending w y
pending_alike {w} h x y l = go (w.waits x.call) refl
  where
    go : (i : Bool) → w.waits x.call ≡ i → is_pending w x ≡ is_pending w y
    go true e = rw (waiting_label h x y l e, l.call)
    go false e = rw (← l.call, e, both_false (ltb 0 x.b), both_false (ltb 0 y.b))

-- all of closing up but clean_up
abbrev pub resolved : {S : Type 0} → Recorder S → Lines S → S
resolved R c =
    let u = resolve_labels R c.marks 0 (R.count c.state) c.state in
    resolve_datum_indices R c.marks 0 (R.count u) u

module _ {S T : Type 0} {R : Recorder S} {Q : Recorder T} (σ : Simulation R Q) where
  -- labelled lines: the same labels, related addresses, related first data, and in both or in neither there is one
  pub record MarkFollows (u : T) (a b : Mark) : Type 0 where
    pub label : a.label ≡ b.label
    pub addr : σ.Place u a.addr b.addr
    pub first : σ.Number u a.first b.first
    pub without : eqb a.first 0 ≡ eqb b.first 0

  pub data MarksFollow (u : T) : List Mark → List Mark → Type 0 where
    no_marks : MarksFollow u [] []
    one_mark : {a b : Mark} {ms ns : List Mark} → MarkFollows u a b → MarksFollow u ms ns → MarksFollow u (a ∷ ms) (b ∷ ns)

  pub record FollowsLines (w : T) (c : Lines S) (d : Lines T) : Type 0 where
    pub follows : Follows σ w c.state d.state
    pub marks : MarksFollow d.state c.marks d.marks
    pub last : c.last ≡ d.last
    pub base : c.base ≡ d.base
    pub line : c.line ≡ d.line

  -- related states where all records fit, the second one later than w
  pub record Stays (w : T) (s : S) (u : T) : Type 0 where
    pub follows : Follows σ w s u
    pub fits : σ.Fits u
    pub room : σ.Room w → σ.Room u

  pub marks_later : {u v : T} {ms ns : List Mark} → σ.Later u v → MarksFollow u ms ns → MarksFollow v ms ns
  marks_later l no_marks = no_marks
  marks_later l (one_mark h t) = one_mark record {
    label = h.label;
    addr = σ.place_later _ _ _ _ l h.addr;
    first = σ.number_later _ _ _ _ l h.first;
    without = h.without;
  } (marks_later l t)

  marks_snoc : {u : T} {a b : Mark} {ms ns : List Mark} → MarksFollow u ms ns → MarkFollows u a b → MarksFollow u (ms ++ (a ∷ [])) (ns ++ (b ∷ []))
  marks_snoc no_marks h = one_mark h no_marks
  marks_snoc (one_mark x t) h = one_mark x (marks_snoc t h)

  sim_marked : {u : T} {a a' f f' : ℕ} {ms ns : List Mark} (l : Opt Target) → σ.Place u a a' → σ.Number u f f' → eqb f 0 ≡ eqb f' 0 → MarksFollow u ms ns
      → MarksFollow u (marked l a f ms) (marked l a' f' ns)
  sim_marked absent p n e m = m
  sim_marked (given l) p n e m = marks_snoc m record { label = refl; addr = p; first = n; without = e }

  -- searches in the two tables
  pub sim_addr : {u : T} {ms ns : List Mark} (l : ℕ) → MarksFollow u ms ns → Alike (σ.Place u) (addr_of ms l) (addr_of ns l)
  unfolding addr_of
  sim_addr l no_marks = no_one
  sim_addr l (one_mark h t) = or_else_lem (sim_addr l t) (same_label l h.label (each h.addr))

  -- where all records fit they find the same
  datum_alike : {u : T} (x y : ℕ) → σ.Number u x y → eqb x 0 ≡ eqb y 0 → Alike (σ.Number u) (datum_from x) (datum_from y)
  unfolding before
  datum_alike zero zero n e = no_one
  datum_alike zero (suc y) n e = absurd (let z : ◌≡◌ {A = ℕ} 0 1 = cc (eqb-suc-zero y) in omega arith)
  datum_alike (suc x) zero n e = absurd (let z : ◌≡◌ {A = ℕ} 0 1 = cc (eqb-suc-zero x) in omega arith)
  datum_alike (suc x) (suc y) n e = each (σ.number_map _ before _ _ n)

  pub sim_data_of : {u : T} {ms ns : List Mark} (l : ℕ) → MarksFollow u ms ns → Alike (σ.Number u) (data_of ms l) (data_of ns l)
  unfolding data_of
  sim_data_of l no_marks = no_one
  sim_data_of l (one_mark {a = a} {b = b} h t) =
      or_else_lem (same_label l h.label (datum_alike a.first b.first h.first h.without)) (sim_data_of l t)

  -- lines
  module _ (t : List ℕ) where
    sim_label_note : {w u : T} {s : S} (base last : ℕ) (l : Opt Target) → Follows σ w s u → Follows σ w (label_note R t base last l s) (label_note Q t base last l u)
    sim_label_note base last absent g = g
    sim_label_note base last (given l) g = pick_follows (ltb l.label last) (noted g) g

    sim_begun : {w : T} {c : Lines S} {d : Lines T} (l : ProgramLine) → FollowsLines w c d → Follows σ d.state (line_begun R t c l) (line_begun Q t d l)
    sim_begun {d = d} l g = rw (g.base, g.last, g.line) (sim_label_note d.base d.last l.label
        record { sim = σ.begin_line _ _ _ g.follows.sim; later = σ.begin_line_later _ _ })

    sim_done : {w u : T} {s : S} {c : Lines S} {d : Lines T} (l : ProgramLine) → FollowsLines w c d → Follows σ d.state s u
        → FollowsLines w (line_done R t c l s) (line_done Q t d l u)
    sim_done l g h = record {
      follows = over g.follows h;
      marks = sim_marked l.label (place_then (σ.count _ _ g.follows.sim) h) (σ.first_datum _ _ h.sim) (σ.first_datum_none _ _ h.sim)
          (marks_later h.later g.marks);
      last = rw g.last;
      base = rw g.base;
      line = rw g.line;
    }

    stmts_at_lem : {w u : T} {s : S} {b b' : ℕ} (xs : Stmts) → b ≡ b' → Follows σ w s u → Follows σ w (compile_stmts R t b xs s) (compile_stmts Q t b' xs u)
    stmts_at_lem {b' = b'} xs e g = rw e (sim_stmts σ t b' xs g)

    pub sim_line : {w : T} {c : Lines S} {d : Lines T} (l : ProgramLine) → FollowsLines w c d → FollowsLines w (compile_line R t l c) (compile_line Q t l d)
    unfolding compile_line
    sim_line l g = sim_done l g (stmts_at_lem l.stmts g.base (sim_begun l g))

    pub sim_lines : (ls : List ProgramLine) {w : T} {c : Lines S} {d : Lines T} → FollowsLines w c d → FollowsLines w (compile_lines R t ls c) (compile_lines Q t ls d)
    unfolding compile_lines
    sim_lines [] g = g
    sim_lines (l ∷ ls) g = sim_lines ls (sim_line l g)

    pub sim_first : {s : S} {u : T} → σ.Sim s u → FollowsLines u (first_line R t s) (first_line Q t u)
    sim_first m = record { follows = begin σ m; marks = no_marks; last = refl; base = refl; line = refl }

  -- jumps and RESTOREs
  pick_stays : {w u u' : T} {s s' : S} (a b : Bool) → a ≡ b → (a ≡ true → Stays w s u) → Stays w s' u' → Stays w (pick a s s') (pick b u u')
  pick_stays true true e f g = f refl
  pick_stays false false e f g = g
  pick_stays true false e f g = absurd (let z : ◌≡◌ {A = ℕ} 0 1 = cc in omega arith)
  pick_stays false true e f g = absurd (let z : ◌≡◌ {A = ℕ} 0 1 = cc in omega arith)

  sim_settle_by : {w u : T} {s : S} {P : ℕ → ℕ → Type 0} {a b : Search} (x : Waiting) (k : ℕ) → eqb (R.look s k).call 25 ≡ false
      → ((x y : ℕ) → P x y → σ.Sim (R.settle s k x) (Q.settle u k y)) → Alike P a b → Stays w s u
      → Stays w (settle_by R x a k (R.look s k) s) (settle_by Q x b k (Q.look u k) u)
  sim_settle_by x k c f (each p) g = record {
    follows = record { sim = f _ _ p; later = σ.later_trans _ _ _ g.follows.later (σ.settle_later _ _ _) };
    fits = σ.settle_fits _ _ _ g.fits;
    room = λ r. σ.settle_room _ _ _ (g.room r);
  }
  sim_settle_by {u = u} {s = s} x k c f no_one g =
      let l = σ.look s u k g.follows.sim g.fits in
      rw l.c record {
        follows = record {
          sim = σ.note_at _ _ _ _ _ _ _ l.line (σ.drop_label _ _ _ c g.follows.sim);
          later = σ.later_trans _ _ _ g.follows.later (σ.later_trans _ _ _ (σ.drop_label_later _ _) (σ.note_at_later _ _ _ _ _));
        };
        fits = σ.note_at_fits _ _ _ _ _ (σ.drop_label_fits _ _ g.fits);
        room = λ r. σ.note_at_room _ _ _ _ _ (σ.drop_label_room _ _ (g.room r));
      }

  -- what both sides find settles what waits for it
  record Settling (w : Waiting) (P : T → ℕ → ℕ → Type 0) : Type 0 where
    calls : Waits w
    finds : {u : T} {ms ns : List Mark} (l : ℕ) → MarksFollow u ms ns → Alike (P u) (w.find ms l) (w.find ns l)
    settles : (s : S) (u : T) (k x y : ℕ) → w.waits (R.look s k).call ≡ true → σ.Sim s u → P u x y → σ.Sim (R.settle s k x) (Q.settle u k y)

  no_while : {w : Waiting} → Waits w → (c : ℕ) → w.waits c ≡ true → eqb c 25 ≡ false
  no_while h c e = of_waiting (λ (i : ℕ). eqb i 25 ≡ false) refl refl refl h c e

  jumps_settling : Settling jumps σ.Place
  jumps_settling = record {
    calls = jumps_wait;
    finds = λ l m. sim_addr l m;
    settles = λ s u k x y e m p. σ.settle s u k x y (no_while jumps_wait _ e) m p;
  }

  restores_settling : Settling restores σ.Number
  restores_settling = record {
    calls = restores_wait;
    finds = λ l m. sim_data_of l m;
    settles = λ s u k x y e m p. σ.settle_number s u k x y (eqb-true _ 31 e) m p;
  }

  module _ {w : Waiting} {P : T → ℕ → ℕ → Type 0} (h : Settling w P) where
    sim_settle : {v u : T} {s : S} {ms ns : List Mark} (k : ℕ) → MarksFollow v ms ns → Stays v s u
        → Stays v (settle_waiting R w ms k (R.look s k) s) (settle_waiting Q w ns k (Q.look u k) u)
    sim_settle {v} {u} {s} {ms} {ns} k m g = pick_stays _ _ (pending_alike h.calls _ _ l) go g
      where
        l : Looks (R.look s k) (Q.look u k)
        l = σ.look s u k g.follows.sim g.fits

        go : is_pending w (R.look s k) ≡ true
            → Stays v (settle_by R w (w.find ms ((R.look s k).b - 1)) k (R.look s k) s) (settle_by Q w (w.find ns ((Q.look u k).b - 1)) k (Q.look u k) u)
        go e =
            let j = both_right (ltb 0 (R.look s k).b) (w.waits (R.look s k).call) e in
            let a : Alike (P u) (w.find ms ((R.look s k).b - 1)) (w.find ns ((Q.look u k).b - 1)) =
            rw (waiting_label h.calls _ _ l j) (h.finds ((Q.look u k).b - 1) (marks_later g.follows.later m)) in
            sim_settle_by w k (no_while h.calls _ j) (λ x y p. h.settles _ _ _ _ _ j g.follows.sim p) a g

    sim_resolve : (k n : ℕ) {v u : T} {s : S} {ms ns : List Mark} → MarksFollow v ms ns → Stays v s u
        → Stays v (resolve R w ms k n s) (resolve Q w ns k n u)
    unfolding resolve
    sim_resolve k zero m g = g
    sim_resolve k (suc n) m g = sim_resolve (k + 1) n m (sim_settle k m g)

  counts : {w u : T} {s : S} → Stays w s u → R.count s ≡ Q.count u
  counts g = σ.place_is _ _ _ g.fits (σ.count _ _ g.follows.sim)

  pub sim_resolved : {w : T} {c : Lines S} {d : Lines T} → FollowsLines w c d → σ.Fits d.state → Stays d.state (resolved R c) (resolved Q d)
  sim_resolved {c = c} {d = d} g f =
      let a : Stays d.state c.state d.state = record { follows = start g.follows; fits = f; room = λ r. r } in
      let b : Stays d.state (resolve_labels R c.marks 0 (R.count c.state) c.state) (resolve_labels Q d.marks 0 (Q.count d.state) d.state) =
      rw (counts a) (sim_resolve jumps_settling 0 (Q.count d.state) g.marks a) in
      rw (counts b) (sim_resolve restores_settling 0 _ g.marks b)

  -- the whole, where End fits too
  pub sim_close : {w : T} {c : Lines S} {d : Lines T} → FollowsLines w c d → σ.Room d.state → σ.Done (close_up R c) (close_up Q d)
  unfolding close_up
  sim_close g r = let z = sim_resolved g (σ.room_fits _ r) in σ.clean_up _ _ z.follows.sim (z.room r)

  pub sim_program : (t : List ℕ) {s : S} {u : T} (ls : List ProgramLine) → σ.Sim s u → σ.Room (compile_lines Q t ls (first_line Q t u)).state
      → σ.Done (close_up R (compile_lines R t ls (first_line R t s))) (close_up Q (compile_lines Q t ls (first_line Q t u)))
  sim_program t ls m r = sim_close (sim_lines t ls (sim_first t m)) r
