-- Every whole statement that is compiled without an error begins and ends with the pile empty, and so do those inside it.
use Rattle.std.proofs.Common.{◌≡◌, ℕ, suc, ◌+◌, List, [], ◌∷◌, ◌++◌, length, sym, refl, ap, ◌∙◌, subst, append_assoc, arith, length-append}
use lib.Seq.{get_or-append_seam}
use Rattle.recorder.specs.declared.word.Range.{Range}
use Rattle.recorder.specs.Numbers.{unknown}
use Rattle.recorder.specs.Recorder.{Recorder}
use Rattle.recorder.specs.Ideal.{Rec, rec, no_rec, Entry, Ideal, change, with_a, with_c}
use Rattle.recorder.specs.Closing.{rules_r}
use Rattle.sheet.specs.Tree.{Opt, absent, given, Expr, FieldSpec, Stmt, rem, op₀, op₁, op₂, op₃, draw, set, data_list, def, dim, field, for, go, if_then, if_else, input, assign, load, locate, next_of, on, open_file, print, read, restore, swap, system, while, write, Stmts, end, then}
use Rattle.rules.specs.declared.types.«Type».TheVariants.{Real}
use Rattle.rules.specs.Expr.{opt_real_sym, real_sym, compile_typed}
use Rattle.rules.specs.Stmt.{compile_def, end_def, compile_while, if_jump, else_jump, end_here, compile_stmt, compile_stmts}
use Rattle.rules.specs.Missing.{All, Present, WholeExpr, WholeStmt, WholeStmts}
use Rattle.rules.specs.Piles.{num, Pile, taken, effect_of, step}
use Rattle.rules.specs.Each.{each_stmt, each_stmts}
use Rattle.rules.specs.Demand.{around}
use Rattle.rules.proofs.PileLaws.{Flow, Side, NoTarget, Plain, Ahead, ahead_append, flow_ahead, plain_one, plain_flow, flow_append, flow_map, flow_run, all_map, all_append, run, pile_in}
use Rattle.rules.proofs.Grown.{Code, seq, put, stay, fails, claims_nothing, with_ok, longer, patched, change_at}
use Rattle.rules.proofs.ExprPiles.{Few, real_code, name_code}
use Rattle.rules.proofs.Blocks.{Empty, Body, Good, good_nil, good_append, good_plain, good_stmt, empty_left, empty_right, body_left, body_right, first_empty, last_empty, pile_left, pile_right, pile_end}
use Rattle.rules.proofs.OpPiles
use Rattle.rules.proofs.OpPiles.{IsPlace, IsInput, AllExprs, FormedElement, PlainOp, DrawOp, SetOp, pushed}
use Rattle.rules.proofs.StmtPiles

-- a list that is not empty
abbrev pub Some : {A : Type 0} → List A → Type 0
Some [] = ⊥
Some (x ∷ xs) = Unit {0}

-- what the form of the sheet says of a statement
abbrev mutual
  pub FormedStmt : Stmt → Type 0
  FormedStmt (rem r) = Unit {0}
  FormedStmt (op₀ k r) = PlainOp k
  FormedStmt (op₁ k r a) = PlainOp k
  FormedStmt (op₂ k r a b) = PlainOp k
  FormedStmt (op₃ k r a b c) = PlainOp k
  FormedStmt (draw k r es) = DrawOp k
  FormedStmt (set k r a b) = SetOp k × IsPlace a
  FormedStmt (data_list r ds) = Unit {0}
  FormedStmt (def r n p e) = Unit {0}
  FormedStmt (dim r es) = Unit {0}
  FormedStmt (field r e fs) = All (λ (f : FieldSpec). IsPlace f.var) fs
  FormedStmt (for r v a b e) = Unit {0}
  FormedStmt (go r sub g) = Unit {0}
  FormedStmt (if_then r e xs) = FormedStmts xs
  FormedStmt (if_else r e xs ys) = FormedStmts xs × FormedStmts ys
  FormedStmt (input r src es) = AllExprs IsInput es
  FormedStmt (assign r a b) = IsPlace a
  FormedStmt (load r es) = Unit {0}
  FormedStmt (locate r a b) = Unit {0}
  FormedStmt (next_of r vs) = Unit {0}
  FormedStmt (on r e gs sub) = Unit {0}
  FormedStmt (open_file r f m e l) = Unit {0}
  FormedStmt (print r xs) = All FormedElement xs
  FormedStmt (read r es) = AllExprs IsPlace es
  FormedStmt (restore r g) = Unit {0}
  FormedStmt (swap r a b) = IsPlace a × IsPlace b
  FormedStmt (system r) = Unit {0}
  FormedStmt (while r e) = Unit {0}
  FormedStmt (write r f ds) = Some ds

  pub FormedStmts : Stmts → Type 0
  FormedStmts end = Unit {0}
  FormedStmts (then x xs) = FormedStmt x × FormedStmts xs

all_pair : {A : Type 0} (X Y : A → Type 0) (xs : List A) → All X xs → All Y xs → All (λ x. X x × Y x) xs
all_pair X Y [] a b = tt
all_pair X Y (x ∷ xs) a b = ((a.0, b.0), all_pair X Y xs a.1 b.1)

module _ (E : List Entry) where
  -- WHILE: its condition starts where it begins
  while_step : (l : ℕ) (r : Range) (a b c : ℕ) → step E (rec 25 l r a b c) (num ∷ []) ≡ given []
  unfolding step effect_of taken
  while_step l r a b c = refl

  good_while : (B l : ℕ) (r : Range) (b c : ℕ) (xs : List Rec) → Plain E xs [] (num ∷ []) → Good E B [] (xs ++ (rec 25 l r B b c ∷ []))
  good_while B l r b c xs a =
      let ys = xs ++ (rec 25 l r B b c ∷ []) in
      record {
        flow = flow_append (plain_flow E (Empty E B ys) (Body E B ys) xs [] (num ∷ []) a)
            (Flow.go (while_step l r B b c) (record { empty_behind = λ q. refl; fixed = (first_empty E B ys, tt); body = λ q. absurd (omega arith); on = λ q. absurd (omega arith) }) Flow.done);
        addrs = tt;
        ahead = ahead_append B (B + length xs) xs (rec 25 l r B b c ∷ []) refl (flow_ahead B a) (λ q. absurd (omega arith), tt);
      }

  -- DEF: the body stands between a 26 and a 27
  def_step : (l : ℕ) (r : Range) (a b c : ℕ) → step E (rec 26 l r a b c) [] ≡ given []
  unfolding step effect_of taken
  def_step l r a b c = refl

  end_step : (l : ℕ) (r : Range) → Plain E (rec 27 l r 0 0 0 ∷ []) (num ∷ []) []
  unfolding step effect_of taken
  end_step l r = plain_one E (rec 27 l r 0 0 0) (num ∷ []) [] refl refl

  run_def : (l : ℕ) (r : Range) (a b c : ℕ) → run E (rec 26 l r a b c ∷ []) [] ≡ given []
  unfolding run
  run_def l r a b c = rw (def_step l r a b c) refl

  good_def : (B l m : ℕ) (r : Range) (n p T : ℕ) (xs : List Rec) → T ≡ B + length xs + 2 → Plain E xs [] (num ∷ []) → Good E B [] (rec 26 l r n p T ∷ (xs ++ (rec 27 m r 0 0 0 ∷ [])))
  good_def B l m r n p T xs h a =
      let z = rec 27 m r 0 0 0 in
      let q = rec 26 l r n p T in
      let ys = xs ++ (z ∷ []) in
      let body : Plain E ys [] [] = flow_append a (end_step m r) in
      record {
        flow = Flow.go (def_step l r n p T) (side T h) (plain_flow E (Empty E B (q ∷ ys)) (Body E B (q ∷ ys)) ys [] [] body);
        addrs = tt;
        ahead = (λ e. omega arith, flow_ahead (suc B) body);
      }
    where
      side : (T : ℕ) → T ≡ B + length xs + 2 → Side (Empty E B (rec 26 l r n p T ∷ (xs ++ (rec 27 m r 0 0 0 ∷ [])))) (Body E B (rec 26 l r n p T ∷ (xs ++ (rec 27 m r 0 0 0 ∷ [])))) (rec 26 l r n p T) [] (xs ++ (rec 27 m r 0 0 0 ∷ []))
      side T h =
          let z = rec 27 m r 0 0 0 in
          let q = rec 26 l r n p T in
          let ys = xs ++ (z ∷ []) in
          let back : pile_in E ((q ∷ []) ++ ys) [] (1 + length xs) ≡ given (num ∷ []) =
          pile_right E (q ∷ []) ys [] [] (length xs) (run_def l r n p T) ∙ pile_left E xs (z ∷ []) [] (length xs) (omega arith) ∙ pile_end E xs [] (num ∷ []) (flow_run a) in
          let all : pile_in E ((q ∷ []) ++ ys) [] (1 + length ys) ≡ given [] =
          pile_right E (q ∷ []) ys [] [] (length ys) (run_def l r n p T) ∙ pile_end E ys [] [] (flow_run (flow_append a (end_step m r))) in
          record {
            empty_behind = λ e. refl;
            fixed = (record { at = 1 + length ys; place = omega (arith, length-append xs (z ∷ [])); within = omega arith; pile = all }, tt);
            body = λ e. record {
              at = 1 + length xs;
              place = omega arith;
              within = omega (arith, length-append xs (z ∷ []));
              closes = let k : 1 + length xs ≡ suc (length xs) = omega arith in rw (k, get_or-append_seam xs z [] no_rec) refl;
              pile = back;
            };
            on = λ e. absurd (omega arith);
          }

  -- IF
  jz_step : (l : ℕ) (r : Range) (a : ℕ) → step E (rec 19 l r a 0 0) (num ∷ []) ≡ given []
  unfolding step effect_of taken
  jz_step l r a = refl

  over_step : (l : ℕ) (r : Range) (a : ℕ) → step E (rec 20 l r a 0 0) [] ≡ given []
  unfolding step effect_of taken
  over_step l r a = refl

  -- a condition and its jump
  test_flow : (X Y : ℕ → Type 0) (l : ℕ) (r : Range) (T : ℕ) (ce : List Rec) → X T → Plain E ce [] (num ∷ []) → Flow E X Y (ce ++ (rec 19 l r T 0 0 ∷ [])) [] []
  test_flow X Y l r T ce x a =
      flow_append (plain_flow E X Y ce [] (num ∷ []) a)
      (Flow.go (jz_step l r T) (record { empty_behind = λ q. refl; fixed = (x, tt); body = λ q. absurd (omega arith); on = λ q. absurd (omega arith) }) Flow.done)

  test_run : (l : ℕ) (r : Range) (T : ℕ) (ce : List Rec) → Plain E ce [] (num ∷ []) → run E (ce ++ (rec 19 l r T 0 0 ∷ [])) [] ≡ given []
  test_run l r T ce a = flow_run (test_flow (λ v. Unit {0}) (λ v. Unit {0}) l r T ce tt a)

  test_ahead : (B l : ℕ) (r : Range) (T : ℕ) (ce : List Rec) → Plain E ce [] (num ∷ []) → Ahead B (ce ++ (rec 19 l r T 0 0 ∷ []))
  test_ahead B l r T ce a = flow_ahead B (test_flow (λ v. Unit {0}) NoTarget l r T ce tt a)

  over_flow : (X Y : ℕ → Type 0) (l : ℕ) (r : Range) (T : ℕ) → X T → Flow E X Y (rec 20 l r T 0 0 ∷ []) [] []
  over_flow X Y l r T x = Flow.go (over_step l r T) (record { empty_behind = λ q. refl; fixed = (x, tt); body = λ q. absurd (omega arith); on = λ q. absurd (omega arith) }) Flow.done

  good_then : (B l : ℕ) (r : Range) (T : ℕ) (ms : List ℕ) (ce ct : List Rec) → T ≡ B + length ce + length ct + 1 → Plain E ce [] (num ∷ []) → Good E (B + length ce + 1) ms ct
      → Good E B ms ((ce ++ (rec 19 l r T 0 0 ∷ [])) ++ ct)
  good_then B l r T ms ce ct h a b =
      let xs = ce ++ (rec 19 l r T 0 0 ∷ []) in
      let ru = test_run l r T ce a in
      let off : B + length ce + 1 ≡ B + length xs = omega (arith, length-append ce (rec 19 l r T 0 0 ∷ [])) in
      let at : Empty E B (xs ++ ct) T = empty_right E B (B + length ce + 1) xs ct T off ru (last_empty E (B + length ce + 1) T ct (omega arith) (flow_run b.flow)) in
      record {
        flow = flow_append (test_flow (Empty E B (xs ++ ct)) (Body E B (xs ++ ct)) l r T ce at a)
            (flow_map (λ U. empty_right E B (B + length ce + 1) xs ct U off ru) (λ U. body_right E B (B + length ce + 1) xs ct U off ru) b.flow);
        addrs = all_map (Empty E (B + length ce + 1) ct) (Empty E B (xs ++ ct)) ms (λ U. empty_right E B (B + length ce + 1) xs ct U off ru) b.addrs;
        ahead = ahead_append B (B + length ce + 1) xs ct off (test_ahead B l r T ce a) b.ahead;
      }

  good_else : (B l m : ℕ) (r : Range) (T₁ T₂ : ℕ) (ms ns : List ℕ) (ce ct cf : List Rec) → T₁ ≡ B + length ce + length ct + 2 → T₂ ≡ T₁ + length cf
      → Plain E ce [] (num ∷ []) → Good E (B + length ce + 1) ms ct → Good E T₁ ns cf
      → Good E B (ms ++ ns) (((ce ++ (rec 19 l r T₁ 0 0 ∷ [])) ++ (ct ++ (rec 20 m r T₂ 0 0 ∷ []))) ++ cf)
  good_else B l m r T₁ T₂ ms ns ce ct cf h₁ h₂ a b c =
      let X = Empty E B whole in
      let Y = Body E B whole in
      record {
        flow = flow_append (flow_append (test_flow X Y l r T₁ ce at₁ a) (flow_append (flow_map in_then body_then b.flow) (over_flow X Y m r T₂ at₂))) (flow_map in_else body_else c.flow);
        addrs = all_append X ms ns (all_map (Empty E C ct) X ms in_then b.addrs) (all_map (Empty E T₁ cf) X ns in_else c.addrs);
        ahead = ahead_append B T₁ (xs ++ ys) cf offy (ahead_append B C xs ys offx (test_ahead B l r T₁ ce a)
            (ahead_append C (C + length ct) ct (rec 20 m r T₂ 0 0 ∷ []) refl b.ahead (λ q. absurd (omega arith), tt))) c.ahead;
      }
    where
      C : ℕ
      C = B + length ce + 1

      xs : List Rec
      xs = ce ++ (rec 19 l r T₁ 0 0 ∷ [])

      ys : List Rec
      ys = ct ++ (rec 20 m r T₂ 0 0 ∷ [])

      whole : List Rec
      whole = (xs ++ ys) ++ cf

      rx : run E xs [] ≡ given []
      rx = test_run l r T₁ ce a

      rxy : run E (xs ++ ys) [] ≡ given []
      rxy = flow_run (flow_append (test_flow (λ v. Unit {0}) (λ v. Unit {0}) l r T₁ ce tt a) (flow_append (flow_map (λ v u. tt) (λ v u. tt) b.flow) (over_flow (λ v. Unit {0}) (λ v. Unit {0}) m r T₂ tt)))

      offx : C ≡ B + length xs
      offx = omega (arith, length-append ce (rec 19 l r T₁ 0 0 ∷ []))

      offy : T₁ ≡ B + length (xs ++ ys)
      offy = omega (arith, length-append xs ys, length-append ct (rec 20 m r T₂ 0 0 ∷ []), length-append ce (rec 19 l r T₁ 0 0 ∷ []))

      in_then : (U : ℕ) → Empty E C ct U → Empty E B whole U
      in_then U e = empty_left E B (xs ++ ys) cf U (empty_right E B C xs ys U offx rx (empty_left E C ct (rec 20 m r T₂ 0 0 ∷ []) U e))

      body_then : (U : ℕ) → Body E C ct U → Body E B whole U
      body_then U e = body_left E B (xs ++ ys) cf U (body_right E B C xs ys U offx rx (body_left E C ct (rec 20 m r T₂ 0 0 ∷ []) U e))

      in_else : (U : ℕ) → Empty E T₁ cf U → Empty E B whole U
      in_else U e = empty_right E B T₁ (xs ++ ys) cf U offy rxy e

      body_else : (U : ℕ) → Body E T₁ cf U → Body E B whole U
      body_else U e = body_right E B T₁ (xs ++ ys) cf U offy rxy e

      at₁ : Empty E B whole T₁
      at₁ = in_else T₁ (first_empty E T₁ cf)

      at₂ : Empty E B whole T₂
      at₂ = in_else T₂ (last_empty E T₁ T₂ cf h₂ (flow_run c.flow))

module _ (E : List Entry) (few : Few E) (t : List ℕ) (base : ℕ) where
  abbrev R : Recorder Ideal
  R = rules_r t

  abbrev Fl : List Rec → Type 0
  Fl xs = Plain E xs [] []

  abbrev One : List Rec → Type 0
  One xs = (P : Pile) → Plain E xs P (num ∷ P)

  -- a block that begins where i ends
  abbrev pub Block : Ideal → List ℕ → List Rec → Type 0
  Block i ms xs = Good E (length i.records) ms xs

  ends_at : (i f : Ideal) (code : List Rec) → f.records ≡ i.records ++ code → length f.records ≡ length i.records + length code
  ends_at i f code e = ap length e ∙ length-append i.records code

  pub stmt_of : {W : Type 0} {i f : Ideal} (ms : List ℕ) → Code E 0 i f W (Block i ms) → Code E 0 i f W (Block i (length i.records ∷ length f.records ∷ ms))
  stmt_of {i = i} {f = f} ms a = record {
    code = a.code;
    records = a.records;
    fresh = a.fresh;
    notes = a.notes;
    book = a.book;
    entries = a.entries;
    numbered = a.numbered;
    names = a.names;
    ok = λ w e p. good_stmt E (length i.records) (length f.records) ms a.code (ends_at i f a.code a.records) (a.ok w e p);
  }

  pub flat_stmt : {W U : Type 0} {i f : Ideal} → Code E 0 i f W Fl → (U → W) → Code E 0 i f U (Block i (length i.records ∷ length f.records ∷ []))
  flat_stmt {W} {i = i} a v = stmt_of [] (with_ok E {W = W} {A = Fl} {C = Block i []} 0 (omega arith) a v (λ w xs u. good_plain E (length i.records) xs u))

  pub then_of : {W₁ W₂ : Type 0} (i f g : Ideal) (ms ns : List ℕ) → Code E 0 i f W₁ (Block i ms) → Code E 0 f g W₂ (Block f ns) → Code E 0 i g (W₁ × W₂) (Block i (ms ++ ns))
  then_of {W₁} {W₂} i f g ms ns a b =
      seq E {d₁ = 0} {d₂ = 0} {W = W₁ × W₂} {A = λ xs. Block i ms xs × (f.records ≡ i.records ++ xs)} {B = Block f ns} {C = Block i (ms ++ ns)} (longer E a) b (λ w. w.0) (λ w. w.1)
      (λ xs ys u v. good_append E (length i.records) (length f.records) ms ns xs ys (ends_at i f xs u.1) u.0 v)

  -- WHILE
  while_of : {W : Type 0} (r : Range) (b c : ℕ) (i j : Ideal) → Code E 0 i j W One → Code E 0 i (R.emit j 25 r (length i.records) b c) W (Block i [])
  while_of {W} r b c i j a =
      put E {d = 0} {W = W} {A = One} {C = Block i []} a (omega arith) (rec 25 j.line r (length i.records) b c) (λ xs u. good_while E (length i.records) j.line r b c xs (u []))

  while_code : (r : Range) (e : Expr) (i : Ideal) → Code E 0 i (compile_while R t base r e i) (WholeExpr e) (Block i [])
  unfolding compile_while
  while_code r e i = while_of r unknown 0 i (compile_typed R t base Real e i) (pushed E few t base Real tt e i)

  -- DEF: what stands before its end is patched in
  pub record DefParts (q z : Rec) (m : ℕ) (xs : List Rec) : Type 0 where
    pub body : List Rec
    pub split : xs ≡ q ∷ (body ++ (z ∷ []))
    pub flow : Plain E body [] (num ∷ [])
    pub first : m ≡ 0

  same_start : (I A xs Y : List Rec) → Y ≡ I ++ A → Y ≡ I ++ xs → length A ≡ length xs
  same_start I A xs Y e h = omega (arith, ap length e, ap length h, length-append I A, length-append I xs)

  def_of : {W : Type 0} (r : Range) (n p c : ℕ) (i y j : Ideal) → Code E 2 i y (Unit {0}) (λ xs. xs ≡ []) → Code E 0 (R.emit y 26 r n p c) j W One
      → Code E 0 i (end_def R t base r (length y.records) j) W (Block i [])
  def_of {W} r n p c i y j a b =
      let q = rec 26 y.line r n p c in
      let z = rec 27 j.line r 0 0 0 in
      let m = length a.code in
      let T = length (j.records ++ (z ∷ [])) in
      let A₁ : List Rec → Type 0 = λ xs. (xs ≡ q ∷ []) × (m ≡ 0) in
      let c₁ : Code E 0 i (R.emit y 26 r n p c) (Unit {0}) A₁ =
      put E {d = 2} {W = Unit {0}} {A = λ xs. (xs ≡ []) × (y.records ≡ i.records ++ xs)} {C = A₁} (longer E a) (omega arith) q
      (λ xs u. (rw u.0 refl, same_start i.records a.code xs y.records a.records u.1 ∙ rw u.0 refl)) in
      let c₂ : Code E 0 i (R.emit j 27 r 0 0 0) W (DefParts q z m) =
      put E {d = 0} {W = W} {A = λ xs. (ys : List Rec) × (xs ≡ q ∷ ys) × Plain E ys [] (num ∷ []) × (m ≡ 0)} {C = DefParts q z m}
      (seq E {d₁ = 0} {d₂ = 0} {W = W} {A = A₁} {B = One} {C = λ xs. (ys : List Rec) × (xs ≡ q ∷ ys) × Plain E ys [] (num ∷ []) × (m ≡ 0)} c₁ b (λ w. tt) (λ w. w) (λ xs ys u v. (ys, rw u.0 refl, v [], u.1)))
      (omega arith) z (λ xs u. record { body = u.0; split = rw u.1 refl; flow = u.2; first = u.3 }) in
      patched E {d = 0} {W = W} {A = DefParts q z m} {C = Block i []} c₂ (with_c T) (length y.records) m (ends_at i y a.code a.records)
      (λ xs u e. def_good y.line j.line r n p c T m (length i.records) xs u
      (ap length e ∙ length-append i.records xs))
    where
      def_good : (l k : ℕ) (r : Range) (n p c T m B : ℕ) (xs : List Rec) → DefParts (rec 26 l r n p c) (rec 27 k r 0 0 0) m xs → T ≡ B + length xs → Good E B [] (change (with_c T) xs m)
      def_good l k r n p c T m B xs u h =
          let g : T ≡ B + length u.body + 2 = omega (arith, h, ap length u.split, length-append u.body (rec 27 k r 0 0 0 ∷ [])) in
          rw (u.split, change_at (with_c T) [] (rec 26 l r n p c) (u.body ++ (rec 27 k r 0 0 0 ∷ [])) m u.first) (good_def E B l k r n p T u.body g u.flow)

  def_code : (r : Range) (n p : Opt Range) (e : Expr) (i : Ideal) → Code E 0 i (compile_def R t base r n p e i) (Present n × Present p × WholeExpr e) (Block i [])
  unfolding compile_def
  def_code r absent p e i =
      claims_nothing E 0 (⊥ × Present p × WholeExpr e) (Block i []) (λ w. w.0)
      (seq E {d₁ = 1} {d₂ = 0} {W₁ = Unit {0}} {W = WholeExpr e} {A = λ xs. xs ≡ []} {B = One} {C = λ xs. Unit {0}} (name_code E few t base p i) (pushed E few t base Real tt e (opt_real_sym R t base p i).state) (λ w. tt) (λ w. w) (λ xs ys u v. tt))
  def_code r (given nr) absent e i =
      claims_nothing E 0 (Unit {0} × ⊥ × WholeExpr e) (Block i []) (λ w. w.1)
      (seq E {d₁ = 1} {d₂ = 0} {W₁ = Unit {0}} {W = WholeExpr e} {A = λ xs. xs ≡ []} {B = One} {C = λ xs. Unit {0}} (real_code E few t base nr i) (pushed E few t base Real tt e (real_sym R t base nr i).state) (λ w. tt) (λ w. w) (λ xs ys u v. tt))
  def_code r (given nr) (given pr) e i =
      let x = real_sym R t base nr i in
      let y = real_sym R t base pr x.state in
      with_ok E {W = WholeExpr e} {A = Block i []} 0 (omega arith)
      (def_of r x.number y.number unknown i y.state (compile_typed R t base Real e (R.emit y.state 26 r x.number y.number unknown))
      (seq E {d₁ = 1} {d₂ = 1} {W = Unit {0}} {A = λ xs. xs ≡ []} {B = λ xs. xs ≡ []} {C = λ xs. xs ≡ []} (real_code E few t base nr i) (real_code E few t base pr x.state) (λ w. w) (λ w. w) (λ xs ys u v. rw (u, v)))
      (pushed E few t base Real tt e (R.emit y.state 26 r x.number y.number unknown))) (λ w. w.2) (λ w xs u. u)

  -- IF
  pub record Then (B : ℕ) (ms : List ℕ) (q : Rec) (m : ℕ) (xs : List Rec) : Type 0 where
    pub test : List Rec
    pub body : List Rec
    pub split : xs ≡ (test ++ (q ∷ [])) ++ body
    pub flow : Plain E test [] (num ∷ [])
    pub good : Good E (B + length test + 1) ms body
    pub first : m ≡ length test

  then_parts : {W₁ W₂ : Type 0} (r : Range) (c : ℕ) (i u f : Ideal) (ms : List ℕ) (a : Code E 0 i u W₁ One) → Code E 0 (R.emit u 19 r c 0 0) f W₂ (Block (R.emit u 19 r c 0 0) ms)
      → Code E 0 i f (W₁ × W₂) (Then (length i.records) ms (rec 19 u.line r c 0 0) (length a.code))
  then_parts {W₁} {W₂} r c i u f ms a b =
      let q = rec 19 u.line r c 0 0 in
      let B = length i.records in
      let m = length a.code in
      let A : List Rec → Type 0 = λ xs. (ys : List Rec) × (xs ≡ ys ++ (q ∷ [])) × Plain E ys [] (num ∷ []) × (m ≡ length ys) × (u.records ≡ i.records ++ ys) in
      seq E {d₁ = 0} {d₂ = 0} {W = W₁ × W₂} {A = A} {B = Block (R.emit u 19 r c 0 0) ms} {C = Then B ms q m}
      (put E {d = 0} {W = W₁} {A = λ xs. One xs × (u.records ≡ i.records ++ xs)} {C = A} (longer E a) (omega arith) q
      (λ xs v. (xs, refl, v.0 [], same_start i.records a.code xs u.records a.records v.1, v.1)))
      b (λ w. w.0) (λ w. w.1)
      (λ xs ys v w.
      let h : length (u.records ++ (q ∷ [])) ≡ B + length v.0 + 1 = omega (arith, length-append u.records (q ∷ []), ap length v.4, length-append i.records v.0) in
      record { test = v.0; body = ys; split = rw v.1 refl; flow = v.2; good = rw h at w; first = v.3 })

  then_good : (B l : ℕ) (r : Range) (c T m : ℕ) (ms : List ℕ) (xs : List Rec) → Then B ms (rec 19 l r c 0 0) m xs → T ≡ B + length xs → Good E B ms (change (with_a T) xs m)
  then_good B l r c T m ms xs u h =
      let q = rec 19 l r c 0 0 in
      let g : T ≡ B + length u.test + length u.body + 1 = omega (arith, h, ap length u.split, length-append (u.test ++ (q ∷ [])) u.body, length-append u.test (q ∷ [])) in
      let e : xs ≡ u.test ++ (q ∷ u.body) = u.split ∙ append_assoc u.test (q ∷ []) u.body in
      rw (e, change_at (with_a T) u.test q u.body m u.first, ← append_assoc u.test (rec 19 l r T 0 0 ∷ []) u.body) (good_then E B l r T ms u.test u.body g u.flow u.good)

  then_of_if : {W₁ W₂ : Type 0} (r : Range) (c : ℕ) (i u f : Ideal) (ms : List ℕ) → Code E 0 i u W₁ One → Code E 0 (R.emit u 19 r c 0 0) f W₂ (Block (R.emit u 19 r c 0 0) ms)
      → Code E 0 i (end_here R t base (length u.records) f) (W₁ × W₂) (Block i ms)
  then_of_if {W₁} {W₂} r c i u f ms a b =
      patched E {d = 0} {W = W₁ × W₂} {A = Then (length i.records) ms (rec 19 u.line r c 0 0) (length a.code)} {C = Block i ms} (then_parts r c i u f ms a b) (with_a (length f.records)) (length u.records) (length a.code)
      (ends_at i u a.code a.records)
      (λ xs v e. then_good (length i.records) u.line r c (length f.records) (length a.code) ms xs v (ap length e ∙ length-append i.records xs))

  -- IF with ELSE: the first part behind its test, with its jump settled, and the jump over the second part
  pub record Else (B : ℕ) (ms : List ℕ) (l k : ℕ) (r : Range) (c m : ℕ) (xs : List Rec) : Type 0 where
    pub test : List Rec
    pub body : List Rec
    pub target : ℕ
    pub split : xs ≡ ((test ++ (rec 19 l r target 0 0 ∷ [])) ++ body) ++ (rec 20 k r c 0 0 ∷ [])
    pub flow : Plain E test [] (num ∷ [])
    pub good : Good E (B + length test + 1) ms body
    pub here : target ≡ B + length test + length body + 2
    pub first : m ≡ length test + length body + 1

  else_parts : (B l k : ℕ) (r : Range) (c T m n : ℕ) (ms : List ℕ) (xs : List Rec) → Then B ms (rec 19 l r c 0 0) m xs → n ≡ length xs → T ≡ B + length (xs ++ (rec 20 k r c 0 0 ∷ []))
      → Else B ms l k r c n (change (with_a T) (xs ++ (rec 20 k r c 0 0 ∷ [])) m)
  else_parts B l k r c T m n ms xs u e h =
      let q = rec 19 l r c 0 0 in
      let z = rec 20 k r c 0 0 in
      let len : length xs ≡ length u.test + length u.body + 1 = omega (arith, ap length u.split, length-append (u.test ++ (q ∷ [])) u.body, length-append u.test (q ∷ [])) in
      let s : xs ++ (z ∷ []) ≡ u.test ++ (q ∷ (u.body ++ (z ∷ []))) = rw u.split (append_assoc (u.test ++ (q ∷ [])) u.body (z ∷ []) ∙ append_assoc u.test (q ∷ []) (u.body ++ (z ∷ []))) in
      record {
        test = u.test;
        body = u.body;
        target = T;
        split = rw (s, change_at (with_a T) u.test q (u.body ++ (z ∷ [])) m u.first)
            (sym (append_assoc (u.test ++ (rec 19 l r T 0 0 ∷ [])) u.body (z ∷ []) ∙ append_assoc u.test (rec 19 l r T 0 0 ∷ []) (u.body ++ (z ∷ []))));
        flow = u.flow;
        good = u.good;
        here = omega (arith, h, length-append xs (z ∷ []), len);
        first = e ∙ len;
      }

  -- both parts
  pub record Both (B : ℕ) (ms ns : List ℕ) (l k : ℕ) (r : Range) (c m : ℕ) (xs : List Rec) : Type 0 where
    pub front : List Rec
    pub other : List Rec
    pub split : xs ≡ front ++ other
    pub parts : Else B ms l k r c m front
    pub good : Good E parts.target ns other

  both_good : (B l k : ℕ) (r : Range) (c T m : ℕ) (ms ns : List ℕ) (xs : List Rec) → Both B ms ns l k r c m xs → T ≡ B + length xs → Good E B (ms ++ ns) (change (with_a T) xs m)
  both_good B l k r c T m ms ns xs u h =
      let p = u.parts in
      let q = rec 19 l r p.target 0 0 in
      let z = rec 20 k r c 0 0 in
      let w = rec 20 k r T 0 0 in
      let f = (p.test ++ (q ∷ [])) ++ p.body in
      let lf : length f ≡ length p.test + length p.body + 1 = omega (arith, length-append (p.test ++ (q ∷ [])) p.body, length-append p.test (q ∷ [])) in
      let s : xs ≡ f ++ (z ∷ u.other) = u.split ∙ rw p.split (append_assoc f (z ∷ []) u.other) in
      let g : T ≡ p.target + length u.other = omega (arith, h, ap length s, length-append f (z ∷ u.other), lf, p.here) in
      let v : f ++ (w ∷ u.other) ≡ ((p.test ++ (q ∷ [])) ++ (p.body ++ (w ∷ []))) ++ u.other =
      sym (append_assoc (p.test ++ (q ∷ [])) (p.body ++ (w ∷ [])) u.other ∙ ap (λ (y : List Rec). (p.test ++ (q ∷ [])) ++ y) (append_assoc p.body (w ∷ []) u.other) ∙ sym (append_assoc (p.test ++ (q ∷ [])) p.body (w ∷ u.other))) in
      rw (s, change_at (with_a T) f z u.other m (p.first ∙ sym lf), v) (good_else E B l k r p.target T ms ns p.test p.body u.other p.here g p.flow p.good u.good)

  else_of : {W₁ W₂ W₃ : Type 0} (r : Range) (c : ℕ) (i u v f : Ideal) (ms ns : List ℕ) → Code E 0 i u W₁ One → Code E 0 (R.emit u 19 r c 0 0) v W₂ (Block (R.emit u 19 r c 0 0) ms)
      → Code E 0 (end_here R t base (length u.records) (R.emit v 20 r c 0 0)) f W₃ (Block (end_here R t base (length u.records) (R.emit v 20 r c 0 0)) ns)
      → Code E 0 i (end_here R t base (length v.records) f) (W₁ × W₂ × W₃) (Block i (ms ++ ns))
  else_of {W₁} {W₂} {W₃} r c i u v f ms ns a b d =
      let B = length i.records in
      let q = rec 19 u.line r c 0 0 in
      let z = rec 20 v.line r c 0 0 in
      let m = length a.code in
      let T₁ = length (v.records ++ (z ∷ [])) in
      let g = end_here R t base (length u.records) (R.emit v 20 r c 0 0) in
      let c₁ : Code E 0 i v (W₁ × W₂) (Then B ms q m) = then_parts r c i u v ms a b in
      let n = length c₁.code in
      let A : List Rec → Type 0 = λ xs. (ys : List Rec) × (xs ≡ ys ++ (z ∷ [])) × Then B ms q m ys × (n ≡ length ys) in
      let c₂ : Code E 0 i (R.emit v 20 r c 0 0) (W₁ × W₂) A =
      put E {d = 0} {W = W₁ × W₂} {A = λ xs. Then B ms q m xs × (v.records ≡ i.records ++ xs)} {C = A} (longer E c₁) (omega arith) z
      (λ xs w. (xs, refl, w.0, same_start i.records c₁.code xs v.records c₁.records w.1)) in
      let c₃ : Code E 0 i g (W₁ × W₂) (λ xs. Else B ms u.line v.line r c n xs × (g.records ≡ i.records ++ xs)) =
      longer E (patched E {d = 0} {W = W₁ × W₂} {A = A} {C = Else B ms u.line v.line r c n} c₂ (with_a T₁) (length u.records) m (ends_at i u a.code a.records)
      (λ xs w e. rw w.1 (else_parts B u.line v.line r c T₁ m n ms w.0 w.2 w.3 (ap length e ∙ length-append i.records xs ∙ rw w.1 refl)))) in
      let c₄ : Code E 0 i f (W₁ × W₂ × W₃) (Both B ms ns u.line v.line r c n) =
      seq E {d₁ = 0} {d₂ = 0} {W = W₁ × W₂ × W₃} {A = λ xs. Else B ms u.line v.line r c n xs × (g.records ≡ i.records ++ xs)} {B = Block g ns} {C = Both B ms ns u.line v.line r c n} c₃ d (λ w. (w.0, w.1)) (λ w. w.2)
      (λ xs ys w y.
      let p = w.0 in
      let h : length g.records ≡ p.target = omega (
        arith,
        ap length w.1,
        length-append i.records xs,
        ap length p.split,
        length-append ((p.test ++ (rec 19 u.line r p.target 0 0 ∷ [])) ++ p.body) (z ∷ []),
        length-append (p.test ++ (rec 19 u.line r p.target 0 0 ∷ [])) p.body,
        length-append p.test (rec 19 u.line r p.target 0 0 ∷ []),
        p.here,
      ) in
      record { front = xs; other = ys; split = refl; parts = p; good = subst (λ (x : ℕ). Good E x ns ys) h y }) in
      patched E {d = 0} {W = W₁ × W₂ × W₃} {A = Both B ms ns u.line v.line r c n} {C = Block i (ms ++ ns)} c₄ (with_a (length f.records)) (length v.records) n (ends_at i v c₁.code c₁.records)
      (λ xs w e. both_good B u.line v.line r c (length f.records) n ms ns xs w (ap length e ∙ length-append i.records xs))

  -- the same under more that is known
  under : {W U : Type 0} {i f : Ideal} {A : List Rec → Type 0} → Code E 0 i f W A → (U → W) → Code E 0 i f U A
  under {W} {A = A} a v = with_ok E {W = W} {A = A} 0 (omega arith) a v (λ w xs u. u)

  mutual
    unfolding compile_stmt compile_stmts

    pub stmt_code : (x : Stmt) (i : Ideal) → Code E 0 i (compile_stmt R t base x i) (WholeStmt x × FormedStmt x) (Block i (each_stmt t (around t) base x i))
    stmt_code (rem r) i = flat_stmt (StmtPiles.rem_code E few t base r i) (λ w. tt)
    stmt_code (op₀ k r) i = flat_stmt (OpPiles.op0 E few t base k r i) (λ w. w.1)
    stmt_code (op₁ k r a) i = flat_stmt (OpPiles.op1 E few t base k r a i) (λ w. (w.0, w.1))
    stmt_code (op₂ k r a b) i = flat_stmt (OpPiles.op2 E few t base k r a b i) (λ w. (w.0, w.1))
    stmt_code (op₃ k r a b c) i = flat_stmt (OpPiles.op3 E few t base k r a b c i) (λ w. (((w.0.0, w.0.1), w.0.2), w.1))
    stmt_code (draw k r es) i = flat_stmt (OpPiles.draw_code E few t base k r es i) (λ w. (w.0, w.1))
    stmt_code (set k r a b) i = flat_stmt (OpPiles.set_code E few t base k r a b i) (λ w. (((w.0.0, w.1.1), w.0.1), w.1.0))
    stmt_code (data_list r ds) i = flat_stmt (OpPiles.data_code E few t base ds i) (λ w. tt)
    stmt_code (def r n p e) i = stmt_of [] (under (def_code r n p e i) (λ w. w.0))
    stmt_code (dim r es) i = flat_stmt (OpPiles.dim_code E few t base es i) (λ w. w.0)
    stmt_code (field r e fs) i =
        flat_stmt (OpPiles.field_code E few t base r e fs i)
        (λ w. (
          all_map (λ (f : FieldSpec). (WholeExpr f.len × WholeExpr f.var) × IsPlace f.var) (λ (f : FieldSpec). WholeExpr f.len × (WholeExpr f.var × IsPlace f.var)) fs (λ f u. (u.0.0, (u.0.1, u.1)))
              (all_pair (λ (f : FieldSpec). WholeExpr f.len × WholeExpr f.var) (λ (f : FieldSpec). IsPlace f.var) fs w.0.1 w.1),
          w.0.0,
        ))
    stmt_code (for r v a b e) i = flat_stmt (StmtPiles.for_code E few t base r v a b e i) (λ w. (w.0.0, (w.0.1, w.0.2, w.0.3)))
    stmt_code (go r sub g) i = flat_stmt (StmtPiles.go_code E few t base r sub g i) (λ w. tt)
    stmt_code (if_then r e xs) i =
        let u = compile_typed R t base Real e i in
        stmt_of (each_stmts t (around t) base xs (if_jump R t base r u))
        (under (then_of_if r unknown i u (compile_stmts R t base xs (if_jump R t base r u)) (each_stmts t (around t) base xs (if_jump R t base r u)) (pushed E few t base Real tt e i) (stmts_code xs (if_jump R t base r u))) (λ w. (w.0.0, (w.0.1, w.1))))
    stmt_code (if_else r e xs ys) i =
        let u = compile_typed R t base Real e i in
        let v = compile_stmts R t base xs (if_jump R t base r u) in
        let g = end_here R t base (length u.records) (else_jump R t base r v) in
        stmt_of (each_stmts t (around t) base xs (if_jump R t base r u) ++ each_stmts t (around t) base ys g)
        (under (else_of r unknown i u v (compile_stmts R t base ys g) (each_stmts t (around t) base xs (if_jump R t base r u)) (each_stmts t (around t) base ys g) (pushed E few t base Real tt e i) (stmts_code xs (if_jump R t base r u)) (stmts_code ys g))
        (λ w. (w.0.0, (w.0.1, w.1.0), (w.0.2, w.1.1))))
    stmt_code (input r src es) i = flat_stmt (StmtPiles.input_code E few t base r src es i) (λ w. ((w.0.1, w.1), w.0.0))
    stmt_code (assign r a b) i = flat_stmt (StmtPiles.let_code E few t base r a b i) (λ w. ((w.0.0, w.1), w.0.1))
    stmt_code (load r es) i = flat_stmt (StmtPiles.load_code E few t base r es i) (λ w. w.0)
    stmt_code (locate r a b) i = flat_stmt (StmtPiles.locate_code E few t base a b i) (λ w. w.0)
    stmt_code (next_of r vs) i = flat_stmt (StmtPiles.next_code E few t base r vs i) (λ w. w.0)
    stmt_code (on r e gs sub) i = flat_stmt (StmtPiles.on_code E few t base r e gs sub i) (λ w. w.0)
    stmt_code (open_file r f m e l) i = flat_stmt (StmtPiles.open_code E few t base r f m e l i) (λ w. ((w.0.0, w.0.2), w.0.1, w.0.3))
    stmt_code (print r xs) i = flat_stmt (StmtPiles.print_code E few t base r xs i) (λ w. (w.0, w.1))
    stmt_code (read r es) i = flat_stmt (StmtPiles.read_code E few t base es i) (λ w. (w.0, w.1))
    stmt_code (restore r g) i = flat_stmt (StmtPiles.restore_code E few t base r g i) (λ w. tt)
    stmt_code (swap r a b) i = flat_stmt (StmtPiles.swap_code E few t base r a b i) (λ w. ((w.0.0, w.1.0), (w.0.1, w.1.1)))
    stmt_code (system r) i = stmt_of [] (fails E i 12 i.line r 0 (Unit {0} × Unit {0}) (Block i []))
    stmt_code (while r e) i = stmt_of [] (under (while_code r e i) (λ w. w.0))
    stmt_code (write r f ds) i = flat_stmt (StmtPiles.write_code E few t base r f ds i) (λ w. w.0)

    pub stmts_code : (xs : Stmts) (i : Ideal) → Code E 0 i (compile_stmts R t base xs i) (WholeStmts xs × FormedStmts xs) (Block i (each_stmts t (around t) base xs i))
    stmts_code end i = stay E i (Unit {0} × Unit {0}) (Block i []) (λ w. good_nil E (length i.records))
    stmts_code (then x xs) i =
        under (then_of i (compile_stmt R t base x i) (compile_stmts R t base xs (compile_stmt R t base x i)) (each_stmt t (around t) base x i) (each_stmts t (around t) base xs (compile_stmt R t base x i)) (stmt_code x i) (stmts_code xs (compile_stmt R t base x i)))
        (λ w. ((w.0.0, w.1.0), (w.0.1, w.1.1)))
