-- The other statements without targets of their own.
use Rattle.std.proofs.Common.{◌≡◌, ℕ, zero, suc, ◌+◌, ◌≤◌, Bool, true, false, eqb, ltb, ◌⊎◌, List, [], ◌∷◌, ◌++◌, length, get_or, replicate, sym, refl, ap, ◌∙◌, subst, inl, inr, append-nil, arith, eq-eqb, ne_eqb, eqb-true}
use Rattle.recorder.specs.Calls.{Awaited, for_label, label_word, range_number, pending_label, pack, goto_call, gosub_call, emit_goto, emit_gosub, value_dropped}
use Rattle.recorder.specs.Numbers.{unknown}
use Rattle.recorder.specs.Word.{pick, both, either, flag_of}
use Rattle.recorder.specs.declared.word.Range.{Range}
use Rattle.recorder.specs.Recorder.{Recorder, Named}
use Rattle.recorder.specs.Ideal.{Rec, rec, Entry, byte_kind, Ideal}
use Rattle.recorder.specs.Closing.{rules_r}
use Rattle.sheet.specs.Tree.{Opt, absent, given, Expr, ident, string_lit, number_lit, sys_func_call, user_func_call, binary, unary, index, inkey, error, Exprs, none, more, expr_range, count, Target, OnTarget, Len, WriteElement, PrintElement, value, comma, semicolon, InputSource, keyboard, file}
use Rattle.rules.specs.declared.types.«Type».{«Type» as Ty}
use Rattle.rules.specs.declared.types.«Type».TheVariants.{Integer, Real, String, Error}
use Rattle.rules.specs.Types.{matches_type, exact_matches, type_number}
use Rattle.rules.specs.Tables.{signatures, signature_of, wanted, tab, spc, real_of_real}
use Rattle.rules.specs.Expr.{Out, compile_sym, opt_real_sym, real_sym, text_node, compile_expr, compile_args, compile_typed, compile_lvalue}
use Rattle.rules.specs.Stmt
use Rattle.rules.specs.Missing.{All, Present, IfGiven, WholeExpr, WholeExprs, WholeElement, WholeSource, WholeWrite, value_calls, ends_well}
use Rattle.rules.specs.Piles.{num, txt, plc, Pile, Want, a_text, any_place, fits, taken, kind_of, numbers, effect_of, step}
use Rattle.rules.proofs.PileLaws.{Flow, Side, Jumps, is_jump_call, NoTarget, Plain, plain_one, plain_call, flow_append, Turns}
use Rattle.rules.proofs.Grown.{Code, seq, put, stay, emits, fails, warns, claims_nothing, with_ok, one_of_two, behind_error}
use Rattle.rules.proofs.ExprPiles.{Proper, same_kind, Clear, arg_pile, taken_numbers, Few, Known, Typed, number_step, sym_code, real_code, name_code, text_code, expr_code, args_code}
use Rattle.rules.proofs.Blocks.{untargeted}
use Rattle.rules.proofs.OpPiles.{IsPlace, IsInput, AllExprs, Filled, FilledCall, FormedElement, two, flat_two, flat_of, turn, closes, pushed, pushed_on, Placed, place_code, surplus_code, added_code, none_two}

-- so many places upon a pile
abbrev Over : ℕ → Pile → Pile → Type 0
Over zero P Q = Q ≡ P
Over (suc n) P Q = (x : Ty) × (U : Pile) × (Q ≡ plc x ∷ U) × Over n P U

over_more : (n : ℕ) (x : Ty) (P Q : Pile) → Over n (plc x ∷ P) Q → Over (suc n) P Q
over_more zero x P Q e = (x, P, e, refl)
over_more (suc n) x P Q o = (o.0, o.1, o.2, over_more n x P o.1 o.3)

taken_over : (n : ℕ) (P Q : Pile) → Over n P Q → taken (replicate n any_place) Q ≡ given P
unfolding taken
taken_over zero P Q o = ap given o
taken_over (suc n) P Q o = rw o.2 (taken_over n P o.1 o.3)

-- some pile, of which something is said, behind some records
pub record Reaches (E : List Entry) (xs : List Rec) (P : Pile) (X : Pile → Type 0) : Type 0 where
  pub top : Pile
  pub said : X top
  pub flow : Plain E xs P top

tab_or_spc : (k : ℕ) → either (eqb k tab) (eqb k spc) ≡ true → signature_of k ≡ real_of_real
unfolding signature_of
tab_or_spc k e = go (eqb k 27) refl (eqb k 28) refl e
  where
    go : (a : Bool) → eqb k 27 ≡ a → (b : Bool) → eqb k 28 ≡ b → either a b ≡ true → get_or signatures k real_of_real ≡ real_of_real
    go true f b g h = rw (eqb-true k 27 f) refl
    go false f true g h = rw (eqb-true k 28 g) refl
    go false f false g h = let z : ◌≡◌ {A = ℕ} 0 1 = cc in absurd (omega arith)

sym_exact : (x y : Ty) → exact_matches x y ≡ true → exact_matches y x ≡ true
sym_exact x y e = eq-eqb (type_number y) (type_number x) (sym (eqb-true (type_number x) (type_number y) e))

-- the call that stores into a place
abbrev Assigns : Ty → ℕ → Type 0
Assigns Integer c = c ≡ 16
Assigns Real c = c ≡ 17
Assigns String c = c ≡ 18
Assigns Error c = ⊥

-- calls that take one number
abbrev Takes1 : ℕ → Type 0
Takes1 c = (c ≡ 36) ⊎ ((c ≡ 37) ⊎ ((c ≡ 40) ⊎ (c ≡ 41)))

taken_append : (ws us : List Want) (P Q : Pile) → taken ws P ≡ given Q → taken (ws ++ us) P ≡ taken us Q
unfolding taken
taken_append [] us P Q e = let z : P ≡ Q = cc in rw z
taken_append (w ∷ ws) us [] Q e = let z : ◌≡◌ {A = ℕ} 0 1 = cc in absurd (omega arith)
taken_append (w ∷ ws) us (k ∷ P) Q e = go (fits w k) e (taken_append ws us P Q)
  where
    go : (b : Bool) → pick b (taken ws P) absent ≡ given Q → (taken ws P ≡ given Q → taken (ws ++ us) P ≡ taken us Q) → pick b (taken (ws ++ us) P) absent ≡ taken us Q
    go true q f = f q
    go false q f = let z : ◌≡◌ {A = ℕ} 0 1 = cc in absurd (omega arith)

module _ (E : List Entry) (few : Few E) (t : List ℕ) (base : ℕ) where
  abbrev R : Recorder Ideal
  R = rules_r t

  abbrev Fl : List Rec → Type 0
  Fl xs = Plain E xs [] []

  abbrev Nothing : List Rec → Type 0
  Nothing xs = xs ≡ []

  abbrev Typ : Ty → List Rec → Type 0
  Typ x xs = Typed E few t base x xs

  abbrev KnownHere : ℕ → Ty → List Rec → Type 0
  KnownHere n x xs = Known E few t base n x xs

  abbrev Pla : Ty → List Rec → Type 0
  Pla x xs = Placed E few t base x xs

  -- a no-op
  pub rem_code : (r : Range) (i : Ideal) → Code E 0 i (R.emit i 1 r 0 0 0) (Unit {0}) Fl
  unfolding step effect_of taken
  rem_code r i = emits E i (rec 1 i.line r 0 0 0) (Unit {0}) Fl (λ w. plain_one E (rec 1 i.line r 0 0 0) [] [] refl refl)

  -- FOR
  for_step : (l : ℕ) (r : Range) (n : ℕ) (e : Opt Expr) → step E (rec 23 l r n (Stmt.step_flag e) 0) (replicate (2 + Stmt.step_flag e) num ++ []) ≡ given []
  unfolding step effect_of
  for_step l r n e = rw (taken_numbers (2 + Stmt.step_flag e) []) refl

  step_code : (e : Opt Expr) (i : Ideal) → Code E 0 i (Stmt.compile_step R t base e i) (IfGiven WholeExpr e) (Turns E (λ P. num ∷ num ∷ P) (λ P. replicate (2 + Stmt.step_flag e) num ++ P))
  step_code absent i = stay E i (Unit {0}) (Turns E (λ P. num ∷ num ∷ P) (λ P. num ∷ num ∷ P)) (λ w P. Flow.done)
  step_code (given e) i = pushed_on E few t base (λ P. num ∷ num ∷ P) Real tt e i

  for_body : (r : Range) (v : Opt Range) (a b : Expr) (e : Opt Expr) (i : Ideal)
      → Code E 1 i (Stmt.compile_step R t base e (compile_typed R t base Real b (compile_typed R t base Real a (opt_real_sym R t base v i).state)))
      (WholeExpr a × WholeExpr b × IfGiven WholeExpr e) (Turns E (λ P. P) (λ P. replicate (2 + Stmt.step_flag e) num ++ P))
  for_body r v a b e i =
      let j = (opt_real_sym R t base v i).state in
      let m = compile_typed R t base Real a j in
      let n = compile_typed R t base Real b m in
      let W = WholeExpr a × WholeExpr b × IfGiven WholeExpr e in
      seq E {d₁ = 1} {d₂ = 0} {W = W} {A = Turns E (λ P. P) (λ P. num ∷ num ∷ P)} {B = Turns E (λ P. num ∷ num ∷ P) (λ P. replicate (2 + Stmt.step_flag e) num ++ P)} {C = Turns E (λ P. P) (λ P. replicate (2 + Stmt.step_flag e) num ++ P)}
      (seq E {d₁ = 1} {d₂ = 0} {W₁ = Unit {0}} {W = WholeExpr a × WholeExpr b} {A = Nothing} {B = Turns E (λ P. P) (λ P. num ∷ num ∷ P)} {C = Turns E (λ P. P) (λ P. num ∷ num ∷ P)} (name_code E few t base v i)
      (two E few t base (λ P. P) (λ P. num ∷ P) (λ P. num ∷ num ∷ P) (pushed E few t base Real tt a j) (pushed_on E few t base (λ P. num ∷ P) Real tt b m)) (λ w. tt) (λ w. w) (λ xs ys u v P. rw u (v P)))
      (step_code e n) (λ w. (w.0, w.1)) (λ w. w.2) (λ xs ys u v P. flow_append (u P) (v P))

  pub for_code : (r : Range) (v : Opt Range) (a b : Expr) (e : Opt Expr) (i : Ideal) → Code E 0 i (Stmt.compile_for R t base r v a b e i) (Present v × (WholeExpr a × WholeExpr b × IfGiven WholeExpr e)) Fl
  unfolding Stmt.compile_for
  for_code r absent a b e i = claims_nothing E 0 (⊥ × (WholeExpr a × WholeExpr b × IfGiven WholeExpr e)) Fl (λ w. w.0) (for_body r absent a b e i)
  for_code r (given v) a b e i =
      with_ok E {W = WholeExpr a × WholeExpr b × IfGiven WholeExpr e} {A = Fl} 0 (omega arith)
      (closes E few t base (λ P. replicate (2 + Stmt.step_flag e) num ++ P) (for_body r (given v) a b e i) (omega arith) (rec 23 _ r _ (Stmt.step_flag e) 0) refl (for_step _ r _ e)) (λ w. w.1) (λ w xs u. u)

  -- a jump that waits for its label
  -- its call: GOSUB's or GOTO's
  abbrev jump_call : Bool → ℕ
  jump_call sub = pick sub gosub_call goto_call

  waiting_side : (l : ℕ) (r : Range) (sub : Bool) (a b c : ℕ) (rs : List Rec) → Side NoTarget NoTarget (rec (jump_call sub) l r a (pending_label b) c) [] rs
  waiting_side l r sub a b c rs = go sub
    where
      no : eqb (b + 1) 0 ≡ false
      no = ne_eqb (b + 1) 0 (λ e. omega arith)

      go : (x : Bool) → Side NoTarget NoTarget (rec (jump_call x) l r a (b + 1) c) [] rs
      go true = record { empty_behind = λ q. refl; fixed = rw no tt; body = λ e. absurd (omega arith); on = λ e. absurd (omega arith) }
      go false = record { empty_behind = λ q. refl; fixed = rw no tt; body = λ e. absurd (omega arith); on = λ e. absurd (omega arith) }

  waiting_step : (l : ℕ) (r : Range) (sub : Bool) (a b c : ℕ) → step E (rec (jump_call sub) l r a b c) [] ≡ given []
  unfolding step effect_of taken
  waiting_step l r true a b c = refl
  waiting_step l r false a b c = refl

  pub go_code : (r : Range) (sub : ℕ) (g : Opt Target) (i : Ideal) → Code E 0 i (Stmt.compile_go R t base r sub g i) (Unit {0}) Fl
  unfolding Stmt.compile_go
  go_code r sub g i = go (eqb sub 1)
    where
      w : Awaited
      w = for_label (Stmt.target_label g) (Stmt.target_range r g)

      waits : (x : Bool) → Code E 0 i (R.emit i (jump_call x) r unknown (label_word w) (range_number w)) (Unit {0}) Fl
      waits x =
          emits E i (rec (jump_call x) i.line r unknown (label_word w) (range_number w)) (Unit {0}) Fl
          (λ u. Flow.go (waiting_step i.line r x unknown (label_word w) (range_number w)) (waiting_side i.line r x unknown (Stmt.target_label g) (range_number w) []) Flow.done)

      go : (x : Bool) → Code E 0 i (pick x (emit_gosub (R.emit i) w r) (emit_goto (R.emit i) w r)) (Unit {0}) Fl
      go true = waits true
      go false = waits false

  -- ON: so many jumps stand behind it
  abbrev Jumping : ℕ → List Rec → Type 0
  Jumping n xs = Jumps n xs × Fl xs

  jumps : (sub : Bool) → is_jump_call (jump_call sub) ≡ true
  jumps true = refl
  jumps false = refl

  jump_of : (sub : Bool) (a b c n : ℕ) (r : Range) (i f : Ideal) → Code E 0 (R.emit i (jump_call sub) r a (pending_label b) c) f (Unit {0}) (Jumping n) → Code E 0 i f (Unit {0}) (Jumping (suc n))
  jump_of sub a b c n r i f x =
      let q = rec (jump_call sub) i.line r a (pending_label b) c in
      seq E {d₁ = 0} {d₂ = 0} {W₁ = Unit {0}} {W₂ = Unit {0}} {A = λ xs. xs ≡ q ∷ []} {B = Jumping n} {C = Jumping (suc n)} (emits E i q (Unit {0}) (λ xs. xs ≡ q ∷ []) (λ w. refl)) x (λ w. w) (λ w. w)
      (λ xs ys u v. rw u ((jumps sub, v.0), Flow.go (waiting_step i.line r sub a (pending_label b) c) (waiting_side i.line r sub a b c ys) v.1))

  waits_of : (sub : Bool) (w : Awaited) (l : ℕ) (lr : Range) (n : ℕ) (r : Range) (i f : Ideal) → w ≡ for_label l lr → Code E 0 (pick sub (emit_gosub (R.emit i) w r) (emit_goto (R.emit i) w r)) f (Unit {0}) (Jumping n)
      → Code E 0 i f (Unit {0}) (Jumping (suc n))
  waits_of true w l lr n r i f e x = jump_of true unknown l (pack lr) n r i f (rw e at x)
  waits_of false w l lr n r i f e x = jump_of false unknown l (pack lr) n r i f (rw e at x)

  jumps_code : (sub : ℕ) (gs : List OnTarget) (i : Ideal) → Code E 0 i (Stmt.on_jumps R t base sub gs i) (Unit {0}) (Jumping (length gs))
  unfolding Stmt.on_jumps
  jumps_code sub [] i = stay E i (Unit {0}) (Jumping 0) (λ w. (tt, Flow.done))
  jumps_code sub (g ∷ gs) i =
      waits_of (eqb sub 1) (for_label (Stmt.label_or0 g.label) g.range) (Stmt.label_or0 g.label) g.range (length gs) g.range i _ refl
      (jumps_code sub gs (Stmt.pending_jump R t base sub g.range (Stmt.label_or0 g.label) g.range i))

  on_step : (l : ℕ) (r : Range) (n : ℕ) → step E (rec 22 l r n 0 0) (num ∷ []) ≡ given []
  unfolding step effect_of taken
  on_step l r n = refl

  pub on_code : (r : Range) (e : Expr) (gs : List OnTarget) (sub : ℕ) (i : Ideal) → Code E 0 i (Stmt.compile_on R t base r e gs sub i) (WholeExpr e) Fl
  unfolding Stmt.compile_on
  on_code r e gs sub i =
      let j = compile_typed R t base Real e i in
      let q = rec 22 j.line r (length gs) 0 0 in
      let m = R.emit j 22 r (length gs) 0 0 in
      let rest : Code E 0 j (Stmt.on_jumps R t base sub gs m) (Unit {0}) (λ xs. Plain E xs (num ∷ []) []) =
      seq E {d₁ = 0} {d₂ = 0} {W₁ = Unit {0}} {W₂ = Unit {0}} {A = λ xs. xs ≡ q ∷ []} {B = Jumping (length gs)} {C = λ xs. Plain E xs (num ∷ []) []} (emits E j q (Unit {0}) (λ xs. xs ≡ q ∷ []) (λ w. refl)) (jumps_code sub gs m) (λ w. w) (λ w. w)
      (λ xs ys u v. rw u (Flow.go (on_step j.line r (length gs)) (record { empty_behind = λ z. refl; fixed = tt; body = λ z. absurd (omega arith); on = λ z. v.0 }) v.1)) in
      seq E {d₁ = 0} {d₂ = 0} {W₂ = Unit {0}} {W = WholeExpr e} {A = Turns E (λ P. P) (λ P. num ∷ P)} {B = λ xs. Plain E xs (num ∷ []) []} {C = Fl} (pushed E few t base Real tt e i) rest (λ w. w) (λ w. tt) (λ xs ys u v. flow_append (u []) v)

  -- RESTORE
  restore_step : (l : ℕ) (r : Range) (a b c : ℕ) → Fl (rec 31 l r a b c ∷ [])
  unfolding step effect_of taken
  restore_step l r a b c = plain_one E (rec 31 l r a b c) [] [] refl refl

  pub restore_code : (r : Range) (g : Opt Target) (i : Ideal) → Code E 0 i (Stmt.compile_restore R t base r g i) (Unit {0}) Fl
  restore_code r absent i = emits E i (rec 31 i.line r 0 0 0) (Unit {0}) Fl (λ w. restore_step i.line r 0 0 0)
  restore_code r (given g) i = emits E i _ (Unit {0}) Fl (λ w. restore_step i.line r 0 (pending_label g.label) (pack g.range))

  -- INPUT's variables
  abbrev Places : ℕ → List Rec → Type 0
  Places n xs = (P : Pile) → Reaches E xs P (Over n P)

  fn_step : (l : ℕ) (r : Range) (n a : ℕ) → Turns E (λ P. P) (λ P. plc Real ∷ P) (rec 9 l r n a 0 ∷ [])
  unfolding step effect_of taken
  fn_step l r n a P = plain_one E (rec 9 l r n a 0) P (plc Real ∷ P) refl refl

  one_place : (x : Ty) (xs : List Rec) → Turns E (λ P. P) (λ P. plc x ∷ P) xs → Places 1 xs
  one_place x xs a P = record { top = plc x ∷ P; said = (x, P, refl, refl); flow = a P }

  input_fn_lem : (r : Range) (f : Opt Range) (e : Expr) (i : Ideal) → Code E 0 i (Stmt.input_fn R t base r f e i) (Present f) (Places 1)
  input_fn_lem r absent e i = go (Stmt.is_ident e)
    where
      go : (b : Bool) → Code E 0 i (Stmt.input_arg_by R t base b e i).state ⊥ (Places 1)
      go true = claims_nothing E 0 ⊥ (Places 1) (λ w. w) (real_code E few t base (expr_range e) i)
      go false = fails E i 12 i.line (expr_range e) 0 ⊥ (Places 1)
  input_fn_lem r (given fr) e i = go (Stmt.is_ident e)
    where
      x : Named Ideal
      x = real_sym R t base fr i

      go : (b : Bool) → Code E 0 i (Stmt.fn_place R t base (given fr) b r x.number (Stmt.input_arg_by R t base b e x.state).number (Stmt.input_arg_by R t base b e x.state).state) (Unit {0}) (Places 1)
      go false = behind_error E 12 x.state.line (expr_range e) 0 (Unit {0}) (Places 1) (real_code E few t base fr i)
      go true =
          let y = real_sym R t base (expr_range e) x.state in
          put E {d = 2} {W = Unit {0}} {A = Nothing} {C = Places 1}
          (seq E {d₁ = 1} {d₂ = 1} {W = Unit {0}} {A = Nothing} {B = Nothing} {C = Nothing} (real_code E few t base fr i) (real_code E few t base (expr_range e) x.state) (λ w. w) (λ w. w) (λ xs ys u v. rw (u, v)))
          (omega arith) (rec 9 y.state.line r x.number y.number 0)
          (λ xs u. rw u (one_place Real (rec 9 y.state.line r x.number y.number 0 ∷ []) (fn_step y.state.line r x.number y.number)))

  fn_input_lem : (b : Bool) (r : Range) (f : Opt Range) (e : Expr) (i : Ideal) → Code E 0 i (Stmt.fn_input R t base b r f e i) (Present f) (Places 1)
  fn_input_lem true r f e i = fails E i 12 i.line r 0 (Present f) (Places 1)
  fn_input_lem false r f e i = input_fn_lem r f e i

  lvalue_place : (e : Expr) (i : Ideal) → Code E 0 i (compile_lvalue R t base e i).state (WholeExpr e × IsPlace e) (Places 1)
  lvalue_place e i =
      with_ok E {A = Pla (compile_lvalue R t base e i).ty} 0 (omega arith) (place_code E few t base e i) (λ w. w) (λ w xs u. one_place (compile_lvalue R t base e i).ty xs u.flow)

  input_var_lem : (b : Bool) (e : Expr) (i : Ideal) → Code E 0 i (Stmt.input_var R t base b e i) (WholeExpr e × IsInput e) (Places 1)
  unfolding Stmt.input_var
  input_var_lem b (user_func_call r f e) i = with_ok E {W = Present f} {A = Places 1} 0 (omega arith) (fn_input_lem b r f e i) (λ w. w.0.0) (λ w xs u. u)
  input_var_lem b (ident r) i = lvalue_place (ident r) i
  input_var_lem b (index r n es) i = lvalue_place (index r n es) i
  input_var_lem b (error r) i = lvalue_place (error r) i
  input_var_lem b (string_lit r) i = claims_nothing E 0 _ (Places 1) (λ w. w.1) (lvalue_place (string_lit r) i)
  input_var_lem b (number_lit r e m) i = claims_nothing E 0 _ (Places 1) (λ w. w.1) (lvalue_place (number_lit r e m) i)
  input_var_lem b (sys_func_call r f k es) i = claims_nothing E 0 _ (Places 1) (λ w. w.1) (lvalue_place (sys_func_call r f k es) i)
  input_var_lem b (binary r a o k c) i = claims_nothing E 0 _ (Places 1) (λ w. w.1) (lvalue_place (binary r a o k c) i)
  input_var_lem b (unary r k e) i = claims_nothing E 0 _ (Places 1) (λ w. w.1) (lvalue_place (unary r k e) i)
  input_var_lem b (inkey r) i = claims_nothing E 0 _ (Places 1) (λ w. w.1) (lvalue_place (inkey r) i)

  more_places : (n : ℕ) (xs ys : List Rec) → Places 1 xs → Places n ys → Places (suc n) (xs ++ ys)
  more_places n xs ys a b P =
      let u = a P in
      let v = b u.top in
      let o : Over n (plc u.said.0 ∷ P) v.top = subst (λ (z : Pile). Over n z v.top) (u.said.2 ∙ ap (λ (z : Pile). plc u.said.0 ∷ z) u.said.3) v.said in
      record { top = v.top; said = over_more n u.said.0 P v.top o; flow = flow_append u.flow v.flow }

  input_vars_lem : (b : Bool) (es : Exprs) (i : Ideal) → Code E 0 i (Stmt.input_vars R t base b es i) (WholeExprs es × AllExprs IsInput es) (Places (count es))
  unfolding Stmt.input_vars count
  input_vars_lem b none i = stay E i (Unit {0} × Unit {0}) (Places 0) (λ w P. record { top = P; said = refl; flow = Flow.done })
  input_vars_lem b (more e es) i =
      seq E {d₁ = 0} {d₂ = 0} {W = (WholeExpr e × WholeExprs es) × (IsInput e × AllExprs IsInput es)} {A = Places 1} {B = Places (count es)} {C = Places (suc (count es))}
      (input_var_lem b e i) (input_vars_lem b es (Stmt.input_var R t base b e i)) (λ w. (w.0.0, w.1.0)) (λ w. (w.0.1, w.1.1)) (more_places (count es))

  keyboard_step : (l : ℕ) (r : Range) (n : ℕ) (P Q : Pile) → Over n P Q → step E (rec 32 l r 0 n 0) Q ≡ given P
  unfolding step effect_of
  keyboard_step l r n P Q o = rw (taken_over n P Q o) refl

  prompt_step : (l : ℕ) (r : Range) (n : ℕ) (P Q : Pile) → Over n P Q → step E (rec 32 l r 1 n 0) (txt ∷ Q) ≡ given P
  unfolding step effect_of taken
  prompt_step l r n P Q o = rw (taken_over n P Q o) refl

  file_step : (l : ℕ) (r : Range) (n : ℕ) (P Q : Pile) → Over n P Q → step E (rec 33 l r n 0 0) (num ∷ Q) ≡ given P
  unfolding step effect_of taken
  file_step l r n P Q o = rw (taken_over n P Q o) refl

  source_code : {W : Type 0} (r : Range) (n : ℕ) (src : InputSource) (i j : Ideal) → Code E 0 i j W (Places n) → Code E 0 i (Stmt.input_source R t base r n src j) (W × WholeSource src) Fl
  source_code {W} r n (keyboard absent) i j a =
      with_ok E {W = W} {A = Fl} 0 (omega arith)
      (put E {d = 0} {W = W} {A = Places n} {C = Fl} a (omega arith) (rec 32 j.line r 0 n 0)
      (λ xs u. flow_append (u []).flow (plain_one E (rec 32 j.line r 0 n 0) (u []).top [] refl (keyboard_step j.line r n [] (u []).top (u []).said)))) (λ w. w.0) (λ w xs u. u)
  source_code {W} r n (keyboard (given p)) i j a =
      let m = text_node R t base p j in
      let A : List Rec → Type 0 = λ xs. Reaches E xs [] (λ Q. (U : Pile) × (Q ≡ txt ∷ U) × Over n [] U) in
      with_ok E {W = W} {A = Fl} 0 (omega arith)
      (put E {d = 0} {W = W} {A = A} {C = Fl}
      (seq E {d₁ = 0} {d₂ = 0} {W₂ = Unit {0}} {W = W} {A = Places n} {B = Typ String} {C = A} a (text_code E few t base p j) (λ w. w) (λ w. tt)
      (λ xs ys u v. record { top = txt ∷ (u []).top; said = ((u []).top, refl, (u []).said); flow = flow_append (u []).flow (v.flow (u []).top) }))
      (omega arith) (rec 32 m.line r 1 n 0)
      (λ xs u. flow_append u.flow (plain_one E (rec 32 m.line r 1 n 0) u.top [] refl (rw u.said.1 (prompt_step m.line r n [] u.said.0 u.said.2))))) (λ w. w.0) (λ w xs u. u)
  source_code {W} r n (file e) i j a =
      let m = compile_typed R t base Real e j in
      let A : List Rec → Type 0 = λ xs. Reaches E xs [] (λ Q. (U : Pile) × (Q ≡ num ∷ U) × Over n [] U) in
      put E {d = 0} {W = W × WholeExpr e} {A = A} {C = Fl}
      (seq E {d₁ = 0} {d₂ = 0} {W = W × WholeExpr e} {A = Places n} {B = Turns E (λ P. P) (λ P. num ∷ P)} {C = A} a (pushed E few t base Real tt e j) (λ w. w.0) (λ w. w.1)
      (λ xs ys u v. record { top = num ∷ (u []).top; said = ((u []).top, refl, (u []).said); flow = flow_append (u []).flow (v (u []).top) }))
      (omega arith) (rec 33 m.line r n 0 0)
      (λ xs u. flow_append u.flow (plain_one E (rec 33 m.line r n 0 0) u.top [] refl (rw u.said.1 (file_step m.line r n [] u.said.0 u.said.2))))

  pub input_code : (r : Range) (src : InputSource) (es : Exprs) (i : Ideal) → Code E 0 i (Stmt.compile_input R t base r src es i) ((WholeExprs es × AllExprs IsInput es) × WholeSource src) Fl
  unfolding Stmt.compile_input
  input_code r src es i = source_code r (count es) src i (Stmt.input_vars R t base (Stmt.is_file src) es i) (input_vars_lem (Stmt.is_file src) es i)

  -- LET
  assign_step : (l : ℕ) (r : Range) (x y : Ty) → Proper x → Proper y → matches_type x y ≡ true → (c : ℕ) → Assigns x c → (P : Pile) → step E (rec c l r 0 0 0) (kind_of y ∷ plc x ∷ P) ≡ given P
  unfolding step effect_of taken
  assign_step l r x y p q e c a P = rw (← same_kind x y p q e) (go x a)
    where
      go : (x : Ty) → Assigns x c → step E (rec c l r 0 0 0) (kind_of x ∷ plc x ∷ P) ≡ given P
      go Integer a = rw a refl
      go Real a = rw a refl
      go String a = rw a refl
      go Error a = absurd a

  assign_plain : (x : Ty) (c : ℕ) → Assigns x c → plain_call c ≡ true
  assign_plain Integer c a = rw a refl
  assign_plain Real c a = rw a refl
  assign_plain String c a = rw a refl
  assign_plain Error c a = absurd a

  -- two kinds fit, or there is a note
  fit_code : (b : Bool) (r : Range) (i : Ideal) → Code E 0 i (pick b i (R.note i 4 r 1)) (Unit {0}) (λ xs. (xs ≡ []) × (b ≡ true))
  fit_code true r i = stay E i (Unit {0}) _ (λ w. (refl, refl))
  fit_code false r i = fails E i 4 i.line r 0 (Unit {0}) _

  store_of : (l : ℕ) (r : Range) (x y : Ty) (c : ℕ) → Assigns x c → (xs : List Rec) → (xs ≡ []) × (matches_type x y ≡ true) → Proper x → Proper y → Turns E (λ P. kind_of y ∷ plc x ∷ P) (λ P. P) (xs ++ (rec c l r 0 0 0 ∷ []))
  store_of l r x y c a xs u p q P = rw u.0 (plain_one E (rec c l r 0 0 0) (kind_of y ∷ plc x ∷ P) P (assign_plain x c a) (assign_step l r x y p q u.1 c a P))

  store_code : (r : Range) (x y : Ty) (i : Ideal) → Code E 0 i (Stmt.assign_node R t base r x y i) (Unit {0}) (λ xs. Proper x → Proper y → Turns E (λ P. kind_of y ∷ plc x ∷ P) (λ P. P) xs)
  unfolding Stmt.assign_node
  store_code r Integer y i = put E {d = 0} {A = λ xs. (xs ≡ []) × (matches_type Integer y ≡ true)} (fit_code (matches_type Integer y) r i) (omega arith) (rec 16 _ r 0 0 0) (store_of _ r Integer y 16 refl)
  store_code r Real y i = put E {d = 0} {A = λ xs. (xs ≡ []) × (matches_type Real y ≡ true)} (fit_code (matches_type Real y) r i) (omega arith) (rec 17 _ r 0 0 0) (store_of _ r Real y 17 refl)
  store_code r String y i = put E {d = 0} {A = λ xs. (xs ≡ []) × (matches_type String y ≡ true)} (fit_code (matches_type String y) r i) (omega arith) (rec 18 _ r 0 0 0) (store_of _ r String y 18 refl)
  store_code r Error y i = stay E i (Unit {0}) _ (λ w p. absurd p)

  pub let_code : (r : Range) (a b : Expr) (i : Ideal) → Code E 0 i (Stmt.compile_let R t base r a b i) ((WholeExpr a × IsPlace a) × WholeExpr b) Fl
  unfolding Stmt.compile_let
  let_code r a b i =
      let p = compile_lvalue R t base a i in
      let q = compile_expr R t base b p.state in
      let W = (WholeExpr a × IsPlace a) × WholeExpr b in
      let A : List Rec → Type 0 = λ xs. Proper p.ty × Proper q.ty × Turns E (λ P. P) (λ P. kind_of q.ty ∷ plc p.ty ∷ P) xs in
      seq E {d₁ = 0} {d₂ = 0} {W₂ = Unit {0}} {W = W} {A = A} {B = λ xs. Proper p.ty → Proper q.ty → Turns E (λ P. kind_of q.ty ∷ plc p.ty ∷ P) (λ P. P) xs} {C = Fl}
      (seq E {d₁ = 0} {d₂ = 0} {W = W} {A = Pla p.ty} {B = Typ q.ty} {C = A} (place_code E few t base a i) (expr_code E few t base b p.state) (λ w. w.0) (λ w. w.1)
      (λ xs ys u v. (u.proper, v.proper, λ P. flow_append (u.flow P) (v.flow (plc p.ty ∷ P)))))
      (store_code r p.ty q.ty q.state) (λ w. w) (λ w. tt) (λ xs ys u v. flow_append (u.2 []) (v u.0 u.1 []))

  -- SWAP
  swap_step : (l : ℕ) (r : Range) (x y : Ty) → exact_matches x y ≡ true → step E (rec 2 l r 58 2 0) (plc y ∷ plc x ∷ []) ≡ given []
  unfolding step
  swap_step l r x y e = rw (sym_exact x y e) refl

  pub swap_code : (r : Range) (a b : Expr) (i : Ideal) → Code E 0 i (Stmt.compile_swap R t base r a b i) ((WholeExpr a × IsPlace a) × (WholeExpr b × IsPlace b)) Fl
  unfolding Stmt.compile_swap
  swap_code r a b i =
      let p = compile_lvalue R t base a i in
      let q = compile_lvalue R t base b p.state in
      let j = pick (exact_matches p.ty q.ty) q.state (R.note q.state 4 r 1) in
      let W = (WholeExpr a × IsPlace a) × (WholeExpr b × IsPlace b) in
      let A : List Rec → Type 0 = λ xs. Turns E (λ P. P) (λ P. plc q.ty ∷ plc p.ty ∷ P) xs in
      let B : List Rec → Type 0 = λ xs. A xs × (exact_matches p.ty q.ty ≡ true) in
      put E {d = 0} {W = W} {A = B} {C = Fl}
      (seq E {d₁ = 0} {d₂ = 0} {W₂ = Unit {0}} {W = W} {A = A} {B = λ xs. (xs ≡ []) × (exact_matches p.ty q.ty ≡ true)} {C = B}
      (seq E {d₁ = 0} {d₂ = 0} {W = W} {A = Pla p.ty} {B = Pla q.ty} {C = A} (place_code E few t base a i) (place_code E few t base b p.state) (λ w. w.0) (λ w. w.1)
      (λ xs ys u v P. flow_append (u.flow P) (v.flow (plc p.ty ∷ P))))
      (fit_code (exact_matches p.ty q.ty) r q.state) (λ w. w) (λ w. tt) (λ xs ys u v. (λ P. rw (v.0, append-nil xs) (u P), v.1)))
      (omega arith) (rec 2 j.line r 58 2 0) (λ xs u. flow_append (u.0 []) (untargeted E (rec 2 j.line r 58 2 0) (plc q.ty ∷ plc p.ty ∷ []) refl (swap_step j.line r p.ty q.ty u.1)))

  -- READ
  read_step : (l : ℕ) (r : Range) (x : Ty) (P : Pile) → step E (rec 30 l r 0 0 0) (plc x ∷ P) ≡ given P
  unfolding step effect_of taken
  read_step l r x P = refl

  pub read_code : (es : Exprs) (i : Ideal) → Code E 0 i (Stmt.compile_read R t base es i) (WholeExprs es × AllExprs IsPlace es) Fl
  unfolding Stmt.compile_read
  read_code none i = stay E i (Unit {0} × Unit {0}) Fl (λ w. Flow.done)
  read_code (more e es) i =
      let p = compile_lvalue R t base e i in
      let j = R.emit p.state 30 (expr_range e) 0 0 0 in
      seq E {d₁ = 0} {d₂ = 0} {W = (WholeExpr e × WholeExprs es) × (IsPlace e × AllExprs IsPlace es)} {A = Fl} {B = Fl} {C = Fl}
      (put E {d = 0} {W = WholeExpr e × IsPlace e} {A = Pla p.ty} {C = Fl} (place_code E few t base e i) (omega arith) (rec 30 p.state.line (expr_range e) 0 0 0)
      (λ xs u. flow_append (u.flow []) (plain_one E (rec 30 p.state.line (expr_range e) 0 0 0) (plc p.ty ∷ []) [] refl (read_step p.state.line (expr_range e) p.ty []))))
      (read_code es j) (λ w. (w.0.0, w.1.0)) (λ w. (w.0.1, w.1.1)) (λ xs ys u v. flow_append u v)

  -- a record that takes one number
  one_step : (c l : ℕ) (r : Range) → Takes1 c → (P : Pile) → step E (rec c l r 0 0 0) (num ∷ P) ≡ given P
  unfolding step effect_of taken
  one_step c l r (inl e) P = rw e refl
  one_step c l r (inr (inl e)) P = rw e refl
  one_step c l r (inr (inr (inl e))) P = rw e refl
  one_step c l r (inr (inr (inr e))) P = rw e refl

  -- LOCATE
  located : (c : ℕ) → Takes1 c → plain_call c ≡ true → (e : Expr) (i : Ideal) → Code E 0 i (R.emit (compile_typed R t base Real e i) c (expr_range e) 0 0 0) (WholeExpr e) Fl
  located c k p e i =
      let j = compile_typed R t base Real e i in
      flat_of E few t base (turn E few t base (λ P. P) (λ P. num ∷ P) (λ P. P) (pushed E few t base Real tt e i) (omega arith) (rec c j.line (expr_range e) 0 0 0) p (one_step c j.line (expr_range e) k))

  row_code : (e : Opt Expr) (i : Ideal) → Code E 0 i (Stmt.locate_row R t base e i) (IfGiven WholeExpr e) Fl
  row_code absent i = stay E i (Unit {0}) Fl (λ w. Flow.done)
  row_code (given e) i = located 36 (inl refl) refl e i

  column_code : (e : Opt Expr) (i : Ideal) → Code E 0 i (Stmt.locate_column R t base e i) (IfGiven WholeExpr e) Fl
  column_code absent i = stay E i (Unit {0}) Fl (λ w. Flow.done)
  column_code (given e) i = located 37 (inr (inl refl)) refl e i

  pub locate_code : (a b : Opt Expr) (i : Ideal) → Code E 0 i (Stmt.compile_locate R t base a b i) (IfGiven WholeExpr a × IfGiven WholeExpr b) Fl
  unfolding Stmt.compile_locate
  locate_code a b i = flat_two E few t base (row_code a i) (column_code b (Stmt.locate_row R t base a i))

  -- NEXT
  next_step : (l : ℕ) (r : Range) (a : ℕ) → Fl (rec 24 l r a 0 0 ∷ [])
  unfolding step effect_of taken
  next_step l r a = untargeted E (rec 24 l r a 0 0) [] refl refl

  real_fit : (b : Bool) (r : Range) (i : Ideal) → Code E 0 i (pick b i (R.note i 5 r 1)) (Unit {0}) Nothing
  real_fit true r i = stay E i (Unit {0}) Nothing (λ w. refl)
  real_fit false r i = fails E i 5 i.line r 0 (Unit {0}) Nothing

  next_one_lem : (n : ℕ) (r : Range) (v : Opt Range) (i : Ideal) → Code E 0 i (Stmt.next_one R t base n r v i) (Present v) Fl
  next_one_lem n r absent i = stay E i ⊥ Fl (λ w. absurd w)
  next_one_lem n r (given v) i =
      let y = compile_sym R t base v i in
      let j = pick (matches_type y.ty Real) y.state (R.note y.state 5 v 1) in
      put E {d = 1} {W = Unit {0}} {A = Nothing} {C = Fl}
      (seq E {d₁ = 1} {d₂ = 0} {W = Unit {0}} {A = KnownHere y.number y.ty} {B = Nothing} {C = Nothing} (sym_code E few t base v i) (real_fit (matches_type y.ty Real) v y.state) (λ w. w) (λ w. w) (λ xs ys u z. rw (u.none, z)))
      (omega arith) (rec 24 j.line (Stmt.next_range n r v) (y.number + 1) 0 0) (λ xs u. rw u (next_step j.line (Stmt.next_range n r v) (y.number + 1)))

  next_each_lem : (n : ℕ) (r : Range) (vs : List (Opt Range)) (i : Ideal) → Code E 0 i (Stmt.next_each R t base n r vs i) (All Present vs) Fl
  unfolding Stmt.next_each
  next_each_lem n r [] i = stay E i (Unit {0}) Fl (λ w. Flow.done)
  next_each_lem n r (v ∷ vs) i = flat_two E few t base (next_one_lem n r v i) (next_each_lem n r vs (Stmt.next_one R t base n r v i))

  pub next_code : (r : Range) (vs : List (Opt Range)) (i : Ideal) → Code E 0 i (Stmt.compile_next R t base r vs i) (All Present vs) Fl
  unfolding Stmt.compile_next
  next_code r [] i = emits E i (rec 24 i.line r 0 0 0) (Unit {0}) Fl (λ w. next_step i.line r 0)
  next_code r (v ∷ vs) i = next_each_lem (length (v ∷ vs)) r (v ∷ vs) i

  -- OPEN
  open_step_lem : (l : ℕ) (r : Range) (m b : ℕ) → step E (rec 34 l r m b 0) (replicate (1 + b) num ++ (txt ∷ [])) ≡ given []
  unfolding step effect_of taken
  open_step_lem l r m b = rw (taken_append (numbers (1 + b)) (a_text ∷ []) (replicate (1 + b) num ++ (txt ∷ [])) (txt ∷ []) (taken_numbers (1 + b) (txt ∷ []))) refl

  len_notes_lem : (b : Bool) (r : Range) (i : Ideal) → Code E 0 i (pick b (R.note i 12 r 1) i) (Unit {0}) Nothing
  len_notes_lem true r i = fails E i 12 i.line r 0 (Unit {0}) Nothing
  len_notes_lem false r i = stay E i (Unit {0}) Nothing (λ w. refl)

  open_node_lem : {W : Type 0} (r : Range) (m : ℕ) (o : Opt Len) (i j : Ideal) → Code E 0 i j W (Turns E (λ P. P) (λ P. num ∷ txt ∷ P)) → Code E 0 i (Stmt.open_node R t base r m o j) (W × (m ≡ 0 → ⊥) × IfGiven (λ (x : Len). WholeExpr x.value) o) Fl
  open_node_lem {W} r m absent i j a =
      with_ok E {W = W} {A = Fl} 0 (omega arith) (closes E few t base (λ P. num ∷ txt ∷ P) a (omega arith) (rec 34 j.line r m 0 0) refl (open_step_lem j.line r m 0)) (λ w. w.0) (λ w xs u. u)
  open_node_lem {W} r m (given o) i j a =
      let n = Stmt.len_notes R t base m o.range j in
      let u = compile_typed R t base Real o.value n in
      let W' = W × (m ≡ 0 → ⊥) × WholeExpr o.value in
      let it : Code E 0 i u W' (Turns E (λ P. P) (λ P. num ∷ num ∷ txt ∷ P)) =
      seq E {d₁ = 0} {d₂ = 0} {W = W'} {A = Turns E (λ P. P) (λ P. num ∷ txt ∷ P)} {B = Turns E (λ P. num ∷ txt ∷ P) (λ P. num ∷ num ∷ txt ∷ P)} {C = Turns E (λ P. P) (λ P. num ∷ num ∷ txt ∷ P)}
      (seq E {d₁ = 0} {d₂ = 0} {W₂ = Unit {0}} {W = W} {A = Turns E (λ P. P) (λ P. num ∷ txt ∷ P)} {B = Nothing} {C = Turns E (λ P. P) (λ P. num ∷ txt ∷ P)} a (len_notes_lem (ltb 1 m) o.range j) (λ w. w) (λ w. tt) (λ xs ys x y P. rw (y, append-nil xs) (x P)))
      (pushed_on E few t base (λ P. num ∷ txt ∷ P) Real tt o.value n) (λ w. w.0) (λ w. w.2) (λ xs ys x y P. flow_append (x P) (y P)) in
      go (eqb m 0) refl it
    where
      n : Ideal
      n = compile_typed R t base Real o.value (Stmt.len_notes R t base m o.range j)

      go : (b : Bool) → eqb m 0 ≡ b → Code E 0 i n (W × (m ≡ 0 → ⊥) × WholeExpr o.value) (Turns E (λ P. P) (λ P. num ∷ num ∷ txt ∷ P)) → Code E 0 i (pick b n (R.emit n 34 r m 1 0)) (W × (m ≡ 0 → ⊥) × WholeExpr o.value) Fl
      go true e c = claims_nothing E 0 (W × (m ≡ 0 → ⊥) × WholeExpr o.value) Fl (λ w. w.1 (eqb-true m 0 e)) c
      go false e c = closes E few t base (λ P. num ∷ num ∷ txt ∷ P) c (omega arith) (rec 34 n.line r m 1 0) refl (open_step_lem n.line r m 1)

  pub open_code : (r : Range) (f : Expr) (m : ℕ) (e : Expr) (o : Opt Len) (i : Ideal)
      → Code E 0 i (Stmt.compile_open R t base r f m e o i) ((WholeExpr f × WholeExpr e) × (m ≡ 0 → ⊥) × IfGiven (λ (x : Len). WholeExpr x.value) o) Fl
  unfolding Stmt.compile_open
  open_code r f m e o i =
      open_node_lem r m o i (compile_typed R t base Real e (compile_typed R t base String f i))
      (two E few t base (λ P. P) (λ P. txt ∷ P) (λ P. num ∷ txt ∷ P) (pushed E few t base String tt f i) (pushed_on E few t base (λ P. txt ∷ P) Real tt e (compile_typed R t base String f i)))

  -- LOAD
  bad_byte_lem : (b : Opt ℕ) (r : Range) (i : Ideal) → Code E 0 i (Stmt.bad_byte R t base b r i) (Unit {0}) (λ xs. (xs ≡ []) × Present b)
  bad_byte_lem absent r i = fails E i 12 i.line r 0 (Unit {0}) _
  bad_byte_lem (given b) r i = stay E i (Unit {0}) _ (λ w. (refl, tt))

  all_given_lem : (b : Opt ℕ) (c : Bool) → Present b → c ≡ true → Stmt.all_given b c ≡ true
  all_given_lem absent c p e = absurd p
  all_given_lem (given n) c p e = e

  bad_bytes_lem : (es : Exprs) (i : Ideal) → Code E 0 i (Stmt.bad_bytes R t base es i) (Unit {0}) (λ xs. (xs ≡ []) × (Stmt.all_bytes R t base es ≡ true))
  unfolding Stmt.bad_bytes Stmt.all_bytes
  bad_bytes_lem none i = stay E i (Unit {0}) _ (λ w. (refl, refl))
  bad_bytes_lem (more e es) i =
      let b = Stmt.byte_of t base e in
      seq E {d₁ = 0} {d₂ = 0} {W = Unit {0}} {A = λ xs. (xs ≡ []) × Present b} {B = λ xs. (xs ≡ []) × (Stmt.all_bytes R t base es ≡ true)} {C = λ xs. (xs ≡ []) × (Stmt.all_given b (Stmt.all_bytes R t base es) ≡ true)}
      (bad_byte_lem b (expr_range e) i) (bad_bytes_lem es (Stmt.bad_byte R t base b (expr_range e) i)) (λ w. w) (λ w. w) (λ xs ys u v. (rw (u.0, v.0), all_given_lem b (Stmt.all_bytes R t base es) u.1 v.1))

  load_byte_lem : (b : Opt ℕ) (r : Range) (i : Ideal) → Code E 0 i (Stmt.load_byte R t base b r i) (Unit {0}) Nothing
  load_byte_lem absent r i = stay E i (Unit {0}) Nothing (λ w. refl)
  load_byte_lem (given b) r i = added_code E few t base i byte_kind _ _ _ _ _ refl

  load_bytes_lem : (es : Exprs) (i : Ideal) → Code E 0 i (Stmt.load_bytes R t base es i) (Unit {0}) Nothing
  unfolding Stmt.load_bytes
  load_bytes_lem none i = stay E i (Unit {0}) Nothing (λ w. refl)
  load_bytes_lem (more e es) i = none_two E few t base (load_byte_lem (Stmt.byte_of t base e) (expr_range e) i) (load_bytes_lem es (Stmt.load_byte R t base (Stmt.byte_of t base e) (expr_range e) i))

  load_step : (l : ℕ) (r : Range) (a b : ℕ) → Plain E (rec 35 l r a b 0 ∷ []) (num ∷ []) []
  unfolding step effect_of taken
  load_step l r a b = plain_one E (rec 35 l r a b 0) (num ∷ []) [] refl refl

  load_node_lem : (r : Range) (es : Exprs) (i : Ideal) → Code E 0 i (Stmt.load_node R t base r es i) (Unit {0}) (λ xs. Plain E xs (num ∷ []) [])
  unfolding Stmt.load_node
  load_node_lem r none i = fails E i 6 i.line r 0 (Unit {0}) _
  load_node_lem r (more e es) i = go (Stmt.all_bytes R t base (more e es)) refl
    where
      u : Ideal
      u = Stmt.bad_bytes R t base (more e es) i

      v : Ideal
      v = Stmt.load_bytes R t base (more e es) u

      go : (b : Bool) → Stmt.all_bytes R t base (more e es) ≡ b → Code E 0 i (pick b (R.emit v 35 r (R.next_byte u) (count (more e es)) 0) u) (Unit {0}) (λ xs. Plain E xs (num ∷ []) [])
      go false q =
          with_ok E {A = λ xs. (xs ≡ []) × (Stmt.all_bytes R t base (more e es) ≡ true)} 0 (omega arith) (bad_bytes_lem (more e es) i) (λ w. w)
          (λ w xs x. let z : ◌≡◌ {A = Bool} true false = sym x.1 ∙ q in let y : ◌≡◌ {A = ℕ} 0 1 = cc in absurd (omega arith))
      go true q =
          put E {d = 0} {W = Unit {0}} {A = Nothing} {C = λ xs. Plain E xs (num ∷ []) []}
          (seq E {d₁ = 0} {d₂ = 0} {W = Unit {0}} {A = λ xs. (xs ≡ []) × (Stmt.all_bytes R t base (more e es) ≡ true)} {B = Nothing} {C = Nothing} (bad_bytes_lem (more e es) i) (load_bytes_lem (more e es) u) (λ w. w) (λ w. w) (λ xs ys x y. rw (x.0, y)))
          (omega arith) (rec 35 v.line r (R.next_byte u) (count (more e es)) 0) (λ xs x. rw x (load_step v.line r (R.next_byte u) (count (more e es))))

  pub load_code : (r : Range) (es : Exprs) (i : Ideal) → Code E 0 i (Stmt.compile_load R t base r es i) (WholeExprs es) Fl
  unfolding Stmt.compile_load
  load_code r none i = stay E i (Unit {0}) Fl (λ w. Flow.done)
  load_code r (more e es) i =
      seq E {d₁ = 0} {d₂ = 0} {W₂ = Unit {0}} {W = WholeExpr e × WholeExprs es} {A = Turns E (λ P. P) (λ P. num ∷ P)} {B = λ xs. Plain E xs (num ∷ []) []} {C = Fl} (pushed E few t base Real tt e i)
      (load_node_lem r es (compile_typed R t base Real e i)) (λ w. w.0) (λ w. tt) (λ xs ys u v. flow_append (u []) v)

  -- PRINT
  none_step : (c l : ℕ) (r : Range) → (c ≡ 42) ⊎ (c ≡ 43) → Fl (rec c l r 0 0 0 ∷ [])
  unfolding step effect_of taken
  none_step c l r (inl e) = plain_one E (rec c l r 0 0 0) [] [] (rw e refl) (rw e refl)
  none_step c l r (inr e) = plain_one E (rec c l r 0 0 0) [] [] (rw e refl) (rw e refl)

  show_step : (l : ℕ) (r : Range) (x : Ty) → Proper x → Plain E (rec (pick (matches_type x Real) 38 39) l r 0 0 0 ∷ []) (kind_of x ∷ []) []
  unfolding step effect_of taken
  show_step l r Integer p = plain_one E (rec 38 l r 0 0 0) (num ∷ []) [] refl refl
  show_step l r Real p = plain_one E (rec 38 l r 0 0 0) (num ∷ []) [] refl refl
  show_step l r String p = plain_one E (rec 39 l r 0 0 0) (txt ∷ []) [] refl refl
  show_step l r Error p = absurd p

  value_code : (e : Expr) (i : Ideal) → Code E 0 i (Stmt.print_value R t base e i) (WholeExpr e) Fl
  value_code e i =
      let p = compile_expr R t base e i in
      one_of_two E {W = WholeExpr e} {A = Fl} (matches_type p.ty Real) (expr_range e) p.state 38 39 0 0 0
      (put E {d = 0} {A = Typ p.ty} {C = Fl} (expr_code E few t base e i) (omega arith) (rec (pick (matches_type p.ty Real) 38 39) p.state.line (expr_range e) 0 0 0)
      (λ xs u. flow_append (u.flow []) (show_step p.state.line (expr_range e) p.ty u.proper)))

  tab_step : (b : Bool) (l : ℕ) (r : Range) → Plain E (rec (pick b 40 41) l r 0 0 0 ∷ []) (num ∷ []) []
  tab_step true l r = plain_one E (rec 40 l r 0 0 0) (num ∷ []) [] refl (one_step 40 l r (inr (inr (inl refl))) [])
  tab_step false l r = plain_one E (rec 41 l r 0 0 0) (num ∷ []) [] refl (one_step 41 l r (inr (inr (inr refl))) [])

  one_arg : (k n : ℕ) → signature_of k ≡ real_of_real → n ≡ 1 → (xs : List Rec) → (Clear (wanted (signature_of k).args) 0 n → Turns E (λ P. P) (arg_pile (wanted (signature_of k).args) 0 n) xs) → Plain E xs [] (num ∷ [])
  one_arg k n e q xs = rw (e, q) (λ a. a (tt, tt) [])

  filled_count : (es : Exprs) → Filled es → 1 ≤ count es
  unfolding count
  filled_count none f = absurd f
  filled_count (more e es) f = omega arith

  tab_code : (r fr : Range) (k : ℕ) (es : Exprs) (i : Ideal) → either (eqb k tab) (eqb k spc) ≡ true → Code E 0 i (Stmt.tab_call R t base (sys_func_call r fr k es) i) (WholeExprs es × Filled es) Fl
  tab_code r fr k es i q =
      let j = Stmt.surplus_notes R t base 1 es i in
      let m = compile_args R t base (wanted (signature_of k).args) 0 es j in
      let W = WholeExprs es × Filled es in
      let A : List Rec → Type 0 = λ xs. Clear (wanted (signature_of k).args) 0 (count es) → Turns E (λ P. P) (arg_pile (wanted (signature_of k).args) 0 (count es)) xs in
      one_of_two E {W = W} {A = Fl} (eqb k spc) r m 40 41 0 0 0
      (put E {d = 0} {W = W} {A = λ xs. Plain E xs [] (num ∷ [])} {C = Fl}
      (with_ok E {W = WholeExprs es} {A = λ xs. (count es ≤ 1) × A xs} 0 (omega arith)
      (seq E {d₁ = 0} {d₂ = 0} {W₁ = Unit {0}} {W = WholeExprs es} {A = λ xs. (xs ≡ []) × (count es ≤ 1)} {B = A} {C = λ xs. (count es ≤ 1) × A xs} (surplus_code E few t base 1 es i) (args_code E few t base (wanted (signature_of k).args) 0 es j) (λ w. tt) (λ w. w)
      (λ xs ys u v. (u.1, rw u.0 v)))
      (λ w. w.0) (λ w xs u. one_arg k (count es) (tab_or_spc k q) (omega (arith, u.0, filled_count es w.1)) xs u.1))
      (omega arith) (rec (pick (eqb k spc) 40 41) m.line r 0 0 0) (λ xs u. flow_append u (tab_step (eqb k spc) m.line r)))

  shown_code : (b : Bool) (e : Expr) (i : Ideal) → Stmt.is_tab_spc e ≡ b → Code E 0 i (pick b (Stmt.tab_call R t base e i) (Stmt.print_value R t base e i)) (WholeExpr e × FilledCall e) Fl
  shown_code false e i q = with_ok E {A = Fl} 0 (omega arith) (value_code e i) (λ w. w.0) (λ w xs u. u)
  shown_code true (sys_func_call r fr k es) i q = tab_code r fr k es i q
  shown_code true (ident r) i q = let z : ◌≡◌ {A = ℕ} 0 1 = cc in absurd (omega arith)
  shown_code true (string_lit r) i q = let z : ◌≡◌ {A = ℕ} 0 1 = cc in absurd (omega arith)
  shown_code true (number_lit r e m) i q = let z : ◌≡◌ {A = ℕ} 0 1 = cc in absurd (omega arith)
  shown_code true (user_func_call r f e) i q = let z : ◌≡◌ {A = ℕ} 0 1 = cc in absurd (omega arith)
  shown_code true (binary r a o k b) i q = let z : ◌≡◌ {A = ℕ} 0 1 = cc in absurd (omega arith)
  shown_code true (unary r k e) i q = let z : ◌≡◌ {A = ℕ} 0 1 = cc in absurd (omega arith)
  shown_code true (index r n es) i q = let z : ◌≡◌ {A = ℕ} 0 1 = cc in absurd (omega arith)
  shown_code true (inkey r) i q = let z : ◌≡◌ {A = ℕ} 0 1 = cc in absurd (omega arith)
  shown_code true (error r) i q = let z : ◌≡◌ {A = ℕ} 0 1 = cc in absurd (omega arith)

  blank_step : (l : ℕ) (r : Range) (e m : ℕ) → Fl ((rec 3 l r e m 0 ∷ []) ++ (rec 40 l r 0 0 0 ∷ []))
  blank_step l r e m = flow_append ((number_step E few t base l r e m).flow []) (tab_step true l r)

  blank_code : (r : Range) (e m : ℕ) (i : Ideal) → Code E 0 i (R.emit (R.emit i 3 r e m 0) 40 r 0 0 0) (Unit {0}) Fl
  blank_code r e m i =
      put E {d = 0} {A = λ xs. xs ≡ rec 3 i.line r e m 0 ∷ []} {C = Fl} (emits E i (rec 3 i.line r e m 0) (Unit {0}) (λ xs. xs ≡ rec 3 i.line r e m 0 ∷ []) (λ w. refl)) (omega arith) (rec 40 i.line r 0 0 0)
      (λ xs u. rw u (blank_step i.line r e m))

  between_code : (b : Bool) (r : Range) (i : Ideal) → Code E 0 i (pick b (Stmt.blank_between R t base r i) i) (Unit {0}) Fl
  between_code true r i = blank_code r 129 2147483648 i
  between_code false r i = stay E i (Unit {0}) Fl (λ w. Flow.done)

  line_code : (r : Range) (i : Ideal) → Code E 0 i (R.emit i 42 r 0 0 0) (Unit {0}) Fl
  line_code r i = emits E i (rec 42 i.line r 0 0 0) (Unit {0}) Fl (λ w. none_step 42 i.line r (inl refl))

  behind_code : (b : Bool) (r er : Range) (xs : List PrintElement) (i : Ideal) → Code E 0 i (Stmt.behind_value R t base b r er xs i) (Unit {0}) Fl
  behind_code b r er [] i = line_code r i
  behind_code b r er (x ∷ xs) i = between_code (both (Stmt.is_value x) (pick b false true)) er i

  element_code : (r : Range) (x : PrintElement) (xs : List PrintElement) (i : Ideal) → Code E 0 i (Stmt.print_one R t base r x xs i) (WholeElement x × FormedElement x) Fl
  element_code r (value e) xs i =
      with_ok E {W = (WholeExpr e × FilledCall e) × Unit {0}} {A = Fl} 0 (omega arith)
      (flat_two E few t base (shown_code (Stmt.is_tab_spc e) e i refl) (behind_code (Stmt.is_tab_spc e) r (expr_range e) xs (pick (Stmt.is_tab_spc e) (Stmt.tab_call R t base e i) (Stmt.print_value R t base e i))))
      (λ w. (w, tt)) (λ w ys u. u)
  element_code r (comma er) xs i = with_ok E {W = Unit {0}} {A = Fl} 0 (omega arith) (line_code er i) (λ w. tt) (λ w ys u. u)
  element_code r (semicolon er) xs i = stay E i (Unit {0} × Unit {0}) Fl (λ w. Flow.done)

  elements_code : (r : Range) (xs : List PrintElement) (i : Ideal) → Code E 0 i (Stmt.print_each R t base r xs i) (All WholeElement xs × All FormedElement xs) Fl
  unfolding Stmt.print_each
  elements_code r [] i = stay E i (Unit {0} × Unit {0}) Fl (λ w. Flow.done)
  elements_code r (x ∷ xs) i =
      with_ok E {W = (WholeElement x × FormedElement x) × (All WholeElement xs × All FormedElement xs)} {A = Fl} 0 (omega arith)
      (flat_two E few t base (element_code r x xs i) (elements_code r xs (Stmt.print_one R t base r x xs i))) (λ w. ((w.0.0, w.1.0), (w.0.1, w.1.1))) (λ w ys u. u)

  empty_code : (r : Range) (xs : List PrintElement) (i : Ideal) → Code E 0 i (Stmt.empty_line R t base r xs i) (Unit {0}) Fl
  empty_code r [] i = line_code r i
  empty_code r (x ∷ xs) i = stay E i (Unit {0}) Fl (λ w. Flow.done)

  pub print_code : (r : Range) (xs : List PrintElement) (i : Ideal) → Code E 0 i (Stmt.compile_print R t base r xs i) (All WholeElement xs × All FormedElement xs) Fl
  unfolding Stmt.compile_print
  print_code r xs i =
      let j = Stmt.print_each R t base r xs i in
      let m = Stmt.empty_line R t base r xs j in
      let W = All WholeElement xs × All FormedElement xs in
      put E {d = 0} {W = W} {A = Fl} {C = Fl}
      (with_ok E {W = W × Unit {0}} {U = W} {A = Fl} {C = Fl} 0 (omega arith) (flat_two E few t base (elements_code r xs i) (empty_code r xs j)) (λ w. (w, tt)) (λ w ys u. u))
      (omega arith) (rec 43 m.line r 0 0 0) (λ ys u. flow_append u (none_step 43 m.line r (inr refl)))

  -- WRITE: to the screen, and to a file, whose number stays below until the last value
  screen_step : (l : ℕ) (r : Range) (x : Ty) (b : ℕ) → Proper x → Plain E (rec (pick (matches_type x Real) 44 45) l r 0 b 0 ∷ []) (kind_of x ∷ []) []
  unfolding step effect_of taken
  screen_step l r Integer b p = plain_one E (rec 44 l r 0 b 0) (num ∷ []) [] refl refl
  screen_step l r Real b p = plain_one E (rec 44 l r 0 b 0) (num ∷ []) [] refl refl
  screen_step l r String b p = plain_one E (rec 45 l r 0 b 0) (txt ∷ []) [] refl refl
  screen_step l r Error b p = absurd p

  pop_step : (l : ℕ) (r : Range) (x : Ty) (P : Pile) → Proper x → Plain E (rec (pick (matches_type x Real) 46 47) l r 0 0 0 ∷ []) (kind_of x ∷ P) P
  unfolding step effect_of taken
  pop_step l r Integer P p = plain_one E (rec 46 l r 0 0 0) (num ∷ P) P refl refl
  pop_step l r Real P p = plain_one E (rec 46 l r 0 0 0) (num ∷ P) P refl refl
  pop_step l r String P p = plain_one E (rec 47 l r 0 0 0) (txt ∷ P) P refl refl
  pop_step l r Error P p = absurd p

  middle_step : (l : ℕ) (r : Range) (x : Ty) → Proper x → Plain E (rec (pick (matches_type x Real) 44 45) l r 1 0 0 ∷ []) (kind_of x ∷ num ∷ []) (num ∷ [])
  unfolding step effect_of taken
  middle_step l r Integer p = plain_one E (rec 44 l r 1 0 0) (num ∷ num ∷ []) (num ∷ []) refl refl
  middle_step l r Real p = plain_one E (rec 44 l r 1 0 0) (num ∷ num ∷ []) (num ∷ []) refl refl
  middle_step l r String p = plain_one E (rec 45 l r 1 0 0) (txt ∷ num ∷ []) (num ∷ []) refl refl
  middle_step l r Error p = absurd p

  last_step : (l : ℕ) (r : Range) (x : Ty) → Proper x → Plain E (rec (pick (matches_type x Real) 44 45) l r 1 1 0 ∷ []) (kind_of x ∷ num ∷ []) []
  unfolding step effect_of taken
  last_step l r Integer p = plain_one E (rec 44 l r 1 1 0) (num ∷ num ∷ []) [] refl refl
  last_step l r Real p = plain_one E (rec 44 l r 1 1 0) (num ∷ num ∷ []) [] refl refl
  last_step l r String p = plain_one E (rec 45 l r 1 1 0) (txt ∷ num ∷ []) [] refl refl
  last_step l r Error p = absurd p

  -- the pile below a value, and behind it: n is 1 for a file, b says whether it is the last
  abbrev below : ℕ → Pile
  below n = pick (eqb n 1) (num ∷ []) []

  abbrev behind : ℕ → Bool → Pile
  behind n b = pick b [] (below n)

  value_of : {W : Type 0} (n : ℕ) (d : WriteElement) (last : Bool) (i : Ideal) (p : Out Ideal) → (n ≡ 0) ⊎ (n ≡ 1) → Code E 0 i p.state W (Typ p.ty)
      → Code E 0 i (Stmt.write_value R t base n d last p.ty p.state) W (λ xs. Plain E xs (below n) (behind n last))
  unfolding Stmt.write_value
  value_of {W} n d last i p q a = go (eqb d.comma 1) last q
    where
      er : Range
      er = expr_range d.datum

      written : (n : ℕ) (last : Bool) → (n ≡ 0) ⊎ (n ≡ 1) → (l : ℕ) → Proper p.ty → Plain E (rec (pick (matches_type p.ty Real) 44 45) l er n (flag_of last) 0 ∷ []) (kind_of p.ty ∷ below n) (behind n last)
      written n true (inl e) l x = rw e (screen_step l er p.ty 1 x)
      written n false (inl e) l x = rw e (screen_step l er p.ty 0 x)
      written n true (inr e) l x = rw e (last_step l er p.ty x)
      written n false (inr e) l x = rw e (middle_step l er p.ty x)

      go : (c last : Bool) → (n ≡ 0) ⊎ (n ≡ 1) → Code E 0 i (pick (either last c) (Stmt.write_node R t base n last p.ty er p.state)
          (Stmt.pop_node R t base p.ty er (R.note p.state value_dropped er 2))) W (λ xs. Plain E xs (below n) (behind n last))
      go c true q =
          one_of_two E {W = W} {A = λ xs. Plain E xs (below n) []} (matches_type p.ty Real) er p.state 44 45 n 1 0
          (put E {d = 0} {W = W} {A = Typ p.ty} {C = λ xs. Plain E xs (below n) []} a (omega arith) (rec (pick (matches_type p.ty Real) 44 45) p.state.line er n 1 0)
          (λ xs u. flow_append (u.flow (below n)) (written n true q p.state.line u.proper)))
      go true false q =
          one_of_two E {W = W} {A = λ xs. Plain E xs (below n) (below n)} (matches_type p.ty Real) er p.state 44 45 n 0 0
          (put E {d = 0} {W = W} {A = Typ p.ty} {C = λ xs. Plain E xs (below n) (below n)} a (omega arith) (rec (pick (matches_type p.ty Real) 44 45) p.state.line er n 0 0)
          (λ xs u. flow_append (u.flow (below n)) (written n false q p.state.line u.proper)))
      go false false q =
          one_of_two E {W = W} {A = λ xs. Plain E xs (below n) (below n)} (matches_type p.ty Real) er (R.note p.state value_dropped er 2) 46 47 0 0 0
          (put E {d = 0} {W = W} {A = Typ p.ty} {C = λ xs. Plain E xs (below n) (below n)}
          (seq E {d₁ = 0} {d₂ = 0} {W₂ = Unit {0}} {W = W} {A = Typ p.ty} {B = Nothing} {C = Typ p.ty} a (warns E p.state 11 p.state.line er 0 (Unit {0}) Nothing (λ w. refl)) (λ w. w) (λ w. tt) (λ xs ys u v. rw (v, append-nil xs) u))
          (omega arith) (rec (pick (matches_type p.ty Real) 46 47) p.state.line er 0 0 0)
          (λ xs u. flow_append (u.flow (below n)) (pop_step p.state.line er p.ty (below n) u.proper)))

  abbrev left : ℕ → List WriteElement → Pile
  left n [] = below n
  left n (d ∷ ds) = []

  abbrev WholeDatum : WriteElement → Type 0
  WholeDatum d = WholeExpr d.datum

  writes_code : (n : ℕ) (ds : List WriteElement) (i : Ideal) → (n ≡ 0) ⊎ (n ≡ 1) → Code E 0 i (Stmt.write_each R t base n ds i) (All WholeDatum ds) (λ xs. Plain E xs (below n) (left n ds))
  unfolding Stmt.write_each
  writes_code n [] i q = stay E i (Unit {0}) (λ xs. Plain E xs (below n) (below n)) (λ w. Flow.done)
  writes_code n (d ∷ []) i q =
      let p = compile_expr R t base d.datum i in
      with_ok E {W = WholeDatum d} {A = λ xs. Plain E xs (below n) []} 0 (omega arith) (value_of n d true i p q (expr_code E few t base d.datum i)) (λ w. w.0) (λ w xs u. u)
  writes_code n (d ∷ e ∷ ds) i q =
      let p = compile_expr R t base d.datum i in
      seq E {d₁ = 0} {d₂ = 0} {W = All WholeDatum (d ∷ e ∷ ds)} {A = λ xs. Plain E xs (below n) (below n)} {B = λ xs. Plain E xs (below n) []} {C = λ xs. Plain E xs (below n) []}
      (value_of n d false i p q (expr_code E few t base d.datum i)) (writes_code n (e ∷ ds) (Stmt.write_value R t base n d false p.ty p.state) q) (λ w. w.0) (λ w. w.1) (λ xs ys u v. flow_append u v)

  screen_left : (ds : List WriteElement) → left 0 ds ≡ []
  screen_left [] = refl
  screen_left (d ∷ ds) = refl

  file_left : (ds : List WriteElement) → ends_well (value_calls 1 ds) ≡ true → left 1 ds ≡ []
  unfolding value_calls ends_well
  file_left [] e = let z : ◌≡◌ {A = ℕ} 0 1 = cc in absurd (omega arith)
  file_left (d ∷ ds) e = refl

  pub write_code : (r : Range) (f : Opt Expr) (ds : List WriteElement) (i : Ideal) → Code E 0 i (Stmt.compile_write R t base r f ds i) (WholeWrite f ds × All WholeDatum ds) Fl
  write_code r absent ds i =
      let j = Stmt.write_each R t base 0 ds i in
      put E {d = 0} {W = Unit {0} × All WholeDatum ds} {A = Fl} {C = Fl}
      (with_ok E {A = λ xs. Plain E xs [] (left 0 ds)} 0 (omega arith) (writes_code 0 ds i (inl refl)) (λ w. w.1) (λ w xs u. rw (screen_left ds) at u))
      (omega arith) (rec 43 j.line r 0 0 0) (λ xs u. flow_append u (none_step 43 j.line r (inr refl)))
  write_code r (given e) ds i =
      let W = (WholeExpr e × (ends_well (value_calls 1 ds) ≡ true)) × All WholeDatum ds in
      seq E {d₁ = 0} {d₂ = 0} {W₂ = W} {W = W} {A = Turns E (λ P. P) (λ P. num ∷ P)} {B = λ xs. Plain E xs (num ∷ []) []} {C = Fl} (pushed E few t base Real tt e i)
      (with_ok E {A = λ xs. Plain E xs (num ∷ []) (left 1 ds)} 0 (omega arith) (writes_code 1 ds (compile_typed R t base Real e i) (inr refl)) (λ w. w.1) (λ w xs u. rw (file_left ds w.0.1) at u))
      (λ w. w.0.0) (λ w. w) (λ xs ys u v. flow_append (u []) v)
