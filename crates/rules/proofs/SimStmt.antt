-- Compiling keeps a simulation, for any two recorders: statements.
use Rattle.std.proofs.Common.{◌≡◌, ℕ, zero, suc, ◌+◌, Bool, true, false, eqb, ltb, List, [], ◌∷◌, length, refl}
use Rattle.recorder.specs.Numbers.{unknown}
use Rattle.recorder.specs.Word.{pick, both, either}
use Rattle.recorder.specs.declared.word.Range.{Range}
use Rattle.recorder.specs.Recorder.{Recorder}
use Rattle.simulation.proofs.Simulation.{Simulation}
use Rattle.sheet.specs.Tree.{Opt, absent, given, Expr, ident, string_lit, number_lit, sys_func_call, user_func_call, binary, unary, index, inkey, error, Exprs, none, more, expr_range, count, Datum, FieldSpec, Target, OnTarget, Len, WriteElement, PrintElement, value, comma, semicolon, InputSource, keyboard, file, Stmt, rem, op₀, op₁, op₂, op₃, draw, set, data_list, def, dim, field, for, go, if_then, if_else, input, assign, load, locate, next_of, on, open_file, print, read, restore, swap, system, while, write, Stmts, end, then}
use Rattle.rules.specs.declared.types.«Type».{«Type» as Ty}
use Rattle.rules.specs.declared.types.«Type».TheVariants.{Integer, Real, String, Error}
use Rattle.rules.specs.Types.{matches_type, exact_matches}
use Rattle.rules.specs.Tables.{draw_arity, drawn, operand, signature_of, wanted, every_real, spc}
use Rattle.rules.specs.Expr.{Sym, text_size, add_error}
use Rattle.rules.specs.Stmt.{byte_of, is_ident, datum_length, target_label, target_range, label_or0, is_value, is_file, next_range, is_tab_spc, is_last, surplus_notes, draw_node, datum_node, compile_data, end_def, def_node, compile_def, dim_node, dim_one, compile_dim, place_typed, compile_fields, compile_field, compile_step, for_node, compile_for, pending_jump, compile_go, compile_restore, input_arg_by, fn_place, fn_input, input_var, input_vars, input_source, compile_input, assign_call, assign_node, compile_let, bad_byte, bad_bytes, all_bytes, load_byte, load_bytes, load_node, compile_load, locate_row, locate_column, compile_locate, next_by, next_one, next_each, compile_next, on_jumps, compile_on, open_node, compile_open, tab_call, print_node, print_value, behind_value, print_one, print_each, empty_line, compile_print, compile_read, compile_swap, compile_while, write_value, write_each, compile_write, end_here, compile_stmt, compile_stmts}
use Rattle.rules.proofs.SimExpr.{Follows, FollowsNamed, FollowsSym, start, over, plain, numbering, numbering_both, placing, noted, pick_follows, number_then, place_then, sim_sym, sim_check, sim_real_sym, sim_text, sim_opt_real_sym, sim_expr, sim_args, sim_typed, sim_lvalue}

module _ {S T : Type 0} {R : Recorder S} {Q : Recorder T} (σ : Simulation R Q) (t : List ℕ) (base : ℕ) where
  sim_surplus : (n : ℕ) (es : Exprs) {w u : T} {s : S} → Follows σ w s u → Follows σ w (surplus_notes R t base n es s) (surplus_notes Q t base n es u)
  unfolding surplus_notes
  sim_surplus n none g = g
  sim_surplus zero (more e es) g = sim_surplus zero es (noted g)
  sim_surplus (suc n) (more e es) g = sim_surplus n es g

  sim_draw : {w u : T} {s : S} (k : ℕ) (r : Range) (es : Exprs) → Follows σ w s u → Follows σ w (draw_node R t base k r es s) (draw_node Q t base k r es u)
  unfolding draw_node
  sim_draw k r es g =
      pick_follows (ltb (count es) (draw_arity k).min) (noted g)
      (pick_follows (ltb (draw_arity k).max (count es)) (sim_surplus (draw_arity k).max es g) (plain refl g))

  -- DATA
  datum_follows : {w u : T} {s : S} {x n q : ℕ} → Follows σ w s u → Follows σ w (R.datum s x n q) (Q.datum u x n q)
  datum_follows g = record { sim = σ.datum _ _ _ _ _ g.sim; later = σ.later_trans _ _ _ g.later (σ.datum_later _ _ _ _) }

  sim_datum : {w u : T} {s : S} (d : Datum) → Follows σ w s u → Follows σ w (datum_node R t base d s) (datum_node Q t base d u)
  unfolding datum_node
  sim_datum d g = pick_follows (ltb 255 (text_size (datum_length t base d))) (noted (datum_follows g)) (datum_follows g)

  sim_data : (ds : List Datum) {w u : T} {s : S} → Follows σ w s u → Follows σ w (compile_data R t base ds s) (compile_data Q t base ds u)
  unfolding compile_data
  sim_data [] g = g
  sim_data (d ∷ ds) g = sim_data ds (sim_datum d g)

  -- DEF
  sim_end_def : {w u : T} {s : S} {k k' : ℕ} (r : Range) → σ.Place u k k' → Follows σ w s u → Follows σ w (end_def R t base r k s) (end_def Q t base r k' u)
  sim_end_def r p g =
      let h = plain {k = 27} {r = r} {a = 0} {b = 0} {c = 0} refl (start g) in
      over g record {
        sim = σ.patch_end _ _ _ _ _ _ h.sim (place_then p h) (σ.count _ _ h.sim);
        later = σ.later_trans _ _ _ h.later (σ.patch_end_later _ _ _);
      }

  sim_def_node : {w u : T} {s : S} {n n' a a' : ℕ} (x p : Opt Range) (r : Range) (e : Expr) → σ.Number u n n' → σ.Number u a a' → Follows σ w s u
      → Follows σ w (def_node R t base x p r n a e s) (def_node Q t base x p r n' a' e u)
  sim_def_node absent p r e n a g = sim_typed σ t base Real e g
  sim_def_node (given nr) absent r e n a g = sim_typed σ t base Real e g
  sim_def_node (given nr) (given pr) r e n a g =
      let b = sim_typed σ t base Real e (numbering_both {k = 26} {r = r} {c = unknown} refl refl refl n a (start g)) in
      over g (sim_end_def r (place_then (σ.count _ _ g.sim) b) b)

  sim_def : {w u : T} {s : S} (r : Range) (n p : Opt Range) (e : Expr) → Follows σ w s u → Follows σ w (compile_def R t base r n p e s) (compile_def Q t base r n p e u)
  unfolding compile_def
  sim_def r n p e g =
      let x = sim_opt_real_sym σ t base n g in
      let y = sim_opt_real_sym σ t base p (start x.follows) in
      over x.follows (sim_def_node n p r e (number_then x.number y.follows) y.number y.follows)

  -- DIM
  sim_dim_node : {w u : T} {s : S} (x : Opt Range) (n : ℕ) → Follows σ w s u → Follows σ w (dim_node R t base x n s) (dim_node Q t base x n u)
  sim_dim_node absent n g = g
  sim_dim_node (given nr) n g = let y = sim_sym σ t base nr g in numbering refl refl y.number y.follows

  sim_dim_one : {w u : T} {s : S} (e : Expr) → Follows σ w s u → Follows σ w (dim_one R t base e s) (dim_one Q t base e u)
  unfolding dim_one
  sim_dim_one (index r n es) g = sim_dim_node n (count es) (sim_args σ t base every_real zero es g)
  sim_dim_one (ident r) g = g
  sim_dim_one (string_lit r) g = g
  sim_dim_one (number_lit r e m) g = g
  sim_dim_one (sys_func_call r fr k es) g = g
  sim_dim_one (user_func_call r f e) g = g
  sim_dim_one (binary r a o k b) g = g
  sim_dim_one (unary r k e) g = g
  sim_dim_one (inkey r) g = g
  sim_dim_one (error r) g = g

  sim_dim : (es : Exprs) {w u : T} {s : S} → Follows σ w s u → Follows σ w (compile_dim R t base es s) (compile_dim Q t base es u)
  unfolding compile_dim
  sim_dim none g = g
  sim_dim (more e es) g = sim_dim es (sim_dim_one e g)

  sim_place : {w u : T} {s : S} (want : Ty) (e : Expr) → Follows σ w s u → Follows σ w (place_typed R t base want e s) (place_typed Q t base want e u)
  sim_place want e g = let x = sim_lvalue σ t base e g in sim_check σ t base want (expr_range e) x.ty x.follows

  -- FIELD
  sim_fields : (fs : List FieldSpec) {w u : T} {s : S} → Follows σ w s u → Follows σ w (compile_fields R t base fs s) (compile_fields Q t base fs u)
  unfolding compile_fields
  sim_fields [] g = g
  sim_fields (f ∷ fs) g = sim_fields fs (sim_place String f.var (sim_typed σ t base Real f.len g))

  sim_field : {w u : T} {s : S} (r : Range) (e : Expr) (fs : List FieldSpec) → Follows σ w s u
      → Follows σ w (compile_field R t base r e fs s) (compile_field Q t base r e fs u)
  unfolding compile_field
  sim_field r e fs g = plain refl (sim_typed σ t base Real e (sim_fields fs g))

  -- FOR
  sim_step : {w u : T} {s : S} (e : Opt Expr) → Follows σ w s u → Follows σ w (compile_step R t base e s) (compile_step Q t base e u)
  sim_step absent g = g
  sim_step (given e) g = sim_typed σ t base Real e g

  sim_for_node : {w u : T} {s : S} {n n' : ℕ} (v : Opt Range) (r : Range) (e : Opt Expr) → σ.Number u n n' → Follows σ w s u
      → Follows σ w (for_node R t base v r n e s) (for_node Q t base v r n' e u)
  sim_for_node absent r e n g = g
  sim_for_node (given v) r e n g = numbering refl refl n g

  sim_for : {w u : T} {s : S} (r : Range) (v : Opt Range) (a b : Expr) (e : Opt Expr) → Follows σ w s u
      → Follows σ w (compile_for R t base r v a b e s) (compile_for Q t base r v a b e u)
  unfolding compile_for
  sim_for r v a b e g =
      let y = sim_opt_real_sym σ t base v g in
      let c = sim_step e (sim_typed σ t base Real b (sim_typed σ t base Real a (start y.follows))) in
      over y.follows (sim_for_node v r e (number_then y.number c) c)

  -- GOTO, GOSUB, RESTORE
  sim_waiting : {w u : T} {s : S} (sub : ℕ) (r : Range) (l : ℕ) (lr : Range) → Follows σ w s u
      → Follows σ w (pending_jump R t base sub r l lr s) (pending_jump Q t base sub r l lr u)
  sim_waiting sub r l lr g = pick_follows (eqb sub 1) (plain refl g) (plain refl g)

  sim_go : {w u : T} {s : S} (r : Range) (sub : ℕ) (x : Opt Target) → Follows σ w s u → Follows σ w (compile_go R t base r sub x s) (compile_go Q t base r sub x u)
  unfolding compile_go
  sim_go r sub x g = sim_waiting sub r (target_label x) (target_range r x) g

  sim_restore : {w u : T} {s : S} (r : Range) (x : Opt Target) → Follows σ w s u → Follows σ w (compile_restore R t base r x s) (compile_restore Q t base r x u)
  sim_restore r absent g = plain refl g
  sim_restore r (given x) g = plain refl g

  -- INPUT
  sim_input_arg : {w u : T} {s : S} (b : Bool) (e : Expr) → Follows σ w s u → FollowsNamed σ w (input_arg_by R t base b e s) (input_arg_by Q t base b e u)
  sim_input_arg true e g = sim_real_sym σ t base (expr_range e) g
  sim_input_arg false e g = record { follows = noted g; number = σ.number_refl _ 0 }

  sim_fn_place : {w u : T} {s : S} {n n' a a' : ℕ} (f : Opt Range) (b : Bool) (r : Range) → σ.Number u n n' → σ.Number u a a' → Follows σ w s u
      → Follows σ w (fn_place R t base f b r n a s) (fn_place Q t base f b r n' a' u)
  sim_fn_place absent b r n a g = g
  sim_fn_place (given fr) false r n a g = g
  sim_fn_place (given fr) true r n a g = numbering_both refl refl refl n a g

  sim_fn_input : {w u : T} {s : S} (b : Bool) (r : Range) (f : Opt Range) (e : Expr) → Follows σ w s u
      → Follows σ w (fn_input R t base b r f e s) (fn_input Q t base b r f e u)
  sim_fn_input true r f e g = noted g
  sim_fn_input false r f e g =
      let x = sim_opt_real_sym σ t base f g in
      let y = sim_input_arg (is_ident e) e (start x.follows) in
      over x.follows (sim_fn_place f (is_ident e) r (number_then x.number y.follows) y.number y.follows)

  sim_input_var : {w u : T} {s : S} (b : Bool) (e : Expr) → Follows σ w s u → Follows σ w (input_var R t base b e s) (input_var Q t base b e u)
  unfolding input_var
  sim_input_var b (user_func_call r f e) g = sim_fn_input b r f e g
  sim_input_var b (ident r) g = (sim_lvalue σ t base (ident r) g).follows
  sim_input_var b (string_lit r) g = (sim_lvalue σ t base (string_lit r) g).follows
  sim_input_var b (number_lit r e m) g = (sim_lvalue σ t base (number_lit r e m) g).follows
  sim_input_var b (sys_func_call r fr k es) g = (sim_lvalue σ t base (sys_func_call r fr k es) g).follows
  sim_input_var b (binary r x o k y) g = (sim_lvalue σ t base (binary r x o k y) g).follows
  sim_input_var b (unary r k e) g = (sim_lvalue σ t base (unary r k e) g).follows
  sim_input_var b (index r n es) g = (sim_lvalue σ t base (index r n es) g).follows
  sim_input_var b (inkey r) g = (sim_lvalue σ t base (inkey r) g).follows
  sim_input_var b (error r) g = (sim_lvalue σ t base (error r) g).follows

  sim_input_vars : (b : Bool) (es : Exprs) {w u : T} {s : S} → Follows σ w s u → Follows σ w (input_vars R t base b es s) (input_vars Q t base b es u)
  unfolding input_vars
  sim_input_vars b none g = g
  sim_input_vars b (more e es) g = sim_input_vars b es (sim_input_var b e g)

  sim_source : {w u : T} {s : S} (r : Range) (n : ℕ) (x : InputSource) → Follows σ w s u → Follows σ w (input_source R t base r n x s) (input_source Q t base r n x u)
  sim_source r n (keyboard absent) g = plain refl g
  sim_source r n (keyboard (given p)) g = plain refl (sim_text σ t base p g)
  sim_source r n (file e) g = plain refl (sim_typed σ t base Real e g)

  sim_input : {w u : T} {s : S} (r : Range) (x : InputSource) (es : Exprs) → Follows σ w s u
      → Follows σ w (compile_input R t base r x es s) (compile_input Q t base r x es u)
  unfolding compile_input
  sim_input r x es g = sim_source r (count es) x (sim_input_vars (is_file x) es g)

  -- LET
  sim_assign_call : {w u : T} {s : S} (x : Ty) (r : Range) → Follows σ w s u → Follows σ w (assign_call R t base x r s) (assign_call Q t base x r u)
  sim_assign_call Integer r g = plain refl g
  sim_assign_call Real r g = plain refl g
  sim_assign_call String r g = plain refl g
  sim_assign_call Error r g = g

  sim_assign : {w u : T} {s : S} {x x' y y' : Ty} (r : Range) → x ≡ x' → y ≡ y' → Follows σ w s u
      → Follows σ w (assign_node R t base r x y s) (assign_node Q t base r x' y' u)
  unfolding assign_node
  sim_assign {x' = x'} {y' = y'} r e f g = rw (e, f) (sim_assign_call x' r (pick_follows (matches_type x' y') g (noted g)))

  sim_let : {w u : T} {s : S} (r : Range) (a b : Expr) → Follows σ w s u → Follows σ w (compile_let R t base r a b s) (compile_let Q t base r a b u)
  unfolding compile_let
  sim_let r a b g =
      let x = sim_lvalue σ t base a g in
      let y = sim_expr σ t base b x.follows in
      sim_assign r x.ty y.ty y.follows

  -- LOAD
  sim_bad_byte : {w u : T} {s : S} (o : Opt ℕ) (r : Range) → Follows σ w s u → Follows σ w (bad_byte R t base o r s) (bad_byte Q t base o r u)
  sim_bad_byte absent r g = noted g
  sim_bad_byte (given b) r g = g

  sim_bad_bytes : (es : Exprs) {w u : T} {s : S} → Follows σ w s u → Follows σ w (bad_bytes R t base es s) (bad_bytes Q t base es u)
  unfolding bad_bytes
  sim_bad_bytes none g = g
  sim_bad_bytes (more e es) g = sim_bad_bytes es (sim_bad_byte (byte_of t base e) (expr_range e) g)

  all_bytes_lem : (es : Exprs) → all_bytes R t base es ≡ all_bytes Q t base es
  unfolding all_bytes
  all_bytes_lem none = refl
  all_bytes_lem (more e es) = rw (all_bytes_lem es)

  sim_load_byte : {w u : T} {s : S} (o : Opt ℕ) (r : Range) → Follows σ w s u → Follows σ w (load_byte R t base o r s) (load_byte Q t base o r u)
  sim_load_byte absent r g = g
  sim_load_byte (given b) r g = record { sim = σ.byte _ _ _ _ _ g.sim; later = σ.later_trans _ _ _ g.later (σ.byte_later _ _ _ _) }

  sim_load_bytes : (es : Exprs) {w u : T} {s : S} → Follows σ w s u → Follows σ w (load_bytes R t base es s) (load_bytes Q t base es u)
  unfolding load_bytes
  sim_load_bytes none g = g
  sim_load_bytes (more e es) g = sim_load_bytes es (sim_load_byte (byte_of t base e) (expr_range e) g)

  sim_load_node : {w u : T} {s : S} (r : Range) (es : Exprs) → Follows σ w s u → Follows σ w (load_node R t base r es s) (load_node Q t base r es u)
  unfolding load_node
  sim_load_node r none g = noted g
  sim_load_node r (more e es) g =
      let h = sim_bad_bytes (more e es) g in
      let l = sim_load_bytes (more e es) (start h) in
      rw (all_bytes_lem (more e es))
      (pick_follows (all_bytes Q t base (more e es)) (over h (numbering refl refl (number_then (σ.next_byte _ _ h.sim) l) l)) h)

  sim_load : {w u : T} {s : S} (r : Range) (es : Exprs) → Follows σ w s u → Follows σ w (compile_load R t base r es s) (compile_load Q t base r es u)
  unfolding compile_load
  sim_load r none g = g
  sim_load r (more e es) g = sim_load_node r es (sim_typed σ t base Real e g)

  -- LOCATE
  sim_locate_row : {w u : T} {s : S} (e : Opt Expr) → Follows σ w s u → Follows σ w (locate_row R t base e s) (locate_row Q t base e u)
  sim_locate_row absent g = g
  sim_locate_row (given e) g = plain refl (sim_typed σ t base Real e g)

  sim_locate_column : {w u : T} {s : S} (e : Opt Expr) → Follows σ w s u → Follows σ w (locate_column R t base e s) (locate_column Q t base e u)
  sim_locate_column absent g = g
  sim_locate_column (given e) g = plain refl (sim_typed σ t base Real e g)

  sim_locate : {w u : T} {s : S} (a b : Opt Expr) → Follows σ w s u → Follows σ w (compile_locate R t base a b s) (compile_locate Q t base a b u)
  unfolding compile_locate
  sim_locate a b g = sim_locate_column b (sim_locate_row a g)

  -- NEXT
  next_kind : {w u : T} {s : S} {x y : Ty} (v : Range) → x ≡ y → Follows σ w s u
      → Follows σ w (pick (matches_type x Real) s (add_error R t base 5 v s)) (pick (matches_type y Real) u (add_error Q t base 5 v u))
  next_kind {y = y} v e g = rw e (pick_follows (matches_type y Real) g (noted g))

  sim_next_by : {w : T} {a : Sym S} {b : Sym T} (r v : Range) → FollowsSym σ w a b → Follows σ w (next_by R t base r v a) (next_by Q t base r v b)
  sim_next_by r v y =
      let h = next_kind v y.ty (start y.follows) in
      over y.follows (numbering refl refl (number_then (σ.number_map _ (λ (n : ℕ). n + 1) _ _ y.number) h) h)

  sim_next_one : {w u : T} {s : S} (n : ℕ) (r : Range) (v : Opt Range) → Follows σ w s u → Follows σ w (next_one R t base n r v s) (next_one Q t base n r v u)
  sim_next_one n r absent g = g
  sim_next_one n r (given v) g = sim_next_by (next_range n r v) v (sim_sym σ t base v g)

  sim_next_each : (n : ℕ) (r : Range) (vs : List (Opt Range)) {w u : T} {s : S} → Follows σ w s u → Follows σ w (next_each R t base n r vs s) (next_each Q t base n r vs u)
  unfolding next_each
  sim_next_each n r [] g = g
  sim_next_each n r (v ∷ vs) g = sim_next_each n r vs (sim_next_one n r v g)

  sim_next : {w u : T} {s : S} (r : Range) (vs : List (Opt Range)) → Follows σ w s u → Follows σ w (compile_next R t base r vs s) (compile_next Q t base r vs u)
  unfolding compile_next
  sim_next r [] g = plain refl g
  sim_next r (v ∷ vs) g = sim_next_each (length (v ∷ vs)) r (v ∷ vs) g

  -- ON
  sim_on_jumps : (sub : ℕ) (gs : List OnTarget) {w u : T} {s : S} → Follows σ w s u → Follows σ w (on_jumps R t base sub gs s) (on_jumps Q t base sub gs u)
  unfolding on_jumps
  sim_on_jumps sub [] g = g
  sim_on_jumps sub (x ∷ xs) g = sim_on_jumps sub xs (sim_waiting sub x.range (label_or0 x.label) x.range g)

  sim_on : {w u : T} {s : S} (r : Range) (e : Expr) (gs : List OnTarget) (sub : ℕ) → Follows σ w s u
      → Follows σ w (compile_on R t base r e gs sub s) (compile_on Q t base r e gs sub u)
  unfolding compile_on
  sim_on r e gs sub g = sim_on_jumps sub gs (plain refl (sim_typed σ t base Real e g))

  -- OPEN
  sim_open_node : {w u : T} {s : S} (r : Range) (m : ℕ) (l : Opt Len) → Follows σ w s u → Follows σ w (open_node R t base r m l s) (open_node Q t base r m l u)
  sim_open_node r m absent g = plain refl g
  sim_open_node r m (given l) g =
      let h = sim_typed σ t base Real l.value (pick_follows (ltb 1 m) (noted {k = 12} {r = l.range} {v = 1} g) g) in
      pick_follows (eqb m 0) h (plain refl h)

  sim_open : {w u : T} {s : S} (r : Range) (f : Expr) (m : ℕ) (e : Expr) (l : Opt Len) → Follows σ w s u
      → Follows σ w (compile_open R t base r f m e l s) (compile_open Q t base r f m e l u)
  unfolding compile_open
  sim_open r f m e l g = sim_open_node r m l (sim_typed σ t base Real e (sim_typed σ t base String f g))

  -- PRINT
  sim_tab : {w u : T} {s : S} (e : Expr) → Follows σ w s u → Follows σ w (tab_call R t base e s) (tab_call Q t base e u)
  sim_tab (sys_func_call r fr k es) g =
      let h = sim_args σ t base (wanted (signature_of k).args) zero es (sim_surplus 1 es g) in
      pick_follows (eqb k spc) (plain refl h) (plain refl h)
  sim_tab (ident r) g = g
  sim_tab (string_lit r) g = g
  sim_tab (number_lit r e m) g = g
  sim_tab (user_func_call r f e) g = g
  sim_tab (binary r a o k b) g = g
  sim_tab (unary r k e) g = g
  sim_tab (index r n es) g = g
  sim_tab (inkey r) g = g
  sim_tab (error r) g = g

  print_kind : {w u : T} {s : S} {x y : Ty} (r : Range) → x ≡ y → Follows σ w s u
      → Follows σ w (print_node R t base r x s) (print_node Q t base r y u)
  print_kind {y = y} r e g = rw e (pick_follows (matches_type y Real) (plain refl g) (plain refl g))

  sim_print_value : {w u : T} {s : S} (e : Expr) → Follows σ w s u → Follows σ w (print_value R t base e s) (print_value Q t base e u)
  sim_print_value e g = let x = sim_expr σ t base e g in print_kind (expr_range e) x.ty x.follows

  sim_behind : {w u : T} {s : S} (b : Bool) (r er : Range) (xs : List PrintElement) → Follows σ w s u
      → Follows σ w (behind_value R t base b r er xs s) (behind_value Q t base b r er xs u)
  sim_behind b r er [] g = plain refl g
  sim_behind b r er (x ∷ xs) g = pick_follows (both (is_value x) (pick b false true)) (plain refl (plain refl g)) g

  sim_print_one : {w u : T} {s : S} (r : Range) (x : PrintElement) (xs : List PrintElement) → Follows σ w s u
      → Follows σ w (print_one R t base r x xs s) (print_one Q t base r x xs u)
  sim_print_one r (value e) xs g = sim_behind (is_tab_spc e) r (expr_range e) xs (pick_follows (is_tab_spc e) (sim_tab e g) (sim_print_value e g))
  sim_print_one r (comma er) xs g = plain refl g
  sim_print_one r (semicolon er) xs g = g

  sim_print_each : (r : Range) (xs : List PrintElement) {w u : T} {s : S} → Follows σ w s u → Follows σ w (print_each R t base r xs s) (print_each Q t base r xs u)
  unfolding print_each
  sim_print_each r [] g = g
  sim_print_each r (x ∷ xs) g = sim_print_each r xs (sim_print_one r x xs g)

  sim_empty_line : {w u : T} {s : S} (r : Range) (xs : List PrintElement) → Follows σ w s u → Follows σ w (empty_line R t base r xs s) (empty_line Q t base r xs u)
  sim_empty_line r [] g = plain refl g
  sim_empty_line r (x ∷ xs) g = g

  sim_print : {w u : T} {s : S} (r : Range) (xs : List PrintElement) → Follows σ w s u → Follows σ w (compile_print R t base r xs s) (compile_print Q t base r xs u)
  unfolding compile_print
  sim_print r xs g = plain refl (sim_empty_line r xs (sim_print_each r xs g))

  -- READ, SWAP, WHILE
  sim_read : (es : Exprs) {w u : T} {s : S} → Follows σ w s u → Follows σ w (compile_read R t base es s) (compile_read Q t base es u)
  unfolding compile_read
  sim_read none g = g
  sim_read (more e es) g = sim_read es (plain refl (sim_lvalue σ t base e g).follows)

  swap_kinds : {w u : T} {s : S} {x x' y y' : Ty} (r : Range) → x ≡ x' → y ≡ y' → Follows σ w s u
      → Follows σ w (pick (exact_matches x y) s (add_error R t base 4 r s)) (pick (exact_matches x' y') u (add_error Q t base 4 r u))
  swap_kinds {x' = x'} {y' = y'} r e f g = rw (e, f) (pick_follows (exact_matches x' y') g (noted g))

  sim_swap : {w u : T} {s : S} (r : Range) (a b : Expr) → Follows σ w s u → Follows σ w (compile_swap R t base r a b s) (compile_swap Q t base r a b u)
  unfolding compile_swap
  sim_swap r a b g =
      let x = sim_lvalue σ t base a g in
      let y = sim_lvalue σ t base b x.follows in
      plain refl (swap_kinds r x.ty y.ty y.follows)

  sim_while : {w u : T} {s : S} (r : Range) (e : Expr) → Follows σ w s u → Follows σ w (compile_while R t base r e s) (compile_while Q t base r e u)
  unfolding compile_while
  sim_while r e g = let c = sim_typed σ t base Real e (start g) in over g (placing refl (place_then (σ.count _ _ g.sim) c) c)

  -- WRITE
  sim_write_value : {w u : T} {s : S} {x y : Ty} (k : ℕ) (d : WriteElement) (b : Bool) → x ≡ y → Follows σ w s u
      → Follows σ w (write_value R t base k d b x s) (write_value Q t base k d b y u)
  unfolding write_value
  sim_write_value {y = y} k d b e g = rw e
      (pick_follows (either b (eqb d.comma 1)) (pick_follows (matches_type y Real) (plain refl g) (plain refl g))
      (pick_follows (matches_type y Real) (plain refl (noted g)) (plain refl (noted g))))

  sim_write_each : (k : ℕ) (ds : List WriteElement) {w u : T} {s : S} → Follows σ w s u → Follows σ w (write_each R t base k ds s) (write_each Q t base k ds u)
  unfolding write_each
  sim_write_each k [] g = g
  sim_write_each k (d ∷ ds) g = let x = sim_expr σ t base d.datum g in sim_write_each k ds (sim_write_value k d (is_last ds) x.ty x.follows)

  sim_write : {w u : T} {s : S} (r : Range) (f : Opt Expr) (ds : List WriteElement) → Follows σ w s u
      → Follows σ w (compile_write R t base r f ds s) (compile_write Q t base r f ds u)
  sim_write r absent ds g = plain refl (sim_write_each 0 ds g)
  sim_write r (given e) ds g = sim_write_each 1 ds (sim_typed σ t base Real e g)

  -- IF
  sim_end_here : {w u : T} {s : S} {k k' : ℕ} → σ.Place u k k' → Follows σ w s u → Follows σ w (end_here R t base k s) (end_here Q t base k' u)
  sim_end_here p g = record {
    sim = σ.patch _ _ _ _ _ _ g.sim p (σ.count _ _ g.sim);
    later = σ.later_trans _ _ _ g.later (σ.patch_later _ _ _);
  }

  mutual
    unfolding compile_stmt compile_stmts

    pub sim_stmt : {w u : T} {s : S} (x : Stmt) → Follows σ w s u → Follows σ w (compile_stmt R t base x s) (compile_stmt Q t base x u)
    sim_stmt (rem r) g = plain refl g
    sim_stmt (op₀ k r) g = plain refl g
    sim_stmt (op₁ k r a) g = plain refl (sim_typed σ t base (operand k 0) a g)
    sim_stmt (op₂ k r a b) g = plain refl (sim_typed σ t base (operand k 1) b (sim_typed σ t base (operand k 0) a g))
    sim_stmt (op₃ k r a b c) g =
        plain refl (sim_typed σ t base (operand k 2) c (sim_typed σ t base (operand k 1) b (sim_typed σ t base (operand k 0) a g)))
    sim_stmt (draw k r es) g = sim_draw k r es (sim_args σ t base (drawn k) zero es g)
    sim_stmt (set k r a b) g = plain refl (sim_typed σ t base String b (sim_place String a g))
    sim_stmt (data_list r ds) g = sim_data ds g
    sim_stmt (def r n p e) g = sim_def r n p e g
    sim_stmt (dim r es) g = sim_dim es g
    sim_stmt (field r e fs) g = sim_field r e fs g
    sim_stmt (for r v a b e) g = sim_for r v a b e g
    sim_stmt (go r sub x) g = sim_go r sub x g
    sim_stmt (if_then r e xs) g =
        let c = sim_typed σ t base Real e g in
        let y = sim_stmts xs (plain {k = 19} {r = r} {a = unknown} {b = 0} {c = 0} refl (start c)) in
        over c (sim_end_here (place_then (σ.count _ _ c.sim) y) y)
    sim_stmt (if_else r e xs ys) g =
        let c = sim_typed σ t base Real e g in
        let y = sim_stmts xs (plain {k = 19} {r = r} {a = unknown} {b = 0} {c = 0} refl (start c)) in
        let j = plain {k = 20} {r = r} {a = unknown} {b = 0} {c = 0} refl (start y) in
        let z = sim_stmts ys (sim_end_here (place_then (place_then (σ.count _ _ c.sim) y) j) j) in
        over c (over y (sim_end_here (place_then (σ.count _ _ y.sim) z) z))
    sim_stmt (input r x es) g = sim_input r x es g
    sim_stmt (assign r a b) g = sim_let r a b g
    sim_stmt (load r es) g = sim_load r es g
    sim_stmt (locate r a b) g = sim_locate a b g
    sim_stmt (next_of r vs) g = sim_next r vs g
    sim_stmt (on r e gs sub) g = sim_on r e gs sub g
    sim_stmt (open_file r f m e l) g = sim_open r f m e l g
    sim_stmt (print r xs) g = sim_print r xs g
    sim_stmt (read r es) g = sim_read es g
    sim_stmt (restore r x) g = sim_restore r x g
    sim_stmt (swap r a b) g = sim_swap r a b g
    sim_stmt (system r) g = noted g
    sim_stmt (while r e) g = sim_while r e g
    sim_stmt (write r f ds) g = sim_write r f ds g

    pub sim_stmts : {w u : T} {s : S} (xs : Stmts) → Follows σ w s u → Follows σ w (compile_stmts R t base xs s) (compile_stmts Q t base xs u)
    sim_stmts end g = g
    sim_stmts (then x xs) g = sim_stmts xs (sim_stmt x g)
