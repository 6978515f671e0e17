-- Compiling a statement reads the texts where its names, texts, data and numbers stand.
use Rattle.std.proofs.Common.{◌≡◌, ℕ, zero, suc, ◌-◌, Bool, true, false, eqb, ltb, List, [], ◌∷◌, length, refl, eqb-true}
use Rattle.recorder.specs.Numbers.{unknown}
use Rattle.recorder.specs.Word.{pick, both, either}
use Rattle.recorder.specs.declared.word.Range.{Range}
use Rattle.recorder.specs.Recorder.{Recorder}
use Rattle.sheet.specs.Tree.{Opt, absent, given, Expr, ident, string_lit, number_lit, sys_func_call, user_func_call, binary, unary, index, inkey, error, Exprs, none, more, expr_range, count, Datum, FieldSpec, Target, OnTarget, Len, WriteElement, PrintElement, value, comma, semicolon, InputSource, keyboard, file, Stmt, rem, op₀, op₁, op₂, op₃, draw, set, data_list, def, dim, field, for, go, if_then, if_else, input, assign, load, locate, next_of, on, open_file, print, read, restore, swap, system, while, write, Stmts, end, then}
use Rattle.rules.specs.declared.types.«Type».{«Type» as Ty}
use Rattle.rules.specs.declared.types.«Type».TheVariants.{Integer, Real, String, Error}
use Rattle.rules.specs.Types.{matches_type, exact_matches}
use Rattle.rules.specs.Name.{text_place}
use Rattle.rules.specs.Tables.{draw_arity, drawn, operand, signature_of, spc, wanted, every_real}
use Rattle.rules.specs.Missing.{All, IfGiven}
use Rattle.rules.specs.Expr.{Sym, text_size, quoted_length, add_error}
use Rattle.rules.specs.Stmt.{fresh, byte_of, is_ident, datum_length, target_label, target_range, label_or0, is_value, is_file, next_range, is_tab_spc, is_last, surplus_notes, draw_node, datum_node, compile_data, end_def, def_node, compile_def, dim_node, dim_one, compile_dim, place_typed, compile_fields, compile_field, compile_step, for_node, compile_for, pending_jump, compile_go, compile_restore, input_arg_by, fn_place, fn_input, input_var, input_vars, input_source, compile_input, assign_call, assign_node, compile_let, bad_byte, bad_bytes, all_bytes, load_byte, load_bytes, load_node, compile_load, locate_row, locate_column, compile_locate, next_by, next_one, next_each, compile_next, on_jumps, compile_on, open_node, compile_open, tab_call, print_node, print_value, behind_value, print_one, print_each, empty_line, compile_print, compile_read, compile_swap, compile_while, write_value, write_each, compile_write, end_here, compile_stmt, compile_stmts}
use Rattle.items.specs.Items.{ItemsExpr, ItemsExprs, ItemsDatum, ItemsFieldSpec, ItemsLen, ItemsElement, ItemsSource, ItemsStmt, ItemsStmts}
use Rattle.reading.specs.Agreement.{SameName, shared}
use Rattle.reading.proofs.Units.{quoted_length_same, byte_units_same}
use Rattle.reading.proofs.Reading.{Same, SameNamed, SameSym, Alike}
use Rattle.reading.proofs.Exprs.{pick_same, plain, numbering, noted, counted, same_sym, same_check, same_real_sym, same_text, same_opt_real_sym, same_expr, same_args, same_typed, same_lvalue}

module _ (t u : List ℕ) (base : ℕ) where
  -- what a datum counts, and what LOAD reads of an argument
  datum_length_same : (d : Datum) → ItemsDatum (shared t u base) d → datum_length t base d ≡ datum_length u base d
  datum_length_same d h = go (eqb d.quoted 1) refl
    where
      go : (b : Bool) → eqb d.quoted 1 ≡ b → pick b (quoted_length t base d.range) (d.range.end - d.range.start) ≡ pick b (quoted_length u base d.range) (d.range.end - d.range.start)
      go true e = quoted_length_same t u base d.range (h (eqb-true d.quoted 1 e))
      go false e = refl

  byte_same : (e : Expr) → ItemsExpr (shared t u base) e → byte_of t base e ≡ byte_of u base e
  byte_same (number_lit r e m) h = rw (byte_units_same t u (r.end - r.start) (text_place base r.start) fresh h) refl
  byte_same (ident r) h = refl
  byte_same (string_lit r) h = refl
  byte_same (sys_func_call r fr k es) h = refl
  byte_same (user_func_call r f e) h = refl
  byte_same (binary r a o k b) h = refl
  byte_same (unary r k e) h = refl
  byte_same (index r n es) h = refl
  byte_same (inkey r) h = refl
  byte_same (error r) h = refl

module _ {S : Type 0} {R Q : Recorder S} {t u : List ℕ} {I : S → Type 0} (κ : Alike R Q t u I) (base : ℕ) where
  same_surplus : (n : ℕ) (es : Exprs) {s v : S} → Same I s v → Same I (surplus_notes R t base n es s) (surplus_notes Q u base n es v)
  unfolding surplus_notes
  same_surplus n none g = g
  same_surplus zero (more e es) g = same_surplus zero es (noted κ g)
  same_surplus (suc n) (more e es) g = same_surplus n es g

  same_draw : {s v : S} (k : ℕ) (r : Range) (es : Exprs) → Same I s v → Same I (draw_node R t base k r es s) (draw_node Q u base k r es v)
  unfolding draw_node
  same_draw k r es g =
      pick_same (ltb (count es) (draw_arity k).min) (noted κ g)
      (pick_same (ltb (draw_arity k).max (count es)) (same_surplus (draw_arity k).max es g) (plain κ g))

  -- DATA
  datum_follows : {s v : S} {x n q : ℕ} → Same I s v → Same I (R.datum s x n q) (Q.datum v x n q)
  datum_follows g = rw g.is (κ.datum g.keeps)

  same_datum : {s v : S} (d : Datum) → ItemsDatum (shared t u base) d → Same I s v → Same I (datum_node R t base d s) (datum_node Q u base d v)
  unfolding datum_node
  same_datum d h g = rw (datum_length_same t u base d h) (pick_same (ltb 255 (text_size (datum_length u base d))) (noted κ (datum_follows g)) (datum_follows g))

  same_data : (ds : List Datum) {s v : S} → All (ItemsDatum (shared t u base)) ds → Same I s v
      → Same I (compile_data R t base ds s) (compile_data Q u base ds v)
  unfolding compile_data
  same_data [] h g = g
  same_data (d ∷ ds) h g = same_data ds h.1 (same_datum d h.0 g)

  -- DEF
  patched_end : {s v : S} {k k' n n' : ℕ} → k ≡ k' → n ≡ n' → Same I s v → Same I (R.patch_end s k n) (Q.patch_end v k' n')
  patched_end e f g = rw (e, f, g.is) (κ.patch_end g.keeps)

  same_end_def : {s v : S} {k k' : ℕ} (r : Range) → k ≡ k' → Same I s v → Same I (end_def R t base r k s) (end_def Q u base r k' v)
  same_end_def r e g = let h = plain κ {k = 27} {r = r} {a = 0} {b = 0} {c = 0} g in patched_end e (counted κ h) h

  same_def_node : {s v : S} {n n' a a' : ℕ} (x p : Opt Range) (r : Range) (e : Expr) → ItemsExpr (shared t u base) e → n ≡ n' → a ≡ a' → Same I s v
      → Same I (def_node R t base x p r n a e s) (def_node Q u base x p r n' a' e v)
  same_def_node absent p r e h n a g = same_typed κ base Real e h g
  same_def_node (given nr) absent r e h n a g = same_typed κ base Real e h g
  same_def_node (given nr) (given pr) r e h n a g = same_end_def r (counted κ g) (same_typed κ base Real e h (numbering κ {k = 26} {r = r} {c = unknown} n a g))

  same_def : {s v : S} (r : Range) (n p : Opt Range) (e : Expr) → IfGiven (SameName t u base) n → IfGiven (SameName t u base) p → ItemsExpr (shared t u base) e
      → Same I s v → Same I (compile_def R t base r n p e s) (compile_def Q u base r n p e v)
  unfolding compile_def
  same_def r n p e hn hp h g =
      let x = same_opt_real_sym κ base n hn g in
      let y = same_opt_real_sym κ base p hp x.follows in
      same_def_node n p r e h x.number y.number y.follows

  -- DIM
  same_dim_node : {s v : S} (x : Opt Range) (n : ℕ) → IfGiven (SameName t u base) x → Same I s v → Same I (dim_node R t base x n s) (dim_node Q u base x n v)
  same_dim_node absent n h g = g
  same_dim_node (given nr) n h g = let y = same_sym κ base nr h g in numbering κ y.number refl y.follows

  same_dim_one : {s v : S} (e : Expr) → ItemsExpr (shared t u base) e → Same I s v → Same I (dim_one R t base e s) (dim_one Q u base e v)
  unfolding dim_one
  same_dim_one (index r n es) h g = same_dim_node n (count es) h.1 (same_args κ base every_real zero es h.2 g)
  same_dim_one (ident r) h g = g
  same_dim_one (string_lit r) h g = g
  same_dim_one (number_lit r e m) h g = g
  same_dim_one (sys_func_call r fr k es) h g = g
  same_dim_one (user_func_call r f e) h g = g
  same_dim_one (binary r a o k b) h g = g
  same_dim_one (unary r k e) h g = g
  same_dim_one (inkey r) h g = g
  same_dim_one (error r) h g = g

  same_dim : (es : Exprs) {s v : S} → ItemsExprs (shared t u base) es → Same I s v → Same I (compile_dim R t base es s) (compile_dim Q u base es v)
  unfolding compile_dim
  same_dim none h g = g
  same_dim (more e es) h g = same_dim es h.1 (same_dim_one e h.0 g)

  same_place : {s v : S} (want : Ty) (e : Expr) → ItemsExpr (shared t u base) e → Same I s v
      → Same I (place_typed R t base want e s) (place_typed Q u base want e v)
  same_place want e h g = let x = same_lvalue κ base e h g in same_check κ base want (expr_range e) x.ty x.follows

  -- FIELD
  same_fields : (fs : List FieldSpec) {s v : S} → All (ItemsFieldSpec (shared t u base)) fs → Same I s v
      → Same I (compile_fields R t base fs s) (compile_fields Q u base fs v)
  unfolding compile_fields
  same_fields [] h g = g
  same_fields (f ∷ fs) h g = same_fields fs h.1 (same_place String f.var h.0.1 (same_typed κ base Real f.len h.0.0 g))

  -- FOR
  same_step : {s v : S} (e : Opt Expr) → IfGiven (ItemsExpr (shared t u base)) e → Same I s v → Same I (compile_step R t base e s) (compile_step Q u base e v)
  same_step absent h g = g
  same_step (given e) h g = same_typed κ base Real e h g

  same_for_node : {s v : S} {n n' : ℕ} (c : Opt Range) (r : Range) (e : Opt Expr) → n ≡ n' → Same I s v
      → Same I (for_node R t base c r n e s) (for_node Q u base c r n' e v)
  same_for_node absent r e n g = g
  same_for_node (given c) r e n g = numbering κ n refl g

  same_for : {s v : S} (r : Range) (c : Opt Range) (a b : Expr) (e : Opt Expr) → IfGiven (SameName t u base) c → ItemsExpr (shared t u base) a
      → ItemsExpr (shared t u base) b → IfGiven (ItemsExpr (shared t u base)) e → Same I s v → Same I (compile_for R t base r c a b e s) (compile_for Q u base r c a b e v)
  unfolding compile_for
  same_for r c a b e hc ha hb he g =
      let y = same_opt_real_sym κ base c hc g in
      same_for_node c r e y.number (same_step e he (same_typed κ base Real b hb (same_typed κ base Real a ha y.follows)))

  -- GOTO, GOSUB, RESTORE
  same_waiting : {s v : S} (sub : ℕ) (r : Range) (l : ℕ) (lr : Range) → Same I s v
      → Same I (pending_jump R t base sub r l lr s) (pending_jump Q u base sub r l lr v)
  same_waiting sub r l lr g = pick_same (eqb sub 1) (plain κ g) (plain κ g)

  same_restore : {s v : S} (r : Range) (x : Opt Target) → Same I s v → Same I (compile_restore R t base r x s) (compile_restore Q u base r x v)
  same_restore r absent g = plain κ g
  same_restore r (given x) g = plain κ g

  -- INPUT
  same_input_arg : {s v : S} (e : Expr) → ItemsExpr (shared t u base) e → Same I s v
      → SameNamed I (input_arg_by R t base (is_ident e) e s) (input_arg_by Q u base (is_ident e) e v)
  same_input_arg (ident r) h g = same_real_sym κ base r h g
  same_input_arg (string_lit r) h g = record { follows = noted κ g; number = refl }
  same_input_arg (number_lit r e m) h g = record { follows = noted κ g; number = refl }
  same_input_arg (sys_func_call r fr k es) h g = record { follows = noted κ g; number = refl }
  same_input_arg (user_func_call r f e) h g = record { follows = noted κ g; number = refl }
  same_input_arg (binary r a o k b) h g = record { follows = noted κ g; number = refl }
  same_input_arg (unary r k e) h g = record { follows = noted κ g; number = refl }
  same_input_arg (index r n es) h g = record { follows = noted κ g; number = refl }
  same_input_arg (inkey r) h g = record { follows = noted κ g; number = refl }
  same_input_arg (error r) h g = record { follows = noted κ g; number = refl }

  same_fn_place : {s v : S} {n n' a a' : ℕ} (f : Opt Range) (b : Bool) (r : Range) → n ≡ n' → a ≡ a' → Same I s v
      → Same I (fn_place R t base f b r n a s) (fn_place Q u base f b r n' a' v)
  same_fn_place absent b r n a g = g
  same_fn_place (given fr) false r n a g = g
  same_fn_place (given fr) true r n a g = numbering κ n a g

  same_fn_input : {s v : S} (b : Bool) (r : Range) (f : Opt Range) (e : Expr) → IfGiven (SameName t u base) f → ItemsExpr (shared t u base) e → Same I s v
      → Same I (fn_input R t base b r f e s) (fn_input Q u base b r f e v)
  same_fn_input true r f e hf h g = noted κ g
  same_fn_input false r f e hf h g =
      let x = same_opt_real_sym κ base f hf g in
      let y = same_input_arg e h x.follows in
      same_fn_place f (is_ident e) r x.number y.number y.follows

  same_input_var : {s v : S} (b : Bool) (e : Expr) → ItemsExpr (shared t u base) e → Same I s v → Same I (input_var R t base b e s) (input_var Q u base b e v)
  unfolding input_var
  same_input_var b (user_func_call r f e) h g = same_fn_input b r f e h.1 h.2 g
  same_input_var b (ident r) h g = (same_lvalue κ base (ident r) h g).follows
  same_input_var b (string_lit r) h g = (same_lvalue κ base (string_lit r) h g).follows
  same_input_var b (number_lit r e m) h g = (same_lvalue κ base (number_lit r e m) h g).follows
  same_input_var b (sys_func_call r fr k es) h g = (same_lvalue κ base (sys_func_call r fr k es) h g).follows
  same_input_var b (binary r x o k y) h g = (same_lvalue κ base (binary r x o k y) h g).follows
  same_input_var b (unary r k e) h g = (same_lvalue κ base (unary r k e) h g).follows
  same_input_var b (index r n es) h g = (same_lvalue κ base (index r n es) h g).follows
  same_input_var b (inkey r) h g = (same_lvalue κ base (inkey r) h g).follows
  same_input_var b (error r) h g = (same_lvalue κ base (error r) h g).follows

  same_input_vars : (b : Bool) (es : Exprs) {s v : S} → ItemsExprs (shared t u base) es → Same I s v
      → Same I (input_vars R t base b es s) (input_vars Q u base b es v)
  unfolding input_vars
  same_input_vars b none h g = g
  same_input_vars b (more e es) h g = same_input_vars b es h.1 (same_input_var b e h.0 g)

  same_source : {s v : S} (r : Range) (n : ℕ) (x : InputSource) → ItemsSource (shared t u base) x → Same I s v
      → Same I (input_source R t base r n x s) (input_source Q u base r n x v)
  same_source r n (keyboard absent) h g = plain κ g
  same_source r n (keyboard (given p)) h g = plain κ (same_text κ base p h g)
  same_source r n (file e) h g = plain κ (same_typed κ base Real e h g)

  -- LET
  same_assign_call : {s v : S} (x : Ty) (r : Range) → Same I s v → Same I (assign_call R t base x r s) (assign_call Q u base x r v)
  same_assign_call Integer r g = plain κ g
  same_assign_call Real r g = plain κ g
  same_assign_call String r g = plain κ g
  same_assign_call Error r g = g

  same_assign : {s v : S} {x x' y y' : Ty} (r : Range) → x ≡ x' → y ≡ y' → Same I s v → Same I (assign_node R t base r x y s) (assign_node Q u base r x' y' v)
  unfolding assign_node
  same_assign {x' = x'} {y' = y'} r e f g = rw (e, f) (same_assign_call x' r (pick_same (matches_type x' y') g (noted κ g)))

  same_let : {s v : S} (r : Range) (a b : Expr) → ItemsExpr (shared t u base) a → ItemsExpr (shared t u base) b → Same I s v
      → Same I (compile_let R t base r a b s) (compile_let Q u base r a b v)
  unfolding compile_let
  same_let r a b ha hb g =
      let x = same_lvalue κ base a ha g in
      let y = same_expr κ base b hb x.follows in
      same_assign r x.ty y.ty y.follows

  -- LOAD
  same_bad_byte : {s v : S} (o : Opt ℕ) (r : Range) → Same I s v → Same I (bad_byte R t base o r s) (bad_byte Q u base o r v)
  same_bad_byte absent r g = noted κ g
  same_bad_byte (given b) r g = g

  same_bad_bytes : (es : Exprs) {s v : S} → ItemsExprs (shared t u base) es → Same I s v → Same I (bad_bytes R t base es s) (bad_bytes Q u base es v)
  unfolding bad_bytes
  same_bad_bytes none h g = g
  same_bad_bytes (more e es) h g = rw (byte_same t u base e h.0) (same_bad_bytes es h.1 (same_bad_byte (byte_of u base e) (expr_range e) g))

  all_bytes_same : (es : Exprs) → ItemsExprs (shared t u base) es → all_bytes R t base es ≡ all_bytes Q u base es
  unfolding all_bytes
  all_bytes_same none h = refl
  all_bytes_same (more e es) h = rw (byte_same t u base e h.0, all_bytes_same es h.1) refl

  same_load_byte : {s v : S} (o : Opt ℕ) (r : Range) → Same I s v → Same I (load_byte R t base o r s) (load_byte Q u base o r v)
  same_load_byte absent r g = g
  same_load_byte (given b) r g = rw g.is (κ.byte g.keeps)

  same_load_bytes : (es : Exprs) {s v : S} → ItemsExprs (shared t u base) es → Same I s v → Same I (load_bytes R t base es s) (load_bytes Q u base es v)
  unfolding load_bytes
  same_load_bytes none h g = g
  same_load_bytes (more e es) h g = rw (byte_same t u base e h.0) (same_load_bytes es h.1 (same_load_byte (byte_of u base e) (expr_range e) g))

  next_byte_same : {s v : S} → Same I s v → R.next_byte s ≡ Q.next_byte v
  next_byte_same g = rw g.is (κ.next_byte g.keeps)

  same_load_node : {s v : S} (r : Range) (es : Exprs) → ItemsExprs (shared t u base) es → Same I s v
      → Same I (load_node R t base r es s) (load_node Q u base r es v)
  unfolding load_node
  same_load_node r none h g = noted κ g
  same_load_node r (more e es) h g =
      let k = same_bad_bytes (more e es) h g in
      rw (all_bytes_same (more e es) h)
      (pick_same (all_bytes Q u base (more e es)) (numbering κ (next_byte_same k) refl (same_load_bytes (more e es) h k)) k)

  same_load : {s v : S} (r : Range) (es : Exprs) → ItemsExprs (shared t u base) es → Same I s v
      → Same I (compile_load R t base r es s) (compile_load Q u base r es v)
  unfolding compile_load
  same_load r none h g = g
  same_load r (more e es) h g = same_load_node r es h.1 (same_typed κ base Real e h.0 g)

  -- LOCATE
  same_locate_row : {s v : S} (e : Opt Expr) → IfGiven (ItemsExpr (shared t u base)) e → Same I s v
      → Same I (locate_row R t base e s) (locate_row Q u base e v)
  same_locate_row absent h g = g
  same_locate_row (given e) h g = plain κ (same_typed κ base Real e h g)

  same_locate_column : {s v : S} (e : Opt Expr) → IfGiven (ItemsExpr (shared t u base)) e → Same I s v
      → Same I (locate_column R t base e s) (locate_column Q u base e v)
  same_locate_column absent h g = g
  same_locate_column (given e) h g = plain κ (same_typed κ base Real e h g)

  -- NEXT
  same_next_by : {a b : Sym S} (r c : Range) → SameSym I a b → Same I (next_by R t base r c a) (next_by Q u base r c b)
  same_next_by {b = b} r c y =
      let e = y.number in
      let f = y.ty in
      let k = pick_same (matches_type b.ty Real) y.follows (noted κ {k = 5} {r = c} {n = 1} y.follows) in
      rw (e, f) (plain κ k)

  same_next_one : {s v : S} (n : ℕ) (r : Range) (c : Opt Range) → IfGiven (SameName t u base) c → Same I s v
      → Same I (next_one R t base n r c s) (next_one Q u base n r c v)
  same_next_one n r absent h g = g
  same_next_one n r (given c) h g = same_next_by (next_range n r c) c (same_sym κ base c h g)

  same_next_each : (n : ℕ) (r : Range) (cs : List (Opt Range)) {s v : S} → All (IfGiven (SameName t u base)) cs → Same I s v
      → Same I (next_each R t base n r cs s) (next_each Q u base n r cs v)
  unfolding next_each
  same_next_each n r [] h g = g
  same_next_each n r (c ∷ cs) h g = same_next_each n r cs h.1 (same_next_one n r c h.0 g)

  same_next : {s v : S} (r : Range) (cs : List (Opt Range)) → All (IfGiven (SameName t u base)) cs → Same I s v
      → Same I (compile_next R t base r cs s) (compile_next Q u base r cs v)
  unfolding compile_next
  same_next r [] h g = plain κ g
  same_next r (c ∷ cs) h g = same_next_each (length (c ∷ cs)) r (c ∷ cs) h g

  -- ON
  same_on_jumps : (sub : ℕ) (xs : List OnTarget) {s v : S} → Same I s v → Same I (on_jumps R t base sub xs s) (on_jumps Q u base sub xs v)
  unfolding on_jumps
  same_on_jumps sub [] g = g
  same_on_jumps sub (x ∷ xs) g = same_on_jumps sub xs (same_waiting sub x.range (label_or0 x.label) x.range g)

  -- OPEN
  same_open_node : {s v : S} (r : Range) (m : ℕ) (l : Opt Len) → IfGiven (ItemsLen (shared t u base)) l → Same I s v
      → Same I (open_node R t base r m l s) (open_node Q u base r m l v)
  same_open_node r m absent h g = plain κ g
  same_open_node r m (given l) h g =
      let k = same_typed κ base Real l.value h.1 (pick_same (ltb 1 m) (noted κ {k = 12} {r = l.range} {n = 1} g) g) in
      pick_same (eqb m 0) k (plain κ k)

  -- PRINT
  same_tab : {s v : S} (e : Expr) → ItemsExpr (shared t u base) e → Same I s v → Same I (tab_call R t base e s) (tab_call Q u base e v)
  same_tab (sys_func_call r fr k es) h g =
      let f = same_args κ base (wanted (signature_of k).args) zero es h.2 (same_surplus 1 es g) in
      pick_same (eqb k spc) (plain κ f) (plain κ f)
  same_tab (ident r) h g = g
  same_tab (string_lit r) h g = g
  same_tab (number_lit r e m) h g = g
  same_tab (user_func_call r f e) h g = g
  same_tab (binary r a o k b) h g = g
  same_tab (unary r k e) h g = g
  same_tab (index r n es) h g = g
  same_tab (inkey r) h g = g
  same_tab (error r) h g = g

  print_kind : {s v : S} {x y : Ty} (r : Range) → x ≡ y → Same I s v
      → Same I (print_node R t base r x s) (print_node Q u base r y v)
  print_kind {y = y} r e g = rw e (pick_same (matches_type y Real) (plain κ g) (plain κ g))

  same_print_value : {s v : S} (e : Expr) → ItemsExpr (shared t u base) e → Same I s v → Same I (print_value R t base e s) (print_value Q u base e v)
  same_print_value e h g = let x = same_expr κ base e h g in print_kind (expr_range e) x.ty x.follows

  same_behind : {s v : S} (b : Bool) (r er : Range) (xs : List PrintElement) → Same I s v
      → Same I (behind_value R t base b r er xs s) (behind_value Q u base b r er xs v)
  same_behind b r er [] g = plain κ g
  same_behind b r er (x ∷ xs) g = pick_same (both (is_value x) (pick b false true)) (plain κ (plain κ g)) g

  same_print_one : {s v : S} (r : Range) (x : PrintElement) (xs : List PrintElement) → ItemsElement (shared t u base) x → Same I s v
      → Same I (print_one R t base r x xs s) (print_one Q u base r x xs v)
  same_print_one r (value e) xs h g = same_behind (is_tab_spc e) r (expr_range e) xs (pick_same (is_tab_spc e) (same_tab e h g) (same_print_value e h g))
  same_print_one r (comma er) xs h g = plain κ g
  same_print_one r (semicolon er) xs h g = g

  same_print_each : (r : Range) (xs : List PrintElement) {s v : S} → All (ItemsElement (shared t u base)) xs → Same I s v
      → Same I (print_each R t base r xs s) (print_each Q u base r xs v)
  unfolding print_each
  same_print_each r [] h g = g
  same_print_each r (x ∷ xs) h g = same_print_each r xs h.1 (same_print_one r x xs h.0 g)

  same_empty_line : {s v : S} (r : Range) (xs : List PrintElement) → Same I s v → Same I (empty_line R t base r xs s) (empty_line Q u base r xs v)
  same_empty_line r [] g = plain κ g
  same_empty_line r (x ∷ xs) g = g

  -- READ, SWAP, WHILE
  same_read : (es : Exprs) {s v : S} → ItemsExprs (shared t u base) es → Same I s v → Same I (compile_read R t base es s) (compile_read Q u base es v)
  unfolding compile_read
  same_read none h g = g
  same_read (more e es) h g = same_read es h.1 (plain κ (same_lvalue κ base e h.0 g).follows)

  swap_kinds : {s v : S} {x x' y y' : Ty} (r : Range) → x ≡ x' → y ≡ y' → Same I s v
      → Same I (pick (exact_matches x y) s (add_error R t base 4 r s)) (pick (exact_matches x' y') v (add_error Q u base 4 r v))
  swap_kinds {x' = x'} {y' = y'} r e f g = rw (e, f) (pick_same (exact_matches x' y') g (noted κ g))

  same_swap : {s v : S} (r : Range) (a b : Expr) → ItemsExpr (shared t u base) a → ItemsExpr (shared t u base) b → Same I s v
      → Same I (compile_swap R t base r a b s) (compile_swap Q u base r a b v)
  unfolding compile_swap
  same_swap r a b ha hb g =
      let x = same_lvalue κ base a ha g in
      let y = same_lvalue κ base b hb x.follows in
      plain κ (swap_kinds r x.ty y.ty y.follows)

  -- WRITE
  same_write_value : {s v : S} {x y : Ty} (k : ℕ) (d : WriteElement) (b : Bool) → x ≡ y → Same I s v
      → Same I (write_value R t base k d b x s) (write_value Q u base k d b y v)
  unfolding write_value
  same_write_value {y = y} k d b e g = rw e
      (pick_same (either b (eqb d.comma 1)) (pick_same (matches_type y Real) (plain κ g) (plain κ g))
      (pick_same (matches_type y Real) (plain κ (noted κ g)) (plain κ (noted κ g))))

  same_write_each : (k : ℕ) (ds : List WriteElement) {s v : S} → All (λ (d : WriteElement). ItemsExpr (shared t u base) d.datum) ds → Same I s v
      → Same I (write_each R t base k ds s) (write_each Q u base k ds v)
  unfolding write_each
  same_write_each k [] h g = g
  same_write_each k (d ∷ ds) h g = let x = same_expr κ base d.datum h.0 g in same_write_each k ds h.1 (same_write_value k d (is_last ds) x.ty x.follows)

  same_write : {s v : S} (r : Range) (f : Opt Expr) (ds : List WriteElement) → IfGiven (ItemsExpr (shared t u base)) f
      → All (λ (d : WriteElement). ItemsExpr (shared t u base) d.datum) ds → Same I s v → Same I (compile_write R t base r f ds s) (compile_write Q u base r f ds v)
  same_write r absent ds hf h g = plain κ (same_write_each 0 ds h g)
  same_write r (given e) ds hf h g = same_write_each 1 ds h (same_typed κ base Real e hf g)

  -- IF
  patched : {s v : S} {k k' n n' : ℕ} → k ≡ k' → n ≡ n' → Same I s v → Same I (R.patch s k n) (Q.patch v k' n')
  patched e f g = rw (e, f, g.is) (κ.patch g.keeps)

  same_end_here : {s v : S} {k k' : ℕ} → k ≡ k' → Same I s v → Same I (end_here R t base k s) (end_here Q u base k' v)
  same_end_here e g = patched e (counted κ g) g

  mutual
    unfolding compile_stmt compile_stmts compile_field compile_go compile_input compile_locate compile_on compile_open compile_print compile_while

    pub same_stmt : {s v : S} (x : Stmt) → ItemsStmt (shared t u base) x → Same I s v → Same I (compile_stmt R t base x s) (compile_stmt Q u base x v)
    same_stmt (rem r) h g = plain κ g
    same_stmt (op₀ k r) h g = plain κ g
    same_stmt (op₁ k r a) h g = plain κ (same_typed κ base (operand k 0) a h.1 g)
    same_stmt (op₂ k r a b) h g = plain κ (same_typed κ base (operand k 1) b h.2 (same_typed κ base (operand k 0) a h.1 g))
    same_stmt (op₃ k r a b c) h g =
        plain κ (same_typed κ base (operand k 2) c h.3 (same_typed κ base (operand k 1) b h.2 (same_typed κ base (operand k 0) a h.1 g)))
    same_stmt (draw k r es) h g = same_draw k r es (same_args κ base (drawn k) zero es h.1 g)
    same_stmt (set k r a b) h g = plain κ (same_typed κ base String b h.2 (same_place String a h.1 g))
    same_stmt (data_list r ds) h g = same_data ds h.1 g
    same_stmt (def r n p e) h g = same_def r n p e h.1 h.2 h.3 g
    same_stmt (dim r es) h g = same_dim es h.1 g
    same_stmt (field r e fs) h g = plain κ (same_typed κ base Real e h.1 (same_fields fs h.2 g))
    same_stmt (for r c a b e) h g = same_for r c a b e h.1 h.2 h.3 h.4 g
    same_stmt (go r sub x) h g = same_waiting sub r (target_label x) (target_range r x) g
    same_stmt (if_then r e xs) h g =
        let c = same_typed κ base Real e h.1 g in
        same_end_here (counted κ c) (same_stmts xs h.2 (plain κ {k = 19} {r = r} {a = unknown} {b = 0} {c = 0} c))
    same_stmt (if_else r e xs ys) h g =
        let c = same_typed κ base Real e h.1 g in
        let y = same_stmts xs h.2 (plain κ {k = 19} {r = r} {a = unknown} {b = 0} {c = 0} c) in
        let j = plain κ {k = 20} {r = r} {a = unknown} {b = 0} {c = 0} y in
        same_end_here (counted κ y) (same_stmts ys h.3 (same_end_here (counted κ c) j))
    same_stmt (input r x es) h g = same_source r (count es) x h.1 (same_input_vars (is_file x) es h.2 g)
    same_stmt (assign r a b) h g = same_let r a b h.1 h.2 g
    same_stmt (load r es) h g = same_load r es h.1 g
    same_stmt (locate r a b) h g = same_locate_column b h.2 (same_locate_row a h.1 g)
    same_stmt (next_of r cs) h g = same_next r cs h.1 g
    same_stmt (on r e xs sub) h g = same_on_jumps sub xs (plain κ (same_typed κ base Real e h.1 g))
    same_stmt (open_file r f m e l) h g = same_open_node r m l h.3 (same_typed κ base Real e h.2 (same_typed κ base String f h.1 g))
    same_stmt (print r xs) h g = plain κ (same_empty_line r xs (same_print_each r xs h.1 g))
    same_stmt (read r es) h g = same_read es h.1 g
    same_stmt (restore r x) h g = same_restore r x g
    same_stmt (swap r a b) h g = same_swap r a b h.1 h.2 g
    same_stmt (system r) h g = noted κ g
    same_stmt (while r e) h g = numbering κ (counted κ g) refl (same_typed κ base Real e h.1 g)
    same_stmt (write r f ds) h g = same_write r f ds h.1 h.2 g

    pub same_stmts : {s v : S} (xs : Stmts) → ItemsStmts (shared t u base) xs → Same I s v
        → Same I (compile_stmts R t base xs s) (compile_stmts Q u base xs v)
    same_stmts end h g = g
    same_stmts (then x xs) h g = same_stmts xs h.1 (same_stmt x h.0 g)
