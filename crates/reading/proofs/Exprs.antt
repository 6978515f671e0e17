-- Compiling an expression reads the texts where its names, texts and numbers stand: what a step gives, and expressions.
use Rattle.std.proofs.Common.{◌≡◌, ℕ, zero, suc, Bool, true, false, eqb, ltb, List, length, refl}
use Rattle.recorder.specs.Word.{pick, either}
use Rattle.recorder.specs.declared.word.Range.{Range}
use Rattle.recorder.specs.Recorder.{Recorder}
use Rattle.sheet.specs.Tree.{Opt, absent, given, Expr, ident, string_lit, number_lit, sys_func_call, user_func_call, binary, unary, index, inkey, error, Exprs, none, more, expr_range, count}
use Rattle.rules.specs.declared.types.«Type».{«Type» as Ty}
use Rattle.rules.specs.declared.types.«Type».TheVariants.{Real}
use Rattle.rules.specs.Types.{matches_type, exact_matches}
use Rattle.rules.specs.Name.{read_name}
use Rattle.rules.specs.Tables.{Signature, signature_of, tab, spc, wanted, every_real}
use Rattle.rules.specs.Missing.{IfGiven}
use Rattle.rules.specs.Expr.{Out, out, text_size, quoted_length, is_text, compile_sym, check_type, check_real, real_sym, var_node, text_node, number_node, arity_notes, func_notes, func_node, opt_real_sym, user_call, like_node, arith_node, binary_node, unary_node, index_node, compile_expr, compile_args, compile_typed, index_place, compile_lvalue}
use Rattle.items.specs.Items.{ItemsExpr, ItemsExprs}
use Rattle.reading.specs.Agreement.{SameUnits, SameName, SameText, shared}
use Rattle.reading.proofs.Units.{read_name_same, name_units, quoted_length_same}
use Rattle.reading.proofs.Reading.{Same, SameNamed, SameOut, SameSym, Alike}

-- the same branch on both sides
module _ {S : Type 0} {I : S → Type 0} where
  pub pick_same : {s v s' v' : S} (b : Bool) → Same I s v → Same I s' v' → Same I (pick b s s') (pick b v v')
  pick_same true g h = g
  pick_same false g h = h

  pub pick_out : {x y x' y' : Out S} (b : Bool) → SameOut I x y → SameOut I x' y' → SameOut I (pick b x x') (pick b y y')
  pick_out true g h = g
  pick_out false g h = h

  pub to : {s v : S} {x : Ty} → Same I s v → SameOut I (out s x) (out v x)
  to g = record { follows = g; ty = refl }

-- one operation more
module _ {S : Type 0} {R Q : Recorder S} {t u : List ℕ} {I : S → Type 0} (κ : Alike R Q t u I) where
  pub plain : {s v : S} {k : ℕ} {r : Range} {a b c : ℕ} → Same I s v → Same I (R.emit s k r a b c) (Q.emit v k r a b c)
  plain g = rw g.is (κ.emit g.keeps)

  pub numbering : {s v : S} {k : ℕ} {r : Range} {a a' b b' c : ℕ} → a ≡ a' → b ≡ b' → Same I s v → Same I (R.emit s k r a b c) (Q.emit v k r a' b' c)
  numbering e f g = rw (e, f) (plain g)

  pub noted : {s v : S} {k : ℕ} {r : Range} {n : ℕ} → Same I s v → Same I (R.note s k r n) (Q.note v k r n)
  noted g = rw g.is (κ.note g.keeps)

  lost_noted : {s v : S} {k : ℕ} {r : Range} {w n : ℕ} → Same I s v → Same I (R.note_lost s k r w n) (Q.note_lost v k r w n)
  lost_noted g = rw g.is (κ.note_lost g.keeps)

  pub counted : {s v : S} → Same I s v → R.count s ≡ Q.count v
  counted g = rw g.is (κ.count g.keeps)

  named : {s v : S} (x n g : ℕ) → SameUnits t u x n → Same I s v → SameNamed I (R.symbol s x n g) (Q.symbol v x n g)
  named x n g h k = rw k.is (κ.symbol x n g h k.keeps)

module _ {S : Type 0} {R Q : Recorder S} {t u : List ℕ} {I : S → Type 0} (κ : Alike R Q t u I) (base : ℕ) where
  pub same_sym : {s v : S} (r : Range) → SameName t u base r → Same I s v → SameSym I (compile_sym R t base r s) (compile_sym Q u base r v)
  unfolding compile_sym
  same_sym r h g =
      let e = read_name_same t u base r h in
      let n = read_name u base r in
      let k : SameUnits t u n.name.start n.name.len = rw e at (name_units t u base r h) in
      let y = named κ n.name.start n.name.len n.name.sigil k (pick_same (ltb 0 n.lost) (lost_noted κ {k = 10} {r = r} {w = 2} {n = n.lost} g) g) in
      rw e record { follows = y.follows; number = y.number; ty = refl }

  pub same_check : {s v : S} {x y : Ty} (want : Ty) (r : Range) → x ≡ y → Same I s v
      → Same I (check_type R t base want r x s) (check_type Q u base want r y v)
  unfolding check_type
  same_check {y = y} want r e g = rw e (pick_same (matches_type y want) g (noted κ g))

  same_real : {s v : S} {x y : Ty} (r : Range) → x ≡ y → Same I s v → Same I (check_real R t base r x s) (check_real Q u base r y v)
  unfolding check_real
  same_real {y = y} r e g = rw e (pick_same (exact_matches y Real) g (noted κ g))

  pub same_real_sym : {s v : S} (r : Range) → SameName t u base r → Same I s v → SameNamed I (real_sym R t base r s) (real_sym Q u base r v)
  unfolding real_sym
  same_real_sym r h g = let y = same_sym r h g in record { follows = same_real r y.ty y.follows; number = y.number }

  same_var : {s v : S} (r : Range) → SameName t u base r → Same I s v → SameOut I (var_node R t base r s) (var_node Q u base r v)
  unfolding var_node
  same_var r h g = let y = same_sym r h g in record { follows = numbering κ y.number refl y.follows; ty = y.ty }

  pub same_text : {s v : S} (r : Range) → SameText t u base r → Same I s v → Same I (text_node R t base r s) (text_node Q u base r v)
  unfolding text_node
  same_text r h g = rw (quoted_length_same t u base r h) (pick_same (ltb 255 (text_size (quoted_length u base r))) (noted κ (plain κ g)) (plain κ g))

  same_number : {s v : S} (r : Range) (e m : ℕ) → Same I s v → Same I (number_node R t base r e m s) (number_node Q u base r e m v)
  unfolding number_node
  same_number r e m g = pick_same (eqb e 256) (noted κ g) (plain κ g)

  same_arity : {s v : S} (x : Signature) (n : ℕ) (r : Range) → Same I s v → Same I (arity_notes R t base x n r s) (arity_notes Q u base x n r v)
  unfolding arity_notes
  same_arity x n r g = pick_same (ltb n x.min) (noted κ g) (pick_same (ltb (length x.args) n) (noted κ g) g)

  same_func_notes : {s v : S} (k n : ℕ) (fr r : Range) → Same I s v → Same I (func_notes R t base k n fr r s) (func_notes Q u base k n fr r v)
  unfolding func_notes
  same_func_notes k n fr r g = same_arity (signature_of k) n r (pick_same (either (eqb k tab) (eqb k spc)) (noted κ g) g)

  same_func : {s v : S} (k n : ℕ) (r : Range) → Same I s v → SameOut I (func_node R t base k n r s) (func_node Q u base k n r v)
  unfolding func_node
  same_func k n r g = to (plain κ g)

  pub same_opt_real_sym : {s v : S} (f : Opt Range) → IfGiven (SameName t u base) f → Same I s v
      → SameNamed I (opt_real_sym R t base f s) (opt_real_sym Q u base f v)
  same_opt_real_sym absent h g = record { follows = g; number = refl }
  same_opt_real_sym (given fr) h g = same_real_sym fr h g

  same_user : {s v : S} {n n' : ℕ} (f : Opt Range) (r : Range) → n ≡ n' → Same I s v → Same I (user_call R t base f r n s) (user_call Q u base f r n' v)
  same_user absent r n g = g
  same_user (given fr) r n g = numbering κ n refl g

  same_like : {s v : S} (k : ℕ) (r o : Range) (x y : Ty) → Same I s v → SameOut I (like_node R t base k r o x y s) (like_node Q u base k r o x y v)
  unfolding like_node
  same_like k r o x y g = pick_out (matches_type x y) (to (pick_same (is_text x) (plain κ g) (plain κ g))) (to (noted κ g))

  same_arith : {s v : S} (k : ℕ) (r ar br : Range) (x y : Ty) → Same I s v
      → SameOut I (arith_node R t base k r ar br x y s) (arith_node Q u base k r ar br x y v)
  unfolding arith_node
  same_arith k r ar br x y g = to (plain κ (same_check Real br refl (same_check Real ar refl g)))

  same_binary : {s v : S} {x x' y y' : Ty} (k : ℕ) (r ar o br : Range) → x ≡ x' → y ≡ y' → Same I s v
      → SameOut I (binary_node R t base k r ar o br x y s) (binary_node Q u base k r ar o br x' y' v)
  unfolding binary_node
  same_binary {x' = x'} {y' = y'} k r ar o br e f g = rw (e, f) (pick_out (ltb k 7) (same_like k r o x' y' g) (same_arith k r ar br x' y' g))

  same_unary : {s v : S} {x y : Ty} (k : ℕ) (r ar : Range) → x ≡ y → Same I s v → SameOut I (unary_node R t base k r ar x s) (unary_node Q u base k r ar y v)
  unfolding unary_node
  same_unary k r ar e g = to (plain κ (same_check Real ar e g))

  same_index : {s v : S} (n : Opt Range) (r : Range) (k : ℕ) → IfGiven (SameName t u base) n → Same I s v
      → SameOut I (index_node R t base n r k s) (index_node Q u base n r k v)
  same_index absent r k h g = to g
  same_index (given nr) r k h g = let y = same_sym nr h g in record { follows = numbering κ y.number refl y.follows; ty = y.ty }

  mutual
    unfolding compile_expr compile_args

    pub same_expr : {s v : S} (e : Expr) → ItemsExpr (shared t u base) e → Same I s v → SameOut I (compile_expr R t base e s) (compile_expr Q u base e v)
    same_expr (ident r) h g = same_var r h g
    same_expr (string_lit r) h g = to (same_text r h g)
    same_expr (number_lit r e m) h g = to (same_number r e m g)
    same_expr (sys_func_call r fr k es) h g =
        same_func k (count es) r (same_args (wanted (signature_of k).args) zero es h.2 (same_func_notes k (count es) fr r g))
    same_expr (user_func_call r f e) h g =
        let y = same_opt_real_sym f h.1 g in
        let x = same_expr e h.2 y.follows in
        to (same_user f r y.number (same_check Real (expr_range e) x.ty x.follows))
    same_expr (binary r a o k b) h g =
        let x = same_expr a h.1 g in
        let y = same_expr b h.3 x.follows in
        same_binary k r (expr_range a) o (expr_range b) x.ty y.ty y.follows
    same_expr (unary r k e) h g = let x = same_expr e h.1 g in same_unary k r (expr_range e) x.ty x.follows
    same_expr (index r n es) h g = same_index n r (count es) h.1 (same_args every_real zero es h.2 g)
    same_expr (inkey r) h g = to (plain κ g)
    same_expr (error r) h g = to g

    pub same_args : {s v : S} (want : ℕ → Ty) (i : ℕ) (es : Exprs) → ItemsExprs (shared t u base) es → Same I s v
        → Same I (compile_args R t base want i es s) (compile_args Q u base want i es v)
    same_args want i none h g = g
    same_args want i (more e es) h g =
        let x = same_expr e h.0 g in
        same_args want (suc i) es h.1 (same_check (want i) (expr_range e) x.ty x.follows)

  pub same_typed : {s v : S} (want : Ty) (e : Expr) → ItemsExpr (shared t u base) e → Same I s v
      → Same I (compile_typed R t base want e s) (compile_typed Q u base want e v)
  same_typed want e h g = let x = same_expr e h g in same_check want (expr_range e) x.ty x.follows

  same_index_place : {s v : S} (n : Opt Range) (k : ℕ) → IfGiven (SameName t u base) n → Same I s v
      → SameOut I (index_place R t base n k s) (index_place Q u base n k v)
  same_index_place absent k h g = to g
  same_index_place (given nr) k h g = let y = same_sym nr h g in record { follows = numbering κ y.number refl y.follows; ty = y.ty }

  pub same_lvalue : {s v : S} (e : Expr) → ItemsExpr (shared t u base) e → Same I s v → SameOut I (compile_lvalue R t base e s) (compile_lvalue Q u base e v)
  unfolding compile_lvalue
  same_lvalue (ident r) h g = let y = same_sym r h g in record { follows = numbering κ y.number refl y.follows; ty = y.ty }
  same_lvalue (index r n es) h g = same_index_place n (count es) h.1 (same_args every_real zero es h.2 g)
  same_lvalue (string_lit r) h g = to g
  same_lvalue (number_lit r e m) h g = to g
  same_lvalue (sys_func_call r fr k es) h g = to g
  same_lvalue (user_func_call r f e) h g = to g
  same_lvalue (binary r a o k b) h g = to g
  same_lvalue (unary r k e) h g = to g
  same_lvalue (inkey r) h g = to g
  same_lvalue (error r) h g = to g
