-- Compiling keeps a simulation, for any two recorders: what a step gives, and expressions.
use Rattle.std.proofs.Common.{◌≡◌, ℕ, zero, suc, ◌-◌, Bool, true, false, eqb, ltb, List, length, get_or, refl}
use Rattle.recorder.specs.Word.{pick, either}
use Rattle.recorder.specs.declared.word.Range.{Range}
use Rattle.recorder.specs.Recorder.{Recorder, Named}
use Rattle.simulation.proofs.Hide.{numbered, twice, fresh}
use Rattle.simulation.proofs.Simulation.{Sigil, Simulation}
use Rattle.sheet.specs.Tree.{Opt, absent, given, Expr, ident, string_lit, number_lit, sys_func_call, user_func_call, binary, unary, index, inkey, error, Exprs, none, more, expr_range, count}
use Rattle.rules.specs.declared.types.«Type».{«Type» as Ty}
use Rattle.rules.specs.declared.types.«Type».TheVariants.{Integer, Real, String, Error}
use Rattle.rules.specs.Types.{matches_type, exact_matches, sigil_unit, sigil_type}
use Rattle.rules.specs.Name.{text_place, read_name}
use Rattle.rules.specs.Tables.{Signature, signature_of, tab, spc, wanted, every_real}
use Rattle.rules.specs.Expr.{Out, out, Sym, text_size, quoted_length, is_text, compile_sym, check_type, check_real, real_sym, var_node, text_node, number_node, arity_notes, func_notes, func_node, opt_real_sym, user_call, like_node, arith_node, binary_node, unary_node, index_node, compile_expr, compile_args, compile_typed, index_place, compile_lvalue}

module _ {S T : Type 0} {R : Recorder S} {Q : Recorder T} (σ : Simulation R Q) where
  -- related states, the second one later than w
  pub record Follows (w : T) (s : S) (u : T) : Type 0 where
    pub sim : σ.Sim s u
    pub later : σ.Later w u

  -- with kinds that are the same, with numbers that are related, with both
  pub record FollowsOut (w : T) (a : Out S) (b : Out T) : Type 0 where
    pub follows : Follows w a.state b.state
    pub ty : a.ty ≡ b.ty

  pub record FollowsNamed (w : T) (a : Named S) (b : Named T) : Type 0 where
    pub follows : Follows w a.state b.state
    pub number : σ.Number b.state a.number b.number

  pub record FollowsSym (w : T) (a : Sym S) (b : Sym T) : Type 0 where
    pub follows : Follows w a.state b.state
    pub number : σ.Number b.state a.number b.number
    pub ty : a.ty ≡ b.ty

  pub begin : {s : S} {u : T} → σ.Sim s u → Follows u s u
  begin m = record { sim = m; later = σ.later_refl _ }

-- one operation more
module _ {S T : Type 0} {R : Recorder S} {Q : Recorder T} {σ : Simulation R Q} where
  -- a step from here on, and a step behind another
  pub start : {w u : T} {s : S} → Follows σ w s u → Follows σ u s u
  start g = record { sim = g.sim; later = σ.later_refl _ }

  pub over : {w u u' : T} {s s' : S} → Follows σ w s u → Follows σ u s' u' → Follows σ w s' u'
  over g h = record { sim = h.sim; later = σ.later_trans _ _ _ g.later h.later }

  pub plain : {w u : T} {s : S} {k : ℕ} {r : Range} {a b c : ℕ} → fresh k b ≡ true → Follows σ w s u
      → Follows σ w (R.emit s k r a b c) (Q.emit u k r a b c)
  plain f g = record { sim = σ.emit _ _ _ _ _ _ _ f g.sim; later = σ.later_trans _ _ _ g.later (σ.emit_later _ _ _ _ _ _) }

  pub numbering : {w u : T} {s : S} {k : ℕ} {r : Range} {a a' b c : ℕ} → fresh k b ≡ true → numbered k ≡ true → σ.Number u a a' → Follows σ w s u
      → Follows σ w (R.emit s k r a b c) (Q.emit u k r a' b c)
  numbering f n x g = record {
    sim = σ.emit_number _ _ _ _ _ _ _ _ f n g.sim x;
    later = σ.later_trans _ _ _ g.later (σ.emit_later _ _ _ _ _ _);
  }

  pub numbering_both : {w u : T} {s : S} {k : ℕ} {r : Range} {a a' b b' c : ℕ} → fresh k b ≡ true → numbered k ≡ true → twice k ≡ true
      → σ.Number u a a' → σ.Number u b b' → Follows σ w s u → Follows σ w (R.emit s k r a b c) (Q.emit u k r a' b' c)
  numbering_both f n d x y g = record {
    sim = σ.emit_numbers _ _ _ _ _ _ _ _ _ f n d g.sim x y;
    later = σ.later_trans _ _ _ g.later (σ.emit_later _ _ _ _ _ _);
  }

  pub placing : {w u : T} {s : S} {k : ℕ} {r : Range} {a a' b c : ℕ} → fresh k b ≡ true → σ.Place u a a' → Follows σ w s u
      → Follows σ w (R.emit s k r a b c) (Q.emit u k r a' b c)
  placing f p g = record {
    sim = σ.emit_place _ _ _ _ _ _ _ _ f g.sim p;
    later = σ.later_trans _ _ _ g.later (σ.emit_later _ _ _ _ _ _);
  }

  pub noted : {w u : T} {s : S} {k : ℕ} {r : Range} {v : ℕ} → Follows σ w s u → Follows σ w (R.note s k r v) (Q.note u k r v)
  noted g = record { sim = σ.note _ _ _ _ _ g.sim; later = σ.later_trans _ _ _ g.later (σ.note_later_lem _ _ _ _) }

  lost_noted : {w u : T} {s : S} {k : ℕ} {r : Range} {v n : ℕ} → Follows σ w s u → Follows σ w (R.note_lost s k r v n) (Q.note_lost u k r v n)
  lost_noted g = record { sim = σ.note_lost _ _ _ _ _ _ g.sim; later = σ.later_trans _ _ _ g.later (σ.note_lost_later _ _ _ _ _) }

  -- the same branch on both sides
  pub pick_follows : {w u u' : T} {s s' : S} (b : Bool) → Follows σ w s u → Follows σ w s' u' → Follows σ w (pick b s s') (pick b u u')
  pick_follows true g h = g
  pick_follows false g h = h

  pub pick_to : {w : T} {a a' : Out S} {x x' : Out T} (b : Bool) → FollowsOut σ w a x → FollowsOut σ w a' x' → FollowsOut σ w (pick b a a') (pick b x x')
  pick_to true g h = g
  pick_to false g h = h

  pub to : {w u : T} {s : S} {x : Ty} → Follows σ w s u → FollowsOut σ w (out s x) (out u x)
  to g = record { follows = g; ty = refl }

  -- a number that was found before
  pub number_then : {u u' : T} {s : S} {x y : ℕ} → σ.Number u x y → Follows σ u s u' → σ.Number u' x y
  number_then n g = σ.number_later _ _ _ _ g.later n

  pub place_then : {u u' : T} {s : S} {x y : ℕ} → σ.Place u x y → Follows σ u s u' → σ.Place u' x y
  place_then p g = σ.place_later _ _ _ _ g.later p

-- a name's sigil is none, $ or %
unit_sigil : (x : Ty) → Sigil (sigil_unit x)
unit_sigil Integer = refl
unit_sigil Real = refl
unit_sigil String = refl
unit_sigil Error = refl

name_sigil : (t : List ℕ) (base : ℕ) (r : Range) → Sigil (read_name t base r).name.sigil
unfolding read_name
name_sigil t base r = unit_sigil (sigil_type (get_or t (text_place base r.end - 1) 0))

module _ {S T : Type 0} {R : Recorder S} {Q : Recorder T} (σ : Simulation R Q) (t : List ℕ) (base : ℕ) where
  pub sim_sym : {w u : T} {s : S} (r : Range) → Follows σ w s u → FollowsSym σ w (compile_sym R t base r s) (compile_sym Q t base r u)
  unfolding compile_sym
  sim_sym r g =
      let h = pick_follows (ltb 0 (read_name t base r).lost) (lost_noted g) g in
      record {
        follows = record { sim = σ.symbol _ _ _ _ _ (name_sigil t base r) h.sim; later = σ.later_trans _ _ _ h.later (σ.symbol_later _ _ _ _) };
        number = σ.symbol_number_lem _ _ _ _ _ (name_sigil t base r) h.sim;
        ty = refl;
      }

  pub sim_check : {w u : T} {s : S} {x y : Ty} (want : Ty) (r : Range) → x ≡ y → Follows σ w s u
      → Follows σ w (check_type R t base want r x s) (check_type Q t base want r y u)
  unfolding check_type
  sim_check {y = y} want r e g = rw e (pick_follows (matches_type y want) g (noted g))

  sim_real : {w u : T} {s : S} {x y : Ty} (r : Range) → x ≡ y → Follows σ w s u → Follows σ w (check_real R t base r x s) (check_real Q t base r y u)
  unfolding check_real
  sim_real {y = y} r e g = rw e (pick_follows (exact_matches y Real) g (noted g))

  pub sim_real_sym : {w u : T} {s : S} (r : Range) → Follows σ w s u → FollowsNamed σ w (real_sym R t base r s) (real_sym Q t base r u)
  unfolding real_sym
  sim_real_sym r g =
      let y = sim_sym r g in
      let h = sim_real r y.ty (start y.follows) in
      record { follows = over y.follows h; number = number_then y.number h }

  sim_var : {w u : T} {s : S} (r : Range) → Follows σ w s u → FollowsOut σ w (var_node R t base r s) (var_node Q t base r u)
  unfolding var_node
  sim_var r g = let y = sim_sym r g in record { follows = numbering refl refl y.number y.follows; ty = y.ty }

  pub sim_text : {w u : T} {s : S} (r : Range) → Follows σ w s u → Follows σ w (text_node R t base r s) (text_node Q t base r u)
  unfolding text_node
  sim_text r g = pick_follows (ltb 255 (text_size (quoted_length t base r))) (noted (plain refl g)) (plain refl g)

  sim_number : {w u : T} {s : S} (r : Range) (e m : ℕ) → Follows σ w s u → Follows σ w (number_node R t base r e m s) (number_node Q t base r e m u)
  unfolding number_node
  sim_number r e m g = pick_follows (eqb e 256) (noted g) (plain refl g)

  sim_arity : {w u : T} {s : S} (x : Signature) (n : ℕ) (r : Range) → Follows σ w s u
      → Follows σ w (arity_notes R t base x n r s) (arity_notes Q t base x n r u)
  unfolding arity_notes
  sim_arity x n r g = pick_follows (ltb n x.min) (noted g) (pick_follows (ltb (length x.args) n) (noted g) g)

  sim_func_notes : {w u : T} {s : S} (k n : ℕ) (fr r : Range) → Follows σ w s u
      → Follows σ w (func_notes R t base k n fr r s) (func_notes Q t base k n fr r u)
  unfolding func_notes
  sim_func_notes k n fr r g = sim_arity (signature_of k) n r (pick_follows (either (eqb k tab) (eqb k spc)) (noted g) g)

  sim_func : {w u : T} {s : S} (k n : ℕ) (r : Range) → Follows σ w s u → FollowsOut σ w (func_node R t base k n r s) (func_node Q t base k n r u)
  unfolding func_node
  sim_func k n r g = to (plain refl g)

  pub sim_opt_real_sym : {w u : T} {s : S} (f : Opt Range) → Follows σ w s u → FollowsNamed σ w (opt_real_sym R t base f s) (opt_real_sym Q t base f u)
  sim_opt_real_sym absent g = record { follows = g; number = σ.number_refl _ 0 }
  sim_opt_real_sym (given fr) g = sim_real_sym fr g

  sim_user : {w u : T} {s : S} {n n' : ℕ} (f : Opt Range) (r : Range) → σ.Number u n n' → Follows σ w s u
      → Follows σ w (user_call R t base f r n s) (user_call Q t base f r n' u)
  sim_user absent r n g = g
  sim_user (given fr) r n g = numbering refl refl n g

  sim_like : {w u : T} {s : S} (k : ℕ) (r o : Range) (x y : Ty) → Follows σ w s u → FollowsOut σ w (like_node R t base k r o x y s) (like_node Q t base k r o x y u)
  unfolding like_node
  sim_like k r o x y g = pick_to (matches_type x y) (to (pick_follows (is_text x) (plain refl g) (plain refl g))) (to (noted g))

  sim_arith : {w u : T} {s : S} (k : ℕ) (r ar br : Range) (x y : Ty) → Follows σ w s u
      → FollowsOut σ w (arith_node R t base k r ar br x y s) (arith_node Q t base k r ar br x y u)
  unfolding arith_node
  sim_arith k r ar br x y g = to (plain refl (sim_check Real br refl (sim_check Real ar refl g)))

  sim_binary : {w u : T} {s : S} {x x' y y' : Ty} (k : ℕ) (r ar o br : Range) → x ≡ x' → y ≡ y' → Follows σ w s u
      → FollowsOut σ w (binary_node R t base k r ar o br x y s) (binary_node Q t base k r ar o br x' y' u)
  unfolding binary_node
  sim_binary {x' = x'} {y' = y'} k r ar o br e f g = rw (e, f) (pick_to (ltb k 7) (sim_like k r o x' y' g) (sim_arith k r ar br x' y' g))

  sim_unary : {w u : T} {s : S} {x y : Ty} (k : ℕ) (r ar : Range) → x ≡ y → Follows σ w s u
      → FollowsOut σ w (unary_node R t base k r ar x s) (unary_node Q t base k r ar y u)
  unfolding unary_node
  sim_unary k r ar e g = to (plain refl (sim_check Real ar e g))

  sim_index : {w u : T} {s : S} (n : Opt Range) (r : Range) (k : ℕ) → Follows σ w s u → FollowsOut σ w (index_node R t base n r k s) (index_node Q t base n r k u)
  sim_index absent r k g = to g
  sim_index (given nr) r k g = let y = sim_sym nr g in record { follows = numbering refl refl y.number y.follows; ty = y.ty }

  mutual
    unfolding compile_expr compile_args

    pub sim_expr : {w u : T} {s : S} (e : Expr) → Follows σ w s u → FollowsOut σ w (compile_expr R t base e s) (compile_expr Q t base e u)
    sim_expr (ident r) g = sim_var r g
    sim_expr (string_lit r) g = to (sim_text r g)
    sim_expr (number_lit r e m) g = to (sim_number r e m g)
    sim_expr (sys_func_call r fr k es) g = sim_func k (count es) r (sim_args (wanted (signature_of k).args) zero es (sim_func_notes k (count es) fr r g))
    sim_expr (user_func_call r f e) g =
        let y = sim_opt_real_sym f g in
        let x = sim_expr e (start y.follows) in
        let c = sim_check Real (expr_range e) x.ty x.follows in
        to (over y.follows (sim_user f r (number_then y.number c) c))
    sim_expr (binary r a o k b) g =
        let x = sim_expr a g in
        let y = sim_expr b x.follows in
        sim_binary k r (expr_range a) o (expr_range b) x.ty y.ty y.follows
    sim_expr (unary r k e) g = let x = sim_expr e g in sim_unary k r (expr_range e) x.ty x.follows
    sim_expr (index r n es) g = sim_index n r (count es) (sim_args every_real zero es g)
    sim_expr (inkey r) g = to (plain refl g)
    sim_expr (error r) g = to g

    pub sim_args : {w u : T} {s : S} (want : ℕ → Ty) (i : ℕ) (es : Exprs) → Follows σ w s u
        → Follows σ w (compile_args R t base want i es s) (compile_args Q t base want i es u)
    sim_args want i none g = g
    sim_args want i (more e es) g =
        let x = sim_expr e g in
        sim_args want (suc i) es (sim_check (want i) (expr_range e) x.ty x.follows)

  pub sim_typed : {w u : T} {s : S} (want : Ty) (e : Expr) → Follows σ w s u → Follows σ w (compile_typed R t base want e s) (compile_typed Q t base want e u)
  sim_typed want e g = let x = sim_expr e g in sim_check want (expr_range e) x.ty x.follows

  sim_index_place : {w u : T} {s : S} (n : Opt Range) (k : ℕ) → Follows σ w s u → FollowsOut σ w (index_place R t base n k s) (index_place Q t base n k u)
  sim_index_place absent k g = to g
  sim_index_place (given nr) k g = let y = sim_sym nr g in record { follows = numbering refl refl y.number y.follows; ty = y.ty }

  pub sim_lvalue : {w u : T} {s : S} (e : Expr) → Follows σ w s u → FollowsOut σ w (compile_lvalue R t base e s) (compile_lvalue Q t base e u)
  unfolding compile_lvalue
  sim_lvalue (ident r) g = let y = sim_sym r g in record { follows = numbering refl refl y.number y.follows; ty = y.ty }
  sim_lvalue (index r n es) g = sim_index_place n (count es) (sim_args every_real zero es g)
  sim_lvalue (string_lit r) g = to g
  sim_lvalue (number_lit r e m) g = to g
  sim_lvalue (sys_func_call r fr k es) g = to g
  sim_lvalue (user_func_call r f e) g = to g
  sim_lvalue (binary r a o k b) g = to g
  sim_lvalue (unary r k e) g = to g
  sim_lvalue (inkey r) g = to g
  sim_lvalue (error r) g = to g
