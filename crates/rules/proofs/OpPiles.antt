-- Statements without targets of their own: whole and without an error, each begins and ends with the pile empty.
use Rattle.std.proofs.Common.{◌≡◌, ℕ, zero, suc, ◌+◌, ◌<◌, ◌≤◌, Bool, true, false, eqb, ltb, List, [], ◌∷◌, ◌++◌, length, replicate, sym, refl, ap, ◌∙◌, append-nil, arith, ltb-false, ltb-true, lt-ltb}
use Rattle.recorder.specs.Word.{pick, both}
use Rattle.recorder.specs.declared.word.Range.{Range}
use Rattle.recorder.specs.Recorder.{Recorder}
use Rattle.recorder.specs.Calls.{emit_op}
use Rattle.recorder.specs.Ideal.{Rec, rec, Entry, entry, datum_kind, how_many, Ideal, ideal}
use Rattle.recorder.specs.Closing.{rules_r}
use Rattle.sheet.specs.Tree.{Opt, absent, given, Expr, ident, string_lit, number_lit, sys_func_call, user_func_call, binary, unary, index, inkey, error, Exprs, none, more, expr_range, count, Datum, FieldSpec, PrintElement, value, comma, semicolon}
use Rattle.rules.specs.declared.types.«Type».{«Type» as Ty}
use Rattle.rules.specs.declared.types.«Type».TheVariants.{Integer, Real, String, Error}
use Rattle.rules.specs.Types.{matches_type}
use Rattle.rules.specs.Tables.{every_real, operand, draw_arity, drawn}
use Rattle.rules.specs.Expr.{compile_sym, compile_args, compile_typed, compile_lvalue, index_place}
use Rattle.rules.specs.Stmt
use Rattle.rules.specs.Missing.{All, Present, WholeExpr, WholeExprs}
use Rattle.rules.specs.Piles.{num, txt, plc, Pile, taken, kind_of, numbers, operands, field_wants, is_set, effect_of, step}
use Rattle.rules.proofs.PileLaws.{Flow, Plain, plain_one, plain_call, flow_append, Turns}
use Rattle.rules.proofs.Grown.{Code, seq, put, stay, emits, fails, claims_nothing, with_ok}
use Rattle.rules.proofs.ExprPiles.{Proper, Clear, arg_pile, own_kind, rep_num, taken_numbers, Few, Known, Subscripted, subscripted, sym_code, check_code, args_code, typed_code}
use Rattle.rules.proofs.Blocks.{untargeted_call, untargeted}

-- what the form of the sheet says of the places to store
abbrev pub IsPlace : Expr → Type 0
IsPlace (ident r) = Unit {0}
IsPlace (string_lit r) = ⊥
IsPlace (number_lit r e m) = ⊥
IsPlace (sys_func_call r f k es) = ⊥
IsPlace (user_func_call r f e) = ⊥
IsPlace (binary r a o k b) = ⊥
IsPlace (unary r k e) = ⊥
IsPlace (index r n es) = Unit {0}
IsPlace (inkey r) = ⊥
IsPlace (error r) = Unit {0}

abbrev pub IsInput : Expr → Type 0
IsInput (ident r) = Unit {0}
IsInput (string_lit r) = ⊥
IsInput (number_lit r e m) = ⊥
IsInput (sys_func_call r f k es) = ⊥
IsInput (user_func_call r f e) = Unit {0}
IsInput (binary r a o k b) = ⊥
IsInput (unary r k e) = ⊥
IsInput (index r n es) = Unit {0}
IsInput (inkey r) = ⊥
IsInput (error r) = Unit {0}

abbrev pub AllExprs : (Expr → Type 0) → Exprs → Type 0
AllExprs X none = Unit {0}
AllExprs X (more e es) = X e × AllExprs X es

-- ... of a function's arguments: there is one
abbrev pub Filled : Exprs → Type 0
Filled none = ⊥
Filled (more e es) = Unit {0}

abbrev pub FilledCall : Expr → Type 0
FilledCall (ident r) = Unit {0}
FilledCall (string_lit r) = Unit {0}
FilledCall (number_lit r e m) = Unit {0}
FilledCall (sys_func_call r f k es) = Filled es
FilledCall (user_func_call r f e) = Unit {0}
FilledCall (binary r a o k b) = Unit {0}
FilledCall (unary r k e) = Unit {0}
FilledCall (index r n es) = Unit {0}
FilledCall (inkey r) = Unit {0}
FilledCall (error r) = Unit {0}

abbrev pub FormedElement : PrintElement → Type 0
FormedElement (value e) = FilledCall e
FormedElement (comma r) = Unit {0}
FormedElement (semicolon r) = Unit {0}

-- ... and of the statements' numbers: SWAP, LSET and RSET have cases of their own
pub record PlainOp (k : ℕ) : Type 0 where
  pub no_swap : eqb k 58 ≡ false
  pub no_set : is_set k ≡ false

pub record DrawOp (k : ℕ) : Type 0 where
  pub plain : PlainOp k
  pub real : (i : ℕ) → operand k i ≡ Real

pub record SetOp (k : ℕ) : Type 0 where
  pub no_swap : eqb k 58 ≡ false
  pub is_set : is_set k ≡ true

pub operand_proper : (k i : ℕ) → Proper (operand k i)
unfolding operand
operand_proper k i = go (eqb k 44) (eqb k 70) (both (eqb k 66) (eqb i 1))
  where
    go : (a b c : Bool) → Proper (pick a String (pick b String (pick c String Real)))
    go true b c = tt
    go false true c = tt
    go false false true = tt
    go false false false = tt

string_place : (x : Ty) → Proper x → matches_type x String ≡ true → x ≡ String
string_place Integer p e = let z : ◌≡◌ {A = ℕ} 0 1 = cc in absurd (omega arith)
string_place Real p e = let z : ◌≡◌ {A = ℕ} 0 1 = cc in absurd (omega arith)
string_place String p e = refl
string_place Error p e = absurd p

module _ (E : List Entry) (few : Few E) (t : List ℕ) (base : ℕ) where
  abbrev R : Recorder Ideal
  R = rules_r t

  abbrev pub Flat : List Rec → Type 0
  Flat xs = Plain E xs [] []

  abbrev Nothing : List Rec → Type 0
  Nothing xs = xs ≡ []

  abbrev KnownHere : ℕ → Ty → List Rec → Type 0
  KnownHere n x xs = Known E few t base n x xs

  -- one after the other
  pub two : {d₁ d₂ : ℕ} {i j k : Ideal} {W₁ W₂ : Type 0} (f g h : Pile → Pile) → Code E d₁ i j W₁ (Turns E f g) → Code E d₂ j k W₂ (Turns E g h) → Code E (d₁ + d₂) i k (W₁ × W₂) (Turns E f h)
  two {W₁ = W₁} {W₂ = W₂} f g h a b =
      seq E {W = W₁ × W₂} {A = Turns E f g} {B = Turns E g h} {C = Turns E f h} a b (λ w. w.0) (λ w. w.1) (λ xs ys u v P. flow_append (u P) (v P))

  -- the same from a lower pile
  pub flat_two : {i j k : Ideal} {W₁ W₂ : Type 0} → Code E 0 i j W₁ Flat → Code E 0 j k W₂ Flat → Code E 0 i k (W₁ × W₂) Flat
  flat_two {W₁ = W₁} {W₂ = W₂} a b =
      seq E {d₁ = 0} {d₂ = 0} {W = W₁ × W₂} {A = Flat} {B = Flat} {C = Flat} a b (λ w. w.0) (λ w. w.1) (λ xs ys u v. flow_append u v)

  pub flat_of : {d : ℕ} {i j : Ideal} {W : Type 0} → Code E d i j W (Turns E (λ P. P) (λ P. P)) → Code E d i j W Flat
  flat_of {d} {W = W} a = with_ok E {W = W} {A = Turns E (λ P. P) (λ P. P)} d (omega arith) a (λ w. w) (λ w xs u. u [])

  -- one more record
  pub turn : {d : ℕ} {i j : Ideal} {W : Type 0} (f g h : Pile → Pile) → Code E d i j W (Turns E f g) → d ≤ 2 → (r : Rec) → plain_call r.call ≡ true → ((P : Pile) → step E r (g P) ≡ given (h P))
      → Code E 0 i (ideal (j.records ++ (r ∷ [])) j.notes j.entries j.line j.first_datum) W (Turns E f h)
  turn {W = W} f g h a l r e s = put E {W = W} {A = Turns E f g} {C = Turns E f h} a l r (λ xs u P. flow_append (u P) (plain_one E r (g P) (h P) e (s P)))

  -- a statement's last record
  pub closes : {d : ℕ} {i j : Ideal} {W : Type 0} (g : Pile → Pile) → Code E d i j W (Turns E (λ P. P) g) → d ≤ 2 → (r : Rec) → untargeted_call r.call ≡ true → step E r (g []) ≡ given []
      → Code E 0 i (ideal (j.records ++ (r ∷ [])) j.notes j.entries j.line j.first_datum) W Flat
  closes {W = W} g a l r e s = put E {W = W} {A = Turns E (λ P. P) g} {C = Flat} a l r (λ xs u. flow_append (u []) (untargeted E r (g []) e s))

  pub pushed : (want : Ty) → Proper want → (e : Expr) (i : Ideal) → Code E 0 i (compile_typed R t base want e i) (WholeExpr e) (Turns E (λ P. P) (λ P. kind_of want ∷ P))
  pushed want p e i = with_ok E {A = λ xs. Proper want → Turns E (λ P. P) (λ P. kind_of want ∷ P) xs} 0 (omega arith) (typed_code E few t base want e i) (λ w. w) (λ w xs a. a p)

  -- the same upon f P
  pub pushed_on : (f : Pile → Pile) (want : Ty) → Proper want → (e : Expr) (i : Ideal) → Code E 0 i (compile_typed R t base want e i) (WholeExpr e) (Turns E f (λ P. kind_of want ∷ f P))
  pushed_on f want p e i = with_ok E {A = Turns E (λ P. P) (λ P. kind_of want ∷ P)} 0 (omega arith) (pushed want p e i) (λ w. w) (λ w xs a P. a (f P))

  op_step : (l : ℕ) (r : Range) (k n : ℕ) (P Q : Pile) → PlainOp k → taken (operands k n) P ≡ given Q → step E (rec 2 l r k n 0) P ≡ given Q
  unfolding step effect_of
  op_step l r k n P Q o e = rw (o.no_swap, o.no_set, e) refl

  pub op0 : (k : ℕ) (r : Range) (i : Ideal) → Code E 0 i (emit_op (R.emit i) k 0 r) (PlainOp k) Flat
  unfolding operands taken
  op0 k r i = emits E i (rec 2 i.line r k 0 0) (PlainOp k) Flat (λ w. untargeted E (rec 2 i.line r k 0 0) [] refl (op_step i.line r k 0 [] [] w refl))

  op1_step : (l : ℕ) (r : Range) (k : ℕ) → PlainOp k → step E (rec 2 l r k 1 0) (kind_of (operand k 0) ∷ []) ≡ given []
  unfolding operands taken
  op1_step l r k o = op_step l r k 1 (kind_of (operand k 0) ∷ []) [] o (rw (own_kind (operand k 0)) refl)

  op2_step : (l : ℕ) (r : Range) (k : ℕ) → PlainOp k → step E (rec 2 l r k 2 0) (kind_of (operand k 1) ∷ kind_of (operand k 0) ∷ []) ≡ given []
  unfolding operands taken
  op2_step l r k o = op_step l r k 2 (kind_of (operand k 1) ∷ kind_of (operand k 0) ∷ []) [] o (rw (own_kind (operand k 1), own_kind (operand k 0)) refl)

  op3_step : (l : ℕ) (r : Range) (k : ℕ) → PlainOp k → step E (rec 2 l r k 3 0) (kind_of (operand k 2) ∷ kind_of (operand k 1) ∷ kind_of (operand k 0) ∷ []) ≡ given []
  unfolding operands taken
  op3_step l r k o = op_step l r k 3 (kind_of (operand k 2) ∷ kind_of (operand k 1) ∷ kind_of (operand k 0) ∷ []) [] o (rw (own_kind (operand k 2), own_kind (operand k 1), own_kind (operand k 0)) refl)

  -- a last record that fits if something holds
  pub closes_if : {d : ℕ} {i j : Ideal} {W : Type 0} (U : Type 0) (g : Pile → Pile) → Code E d i j W (Turns E (λ P. P) g) → d ≤ 2 → (r : Rec) → untargeted_call r.call ≡ true → (U → step E r (g []) ≡ given [])
      → Code E 0 i (ideal (j.records ++ (r ∷ [])) j.notes j.entries j.line j.first_datum) (W × U) Flat
  closes_if {d} {W = W} U g a l r e s =
      put E {d = d} {W = W × U} {A = λ xs. Turns E (λ P. P) g xs × U} {C = Flat} (with_ok E {W = W} {A = Turns E (λ P. P) g} d (omega arith) a (λ w. w.0) (λ w xs u. (u, w.1))) l r
      (λ xs u. flow_append (u.0 []) (untargeted E r (g []) e (s u.1)))

  pub op1 : (k : ℕ) (r : Range) (a : Expr) (i : Ideal) → Code E 0 i (emit_op (R.emit (compile_typed R t base (operand k 0) a i)) k 1 r) (WholeExpr a × PlainOp k) Flat
  op1 k r a i = closes_if (PlainOp k) (λ P. kind_of (operand k 0) ∷ P) (pushed (operand k 0) (operand_proper k 0) a i) (omega arith) (rec 2 _ r k 1 0) refl (op1_step _ r k)

  pub op2 : (k : ℕ) (r : Range) (a b : Expr) (i : Ideal)
      → Code E 0 i (emit_op (R.emit (compile_typed R t base (operand k 1) b (compile_typed R t base (operand k 0) a i))) k 2 r) ((WholeExpr a × WholeExpr b) × PlainOp k) Flat
  op2 k r a b i =
      closes_if (PlainOp k) (λ P. kind_of (operand k 1) ∷ kind_of (operand k 0) ∷ P)
      (two (λ P. P) (λ P. kind_of (operand k 0) ∷ P) (λ P. kind_of (operand k 1) ∷ kind_of (operand k 0) ∷ P) (pushed (operand k 0) (operand_proper k 0) a i)
      (pushed_on (λ P. kind_of (operand k 0) ∷ P) (operand k 1) (operand_proper k 1) b (compile_typed R t base (operand k 0) a i)))
      (omega arith) (rec 2 _ r k 2 0) refl (op2_step _ r k)

  pub op3 : (k : ℕ) (r : Range) (a b c : Expr) (i : Ideal)
      → Code E 0 i (emit_op (R.emit (compile_typed R t base (operand k 2) c (compile_typed R t base (operand k 1) b (compile_typed R t base (operand k 0) a i)))) k 3 r) (((WholeExpr a × WholeExpr b) × WholeExpr c) × PlainOp k) Flat
  op3 k r a b c i =
      closes_if (PlainOp k) (λ P. kind_of (operand k 2) ∷ kind_of (operand k 1) ∷ kind_of (operand k 0) ∷ P)
      (two (λ P. P) (λ P. kind_of (operand k 1) ∷ kind_of (operand k 0) ∷ P) (λ P. kind_of (operand k 2) ∷ kind_of (operand k 1) ∷ kind_of (operand k 0) ∷ P)
      (two (λ P. P) (λ P. kind_of (operand k 0) ∷ P) (λ P. kind_of (operand k 1) ∷ kind_of (operand k 0) ∷ P) (pushed (operand k 0) (operand_proper k 0) a i)
      (pushed_on (λ P. kind_of (operand k 0) ∷ P) (operand k 1) (operand_proper k 1) b (compile_typed R t base (operand k 0) a i)))
      (pushed_on (λ P. kind_of (operand k 1) ∷ kind_of (operand k 0) ∷ P) (operand k 2) (operand_proper k 2) c (compile_typed R t base (operand k 1) b (compile_typed R t base (operand k 0) a i))))
      (omega arith) (rec 2 _ r k 3 0) refl (op3_step _ r k)

  -- arguments too many
  pub surplus_code : (n : ℕ) (es : Exprs) (i : Ideal) → Code E 0 i (Stmt.surplus_notes R t base n es i) (Unit {0}) (λ xs. (xs ≡ []) × (count es ≤ n))
  unfolding Stmt.surplus_notes count
  surplus_code n none i = stay E i (Unit {0}) _ (λ w. (refl, omega arith))
  surplus_code zero (more e es) i =
      seq E {d₁ = 0} {d₂ = 0} {W₁ = Unit {0}} {W₂ = Unit {0}} {A = λ xs. ⊥} {B = λ xs. (xs ≡ []) × (count es ≤ 0)} (fails E i 7 i.line (expr_range e) 0 (Unit {0}) (λ xs. ⊥))
      (surplus_code zero es (R.note i 7 (expr_range e) 1)) (λ w. w) (λ w. w) (λ xs ys a b. absurd a)
  surplus_code (suc n) (more e es) i = with_ok E {A = λ xs. (xs ≡ []) × (count es ≤ n)} 0 (omega arith) (surplus_code n es i) (λ w. w) (λ w xs a. (a.0, omega (arith, a.1)))

  -- the draw statements
  drawn_real : (k i : ℕ) → i < (draw_arity k).max → drawn k i ≡ Real
  drawn_real k i h = rw (lt-ltb i (draw_arity k).max h) refl

  drawn_clear : (k i n : ℕ) → i + n ≤ (draw_arity k).max → Clear (drawn k) i n
  drawn_clear k i zero h = tt
  drawn_clear k i (suc n) h = (rw (drawn_real k i (omega arith)) tt, drawn_clear k (suc i) n (omega arith))

  drawn_pile : (k i n : ℕ) (P : Pile) → i + n ≤ (draw_arity k).max → arg_pile (drawn k) i n P ≡ replicate n num ++ P
  drawn_pile k i zero P h = refl
  drawn_pile k i (suc n) P h =
      let e : kind_of (drawn k i) ≡ num = rw (drawn_real k i (omega arith)) refl in
      rw e (drawn_pile k (suc i) n (num ∷ P) (omega arith) ∙ rep_num n P)

  draw_wants : (k n : ℕ) → DrawOp k → operands k n ≡ numbers n
  unfolding operands
  draw_wants k zero o = refl
  draw_wants k (suc n) o = rw (o.real n, draw_wants k n o)

  draw_ok : (l : ℕ) (r : Range) (k n : ℕ) (xs : List Rec) → DrawOp k → n ≤ (draw_arity k).max → (Clear (drawn k) 0 n → Turns E (λ P. P) (arg_pile (drawn k) 0 n) xs) → Flat (xs ++ (rec 2 l r k n 0 ∷ []))
  draw_ok l r k n xs o h a =
      flow_append (a (drawn_clear k 0 n (omega arith)) [])
      (untargeted E (rec 2 l r k n 0) (arg_pile (drawn k) 0 n []) refl (op_step l r k n (arg_pile (drawn k) 0 n []) [] o.plain (rw (drawn_pile k 0 n [] (omega arith), draw_wants k n o) (taken_numbers n []))))

  pub draw_code : (k : ℕ) (r : Range) (es : Exprs) (i : Ideal) → Code E 0 i (Stmt.draw_node R t base k r es (compile_args R t base (drawn k) 0 es i)) (WholeExprs es × DrawOp k) Flat
  unfolding Stmt.draw_node
  draw_code k r es i = go (ltb (count es) (draw_arity k).min) (ltb (draw_arity k).max (count es)) refl
    where
      j : Ideal
      j = compile_args R t base (drawn k) 0 es i

      W : Type 0
      W = WholeExprs es × DrawOp k

      A : List Rec → Type 0
      A xs = Clear (drawn k) 0 (count es) → Turns E (λ P. P) (arg_pile (drawn k) 0 (count es)) xs

      args : Code E 0 i j (WholeExprs es) A
      args = args_code E few t base (drawn k) 0 es i

      go : (b c : Bool) → ltb (draw_arity k).max (count es) ≡ c
          → Code E 0 i (pick b (R.note j 6 r 1) (pick c (Stmt.surplus_notes R t base (draw_arity k).max es j) (emit_op (R.emit j) k (count es) r))) W Flat
      go true c e = seq E {d₁ = 0} {d₂ = 0} {W₂ = Unit {0}} {W = W} {A = A} {B = λ xs. ⊥} {C = Flat} args (fails E j 6 j.line r 0 (Unit {0}) (λ xs. ⊥)) (λ w. w.0) (λ w. tt) (λ xs ys a b. absurd b)
      go false true e =
          seq E {d₁ = 0} {d₂ = 0} {W₂ = Unit {0}} {W = W} {A = A} {B = λ xs. (xs ≡ []) × (count es ≤ (draw_arity k).max)} {C = Flat} args (surplus_code (draw_arity k).max es j) (λ w. w.0) (λ w. tt)
          (λ xs ys a b. absurd (omega (arith, b.1, ltb-true (draw_arity k).max (count es) e)))
      go false false e =
          put E {d = 0} {W = W} {A = λ xs. A xs × DrawOp k} {C = Flat} (with_ok E {A = A} 0 (omega arith) args (λ w. w.0) (λ w xs a. (a, w.1))) (omega arith) (rec 2 j.line r k (count es) 0)
          (λ xs a. draw_ok j.line r k (count es) xs a.1 (ltb-false (draw_arity k).max (count es) e) a.0)

  -- an entry of the book that is no name
  pub added_code : (i : Ideal) (k n s l x d : ℕ) → eqb k 50 ≡ false → Code E 0 i (ideal i.records i.notes (i.entries ++ (entry k n s l x ∷ [])) i.line d) (Unit {0}) Nothing
  unfolding how_many
  added_code i k n s l x d e = record {
    code = [];
    records = sym (append-nil i.records);
    fresh = [];
    notes = sym (append-nil i.notes);
    book = entry k n s l x ∷ [];
    entries = refl;
    numbered = (λ q. let z : ◌≡◌ {A = Bool} true false = sym q ∙ e in let y : ◌≡◌ {A = ℕ} 0 1 = cc in absurd (omega arith), tt);
    names = λ w m. rw e (omega arith);
    ok = λ w m p. refl;
  }

  pub none_two : {i j k : Ideal} → Code E 0 i j (Unit {0}) Nothing → Code E 0 j k (Unit {0}) Nothing → Code E 0 i k (Unit {0}) Nothing
  none_two a b = seq E {d₁ = 0} {d₂ = 0} {W = Unit {0}} {A = Nothing} {B = Nothing} {C = Nothing} a b (λ w. w) (λ w. w) (λ xs ys u v. rw (u, v))

  datum_code : (d : Datum) (i : Ideal) → Code E 0 i (Stmt.datum_node R t base d i) (Unit {0}) Nothing
  unfolding Stmt.datum_node
  datum_code d i = go (ltb 255 (Stmt.datum_length t base d))
    where
      j : Ideal
      j = R.datum i (Stmt.datum_start base d) (Stmt.datum_length t base d) d.quoted

      it : Code E 0 i j (Unit {0}) Nothing
      it = added_code i datum_kind _ _ _ _ _ refl

      go : (b : Bool) → Code E 0 i (pick b (R.note j 8 d.range 1) j) (Unit {0}) Nothing
      go true = none_two it (fails E j 8 j.line d.range 0 (Unit {0}) Nothing)
      go false = it

  data_none : (ds : List Datum) (i : Ideal) → Code E 0 i (Stmt.compile_data R t base ds i) (Unit {0}) Nothing
  unfolding Stmt.compile_data
  data_none [] i = stay E i (Unit {0}) Nothing (λ w. refl)
  data_none (d ∷ ds) i = none_two (datum_code d i) (data_none ds (Stmt.datum_node R t base d i))

  pub none_flat : {i j : Ideal} → Code E 0 i j (Unit {0}) Nothing → Code E 0 i j (Unit {0}) Flat
  none_flat a = with_ok E {A = Nothing} 0 (omega arith) a (λ w. w) (λ w xs u. rw u Flow.done)

  pub data_code : (ds : List Datum) (i : Ideal) → Code E 0 i (Stmt.compile_data R t base ds i) (Unit {0}) Flat
  data_code ds i = none_flat (data_none ds i)

  -- places to store
  pub record Placed (x : Ty) (xs : List Rec) : Type 0 where
    pub proper : Proper x
    pub flow : (P : Pile) → Plain E xs P (plc x ∷ P)

  abbrev Sub : ℕ → ℕ → Ty → List Rec → Type 0
  Sub k n x xs = Subscripted E few t base k n x xs

  -- subscripts, then an array's name
  sub_code : {W : Type 0} (nr : Range) (k : ℕ) (i j : Ideal) → Code E 0 i j W (λ xs. Clear every_real 0 k → Turns E (λ P. P) (arg_pile every_real 0 k) xs)
      → Code E 1 i (compile_sym R t base nr j).state W (Sub k (compile_sym R t base nr j).number (compile_sym R t base nr j).ty)
  sub_code {W} nr k i j a =
      let y = compile_sym R t base nr j in
      seq E {d₁ = 0} {d₂ = 1} {W₁ = W} {W₂ = Unit {0}} {W = W} {A = λ xs. Clear every_real 0 k → Turns E (λ P. P) (arg_pile every_real 0 k) xs} {B = KnownHere y.number y.ty} {C = Sub k y.number y.ty}
      a (sym_code E few t base nr j) (λ w. w) (λ w. tt) (λ xs ys u v. subscripted E few t base k y.number y.ty xs ys u v)

  var_place_lem : (l : ℕ) (r : Range) (n : ℕ) (x : Ty) (xs : List Rec) → KnownHere n x xs → Placed x (xs ++ (rec 7 l r n 0 0 ∷ []))
  unfolding step effect_of taken
  var_place_lem l r n x xs k = rw k.none (record { proper = k.proper; flow = λ P. plain_one E (rec 7 l r n 0 0) P (plc x ∷ P) refl (rw (← k.type) refl) })

  sub_place : (l : ℕ) (r : Range) (n k : ℕ) (x : Ty) (xs : List Rec) → Sub k n x xs → Placed x (xs ++ (rec 8 l r n k 0 ∷ []))
  unfolding step effect_of
  sub_place l r n k x xs a = record {
    proper = a.proper;
    flow = λ P. flow_append (a.flow P) (plain_one E (rec 8 l r n k 0) (replicate k num ++ P) (plc x ∷ P) refl (rw (taken_numbers k P, ← a.type) refl));
  }

  index_place_lem : {W : Type 0} (n : Opt Range) (k : ℕ) (i j : Ideal) → Code E 0 i j W (λ xs. Clear every_real 0 k → Turns E (λ P. P) (arg_pile every_real 0 k) xs)
      → Code E 0 i (index_place R t base n k j).state (Present n × W) (Placed (index_place R t base n k j).ty)
  index_place_lem {W} absent k i j a = claims_nothing E 0 (⊥ × W) (Placed Error) (λ w. w.0) a
  index_place_lem {W} (given nr) k i j a =
      let y = compile_sym R t base nr j in
      with_ok E {W = W} {A = Placed y.ty} 0 (omega arith)
      (put E {d = 1} {W = W} {A = Sub k y.number y.ty} {C = Placed y.ty} (sub_code nr k i j a) (omega arith) (rec 8 y.state.line nr y.number k 0) (λ xs u. sub_place y.state.line nr y.number k y.ty xs u))
      (λ w. w.1) (λ w xs u. u)

  pub place_code : (e : Expr) (i : Ideal) → Code E 0 i (compile_lvalue R t base e i).state (WholeExpr e × IsPlace e) (Placed (compile_lvalue R t base e i).ty)
  unfolding compile_lvalue
  place_code (ident r) i =
      let y = compile_sym R t base r i in
      with_ok E {W = Unit {0}} {A = Placed y.ty} 0 (omega arith)
      (put E {d = 1} {A = KnownHere y.number y.ty} {C = Placed y.ty} (sym_code E few t base r i) (omega arith) (rec 7 y.state.line r y.number 0 0) (λ xs u. var_place_lem y.state.line r y.number y.ty xs u))
      (λ w. tt) (λ w xs u. u)
  place_code (index r n es) i =
      with_ok E {W = Present n × WholeExprs es} {A = Placed (index_place R t base n (count es) (compile_args R t base every_real 0 es i)).ty} 0 (omega arith)
      (index_place_lem n (count es) i (compile_args R t base every_real 0 es i) (args_code E few t base every_real 0 es i)) (λ w. w.0) (λ w xs u. u)
  place_code (string_lit r) i = stay E i _ _ (λ w. absurd w.1)
  place_code (number_lit r e m) i = stay E i _ _ (λ w. absurd w.1)
  place_code (sys_func_call r f k es) i = stay E i _ _ (λ w. absurd w.1)
  place_code (user_func_call r f e) i = stay E i _ _ (λ w. absurd w.1)
  place_code (binary r a o k b) i = stay E i _ _ (λ w. absurd w.1)
  place_code (unary r k e) i = stay E i _ _ (λ w. absurd w.1)
  place_code (inkey r) i = stay E i _ _ (λ w. absurd w.1)
  place_code (error r) i = stay E i _ _ (λ w. absurd w.0)

  -- DIM
  dim_step : (l : ℕ) (r : Range) (n k : ℕ) (P : Pile) → step E (rec 28 l r n k 0) (replicate k num ++ P) ≡ given P
  unfolding step effect_of
  dim_step l r n k P = rw (taken_numbers k P) refl

  dim_node_lem : {W : Type 0} (n : Opt Range) (k : ℕ) (i j : Ideal) → Code E 0 i j W (λ xs. Clear every_real 0 k → Turns E (λ P. P) (arg_pile every_real 0 k) xs)
      → Code E 0 i (Stmt.dim_node R t base n k j) (Present n × W) Flat
  dim_node_lem {W} absent k i j a = claims_nothing E 0 (⊥ × W) Flat (λ w. w.0) a
  dim_node_lem {W} (given nr) k i j a =
      let y = compile_sym R t base nr j in
      with_ok E {W = W} {A = Flat} 0 (omega arith)
      (put E {d = 1} {W = W} {A = Sub k y.number y.ty} {C = Flat} (sub_code nr k i j a) (omega arith) (rec 28 y.state.line nr y.number k 0)
      (λ xs u. flow_append (u.flow []) (plain_one E (rec 28 y.state.line nr y.number k 0) (replicate k num ++ []) [] refl (dim_step y.state.line nr y.number k []))))
      (λ w. w.1) (λ w xs u. u)

  dim_one_lem : (e : Expr) (i : Ideal) → Code E 0 i (Stmt.dim_one R t base e i) (WholeExpr e) Flat
  unfolding Stmt.dim_one
  dim_one_lem (index r n es) i = dim_node_lem n (count es) i (compile_args R t base every_real 0 es i) (args_code E few t base every_real 0 es i)
  dim_one_lem (ident r) i = stay E i _ _ (λ w. Flow.done)
  dim_one_lem (string_lit r) i = stay E i _ _ (λ w. Flow.done)
  dim_one_lem (number_lit r e m) i = stay E i _ _ (λ w. Flow.done)
  dim_one_lem (sys_func_call r f k es) i = stay E i _ _ (λ w. Flow.done)
  dim_one_lem (user_func_call r f e) i = stay E i _ _ (λ w. Flow.done)
  dim_one_lem (binary r a o k b) i = stay E i _ _ (λ w. Flow.done)
  dim_one_lem (unary r k e) i = stay E i _ _ (λ w. Flow.done)
  dim_one_lem (inkey r) i = stay E i _ _ (λ w. Flow.done)
  dim_one_lem (error r) i = stay E i _ _ (λ w. Flow.done)

  pub dim_code : (es : Exprs) (i : Ideal) → Code E 0 i (Stmt.compile_dim R t base es i) (WholeExprs es) Flat
  unfolding Stmt.compile_dim
  dim_code none i = stay E i (Unit {0}) Flat (λ w. Flow.done)
  dim_code (more e es) i = flat_two (dim_one_lem e i) (dim_code es (Stmt.dim_one R t base e i))

  -- a place of a type that is wanted
  text_place_lem : (e : Expr) (i : Ideal) → Code E 0 i (Stmt.place_typed R t base String e i) (WholeExpr e × IsPlace e) (Turns E (λ P. P) (λ P. plc String ∷ P))
  text_place_lem e i =
      let p = compile_lvalue R t base e i in
      seq E {d₁ = 0} {d₂ = 0} {W₂ = Unit {0}} {W = WholeExpr e × IsPlace e} {A = Placed p.ty} {B = λ xs. (xs ≡ []) × (matches_type p.ty String ≡ true)} {C = Turns E (λ P. P) (λ P. plc String ∷ P)}
      (place_code e i) (check_code E few t base String (expr_range e) p.ty p.state) (λ w. w) (λ w. tt)
      (λ xs ys u v P. rw (v.0, append-nil xs, ← string_place p.ty u.proper v.1) (u.flow P))

  -- LSET and RSET
  set_step : (l : ℕ) (r : Range) (k : ℕ) → SetOp k → step E (rec 2 l r k 2 0) (txt ∷ plc String ∷ []) ≡ given []
  unfolding step effect_of taken
  set_step l r k o = rw (o.no_swap, o.is_set) refl

  pub set_code : (k : ℕ) (r : Range) (a b : Expr) (i : Ideal) → Code E 0 i (emit_op (R.emit (compile_typed R t base String b (Stmt.place_typed R t base String a i))) k 2 r) (((WholeExpr a × IsPlace a) × WholeExpr b) × SetOp k) Flat
  set_code k r a b i =
      closes_if (SetOp k) (λ P. txt ∷ plc String ∷ P)
      (two (λ P. P) (λ P. plc String ∷ P) (λ P. txt ∷ plc String ∷ P) (text_place_lem a i) (pushed_on (λ P. plc String ∷ P) String tt b (Stmt.place_typed R t base String a i)))
      (omega arith) (rec 2 _ r k 2 0) refl (set_step _ r k)

  -- FIELD
  abbrev field_pile : ℕ → Pile → Pile
  field_pile zero P = P
  field_pile (suc n) P = plc String ∷ num ∷ field_pile n P

  field_more : (n : ℕ) (P : Pile) → field_pile n (plc String ∷ num ∷ P) ≡ plc String ∷ num ∷ field_pile n P
  field_more zero P = refl
  field_more (suc n) P = ap (λ (z : Pile). plc String ∷ num ∷ z) (field_more n P)

  taken_fields : (n : ℕ) (P : Pile) → taken (field_wants n) (field_pile n P) ≡ given P
  unfolding taken field_wants
  taken_fields zero P = refl
  taken_fields (suc n) P = taken_fields n P

  abbrev WholeField : FieldSpec → Type 0
  WholeField f = WholeExpr f.len × (WholeExpr f.var × IsPlace f.var)

  fields_code : (fs : List FieldSpec) (i : Ideal) → Code E 0 i (Stmt.compile_fields R t base fs i) (All WholeField fs) (Turns E (λ P. P) (field_pile (length fs)))
  unfolding Stmt.compile_fields
  fields_code [] i = stay E i (Unit {0}) (Turns E (λ P. P) (λ P. P)) (λ w P. Flow.done)
  fields_code (f ∷ fs) i =
      let j = compile_typed R t base Real f.len i in
      let k = Stmt.place_typed R t base String f.var j in
      let one : Code E 0 i k (WholeExpr f.len × (WholeExpr f.var × IsPlace f.var)) (Turns E (λ P. P) (λ P. plc String ∷ num ∷ P)) =
      two (λ P. P) (λ P. num ∷ P) (λ P. plc String ∷ num ∷ P) (pushed Real tt f.len i)
      (with_ok E {A = Turns E (λ P. P) (λ P. plc String ∷ P)} {C = Turns E (λ P. num ∷ P) (λ P. plc String ∷ num ∷ P)} 0 (omega arith) (text_place_lem f.var j) (λ w. w) (λ w xs u P. u (num ∷ P))) in
      seq E {d₁ = 0} {d₂ = 0} {W = All WholeField (f ∷ fs)} {A = Turns E (λ P. P) (λ P. plc String ∷ num ∷ P)} {B = Turns E (λ P. P) (field_pile (length fs))} {C = Turns E (λ P. P) (field_pile (length (f ∷ fs)))}
      one (fields_code fs k) (λ w. w.0) (λ w. w.1) (λ xs ys u v P. flow_append (u P) (rw (field_more (length fs) P) at (v (plc String ∷ num ∷ P))))

  field_step : (l : ℕ) (r : Range) (n : ℕ) (P : Pile) → step E (rec 29 l r n 0 0) (num ∷ field_pile n P) ≡ given P
  unfolding step effect_of taken
  field_step l r n P = rw (taken_fields n P) refl

  pub field_code : (r : Range) (e : Expr) (fs : List FieldSpec) (i : Ideal) → Code E 0 i (Stmt.compile_field R t base r e fs i) (All WholeField fs × WholeExpr e) Flat
  unfolding Stmt.compile_field
  field_code r e fs i =
      closes (λ P. num ∷ field_pile (length fs) P)
      (two (λ P. P) (field_pile (length fs)) (λ P. num ∷ field_pile (length fs) P) (fields_code fs i) (pushed_on (field_pile (length fs)) Real tt e (Stmt.compile_fields R t base fs i)))
      (omega arith) (rec 29 _ r (length fs) 0 0) refl (field_step _ r (length fs) [])
