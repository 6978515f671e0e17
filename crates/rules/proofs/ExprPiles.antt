-- A whole expression that is compiled without an error leaves the pile that it found, with one thing of its kind on top.
use Rattle.std.proofs.Common.{◌≡◌, ℕ, zero, suc, ◌+◌, ◌-◌, ◌<◌, ◌≤◌, Bool, true, false, eqb, ltb, List, [], ◌∷◌, ◌++◌, length, get_or, take, replicate, sym, refl, ap, ◌∙◌, append_assoc, append-nil, arith, ltb-false, le-leb}
use Rattle.recorder.specs.Word.{pick, either}
use Rattle.recorder.specs.declared.word.Range.{Range}
use Rattle.recorder.specs.Recorder.{Recorder}
use Rattle.recorder.specs.Ideal.{Rec, rec, Entry, entry, name_kind, how_many, next_number, Search, missing, found, find_name, symbol_in, symbol_of, Ideal}
use Rattle.recorder.specs.Closing.{rules_r}
use Rattle.sheet.specs.Tree.{Opt, absent, given, Expr, ident, string_lit, number_lit, sys_func_call, user_func_call, binary, unary, index, inkey, error, Exprs, none, more, expr_range, count}
use Rattle.rules.specs.declared.types.«Type».{«Type» as Ty}
use Rattle.rules.specs.declared.types.«Type».TheVariants.{Integer, Real, String, Error}
use Rattle.rules.specs.Types.{matches_type, exact_matches, sigil_unit, sigil_type}
use Rattle.rules.specs.Name.{text_place, read_name}
use Rattle.rules.specs.Tables.{Signature, signatures, signature_of, real_of_real, wanted, every_real, tab, spc}
use Rattle.rules.specs.Expr.{Out, compile_sym, check_type, check_real, real_sym, var_node, text_node, number_node, arity_notes, func_notes, func_node, opt_real_sym, user_call, like_node, arith_node, binary_node, unary_node, index_node, is_add, quoted_start, quoted_length, compile_expr, compile_args, compile_typed}
use Rattle.rules.specs.Missing.{All, Present, WholeExpr, WholeExprs}
use Rattle.rules.specs.Piles.{num, txt, Pile, Want, fits, taken, symbol_type, want_of, kind_of, numbers, arguments, effect_of, allows, step}
use Rattle.rules.proofs.PileLaws.{Flow, Plain, plain_one, flow_append, Turns}
use Rattle.rules.proofs.NamePiles.{Numbered, type_at, found_name, is_name}
use Rattle.rules.proofs.Grown.{Code, seq, put, stay, emits, fails, warns, claims_nothing, with_ok}

-- a kind that is no error
abbrev pub Proper : Ty → Type 0
Proper Integer = Unit {0}
Proper Real = Unit {0}
Proper String = Unit {0}
Proper Error = ⊥

pub same_kind : (x y : Ty) → Proper x → Proper y → matches_type x y ≡ true → kind_of x ≡ kind_of y
same_kind Integer Integer p q e = refl
same_kind Integer Real p q e = refl
same_kind Integer String p q e = let z : ◌≡◌ {A = ℕ} 0 1 = cc in absurd (omega arith)
same_kind Integer Error p q e = absurd q
same_kind Real Integer p q e = refl
same_kind Real Real p q e = refl
same_kind Real String p q e = let z : ◌≡◌ {A = ℕ} 0 1 = cc in absurd (omega arith)
same_kind Real Error p q e = absurd q
same_kind String Integer p q e = let z : ◌≡◌ {A = ℕ} 0 1 = cc in absurd (omega arith)
same_kind String Real p q e = let z : ◌≡◌ {A = ℕ} 0 1 = cc in absurd (omega arith)
same_kind String String p q e = refl
same_kind String Error p q e = absurd q
same_kind Error y p q e = absurd p

-- what n arguments of the kinds wanted, from the i-th on, put on a pile
abbrev pub arg_pile : (ℕ → Ty) → ℕ → ℕ → Pile → Pile
arg_pile want i zero P = P
arg_pile want i (suc n) P = arg_pile want (suc i) n (kind_of (want i) ∷ P)

abbrev pub Clear : (ℕ → Ty) → ℕ → ℕ → Type 0
Clear want i zero = Unit {0}
Clear want i (suc n) = Proper (want i) × Clear want (suc i) n

pub clear_real : (i n : ℕ) → Clear every_real i n
clear_real i zero = tt
clear_real i (suc n) = (tt, clear_real (suc i) n)

proper_at : (ts : List Ty) (i : ℕ) → All Proper ts → i < length ts → Proper (get_or ts i Error)
proper_at [] i a h = absurd (omega arith)
proper_at (x ∷ ts) zero a h = a.0
proper_at (x ∷ ts) (suc i) a h = proper_at ts i a.1 (omega arith)

pub clear_wanted : (ts : List Ty) (i n : ℕ) → All Proper ts → i + n ≤ length ts → Clear (wanted ts) i n
clear_wanted ts i zero a h = tt
clear_wanted ts i (suc n) a h = (proper_at ts i a (omega arith), clear_wanted ts (suc i) n a (omega arith))

pub own_kind : (x : Ty) → fits (want_of x) (kind_of x) ≡ true
own_kind Integer = refl
own_kind Real = refl
own_kind String = refl
own_kind Error = refl

shift : (x : Ty) (ts : List Ty) (i n : ℕ) (P : Pile) → arg_pile (wanted (x ∷ ts)) (suc i) n P ≡ arg_pile (wanted ts) i n P
shift x ts i zero P = refl
shift x ts i (suc n) P = shift x ts (suc i) n (kind_of (wanted ts i) ∷ P)

pub taken_arguments : (ts : List Ty) (n : ℕ) (ws : List Want) (P : Pile) → n ≤ length ts → taken (arguments (take n ts) ws) (arg_pile (wanted ts) 0 n P) ≡ taken ws P
unfolding taken arguments
taken_arguments ts zero ws P h = refl
taken_arguments [] (suc n) ws P h = absurd (omega arith)
taken_arguments (x ∷ ts) (suc n) ws P h =
    let e : arg_pile (wanted (x ∷ ts)) 1 n (kind_of x ∷ P) ≡ arg_pile (wanted ts) 0 n (kind_of x ∷ P) = shift x ts 0 n (kind_of x ∷ P) in
    rw e (taken_arguments ts n (want_of x ∷ ws) (kind_of x ∷ P) (omega arith) ∙ rw (own_kind x))

-- n numbers
pub rep_num : (n : ℕ) (P : Pile) → replicate n num ++ (num ∷ P) ≡ num ∷ (replicate n num ++ P)
rep_num zero P = refl
rep_num (suc n) P = ap (λ (z : Pile). num ∷ z) (rep_num n P)

pub real_pile : (i n : ℕ) (P : Pile) → arg_pile every_real i n P ≡ replicate n num ++ P
real_pile i zero P = refl
real_pile i (suc n) P = real_pile (suc i) n (num ∷ P) ∙ rep_num n P

pub taken_numbers : (n : ℕ) (P : Pile) → taken (numbers n) (replicate n num ++ P) ≡ given P
unfolding taken
taken_numbers zero P = refl
taken_numbers (suc n) P = taken_numbers n P

-- as many arguments as a function may have
allowed : (g : Signature) (n : ℕ) → g.min ≤ n → n ≤ length g.args → allows g n ≡ true
allowed g n a b = rw (le-leb g.min n a, le-leb n (length g.args) b) refl

-- the signatures
abbrev GoodSig : Signature → Type 0
GoodSig s = Proper s.result × All Proper s.args

all_get : {A : Type 0} (X : A → Type 0) (xs : List A) (k : ℕ) (d : A) → All X xs → X d → X (get_or xs k d)
all_get X [] k d a b = b
all_get X (x ∷ xs) zero d a b = a.0
all_get X (x ∷ xs) (suc k) d a b = all_get X xs k d a.1 b

pub good_sig : (k : ℕ) → GoodSig (signature_of k)
unfolding signature_of
good_sig k = all_get GoodSig signatures k real_of_real
    (one, (one, (one, (one, (one, (one, (one, (one, (one, (one, (two, (one, (one, (one, ((tt, (tt, (tt, (tt, tt)))), (one, (one, (one, (one, (two, (one, (one, (one, (one, (one, (one, (one, (one, (one, (two, (one, (one, (one, (one, tt))))))))))))))))))))))))))))))))))
    one
  where
    one : Unit {0} × (Unit {0} × Unit {0})
    one = (tt, (tt, tt))

    two : Unit {0} × (Unit {0} × (Unit {0} × Unit {0}))
    two = (tt, (tt, (tt, tt)))

sigil_back : (u : ℕ) → sigil_type (sigil_unit (sigil_type u)) ≡ sigil_type u
sigil_back u = go (eqb u 37) (eqb u 36)
  where
    go : (a b : Bool) → sigil_type (sigil_unit (pick a Integer (pick b String Real))) ≡ pick a Integer (pick b String Real)
    go true b = refl
    go false true = refl
    go false false = refl

pub sigil_proper : (u : ℕ) → Proper (sigil_type u)
sigil_proper u = go (eqb u 37) (eqb u 36)
  where
    go : (a b : Bool) → Proper (pick a Integer (pick b String Real))
    go true b = tt
    go false true = tt
    go false false = tt

-- a book in which each name has its own number
pub record Few (E : List Entry) : Type 0 where
  pub numbered : Numbered 0 E
  pub most : how_many name_kind E ≤ 16777216

module _ (E : List Entry) (few : Few E) (t : List ℕ) where
  pub type_in : (es : List Entry) (e : Entry) (rest : List Entry) → E ≡ es ++ (e ∷ rest) → is_name e ≡ true → symbol_type E e.number ≡ sigil_type e.extra
  type_in es e rest q k =
      rw q (type_at 0 es e rest (rw q at few.numbered) k (omega (arith, rw q at few.most)))

  symbol_code : (i : Ideal) (s l x : ℕ) → Code E 1 i (symbol_of t i s l x).state (Unit {0}) (λ xs. (xs ≡ []) × (symbol_type E (symbol_of t i s l x).number ≡ sigil_type x))
  unfolding symbol_of how_many
  symbol_code i s l x = go (find_name t i.entries s l x) refl
    where
      go : (q : Search) → find_name t i.entries s l x ≡ q → Code E 1 i (symbol_in q i s l x).state (Unit {0}) (λ xs. (xs ≡ []) × (symbol_type E (symbol_in q i s l x).number ≡ sigil_type x))
      go missing e = record {
        code = [];
        records = sym (append-nil i.records);
        fresh = [];
        notes = sym (append-nil i.notes);
        book = entry name_kind (next_number name_kind i.entries) s l x ∷ [];
        entries = refl;
        numbered = (λ q. refl, tt);
        names = λ w n. omega arith;
        ok = λ w n p. (refl, type_in i.entries (entry name_kind (next_number name_kind i.entries) s l x) p.rest (p.whole ∙ append_assoc i.entries _ p.rest) refl);
      }
      go (found n) e = record {
        code = [];
        records = sym (append-nil i.records);
        fresh = [];
        notes = sym (append-nil i.notes);
        book = [];
        entries = sym (append-nil i.entries);
        numbered = tt;
        names = λ w m. omega arith;
        ok = λ w m p.
            let f = found_name t i.entries s l x n e in
            let q = type_in f.front f.it (f.back ++ p.rest)
            (p.whole ∙ ap (λ (z : List Entry). z ++ p.rest) f.split ∙ append_assoc f.front (f.it ∷ f.back) p.rest) f.name in
            (refl, rw (f.number, f.extra) at q);
      }

module _ (E : List Entry) (few : Few E) (t : List ℕ) (base : ℕ) where
  abbrev pub R : Recorder Ideal
  R = rules_r t

  -- nothing is appended
  abbrev pub Nothing : List Rec → Type 0
  Nothing xs = xs ≡ []

  blank_code : (b : Bool) (r : Range) (n : ℕ) (i : Ideal) → Code E 0 i (pick b (R.note_lost i 10 r 2 n) i) (Unit {0}) Nothing
  blank_code true r n i = warns E i _ _ _ _ _ _ (λ w. refl)
  blank_code false r n i = stay E i _ _ (λ w. refl)

  -- a symbol's type is that of its name, in the whole book
  pub record Known (n : ℕ) (x : Ty) (xs : List Rec) : Type 0 where
    pub none : xs ≡ []
    pub type : symbol_type E n ≡ x
    pub proper : Proper x

  pub sym_code : (r : Range) (i : Ideal) → Code E 1 i (compile_sym R t base r i).state (Unit {0}) (Known (compile_sym R t base r i).number (compile_sym R t base r i).ty)
  unfolding compile_sym read_name
  sym_code r i =
      let n = read_name t base r in
      let u = get_or t (text_place base r.end - 1) 0 in
      let j = pick (ltb 0 n.lost) (R.note_lost i 10 r 2 n.lost) i in
      seq E {d₁ = 0} {d₂ = 1} {W₁ = Unit {0}} {W₂ = Unit {0}} {A = Nothing} (blank_code (ltb 0 n.lost) r n.lost i) (symbol_code E few t j n.name.start n.name.len n.name.sigil) (λ w. w) (λ w. w)
      (λ xs ys a b. record { none = rw (a, b.0); type = b.1 ∙ sigil_back u; proper = sigil_proper u })

  -- an expression of kind x
  pub record Typed (x : Ty) (xs : List Rec) : Type 0 where
    pub proper : Proper x
    pub flow : (P : Pile) → Plain E xs P (kind_of x ∷ P)

  abbrev pub Same : Pile → Pile
  Same P = P

  pub then_nothing : (f g : Pile → Pile) (xs ys : List Rec) → Turns E f g xs → ys ≡ [] → Turns E f g (xs ++ ys)
  then_nothing f g xs ys a e P = rw (e, append-nil xs) (a P)

  pub nothing_then : (f g : Pile → Pile) (xs ys : List Rec) → xs ≡ [] → Turns E f g ys → Turns E f g (xs ++ ys)
  nothing_then f g xs ys e a P = rw e (a P)

  -- a variable
  var_ok : (l : ℕ) (r : Range) (n : ℕ) (x : Ty) (xs : List Rec) → Known n x xs → Typed x (xs ++ (rec 5 l r n 0 0 ∷ []))
  unfolding step effect_of taken
  var_ok l r n x xs k = rw k.none (record { proper = k.proper; flow = λ P. plain_one E (rec 5 l r n 0 0) P (kind_of x ∷ P) refl (rw (← k.type) refl) })

  var_code : (r : Range) (i : Ideal) → Code E 0 i (var_node R t base r i).state (Unit {0}) (Typed (var_node R t base r i).ty)
  unfolding var_node
  var_code r i =
      put E {A = Known (compile_sym R t base r i).number (compile_sym R t base r i).ty} {C = Typed (compile_sym R t base r i).ty} (sym_code r i) (omega arith)
      (rec 5 (compile_sym R t base r i).state.line r (compile_sym R t base r i).number 0 0) (var_ok _ r _ _)

  text_step : (l : ℕ) (r : Range) (s n : ℕ) → Typed String (rec 4 l r s n 0 ∷ [])
  unfolding step effect_of taken
  text_step l r s n = record { proper = tt; flow = λ P. plain_one E (rec 4 l r s n 0) P (txt ∷ P) refl refl }

  pub text_code : (r : Range) (i : Ideal) → Code E 0 i (text_node R t base r i) (Unit {0}) (Typed String)
  unfolding text_node
  text_code r i = go (ltb 255 (quoted_length t base r))
    where
      q : Rec
      q = rec 4 i.line r (quoted_start base r) (quoted_length t base r) 0

      j : Ideal
      j = R.emit i 4 r (quoted_start base r) (quoted_length t base r) 0

      it : Code E 0 i j (Unit {0}) (Typed String)
      it = emits E i q (Unit {0}) (Typed String) (λ w. text_step i.line r (quoted_start base r) (quoted_length t base r))

      go : (b : Bool) → Code E 0 i (pick b (R.note j 8 r 1) j) (Unit {0}) (Typed String)
      go true = seq E {d₁ = 0} {d₂ = 0} {W₂ = Unit {0}} {A = Typed String} {B = λ xs. ⊥} it (fails E j 8 j.line r 0 (Unit {0}) (λ xs. ⊥)) (λ w. w) (λ w. w) (λ xs ys a b. absurd b)
      go false = it

  pub number_step : (l : ℕ) (r : Range) (e m : ℕ) → Typed Real (rec 3 l r e m 0 ∷ [])
  unfolding step effect_of taken
  number_step l r e m = record { proper = tt; flow = λ P. plain_one E (rec 3 l r e m 0) P (num ∷ P) refl refl }

  number_code : (r : Range) (e m : ℕ) (i : Ideal) → Code E 0 i (number_node R t base r e m i) (Unit {0}) (Typed Real)
  unfolding number_node
  number_code r e m i = go (eqb e 256)
    where
      go : (b : Bool) → Code E 0 i (pick b (R.note i 9 r 1) (R.emit i 3 r e m 0)) (Unit {0}) (Typed Real)
      go true = fails E i 9 i.line r 0 (Unit {0}) (Typed Real)
      go false = emits E i (rec 3 i.line r e m 0) (Unit {0}) (Typed Real) (λ w. number_step i.line r e m)

  inkey_code : (r : Range) (i : Ideal) → Code E 0 i (R.emit i 10 r 0 0 0) (Unit {0}) (Typed String)
  unfolding step effect_of taken
  inkey_code r i = emits E i (rec 10 i.line r 0 0 0) (Unit {0}) (Typed String) (λ w. record { proper = tt; flow = λ P. plain_one E (rec 10 i.line r 0 0 0) P (txt ∷ P) refl refl })

  -- a kind that is wanted
  abbrev Matched : Ty → Ty → List Rec → Type 0
  Matched x want xs = (xs ≡ []) × (matches_type x want ≡ true)

  pub check_code : (want : Ty) (r : Range) (x : Ty) (i : Ideal) → Code E 0 i (check_type R t base want r x i) (Unit {0}) (Matched x want)
  unfolding check_type
  check_code want r x i = go (matches_type x want) refl
    where
      go : (b : Bool) → matches_type x want ≡ b → Code E 0 i (pick b i (R.note i 4 r 1)) (Unit {0}) (Matched x want)
      go true e = stay E i (Unit {0}) (Matched x want) (λ w. (refl, e))
      go false e = fails E i 4 i.line r 0 (Unit {0}) (Matched x want)

  -- an expression of which a kind is wanted
  abbrev pub Wanted : Ty → List Rec → Type 0
  Wanted x xs = Proper x → Turns E Same (λ P. kind_of x ∷ P) xs

  wanted_ok : (x want : Ty) (xs ys : List Rec) → Typed x xs → Matched x want ys → Wanted want (xs ++ ys)
  wanted_ok x want xs ys a b p P = rw (b.0, append-nil xs, ← same_kind x want a.proper p b.1) (a.flow P)

  pub wanted_of : {W : Type 0} (d : ℕ) (want : Ty) (r : Range) (i : Ideal) (p : Out Ideal) → Code E d i p.state W (Typed p.ty) → Code E d i (check_type R t base want r p.ty p.state) W (Wanted want)
  wanted_of {W} d want r i p a =
      with_ok E {W = W} {A = Wanted want} d (omega arith)
      (seq E {d₁ = d} {d₂ = 0} {W₁ = W} {W₂ = Unit {0}} {W = W} {A = Typed p.ty} {B = Matched p.ty want} {C = Wanted want} a (check_code want r p.ty p.state) (λ w. w) (λ w. tt) (wanted_ok p.ty want))
      (λ w. w) (λ w xs c. c)

  -- a name that must be exactly real
  real_check : (r : Range) (x : Ty) (i : Ideal) → Code E 0 i (check_real R t base r x i) (Unit {0}) (λ xs. (xs ≡ []) × (exact_matches x Real ≡ true))
  unfolding check_real
  real_check r x i = go (exact_matches x Real) refl
    where
      go : (b : Bool) → exact_matches x Real ≡ b → Code E 0 i (pick b i (R.note i 5 r 1)) (Unit {0}) (λ xs. (xs ≡ []) × (exact_matches x Real ≡ true))
      go true e = stay E i (Unit {0}) _ (λ w. (refl, e))
      go false e = fails E i 5 i.line r 0 (Unit {0}) _

  pub real_code : (r : Range) (i : Ideal) → Code E 1 i (real_sym R t base r i).state (Unit {0}) Nothing
  unfolding real_sym
  real_code r i =
      seq E {d₁ = 1} {d₂ = 0} {W₁ = Unit {0}} {W₂ = Unit {0}} {A = Known (compile_sym R t base r i).number (compile_sym R t base r i).ty}
      {B = λ xs. (xs ≡ []) × (exact_matches (compile_sym R t base r i).ty Real ≡ true)} {C = Nothing}
      (sym_code r i) (real_check r (compile_sym R t base r i).ty (compile_sym R t base r i).state) (λ w. w) (λ w. w) (λ xs ys a b. rw (a.none, b.0))

  pub name_code : (f : Opt Range) (i : Ideal) → Code E 1 i (opt_real_sym R t base f i).state (Unit {0}) Nothing
  name_code absent i = with_ok E {A = Nothing} 1 (omega arith) (stay E i (Unit {0}) Nothing (λ w. refl)) (λ w. w) (λ w xs a. a)
  name_code (given r) i = real_code r i

  -- a user function's call
  user_ok : (l : ℕ) (r : Range) (n : ℕ) (xs : List Rec) → Wanted Real xs → Typed Real (xs ++ (rec 12 l r n 0 0 ∷ []))
  unfolding step effect_of taken
  user_ok l r n xs a = record { proper = tt; flow = λ P. flow_append (a tt P) (plain_one E (rec 12 l r n 0 0) (num ∷ P) (num ∷ P) refl refl) }

  user_of : {W : Type 0} (f : Opt Range) (r : Range) (n : ℕ) (i j : Ideal) → Code E 1 i j W (Wanted Real) → Code E 0 i (user_call R t base f r n j) (Present f × W) (Typed Real)
  user_of {W} absent r n i j a = claims_nothing E 0 (⊥ × W) (Typed Real) (λ w. w.0) a
  user_of {W} (given fr) r n i j a =
      with_ok E {W = W} {A = Typed Real} 0 (omega arith) (put E {A = Wanted Real} {C = Typed Real} a (omega arith) (rec 12 j.line r n 0 0) (user_ok j.line r n)) (λ w. w.1) (λ w xs c. c)

  user_args : {W : Type 0} (f : Opt Range) (r : Range) (i : Ideal) (p : Out Ideal) → Code E 0 (opt_real_sym R t base f i).state p.state W (Typed p.ty)
      → Code E 1 i (check_type R t base Real r p.ty p.state) W (Wanted Real)
  user_args {W} f r i p a =
      seq E {d₁ = 1} {d₂ = 0} {W₁ = Unit {0}} {W₂ = W} {W = W} {A = Nothing} {B = Wanted Real} {C = Wanted Real} (name_code f i) (wanted_of {W = W} 0 Real r (opt_real_sym R t base f i).state p a)
      (λ w. tt) (λ w. w) (λ xs ys u v q. nothing_then Same (λ P. num ∷ P) xs ys u (v q))

  -- two sides
  abbrev Joined : Ty → Ty → Ty → List Rec → Type 0
  Joined x y z xs = Proper x → Proper y → Proper z × Turns E (λ P. kind_of y ∷ kind_of x ∷ P) (λ P. kind_of z ∷ P) xs

  num_step : (l : ℕ) (r : Range) (k : ℕ) → Turns E (λ P. num ∷ num ∷ P) (λ P. num ∷ P) (rec 14 l r k 0 0 ∷ [])
  unfolding step effect_of taken
  num_step l r k P = plain_one E (rec 14 l r k 0 0) (num ∷ num ∷ P) (num ∷ P) refl refl

  txt_step : (l : ℕ) (r : Range) (k : ℕ) → Turns E (λ P. txt ∷ txt ∷ P) (λ P. pick (eqb k 6) txt num ∷ P) (rec 15 l r k 0 0 ∷ [])
  unfolding step effect_of taken
  txt_step l r k P = plain_one E (rec 15 l r k 0 0) (txt ∷ txt ∷ P) (pick (eqb k 6) txt num ∷ P) refl refl

  like_num : (k l : ℕ) (r : Range) → Proper (pick (is_add k) Real Real) × Turns E (λ P. num ∷ num ∷ P) (λ P. kind_of (pick (is_add k) Real Real) ∷ P) (rec 14 l r k 0 0 ∷ [])
  like_num k l r = go (is_add k)
    where
      go : (b : Bool) → Proper (pick b Real Real) × Turns E (λ P. num ∷ num ∷ P) (λ P. kind_of (pick b Real Real) ∷ P) (rec 14 l r k 0 0 ∷ [])
      go true = (tt, num_step l r k)
      go false = (tt, num_step l r k)

  like_txt : (k l : ℕ) (r : Range) → Proper (pick (is_add k) String Real) × Turns E (λ P. txt ∷ txt ∷ P) (λ P. kind_of (pick (is_add k) String Real) ∷ P) (rec 15 l r k 0 0 ∷ [])
  like_txt k l r = go (is_add k) (txt_step l r k)
    where
      go : (b : Bool) → Turns E (λ P. txt ∷ txt ∷ P) (λ P. pick b txt num ∷ P) (rec 15 l r k 0 0 ∷ [])
          → Proper (pick b String Real) × Turns E (λ P. txt ∷ txt ∷ P) (λ P. kind_of (pick b String Real) ∷ P) (rec 15 l r k 0 0 ∷ [])
      go true s = (tt, s)
      go false s = (tt, s)

  like_code : (k : ℕ) (r o : Range) (x y : Ty) (i : Ideal) → Code E 0 i (like_node R t base k r o x y i).state (Unit {0}) (Joined x y (like_node R t base k r o x y i).ty)
  unfolding like_node
  like_code k r o Integer Integer i = emits E i _ _ _ (λ w p q. like_num k i.line r)
  like_code k r o Integer Real i = emits E i _ _ _ (λ w p q. like_num k i.line r)
  like_code k r o Integer String i = fails E i _ _ _ _ _ _
  like_code k r o Integer Error i = emits E i _ _ _ (λ w p q. absurd q)
  like_code k r o Real Integer i = emits E i _ _ _ (λ w p q. like_num k i.line r)
  like_code k r o Real Real i = emits E i _ _ _ (λ w p q. like_num k i.line r)
  like_code k r o Real String i = fails E i _ _ _ _ _ _
  like_code k r o Real Error i = emits E i _ _ _ (λ w p q. absurd q)
  like_code k r o String Integer i = fails E i _ _ _ _ _ _
  like_code k r o String Real i = fails E i _ _ _ _ _ _
  like_code k r o String String i = emits E i _ _ _ (λ w p q. like_txt k i.line r)
  like_code k r o String Error i = emits E i _ _ _ (λ w p q. absurd q)
  like_code k r o Error y i = emits E i _ _ _ (λ w p. absurd p)

  arith_ok : (l : ℕ) (r : Range) (k : ℕ) (x y : Ty) (xs : List Rec) → (xs ≡ []) × (matches_type x Real ≡ true) × (matches_type y Real ≡ true) → Joined x y Real (xs ++ (rec 14 l r k 0 0 ∷ []))
  arith_ok l r k x y xs a p q =
      (tt, λ P. rw (a.0, same_kind x Real p tt a.1, same_kind y Real q tt a.2) (num_step l r k P))

  arith_code : (k : ℕ) (r ar br : Range) (x y : Ty) (i : Ideal) → Code E 0 i (arith_node R t base k r ar br x y i).state (Unit {0}) (Joined x y Real)
  unfolding arith_node
  arith_code k r ar br x y i =
      let j = check_type R t base Real ar x i in
      let m = check_type R t base Real br y j in
      put E {d = 0} {A = λ xs. (xs ≡ []) × (matches_type x Real ≡ true) × (matches_type y Real ≡ true)} {C = Joined x y Real}
      (seq E {d₁ = 0} {d₂ = 0} {W₁ = Unit {0}} {W₂ = Unit {0}} {W = Unit {0}} {A = Matched x Real} {B = Matched y Real} {C = λ xs. (xs ≡ []) × (matches_type x Real ≡ true) × (matches_type y Real ≡ true)}
      (check_code Real ar x i) (check_code Real br y j) (λ w. w) (λ w. w) (λ xs ys a b. (rw (a.0, b.0), a.1, b.1)))
      (omega arith) (rec 14 m.line r k 0 0) (arith_ok m.line r k x y)

  binary_code : (k : ℕ) (r ar o br : Range) (x y : Ty) (i : Ideal) → Code E 0 i (binary_node R t base k r ar o br x y i).state (Unit {0}) (Joined x y (binary_node R t base k r ar o br x y i).ty)
  unfolding binary_node
  binary_code k r ar o br x y i = go (ltb k 7)
    where
      go : (b : Bool) → Code E 0 i (pick b (like_node R t base k r o x y i) (arith_node R t base k r ar br x y i)).state (Unit {0})
          (Joined x y (pick b (like_node R t base k r o x y i) (arith_node R t base k r ar br x y i)).ty)
      go true = like_code k r o x y i
      go false = unfold arith_node in arith_code k r ar br x y i

  -- both sides, one after the other
  pub record Pair (x y : Ty) (xs : List Rec) : Type 0 where
    pub left : Proper x
    pub right : Proper y
    pub flow : (P : Pile) → Plain E xs P (kind_of y ∷ kind_of x ∷ P)

  binary_of : {W₁ W₂ : Type 0} (k : ℕ) (r ar o br : Range) (i : Ideal) (p q : Out Ideal) → Code E 0 i p.state W₁ (Typed p.ty) → Code E 0 p.state q.state W₂ (Typed q.ty)
      → Code E 0 i (binary_node R t base k r ar o br p.ty q.ty q.state).state (W₁ × W₂) (Typed (binary_node R t base k r ar o br p.ty q.ty q.state).ty)
  binary_of {W₁} {W₂} k r ar o br i p q a b =
      let z = (binary_node R t base k r ar o br p.ty q.ty q.state).ty in
      seq E {d₁ = 0} {d₂ = 0} {W₁ = W₁ × W₂} {W₂ = Unit {0}} {W = W₁ × W₂} {A = Pair p.ty q.ty} {B = Joined p.ty q.ty z} {C = Typed z}
      (seq E {d₁ = 0} {d₂ = 0} {W = W₁ × W₂} {A = Typed p.ty} {B = Typed q.ty} {C = Pair p.ty q.ty} a b (λ w. w.0) (λ w. w.1)
      (λ xs ys u v. record { left = u.proper; right = v.proper; flow = λ P. flow_append (u.flow P) (v.flow (kind_of p.ty ∷ P)) }))
      (binary_code k r ar o br p.ty q.ty q.state) (λ w. w) (λ w. tt)
      (λ xs ys u v. let c = v u.left u.right in record { proper = c.0; flow = λ P. flow_append (u.flow P) (c.1 P) })

  unary_ok : (l : ℕ) (r : Range) (k : ℕ) (xs : List Rec) → Wanted Real xs → Typed Real (xs ++ (rec 13 l r k 0 0 ∷ []))
  unfolding step effect_of taken
  unary_ok l r k xs a = record { proper = tt; flow = λ P. flow_append (a tt P) (plain_one E (rec 13 l r k 0 0) (num ∷ P) (num ∷ P) refl refl) }

  unary_of : {W : Type 0} (k : ℕ) (r ar : Range) (i : Ideal) (p : Out Ideal) → Code E 0 i p.state W (Typed p.ty) → Code E 0 i (unary_node R t base k r ar p.ty p.state).state W (Typed Real)
  unfolding unary_node
  unary_of {W} k r ar i p a =
      put E {A = Wanted Real} {C = Typed Real} (wanted_of {W = W} 0 Real ar i p a) (omega arith) (rec 13 (check_type R t base Real ar p.ty p.state).line r k 0 0) (unary_ok _ r k)

  -- arguments
  abbrev pub Args : (ℕ → Ty) → ℕ → ℕ → List Rec → Type 0
  Args want i n xs = Clear want i n → Turns E Same (arg_pile want i n) xs

  args_of : {W₁ W₂ : Type 0} (want : ℕ → Ty) (m n : ℕ) (i f g : Ideal) → Code E 0 i f W₁ (Wanted (want m)) → Code E 0 f g W₂ (Args want (suc m) n) → Code E 0 i g (W₁ × W₂) (Args want m (suc n))
  args_of {W₁} {W₂} want m n i f g a b =
      seq E {d₁ = 0} {d₂ = 0} {W = W₁ × W₂} {A = Wanted (want m)} {B = Args want (suc m) n} {C = Args want m (suc n)} a b (λ w. w.0) (λ w. w.1)
      (λ xs ys u v c P. flow_append (u c.0 P) (v c.1 (kind_of (want m) ∷ P)))

  -- subscripts, which are numbers, and an array's name
  pub record Subscripted (k n : ℕ) (x : Ty) (xs : List Rec) : Type 0 where
    pub type : symbol_type E n ≡ x
    pub proper : Proper x
    pub flow : (P : Pile) → Plain E xs P (replicate k num ++ P)

  pub subscripted : (k n : ℕ) (x : Ty) (xs ys : List Rec) → Args every_real 0 k xs → Known n x ys → Subscripted k n x (xs ++ ys)
  subscripted k n x xs ys a b = record {
    type = b.type;
    proper = b.proper;
    flow = λ P. rw (← real_pile 0 k P) (then_nothing Same (arg_pile every_real 0 k) xs ys (a (clear_real 0 k)) b.none P);
  }

  element_ok : (l : ℕ) (r : Range) (n k : ℕ) (x : Ty) (xs : List Rec) → Subscripted k n x xs → Typed x (xs ++ (rec 6 l r n k 0 ∷ []))
  unfolding step effect_of
  element_ok l r n k x xs a = record {
    proper = a.proper;
    flow = λ P. flow_append (a.flow P) (plain_one E (rec 6 l r n k 0) (replicate k num ++ P) (kind_of x ∷ P) refl (rw (taken_numbers k P, ← a.type) refl));
  }

  index_of : {W : Type 0} (n : Opt Range) (r : Range) (k : ℕ) (i j : Ideal) → Code E 0 i j W (Args every_real 0 k) → Code E 0 i (index_node R t base n r k j).state (Present n × W) (Typed (index_node R t base n r k j).ty)
  index_of {W} absent r k i j a = claims_nothing E 0 (⊥ × W) (Typed Error) (λ w. w.0) a
  index_of {W} (given nr) r k i j a =
      let y = compile_sym R t base nr j in
      put E {d = 1} {W = Unit {0} × W} {A = Subscripted k y.number y.ty} {C = Typed y.ty}
      (seq E {d₁ = 0} {d₂ = 1} {W₁ = W} {W₂ = Unit {0}} {W = Unit {0} × W} {A = Args every_real 0 k} {B = Known y.number y.ty} {C = Subscripted k y.number y.ty} a (sym_code nr j) (λ w. w.1) (λ w. w.0)
      (λ xs ys u v. subscripted k y.number y.ty xs ys u v))
      (omega arith) (rec 6 y.state.line r y.number k 0) (λ xs u. element_ok y.state.line r y.number k y.ty xs u)

  -- a system function: no note, then its arguments, then its call
  abbrev Counted : ℕ → ℕ → List Rec → Type 0
  Counted k n xs = (xs ≡ []) × ((n ≤ length (signature_of k).args) × (allows (signature_of k) n ≡ true))

  arity_code : (k n : ℕ) (r : Range) (i : Ideal) → Code E 0 i (arity_notes R t base (signature_of k) n r i) (Unit {0}) (Counted k n)
  unfolding arity_notes
  arity_code k n r i = go (ltb n (signature_of k).min) (ltb (length (signature_of k).args) n) refl refl
    where
      go : (b c : Bool) → ltb n (signature_of k).min ≡ b → ltb (length (signature_of k).args) n ≡ c → Code E 0 i (pick b (R.note i 6 r 1) (pick c (R.note i 7 r 1) i)) (Unit {0}) (Counted k n)
      go true c f e = fails E i 6 i.line r 0 (Unit {0}) (Counted k n)
      go false true f e = fails E i 7 i.line r 0 (Unit {0}) (Counted k n)
      go false false f e =
          stay E i (Unit {0}) (Counted k n)
          (λ w. let h = ltb-false (length (signature_of k).args) n e in (refl, (h, allowed (signature_of k) n (ltb-false n (signature_of k).min f) h)))

  notes_code : (k n : ℕ) (fr r : Range) (i : Ideal) → Code E 0 i (func_notes R t base k n fr r i) (Unit {0}) (Counted k n)
  unfolding func_notes
  notes_code k n fr r i = go (either (eqb k tab) (eqb k spc))
    where
      go : (b : Bool) → Code E 0 i (arity_notes R t base (signature_of k) n r (pick b (R.note i 12 fr 1) i)) (Unit {0}) (Counted k n)
      go true =
          seq E {d₁ = 0} {d₂ = 0} {W₁ = Unit {0}} {W₂ = Unit {0}} {A = λ xs. ⊥} {B = Counted k n} (fails E i 12 i.line fr 0 (Unit {0}) (λ xs. ⊥)) (arity_code k n r (R.note i 12 fr 1)) (λ w. w) (λ w. w) (λ xs ys a b. absurd a)
      go false = arity_code k n r i

  func_ok : (l : ℕ) (r : Range) (k n : ℕ) (xs : List Rec) → ((n ≤ length (signature_of k).args) × (allows (signature_of k) n ≡ true)) × Turns E Same (arg_pile (wanted (signature_of k).args) 0 n) xs → Typed (signature_of k).result (xs ++ (rec 11 l r k n 0 ∷ []))
  unfolding step effect_of taken
  func_ok l r k n xs a = record {
    proper = (good_sig k).0;
    flow = λ P. flow_append (a.1 P) (plain_one E (rec 11 l r k n 0) (arg_pile (wanted (signature_of k).args) 0 n P) (kind_of (signature_of k).result ∷ P) refl
        (rw (a.0.1, taken_arguments (signature_of k).args n [] P a.0.0) refl));
  }

  func_of : {W : Type 0} (k n : ℕ) (fr r : Range) (i j : Ideal) → Code E 0 (func_notes R t base k n fr r i) j W (Args (wanted (signature_of k).args) 0 n)
      → Code E 0 i (func_node R t base k n r j).state W (Typed (signature_of k).result)
  unfolding func_node
  func_of {W} k n fr r i j a =
      let Q : List Rec → Type 0 = λ xs. ((n ≤ length (signature_of k).args) × (allows (signature_of k) n ≡ true)) × Turns E Same (arg_pile (wanted (signature_of k).args) 0 n) xs in
      put E {d = 0} {W = W} {A = Q} {C = Typed (signature_of k).result}
      (seq E {d₁ = 0} {d₂ = 0} {W₁ = Unit {0}} {W₂ = W} {W = W} {A = Counted k n} {B = Args (wanted (signature_of k).args) 0 n} {C = Q} (notes_code k n fr r i) a (λ w. tt) (λ w. w)
      (λ xs ys u v. (u.1, nothing_then Same (arg_pile (wanted (signature_of k).args) 0 n) xs ys u.0 (v (clear_wanted (signature_of k).args 0 n (good_sig k).1 (omega (arith, u.1.0)))))))
      (omega arith) (rec 11 j.line r k n 0) (func_ok j.line r k n)

  mutual
    unfolding compile_expr compile_args func_node unary_node count

    pub expr_code : (e : Expr) (i : Ideal) → Code E 0 i (compile_expr R t base e i).state (WholeExpr e) (Typed (compile_expr R t base e i).ty)
    expr_code (ident r) i = var_code r i
    expr_code (string_lit r) i = text_code r i
    expr_code (number_lit r e m) i = number_code r e m i
    expr_code (sys_func_call r fr k es) i = func_of k (count es) fr r i _ (args_code (wanted (signature_of k).args) 0 es (func_notes R t base k (count es) fr r i))
    expr_code (user_func_call r f e) i =
        user_of f r (opt_real_sym R t base f i).number i _ (user_args f (expr_range e) i (compile_expr R t base e (opt_real_sym R t base f i).state) (expr_code e (opt_real_sym R t base f i).state))
    expr_code (binary r a o k b) i =
        binary_of k r (expr_range a) o (expr_range b) i (compile_expr R t base a i) (compile_expr R t base b (compile_expr R t base a i).state) (expr_code a i) (expr_code b (compile_expr R t base a i).state)
    expr_code (unary r k e) i = unary_of k r (expr_range e) i (compile_expr R t base e i) (expr_code e i)
    expr_code (index r n es) i = index_of n r (count es) i (compile_args R t base every_real 0 es i) (args_code every_real 0 es i)
    expr_code (inkey r) i = inkey_code r i
    expr_code (error r) i = stay E i ⊥ (Typed Error) (λ w. absurd w)

    pub args_code : (want : ℕ → Ty) (m : ℕ) (es : Exprs) (i : Ideal) → Code E 0 i (compile_args R t base want m es i) (WholeExprs es) (Args want m (count es))
    args_code want m none i = stay E i (Unit {0}) (Args want m 0) (λ w c P. Flow.done)
    args_code want m (more e es) i =
        args_of want m (count es) i _ _ (wanted_of 0 (want m) (expr_range e) i (compile_expr R t base e i) (expr_code e i))
        (args_code want (suc m) es (check_type R t base (want m) (expr_range e) (compile_expr R t base e i).ty (compile_expr R t base e i).state))

  -- an expression of which a kind is wanted
  pub typed_code : (want : Ty) (e : Expr) (i : Ideal) → Code E 0 i (compile_typed R t base want e i) (WholeExpr e) (Wanted want)
  typed_code want e i = wanted_of 0 want (expr_range e) i (compile_expr R t base e i) (expr_code e i)
