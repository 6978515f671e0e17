-- Runs of records over piles, blocks that begin and end empty, and how they are put together.
use Rattle.std.proofs.Common.{◌≡◌, ℕ, zero, suc, ◌+◌, ◌<◌, Bool, true, false, eqb, leb, List, [], ◌∷◌, ◌++◌, length, get_or, refl, arith, eqb-true}
use Rattle.recorder.specs.Word.{pick, both, either}
use Rattle.recorder.specs.Ideal.{Rec, no_rec, Entry}
use Rattle.sheet.specs.Tree.{Opt, absent, given}
use Rattle.rules.specs.Missing.{All}
use Rattle.rules.specs.Piles.{Pile, step}

-- one thing after another, where both go
abbrev pub and_then : Opt Pile → (Pile → Opt Pile) → Opt Pile
and_then absent f = absent
and_then (given P) f = f P

-- the pile behind a list of records; and the pile before its k-th
unfoldable pub run : List Entry → List Rec → Pile → Opt Pile
run es [] P = given P
run es (r ∷ rs) P = and_then (step es r P) (run es rs)

unfoldable pub pile_in : List Entry → List Rec → Pile → ℕ → Opt Pile
pile_in es [] P k = given P
pile_in es (r ∷ rs) P zero = given P
pile_in es (r ∷ rs) P (suc k) = and_then (step es r P) (λ Q. pile_in es rs Q k)

-- the calls behind which the pile is empty: 2 and 19 to 26
abbrev pub empties_call : ℕ → Bool
empties_call k = either (eqb k 2) (both (leb 19 k) (leb k 26))

-- the targets that are known when a statement is compiled
abbrev pub fixed_targets : Rec → List ℕ
fixed_targets r =
    pick (eqb r.call 19) (r.a ∷ [])
    (pick (either (eqb r.call 20) (eqb r.call 21)) (pick (eqb r.b 0) (r.a ∷ []) [])
    (pick (eqb r.call 25) (r.a ∷ [])
    (pick (eqb r.call 26) (r.c ∷ []) [])))

abbrev pub is_jump_call : ℕ → Bool
is_jump_call k = either (eqb k 20) (eqb k 21)

-- so many jumps come first
abbrev pub Jumps : ℕ → List Rec → Type 0
Jumps zero rs = Unit {0}
Jumps (suc n) [] = ⊥
Jumps (suc n) (r ∷ rs) = (is_jump_call r.call ≡ true) × Jumps n rs

-- what is asked of a record besides its step to Q: X says which targets are good, Y which ends of functions, and rs stand behind it
pub record Side (X Y : ℕ → Type 0) (r : Rec) (Q : Pile) (rs : List Rec) : Type 0 where
  pub empty_behind : empties_call r.call ≡ true → Q ≡ []
  pub fixed : All X (fixed_targets r)
  pub body : r.call ≡ 26 → Y r.c
  pub on : r.call ≡ 22 → Jumps r.a rs

pub data Flow (es : List Entry) (X Y : ℕ → Type 0) : List Rec → Pile → Pile → Type 0 where
  done : {P : Pile} → Flow es X Y [] P P
  go : {r : Rec} {rs : List Rec} {P Q U : Pile} → step es r P ≡ given Q → Side X Y r Q rs → Flow es X Y rs Q U → Flow es X Y (r ∷ rs) P U

pub all_map : {A : Type 0} (X Y : A → Type 0) (xs : List A) → ((x : A) → X x → Y x) → All X xs → All Y xs
all_map X Y [] f a = tt
all_map X Y (x ∷ xs) f a = (f x a.0, all_map X Y xs f a.1)

pub all_append : {A : Type 0} (X : A → Type 0) (xs ys : List A) → All X xs → All X ys → All X (xs ++ ys)
all_append X [] ys a b = b
all_append X (x ∷ xs) ys a b = (a.0, all_append X xs ys a.1 b)

pub all_left : {A : Type 0} (X : A → Type 0) (xs ys : List A) → All X (xs ++ ys) → All X xs
all_left X [] ys a = tt
all_left X (x ∷ xs) ys a = (a.0, all_left X xs ys a.1)

pub all_right : {A : Type 0} (X : A → Type 0) (xs ys : List A) → All X (xs ++ ys) → All X ys
all_right X [] ys a = a
all_right X (x ∷ xs) ys a = all_right X xs ys a.1

pub jumps_append : (n : ℕ) (xs ys : List Rec) → Jumps n xs → Jumps n (xs ++ ys)
jumps_append zero xs ys j = tt
jumps_append (suc n) [] ys j = absurd j
jumps_append (suc n) (x ∷ xs) ys j = (j.0, jumps_append n xs ys j.1)

side_append : (X Y : ℕ → Type 0) (r : Rec) (Q : Pile) (xs ys : List Rec) → Side X Y r Q xs → Side X Y r Q (xs ++ ys)
side_append X Y r Q xs ys s = record { empty_behind = s.empty_behind; fixed = s.fixed; body = s.body; on = λ e. jumps_append r.a xs ys (s.on e) }

side_map : (X Y X' Y' : ℕ → Type 0) (r : Rec) (Q : Pile) (rs : List Rec) → ((v : ℕ) → X v → X' v) → ((v : ℕ) → Y v → Y' v) → Side X Y r Q rs → Side X' Y' r Q rs
side_map X Y X' Y' r Q rs f g s = record { empty_behind = s.empty_behind; fixed = all_map X X' (fixed_targets r) f s.fixed; body = λ e. g r.c (s.body e); on = s.on }

pub flow_append : {es : List Entry} {X Y : ℕ → Type 0} {xs ys : List Rec} {P Q U : Pile} → Flow es X Y xs P Q → Flow es X Y ys Q U → Flow es X Y (xs ++ ys) P U
flow_append done b = b
flow_append {X = X} {Y = Y} {ys = ys} (go {r = r} {rs = rs} {Q = M} s w a) b = go s (side_append X Y r M rs ys w) (flow_append a b)

pub flow_map : {es : List Entry} {X Y X' Y' : ℕ → Type 0} {xs : List Rec} {P Q : Pile} → ((v : ℕ) → X v → X' v) → ((v : ℕ) → Y v → Y' v) → Flow es X Y xs P Q → Flow es X' Y' xs P Q
flow_map f g done = done
flow_map {X = X} {Y = Y} {X' = X'} {Y' = Y'} f g (go {r = r} {rs = rs} {Q = M} s w a) = go s (side_map X Y X' Y' r M rs f g w) (flow_map f g a)

pub flow_run : {es : List Entry} {X Y : ℕ → Type 0} {xs : List Rec} {P Q : Pile} → Flow es X Y xs P Q → run es xs P ≡ given Q
unfolding run
flow_run done = refl
flow_run {es} (go {rs = rs} s w a) = rw s (flow_run a)

-- a record of a call that asks nothing besides
abbrev pub plain_call : ℕ → Bool
plain_call k = pick (empties_call k) false true

off : {A : Type 0} (b : Bool) → pick b false true ≡ true → b ≡ true → A
off true e f = absurd (let z : ◌≡◌ {A = ℕ} 0 1 = cc in omega arith)
off false e f = absurd (let z : ◌≡◌ {A = ℕ} 0 1 = cc in omega arith)

-- a literal call that is no target's has no targets
call_is : (k n : ℕ) → plain_call k ≡ true → empties_call n ≡ true → eqb k n ≡ false
call_is k n e q = go (eqb k n) refl
  where
    go : (b : Bool) → eqb k n ≡ b → eqb k n ≡ false
    go false f = f
    go true f = let z : k ≡ n = eqb-true k n f in off (empties_call k) e (rw z q)

pub plain_side : (X Y : ℕ → Type 0) (r : Rec) (Q : Pile) (rs : List Rec) → plain_call r.call ≡ true → Side X Y r Q rs
plain_side X Y r Q rs e = record {
  empty_behind = λ q. off (empties_call r.call) e q;
  fixed = rw (call_is r.call 19 e refl, call_is r.call 20 e refl, call_is r.call 21 e refl, call_is r.call 25 e refl, call_is r.call 26 e refl) tt;
  body = λ q. off (empties_call r.call) e (rw q refl);
  on = λ q. off (empties_call r.call) e (rw q refl);
}

-- no target at all
abbrev pub NoTarget : ℕ → Type 0
NoTarget v = ⊥

-- a run in which nothing is asked besides the steps
abbrev pub Plain : List Entry → List Rec → Pile → Pile → Type 0
Plain es xs P Q = Flow es NoTarget NoTarget xs P Q

-- the same from one pile to another, whatever lies below
abbrev pub Turns : List Entry → (Pile → Pile) → (Pile → Pile) → List Rec → Type 0
Turns E f g xs = (P : Pile) → Plain E xs (f P) (g P)

pub plain_one : (es : List Entry) (r : Rec) (P Q : Pile) → plain_call r.call ≡ true → step es r P ≡ given Q → Plain es (r ∷ []) P Q
plain_one es r P Q e s = go s (plain_side NoTarget NoTarget r Q [] e) done

-- in a block at B the end of a function is behind its 26, with at least one record between
abbrev pub Ahead : ℕ → List Rec → Type 0
Ahead B [] = Unit {0}
Ahead B (r ∷ rs) = (r.call ≡ 26 → suc B < r.c) × Ahead (suc B) rs

pub ahead_append : (B C : ℕ) (xs ys : List Rec) → C ≡ B + length xs → Ahead B xs → Ahead C ys → Ahead B (xs ++ ys)
ahead_append B C [] ys h a b = let e : C ≡ B = omega arith in rw e at b
ahead_append B C (x ∷ xs) ys h a b = (a.0, ahead_append (suc B) C xs ys (omega arith) a.1 b)

pub ahead_at : (B : ℕ) (xs : List Rec) (k : ℕ) → k < length xs → Ahead B xs → (get_or xs k no_rec).call ≡ 26 → suc (B + k) < (get_or xs k no_rec).c
ahead_at B [] k h a e = absurd (omega arith)
ahead_at B (x ∷ xs) zero h a e = omega (arith, a.0 e)
ahead_at B (x ∷ xs) (suc k) h a e = let l = ahead_at (suc B) xs k (omega arith) a.1 e in omega (arith, l)

-- where there is no function
pub flow_ahead : {es : List Entry} {X : ℕ → Type 0} {xs : List Rec} {P Q : Pile} (B : ℕ) → Flow es X NoTarget xs P Q → Ahead B xs
flow_ahead B done = tt
flow_ahead B (go s w a) = (λ e. absurd (w.body e), flow_ahead (suc B) a)

pub plain_flow : (es : List Entry) (X Y : ℕ → Type 0) (xs : List Rec) (P Q : Pile) → Plain es xs P Q → Flow es X Y xs P Q
plain_flow es X Y xs P Q a = flow_map (λ v. absurd) (λ v. absurd) a
