-- Blocks: runs from an empty pile to an empty pile, the places inside where it is empty, and what is put together of them.
use Rattle.std.proofs.Common.{◌≡◌, ℕ, zero, suc, ◌+◌, ◌<◌, ◌≤◌, Bool, true, false, eqb, leb, List, [], ◌∷◌, ◌++◌, length, get_or, sym, refl, ◌∙◌, arith, length-append, get_or-append-add, eqb-true}
use lib.ListN.{get_or-append}
use Rattle.recorder.specs.Word.{pick, both, either}
use Rattle.recorder.specs.Ideal.{Rec, no_rec, Entry}
use Rattle.sheet.specs.Tree.{Opt, absent, given}
use Rattle.rules.specs.Missing.{All}
use Rattle.rules.specs.Piles.{num, Pile, step}
use Rattle.rules.proofs.PileLaws.{and_then, run, pile_in, Side, Flow, NoTarget, Plain, Ahead, ahead_append, flow_ahead, all_map, all_append, flow_append, flow_map, flow_run, plain_flow}

module _ (E : List Entry) where
  -- the pile inside a list, by its parts
  pub pile_none : (xs : List Rec) (P : Pile) → pile_in E xs P 0 ≡ given P
  unfolding pile_in
  pile_none [] P = refl
  pile_none (x ∷ xs) P = refl

  pub pile_left : (xs ys : List Rec) (P : Pile) (n : ℕ) → n ≤ length xs → pile_in E (xs ++ ys) P n ≡ pile_in E xs P n
  unfolding pile_in
  pile_left [] ys P zero h = pile_none ys P
  pile_left [] ys P (suc n) h = absurd (omega arith)
  pile_left (x ∷ xs) ys P zero h = refl
  pile_left (x ∷ xs) ys P (suc n) h = go (step E x P) (λ Q. pile_left xs ys Q n (omega arith))
    where
      go : (o : Opt Pile) → ((Q : Pile) → pile_in E (xs ++ ys) Q n ≡ pile_in E xs Q n) → and_then o (λ Q. pile_in E (xs ++ ys) Q n) ≡ and_then o (λ Q. pile_in E xs Q n)
      go absent f = refl
      go (given Q) f = f Q

  pub pile_right : (xs ys : List Rec) (P Q : Pile) (m : ℕ) → run E xs P ≡ given Q → pile_in E (xs ++ ys) P (length xs + m) ≡ pile_in E ys Q m
  unfolding pile_in run
  pile_right [] ys P Q m e = let z : P ≡ Q = cc in let k : 0 + m ≡ m = omega arith in rw (k, z)
  pile_right (x ∷ xs) ys P Q m e =
      let k : suc (length xs) + m ≡ suc (length xs + m) = omega arith in
      rw k (go (step E x P) e (λ U. pile_right xs ys U Q m))
    where
      go : (o : Opt Pile) → and_then o (run E xs) ≡ given Q → ((U : Pile) → run E xs U ≡ given Q → pile_in E (xs ++ ys) U (length xs + m) ≡ pile_in E ys Q m)
          → and_then o (λ U. pile_in E (xs ++ ys) U (length xs + m)) ≡ pile_in E ys Q m
      go absent q f = let z : ◌≡◌ {A = ℕ} 0 1 = cc in absurd (omega arith)
      go (given U) q f = f U q

  pub pile_end : (xs : List Rec) (P Q : Pile) → run E xs P ≡ given Q → pile_in E xs P (length xs) ≡ given Q
  unfolding pile_in run
  pile_end [] P Q e = e
  pile_end (x ∷ xs) P Q e = go (step E x P) e (λ U. pile_end xs U Q)
    where
      go : (o : Opt Pile) → and_then o (run E xs) ≡ given Q → ((U : Pile) → run E xs U ≡ given Q → pile_in E xs U (length xs) ≡ given Q)
          → and_then o (λ U. pile_in E xs U (length xs)) ≡ given Q
      go absent q f = q
      go (given U) q f = f U q

  -- in a block at B, an address where the pile is empty; and one just behind the end of a function's body
  pub record Empty (B : ℕ) (xs : List Rec) (T : ℕ) : Type 0 where
    pub at : ℕ
    pub place : T ≡ B + at
    pub within : at ≤ length xs
    pub pile : pile_in E xs [] at ≡ given []

  pub record Body (B : ℕ) (xs : List Rec) (T : ℕ) : Type 0 where
    pub at : ℕ
    pub place : T ≡ suc (B + at)
    pub within : at < length xs
    pub closes : (get_or xs at no_rec).call ≡ 27
    pub pile : pile_in E xs [] at ≡ given (num ∷ [])

  pub empty_left : (B : ℕ) (xs ys : List Rec) (T : ℕ) → Empty B xs T → Empty B (xs ++ ys) T
  empty_left B xs ys T e = record { at = e.at; place = e.place; within = omega (arith, e.within, length-append xs ys); pile = pile_left xs ys [] e.at e.within ∙ e.pile }

  pub empty_right : (B C : ℕ) (xs ys : List Rec) (T : ℕ) → C ≡ B + length xs → run E xs [] ≡ given [] → Empty C ys T → Empty B (xs ++ ys) T
  empty_right B C xs ys T h r e = record {
    at = length xs + e.at;
    place = omega (arith, e.place);
    within = omega (arith, e.within, length-append xs ys);
    pile = pile_right xs ys [] [] e.at r ∙ e.pile;
  }

  pub body_left : (B : ℕ) (xs ys : List Rec) (T : ℕ) → Body B xs T → Body B (xs ++ ys) T
  body_left B xs ys T e = record {
    at = e.at;
    place = e.place;
    within = omega (arith, e.within, length-append xs ys);
    closes = rw (get_or-append xs ys no_rec e.at e.within) e.closes;
    pile = pile_left xs ys [] e.at (omega (arith, e.within)) ∙ e.pile;
  }

  pub body_right : (B C : ℕ) (xs ys : List Rec) (T : ℕ) → C ≡ B + length xs → run E xs [] ≡ given [] → Body C ys T → Body B (xs ++ ys) T
  body_right B C xs ys T h r e = record {
    at = length xs + e.at;
    place = omega (arith, e.place);
    within = omega (arith, e.within, length-append xs ys);
    closes = rw (get_or-append-add xs ys e.at no_rec) e.closes;
    pile = pile_right xs ys [] [] e.at r ∙ e.pile;
  }

  pub first_empty : (B : ℕ) (xs : List Rec) → Empty B xs B
  first_empty B xs = record { at = 0; place = omega arith; within = omega arith; pile = pile_none xs [] }

  pub last_empty : (B C : ℕ) (xs : List Rec) → C ≡ B + length xs → run E xs [] ≡ given [] → Empty B xs C
  last_empty B C xs h r = record { at = length xs; place = h; within = omega arith; pile = pile_end xs [] [] r }

  -- a block at B with where its statements begin and end
  pub record Good (B : ℕ) (ms : List ℕ) (xs : List Rec) : Type 0 where
    pub flow : Flow E (Empty B xs) (Body B xs) xs [] []
    pub addrs : All (Empty B xs) ms
    pub ahead : Ahead B xs

  pub good_nil : (B : ℕ) → Good B [] []
  good_nil B = record { flow = Flow.done; addrs = tt; ahead = tt }

  pub good_append : (B C : ℕ) (ms ns : List ℕ) (xs ys : List Rec) → C ≡ B + length xs → Good B ms xs → Good C ns ys → Good B (ms ++ ns) (xs ++ ys)
  good_append B C ms ns xs ys h a b =
      let r = flow_run a.flow in
      record {
        flow = flow_append (flow_map (empty_left B xs ys) (body_left B xs ys) a.flow)
            (flow_map (λ T. empty_right B C xs ys T h r) (λ T. body_right B C xs ys T h r) b.flow);
        addrs = all_append (Empty B (xs ++ ys)) ms ns (all_map (Empty B xs) (Empty B (xs ++ ys)) ms (empty_left B xs ys) a.addrs)
            (all_map (Empty C ys) (Empty B (xs ++ ys)) ns (λ T. empty_right B C xs ys T h r) b.addrs);
        ahead = ahead_append B C xs ys h a.ahead b.ahead;
      }

  pub good_plain : (B : ℕ) (xs : List Rec) → Plain E xs [] [] → Good B [] xs
  good_plain B xs a = record { flow = plain_flow E (Empty B xs) (Body B xs) xs [] [] a; addrs = tt; ahead = flow_ahead B a }

  -- a statement: where it begins and ends is empty
  pub good_stmt : (B C : ℕ) (ms : List ℕ) (xs : List Rec) → C ≡ B + length xs → Good B ms xs → Good B (B ∷ C ∷ ms) xs
  good_stmt B C ms xs h a = record { flow = a.flow; addrs = (first_empty B xs, (last_empty B C xs h (flow_run a.flow), a.addrs)); ahead = a.ahead }

-- a record behind which the pile is empty, and that has no targets and is no ON
abbrev pub untargeted_call : ℕ → Bool
untargeted_call k = pick (both (leb 19 k) (leb k 26)) (either (eqb k 23) (eqb k 24)) true

not_untargeted : (k n : ℕ) → untargeted_call k ≡ true → untargeted_call n ≡ false → eqb k n ≡ false
not_untargeted k n e q = go (eqb k n) refl
  where
    go : (b : Bool) → eqb k n ≡ b → eqb k n ≡ false
    go false f = f
    go true f = let z : k ≡ n = eqb-true k n f in let y : ◌≡◌ {A = Bool} true false = sym e ∙ rw z q in let x : ◌≡◌ {A = ℕ} 0 1 = cc in absurd (omega arith)

off : {A : Type 0} (k n : ℕ) → untargeted_call k ≡ true → untargeted_call n ≡ false → k ≡ n → A
off k n e q z = let y : ◌≡◌ {A = Bool} true false = sym e ∙ rw z q in let x : ◌≡◌ {A = ℕ} 0 1 = cc in absurd (omega arith)

pub untargeted_side : (X Y : ℕ → Type 0) (r : Rec) (rs : List Rec) → untargeted_call r.call ≡ true → Side X Y r [] rs
untargeted_side X Y r rs e = record {
  empty_behind = λ q. refl;
  fixed = rw (not_untargeted r.call 19 e refl, not_untargeted r.call 20 e refl, not_untargeted r.call 21 e refl, not_untargeted r.call 25 e refl, not_untargeted r.call 26 e refl) tt;
  body = λ q. off r.call 26 e refl q;
  on = λ q. off r.call 22 e refl q;
}

pub untargeted : (E : List Entry) (r : Rec) (P : Pile) → untargeted_call r.call ≡ true → step E r P ≡ given [] → Plain E (r ∷ []) P []
untargeted E r P e s = Flow.go s (untargeted_side NoTarget NoTarget r [] e) Flow.done
