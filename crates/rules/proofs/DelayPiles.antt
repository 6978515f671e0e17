-- Delays: a FOR without a body and its NEXT become a SLEEP. The piles change inside such a window only, where they are not empty.
use Rattle.std.proofs.Common.{◌≡◌, ℕ, zero, suc, ◌+◌, ◌<◌, ◌≤◌, Bool, true, false, eqb, ltb, ◌⊎◌, List, [], ◌∷◌, ◌++◌, length, get_or, take, drop, sym, refl, ap, ◌∙◌, subst, inl, inr, arith, take-append-drop, length-take-le, get_or-append-add, eqb-true}
use Rattle.recorder.specs.Word.{pick, both, either}
use Rattle.recorder.specs.Ideal.{Rec, no_rec, Entry, change}
use Rattle.recorder.specs.Closing.{is_zero, is_one, is_start, is_end, is_for, is_next_of, rec_at, is_delay, is_stepped_delay, no_op, sleep, whole_end, delayed, stepped_delayed, delay_from, delays}
use Rattle.recorder.proofs.Bools.{both_left, both_right}
use Rattle.simulation.proofs.Clean.{delay_length}
use Rattle.sheet.specs.Tree.{absent, given}
use Rattle.rules.specs.Tables.{operand}
use Rattle.rules.specs.Piles.{Kind, num, txt, plc, Pile, kind_of, symbol_type, operands, effect_of, taken, step}
use Rattle.rules.proofs.BoolLaws.{no_one, either_of}
use Rattle.rules.proofs.PileLaws.{pile_in, is_jump_call, Jumps, Ahead}
use Rattle.rules.proofs.Blocks.{Empty, Body}
use Rattle.rules.proofs.Grown.{change_append}
use Rattle.rules.proofs.Traces.{EmptyBehind, Trace}
use Rattle.rules.proofs.ClosingPiles.{Full}

pub start_call : (r : Rec) → is_start r ≡ true → r.call ≡ 3
start_call r e = go (either_of (is_zero r) (is_one r) e)
  where
    go : (is_zero r ≡ true) ⊎ (is_one r ≡ true) → r.call ≡ 3
    go (inl q) = eqb-true r.call 3 (both_left (eqb r.call 3) (eqb r.a 0) q)
    go (inr q) = eqb-true r.call 3 (both_left (eqb r.call 3) (both (eqb r.a 129) (eqb r.b 2147483648)) q)

pub one_call : (r : Rec) → is_one r ≡ true → r.call ≡ 3
one_call r q = eqb-true r.call 3 (both_left (eqb r.call 3) (both (eqb r.a 129) (eqb r.b 2147483648)) q)

pub end_call : (r : Rec) → is_end r ≡ true → (r.call ≡ 3) ⊎ (r.call ≡ 5)
end_call r e = go (either_of (both (eqb r.call 3) (ltb 0 r.a)) (eqb r.call 5) e)
  where
    go : (both (eqb r.call 3) (ltb 0 r.a) ≡ true) ⊎ (eqb r.call 5 ≡ true) → (r.call ≡ 3) ⊎ (r.call ≡ 5)
    go (inl q) = inl (eqb-true r.call 3 (both_left (eqb r.call 3) (ltb 0 r.a) q))
    go (inr q) = inr (eqb-true r.call 5 q)

pub for_call : (n : ℕ) (r : Rec) → is_for n r ≡ true → (r.call ≡ 23) × (r.b ≡ n)
for_call n r e = (eqb-true r.call 23 (both_left (eqb r.call 23) (eqb r.b n) e), eqb-true r.b n (both_right (eqb r.call 23) (eqb r.b n) e))

pub next_call : (f r : Rec) → is_next_of f r ≡ true → r.call ≡ 24
next_call f r e = eqb-true r.call 24 (both_left (eqb r.call 24) (either (eqb r.a 0) (eqb r.a (f.a + 1))) e)

module _ (E : List Entry) where
  step_number : (r : Rec) → r.call ≡ 3 → (P : Pile) → step E r P ≡ given (num ∷ P)
  unfolding step effect_of taken
  step_number r e P = rw e refl

  step_var : (r : Rec) → r.call ≡ 5 → (P : Pile) → step E r P ≡ given (kind_of (symbol_type E r.a) ∷ P)
  unfolding step effect_of taken
  step_var r e P = rw e refl

  step_next : (r : Rec) → r.call ≡ 24 → (P : Pile) → step E r P ≡ given P
  unfolding step effect_of taken
  step_next r e P = rw e refl

  step_none : (r : Rec) (P : Pile) → step E (no_op r) P ≡ given P
  unfolding step effect_of taken
  step_none r P = refl

  step_sleep : (r : Rec) (P : Pile) → step E (sleep r) (num ∷ P) ≡ given P
  unfolding step effect_of taken operands operand
  step_sleep r P = refl

  -- FOR takes two numbers, or three
  for_two : (r : Rec) (k : Kind) (P Q : Pile) → r.call ≡ 23 → r.b ≡ 0 → step E r (k ∷ num ∷ P) ≡ given Q → (k ≡ num) × (Q ≡ P)
  unfolding step effect_of taken
  for_two r num P Q e b s = let z : given P ≡ given Q = rw (e, b) at s in (refl, cc)
  for_two r txt P Q e b s = let z : absent ≡ given Q = rw (e, b) at s in let y : ◌≡◌ {A = ℕ} 0 1 = cc in absurd (omega arith)
  for_two r (plc x) P Q e b s = let z : absent ≡ given Q = rw (e, b) at s in let y : ◌≡◌ {A = ℕ} 0 1 = cc in absurd (omega arith)

  for_three : (r : Rec) (k : Kind) (P Q : Pile) → r.call ≡ 23 → r.b ≡ 1 → step E r (num ∷ k ∷ num ∷ P) ≡ given Q → (k ≡ num) × (Q ≡ P)
  unfolding step effect_of taken
  for_three r num P Q e b s = let z : given P ≡ given Q = rw (e, b) at s in (refl, cc)
  for_three r txt P Q e b s = let z : absent ≡ given Q = rw (e, b) at s in let y : ◌≡◌ {A = ℕ} 0 1 = cc in absurd (omega arith)
  for_three r (plc x) P Q e b s = let z : absent ≡ given Q = rw (e, b) at s in let y : ◌≡◌ {A = ℕ} 0 1 = cc in absurd (omega arith)

  -- a delay's end puts on one thing, and does so still when it is rounded
  pub record Ends (r : Rec) : Type 0 where
    pub kind : Kind
    pub steps : (P : Pile) → step E r P ≡ given (kind ∷ P)
    pub whole : (P : Pile) → step E (whole_end r) P ≡ given (kind ∷ P)
    pub call : ((whole_end r).call ≡ 3) ⊎ ((whole_end r).call ≡ 5)
    pub old : (r.call ≡ 3) ⊎ (r.call ≡ 5)

  ends : (r : Rec) → (r.call ≡ 3) ⊎ (r.call ≡ 5) → Ends r
  unfolding step effect_of taken
  ends r (inl e) = record { kind = num; steps = step_number r e; whole = λ P. rw e refl; call = inl (rw e refl); old = inl e }
  ends r (inr e) = record { kind = kind_of (symbol_type E r.a); steps = step_var r e; whole = λ P. rw e refl; call = inr (rw e refl); old = inr e }

  -- a record of a window asks for nothing besides
  bare_empty : (r : Rec) (Q : Pile) (rs : List Rec) (k : ℕ) → r.call ≡ k → (k ≡ 1) ⊎ ((k ≡ 3) ⊎ (k ≡ 5)) → EmptyBehind r Q rs
  bare_empty r Q rs k e (inl i) = record { empty_behind = λ q. no_one (rw (e, i) at q); on = λ q. absurd (omega (arith, e, i)) }
  bare_empty r Q rs k e (inr (inl i)) = record { empty_behind = λ q. no_one (rw (e, i) at q); on = λ q. absurd (omega (arith, e, i)) }
  bare_empty r Q rs k e (inr (inr i)) = record { empty_behind = λ q. no_one (rw (e, i) at q); on = λ q. absurd (omega (arith, e, i)) }

  module _ (X Y : ℕ → Type 0) where
    abbrev Z : Rec → Type 0
    Z r = Full X Y r

    bare_full : (r : Rec) (k : ℕ) → r.call ≡ k → (k ≡ 1) ⊎ ((k ≡ 3) ⊎ (k ≡ 5)) → Full X Y r
    bare_full r k e (inl i) = record { targets = rw (e, i) tt; body = λ q. absurd (omega (arith, e, i)) }
    bare_full r k e (inr (inl i)) = record { targets = rw (e, i) tt; body = λ q. absurd (omega (arith, e, i)) }
    bare_full r k e (inr (inr i)) = record { targets = rw (e, i) tt; body = λ q. absurd (omega (arith, e, i)) }

    sleep_full : (r : Rec) → Full X Y (sleep r)
    sleep_full r = record { targets = tt; body = λ q. absurd (omega arith) }

    -- a list in the place of another: empty places stay empty, functions' bodies stay where they are
    pub record Swap (A B : List Rec) : Type 0 where
      pub long : length B ≡ length A
      pub jumps : (n : ℕ) → Jumps n A → Jumps n B
      pub trace : (M U : Pile) → Trace E Z A M U → Trace E Z B M U
      pub empties : (M U : Pile) → Trace E Z A M U → (m : ℕ) → pile_in E A M m ≡ given [] → pile_in E B M m ≡ given []
      pub bodies : (M U : Pile) → Trace E Z A M U → (m : ℕ) → (get_or A m no_rec).call ≡ 27 → pile_in E A M m ≡ given (num ∷ [])
          → ((get_or B m no_rec).call ≡ 27) × (pile_in E B M m ≡ given (num ∷ []))
      pub ahead : (at : ℕ) → Ahead at A → Ahead at B

    swap_same : (A : List Rec) → Swap A A
    swap_same A = record { long = refl; jumps = λ n j. j; trace = λ M U a. a; empties = λ M U a m e. e; bodies = λ M U a m c e. (c, e); ahead = λ at a. a }

    swap_cons : (r : Rec) (A B : List Rec) → Swap A B → Swap (r ∷ A) (r ∷ B)
    swap_cons r A B s = record { long = ap suc s.long; jumps = jumps; trace = trace; empties = empties; bodies = bodies; ahead = λ at a. (a.0, s.ahead (suc at) a.1) }
      where
        jumps : (n : ℕ) → Jumps n (r ∷ A) → Jumps n (r ∷ B)
        jumps zero j = tt
        jumps (suc n) j = (j.0, s.jumps n j.1)

        trace : (M U : Pile) → Trace E Z (r ∷ A) M U → Trace E Z (r ∷ B) M U
        trace M U (Trace.go {Q = Q} e q z a) = Trace.go e (record { empty_behind = q.empty_behind; on = λ w. s.jumps r.a (q.on w) }) z (s.trace Q U a)

        empties : (M U : Pile) → Trace E Z (r ∷ A) M U → (m : ℕ) → pile_in E (r ∷ A) M m ≡ given [] → pile_in E (r ∷ B) M m ≡ given []
        empties M U (Trace.go {Q = Q} e q z a) zero h = unfold pile_in in h
        empties M U (Trace.go {Q = Q} e q z a) (suc m) h = unfold pile_in in rw e (s.empties Q U a m (rw e at h))

        bodies : (M U : Pile) → Trace E Z (r ∷ A) M U → (m : ℕ) → (get_or (r ∷ A) m no_rec).call ≡ 27 → pile_in E (r ∷ A) M m ≡ given (num ∷ [])
            → ((get_or (r ∷ B) m no_rec).call ≡ 27) × (pile_in E (r ∷ B) M m ≡ given (num ∷ []))
        bodies M U (Trace.go {Q = Q} e q z a) zero c h = unfold pile_in in (c, h)
        bodies M U (Trace.go {Q = Q} e q z a) (suc m) c h = unfold pile_in in let u = s.bodies Q U a m c (rw e at h) in (u.0, rw e u.1)

    swap_front : (F A B : List Rec) → Swap A B → Swap (F ++ A) (F ++ B)
    swap_front [] A B s = s
    swap_front (r ∷ F) A B s = swap_cons r (F ++ A) (F ++ B) (swap_front F A B s)

    no_jump : (r : Rec) (k : ℕ) → r.call ≡ k → is_jump_call k ≡ false → {W : Type 0} → is_jump_call r.call ≡ true → W
    no_jump r k e n j = let z : is_jump_call k ≡ true = rw e at j in no_one (sym n ∙ z)

    -- what the four records of a delay do
    pub record Four (r₀ r₁ r₂ r₃ : Rec) : Type 0 where
      pub c₀ : r₀.call ≡ 3
      pub c₁ : Ends r₁
      pub c₂ : r₂.call ≡ 23
      pub b₂ : r₂.b ≡ 0
      pub c₃ : r₃.call ≡ 24

    pub record Passed (e : Kind) (back : List Rec) (M U : Pile) : Type 0 where
      pub number : e ≡ num
      pub empty : M ≡ []
      pub rest : Trace E Z back M U

    passed : (r₀ r₁ r₂ r₃ : Rec) (back : List Rec) (M U : Pile) (f : Four r₀ r₁ r₂ r₃) → Trace E Z (r₀ ∷ r₁ ∷ r₂ ∷ r₃ ∷ back) M U → Passed f.c₁.kind back M U
    passed r₀ r₁ r₂ r₃ back M U f (Trace.go {Q = Q₀} s₀ q₀ z₀ (Trace.go {Q = Q₁} s₁ q₁ z₁ (Trace.go {Q = Q₂} s₂ q₂ z₂ (Trace.go {Q = Q₃} s₃ q₃ z₃ a)))) =
        let e₀ : given (num ∷ M) ≡ given Q₀ = sym (step_number r₀ f.c₀ M) ∙ s₀ in
        let p₀ : Q₀ ≡ num ∷ M = cc in
        let e₁ : given (f.c₁.kind ∷ Q₀) ≡ given Q₁ = sym (f.c₁.steps Q₀) ∙ s₁ in
        let p₁ : Q₁ ≡ f.c₁.kind ∷ num ∷ M = cc in
        let t₂ : step E r₂ (f.c₁.kind ∷ num ∷ M) ≡ given Q₂ = rw p₁ at s₂ in
        let w = for_two r₂ f.c₁.kind M Q₂ f.c₂ f.b₂ t₂ in
        let e₃ : given Q₂ ≡ given Q₃ = sym (step_next r₃ f.c₃ Q₂) ∙ s₃ in
        let p₃ : Q₃ ≡ M = cc w.1 in
        let n : Q₂ ≡ [] = q₂.empty_behind (rw f.c₂ refl) in
        record { number = w.0; empty = cc w.1; rest = subst (λ (z : Pile). Trace E Z back z U) p₃ a }

    -- the piles inside, before and after
    four_old : (r₀ r₁ r₂ r₃ : Rec) (back : List Rec) (M : Pile) (f : Four r₀ r₁ r₂ r₃) → f.c₁.kind ≡ num → (m : ℕ)
        → pile_in E (r₀ ∷ r₁ ∷ r₂ ∷ r₃ ∷ back) M (suc (suc (suc (suc m)))) ≡ pile_in E back M m
    unfolding pile_in
    four_old r₀ r₁ r₂ r₃ back M f k m =
        let e₁ : step E r₁ (num ∷ M) ≡ given (num ∷ num ∷ M) = f.c₁.steps (num ∷ M) ∙ rw k refl in
        rw (step_number r₀ f.c₀ M, e₁, two_numbers r₂ M f.c₂ f.b₂, step_next r₃ f.c₃ M) refl
      where
        two_numbers : (r : Rec) (P : Pile) → r.call ≡ 23 → r.b ≡ 0 → step E r (num ∷ num ∷ P) ≡ given P
        two_numbers r P e b = unfold step effect_of taken in rw (e, b) refl

    four_new : (r₀ r₁ r₂ r₃ : Rec) (back : List Rec) (M : Pile) (f : Four r₀ r₁ r₂ r₃) → f.c₁.kind ≡ num → (m : ℕ)
        → (pile_in E (no_op r₀ ∷ whole_end r₁ ∷ sleep r₂ ∷ no_op r₃ ∷ back) M (suc (suc (suc (suc m)))) ≡ pile_in E back M m)
        × (pile_in E (no_op r₀ ∷ whole_end r₁ ∷ sleep r₂ ∷ no_op r₃ ∷ back) M 3 ≡ given M)
    unfolding pile_in
    four_new r₀ r₁ r₂ r₃ back M f k m =
        let e₁ : step E (whole_end r₁) M ≡ given (num ∷ M) = f.c₁.whole M ∙ rw k refl in
        (rw (step_none r₀ M, e₁, step_sleep r₂ M, step_none r₃ M) refl, rw (step_none r₀ M, e₁, step_sleep r₂ M) refl)

    four_trace : (r₀ r₁ r₂ r₃ : Rec) (back : List Rec) (M U : Pile) (f : Four r₀ r₁ r₂ r₃) → Passed f.c₁.kind back M U → Trace E Z (no_op r₀ ∷ whole_end r₁ ∷ sleep r₂ ∷ no_op r₃ ∷ back) M U
    four_trace r₀ r₁ r₂ r₃ back M U f p =
        let e₁ : step E (whole_end r₁) M ≡ given (num ∷ M) = f.c₁.whole M ∙ rw p.number refl in
        Trace.go (step_none r₀ M) (bare_empty (no_op r₀) M _ 1 refl (inl refl)) (bare_full (no_op r₀) 1 refl (inl refl))
        (Trace.go e₁ (end_empty f.c₁.call) (end_full f.c₁.call)
        (Trace.go (step_sleep r₂ M) (record { empty_behind = λ q. p.empty; on = λ q. absurd (omega arith) }) (sleep_full r₂)
        (Trace.go (step_none r₃ M) (bare_empty (no_op r₃) M back 1 refl (inl refl)) (bare_full (no_op r₃) 1 refl (inl refl)) p.rest)))
      where
        end_empty : ((whole_end r₁).call ≡ 3) ⊎ ((whole_end r₁).call ≡ 5) → EmptyBehind (whole_end r₁) (num ∷ M) (sleep r₂ ∷ no_op r₃ ∷ back)
        end_empty (inl e) = bare_empty (whole_end r₁) (num ∷ M) (sleep r₂ ∷ no_op r₃ ∷ back) 3 e (inr (inl refl))
        end_empty (inr e) = bare_empty (whole_end r₁) (num ∷ M) (sleep r₂ ∷ no_op r₃ ∷ back) 5 e (inr (inr refl))

        end_full : ((whole_end r₁).call ≡ 3) ⊎ ((whole_end r₁).call ≡ 5) → Full X Y (whole_end r₁)
        end_full (inl e) = bare_full (whole_end r₁) 3 e (inr (inl refl))
        end_full (inr e) = bare_full (whole_end r₁) 5 e (inr (inr refl))

    not_end : {W : Type 0} (r : Rec) → (r.call ≡ 3) ⊎ (r.call ≡ 5) → 5 < r.call → W
    not_end r (inl e) q = absurd (omega (arith, e, q))
    not_end r (inr e) q = absurd (omega (arith, e, q))

    -- a window has no function
    no_ahead : {at : ℕ} (r : Rec) → r.call < 5 → r.call ≡ 26 → at < r.c
    no_ahead r h e = absurd (omega (arith, h, e))

    end_ahead : {at : ℕ} (r : Rec) → Ends r → (whole_end r).call ≡ 26 → at < (whole_end r).c
    end_ahead r f e = not_end (whole_end r) f.call (omega (arith, e))

    pile_one : (r : Rec) (k : Kind) (rs : List Rec) (M : Pile) → step E r M ≡ given (k ∷ M) → pile_in E (r ∷ rs) M 1 ≡ given [] → {W : Type 0} → W
    unfolding pile_in
    pile_one r k [] M e h = let z : given (k ∷ M) ≡ given [] = rw e at h in let y : ◌≡◌ {A = ℕ} 0 1 = cc in absurd (omega arith)
    pile_one r k (x ∷ rs) M e h = let z : given (k ∷ M) ≡ given [] = rw e at h in let y : ◌≡◌ {A = ℕ} 0 1 = cc in absurd (omega arith)

    pile_back : (r : Rec) (rs : List Rec) (M Q : Pile) (m : ℕ) → step E r M ≡ given Q → pile_in E (r ∷ rs) M (suc m) ≡ pile_in E rs Q m
    unfolding pile_in
    pile_back r rs M Q m e = rw e refl

    pub swap_four : (r₀ r₁ r₂ r₃ : Rec) (back : List Rec) → Four r₀ r₁ r₂ r₃ → Swap (r₀ ∷ r₁ ∷ r₂ ∷ r₃ ∷ back) (no_op r₀ ∷ whole_end r₁ ∷ sleep r₂ ∷ no_op r₃ ∷ back)
    swap_four r₀ r₁ r₂ r₃ back f = record {
      long = refl;
      jumps = jumps;
      trace = λ M U a. four_trace r₀ r₁ r₂ r₃ back M U f (passed r₀ r₁ r₂ r₃ back M U f a);
      empties = λ M U a. empties M U (passed r₀ r₁ r₂ r₃ back M U f a);
      bodies = λ M U a. bodies M U (passed r₀ r₁ r₂ r₃ back M U f a);
      ahead = λ at a. (no_ahead (no_op r₀) (omega arith), (end_ahead r₁ f.c₁, (no_ahead (sleep r₂) (omega arith), (no_ahead (no_op r₃) (omega arith), a.1.1.1.1))));
    }
      where
        old : List Rec
        old = r₀ ∷ r₁ ∷ r₂ ∷ r₃ ∷ back

        new : List Rec
        new = no_op r₀ ∷ whole_end r₁ ∷ sleep r₂ ∷ no_op r₃ ∷ back

        jumps : (n : ℕ) → Jumps n old → Jumps n new
        jumps zero j = tt
        jumps (suc n) j = no_jump r₀ 3 f.c₀ refl j.0

        empties : (M U : Pile) → Passed f.c₁.kind back M U → (m : ℕ) → pile_in E old M m ≡ given [] → pile_in E new M m ≡ given []
        empties M U p zero h = unfold pile_in in h
        empties M U p (suc zero) h = pile_one r₀ num (r₁ ∷ r₂ ∷ r₃ ∷ back) M (step_number r₀ f.c₀ M) h
        empties M U p (suc (suc zero)) h =
            pile_one r₁ f.c₁.kind (r₂ ∷ r₃ ∷ back) (num ∷ M) (f.c₁.steps (num ∷ M)) (sym (pile_back r₀ (r₁ ∷ r₂ ∷ r₃ ∷ back) M (num ∷ M) 1 (step_number r₀ f.c₀ M)) ∙ h)
        empties M U p (suc (suc (suc zero))) h = (four_new r₀ r₁ r₂ r₃ back M f p.number 0).1 ∙ ap given p.empty
        empties M U p (suc (suc (suc (suc m)))) h = (four_new r₀ r₁ r₂ r₃ back M f p.number m).0 ∙ sym (four_old r₀ r₁ r₂ r₃ back M f p.number m) ∙ h

        bodies : (M U : Pile) → Passed f.c₁.kind back M U → (m : ℕ) → (get_or old m no_rec).call ≡ 27 → pile_in E old M m ≡ given (num ∷ []) → ((get_or new m no_rec).call ≡ 27) × (pile_in E new M m ≡ given (num ∷ []))
        bodies M U p zero c h = absurd (omega (arith, f.c₀, c))
        bodies M U p (suc zero) c h = not_end r₁ f.c₁.old (omega (arith, c))
        bodies M U p (suc (suc zero)) c h = absurd (omega (arith, f.c₂, c))
        bodies M U p (suc (suc (suc zero))) c h = absurd (omega (arith, f.c₃, c))
        bodies M U p (suc (suc (suc (suc m)))) c h = (c, (four_new r₀ r₁ r₂ r₃ back M f p.number m).0 ∙ sym (four_old r₀ r₁ r₂ r₃ back M f p.number m) ∙ h)

    -- the same with a step
    pub record Five (r₀ r₁ r₂ r₃ r₄ : Rec) : Type 0 where
      pub c₀ : r₀.call ≡ 3
      pub c₁ : Ends r₁
      pub c₂ : r₂.call ≡ 3
      pub c₃ : r₃.call ≡ 23
      pub b₃ : r₃.b ≡ 1
      pub c₄ : r₄.call ≡ 24

    passed_five : (r₀ r₁ r₂ r₃ r₄ : Rec) (back : List Rec) (M U : Pile) (f : Five r₀ r₁ r₂ r₃ r₄) → Trace E Z (r₀ ∷ r₁ ∷ r₂ ∷ r₃ ∷ r₄ ∷ back) M U → Passed f.c₁.kind back M U
    passed_five r₀ r₁ r₂ r₃ r₄ back M U f (Trace.go {Q = Q₀} s₀ q₀ z₀ (Trace.go {Q = Q₁} s₁ q₁ z₁ (Trace.go {Q = Q₂} s₂ q₂ z₂ (Trace.go {Q = Q₃} s₃ q₃ z₃ (Trace.go {Q = Q₄} s₄ q₄ z₄ a))))) =
        let e₀ : given (num ∷ M) ≡ given Q₀ = sym (step_number r₀ f.c₀ M) ∙ s₀ in
        let e₁ : given (f.c₁.kind ∷ Q₀) ≡ given Q₁ = sym (f.c₁.steps Q₀) ∙ s₁ in
        let e₂ : given (num ∷ Q₁) ≡ given Q₂ = sym (step_number r₂ f.c₂ Q₁) ∙ s₂ in
        let p₂ : Q₂ ≡ num ∷ f.c₁.kind ∷ num ∷ M = cc in
        let t₃ : step E r₃ (num ∷ f.c₁.kind ∷ num ∷ M) ≡ given Q₃ = rw p₂ at s₃ in
        let w = for_three r₃ f.c₁.kind M Q₃ f.c₃ f.b₃ t₃ in
        let e₄ : given Q₃ ≡ given Q₄ = sym (step_next r₄ f.c₄ Q₃) ∙ s₄ in
        let p₄ : Q₄ ≡ M = cc w.1 in
        let n : Q₃ ≡ [] = q₃.empty_behind (rw f.c₃ refl) in
        record { number = w.0; empty = cc w.1; rest = subst (λ (z : Pile). Trace E Z back z U) p₄ a }

    five_old : (r₀ r₁ r₂ r₃ r₄ : Rec) (back : List Rec) (M : Pile) (f : Five r₀ r₁ r₂ r₃ r₄) → f.c₁.kind ≡ num → (m : ℕ)
        → pile_in E (r₀ ∷ r₁ ∷ r₂ ∷ r₃ ∷ r₄ ∷ back) M (suc (suc (suc (suc (suc m))))) ≡ pile_in E back M m
    unfolding pile_in
    five_old r₀ r₁ r₂ r₃ r₄ back M f k m =
        let e₁ : step E r₁ (num ∷ M) ≡ given (num ∷ num ∷ M) = f.c₁.steps (num ∷ M) ∙ rw k refl in
        rw (step_number r₀ f.c₀ M, e₁, step_number r₂ f.c₂ (num ∷ num ∷ M), three_numbers r₃ M f.c₃ f.b₃, step_next r₄ f.c₄ M) refl
      where
        three_numbers : (r : Rec) (P : Pile) → r.call ≡ 23 → r.b ≡ 1 → step E r (num ∷ num ∷ num ∷ P) ≡ given P
        three_numbers r P e b = unfold step effect_of taken in rw (e, b) refl

    five_new : (r₀ r₁ r₂ r₃ r₄ : Rec) (back : List Rec) (M : Pile) (f : Five r₀ r₁ r₂ r₃ r₄) → f.c₁.kind ≡ num → (m : ℕ)
        → (pile_in E (no_op r₀ ∷ whole_end r₁ ∷ no_op r₂ ∷ sleep r₃ ∷ no_op r₄ ∷ back) M (suc (suc (suc (suc (suc m))))) ≡ pile_in E back M m)
        × (pile_in E (no_op r₀ ∷ whole_end r₁ ∷ no_op r₂ ∷ sleep r₃ ∷ no_op r₄ ∷ back) M 4 ≡ given M)
    unfolding pile_in
    five_new r₀ r₁ r₂ r₃ r₄ back M f k m =
        let e₁ : step E (whole_end r₁) M ≡ given (num ∷ M) = f.c₁.whole M ∙ rw k refl in
        (rw (step_none r₀ M, e₁, step_none r₂ (num ∷ M), step_sleep r₃ M, step_none r₄ M) refl, rw (step_none r₀ M, e₁, step_none r₂ (num ∷ M), step_sleep r₃ M) refl)

    five_trace : (r₀ r₁ r₂ r₃ r₄ : Rec) (back : List Rec) (M U : Pile) (f : Five r₀ r₁ r₂ r₃ r₄) → Passed f.c₁.kind back M U → Trace E Z (no_op r₀ ∷ whole_end r₁ ∷ no_op r₂ ∷ sleep r₃ ∷ no_op r₄ ∷ back) M U
    five_trace r₀ r₁ r₂ r₃ r₄ back M U f p =
        let e₁ : step E (whole_end r₁) M ≡ given (num ∷ M) = f.c₁.whole M ∙ rw p.number refl in
        Trace.go (step_none r₀ M) (bare_empty (no_op r₀) M _ 1 refl (inl refl)) (bare_full (no_op r₀) 1 refl (inl refl))
        (Trace.go e₁ (end_empty f.c₁.call) (end_full f.c₁.call)
        (Trace.go (step_none r₂ (num ∷ M)) (bare_empty (no_op r₂) (num ∷ M) _ 1 refl (inl refl)) (bare_full (no_op r₂) 1 refl (inl refl))
        (Trace.go (step_sleep r₃ M) (record { empty_behind = λ q. p.empty; on = λ q. absurd (omega arith) }) (sleep_full r₃)
        (Trace.go (step_none r₄ M) (bare_empty (no_op r₄) M back 1 refl (inl refl)) (bare_full (no_op r₄) 1 refl (inl refl)) p.rest))))
      where
        end_empty : ((whole_end r₁).call ≡ 3) ⊎ ((whole_end r₁).call ≡ 5) → EmptyBehind (whole_end r₁) (num ∷ M) (no_op r₂ ∷ sleep r₃ ∷ no_op r₄ ∷ back)
        end_empty (inl e) = bare_empty (whole_end r₁) (num ∷ M) (no_op r₂ ∷ sleep r₃ ∷ no_op r₄ ∷ back) 3 e (inr (inl refl))
        end_empty (inr e) = bare_empty (whole_end r₁) (num ∷ M) (no_op r₂ ∷ sleep r₃ ∷ no_op r₄ ∷ back) 5 e (inr (inr refl))

        end_full : ((whole_end r₁).call ≡ 3) ⊎ ((whole_end r₁).call ≡ 5) → Full X Y (whole_end r₁)
        end_full (inl e) = bare_full (whole_end r₁) 3 e (inr (inl refl))
        end_full (inr e) = bare_full (whole_end r₁) 5 e (inr (inr refl))

    pub swap_five : (r₀ r₁ r₂ r₃ r₄ : Rec) (back : List Rec) → Five r₀ r₁ r₂ r₃ r₄ → Swap (r₀ ∷ r₁ ∷ r₂ ∷ r₃ ∷ r₄ ∷ back) (no_op r₀ ∷ whole_end r₁ ∷ no_op r₂ ∷ sleep r₃ ∷ no_op r₄ ∷ back)
    swap_five r₀ r₁ r₂ r₃ r₄ back f = record {
      long = refl;
      jumps = jumps;
      trace = λ M U a. five_trace r₀ r₁ r₂ r₃ r₄ back M U f (passed_five r₀ r₁ r₂ r₃ r₄ back M U f a);
      empties = λ M U a. empties M U (passed_five r₀ r₁ r₂ r₃ r₄ back M U f a);
      bodies = λ M U a. bodies M U (passed_five r₀ r₁ r₂ r₃ r₄ back M U f a);
      ahead = λ at a. (no_ahead (no_op r₀) (omega arith), (end_ahead r₁ f.c₁, (no_ahead (no_op r₂) (omega arith), (no_ahead (sleep r₃) (omega arith), (no_ahead (no_op r₄) (omega arith), a.1.1.1.1.1)))));
    }
      where
        old : List Rec
        old = r₀ ∷ r₁ ∷ r₂ ∷ r₃ ∷ r₄ ∷ back

        new : List Rec
        new = no_op r₀ ∷ whole_end r₁ ∷ no_op r₂ ∷ sleep r₃ ∷ no_op r₄ ∷ back

        jumps : (n : ℕ) → Jumps n old → Jumps n new
        jumps zero j = tt
        jumps (suc n) j = no_jump r₀ 3 f.c₀ refl j.0

        first : (M : Pile) (m : ℕ) → pile_in E old M (suc m) ≡ pile_in E (r₁ ∷ r₂ ∷ r₃ ∷ r₄ ∷ back) (num ∷ M) m
        first M m = pile_back r₀ (r₁ ∷ r₂ ∷ r₃ ∷ r₄ ∷ back) M (num ∷ M) m (step_number r₀ f.c₀ M)

        second : (M : Pile) (m : ℕ) → pile_in E old M (suc (suc m)) ≡ pile_in E (r₂ ∷ r₃ ∷ r₄ ∷ back) (f.c₁.kind ∷ num ∷ M) m
        second M m = first M (suc m) ∙ pile_back r₁ (r₂ ∷ r₃ ∷ r₄ ∷ back) (num ∷ M) (f.c₁.kind ∷ num ∷ M) m (f.c₁.steps (num ∷ M))

        empties : (M U : Pile) → Passed f.c₁.kind back M U → (m : ℕ) → pile_in E old M m ≡ given [] → pile_in E new M m ≡ given []
        empties M U p zero h = unfold pile_in in h
        empties M U p (suc zero) h = pile_one r₀ num (r₁ ∷ r₂ ∷ r₃ ∷ r₄ ∷ back) M (step_number r₀ f.c₀ M) h
        empties M U p (suc (suc zero)) h = pile_one r₁ f.c₁.kind (r₂ ∷ r₃ ∷ r₄ ∷ back) (num ∷ M) (f.c₁.steps (num ∷ M)) (sym (first M 1) ∙ h)
        empties M U p (suc (suc (suc zero))) h =
            pile_one r₂ num (r₃ ∷ r₄ ∷ back) (f.c₁.kind ∷ num ∷ M) (step_number r₂ f.c₂ (f.c₁.kind ∷ num ∷ M)) (sym (second M 1) ∙ h)
        empties M U p (suc (suc (suc (suc zero)))) h = (five_new r₀ r₁ r₂ r₃ r₄ back M f p.number 0).1 ∙ ap given p.empty
        empties M U p (suc (suc (suc (suc (suc m))))) h = (five_new r₀ r₁ r₂ r₃ r₄ back M f p.number m).0 ∙ sym (five_old r₀ r₁ r₂ r₃ r₄ back M f p.number m) ∙ h

        bodies : (M U : Pile) → Passed f.c₁.kind back M U → (m : ℕ) → (get_or old m no_rec).call ≡ 27 → pile_in E old M m ≡ given (num ∷ []) → ((get_or new m no_rec).call ≡ 27) × (pile_in E new M m ≡ given (num ∷ []))
        bodies M U p zero c h = absurd (omega (arith, f.c₀, c))
        bodies M U p (suc zero) c h = not_end r₁ f.c₁.old (omega (arith, c))
        bodies M U p (suc (suc zero)) c h = absurd (omega (arith, f.c₂, c))
        bodies M U p (suc (suc (suc zero))) c h = absurd (omega (arith, f.c₃, c))
        bodies M U p (suc (suc (suc (suc zero)))) c h = absurd (omega (arith, f.c₄, c))
        bodies M U p (suc (suc (suc (suc (suc m))))) c h = (c, (five_new r₀ r₁ r₂ r₃ r₄ back M f p.number m).0 ∙ sym (five_old r₀ r₁ r₂ r₃ r₄ back M f p.number m) ∙ h)

    -- the tests name the records
    four_of : (rs : List Rec) → is_delay rs 0 ≡ true → Four (rec_at rs 0) (rec_at rs 1) (rec_at rs 2) (rec_at rs 3)
    four_of rs e =
        let r₀ = rec_at rs 0 in
        let r₁ = rec_at rs 1 in
        let r₂ = rec_at rs 2 in
        let r₃ = rec_at rs 3 in
        let e₁ = both_right (is_start r₀) (both (is_end r₁) (both (is_for 0 r₂) (is_next_of r₂ r₃))) e in
        let e₂ = both_right (is_end r₁) (both (is_for 0 r₂) (is_next_of r₂ r₃)) e₁ in
        let f = for_call 0 r₂ (both_left (is_for 0 r₂) (is_next_of r₂ r₃) e₂) in
        record {
          c₀ = start_call r₀ (both_left (is_start r₀) (both (is_end r₁) (both (is_for 0 r₂) (is_next_of r₂ r₃))) e);
          c₁ = ends r₁ (end_call r₁ (both_left (is_end r₁) (both (is_for 0 r₂) (is_next_of r₂ r₃)) e₁));
          c₂ = f.0;
          b₂ = f.1;
          c₃ = next_call r₂ r₃ (both_right (is_for 0 r₂) (is_next_of r₂ r₃) e₂);
        }

    five_of : (rs : List Rec) → is_stepped_delay rs 0 ≡ true → Five (rec_at rs 0) (rec_at rs 1) (rec_at rs 2) (rec_at rs 3) (rec_at rs 4)
    five_of rs e =
        let r₀ = rec_at rs 0 in
        let r₁ = rec_at rs 1 in
        let r₂ = rec_at rs 2 in
        let r₃ = rec_at rs 3 in
        let r₄ = rec_at rs 4 in
        let e₁ = both_right (is_start r₀) (both (is_end r₁) (both (is_one r₂) (both (is_for 1 r₃) (is_next_of r₃ r₄)))) e in
        let e₂ = both_right (is_end r₁) (both (is_one r₂) (both (is_for 1 r₃) (is_next_of r₃ r₄))) e₁ in
        let e₃ = both_right (is_one r₂) (both (is_for 1 r₃) (is_next_of r₃ r₄)) e₂ in
        let f = for_call 1 r₃ (both_left (is_for 1 r₃) (is_next_of r₃ r₄) e₃) in
        record {
          c₀ = start_call r₀ (both_left (is_start r₀) (both (is_end r₁) (both (is_one r₂) (both (is_for 1 r₃) (is_next_of r₃ r₄)))) e);
          c₁ = ends r₁ (end_call r₁ (both_left (is_end r₁) (both (is_one r₂) (both (is_for 1 r₃) (is_next_of r₃ r₄))) e₁));
          c₂ = one_call r₂ (both_left (is_one r₂) (both (is_for 1 r₃) (is_next_of r₃ r₄)) e₂);
          c₃ = f.0;
          b₃ = f.1;
          c₄ = next_call r₃ r₄ (both_right (is_for 1 r₃) (is_next_of r₃ r₄) e₃);
        }

    delay_at_lem : (rs : List Rec) → is_delay rs 0 ≡ true → Swap rs (delayed rs 0)
    unfolding change
    delay_at_lem [] e = no_one e
    delay_at_lem (r₀ ∷ []) e = absurd (omega (arith, (four_of (r₀ ∷ []) e).c₃))
    delay_at_lem (r₀ ∷ r₁ ∷ []) e = absurd (omega (arith, (four_of (r₀ ∷ r₁ ∷ []) e).c₃))
    delay_at_lem (r₀ ∷ r₁ ∷ r₂ ∷ []) e = absurd (omega (arith, (four_of (r₀ ∷ r₁ ∷ r₂ ∷ []) e).c₃))
    delay_at_lem (r₀ ∷ r₁ ∷ r₂ ∷ r₃ ∷ back) e = swap_four r₀ r₁ r₂ r₃ back (four_of (r₀ ∷ r₁ ∷ r₂ ∷ r₃ ∷ back) e)

    stepped_at_lem : (rs : List Rec) → is_stepped_delay rs 0 ≡ true → Swap rs (stepped_delayed rs 0)
    unfolding change
    stepped_at_lem [] e = no_one e
    stepped_at_lem (r₀ ∷ []) e = absurd (omega (arith, (five_of (r₀ ∷ []) e).c₄))
    stepped_at_lem (r₀ ∷ r₁ ∷ []) e = absurd (omega (arith, (five_of (r₀ ∷ r₁ ∷ []) e).c₄))
    stepped_at_lem (r₀ ∷ r₁ ∷ r₂ ∷ []) e = absurd (omega (arith, (five_of (r₀ ∷ r₁ ∷ r₂ ∷ []) e).c₄))
    stepped_at_lem (r₀ ∷ r₁ ∷ r₂ ∷ r₃ ∷ []) e = absurd (omega (arith, (five_of (r₀ ∷ r₁ ∷ r₂ ∷ r₃ ∷ []) e).c₄))
    stepped_at_lem (r₀ ∷ r₁ ∷ r₂ ∷ r₃ ∷ r₄ ∷ back) e = swap_five r₀ r₁ r₂ r₃ r₄ back (five_of (r₀ ∷ r₁ ∷ r₂ ∷ r₃ ∷ r₄ ∷ back) e)

    swap_first : (rs : List Rec) → Swap rs (delay_from rs 0)
    unfolding delay_from
    swap_first rs = go (is_delay rs 0) refl (is_stepped_delay rs 0) refl
      where
        go : (a : Bool) → is_delay rs 0 ≡ a → (b : Bool) → is_stepped_delay rs 0 ≡ b → Swap rs (pick a (delayed rs 0) (pick b (stepped_delayed rs 0) rs))
        go true e b h = delay_at_lem rs e
        go false e true h = stepped_at_lem rs h
        go false e false h = swap_same rs

  -- a front part stays
  rec_back : (F rs : List Rec) (n : ℕ) → rec_at (F ++ rs) (length F + n) ≡ rec_at rs n
  rec_back F rs n = get_or-append-add F rs n no_rec

  rec_first : (F rs : List Rec) → rec_at (F ++ rs) (length F) ≡ rec_at rs 0
  rec_first F rs = ap (λ (n : ℕ). rec_at (F ++ rs) n) (omega arith) ∙ rec_back F rs 0

  change_first : (f : Rec → Rec) (F rs : List Rec) → change f (F ++ rs) (length F) ≡ F ++ change f rs 0
  change_first f F rs = let e : length F ≡ length F + 0 = omega arith in ap (λ (n : ℕ). change f (F ++ rs) n) e ∙ change_append f F rs 0

  delayed_back : (F rs : List Rec) → delayed (F ++ rs) (length F) ≡ F ++ delayed rs 0
  delayed_back F rs =
      rw (change_first no_op F rs, change_append whole_end F (change no_op rs 0) 1, change_append sleep F (change whole_end (change no_op rs 0) 1) 2) (change_append no_op F (change sleep (change whole_end (change no_op rs 0) 1) 2) 3)

  stepped_back : (F rs : List Rec) → stepped_delayed (F ++ rs) (length F) ≡ F ++ stepped_delayed rs 0
  stepped_back F rs =
      rw (
        change_first no_op F rs,
        change_append whole_end F (change no_op rs 0) 1,
        change_append no_op F (change whole_end (change no_op rs 0) 1) 2,
        change_append sleep F (change no_op (change whole_end (change no_op rs 0) 1) 2) 3,
      ) (change_append no_op F (change sleep (change no_op (change whole_end (change no_op rs 0) 1) 2) 3) 4)

  delay_back : (F rs : List Rec) → delay_from (F ++ rs) (length F) ≡ F ++ delay_from rs 0
  unfolding delay_from
  delay_back F rs =
      rw (rec_first F rs, rec_back F rs 1, rec_back F rs 2, rec_back F rs 3, rec_back F rs 4, delayed_back F rs, stepped_back F rs) (go (is_delay rs 0) (is_stepped_delay rs 0))
    where
      go : (a b : Bool) → pick a (F ++ delayed rs 0) (pick b (F ++ stepped_delayed rs 0) (F ++ rs)) ≡ F ++ pick a (delayed rs 0) (pick b (stepped_delayed rs 0) rs)
      go true b = refl
      go false true = refl
      go false false = refl

  module _ (X Y : ℕ → Type 0) where
    -- a list all of whose targets are good, where good is empty
    pub record Sound (rs : List Rec) : Type 0 where
      pub trace : Trace E (Full X Y) rs [] []
      pub empties : (T : ℕ) → X T → Empty E 0 rs T
      pub bodies : (T : ℕ) → Y T → Body E 0 rs T
      pub ahead : Ahead 0 rs

    swap_sound : (A B : List Rec) → Swap X Y A B → Sound A → Sound B
    swap_sound A B s a = record {
      trace = s.trace [] [] a.trace;
      empties = λ T x. let e = a.empties T x in record { at = e.at; place = e.place; within = omega (arith, e.within, s.long); pile = s.empties [] [] a.trace e.at e.pile };
      bodies = λ T y.
          let e = a.bodies T y in
          let u = s.bodies [] [] a.trace e.at e.closes e.pile in
          record { at = e.at; place = e.place; within = omega (arith, e.within, s.long); closes = u.0; pile = u.1 };
      ahead = s.ahead 0 a.ahead;
    }

    delay_one : (F rs : List Rec) → Sound (F ++ rs) → Sound (delay_from (F ++ rs) (length F))
    delay_one F rs a = rw (delay_back F rs) (swap_sound (F ++ rs) (F ++ delay_from rs 0) (swap_front X Y F rs (delay_from rs 0) (swap_first X Y rs)) a)

    delay_sound : (rs : List Rec) (k : ℕ) → k ≤ length rs → Sound rs → Sound (delay_from rs k)
    delay_sound rs k h a =
        let e : take k rs ++ drop k rs ≡ rs = take-append-drop k rs in
        let l : length (take k rs) ≡ k = length-take-le k rs h in
        let d : Sound (delay_from (take k rs ++ drop k rs) (length (take k rs))) = delay_one (take k rs) (drop k rs) (rw e a) in
        subst (λ (n : ℕ). Sound (delay_from rs n)) l (subst (λ (us : List Rec). Sound (delay_from us (length (take k rs)))) e d)

    pub delays_sound : (n k : ℕ) (rs : List Rec) → k + n ≤ length rs → Sound rs → Sound (delays n k rs)
    unfolding delays
    delays_sound zero k rs h a = a
    delays_sound (suc n) k rs h a = delays_sound n (k + 1) (delay_from rs k) (omega (arith, delay_length rs k)) (delay_sound rs k (omega arith) a)
