-- The third demand: on every accepted sheet with no missing part and no error note there is exactly one way to put a pile
-- before each instruction of the finished list so that everything fits.
use Rattle.std.specs.Prelude.{◌≡◌, ℕ, zero, suc, ◌+◌, ◌-◌, ◌<◌, Bool, true, false, List, [], ◌∷◌, length, ◌==◌, nat_le, nat_lt, slice_index_or}
use Rattle.recorder.specs.StmtKind.{return_stmt}
use Rattle.recorder.specs.Calls.{jz_call, gosub_call, on_call, for_call, next_call, while_call, def_call, end_call, warning_note}
use Rattle.recorder.specs.Word.{pick, both, either}
use Rattle.recorder.specs.Ideal.{Rec, Note, Entry, Ideal}
use Rattle.recorder.specs.Closing.{is_op, is_wend, is_while, rules_r, rec_at}
use Rattle.sheet.specs.Tree.{given, Stmt, program_at}
use Rattle.rules.specs.Stmt.{compile_stmt}
use Rattle.rules.specs.Each.{here, each_of}
use Rattle.rules.specs.Outcome.{Lengths, outcome, finished}
use Rattle.rules.specs.Missing.{All, Whole}
use Rattle.rules.specs.Piles.{num, Pile, step}

-- "A target (19 to 21's, 25's two, 26's end)"
abbrev pub targets : Rec → List ℕ
targets r =
    pick (both (nat_le jz_call r.call) (nat_le r.call gosub_call)) (r.a ∷ [])
    (pick (r.call == while_call) (r.a ∷ r.b ∷ [])
    (pick (r.call == def_call) (r.c ∷ []) []))

abbrev pub is_in : ℕ → List ℕ → Bool
is_in j [] = false
is_in j (x ∷ xs) = either (j == x) (is_in j xs)

-- whether something holds of an address below n
unfoldable pub some_below : (ℕ → Bool) → ℕ → Bool
some_below f zero = false
some_below f (suc n) = either (f n) (some_below f n)

-- the edges: whether the record at j is reached from the record at k
module _ (rs : List Rec) where
  abbrev pub call_at : ℕ → ℕ
  call_at k = (rec_at rs k).call

  -- "an ON's jumps and the record behind them also from the ON"
  abbrev pub from_on : ℕ → ℕ → Bool
  from_on k j = both (call_at k == on_call) (both (nat_lt k j) (nat_le j (k + (rec_at rs k).a + 1)))

  -- "the record behind a FOR from every NEXT"
  abbrev pub from_next : ℕ → ℕ → Bool
  from_next k j = both (call_at k == next_call) (both (nat_lt 0 j) (call_at (j - 1) == for_call))

  -- "behind a GOSUB or its ON's last jump from every RETURN": a GOSUB that is an ON's jump but not its last is
  -- not what stands before j
  abbrev pub inside_on : ℕ → Bool
  inside_on g = some_below (λ i. both (call_at i == on_call) (nat_lt g (i + (rec_at rs i).a))) g

  abbrev pub from_return : ℕ → ℕ → Bool
  from_return k j = both (is_op return_stmt (rec_at rs k)) (both (nat_lt 0 j) (both (call_at (j - 1) == gosub_call) (pick (inside_on (j - 1)) false true)))

  -- "a WHILE's condition from every WEND"
  abbrev pub from_wend : ℕ → ℕ → Bool
  from_wend k j = both (is_wend (rec_at rs k)) (some_below (λ w. both (is_while (rec_at rs w)) ((rec_at rs w).a == j)) (length rs))

  -- "A record is reached from the one before it and, where it is a target, from each record that names it; ..."
  unfoldable pub reached : ℕ → ℕ → Bool
  reached k j =
      either (j == k + 1)
      (either (is_in j (targets (rec_at rs k)))
      (either (from_on k j) (either (from_next k j) (either (from_return k j) (from_wend k j)))))

-- the pile before the record at an address
abbrev pub pile_at : List Pile → ℕ → Pile
pile_at ps k = slice_index_or ps k []

-- piles that fit a list, by its book
pub record Fits (es : List Entry) (rs : List Rec) (ps : List Pile) : Type 0 where
  -- one pile before each instruction
  pub size : length ps ≡ length rs
  -- "the first instruction finds it empty"
  pub first : pile_at ps 0 ≡ []
  -- "each finds on top the kinds it takes": what it leaves is some pile
  pub leaves : (k : ℕ) → k < length rs → Pile
  pub takes : (k : ℕ) (h : k < length rs) → step es (rec_at rs k) (pile_at ps k) ≡ given (leaves k h)
  -- "and what it leaves is the pile before every instruction reached from it"
  pub reaches : (k : ℕ) (h : k < length rs) (j : ℕ) → j < length rs → reached rs k j ≡ true → pile_at ps j ≡ leaves k h

-- "A statement, in an IF too, begins at the count of the rules' calls made before it and ends at the count with its own."
abbrev pub around : List ℕ → ℕ → Stmt → Ideal → List ℕ
around t base x i = here i ∷ here (compile_stmt (rules_r t) t base x i) ∷ []

-- where the statements of a sheet begin and end
abbrev pub statement_addrs : List ℕ → List ℕ → List ℕ
statement_addrs s t = each_of s t (around t)

-- "With these piles ..."
pub record Orderly (addrs : List ℕ) (rs : List Rec) (ps : List Pile) : Type 0 where
  -- "every statement begins and ends with the pile empty", at an instruction of the list
  pub statements : All (λ k. (k < length rs) × (pile_at ps k ≡ [])) addrs
  -- "a function's body makes one number out of an empty pile and nothing besides": from behind a 26 up to the 27 just
  -- before that 26's end, which stands behind the 26; all of it in the list
  pub body_begins : (k : ℕ) → k < length rs → (rec_at rs k).call ≡ def_call → (k + 1 < length rs) × (pile_at ps (k + 1) ≡ [])
  pub body_closes : (k : ℕ) → k < length rs → (rec_at rs k).call ≡ def_call
      → (k < (rec_at rs k).c - 1) × ((rec_at rs k).c - 1 < length rs) × ((rec_at rs ((rec_at rs k).c - 1)).call ≡ end_call)
  pub body_ends : (k : ℕ) → k < length rs → (rec_at rs k).call ≡ def_call → pile_at ps ((rec_at rs k).c - 1) ≡ num ∷ []
  -- "every target is an instruction of the list where the pile is empty"
  pub on_targets : (k : ℕ) → k < length rs → All (λ v. (v < length rs) × (pile_at ps v ≡ [])) (targets (rec_at rs k))

-- "exactly one way": there is one, it is orderly, and every other that fits is the same
pub record ExactlyOne (addrs : List ℕ) (es : List Entry) (rs : List Rec) : Type 0 where
  pub piles : List Pile
  pub fit : Fits es rs piles
  pub orderly : Orderly addrs rs piles
  pub only : (qs : List Pile) → Fits es rs qs → qs ≡ piles

-- "no error note": every note is a warning. That is "no note is an error", since the rules write no severity but 1 and 2 (`severities`
-- and `no_error` in crates/bounds/proofs/Finished.antt).
abbrev pub NoError : List Note → Type 0
NoError ns = All (λ (n : Note). n.severity ≡ warning_note) ns

-- "Take any sheet, text and lent memory that document 01 accepts, with no missing part and no error note."
abbrev pub Demand : Type 0
Demand =
    (s t : List ℕ) (L : Lengths) → (outcome s t L).answer.refusal ≡ 0 → Whole (program_at s) → NoError (finished s t).notes
    → ExactlyOne (statement_addrs s t) (finished s t).entries (finished s t).records
