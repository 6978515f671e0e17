-- Recorders that are alike: one with itself, and the rules' recorders over two texts.
use Rattle.std.proofs.Common.{◌≡◌, ℕ, Bool, true, false, eqb, List, [], ◌∷◌, ◌++◌, refl, arith, eqb-true}
use Rattle.recorder.specs.Word.{pick}
use Rattle.recorder.specs.Name.{same_name}
use Rattle.recorder.specs.Recorder.{Recorder}
use Rattle.recorder.specs.Ideal.{Entry, name_kind, Ideal, Search, missing, found, find_name, symbol_in, symbol_of}
use Rattle.recorder.specs.Closing.{rules_r}
use Rattle.rules.specs.Missing.{All}
use Rattle.reading.specs.Agreement.{SameUnits, NameKept, NamesKept}
use Rattle.reading.proofs.Units.{same_name_same}
use Rattle.reading.proofs.Reading.{Alike}

abbrev pub Any : {S : Type 0} → S → Type 0
Any s = Unit {0}

-- any recorder over two texts
pub one_recorder : {S : Type 0} (R : Recorder S) (t u : List ℕ) → Alike R R t u Any
one_recorder R t u = record {
  begin_line = λ i. record { is = refl; keeps = tt };
  emit = λ i. record { is = refl; keeps = tt };
  count = λ i. refl;
  note = λ i. record { is = refl; keeps = tt };
  note_lost = λ i. record { is = refl; keeps = tt };
  symbol = λ x n g h i. record { follows = record { is = refl; keeps = tt }; number = refl };
  datum = λ i. record { is = refl; keeps = tt };
  first_datum = λ i. refl;
  byte = λ i. record { is = refl; keeps = tt };
  next_byte = λ i. refl;
  patch = λ i. record { is = refl; keeps = tt };
  patch_end = λ i. record { is = refl; keeps = tt };
}

all_snoc : {A : Type 0} (P : A → Type 0) (xs : List A) (x : A) → All P xs → P x → All P (xs ++ (x ∷ []))
all_snoc P [] x h p = (p, tt)
all_snoc P (y ∷ ys) x h p = (h.0, all_snoc P ys x h.1 p)

module _ (t u : List ℕ) where
  find_name_same : (es : List Entry) (x n g : ℕ) → SameUnits t u x n → All (NameKept t u) es → find_name t es x n g ≡ find_name u es x n g
  unfolding find_name
  find_name_same [] x n g h k = refl
  find_name_same (e ∷ es) x n g h k = rw (named_same (eqb e.kind name_kind) refl, find_name_same es x n g h k.1) refl
    where
      named_same : (b : Bool) → eqb e.kind name_kind ≡ b
          → pick b (same_name t e.start e.length e.extra x n g) false ≡ pick b (same_name u e.start e.length e.extra x n g) false
      named_same true i = same_name_same t u e.start e.length e.extra x n g (k.0 (eqb-true e.kind name_kind i)) h
      named_same false i = refl

  symbol_kept : (o : Search) (i : Ideal) (x n g : ℕ) → SameUnits t u x n → NamesKept t u i → NamesKept t u (symbol_in o i x n g).state
  symbol_kept (found v) i x n g h k = k
  symbol_kept missing i x n g h k = all_snoc (NameKept t u) i.entries _ k (λ e. h)

  -- the rules' recorders
  pub two_texts : Alike (rules_r t) (rules_r u) t u (NamesKept t u)
  unfolding symbol_of
  two_texts = record {
    begin_line = λ i. record { is = refl; keeps = i };
    emit = λ i. record { is = refl; keeps = i };
    count = λ i. refl;
    note = λ i. record { is = refl; keeps = i };
    note_lost = λ i. record { is = refl; keeps = i };
    symbol = λ {s = s} x n g h i. let e = find_name_same s.entries x n g h i in record {
      follows = record { is = rw e refl; keeps = symbol_kept (find_name u s.entries x n g) s x n g h i };
      number = rw e refl;
    };
    datum = λ {s = s} i. record { is = refl; keeps = all_snoc (NameKept t u) s.entries _ i (λ e. absurd (let z : ◌≡◌ {A = ℕ} 51 50 = e in omega arith)) };
    first_datum = λ i. refl;
    byte = λ {s = s} i. record { is = refl; keeps = all_snoc (NameKept t u) s.entries _ i (λ e. absurd (let z : ◌≡◌ {A = ℕ} 52 50 = e in omega arith)) };
    next_byte = λ i. refl;
    patch = λ i. record { is = refl; keeps = i };
    patch_end = λ i. record { is = refl; keeps = i };
  }
