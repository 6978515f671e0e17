-- What compiling a part of a tree appends to the records, the notes and the book, and what is known of it if nothing is
-- missing and no error was noted.
use Rattle.std.proofs.Common.{◌≡◌, ℕ, suc, ◌+◌, ◌*◌, ◌≤◌, Bool, true, false, List, [], ◌∷◌, ◌++◌, length, sym, refl, ap, ◌∙◌, append_assoc, append-nil, arith, length-append}
use Rattle.recorder.specs.declared.word.Range.{Range}
use Rattle.recorder.specs.Word.{pick}
use Rattle.recorder.specs.Ideal.{Rec, rec, Note, lost_note, note_of, Entry, name_kind, how_many, Ideal, ideal, change}
use Rattle.recorder.proofs.Words.{change_length}
use Rattle.rules.specs.Demand.{NoError}
use Rattle.rules.proofs.PileLaws.{all_left, all_right}
use Rattle.rules.proofs.NamePiles.{Numbered, many_append, numbered_append}

pub record Prefix (xs E : List Entry) : Type 0 where
  pub rest : List Entry
  pub whole : E ≡ xs ++ rest

-- d names may have been made for which a record is still to come
pub record Code (E : List Entry) (d : ℕ) (i f : Ideal) (W : Type 0) (Ok : List Rec → Type 0) : Type 0 where
  pub code : List Rec
  pub records : f.records ≡ i.records ++ code
  pub fresh : List Note
  pub notes : f.notes ≡ i.notes ++ fresh
  pub book : List Entry
  pub entries : f.entries ≡ i.entries ++ book
  pub numbered : Numbered (how_many name_kind i.entries) book
  pub names : W → NoError fresh → how_many name_kind book ≤ 2 * length code + d
  pub ok : W → NoError fresh → Prefix f.entries E → Ok code

abbrev pub Warning : Note → Type 0
Warning n = n.severity ≡ 2

pub back_prefix : (E : List Entry) (i f : List Entry) (book : List Entry) → f ≡ i ++ book → Prefix f E → Prefix i E
back_prefix E i f book e p = record { rest = book ++ p.rest; whole = p.whole ∙ ap (λ (z : List Entry). z ++ p.rest) e ∙ append_assoc i book p.rest }

pub change_at : (f : Rec → Rec) (xs : List Rec) (r : Rec) (ys : List Rec) (n : ℕ) → n ≡ length xs → change f (xs ++ (r ∷ ys)) n ≡ xs ++ (f r ∷ ys)
unfolding change
change_at f [] r ys n e = rw e
change_at f (x ∷ xs) r ys n e = rw e (ap (λ (z : List Rec). x ∷ z) (change_at f xs r ys (length xs) refl))

pub change_append : (f : Rec → Rec) (xs ys : List Rec) (n : ℕ) → change f (xs ++ ys) (length xs + n) ≡ xs ++ change f ys n
unfolding change
change_append f [] ys n = let e : 0 + n ≡ n = omega arith in rw e
change_append f (x ∷ xs) ys n = let e : suc (length xs) + n ≡ suc (length xs + n) = omega arith in rw e (ap (λ (z : List Rec). x ∷ z) (change_append f xs ys n))

module _ (E : List Entry) where
  pub seq : {d₁ d₂ : ℕ} {i f g : Ideal} {W₁ W₂ W : Type 0} {A B C : List Rec → Type 0} → Code E d₁ i f W₁ A → Code E d₂ f g W₂ B → (W → W₁) → (W → W₂)
      → ((xs ys : List Rec) → A xs → B ys → C (xs ++ ys)) → Code E (d₁ + d₂) i g W C
  seq {i = i} {f = f} {g = g} a b v w h = record {
    code = a.code ++ b.code;
    records = b.records ∙ rw a.records (append_assoc i.records a.code b.code);
    fresh = a.fresh ++ b.fresh;
    notes = b.notes ∙ rw a.notes (append_assoc i.notes a.fresh b.fresh);
    book = a.book ++ b.book;
    entries = b.entries ∙ rw a.entries (append_assoc i.entries a.book b.book);
    numbered = numbered_append (how_many name_kind i.entries) a.book b.book a.numbered
        (rw (many_append i.entries a.book) at (rw a.entries at b.numbered));
    names = λ u e. omega (
      arith,
      a.names (v u) (all_left Warning a.fresh b.fresh e),
      b.names (w u) (all_right Warning a.fresh b.fresh e),
      many_append a.book b.book,
      length-append a.code b.code,
    );
    ok = λ u e p. h a.code b.code (a.ok (v u) (all_left Warning a.fresh b.fresh e) (back_prefix E f.entries g.entries b.book b.entries p))
        (b.ok (w u) (all_right Warning a.fresh b.fresh e) p);
  }

  -- one more record, which pays for two names
  pub put : {d : ℕ} {i f : Ideal} {W : Type 0} {A C : List Rec → Type 0} → Code E d i f W A → d ≤ 2 → (r : Rec) → ((xs : List Rec) → A xs → C (xs ++ (r ∷ [])))
      → Code E 0 i (ideal (f.records ++ (r ∷ [])) f.notes f.entries f.line f.first_datum) W C
  put {i = i} {f = f} a l r h = record {
    code = a.code ++ (r ∷ []);
    records = rw a.records (append_assoc i.records a.code (r ∷ []));
    fresh = a.fresh;
    notes = a.notes;
    book = a.book;
    entries = a.entries;
    numbered = a.numbered;
    names = λ u e. omega (arith, a.names u e, length-append a.code (r ∷ []));
    ok = λ u e p. h a.code (a.ok u e p);
  }

  pub stay : (i : Ideal) (W : Type 0) (Ok : List Rec → Type 0) → (W → Ok []) → Code E 0 i i W Ok
  unfolding how_many
  stay i W Ok h = record {
    code = [];
    records = sym (append-nil i.records);
    fresh = [];
    notes = sym (append-nil i.notes);
    book = [];
    entries = sym (append-nil i.entries);
    numbered = tt;
    names = λ w e. omega arith;
    ok = λ w e p. h w;
  }

  -- one record more: of one call or of another, with the same range and arguments
  abbrev one_more : Ideal → ℕ → Range → ℕ → ℕ → ℕ → Ideal
  one_more j k r a b c = ideal (j.records ++ (rec k j.line r a b c ∷ [])) j.notes j.entries j.line j.first_datum

  pub one_of_two : {d : ℕ} {i : Ideal} {W : Type 0} {A : List Rec → Type 0} (x : Bool) (r : Range) (j : Ideal) (k l a b c : ℕ)
      → Code E d i (one_more j (pick x k l) r a b c) W A → Code E d i (pick x (one_more j k r a b c) (one_more j l r a b c)) W A
  one_of_two true r j k l a b c g = g
  one_of_two false r j k l a b c g = g

  pub emits : (i : Ideal) (r : Rec) (W : Type 0) (Ok : List Rec → Type 0) → (W → Ok (r ∷ []))
      → Code E 0 i (ideal (i.records ++ (r ∷ [])) i.notes i.entries i.line i.first_datum) W Ok
  unfolding how_many
  emits i r W Ok h = record {
    code = r ∷ [];
    records = refl;
    fresh = [];
    notes = sym (append-nil i.notes);
    book = [];
    entries = sym (append-nil i.entries);
    numbered = tt;
    names = λ w e. omega arith;
    ok = λ w e p. h w;
  }

  -- a note: an error claims nothing, a warning changes nothing
  pub fails : (i : Ideal) (k l : ℕ) (r : Range) (d : ℕ) (W : Type 0) (Ok : List Rec → Type 0)
      → Code E d i (ideal i.records (i.notes ++ (note_of k l r 1 ∷ [])) i.entries i.line i.first_datum) W Ok
  unfolding how_many
  fails i k l r d W Ok = record {
    code = [];
    records = sym (append-nil i.records);
    fresh = note_of k l r 1 ∷ [];
    notes = refl;
    book = [];
    entries = sym (append-nil i.entries);
    numbered = tt;
    names = λ w e. omega arith;
    ok = λ w e p. absurd (omega (arith, e.0));
  }

  pub warns : (i : Ideal) (k l : ℕ) (r : Range) (n : ℕ) (W : Type 0) (Ok : List Rec → Type 0) → (W → Ok [])
      → Code E 0 i (ideal i.records (i.notes ++ (lost_note k l r 2 n ∷ [])) i.entries i.line i.first_datum) W Ok
  unfolding how_many
  warns i k l r n W Ok h = record {
    code = [];
    records = sym (append-nil i.records);
    fresh = lost_note k l r 2 n ∷ [];
    notes = refl;
    book = [];
    entries = sym (append-nil i.entries);
    numbered = tt;
    names = λ w e. omega arith;
    ok = λ w e p. h w;
  }

  -- what is not whole claims nothing
  pub claims_nothing : {d : ℕ} {i f : Ideal} {W : Type 0} {A : List Rec → Type 0} (d' : ℕ) (U : Type 0) (C : List Rec → Type 0) → (U → ⊥) → Code E d i f W A → Code E d' i f U C
  claims_nothing d' U C n a = record {
    code = a.code;
    records = a.records;
    fresh = a.fresh;
    notes = a.notes;
    book = a.book;
    entries = a.entries;
    numbered = a.numbered;
    names = λ w e. absurd (n w);
    ok = λ w e p. absurd (n w);
  }

  -- the same with more said of it
  pub with_ok : {d : ℕ} {i f : Ideal} {W U : Type 0} {A C : List Rec → Type 0} (d' : ℕ) → d ≤ d' → Code E d i f W A → (U → W) → (U → (xs : List Rec) → A xs → C xs) → Code E d' i f U C
  with_ok d' l a v h = record {
    code = a.code;
    records = a.records;
    fresh = a.fresh;
    notes = a.notes;
    book = a.book;
    entries = a.entries;
    numbered = a.numbered;
    names = λ w e. omega (arith, a.names (v w) e);
    ok = λ w e p. h w a.code (a.ok (v w) e p);
  }

  -- behind an error nothing is claimed
  pub behind_error : {d : ℕ} {i j : Ideal} {W : Type 0} {A : List Rec → Type 0} (k l : ℕ) (r : Range) (d' : ℕ) (U : Type 0) (C : List Rec → Type 0) → Code E d i j W A
      → Code E d' i (ideal j.records (j.notes ++ (note_of k l r 1 ∷ [])) j.entries j.line j.first_datum) U C
  behind_error {i = i} {j = j} k l r d' U C a = record {
    code = a.code;
    records = a.records;
    fresh = a.fresh ++ (note_of k l r 1 ∷ []);
    notes = rw a.notes (append_assoc i.notes a.fresh (note_of k l r 1 ∷ []));
    book = a.book;
    entries = a.entries;
    numbered = a.numbered;
    names = λ w e. absurd (omega (arith, (all_right Warning a.fresh (note_of k l r 1 ∷ []) e).0));
    ok = λ w e p. absurd (omega (arith, (all_right Warning a.fresh (note_of k l r 1 ∷ []) e).0));
  }

  -- the same, and which records were appended
  pub longer : {d : ℕ} {i f : Ideal} {W : Type 0} {A : List Rec → Type 0} → Code E d i f W A → Code E d i f W (λ xs. A xs × (f.records ≡ i.records ++ xs))
  longer a = record {
    code = a.code;
    records = a.records;
    fresh = a.fresh;
    notes = a.notes;
    book = a.book;
    entries = a.entries;
    numbered = a.numbered;
    names = a.names;
    ok = λ w e p. (a.ok w e p, a.records);
  }

  -- one of the appended records is changed
  pub patched : {d : ℕ} {i f : Ideal} {W : Type 0} {A C : List Rec → Type 0} → Code E d i f W A → (g : Rec → Rec) (k m : ℕ) → k ≡ length i.records + m
      → ((xs : List Rec) → A xs → f.records ≡ i.records ++ xs → C (change g xs m))
      → Code E d i (ideal (change g f.records k) f.notes f.entries f.line f.first_datum) W C
  patched {i = i} a g k m e h = record {
    code = change g a.code m;
    records = rw (a.records, e) (change_append g i.records a.code m);
    fresh = a.fresh;
    notes = a.notes;
    book = a.book;
    entries = a.entries;
    numbered = a.numbered;
    names = λ w n. rw (change_length g a.code m) (a.names w n);
    ok = λ w n p. h a.code (a.ok w n p) a.records;
  }

  -- records, notes and book stay; the line may change
  pub same : (i f : Ideal) (W : Type 0) (Ok : List Rec → Type 0) → f.records ≡ i.records → f.notes ≡ i.notes → f.entries ≡ i.entries → (W → Ok []) → Code E 0 i f W Ok
  unfolding how_many
  same i f W Ok a b c h = record {
    code = [];
    records = a ∙ sym (append-nil i.records);
    fresh = [];
    notes = b ∙ sym (append-nil i.notes);
    book = [];
    entries = c ∙ sym (append-nil i.entries);
    numbered = tt;
    names = λ w e. omega arith;
    ok = λ w e p. h w;
  }
