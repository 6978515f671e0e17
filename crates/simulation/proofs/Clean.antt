-- clean_up: where one more record fits, the memory is closed up as the rules say.
use mathlib.Core.Path.{◌≡◌, refl, sym, ap, subst, ◌∙◌}
use mathlib.Core.List.{List, [], ◌∷◌, ◌++◌}
use mathlib.Core.Bool.{Bool, true, false}
use Prim.Native.Nat.{ℕ, zero, suc, ◌+◌, ◌<◌}
use lib.Dec.{ltb, eqb}
use lib.ListN.{length, get_or}
use borrow.Author.Tests.{lt-ltb, eqb-true}
use native.Mathlib.Omega.{arith}
use Rattle.recorder.specs.Word.{pick, choose}
use Rattle.recorder.specs.Ideal.{Rec, rec, Note, Ideal, no_rec, no_range, change, Search, missing, found}
use Rattle.recorder.specs.Layout.{rec_words, note_words, entry_words, words_of, fill, most_records}
use Rattle.recorder.specs.Closing.{is_while, is_wend, closes, opened, end_from, end_at, close_whiles, open_note, open_notes, is_delay, is_stepped_delay, no_op, sleep, whole_end, delayed, stepped_delayed, delay_from, delays, end_rec, clean_up}
use Rattle.recorder.specs.Mem.{Mem, mem, records_in, notes_in, entries_in, list_full, notes_full, book_full, as_word, put_rec, put_st, Passed, passed, whiles_from, top_from, present, patch_whiles, convert_delays}
use Rattle.recorder.proofs.Words.{length_snoc, change_length}
use Rattle.simulation.proofs.Hide.{hide_rec, hide, hide_false, all_fresh}
use Rattle.recorder.specs.declared.codegen.State.{State}
use Rattle.simulation.proofs.States.{with_records, with_notes, put_form}
use Rattle.simulation.specs.Held.{Held, Exact}
use Rattle.simulation.proofs.Sim.{held_fits, held_count, Listed, listed_emit}
use Rattle.simulation.proofs.Delays.{Holds, delays_hold}
use Rattle.simulation.proofs.Whiles.{run_p, run_w, Below, below_length, notes_of, all_closed, all_noted}
use Rattle.simulation.proofs.WhileWords.{Linked, linked, run_words, run_below, Unknown, run_unknown, Opened, open_all}

-- closing keeps each record's line and range, and how many there are
pub close_keeps : {A : Type 0} (f : Rec → A) → ((v : ℕ) (r : Rec) → f (rec r.call r.line r.range r.a v r.c) ≡ f r) → (rs : List Rec) (k j : ℕ) → f (get_or (close_whiles rs k) j no_rec) ≡ f (get_or rs j no_rec)
unfolding close_whiles
close_keeps f h [] k j = refl
close_keeps f h (r ∷ rs) k zero = go (is_while r) (end_from rs 0 (suc k))
  where
    go : (c : Bool) (o : Search) → f (pick c (end_at o r) r) ≡ f r
    go true (found e) = h e r
    go true missing = refl
    go false o = refl
close_keeps f h (r ∷ rs) k (suc j) = close_keeps f h rs (suc k) j

pub close_length : (rs : List Rec) (k : ℕ) → length (close_whiles rs k) ≡ length rs
unfolding close_whiles
close_length [] k = refl
close_length (r ∷ rs) k = ap suc (close_length rs (suc k))

notes_same : (qs rs : List Rec) (ws : List ℕ) → ((j : ℕ) → (get_or qs j no_rec).line ≡ (get_or rs j no_rec).line) → ((j : ℕ) → (get_or qs j no_rec).range ≡ (get_or rs j no_rec).range) → notes_of qs ws ≡ notes_of rs ws
unfolding notes_of
notes_same qs rs [] h g = refl
notes_same qs rs (w ∷ ws) h g = rw (h w, g w, notes_same qs rs ws h g)

none_unknown : (qs : List Rec) → Unknown qs []
unfolding Unknown
none_unknown qs = refl

none_below : (k : ℕ) → Below [] k
unfolding Below
none_below k = omega arith

none_linked : (size : ℕ) (qs : List Rec) (l : List ℕ) → Holds size qs l → Linked size qs [] l 0
unfolding linked
none_linked size qs l h = record { holds = h; top_is = refl }

-- patch_while_instr on words
pub whiles_are : (size N : ℕ) (rs : List Rec) (is : List Note) (l n : List ℕ) (s : State) → Holds size rs l → all_fresh rs ≡ true → Exact note_words N is n s.notes s.notes_full → present l s ≡ length rs
    → Opened size N (close_whiles rs 0) (is ++ open_notes rs) s (patch_whiles l n s)
unfolding patch_whiles
whiles_are size N rs is l n s h f x e = rw (e, ← all_closed rs, ← m)
    (open_all size N (run_p [] [] 0 rs) (run_w [] 0 rs) is s (passed (whiles_from l 0 0 (length rs)) n s) (top_from l 0 0 (length rs)) (length rs) (length rs) w b
    (omega (arith, ap length (all_closed rs), close_length rs 0)) (run_unknown rs [] [] 0 (none_unknown rs) refl (none_below 0) f) (record { many = s.notes; full = s.notes_full; exact = x; rest = refl }) (below_length (run_w [] 0 rs) (length rs) b))
  where
    w : Linked size (run_p [] [] 0 rs) (run_w [] 0 rs) (whiles_from l 0 0 (length rs)) (top_from l 0 0 (length rs))
    w = run_words size rs [] [] 0 l 0 (none_linked size rs l h) refl (none_below 0)

    b : Below (run_w [] 0 rs) (length rs)
    b = let z : 0 + length rs ≡ length rs = omega arith in rw z at (run_below rs [] 0 (none_below 0))

    m : notes_of (run_p [] [] 0 rs) (run_w [] 0 rs) ≡ open_notes rs
    m = rw (all_closed rs) (notes_same (close_whiles rs 0) rs (run_w [] 0 rs) (close_keeps (λ (r : Rec). r.line) (λ v r. refl) rs 0) (close_keeps (λ (r : Rec). r.range) (λ v r. refl) rs 0) ∙ all_noted rs)

-- delays keep how many records there are
delayed_length : (rs : List Rec) (k : ℕ) → length (delayed rs k) ≡ length rs
delayed_length rs k =
    change_length no_op (change sleep (change whole_end (change no_op rs k) (k + 1)) (k + 2)) (k + 3) ∙ change_length sleep (change whole_end (change no_op rs k) (k + 1)) (k + 2)
    ∙ change_length whole_end (change no_op rs k) (k + 1) ∙ change_length no_op rs k

stepped_length : (rs : List Rec) (k : ℕ) → length (stepped_delayed rs k) ≡ length rs
stepped_length rs k =
    change_length no_op (change sleep (change no_op (change whole_end (change no_op rs k) (k + 1)) (k + 2)) (k + 3)) (k + 4)
    ∙ change_length sleep (change no_op (change whole_end (change no_op rs k) (k + 1)) (k + 2)) (k + 3)
    ∙ change_length no_op (change whole_end (change no_op rs k) (k + 1)) (k + 2) ∙ change_length whole_end (change no_op rs k) (k + 1) ∙ change_length no_op rs k

pub delay_length : (rs : List Rec) (k : ℕ) → length (delay_from rs k) ≡ length rs
unfolding delay_from
delay_length rs k = go (is_delay rs k) (is_stepped_delay rs k)
  where
    go : (a b : Bool) → length (pick a (delayed rs k) (pick b (stepped_delayed rs k) rs)) ≡ length rs
    go true b = delayed_length rs k
    go false true = stepped_length rs k
    go false false = refl

pub delays_length : (n k : ℕ) (rs : List Rec) → length (delays n k rs) ≡ length rs
unfolding delays
delays_length zero k rs = refl
delays_length (suc n) k rs = delays_length n (k + 1) (delay_from rs k) ∙ delay_length rs k

-- the notes do not depend on what is hidden
hide_while : (b : Bool) (r : Rec) → is_while (hide_rec b r) ≡ is_while r
unfolding hide_rec
hide_while true r = refl
hide_while false r = refl

hide_wend : (b : Bool) (r : Rec) → is_wend (hide_rec b r) ≡ is_wend r
unfolding hide_rec
hide_wend false r = refl
hide_wend true r = go (eqb r.call 2) refl
  where
    go : (c : Bool) → eqb r.call 2 ≡ c → is_wend (hide_rec true r) ≡ is_wend r
    go true e = rw (eqb-true r.call 2 e)
    go false e = rw e

hide_end : (b : Bool) (rs : List Rec) (i k : ℕ) → end_from (hide b rs) i k ≡ end_from rs i k
unfolding end_from
hide_end b [] i k = refl
hide_end b (r ∷ rs) i k = rw (hide_while b r, hide_wend b r) (go (closes r i) (hide_end b rs (opened r i) (suc k)))
  where
    go : (c : Bool) → end_from (hide b rs) (opened r i) (suc k) ≡ end_from rs (opened r i) (suc k)
        → choose c found (end_from (hide b rs) (opened r i)) (suc k) ≡ choose c found (end_from rs (opened r i)) (suc k)
    go true q = refl
    go false q = q

hide_note : (b : Bool) (o : Search) (r : Rec) → open_note o (hide_rec b r) ≡ open_note o r
unfolding hide_rec
hide_note true missing r = refl
hide_note false missing r = refl
hide_note b (found e) r = refl

pub hide_notes : (b : Bool) (rs : List Rec) → open_notes (hide b rs) ≡ open_notes rs
unfolding open_notes
hide_notes b [] = refl
hide_notes b (r ∷ rs) = rw (hide_notes b rs, hide_while b r, hide_end b rs 0 0, hide_note b (end_from rs 0 0) r)

-- The memory closed up: the list is exact if the book fits, and the book has no links.
pub record Done (L N B : ℕ) (i : Ideal) (m : Mem) : Type 0 where
  pub long : length m.list ≡ L
  pub count : length i.records ≡ as_word (records_in m.st)
  pub fits : list_full m.st ≡ false
  pub list_is : book_full m.st ≡ false → m.list ≡ fill L (words_of rec_words i.records)
  pub noted : Exact note_words N i.notes m.notes (notes_in m.st) (notes_full m.st)
  pub booked : Exact entry_words B i.entries m.book (entries_in m.st) (book_full m.st)

-- nothing is hidden where the book fits
pub same_records : (b : Bool) (rs is : List Rec) → b ≡ false → hide b rs ≡ hide b is → rs ≡ is
same_records b rs is f e = sym (hide_false rs) ∙ rw f at e ∙ hide_false is

module _ (L N B : ℕ) (i : Ideal) (rs : List Rec) (s : State) (P : Passed) (O : Opened L N (close_whiles rs 0) (i.notes ++ open_notes i.records) s P)
    (held : Held (most_records L) (length i.records) s.records s.list_full) (fit : s.list_full ≡ false) (room : s.records < most_records L)
    (many : length rs ≡ length i.records) (line : i.line ≡ s.line) where
  abbrev made : List Rec
  made = delays (length rs) 0 (close_whiles rs 0)

  made_length : length made ≡ length i.records
  made_length = delays_length (length rs) 0 (close_whiles rs 0) ∙ close_length rs 0 ∙ many

  -- the numbers, but for those of the notes, are as they were
  abbrev now : State
  now = with_notes s O.noted.many O.noted.full

  present_is : present P.list P.st ≡ length rs
  present_is = rw O.noted.rest (omega (arith, O.holds.long, held_count held fit, held_fits held fit, many))

  converted : Holds L made (convert_delays P.list P.st)
  unfolding convert_delays
  converted = rw present_is (delays_hold (length rs) 0 O.holds)

  -- the list before End, and with it
  before : Listed L made (convert_delays P.list P.st) s.records s.list_full s.book_full
  before = record {
    long = converted.long;
    held = rw made_length held;
    same = λ f. record { rs = made; words_are = converted.words_are; hidden = refl };
  }

  fits_in : ltb s.records (most_records (length (convert_delays P.list P.st))) ≡ true
  fits_in = lt-ltb s.records (most_records (length (convert_delays P.list P.st))) (omega (arith, converted.long))

  after : Listed L (made ++ (end_rec s.line ∷ [])) (put_rec (convert_delays P.list P.st) now 2 no_range 17 0 0) (s.records + 1) s.list_full s.book_full
  after = rw fits_in at (listed_emit L made (convert_delays P.list P.st) now (end_rec s.line) (end_rec s.line) before (λ f. refl))

  pub clean_done : (b : List ℕ) → (s.book_full ≡ false → rs ≡ i.records) → Exact entry_words B i.entries b s.entries s.book_full
      → Done L N B (clean_up i) (mem (put_rec (convert_delays P.list P.st) P.st 2 no_range 17 0 0) P.notes b (put_st (convert_delays P.list P.st) P.st))
  unfolding clean_up
  clean_done b same k =
      let q : put_st (convert_delays P.list P.st) P.st ≡ with_records now (s.records + 1) s.list_full =
      ap (λ (z : State). put_st (convert_delays P.list P.st) z) O.noted.rest ∙ rw fits_in at (put_form (convert_delays P.list P.st) now) in
      let a : Listed L (made ++ (end_rec s.line ∷ [])) (put_rec (convert_delays P.list P.st) P.st 2 no_range 17 0 0) (s.records + 1) s.list_full s.book_full =
      subst (λ (z : State). Listed L (made ++ (end_rec s.line ∷ [])) (put_rec (convert_delays P.list P.st) z 2 no_range 17 0 0) (s.records + 1) s.list_full s.book_full) (sym O.noted.rest) after in
      record {
        long = a.long;
        count = length_snoc (delays (length i.records) 0 (close_whiles i.records 0)) (end_rec i.line)
            ∙ rw q (omega (arith, delays_length (length i.records) 0 (close_whiles i.records 0), close_length i.records 0, held_count held fit));
        fits = rw q fit;
        list_is = rw q (λ f.
            let e : rs ≡ i.records = same f in
            let w = a.same fit in
            let u : w.rs ≡ made ++ (end_rec s.line ∷ []) = same_records s.book_full w.rs (made ++ (end_rec s.line ∷ [])) f w.hidden in
            w.words_are ∙ ap (λ (z : List Rec). fill L (words_of rec_words z)) u
            ∙ ap (λ (z : ℕ). fill L (words_of rec_words (made ++ (end_rec z ∷ [])))) (sym line)
            ∙ ap (λ (z : List Rec). fill L (words_of rec_words (delays (length z) 0 (close_whiles z 0) ++ (end_rec i.line ∷ [])))) e);
        noted = rw q O.noted.exact;
        booked = rw q k;
      }
