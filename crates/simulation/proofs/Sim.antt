-- The memory holds what the rules' recorder says, as far as it fits; and each operation keeps that so.
use Rattle.std.specs.Prelude.{Option, None, Some, unwrap_or}
use mathlib.Core.Path.{◌≡◌, refl, sym, ap, ◌∙◌}
use mathlib.Core.List.{List, [], ◌∷◌, ◌++◌}
use mathlib.Core.Bool.{Bool, true, false}
use Prim.Native.Nat.{ℕ, zero, suc, ◌+◌, ◌*◌, ◌-◌, ◌≤◌, ◌<◌, ◌/◌, ◌%◌}
use lib.Dec.{ltb, eqb}
use lib.ListN.{length, get_or, set, take, drop, replicate, length-append, length-set, length-take, length-drop}
use borrow.Author.Tests.{lt-ltb, le-ltb, ltb-true, ltb-false, ne_eqb}
use native.Mathlib.Decide.{dec_lt}
use native.Mathlib.Numerals.{add-one}
use native.Mathlib.Omega.{arith}
use Rattle.recorder.specs.declared.word.Range.{Range}
use Rattle.recorder.specs.declared.label.DatumIndex.{DatumIndex}
use Rattle.recorder.specs.Word.{pick, kind, payload_at, word_of, range_word}
use Rattle.recorder.specs.Optional.{plus_one}
use Rattle.recorder.specs.Ideal.{Rec, rec, lost_note, Entry, entry, Ideal, ideal, ideal_r, how_many, next_number, added, Search, missing, found, find_name, symbol_in, symbol_of, change, with_a, with_c, settled, unlabelled, no_rec, look_of, first_of}
use Rattle.recorder.specs.Layout.{rec_words, note_words, entry_words, words_of, fill, most_records}
use Rattle.recorder.specs.Mem.{Mem, mem, mem_r, put_note, records_in, line_in, datum_word, first_in, list_full, book_full, as_word, low, more, put_list, four, note_list, entry_list, sigil_code, hash_of, name_tag, with_link, known, descent_to, entry_of, linked, root_of, unlink_from, unlinked, symbol_number, symbol_list, symbol_st, datum_list, datum_st, byte_list, byte_st, part, at_rec, on_rec, set_a, set_c, settle_args, clear_args, rec_of, look_at}
use Rattle.recorder.proofs.Words.{head_kind, length_snoc, put5, put4, words_snoc, length_words4, length_words, change_length, change_out, change_words, cut_rec, rec_of_lem}
use Rattle.recorder.proofs.Bools.{true_not_false}
use Rattle.simulation.specs.Held.{Held, Exact}
use Rattle.simulation.proofs.Hide.{fresh, hide_rec, hide, hide_length, hide_snoc, hide_true, hide_at, change_hidden, hide_change, hide_with_a, hide_with_c, hide_settled, hide_unlabelled, hide_number, hide_call, hide_line, hide_c, hide_b, fresh_rec, all_fresh, fresh_snoc, fresh_at, fresh_change}
use Rattle.recorder.specs.declared.codegen.State.{State}
use Rattle.simulation.proofs.States.{with_entries, with_names, with_data, with_bytes, with_line, put_in, note_in, entry_in, put_form, note_form, entry_form, Stays}
use Rattle.simulation.proofs.Simulation.{Sigil, Looks, SameLine}
use Rattle.simulation.proofs.Tree.{side, Tree, Linking, from_none, from_name, linking, link_code, tree_other, tree_name, linked_length, tag_high, seek_is}
use Rattle.simulation.proofs.Book.{bare, bares, bares_length, bares_snoc, bare_name, bare_other, relink, put_entry, all_small, small_snoc, Finds, lookup_finds, unlink_all, unlink_length}

pub held_room : {cap n count : ℕ} {full : Bool} → Held cap n count full → n < cap → ltb count cap ≡ true
held_room {cap} {n} {count} h l = lt-ltb count cap (omega (arith, h.number))

pub held_none : {cap n count : ℕ} {full : Bool} → Held cap n count full → cap ≤ n → ltb count cap ≡ false
held_none {cap} {n} {count} h l = le-ltb count cap (omega (arith, h.number))

held_in : {cap n count : ℕ} {full : Bool} → Held cap n count full → n < cap → Held cap (suc n) (count + 1) full
held_in {cap} {n} h l = record { number = omega (arith, h.number); flag = h.flag ∙ le-ltb cap n (omega arith) ∙ sym (le-ltb cap (suc n) (omega arith)) }

held_out : {cap n count : ℕ} {full : Bool} → Held cap n count full → cap ≤ n → Held cap (suc n) count true
held_out {cap} {n} h l = record { number = omega (arith, h.number); flag = sym (lt-ltb cap (suc n) (omega arith)) }

held_over : {cap n count : ℕ} {full : Bool} (m : ℕ) → Held cap n count full → full ≡ true → n ≤ m → Held cap m count true
held_over {cap} {n} m h f l =
    let o : cap < n = ltb-true cap n (sym h.flag ∙ f) in
    record { number = omega (arith, h.number); flag = sym (lt-ltb cap m (omega arith)) }

pub held_fits : {cap n count : ℕ} {full : Bool} → Held cap n count full → full ≡ false → n ≤ cap
held_fits {cap} {n} h e = ltb-false cap n (sym h.flag ∙ e)

pub held_full : {cap n count : ℕ} {full : Bool} → Held cap n count full → full ≡ true → cap < n
held_full {cap} {n} h e = ltb-true cap n (sym h.flag ∙ e)

pub held_count : {cap n count : ℕ} {full : Bool} → Held cap n count full → full ≡ false → n ≡ count
held_count h e = let f = held_fits h e in omega (arith, h.number)

-- the list: if all records fit, their words, but for what is hidden if some entry did not fit
pub record Same (size : ℕ) (l : List ℕ) (b : Bool) (is : List Rec) : Type 0 where
  pub rs : List Rec
  pub words_are : l ≡ fill size (words_of rec_words rs)
  pub hidden : hide b rs ≡ hide b is

pub same_length : {size : ℕ} {l : List ℕ} {b : Bool} {is : List Rec} (s : Same size l b is) → length s.rs ≡ length is
same_length {b = b} {is = is} s = sym (hide_length b s.rs) ∙ ap length s.hidden ∙ hide_length b is

pub record Listed (size : ℕ) (is : List Rec) (l : List ℕ) (count : ℕ) (full b : Bool) : Type 0 where
  pub long : length l ≡ size
  pub held : Held (most_records size) (length is) count full
  pub same : full ≡ false → Same size l b is

pub listed_emit : (size : ℕ) (is : List Rec) (l : List ℕ) (st : State) (i j : Rec) → Listed size is l st.records st.list_full st.book_full
    → (st.list_full ≡ false → hide_rec st.book_full j ≡ hide_rec st.book_full i)
    → Listed size (is ++ (i ∷ [])) (put_list l st (word_of j.call j.line) (range_word j.range) j.a j.b j.c)
    (pick (ltb st.records (most_records (length l))) (st.records + 1) st.records) (pick (ltb st.records (most_records (length l))) st.list_full true) st.book_full
unfolding put_list
listed_emit size is l st i j s e = go (dec_lt (length is) (most_records size))
  where
    go : Dec (length is < most_records size) → Listed size (is ++ (i ∷ [])) (put_list l st (word_of j.call j.line) (range_word j.range) j.a j.b j.c)
        (pick (ltb st.records (most_records (length l))) (st.records + 1) st.records) (pick (ltb st.records (most_records (length l))) st.list_full true) st.book_full
    go (yes d) = rw (s.long, held_room s.held d) (record {
      long = simp length-set s.long;
      held = rw (length_snoc is i) (held_in s.held d);
      same = λ f.
          let q = s.same f in
          let w : length (words_of rec_words q.rs) ≡ 5 * st.records = length_words q.rs ∙ ap (λ (z : ℕ). 5 * z) (same_length q ∙ held_count s.held f) in
          record {
            rs = q.rs ++ (j ∷ []);
            words_are = rw q.words_are (put5 size (5 * st.records) (word_of j.call j.line) (range_word j.range) j.a j.b j.c (words_of rec_words q.rs) w (omega (arith, held_count s.held f))
                ∙ ap (λ (z : List ℕ). fill size z) (sym (words_snoc rec_words q.rs j)));
            hidden = hide_snoc st.book_full q.rs j ∙ rw (q.hidden, e f) (sym (hide_snoc st.book_full is i));
          };
    })
    go (no d) = rw (s.long, held_none s.held (omega arith)) (record {
      long = s.long;
      held = rw (length_snoc is i) (held_out s.held (omega arith));
      same = λ f. true_not_false f;
    })

-- a record changed
part_long : (w : List ℕ → List ℕ) → ((p : List ℕ) → length (w p) ≡ length p) → (l : List ℕ) (at : ℕ) → length (part w l at) ≡ length l
unfolding part
part_long w h l at = omega (arith, length-append (take at l) (w (drop at l)), h (drop at l), length-take at l, length-drop at l)

pub at_long : (w : List ℕ → List ℕ) → ((p : List ℕ) → length (w p) ≡ length p) → (l : List ℕ) (k : ℕ) → length (at_rec w l k) ≡ length l
unfolding at_rec
at_long w h l k = go (ltb k (length l / 5))
  where
    go : (b : Bool) → length (pick b (part w l (5 * k)) l) ≡ length l
    go true = part_long w h l (5 * k)
    go false = refl

on_long : (w : List ℕ → List ℕ) → ((p : List ℕ) → length (w p) ≡ length p) → (l : List ℕ) (st : State) (k : ℕ) → length (on_rec w l st k) ≡ length l
unfolding on_rec
on_long w h l st k = go (ltb k st.records)
  where
    go : (b : Bool) → length (pick b (at_rec w l k) l) ≡ length l
    go true = at_long w h l k
    go false = refl

-- on words: a record below the count
pub at_words : (w : List ℕ → List ℕ) (g : Rec → Rec) → ((r : Rec) (ys : List ℕ) → w (rec_words r ++ ys) ≡ rec_words (g r) ++ ys)
    → (size : ℕ) (rs : List Rec) (l : List ℕ) (k : ℕ) → l ≡ fill size (words_of rec_words rs) → length l ≡ size → k < length rs → length rs ≤ size / 5
    → at_rec w l k ≡ fill size (words_of rec_words (change g rs k))
unfolding at_rec
at_words w g h size rs l k e n i j =
    let a : length (words_of rec_words rs) ≡ length (words_of rec_words (change g rs k)) = length_words rs ∙ ap (λ (z : ℕ). 5 * z) (sym (change_length g rs k)) ∙ sym (length_words (change g rs k)) in
    rw (n, lt-ltb k (size / 5) (omega arith))
    (rw e (change_words w g h rs (replicate (size - length (words_of rec_words rs)) 0) k i ∙ rw a))

on_words : (w : List ℕ → List ℕ) (g : Rec → Rec) → ((r : Rec) (ys : List ℕ) → w (rec_words r ++ ys) ≡ rec_words (g r) ++ ys)
    → (size : ℕ) (is : List Rec) (l : List ℕ) (st : State) (k : ℕ) → Listed size is l st.records st.list_full st.book_full
    → (q : Same size l st.book_full is) → st.list_full ≡ false → Dec (k < length is) → on_rec w l st k ≡ fill size (words_of rec_words (change g q.rs k))
unfolding on_rec
on_words w g h size is l st k s q f (yes i) =
    rw (lt-ltb k st.records (omega (arith, held_count s.held f)))
    (at_words w g h size q.rs l k q.words_are s.long (omega (arith, same_length q)) (omega (arith, same_length q, held_fits s.held f)))
on_words w g h size is l st k s q f (no i) =
    rw (le-ltb k st.records (omega (arith, held_count s.held f)), change_out g q.rs k (omega (arith, same_length q))) q.words_are

listed_change : (w : List ℕ → List ℕ) (f g : Rec → Rec) → ((r : Rec) (ys : List ℕ) → w (rec_words r ++ ys) ≡ rec_words (g r) ++ ys) → ((p : List ℕ) → length (w p) ≡ length p)
    → (size : ℕ) (is : List Rec) (l : List ℕ) (st : State) (k k' : ℕ) → Listed size is l st.records st.list_full st.book_full
    → (st.list_full ≡ false → k ≡ k')
    → (st.list_full ≡ false → (r : Rec) → hide_rec st.book_full r ≡ hide_rec st.book_full (get_or is k no_rec) → hide_rec st.book_full (g r) ≡ hide_rec st.book_full (f (get_or is k no_rec)))
    → Listed size (change f is k) (on_rec w l st k') st.records st.list_full st.book_full
listed_change w f g h n size is l st k k' s e m = record {
  long = on_long w n l st k' ∙ s.long;
  held = rw (change_length f is k) s.held;
  same = λ z.
      let q = s.same z in
      let a : hide_rec st.book_full (get_or q.rs k no_rec) ≡ hide_rec st.book_full (get_or is k no_rec) =
      sym (hide_at st.book_full q.rs k) ∙ ap (λ (y : List Rec). get_or y k no_rec) q.hidden ∙ hide_at st.book_full is k in
      record {
        rs = change g q.rs k;
        words_are = rw (← e z) (on_words w g h size is l st k s q z (dec_lt k (length is)));
        hidden = change_hidden st.book_full g f q.rs is k q.hidden (m z (get_or q.rs k no_rec) a);
      };
}

listed_later : (size : ℕ) (is : List Rec) (l : List ℕ) (n : ℕ) (full b b' : Bool) → (b' ≡ false → b ≡ false) → Listed size is l n full b → Listed size is l n full b'
listed_later size is l n full b false h s = rw (← h refl) s
listed_later size is l n full b true h s = record {
  long = s.long;
  held = s.held;
  same = λ f. let q = s.same f in record {
    rs = q.rs;
    words_are = q.words_are;
    hidden = sym (hide_true b q.rs) ∙ ap (λ (z : List Rec). hide true z) q.hidden ∙ hide_true b is;
  };
}

pub listed_look : (size : ℕ) (is : List Rec) (l : List ℕ) (n : ℕ) (full b : Bool) (k : ℕ) → Listed size is l n full b → full ≡ false → Looks (look_of (get_or is k no_rec)) (look_at l k)
listed_look size is l n full b k s f =
    let q = s.same f in
    let x : Rec = get_or is k no_rec in
    let y : Rec = get_or q.rs k no_rec in
    let a : hide_rec b y ≡ hide_rec b x = sym (hide_at b q.rs k) ∙ ap (λ (z : List Rec). get_or z k no_rec) q.hidden ∙ hide_at b is k in
    let w : rec_of l k ≡ cut_rec y = rw q.words_are (rec_of_lem q.rs (size - length (words_of rec_words q.rs)) k) in
    let c : y.call ≡ x.call = sym (hide_call b y) ∙ ap (λ (z : Rec). z.call) a ∙ hide_call b x in
    record {
      call = sym c ∙ sym (ap (λ (z : Rec). z.call) w);
      line = let i : y.line ≡ x.line = sym (hide_line b y) ∙ ap (λ (z : Rec). z.line) a ∙ hide_line b x in
          let o : (rec_of l k).line ≡ y.line % 16777216 = ap (λ (z : Rec). z.line) w in
          omega arith;
      b = λ t. sym (hide_b b x t) ∙ sym (ap (λ (z : Rec). z.b) a) ∙ hide_b b y (rw c t) ∙ sym (ap (λ (z : Rec). z.b) w);
      c = sym (hide_c b x) ∙ sym (ap (λ (z : Rec). z.c) a) ∙ hide_c b y ∙ sym (ap (λ (z : Rec). z.c) w);
    }

-- the notes and the book
pub exact_put : {A : Type 0} (f : A → List ℕ) → ((x : A) → length (f x) ≡ 4) → (size : ℕ) (is : List A) (l : List ℕ) (n : ℕ) (full : Bool) (x : A) (h a b c : ℕ)
    → f x ≡ h ∷ a ∷ b ∷ c ∷ [] → Exact f size is l n full
    → Exact f size (is ++ (x ∷ [])) (pick (ltb n (length l / 4)) (four l n h a b c) l) (pick (ltb n (length l / 4)) (n + 1) n) (pick (ltb n (length l / 4)) full true)
exact_put {A} f g size is l n full x h a b c e s = go (dec_lt (length is) (size / 4))
  where
    go : Dec (length is < size / 4) → Exact f size (is ++ (x ∷ [])) (pick (ltb n (length l / 4)) (four l n h a b c) l) (pick (ltb n (length l / 4)) (n + 1) n) (pick (ltb n (length l / 4)) full true)
    go (yes d) = rw (s.long, held_room s.held d) (record {
      long = simp length-set s.long;
      held = rw (length_snoc is x) (held_in s.held d);
      same = λ z.
          let w : length (words_of f is) ≡ 4 * n = length_words4 f g is ∙ ap (λ (y : ℕ). 4 * y) (held_count s.held z) in
          rw (s.same z) (put4 size (4 * n) h a b c (words_of f is) w (omega (arith, held_count s.held z))
          ∙ ap (λ (y : List ℕ). fill size (words_of f is ++ y)) (sym e) ∙ ap (λ (y : List ℕ). fill size y) (sym (words_snoc f is x)));
    })
    go (no d) = rw (s.long, held_none s.held (omega arith)) (record {
      long = s.long;
      held = rw (length_snoc is x) (held_out s.held (omega arith));
      same = λ z. true_not_false z;
    })

pick_not_full : (c full : Bool) → pick c full true ≡ false → (c ≡ true) × (full ≡ false)
pick_not_full true full e = (refl, e)
pick_not_full false full e = true_not_false e

entry_later : (b : List ℕ) (s : State) → (entry_in b s).book_full ≡ false → s.book_full ≡ false
entry_later b s f = (pick_not_full (ltb s.entries (length b / 4)) s.book_full f).1

-- the numbers within the kinds
how_snoc : (k : ℕ) (es : List Entry) (e : Entry) → how_many k (es ++ (e ∷ [])) ≡ pick (eqb e.kind k) (suc (how_many k es)) (how_many k es)
unfolding how_many
how_snoc k [] e = refl
how_snoc k (x ∷ es) e = rw (how_snoc k es e) (go (eqb x.kind k) (eqb e.kind k))
  where
    go : (c d : Bool) → pick c (suc (pick d (suc (how_many k es)) (how_many k es))) (pick d (suc (how_many k es)) (how_many k es))
        ≡ pick d (suc (pick c (suc (how_many k es)) (how_many k es))) (pick c (suc (how_many k es)) (how_many k es))
    go true true = refl
    go true false = refl
    go false true = refl
    go false false = refl

pub how_le : (k : ℕ) (es : List Entry) → how_many k es ≤ length es
unfolding how_many
how_le k [] = omega arith
how_le k (e ∷ es) = go (eqb e.kind k) (how_le k es)
  where
    go : (c : Bool) → how_many k es ≤ length es → pick c (suc (how_many k es)) (how_many k es) ≤ suc (length es)
    go true h = omega arith
    go false h = omega arith

-- a kind's count
pub record Counted (is : List Entry) (names datums bytes : ℕ) : Type 0 where
  pub names_are : names ≡ how_many 50 is
  pub datums_are : datums ≡ how_many 51 is
  pub bytes_are : bytes ≡ how_many 52 is

-- the book where it fits: the entries, but for their links, and the tree
pub record Written (t : List ℕ) (size : ℕ) (is : List Entry) (b : List ℕ) (root : ℕ) : Type 0 where
  pub qs : List Entry
  pub words_are : b ≡ fill size (words_of entry_words qs)
  pub bare_are : bares qs ≡ is
  pub tree : Tree t b (length is) root

pub written_length : {t : List ℕ} {size : ℕ} {is : List Entry} {b : List ℕ} {root : ℕ} (w : Written t size is b root) → length w.qs ≡ length is
written_length w = sym (bares_length w.qs) ∙ ap length w.bare_are

pub record Booked (t : List ℕ) (size : ℕ) (is : List Entry) (b : List ℕ) (entries names datums bytes root : ℕ) (full : Bool) : Type 0 where
  pub long : length b ≡ size
  pub held : Held (size / 4) (length is) entries full
  pub small : all_small is ≡ true
  pub written : full ≡ false → Written t size is b root
  pub counted : full ≡ false → Counted is names datums bytes

-- one entry more
more_one : (n room : ℕ) → n < room → more n room ≡ n + 1
unfolding more
more_one n room h = rw (lt-ltb n room h)

small_number : (k : ℕ) (is : List Entry) → ltb (next_number k is) 16777216 ≡ true
small_number k is = lt-ltb (next_number k is) 16777216 (omega arith)

-- the counts where it fits: its own kind's is one more, the others' are as they were
one_counted : (is : List Entry) (entries names datums bytes room : ℕ) (e : Entry) → Counted is names datums bytes → entries < room → length is ≡ entries
    → Counted (is ++ (e ∷ [])) (pick (eqb e.kind 50) (more names room) names) (pick (eqb e.kind 51) (more datums room) datums) (pick (eqb e.kind 52) (more bytes room) bytes)
one_counted is entries names datums bytes room e c r h = record {
  names_are = one 50 names c.names_are (omega (arith, how_le 50 is, c.names_are)) ∙ sym (how_snoc 50 is e);
  datums_are = one 51 datums c.datums_are (omega (arith, how_le 51 is, c.datums_are)) ∙ sym (how_snoc 51 is e);
  bytes_are = one 52 bytes c.bytes_are (omega (arith, how_le 52 is, c.bytes_are)) ∙ sym (how_snoc 52 is e);
}
  where
    one : (k n : ℕ) → n ≡ how_many k is → n < room → pick (eqb e.kind k) (more n room) n ≡ pick (eqb e.kind k) (suc (how_many k is)) (how_many k is)
    one k n i j = rw (more_one n room j, i, add-one (how_many k is))

entry_long : (b : List ℕ) (st : State) (h x y z : ℕ) → length (entry_list b st h x y z) ≡ length b
unfolding entry_list
entry_long b st h x y z = go (ltb st.entries (length b / 4))
  where
    go : (c : Bool) → length (pick c (four b st.entries h x y z) b) ≡ length b
    go true = simp length-set
    go false = refl

entry_put : (b : List ℕ) (st : State) (h x y z : ℕ) → st.entries < length b / 4 → entry_list b st h x y z ≡ four b st.entries h x y z
unfolding entry_list
entry_put b st h x y z r = rw (lt-ltb st.entries (length b / 4) r)

held_put : (cap n count : ℕ) (full : Bool) → Held cap n count full → Held cap (suc n) (pick (ltb count cap) (count + 1) count) (pick (ltb count cap) full true)
held_put cap n count full h = go (dec_lt n cap)
  where
    go : Dec (n < cap) → Held cap (suc n) (pick (ltb count cap) (count + 1) count) (pick (ltb count cap) full true)
    go (yes d) = rw (held_room h d) (held_in h d)
    go (no d) = rw (held_none h (omega arith)) (held_out h (omega arith))

-- what the book is before the words of an entry are put, and its tree with them
pub record Puts (t : List ℕ) (size : ℕ) (is : List Entry) (b' : List ℕ) (n h x y z root : ℕ) : Type 0 where
  pub rs : List Entry
  pub words_are : b' ≡ fill size (words_of entry_words rs)
  pub bare_are : bares rs ≡ is
  pub tree : Tree t (four b' n h x y z) (n + 1) root

-- an entry of a kind whose count is n, v in its head
module _ (t : List ℕ) (size : ℕ) (is : List Entry) (b b' : List ℕ) (st : State) (k v n x y z z' root : ℕ)
    (s : Booked t size is b st.entries st.names st.datums st.bytes (plus_one st.root) st.book_full) (same : length b' ≡ length b)
    (bared : bare (entry v (next_number k is) x y z) ≡ entry k (next_number k is) x y z') where
  entry_written : st.book_full ≡ false → st.entries < length b / 4 → n ≡ how_many k is → Puts t size is b' st.entries (word_of v (next_number k is)) x y z root
      → Written t size (added k is x y z') (entry_list b' st (word_of v (low n)) x y z) root
  entry_written f r c p =
      let l : length is ≡ st.entries = held_count s.held f in
      let m : length p.rs ≡ st.entries = sym (bares_length p.rs) ∙ ap length p.bare_are ∙ l in
      let r' : st.entries < length b' / 4 = rw same r in
      let u : length (added k is x y z') ≡ st.entries + 1 = omega (arith, length_snoc is (entry k (next_number k is) x y z')) in
      rw (c, entry_put b' st (word_of v (next_number k is)) x y z r') (record {
        qs = p.rs ++ (entry v (next_number k is) x y z ∷ []);
        words_are = put_entry size p.rs b' st.entries v (next_number k is) x y z p.words_are m (omega (arith, s.long));
        bare_are = bares_snoc p.rs (entry v (next_number k is) x y z) ∙ rw (p.bare_are, bared);
        tree = rw u p.tree;
      })

  booked_entry : (st.book_full ≡ false → n ≡ how_many k is) → (st.book_full ≡ false → st.entries < length b / 4 → Puts t size is b' st.entries (word_of v (next_number k is)) x y z root)
      → Booked t size (added k is x y z') (entry_list b' st (word_of v (low n)) x y z)
      (pick (ltb st.entries (length b / 4)) (st.entries + 1) st.entries)
      (pick (eqb k 50) (more st.names (length b / 4)) st.names) (pick (eqb k 51) (more st.datums (length b / 4)) st.datums) (pick (eqb k 52) (more st.bytes (length b / 4)) st.bytes)
      root (pick (ltb st.entries (length b / 4)) st.book_full true)
  booked_entry h p = record {
    long = entry_long b' st (word_of v (low n)) x y z ∙ same ∙ s.long;
    held = rw (length_snoc is (entry k (next_number k is) x y z'), s.long) (held_put (size / 4) (length is) st.entries st.book_full s.held);
    small = small_snoc is (entry k (next_number k is) x y z') s.small (small_number k is);
    written = λ f.
        let q = pick_not_full (ltb st.entries (length b / 4)) st.book_full f in
        let r = ltb-true st.entries (length b / 4) q.0 in
        entry_written q.1 r (h q.1) (p q.1 r);
    counted = λ f.
        let q = pick_not_full (ltb st.entries (length b / 4)) st.book_full f in
        one_counted is st.entries st.names st.datums st.bytes (length b / 4) (entry k (next_number k is) x y z') (s.counted q.1) (ltb-true st.entries (length b / 4) q.0) (held_count s.held q.1);
  }

-- an entry that is no name
booked_other : (t : List ℕ) (size : ℕ) (is : List Entry) (b : List ℕ) (st : State) (k n x y z : ℕ) → Booked t size is b st.entries st.names st.datums st.bytes (plus_one st.root) st.book_full
    → (k ≡ 50 → ⊥) → k < 128 → (st.book_full ≡ false → n ≡ how_many k is)
    → Booked t size (added k is x y z) (entry_list b st (word_of k (low n)) x y z)
    (pick (ltb st.entries (length b / 4)) (st.entries + 1) st.entries)
    (pick (eqb k 50) (more st.names (length b / 4)) st.names) (pick (eqb k 51) (more st.datums (length b / 4)) st.datums) (pick (eqb k 52) (more st.bytes (length b / 4)) st.bytes)
    (plus_one st.root) (pick (ltb st.entries (length b / 4)) st.book_full true)
booked_other t size is b st k n x y z s e j h =
    booked_entry t size is b b st k k n x y z z (plus_one st.root) s refl (bare_other (entry k (next_number k is) x y z) (le-ltb 127 k (omega arith))) h
    (λ f r. let w = s.written f in record {
      rs = w.qs;
      words_are = w.words_are;
      bare_are = w.bare_are;
      tree = tree_other t b st.entries (plus_one st.root) (word_of k (next_number k is)) x y z r (λ q. omega arith) (λ q. e (omega arith)) (rw (held_count s.held f) at w.tree);
    })

-- a symbol: it is found, or it is made
symbol_kept : (t b : List ℕ) (st : State) (x n g : ℕ) → entry_of t b st x n g < known b st
    → (symbol_list t b st x n g ≡ b) × (symbol_st t b st x n g ≡ st) × (symbol_number t b st x n g ≡ payload_at b (4 * entry_of t b st x n g))
unfolding symbol_list symbol_st symbol_number
symbol_kept t b st x n g h = let l = lt-ltb (entry_of t b st x n g) (known b st) h in (rw l, rw l, rw l)

symbol_made : (t b : List ℕ) (st : State) (x n g : ℕ) → known b st ≤ entry_of t b st x n g
    → (symbol_list t b st x n g ≡ entry_list (linked b st (descent_to t b st x n g)) st (word_of (name_tag t x n g) (low st.names)) x n (sigil_code g))
    × (symbol_st t b st x n g ≡ (with_names (entry_in b st) (more st.names (length b / 4)) (root_of b st))) × (symbol_number t b st x n g ≡ low st.names)
unfolding symbol_list symbol_st symbol_number
symbol_made t b st x n g h = let l = le-ltb (entry_of t b st x n g) (known b st) h in (rw l, rw (l, entry_form b st), rw l)

-- while the book fits, the search in it is the rules'
pub record Found (t : List ℕ) (is : List Entry) (b : List ℕ) (st : State) (x n g : ℕ) : Type 0 where
  pub known_is : known b st ≡ length is
  pub tree : Tree t b (known b st) (plus_one st.root)
  pub finds : Finds (find_name t is x n g) (length is) (entry_of t b st x n g) b

search_same : (t : List ℕ) (size : ℕ) (is : List Entry) (b : List ℕ) (st : State) (x n g : ℕ) → Sigil g
    → Booked t size is b st.entries st.names st.datums st.bytes (plus_one st.root) st.book_full → st.book_full ≡ false → Found t is b st x n g
search_same t size is b st x n g p s f =
    let w = s.written f in
    let e : known b st ≡ length is = omega (arith, held_count s.held f, held_fits s.held f, s.long) in
    let T : Tree t b (known b st) (plus_one st.root) = rw e w.tree in
    let m : known b st ≡ length w.qs = e ∙ sym (written_length w) in
    let l = lookup_finds t b x n g 0 (length is) [] w.qs (replicate (size - length (words_of entry_words w.qs)) 0) p w.words_are refl (omega (arith, written_length w)) (omega arith)
    w.tree (rw w.bare_are s.small) in
    record {
      known_is = e;
      tree = T;
      finds = rw (seek_is t b x n g st T, m) (rw w.bare_are at l);
    }

-- what a symbol comes to
pub record Symbols (t : List ℕ) (size : ℕ) (is : List Entry) (b : List ℕ) (st : State) (x n g : ℕ) (ks : List Entry) (v : ℕ) : Type 0 where
  pub entries : ℕ
  pub names : ℕ
  pub root : Option ℕ
  pub full : Bool
  pub state : symbol_st t b st x n g ≡ (with_names (with_entries st entries full) names root)
  pub later : full ≡ false → st.book_full ≡ false
  pub booked : Booked t size ks (symbol_list t b st x n g) entries names st.datums st.bytes (plus_one root) full
  pub number : full ≡ false → v ≡ symbol_number t b st x n g

-- the link of a new name is set in the words of an earlier one
name_puts : (t : List ℕ) (size : ℕ) (is : List Entry) (b : List ℕ) (st : State) (x n g h : ℕ) → Written t size is b (plus_one st.root) → length is ≡ st.entries → Tree t b (known b st) (plus_one st.root) → entry_of t b st x n g ≡ known b st
    → st.entries < length b / 4 → kind h ≡ name_tag t x n g → Puts t size is (linked b st (descent_to t b st x n g)) st.entries h x n (sigil_code g) (plus_one (root_of b st))
name_puts t size is b st x n g h w l T a r k = go (linking t b x n g h st T a r k)
  where
    tree : Tree t (four (linked b st (descent_to t b st x n g)) st.entries h x n (sigil_code g)) (st.entries + 1) (plus_one (root_of b st))
    tree = tree_name t b x n g h st T a r k

    go : Linking t b x n g st → Puts t size is (linked b st (descent_to t b st x n g)) st.entries h x n (sigil_code g) (plus_one (root_of b st))
    go (from_none e) = record { rs = w.qs; words_are = e ∙ w.words_are; bare_are = w.bare_are; tree = tree }
    go (from_name i u e j c) =
        let v : ℕ = with_link (side u) (get_or b (4 * i + 3) 0) st.entries in
        let zs : List ℕ = replicate (size - length (words_of entry_words w.qs)) 0 in
        let q = relink w.qs zs i v (omega (arith, written_length w)) (rw w.words_are at c) (link_code (side u) (get_or b (4 * i + 3) 0) st.entries ∙ ap (λ (z : List ℕ). get_or z (4 * i + 3) 0 % 4) w.words_are) in
        let m : length (words_of entry_words w.qs) ≡ length (words_of entry_words q.rs) =
        length_words4 entry_words (λ z. refl) w.qs ∙ ap (λ (z : ℕ). 4 * z) (sym (bares_length w.qs) ∙ ap length (sym q.bare_same) ∙ bares_length q.rs) ∙ sym (length_words4 entry_words (λ z. refl) q.rs) in
        record {
          rs = q.rs;
          words_are = e ∙ ap (λ (z : List ℕ). set z (4 * i + 3) v) w.words_are ∙ q.words_are ∙ ap (λ (z : ℕ). words_of entry_words q.rs ++ replicate (size - z) 0) m;
          bare_are = q.bare_same ∙ w.bare_are;
          tree = tree;
        }

made : (t : List ℕ) (size : ℕ) (is : List Entry) (b : List ℕ) (st : State) (x n g : ℕ) → Sigil g → Booked t size is b st.entries st.names st.datums st.bytes (plus_one st.root) st.book_full
    → Found t is b st x n g → entry_of t b st x n g ≡ known b st → Symbols t size is b st x n g (added 50 is x n g) (next_number 50 is)
made t size is b st x n g p s o a =
    let m = symbol_made t b st x n g (omega arith) in
    record {
      entries = pick (ltb st.entries (length b / 4)) (st.entries + 1) st.entries;
      names = more st.names (length b / 4);
      root = root_of b st;
      full = pick (ltb st.entries (length b / 4)) st.book_full true;
      state = m.1;
      later = entry_later b st;
      booked = rw m.0
          (booked_entry t size is b (linked b st (descent_to t b st x n g)) st 50 (name_tag t x n g) st.names x n (sigil_code g) g (plus_one (root_of b st)) s (linked_length t b x n g st) (bare_name (name_tag t x n g) (next_number 50 is) x n g (tag_high (hash_of t x (sigil_code g) n)) p) (λ f. (s.counted f).names_are)
          (λ f r. name_puts t size is b st x n g (word_of (name_tag t x n g) (next_number 50 is)) (s.written f) (held_count s.held f) o.tree a r (head_kind (name_tag t x n g) (next_number 50 is))));
      number = rw m.2 (λ f. ap low (sym (s.counted (pick_not_full (ltb st.entries (length b / 4)) st.book_full f).1).names_are));
    }

kept : (t : List ℕ) (size : ℕ) (is : List Entry) (b : List ℕ) (st : State) (x n g v : ℕ) → Booked t size is b st.entries st.names st.datums st.bytes (plus_one st.root) st.book_full
    → entry_of t b st x n g < known b st → (st.book_full ≡ false → v ≡ payload_at b (4 * entry_of t b st x n g)) → Symbols t size is b st x n g is v
kept t size is b st x n g v s h e =
    let m = symbol_kept t b st x n g h in
    record { entries = st.entries; names = st.names; root = st.root; full = st.book_full; state = m.1; later = λ f. f; booked = rw m.0 s; number = rw m.2 e }

-- full already: whatever is found, nothing more is known
over : (t : List ℕ) (size : ℕ) (is ks : List Entry) (b b' : List ℕ) (entries names datums bytes root names' root' : ℕ) (full : Bool) → Booked t size is b entries names datums bytes root full
    → full ≡ true → length is ≤ length ks → all_small ks ≡ true → length b' ≡ length b → Booked t size ks b' entries names' datums bytes root' true
over t size is ks b b' entries names datums bytes root names' root' full s f h i e =
    record { long = e ∙ s.long; held = held_over (length ks) s.held f h; small = i; written = λ z. true_not_false z; counted = λ z. true_not_false z }

over_made : (t : List ℕ) (size : ℕ) (is ks : List Entry) (b : List ℕ) (st : State) (x n g v : ℕ) → Booked t size is b st.entries st.names st.datums st.bytes (plus_one st.root) st.book_full
    → st.book_full ≡ true → length is ≤ length ks → all_small ks ≡ true → Dec (entry_of t b st x n g < known b st) → Symbols t size is b st x n g ks v
over_made t size is ks b st x n g v s f h i (yes d) =
    let m = symbol_kept t b st x n g d in
    record {
      entries = st.entries;
      names = st.names;
      root = st.root;
      full = st.book_full;
      state = m.1;
      later = λ z. z;
      booked = rw (m.0, f) (over t size is ks b b st.entries st.names st.datums st.bytes (plus_one st.root) st.names (plus_one st.root) st.book_full s f h i refl);
      number = λ z. true_not_false (sym f ∙ z);
    }
over_made t size is ks b st x n g v s f h i (no d) =
    let m = symbol_made t b st x n g (omega arith) in
    let o : ltb st.entries (length b / 4) ≡ false = rw s.long (held_none s.held (omega (arith, held_full s.held f))) in
    record {
      entries = st.entries;
      names = more st.names (length b / 4);
      root = root_of b st;
      full = true;
      state = rw o at m.1;
      later = λ z. true_not_false z;
      booked = rw m.0
          (over t size is ks b (entry_list (linked b st (descent_to t b st x n g)) st (word_of (name_tag t x n g) (low st.names)) x n (sigil_code g)) st.entries st.names st.datums st.bytes (plus_one st.root) (more st.names (length b / 4)) (plus_one (root_of b st)) st.book_full s f h i
          (entry_long (linked b st (descent_to t b st x n g)) st (word_of (name_tag t x n g) (low st.names)) x n (sigil_code g) ∙ linked_length t b x n g st));
      number = λ z. true_not_false z;
    }

-- the entries and the number of the rules
abbrev entries_of : Search → List Entry → ℕ → ℕ → ℕ → List Entry
entries_of (found v) is x n g = is
entries_of missing is x n g = added 50 is x n g

abbrev number_of : Search → List Entry → ℕ
number_of (found v) is = v
number_of missing is = next_number 50 is

symbols : (t : List ℕ) (size : ℕ) (is : List Entry) (b : List ℕ) (st : State) (x n g : ℕ) → Sigil g → Booked t size is b st.entries st.names st.datums st.bytes (plus_one st.root) st.book_full
    → Symbols t size is b st x n g (entries_of (find_name t is x n g) is x n g) (number_of (find_name t is x n g) is)
unfolding Finds
symbols t size is b st x n g p s = which st.book_full refl (find_name t is x n g) refl
  where
    which : (f : Bool) → st.book_full ≡ f → (o : Search) → find_name t is x n g ≡ o → Symbols t size is b st x n g (entries_of o is x n g) (number_of o is)
    which true f (found v) e = over_made t size is is b st x n g v s f (omega arith) s.small (dec_lt (entry_of t b st x n g) (known b st))
    which true f missing e = over_made t size is (added 50 is x n g) b st x n g (next_number 50 is) s f (omega (arith, length_snoc is (entry 50 (next_number 50 is) x n g)))
        (small_snoc is (entry 50 (next_number 50 is) x n g) s.small (small_number 50 is)) (dec_lt (entry_of t b st x n g) (known b st))
    which false f (found v) e =
        let q = search_same t size is b st x n g p s f in
        let w : Finds (found v) (length is) (entry_of t b st x n g) b = rw e at q.finds in
        kept t size is b st x n g v s (omega (arith, q.known_is, w.0)) (λ z. sym w.1)
    which false f missing e =
        let q = search_same t size is b st x n g p s f in
        let w : Finds missing (length is) (entry_of t b st x n g) b = rw e at q.finds in
        made t size is b st x n g p s q (w ∙ sym q.known_is)

-- closing up takes the links away
pub unlinked_exact : (t : List ℕ) (size : ℕ) (is : List Entry) (b : List ℕ) (st : State) → Booked t size is b st.entries st.names st.datums st.bytes (plus_one st.root) st.book_full
    → Exact entry_words size is (unlinked b st) st.entries st.book_full
unfolding unlinked
unlinked_exact t size is b st s = record {
  long = unlink_length b 0 (known b st) ∙ s.long;
  held = s.held;
  same = λ f.
      let w = s.written f in
      let m : known b st ≡ length w.qs = omega (arith, held_count s.held f, held_fits s.held f, s.long, written_length w) in
      ap (λ (z : ℕ). unlink_from b 0 z) m ∙ unlink_all size w.qs b w.words_are ∙ ap (λ (z : List Entry). fill size (words_of entry_words z)) w.bare_are;
}

-- The whole memory.
pub record Sim (t : List ℕ) (L N B : ℕ) (i : Ideal) (m : Mem) : Type 0 where
  pub st : State
  pub is : m.st ≡ st
  pub listed : Listed L i.records m.list st.records st.list_full st.book_full
  pub noted : Exact note_words N i.notes m.notes st.notes st.notes_full
  pub booked : Booked t B i.entries m.book st.entries st.names st.datums st.bytes (plus_one st.root) st.book_full
  pub line : i.line ≡ st.line
  pub first_none : eqb i.first_datum 0 ≡ eqb (first_in st) 0
  pub first_is : st.book_full ≡ false → i.first_datum ≡ first_in st
  pub first_small : first_in st < 4294967296
  pub whole : all_fresh i.records ≡ true

-- flags stay set
abbrev pub Later : Mem → Mem → Type 0
Later m n = Stays m.st n.st

abbrev pub Fits : Mem → Type 0
Fits m = list_full m.st ≡ false

abbrev pub Room : ℕ → Mem → Type 0
Room L m = (list_full m.st ≡ false) × (records_in m.st < most_records L)

-- the flags and the numbers as the memory has them
module _ {t : List ℕ} {L N B : ℕ} {i : Ideal} {m : Mem} (s : Sim t L N B i m) where
  pub list_full_lem : list_full m.st ≡ s.st.list_full
  list_full_lem = rw s.is refl

  pub book_full_lem : book_full m.st ≡ s.st.book_full
  book_full_lem = rw s.is refl

  pub records_held : Held (most_records L) (length i.records) (records_in m.st) (list_full m.st)
  records_held = rw s.is s.listed.held

  pub count_is : Fits m → length i.records ≡ as_word (records_in m.st)
  count_is f = omega (arith, held_count records_held f, records_held.number)

  pub first_word : as_word (first_in m.st) ≡ first_in s.st
  first_word = rw s.is (omega (arith, s.first_small))

-- a line's first datum, by the number that is one more
first_set : (o : Option DatumIndex) (n : ℕ) → datum_word (Some (unwrap_or o (record { 0 = n }))) ≡ first_of (datum_word o) n
first_set None n = refl
first_set (Some d) n = refl

first_some : (d n : ℕ) → eqb (first_of d n) 0 ≡ false
first_some zero n = ne_eqb (suc n) 0 (λ e. omega arith)
first_some (suc d) n = ne_eqb (suc d) 0 (λ e. omega arith)

same_head : (k l l' : ℕ) → SameLine l l' → word_of k l' ≡ word_of k l
same_head k l l' e = omega arith

first_fits : (d n : ℕ) → d < 4294967296 → first_of d (low n) < 4294967296
first_fits zero n h = omega arith
first_fits (suc d) n h = h

module _ (L N B : ℕ) (t : List ℕ) (clean : Ideal → Ideal) where
  pub sim_line : (i : Ideal) (m : Mem) (l : ℕ) → Sim t L N B i m → Sim t L N B ((ideal_r t clean).begin_line i l) ((mem_r t).begin_line m l)
  sim_line i m l s = record {
    st = with_line s.st l;
    is = rw s.is;
    listed = s.listed;
    noted = s.noted;
    booked = s.booked;
    line = refl;
    first_none = refl;
    first_is = λ f. refl;
    first_small = omega arith;
    whole = s.whole;
  }

  pub sim_emit : (i : Ideal) (m : Mem) (k : ℕ) (r : Range) (a a' b b' c : ℕ) → fresh k b ≡ true → (s : Sim t L N B i m)
      → (s.st.list_full ≡ false → hide_rec s.st.book_full (rec k s.st.line r a' b' c) ≡ hide_rec s.st.book_full (rec k s.st.line r a b c))
      → Sim t L N B ((ideal_r t clean).emit i k r a b c) ((mem_r t).emit m k r a' b' c)
  sim_emit i m k r a a' b b' c w s e =
      let h : i.line ≡ s.st.line = s.line in
      record {
        st = put_in m.list s.st;
        is = rw s.is (put_form m.list s.st);
        listed = rw s.is (listed_emit L i.records m.list s.st (rec k i.line r a b c) (rec k s.st.line r a' b' c) s.listed (rw h e));
        noted = s.noted;
        booked = s.booked;
        line = s.line;
        first_none = s.first_none;
        first_is = s.first_is;
        first_small = s.first_small;
        whole = fresh_snoc i.records (rec k i.line r a b c) s.whole w;
      }

  -- a note, whatever its last word
  sim_put_note : (i : Ideal) (m : Mem) (l l' k : ℕ) (r : Range) (v n : ℕ) → SameLine l l' → Sim t L N B i m
      → Sim t L N B (ideal i.records (i.notes ++ (lost_note k l r v n ∷ [])) i.entries i.line i.first_datum) (put_note m (word_of k l') (range_word r) v n)
  unfolding note_list
  sim_put_note i m l l' k r v n e s = record {
    st = note_in m.notes s.st;
    is = rw s.is (note_form m.notes s.st);
    listed = s.listed;
    noted = rw (s.is, same_head k l l' e) (exact_put note_words (λ x. refl) N i.notes m.notes s.st.notes s.st.notes_full (lost_note k l r v n) (word_of k l) (range_word r) v n refl s.noted);
    booked = s.booked;
    line = s.line;
    first_none = s.first_none;
    first_is = s.first_is;
    first_small = s.first_small;
    whole = s.whole;
  }

  pub sim_note_at : (i : Ideal) (m : Mem) (l l' k : ℕ) (r : Range) (v : ℕ) → SameLine l l' → Sim t L N B i m → Sim t L N B ((ideal_r t clean).note_at i l k r v) ((mem_r t).note_at m l' k r v)
  sim_note_at i m l l' k r v e s = sim_put_note i m l l' k r v 0 e s

  pub sim_note_lost : (i : Ideal) (m : Mem) (k : ℕ) (r : Range) (v n : ℕ) → Sim t L N B i m → Sim t L N B ((ideal_r t clean).note_lost i k r v n) ((mem_r t).note_lost m k r v n)
  sim_note_lost i m k r v n s = sim_put_note i m i.line (line_in m.st) k r v n (ap (λ (z : ℕ). z % 16777216) (rw s.is s.line)) s

  pub sim_note : (i : Ideal) (m : Mem) (k : ℕ) (r : Range) (v : ℕ) → Sim t L N B i m → Sim t L N B ((ideal_r t clean).note i k r v) ((mem_r t).note m k r v)
  sim_note i m k r v s = sim_note_lost i m k r v 0 s

  pub sim_datum : (i : Ideal) (m : Mem) (x n q : ℕ) → Sim t L N B i m → Sim t L N B ((ideal_r t clean).datum i x n q) ((mem_r t).datum m x n q)
  unfolding datum_list datum_st
  sim_datum i m x n q s =
      let o = entry_later m.book s.st in
      record {
        st = with_data (entry_in m.book s.st) (more s.st.datums (length m.book / 4)) (Some (unwrap_or s.st.first (record { 0 = low s.st.datums })));
        is = rw (s.is, entry_form m.book s.st);
        listed = listed_later L i.records m.list s.st.records s.st.list_full s.st.book_full (entry_in m.book s.st).book_full o s.listed;
        noted = s.noted;
        booked = rw s.is (booked_other t B i.entries m.book s.st 51 s.st.datums x n q s.booked (λ e. omega arith) (omega arith) (λ f. (s.booked.counted f).datums_are));
        line = s.line;
        first_none = first_some i.first_datum (next_number 51 i.entries) ∙ sym (rw (first_set s.st.first (low s.st.datums)) (first_some (first_in s.st) (low s.st.datums)));
        first_is = λ f. rw (s.first_is (o f), first_set s.st.first (low s.st.datums), ← (s.booked.counted (o f)).datums_are);
        first_small = rw (first_set s.st.first (low s.st.datums)) (first_fits (first_in s.st) s.st.datums s.first_small);
        whole = s.whole;
      }

  pub sim_byte : (i : Ideal) (m : Mem) (x n v : ℕ) → Sim t L N B i m → Sim t L N B ((ideal_r t clean).byte i x n v) ((mem_r t).byte m x n v)
  unfolding byte_list byte_st
  sim_byte i m x n v s =
      let o = entry_later m.book s.st in
      record {
        st = with_bytes (entry_in m.book s.st) (more s.st.bytes (length m.book / 4));
        is = rw (s.is, entry_form m.book s.st);
        listed = listed_later L i.records m.list s.st.records s.st.list_full s.st.book_full (entry_in m.book s.st).book_full o s.listed;
        noted = s.noted;
        booked = rw s.is (booked_other t B i.entries m.book s.st 52 s.st.bytes x n v s.booked (λ e. omega arith) (omega arith) (λ f. (s.booked.counted f).bytes_are));
        line = s.line;
        first_none = s.first_none;
        first_is = λ f. s.first_is (o f);
        first_small = s.first_small;
        whole = s.whole;
      }

  pub sim_symbol : (i : Ideal) (m : Mem) (x n g : ℕ) → Sigil g → Sim t L N B i m → Sim t L N B ((ideal_r t clean).symbol i x n g).state ((mem_r t).symbol m x n g).state
  unfolding symbol_of
  sim_symbol i m x n g p s = go (find_name t i.entries x n g) (symbols t B i.entries m.book s.st x n g p s.booked)
    where
      with_entries_lem : (ks : List Entry) (v : ℕ) → Symbols t B i.entries m.book s.st x n g ks v
          → Sim t L N B (ideal i.records i.notes ks i.line i.first_datum) ((mem_r t).symbol m x n g).state
      with_entries_lem ks v q = record {
        st = with_names (with_entries s.st q.entries q.full) q.names q.root;
        is = rw s.is q.state;
        listed = listed_later L i.records m.list s.st.records s.st.list_full s.st.book_full q.full q.later s.listed;
        noted = s.noted;
        booked = rw s.is q.booked;
        line = s.line;
        first_none = s.first_none;
        first_is = λ f. s.first_is (q.later f);
        first_small = s.first_small;
        whole = s.whole;
      }

      go : (o : Search) → Symbols t B i.entries m.book s.st x n g (entries_of o i.entries x n g) (number_of o i.entries)
          → Sim t L N B (symbol_in o i x n g).state ((mem_r t).symbol m x n g).state
      go (found v) q = with_entries_lem i.entries v q
      go missing q = with_entries_lem (added 50 i.entries x n g) (next_number 50 i.entries) q

  pub sim_symbol_number : (i : Ideal) (m : Mem) (x n g : ℕ) → Sigil g → Sim t L N B i m → book_full (symbol_st t m.book m.st x n g) ≡ false
      → ((ideal_r t clean).symbol i x n g).number ≡ ((mem_r t).symbol m x n g).number
  unfolding symbol_of
  sim_symbol_number i m x n g p s f = go (find_name t i.entries x n g) (symbols t B i.entries m.book s.st x n g p s.booked)
    where
      same : (ks : List Entry) (v : ℕ) → Symbols t B i.entries m.book s.st x n g ks v → v ≡ symbol_number t m.book m.st x n g
      same ks v q = rw s.is (q.number (rw (s.is, q.state) at f))

      go : (o : Search) → Symbols t B i.entries m.book s.st x n g (entries_of o i.entries x n g) (number_of o i.entries)
          → (symbol_in o i x n g).number ≡ symbol_number t m.book m.st x n g
      go (found v) q = same i.entries v q
      go missing q = same (added 50 i.entries x n g) (next_number 50 i.entries) q

  -- a record changed
  sim_change : (w : List ℕ → List ℕ) (f g : Rec → Rec) → ((r : Rec) (ys : List ℕ) → w (rec_words r ++ ys) ≡ rec_words (g r) ++ ys) → ((p : List ℕ) → length (w p) ≡ length p)
      → (i : Ideal) (m : Mem) (k k' : ℕ) → (s : Sim t L N B i m) → (s.st.list_full ≡ false → k ≡ k')
      → (s.st.list_full ≡ false → (r : Rec) → hide_rec s.st.book_full r ≡ hide_rec s.st.book_full (get_or i.records k no_rec) → hide_rec s.st.book_full (g r) ≡ hide_rec s.st.book_full (f (get_or i.records k no_rec)))
      → fresh_rec (f (get_or i.records k no_rec)) ≡ true
      → Sim t L N B (ideal (change f i.records k) i.notes i.entries i.line i.first_datum) (mem (on_rec w m.list m.st k') m.notes m.book m.st)
  sim_change w f g h n i m k k' s e d v = record {
    st = s.st;
    is = s.is;
    listed = rw s.is (listed_change w f g h n L i.records m.list s.st k k' s.listed e d);
    noted = s.noted;
    booked = s.booked;
    line = s.line;
    first_none = s.first_none;
    first_is = s.first_is;
    first_small = s.first_small;
    whole = fresh_change f i.records k s.whole v;
  }

  pub sim_patch : (i : Ideal) (m : Mem) (k k' v v' : ℕ) → (s : Sim t L N B i m) → (s.st.list_full ≡ false → k ≡ k') → (s.st.list_full ≡ false → v ≡ v') → Sim t L N B ((ideal_r t clean).patch i k v) ((mem_r t).patch m k' v')
  sim_patch i m k k' v v' s e d = sim_change (set_a v') (with_a v) (with_a v') (λ r ys. refl) (λ p. length-set p 2 v') i m k k' s e
      (λ z r a. rw (← d z) (hide_change s.st.book_full (with_a v) r (get_or i.records k no_rec) (hide_with_a s.st.book_full v) a)) (fresh_at i.records k s.whole)

  pub sim_patch_end : (i : Ideal) (m : Mem) (k k' v v' : ℕ) → (s : Sim t L N B i m) → (s.st.list_full ≡ false → k ≡ k') → (s.st.list_full ≡ false → v ≡ v') → Sim t L N B ((ideal_r t clean).patch_end i k v) ((mem_r t).patch_end m k' v')
  sim_patch_end i m k k' v v' s e d = sim_change (set_c v') (with_c v) (with_c v') (λ r ys. refl) (λ p. length-set p 4 v') i m k k' s e
      (λ z r a. rw (← d z) (hide_change s.st.book_full (with_c v) r (get_or i.records k no_rec) (hide_with_c s.st.book_full v) a)) (fresh_at i.records k s.whole)

  pub sim_settle : (i : Ideal) (m : Mem) (k v v' : ℕ) → eqb (get_or i.records k no_rec).call 25 ≡ false → (s : Sim t L N B i m) → (s.st.list_full ≡ false → v ≡ v') → Sim t L N B ((ideal_r t clean).settle i k v) ((mem_r t).settle m k v')
  sim_settle i m k v v' u s d = sim_change (settle_args v') (settled v) (settled v') (λ r ys. refl) (λ p. simp length-set) i m k k s (λ z. refl)
      (λ z r a. rw (← d z) (hide_change s.st.book_full (settled v) r (get_or i.records k no_rec) (hide_settled s.st.book_full v) a)) (rw u)

  pub sim_settle_number : (i : Ideal) (m : Mem) (k v v' : ℕ) → (get_or i.records k no_rec).call ≡ 31 → (s : Sim t L N B i m) → (s.st.book_full ≡ false → v ≡ v') → Sim t L N B ((ideal_r t clean).settle i k v) ((mem_r t).settle m k v')
  sim_settle_number i m k v v' u s d = sim_change (settle_args v') (settled v) (settled v') (λ r ys. refl) (λ p. simp length-set) i m k k s (λ z. refl)
      (λ z r a. hide_change s.st.book_full (settled v') r (get_or i.records k no_rec) (hide_settled s.st.book_full v') a
      ∙ sym (hide_number s.st.book_full (get_or i.records k no_rec).call (get_or i.records k no_rec).line (get_or i.records k no_rec).range v v' 0 0 (rw u) d)) (rw u)

  pub sim_drop_label : (i : Ideal) (m : Mem) (k : ℕ) → eqb (get_or i.records k no_rec).call 25 ≡ false → Sim t L N B i m → Sim t L N B ((ideal_r t clean).drop_label i k) ((mem_r t).drop_label m k)
  sim_drop_label i m k u s = sim_change clear_args unlabelled unlabelled (λ r ys. refl) (λ p. simp length-set) i m k k s (λ z. refl)
      (λ z r a. hide_change s.st.book_full unlabelled r (get_or i.records k no_rec) (hide_unlabelled s.st.book_full) a) (rw u)
