-- The memory's recorder simulates the rules' recorder: the lent words hold what the rules say, as far as it fits.
use Rattle.std.specs.Prelude.{None}
use mathlib.Core.Path.{◌≡◌, refl, sym, ap, ◌∙◌}
use mathlib.Core.List.{List, [], ◌++◌}
use mathlib.Core.Bool.{true, false}
use Prim.Native.Nat.{ℕ, ◌-◌, ◌<◌, ◌/◌}
use lib.Dec.{eqb}
use lib.ListN.{length, replicate, length-replicate}
use borrow.Author.Tests.{le-ltb}
use native.Mathlib.Omega.{arith}
use Rattle.recorder.specs.Ideal.{rec, Ideal, ideal, how_many}
use Rattle.recorder.specs.Layout.{fill, most_records}
use Rattle.recorder.specs.Closing.{clean_up, close_whiles, open_notes, rules_r}
use Rattle.recorder.specs.Mem.{Mem, mem, mem_r, list_full, book_full, nothing, low, present, patch_whiles, clean_up_all, unlinked}
use Rattle.recorder.proofs.Laws.{note_records, note_list_full}
use Rattle.simulation.proofs.Hide.{hide_rec, hide_number, hide_numbers, all_fresh, all_hidden}
use Rattle.simulation.proofs.States.{line_stays, put_stays, note_stays, symbol_stays, datum_stays, byte_stays}
use Rattle.simulation.proofs.Simulation.{Simulation}
use Rattle.simulation.proofs.Tree.{Tree}
use Rattle.simulation.proofs.Book.{bares, all_small}
use Rattle.simulation.specs.Held.{Held}
use Rattle.simulation.proofs.Sim.{Sim, Later, Fits, Room, held_count, held_fits, same_length, unlinked_exact, listed_look, list_full_lem, book_full_lem, count_is, first_word, sim_line, sim_emit, sim_note_at, sim_note_lost, sim_note, sim_datum, sim_byte, sim_symbol, sim_symbol_number, sim_patch, sim_patch_end, sim_settle, sim_settle_number, sim_drop_label}
use Rattle.simulation.proofs.Delays.{Holds}
use Rattle.simulation.proofs.WhileWords.{Opened}
use Rattle.simulation.proofs.Clean.{Done, hide_notes, same_records, whiles_are, clean_done}

-- Zeros everywhere hold nothing.
pub sim_start : (t : List ℕ) (L N B : ℕ) → Sim t L N B (ideal [] [] [] 0 0) (mem (replicate L 0) (replicate N 0) (replicate B 0) nothing)
unfolding all_small all_fresh how_many bares
sim_start t L N B = record {
  st = record { records = 0; notes = 0; entries = 0; names = 0; root = None; datums = 0; bytes = 0; line = 0; first = None; list_full = false; notes_full = false; book_full = false };
  is = refl;
  listed = record { long = length-replicate L 0; held = none (most_records L); same = λ f. record { rs = []; words_are = empty L; hidden = refl } };
  noted = record { long = length-replicate N 0; held = none (N / 4); same = λ f. empty N };
  booked = record {
    long = length-replicate B 0;
    held = none (B / 4);
    small = refl;
    written = λ f. record { qs = []; words_are = empty B; bare_are = refl; tree = no_tree };
    counted = λ f. record { names_are = refl; datums_are = refl; bytes_are = refl };
  };
  line = refl;
  first_none = refl;
  first_is = λ f. refl;
  first_small = omega arith;
  whole = refl;
}
  where
    none : (cap : ℕ) → Held cap 0 0 false
    none cap = record { number = omega arith; flag = sym (le-ltb cap 0 (omega arith)) }

    no_tree : Tree t (replicate B 0) 0 0
    no_tree = record {
      none = λ z k l m e. omega arith;
      first = λ w. absurd (omega arith);
      reached = λ w. absurd (omega arith);
      links = λ k l. absurd (omega arith);
      sigils = λ k l. absurd (omega arith);
      tags = λ k l. absurd (omega arith);
      kinds = λ k l. absurd (omega arith);
    }

    empty : (size : ℕ) → replicate size 0 ≡ fill size []
    empty size = let e : size ≡ size - 0 = omega arith in ap (λ (n : ℕ). replicate n 0) e

module _ (L N B : ℕ) (t : List ℕ) where
  pub sim_clean : (i : Ideal) (m : Mem) → Sim t L N B i m → Room L m → Done L N B ((rules_r t).clean_up i) ((mem_r t).clean_up m)
  unfolding clean_up_all
  sim_clean i m s r =
      let u = s.st in
      let z : u.list_full ≡ false = sym (list_full_lem s) ∙ r.0 in
      let y : u.records < most_records L = rw s.is at r.1 in
      let q = s.listed.same z in
      let n = same_length q in
      let c = held_count s.listed.held z in
      let f = held_fits s.listed.held z in
      let h : Holds L q.rs m.list = record { words_are = q.words_are; long = s.listed.long; room = omega arith } in
      let w : all_fresh q.rs ≡ true = sym (all_hidden u.book_full q.rs) ∙ ap all_fresh q.hidden ∙ all_hidden u.book_full i.records ∙ s.whole in
      let p : present m.list u ≡ length q.rs = omega (arith, s.listed.long) in
      let o : open_notes q.rs ≡ open_notes i.records = sym (hide_notes u.book_full q.rs) ∙ ap open_notes q.hidden ∙ hide_notes u.book_full i.records in
      let O : Opened L N (close_whiles q.rs 0) (i.notes ++ open_notes i.records) u (patch_whiles m.list m.notes u) =
      rw o at (whiles_are L N q.rs i.notes m.list m.notes u h w s.noted p) in
      rw s.is (clean_done L N B i q.rs u (patch_whiles m.list m.notes u) O s.listed.held z y n s.line (unlinked m.book u)
      (λ e. same_records u.book_full q.rs i.records e q.hidden) (unlinked_exact t B i.entries m.book u s.booked))

  abbrev pub memory_simulates : Simulation (rules_r t) (mem_r t)
  memory_simulates = record {
    Sim = Sim t L N B;
    Number = λ m x y. book_full m.st ≡ false → x ≡ y;
    Place = λ m x y. list_full m.st ≡ false → x ≡ y;
    Later = Later;
    later_refl = λ m. (λ e. e, λ e. e);
    later_trans = λ a b c p q. (λ e. p.0 (q.0 e), λ e. p.1 (q.1 e));
    number_refl = λ m x e. refl;
    number_later = λ m n x y p q e. q (p.1 e);
    number_map = λ m f x y q e. ap f (q e);
    place_refl = λ m x e. refl;
    place_later = λ m n x y p q e. q (p.0 e);
    Fits = Fits;
    fits_later = λ m n p e. p.0 e;
    place_is = λ m x y f q. q f;
    Room = Room L;
    room_fits = λ m r. r.0;
    begin_line = (sim_line L N B t clean_up);
    begin_line_later = λ m l. line_stays m.st l;
    emit = λ i m k r a b c w s. (sim_emit L N B t clean_up) i m k r a a b b c w s (λ f. refl);
    emit_number = λ i m k r a a' b c w n s q. (sim_emit L N B t clean_up) i m k r a a' b b c w s (λ f. sym (hide_number s.st.book_full k s.st.line r a a' b c n (λ e. q (book_full_lem s ∙ e))));
    emit_numbers = λ i m k r a a' b b' c w n n2 s q o. (sim_emit L N B t clean_up) i m k r a a' b b' c w s
        (λ f. sym (hide_numbers s.st.book_full k s.st.line r a a' b b' c n n2 (λ e. q (book_full_lem s ∙ e)) (λ e. o (book_full_lem s ∙ e))));
    emit_place = λ i m k r a a' b c w s q. (sim_emit L N B t clean_up) i m k r a a' b b c w s (λ f. ap (λ (z : ℕ). hide_rec s.st.book_full (rec k s.st.line r z b c)) (sym (q (list_full_lem s ∙ f))));
    emit_later = λ m k r a b c. put_stays m.list m.st;
    count = λ i m s e. count_is s e;
    note = (sim_note L N B t clean_up);
    note_later_lem = λ m k r v. note_stays m.notes m.st;
    note_lost = (sim_note_lost L N B t clean_up);
    note_lost_later = λ m k r v n. note_stays m.notes m.st;
    note_at = (sim_note_at L N B t clean_up);
    note_at_later = λ m l k r v. note_stays m.notes m.st;
    symbol = (sim_symbol L N B t clean_up);
    symbol_number_lem = λ i m x n g p s f. (sim_symbol_number L N B t clean_up) i m x n g p s f;
    symbol_later = λ m x n g. symbol_stays t m.book m.st x n g;
    datum = (sim_datum L N B t clean_up);
    datum_later = λ m x n q. datum_stays m.book m.st;
    first_datum = λ i m s f. s.first_is (sym (book_full_lem s) ∙ f) ∙ sym (first_word s);
    first_datum_none = λ i m s. s.first_none ∙ ap (λ (z : ℕ). eqb z 0) (sym (first_word s));
    byte = (sim_byte L N B t clean_up);
    byte_later = λ m x n v. byte_stays m.book m.st;
    next_byte = λ i m s f. rw s.is (ap low (sym (s.booked.counted (sym (book_full_lem s) ∙ f)).bytes_are));
    patch = λ i m k k' v v' s e d. (sim_patch L N B t clean_up) i m k k' v v' s (λ f. e (list_full_lem s ∙ f)) (λ f. d (list_full_lem s ∙ f));
    patch_later = λ m k v. (λ e. e, λ e. e);
    patch_end = λ i m k k' v v' s e d. (sim_patch_end L N B t clean_up) i m k k' v v' s (λ f. e (list_full_lem s ∙ f)) (λ f. d (list_full_lem s ∙ f));
    patch_end_later = λ m k v. (λ e. e, λ e. e);
    look = λ i m k s f. listed_look L i.records m.list s.st.records s.st.list_full s.st.book_full k s.listed (sym (list_full_lem s) ∙ f);
    settle = λ i m k v v' u s d. (sim_settle L N B t clean_up) i m k v v' u s (λ f. d (list_full_lem s ∙ f));
    settle_number = λ i m k v v' u s d. (sim_settle_number L N B t clean_up) i m k v v' u s (λ f. d (book_full_lem s ∙ f));
    settle_later = λ m k v. (λ e. e, λ e. e);
    drop_label = (sim_drop_label L N B t clean_up);
    drop_label_later = λ m k. (λ e. e, λ e. e);
    note_at_fits = λ m l k r v f. note_list_full m.notes m.st ∙ f;
    settle_fits = λ m k v f. f;
    drop_label_fits = λ m k f. f;
    note_at_room = λ m l k r v f. (
      note_list_full m.notes m.st ∙ f.0,
      rw (note_records m.notes m.st) f.1,
    );
    settle_room = λ m k v f. f;
    drop_label_room = λ m k f. f;
    Done = Done L N B;
    clean_up = sim_clean;
  }
