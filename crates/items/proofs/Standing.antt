-- Every item of the tree of an accepted sheet stands in the sheet, uncut.
use mathlib.Core.Path.{◌≡◌, refl}
use mathlib.Core.Bool.{Bool, true, false}
use mathlib.Core.List.{List}
use Prim.Native.Nat.{ℕ, suc, ◌+◌, ◌*◌, ◌/◌, ◌%◌, ◌≤◌, ◌<◌}
use native.Mathlib.Omega.{arith}
use borrow.Author.Tests.{leb-true, ltb-true, ltb-false, eqb-true, eqb-false}
use lib.Dec.{leb, ltb, eqb}
use lib.ListN.{length, get_or, get_or-eq_default}
use Rattle.recorder.specs.Word.{pick, either, kind_at, payload, payload_at, next, range_of, range_at, label_at}
use Rattle.recorder.specs.declared.word.Range.{Range}
use Rattle.recorder.specs.Numbers.{zero_number, other_number}
use Rattle.recorder.proofs.Bools.{both_left, both_right}
use Rattle.sheet.specs.declared.form.Line.{Line}
use Rattle.sheet.specs.declared.form.Offence.{Offence}
use Rattle.sheet.specs.declared.form.Offence.TheVariants.{BadWord, BadRange}
use Rattle.std.specs.Prelude.{Ok, Err}
use Rattle.sheet.specs.Check.{Accepted, checked}
use Rattle.sheet.specs.Form
use Rattle.sheet.specs.Tree
use Rattle.sheet.proofs.Walks.{pick_behind}
use Rattle.walk.proofs.Accepted.{word_ends_at, range_ends_at, high_ends_at}
use Rattle.rules.proofs.SheetWalk.{two_parts}
use Rattle.bounds.specs.Uncut.{UncutLine}
use Rattle.bounds.proofs.Uncut.{word_taken, literal_uncut}
use Rattle.items.specs.Standing.{RangeStands, NameStands, TextStands, DatumStands, Stands, LabelStands, IsLiteral, number_literal, too_large_literal, Standing, Packed, of_literals, of_labels, of_ranges, Literals, Labels, Ranges}
use Rattle.items.specs.Items.{Items}
use Rattle.items.specs.Carries.{Carries}
use Rattle.items.proofs.Carried.{carried}

-- THEOREM: the range of a word is given back when it was packed into one number, which is a word
pub packed_back : (w : ℕ) → Packed (range_of w)
packed_back w =
    let a = payload w / 4096 in
    let b = payload w % 4096 in
    let e : (a * 65536 + b) / 65536 ≡ a = omega arith in
    let f : (a * 65536 + b) % 65536 ≡ b = omega arith in
    record { word = omega arith; back = rw (e, f) }

-- a quoted datum that passed has a unit
datum_unit : (quoted : ℕ) (r : Range) → Form.lacks_unit quoted r ≡ false → quoted ≡ 1 → r.start < r.end
datum_unit quoted r h e = go (ltb r.start r.end) refl (rw e at h)
  where
    go : (b : Bool) → ltb r.start r.end ≡ b → pick b false true ≡ false → r.start < r.end
    go true x y = ltb-true r.start r.end x
    go false x y = let z : ◌≡◌ {A = ℕ} 0 1 = cc in absurd (omega arith)

refused : (b : Bool) (q p : ℕ) (o : Offence) → pick b (Err o) (Ok q) ≡ Ok p → b ≡ false
refused true q p o e = let z : ◌≡◌ {A = ℕ} 0 1 = cc in absurd (omega arith)
refused false q p o e = refl

module _ (s : List ℕ) where
  -- behind the end of the sheet stands no word of a kind
  word_inside : (k p : ℕ) → kind_at s p ≡ suc k → p < length s
  word_inside k p e = go (ltb p (length s)) refl
    where
      go : (b : Bool) → ltb p (length s) ≡ b → p < length s
      go true h = ltb-true p (length s) h
      go false h = let z : get_or s p 0 ≡ 0 = get_or-eq_default s 0 (ltb-false p (length s) h) in absurd (omega arith)

  label_stands : (p q : ℕ) → Form.take_word s 3 65536 p ≡ Ok q → LabelStands s (label_at s p)
  label_stands p q e =
      let h = word_taken s 3 65536 p q e in
      record { at = p; inside = word_inside 2 p h.0; kind = h.0; same = omega (arith, h.1); short = omega arith }

  -- the halves that may stand behind an exponent make a number's mantissa
  low_is : (b : Bool) → either b false ≡ true → b ≡ true
  low_is true e = refl
  low_is false e = e

  halves_make : (e h l m : ℕ) → e < 257 → h < 65536 → l < 65536 → m ≡ h * 65536 + l → Form.high_fits e h ≡ true → Form.low_fits e l ≡ true → IsLiteral e m
  halves_make e h l m i j k x a b = go (eqb e 0) (eqb e 256) refl refl
    where
      none : h ≡ 0 → l ≡ 0 → m ≡ 0
      none c d = omega (arith, x, c, d)

      go : (c d : Bool) → eqb e 0 ≡ c → eqb e 256 ≡ d → IsLiteral e m
      go true d f g =
          let z : e ≡ 0 = eqb-true e 0 f in
          let y : m ≡ 0 = none (eqb-true h 0 (rw f at a)) (eqb-true l 0 (low_is (eqb l 0) (rw f at b))) in
          number_literal (rw (z, y) zero_number)
      go false true f g =
          let z : e ≡ 256 = eqb-true e 256 g in
          let y : m ≡ 0 = none (eqb-true h 0 (rw (f, g) at a)) (eqb-true l 0 (low_is (eqb l 0) (rw (f, g) at b))) in
          rw (z, y) too_large_literal
      go false false f g =
          let c : 32768 ≤ h = leb-true 32768 h (rw (f, g) at a) in
          number_literal (other_number (omega (arith, eqb-false e 0 f)) (omega (arith, eqb-false e 256 g, i)) (omega (arith, x, c)) (omega (arith, x, j, k)))

  value_is : (p q : ℕ) → Form.number_form s p ≡ Ok q → IsLiteral (payload_at s p) (Tree.mantissa_at s (next s p))
  unfolding Form.number_form Form.high_form Form.low_form
  value_is p q e =
      let k = payload_at s p in
      let h = next s p in
      let l = next s h in
      let o = literal_uncut s p q e in
      let u = two_parts (Form.take_word s 10 257 p) (λ z. Form.then (Form.high_form s k z) (λ r. Form.low_form s k r)) h q (word_ends_at s 10 257 p) e in
      let v = two_parts (Form.high_form s k h) (λ r. Form.low_form s k r) l q (high_ends_at s k h) u.1 in
      let x = two_parts (Form.take_word s 11 65536 h) _ l l (word_ends_at s 11 65536 h) v.0 in
      let y = two_parts (Form.take_word s 11 65536 l) _ (next s l) q (word_ends_at s 11 65536 l) v.1 in
      halves_make k (payload_at s h) (payload_at s l) _ (word_taken s 10 257 p h u.0).1 o.high o.low o.exact
      (pick_behind (Form.high_fits k (payload_at s h)) l l (BadWord h) x.1).0
      (pick_behind (Form.low_fits k (payload_at s l)) (next s l) q (BadWord l) y.1).0

  value_stands : (p q : ℕ) → Form.number_form s p ≡ Ok q → Stands s (payload_at s p) (Tree.mantissa_at s (next s p))
  value_stands p q e = let h = literal_uncut s p q e in record { at = p; literal = h; exponent = refl; mantissa = h.exact }

  module _ (t : List ℕ) (line : Line) (u : UncutLine t line.base line.len) where
    range_stands : (p q : ℕ) → Form.range_form s line p ≡ Ok q → RangeStands s t line (range_at s p)
    unfolding Form.range_form
    range_stands p q e =
        let r = range_at s p in
        let v = two_parts (Form.take_word s 1 16777216 p) _ (next s p) q (word_ends_at s 1 16777216 p) e in
        let k = (word_taken s 1 16777216 p (next s p) v.0).0 in
        let h = (pick_behind (Form.in_line line r) (next s p) q (BadRange p) v.1).0 in
        let a : r.start ≤ r.end = leb-true _ _ (both_left (leb r.start r.end) (leb r.end line.len) h) in
        let b : r.end ≤ line.len = leb-true _ _ (both_right (leb r.start r.end) (leb r.end line.len) h) in
        record { at = p; inside = word_inside 0 p k; kind = k; same = refl; rises = a; within = b; short = omega arith; in_text = omega (arith, b, u.within) }

    name_stands : (p q : ℕ) → Form.name_form s t line p ≡ Ok q → NameStands s t line (range_at s p)
    unfolding Form.name_form
    name_stands p q e =
        let v = two_parts (Form.range_form s line p) _ (next s p) q (range_ends_at s line p) e in
        record { range = range_stands p (next s p) v.0; well_formed = (pick_behind (Form.is_name_range s t line (range_at s p)) (next s p) q (BadRange p) v.1).0 }

    text_stands : (p q : ℕ) → Form.text_form s line p ≡ Ok q → TextStands s t line (range_at s p)
    unfolding Form.text_form
    text_stands p q e =
        let v = two_parts (Form.range_form s line p) _ (next s p) q (range_ends_at s line p) e in
        record { range = range_stands p (next s p) v.0; unit = ltb-true _ _ (pick_behind (Form.has_unit (range_at s p)) (next s p) q (BadRange p) v.1).0 }

    datum_stands : (p q : ℕ) → Form.datum_form s line p ≡ Ok q → DatumStands s t line (range_at s p) (payload_at s (next s p))
    unfolding Form.datum_form range_stands
    datum_stands p q e =
        let m = next s p in
        let n = payload_at s m in
        let v = two_parts (Form.range_form s line p) _ m q (range_ends_at s line p) e in
        let w = two_parts (Form.take_word s 5 2 m) _ (next s m) q (word_ends_at s 5 2 m) v.1 in
        let h = word_taken s 5 2 m (next s m) w.0 in
        record {
          range = range_stands p m v.0;
          kind = h.0;
          same = refl;
          yes_or_no = h.1;
          unit = datum_unit n (range_at s p) (refused (Form.lacks_unit n (range_at s p)) (next s m) q (BadRange p) w.1);
        }

    pub standing : Carries s t line (Standing s t line)
    unfolding range_stands value_stands
    standing = record {
      range = range_stands;
      name = name_stands;
      text = text_stands;
      datum = datum_stands;
      number = λ p q m e h. record { range = range_stands p q e; value = value_stands (next s p) m h; behind = refl };
      label = label_stands;
    }

  literals : (t : List ℕ) (line : Line) → Carries s t line (of_literals (Stands s))
  literals t line = record {
    range = λ p q e. tt;
    name = λ p q e. tt;
    text = λ p q e. tt;
    datum = λ p q e. tt;
    number = λ p q m e h. value_stands (next s p) m h;
    label = λ p q e. tt;
  }

  numbers : (t : List ℕ) (line : Line) → Carries s t line (of_literals IsLiteral)
  numbers t line = record {
    range = λ p q e. tt;
    name = λ p q e. tt;
    text = λ p q e. tt;
    datum = λ p q e. tt;
    number = λ p q m e h. value_is (next s p) m h;
    label = λ p q e. tt;
  }

  labels : (t : List ℕ) (line : Line) → Carries s t line (of_labels (LabelStands s))
  labels t line = record {
    range = λ p q e. tt;
    name = λ p q e. tt;
    text = λ p q e. tt;
    datum = λ p q e. tt;
    number = λ p q m e h. tt;
    label = label_stands;
  }

  ranges : (t : List ℕ) (line : Line) → Carries s t line (of_ranges Packed)
  ranges t line = record {
    range = λ p q e. packed_back (get_or s p 0);
    name = λ p q e. packed_back (get_or s p 0);
    text = λ p q e. packed_back (get_or s p 0);
    datum = λ p q e. packed_back (get_or s p 0);
    number = λ p q m e h. packed_back (get_or s p 0);
    label = λ p q e. tt;
  }

module _ (s t : List ℕ) (work : ℕ) (accepted : checked s t work ≡ Accepted) where
  -- THEOREM: every range, name, text, datum, number and label in the tree of an accepted sheet stands in the sheet as words that the form
  -- checked: ranges within their lines, names well formed, strings, prompts and quoted data with a unit
  pub items_stand : Items (Standing s t) 0 (Tree.program_at s)
  items_stand = carried s t work (Standing s t) (λ line u. standing s t line u) accepted

  -- THEOREM: every number literal in the tree of an accepted sheet has the e and m that stand in the sheet, uncut
  pub literals_uncut : Literals (Stands s) (Tree.program_at s)
  literals_uncut = carried s t work (λ line. of_literals (Stands s)) (λ line u. literals s t line) accepted

  -- THEOREM: every number literal in the tree of an accepted sheet is a number, or too large for one
  pub literals_are : Literals IsLiteral (Tree.program_at s)
  literals_are = carried s t work (λ line. of_literals IsLiteral) (λ line u. numbers s t line) accepted

  -- THEOREM: every label in the tree of an accepted sheet, of a line or of what refers to one, stands in the sheet, uncut
  pub labels_uncut : Labels (LabelStands s) (Tree.program_at s)
  labels_uncut = carried s t work (λ line. of_labels (LabelStands s)) (λ line u. labels s t line) accepted

  -- THEOREM: every range in the tree of an accepted sheet is given back when it was packed into one number, which is a word
  pub ranges_packed : Ranges Packed (Tree.program_at s)
  ranges_packed = carried s t work (λ line. of_ranges Packed) (λ line u. ranges s t line) accepted
