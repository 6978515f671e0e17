-- A name of an accepted sheet is cut at its first blank.
use Rattle.std.proofs.Common.{◌≡◌, ◌≢◌, ℕ, zero, suc, ◌+◌, ◌-◌, ◌≤◌, ◌<◌, Bool, true, false, eqb, ltb, ◌⊎◌, inl, inr, List, length, sym, refl, ◌∙◌, arith, eqb-true, ltb-false, get_or}
use Rattle.recorder.specs.Word.{pick, both, either, next, range_at}
use Rattle.recorder.specs.declared.word.Range.{Range}
use Rattle.recorder.proofs.Bools.{both_left, both_right}
use Rattle.sheet.specs.declared.form.Line.{Line}
use Rattle.sheet.specs.Check.{Accepted, checked}
use Rattle.sheet.specs.Form
use Rattle.sheet.specs.Tree
use Rattle.rules.specs.Types.{sigil_unit, sigil_type}
use Rattle.rules.specs.Name.{text_place, ends_name, name_length, sigil_count, read_name}
use Rattle.rules.proofs.BoolLaws.{no_one}
use Rattle.bounds.specs.Uncut.{UncutLine}
use Rattle.items.specs.Carries.{Carries}
use Rattle.items.specs.Standing.{nothing, NameStands}
use Rattle.items.specs.Names.{CutAtBlank, Names}
use Rattle.items.proofs.Carried.{carried}
use Rattle.items.proofs.Standing.{standing}

-- a blank or a sigil ends what is kept
abbrev Sigil : ℕ → Type 0
Sigil u = (u ≡ 36) ⊎ (u ≡ 37)

ending : (u : ℕ) → ends_name u ≡ true → (u ≡ 32) ⊎ Sigil u
ending u e = go (eqb u 32) (eqb u 36) (eqb u 37) refl refl refl e
  where
    go : (a b c : Bool) → eqb u 32 ≡ a → eqb u 36 ≡ b → eqb u 37 ≡ c → either a (either b c) ≡ true → (u ≡ 32) ⊎ Sigil u
    go true b c f g h k = inl (eqb-true u 32 f)
    go false true c f g h k = inr (inl (eqb-true u 36 g))
    go false false true f g h k = inr (inr (eqb-true u 37 h))
    go false false false f g h k = no_one k

module _ (t : List ℕ) where
  abbrev unit : ℕ → ℕ
  unit at = get_or t at 0

  -- the first unit from `at`, and the others
  here : (at : ℕ) → at + 0 ≡ at
  here at = omega arith

  there : (at j : ℕ) → at + 1 + j ≡ at + suc j
  there at j = omega arith

  behind : (at n : ℕ) → at + suc n ≤ length t → next t at ≡ at + 1
  unfolding next
  behind at n h = go (ltb at (length t)) refl
    where
      go : (b : Bool) → ltb at (length t) ≡ b → pick b (at + 1) at ≡ at + 1
      go true e = refl
      go false e = absurd (omega (arith, h, ltb-false at (length t) e))

  -- what is kept of n units within the text
  kept_units : (n at j : ℕ) → at + n ≤ length t → j < name_length t at n → ends_name (unit (at + j)) ≡ false
  unfolding name_length
  kept_units zero at j h k = absurd (omega (arith, k))
  kept_units (suc n) at j h k = go (λ i l. kept_units n (at + 1) i (omega (arith, h)) l) j (ends_name (unit at)) refl k
    where
      go : ((i : ℕ) → i < name_length t (at + 1) n → ends_name (unit (at + 1 + i)) ≡ false)
          → (j : ℕ) (b : Bool) → ends_name (unit at) ≡ b → j < pick b zero (suc (name_length t (next t at) n)) → ends_name (unit (at + j)) ≡ false
      go f j true e l = absurd (omega (arith, l))
      go f zero false e l = rw (here at) e
      go f (suc j) false e l =
          let m : j < name_length t (next t at) n = omega (arith, l) in
          rw (← there at j) (f j (rw (behind at n h) at m))

  -- where k of n units are kept and no more, the next is a blank, or it is the last and a sigil
  abbrev Cut : ℕ → ℕ → ℕ → Type 0
  Cut at n k = (unit (at + k) ≡ 32) ⊎ ((k + 1 ≡ n) × Sigil (unit (at + k)))

  one_more : (at n k : ℕ) → Cut (at + 1) n k → Cut at (suc n) (suc k)
  one_more at n k (inl e) = inl (rw (← there at k) e)
  one_more at n k (inr (e, s)) = inr (omega (arith, e), rw (← there at k) s)

  last_sigil : (u : ℕ) → Form.is_last u ≡ true → (u ≡ 32) ⊎ Sigil u → Sigil u
  last_sigil u l (inl e) = no_one (rw e at l)
  last_sigil u l (inr s) = s

  inner_blank : (u : ℕ) → Form.is_inner u ≡ true → (u ≡ 32) ⊎ Sigil u → u ≡ 32
  inner_blank u i (inl e) = e
  inner_blank u i (inr (inl e)) = no_one (rw e at i)
  inner_blank u i (inr (inr e)) = no_one (rw e at i)

  letter_stays : (u : ℕ) → Form.is_letter u ≡ true → (u ≡ 32) ⊎ Sigil u → ends_name u ≡ false
  letter_stays u l (inl e) = no_one (rw e at l)
  letter_stays u l (inr (inl e)) = no_one (rw e at l)
  letter_stays u l (inr (inr e)) = no_one (rw e at l)

  -- of a name's tail, and of a name
  tail_cut : (n at : ℕ) → at + n ≤ length t → Form.name_tail t at n ≡ true → name_length t at n < n → Cut at n (name_length t at n)
  unfolding Form.name_tail name_length
  tail_cut zero at h f k = absurd (omega (arith, k))
  tail_cut (suc zero) at h f k = go (ends_name (unit at)) refl k
    where
      go : (b : Bool) → ends_name (unit at) ≡ b → pick b zero (suc (name_length t (next t at) zero)) < 1 → Cut at 1 (pick b zero (suc (name_length t (next t at) zero)))
      go true e l = inr (omega arith, rw (here at) (last_sigil (unit at) f (ending (unit at) e)))
      go false e l = absurd (omega (arith, l))
  tail_cut (suc (suc n)) at h f k = go (λ x y. tail_cut (suc n) (at + 1) (omega (arith, h)) x y) (ends_name (unit at)) refl k
    where
      go : (Form.name_tail t (at + 1) (suc n) ≡ true → name_length t (at + 1) (suc n) < suc n → Cut (at + 1) (suc n) (name_length t (at + 1) (suc n)))
          → (b : Bool) → ends_name (unit at) ≡ b → pick b zero (suc (name_length t (next t at) (suc n))) < suc (suc n)
          → Cut at (suc (suc n)) (pick b zero (suc (name_length t (next t at) (suc n))))
      go c true e l = inl (rw (here at) (inner_blank (unit at) (both_left (Form.is_inner (unit at)) _ f) (ending (unit at) e)))
      go c false e l =
          let g : next t at ≡ at + 1 = behind at (suc n) h in
          let x : Form.name_tail t (next t at) (suc n) ≡ true = both_right (Form.is_inner (unit at)) _ f in
          let y : name_length t (next t at) (suc n) < suc n = omega (arith, l) in
          rw g (one_more at (suc n) _ (c (rw g at x) (rw g at y)))

  name_cut : (n at : ℕ) → at + n ≤ length t → Form.is_name t at n ≡ true → name_length t at n < n → Cut at n (name_length t at n)
  unfolding Form.is_name name_length
  name_cut zero at h f k = absurd (omega (arith, k))
  name_cut (suc n) at h f k = go (ends_name (unit at)) refl k
    where
      parts : both (Form.is_letter (unit at)) (Form.name_tail t (next t at) (suc n - 1)) ≡ true
      parts = both_right (ltb 0 (suc n)) _ f

      left : suc n - 1 ≡ n
      left = omega arith

      go : (b : Bool) → ends_name (unit at) ≡ b → pick b zero (suc (name_length t (next t at) n)) < suc n → Cut at (suc n) (pick b zero (suc (name_length t (next t at) n)))
      go true e l = no_one (sym (letter_stays (unit at) (both_left (Form.is_letter (unit at)) _ parts) (ending (unit at) e)) ∙ e)
      go false e l =
          let g : next t at ≡ at + 1 = behind at n h in
          let x : Form.name_tail t (next t at) n ≡ true = rw left at (both_right (Form.is_letter (unit at)) _ parts) in
          let y : name_length t (next t at) n < n = omega (arith, l) in
          rw g (one_more at n _ (tail_cut n (at + 1) (omega (arith, h)) (rw g at x) (rw g at y)))

-- a name that stands in the sheet
module _ (s t : List ℕ) (line : Line) (u : UncutLine t line.base line.len) (r : Range) (stands : NameStands s t line r) where
  abbrev n : ℕ
  n = r.end - r.start

  abbrev begin : ℕ
  begin = line.base + r.start

  abbrev k : ℕ
  k = name_length t begin n

  abbrev sigils : ℕ → ℕ
  sigils last = sigil_count (sigil_unit (sigil_type last))

  starts : text_place line.base r.start ≡ begin
  starts = u.exact r.start (omega (arith, stands.range.rises, stands.range.short))

  ends : text_place line.base r.end ≡ line.base + r.end
  ends = u.exact r.end (omega (arith, stands.range.short))

  fits : begin + n ≤ length t
  fits = omega (arith, stands.range.rises, stands.range.in_text)

  length_is : (read_name t line.base r).name.len ≡ k
  unfolding read_name
  length_is = rw starts refl

  lost_is : (read_name t line.base r).lost ≡ n - k - sigils (get_or t (text_place line.base r.end - 1) 0)
  unfolding read_name
  lost_is = rw starts refl

  -- a last unit that is a sigil is counted
  counted : (v : ℕ) → Sigil v → sigils v ≡ 1
  counted v (inl e) = rw e refl
  counted v (inr e) = rw e refl

  no_blank : (j : ℕ) → j < (read_name t line.base r).name.len → get_or t (begin + j) 0 ≢ 32
  no_blank j h e = no_one (sym (rw e at (kept_units t n begin j fits (rw length_is at h))))

  blank_first : 0 < (read_name t line.base r).lost → get_or t (begin + (read_name t line.base r).name.len) 0 ≡ 32
  blank_first h = rw length_is (go (name_cut t n begin fits stands.well_formed (omega (arith, some))))
    where
      some : 0 < n - k - sigils (get_or t (text_place line.base r.end - 1) 0)
      some = rw lost_is at h

      go : Cut t begin n k → get_or t (begin + k) 0 ≡ 32
      go (inl e) = e
      go (inr (e, g)) =
          let same : text_place line.base r.end - 1 ≡ begin + k = omega (arith, ends, e) in
          absurd (omega (arith, rw same at some, counted (get_or t (begin + k) 0) g, e))

  cut : CutAtBlank t line r
  cut = record { kept = no_blank; blank = blank_first }

names : (s t : List ℕ) (line : Line) → UncutLine t line.base line.len → Carries s t line (record nothing { name = CutAtBlank t line })
names s t line u = record {
  range = λ p q e. tt;
  name = λ p q e. cut s t line u (range_at s p) ((standing s t line u).name p q e);
  text = λ p q e. tt;
  datum = λ p q e. tt;
  number = λ p q m e h. tt;
  label = λ p q e. tt;
}

-- THEOREM: every name in the tree of an accepted sheet is cut at its first blank, if it has one
pub names_cut : (s t : List ℕ) (work : ℕ) → checked s t work ≡ Accepted → Names (CutAtBlank t) (Tree.program_at s)
names_cut s t work e = carried s t work (λ line. record nothing { name = CutAtBlank t line }) (names s t) e
