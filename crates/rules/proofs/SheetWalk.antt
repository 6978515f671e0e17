-- What a walk over a sheet that went through says of its parts.
use Rattle.std.proofs.Common.{◌≡◌, ℕ, suc, Bool, true, false, eqb, List, refl, arith}
use Rattle.recorder.specs.Word.{pick, kind_at, payload_at, next, both}
use Rattle.recorder.proofs.Bools.{both_right}
use Rattle.sheet.specs.declared.form.Sort.{Sort}
use Rattle.sheet.specs.declared.form.Offence.{Offence}
use Rattle.sheet.specs.declared.form.Offence.TheVariants.{BadWord, Fseek}
use Rattle.sheet.specs.Walk.{Walk}
use Rattle.std.specs.Prelude.{Ok, Err}
use Rattle.sheet.specs.declared.form.Line.{Line}
use Rattle.sheet.specs.Table.{own_range, fields_of, may_stand, is_fseek, node_kind}
use Rattle.sheet.specs.Form
use Rattle.sheet.specs.Skip.{skip_node}
use Rattle.sheet.proofs.Walks.{pick_behind}
use Rattle.walk.proofs.Lines.{then_first}
use Rattle.walk.proofs.Accepted.{EndsAt, ok_ends_at, err_ends_at, ends_at_pick, word_ends_at, head_ends_at, own_ends_at, node_ends_at}

-- a walk in two parts, whose first ends at x
pub two_parts : (w : Walk) (f : ℕ → Walk) (x p : ℕ) → EndsAt w x → Form.then w f ≡ Ok p → (w ≡ Ok x) × (f x ≡ Ok p)
two_parts w f x p a e =
    let u = then_first (Form.then w f) w f p refl e in
    let z : u.0 ≡ x = a.ends u.0 u.1 in
    (rw z at u.1, rw z at u.2)

refuses : (b : Bool) (q p : ℕ) (o : Offence) → pick b (Err o) (Ok q) ≡ Ok p → b ≡ false
refuses true q p o e = let y : ◌≡◌ {A = ℕ} 0 1 = cc in absurd (omega arith)
refuses false q p o e = refl

module _ (s : List ℕ) where
  pub nonempty : (at p : ℕ) → Form.non_empty_form s at ≡ Ok p → eqb (payload_at s at) 0 ≡ false
  unfolding Form.non_empty_form
  nonempty at p e = refuses (eqb (payload_at s at) 0) (next s at) p (BadWord at) (two_parts (Form.count_form s at) _ (next s at) p (word_ends_at s 4 16777216 at) e).1

  module _ (t : List ℕ) (line : Line) where
    -- a node: its head, its range, its fields
    pub record Inside (left : ℕ) (c : Sort) (at p : ℕ) : Type 0 where
      pub stands : may_stand c (payload_at s at) ≡ true
      pub fields : Form.fields_form s t line (Form.node_form s t line left) (fields_of c (payload_at s at)) (next s (next s at)) ≡ Ok p

    pub inside : (left : ℕ) (c : Sort) (at p : ℕ) → Form.node_form s t line (suc left) c at ≡ Ok p → Inside left c at p
    unfolding Form.node_form Form.body_form
    inside left c at p e =
        let k = payload_at s at in
        let child = Form.node_form s t line left in
        let q = next s at in
        let u = two_parts (Form.head_form s c at) _ q p (head_ends_at s c at) e in
        let v = two_parts (Form.fseek_form s c at q) _ q p (ends_at_pick (is_fseek c k) _ _ _ (err_ends_at (Fseek at) q) (ok_ends_at q)) u.1 in
        let w = two_parts (Form.item_form s t line child (own_range c k) q) _ (next s q) p (own_ends_at s t line child (skip_node s left) (node_ends_at s t line left) c k q) v.1 in
        record { stands = both_right (eqb (kind_at s at) (node_kind c)) (may_stand c k) (pick_behind (both (eqb (kind_at s at) (node_kind c)) (may_stand c k)) q q (BadWord at) u.0).0; fields = w.1 }
