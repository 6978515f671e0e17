-- A statement's head, own range and fields make the statement.
use Rattle.std.proofs.Common.{◌≡◌, ℕ, ◌-◌, List, refl, ◌∙◌, arith, zero, suc, Bool, true, false}
use Rattle.recorder.specs.Word.{choose, payload_at}
use Rattle.sheet.specs.declared.form.Sort.{Sort}
use Rattle.sheet.specs.declared.form.Sort.TheVariants.{Expr, Stmt}
use Rattle.sheet.specs.declared.form.Item.TheVariants.{Node, Nothing}
use Rattle.sheet.specs.declared.form.Shape.TheVariants.{If}
use Rattle.sheet.specs.declared.form.Offence.TheVariants.{TooDeep}
use Rattle.sheet.specs.declared.form.Line.{Line}
use Rattle.sheet.specs.Shapes.{shape_fields}
use Rattle.sheet.specs.Tree.{shape_of}
use Rattle.sheet.specs.Walk.{Walk}
use Rattle.std.specs.Prelude.{Ok, Err}
use Rattle.sheet.specs.Form.{then, is_absent, absent_form, head_form, fseek_form, range_form, item_form, pair_form, list_form, times_form, field_form, fields_form, body_form, node_form}
use Rattle.sheet.proofs.Shapes.{fields_rule}
use Rattle.walk.proofs.Lines.{then_behind, alone, node_list}

module _ (s t : List ℕ) (line : Line) where
  pub stmt_deep : (left p : ℕ) → left ≡ 0 → node_form s t line left Stmt p ≡ then (head_form s Stmt p) (λ h. Err (TooDeep p))
  unfolding node_form
  stmt_deep left p e = rw e

  pub stmt_is : (left p : ℕ) → (left ≡ 0 → ⊥) → node_form s t line left Stmt p
      ≡ then (head_form s Stmt p) (λ h. then (fseek_form s Stmt p h) (λ r. then (range_form s line r)
      (λ q. fields_form s t line (node_form s t line (left - 1)) (shape_fields (shape_of (payload_at s p))) q)))
  unfolding node_form body_form item_form
  stmt_is zero p h = absurd (h refl)
  stmt_is (suc left) p h = let e : suc left - 1 ≡ left = omega arith in rw (e, fields_rule (payload_at s p))

  module _ (child : Sort → ℕ → Walk) where
    stmts_are : (p : ℕ) → list_form s t line (pair_form s t line child (Node Stmt) Nothing) p ≡ list_form s t line (child Stmt) p
    stmts_are p = node_list s t line child Stmt p _ refl

    alternative_is : (b : Bool) (q : ℕ) → choose b (absent_form s) (list_form s t line (pair_form s t line child (Node Stmt) Nothing)) q ≡ choose b (absent_form s) (list_form s t line (child Stmt)) q
    alternative_is true q = refl
    alternative_is false q = stmts_are q

    pub if_is : (at : ℕ) → fields_form s t line child (shape_fields If) at
        ≡ then (child Expr at) (λ p. then (list_form s t line (child Stmt) p) (λ q. choose (is_absent s q) (absent_form s) (list_form s t line (child Stmt)) q))
    unfolding fields_form field_form times_form
    if_is at =
        then_two (pair_form s t line child (Node Expr) Nothing at) (child Expr at) _ _ (alone s t line child Expr at)
        (λ p. then_two _ _ _ _ (stmts_are p) (λ q. then_behind _ ∙ alternative_is (is_absent s q) q))
      where
        then_two : (w x : Walk) (f g : ℕ → Walk) → w ≡ x → ((p : ℕ) → f p ≡ g p) → then w f ≡ then x g
        then_two (Ok p) x f g e h = rw (← e) (h p)
        then_two (Err o) x f g e h = rw (← e) refl
