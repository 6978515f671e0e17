-- What the form checked of each item of a sheet holds of that item in the tree.
use mathlib.Core.Path.{◌≡◌, refl}
use mathlib.Core.Bool.{Bool, true, false}
use mathlib.Core.List.{List, [], ◌∷◌}
use Prim.Native.Nat.{ℕ, zero, suc, ◌+◌, ◌≤◌}
use native.Mathlib.Omega.{arith}
use lib.Dec.{leb}
use lib.ListN.{length}
use Rattle.recorder.specs.Word.{choose, payload_at, next, range_at, label_at}
use Rattle.recorder.specs.declared.word.Range.{Range}
use Rattle.sheet.specs.declared.form.Item.{Item}
use Rattle.sheet.specs.declared.form.Item.TheVariants.{Nothing, Word, Range as range, Name as name, OptionalName as optionalName, Text as text, Node, Number as number, OptionalLabel as optionalLabel, Source as source, Element as element, Datum as datum}
use Rattle.sheet.specs.declared.form.Sort.{Sort}
use Rattle.sheet.specs.declared.form.Sort.TheVariants.{Expr, Place, InputPlace, Stmt}
use Rattle.sheet.specs.declared.form.Times.{Times}
use Rattle.sheet.specs.declared.form.Times.TheVariants.{Once, Optional, List as Listed, NonEmpty, OptionalList}
use Rattle.sheet.specs.declared.form.Field.{Field}
use Rattle.sheet.specs.declared.form.Shape.{Shape}
use Rattle.sheet.specs.declared.form.Shape.TheVariants.{Rem, NoOp, Op0, Run, Op1, Op2, Op3, Draw, Set, Data, Def, Dim, Field as Fields, For, GoSub, GoTo, If, Input, Let, Load, Locate, Next, On, Open, Print, Read, Restore, Swap, System, While, Write}
use Rattle.sheet.specs.declared.form.Offence.TheVariants.{TooDeep, BadLength, Fseek}
use Rattle.sheet.specs.Walk.{Walk}
use Rattle.std.specs.Prelude.{Ok, Err}
use Rattle.sheet.specs.declared.form.Line.{Line}
use Rattle.sheet.specs.Check.{Accepted}
use Rattle.sheet.specs.Table.{kind_number, expr_range_item, own_range, is_fseek, expr_fields, fields_of}
use Rattle.sheet.specs.Shapes.{shape_fields}
use Rattle.sheet.specs.Form
use Rattle.sheet.specs.Check.{checked}
use Rattle.sheet.specs.Skip.{skip_item, skip_pair, skip_list, skip_times, skip_field, skip_node}
use Rattle.sheet.specs.Tree
use Rattle.sheet.proofs.Shapes.{fields_rule}
use Rattle.walk.proofs.Lines.{then_first}
use Rattle.walk.proofs.Within.{walked}
use Rattle.walk.proofs.Accepted.{EndsAt, ok_ends_at, err_ends_at, ends_at_pick, ends_at_then, word_ends_at, head_ends_at, range_ends_at, own_ends_at, item_ends_at, pair_ends_at, field_ends_at, node_ends_at}
use Rattle.rules.specs.Missing.{All, IfGiven}
use Rattle.rules.proofs.SheetWalk.{two_parts, inside}
use Rattle.bounds.specs.Uncut.{UncutLine}
use Rattle.bounds.proofs.SheetSize.{line_takes, label_takes}
use Rattle.bounds.proofs.Uncut.{text_short, line_uncut}
use Rattle.items.specs.Carries.{Carries}
use Rattle.items.specs.Items.{Facts, ItemsExpr, ItemsExprs, ItemsDatum, ItemsTarget, ItemsOnTarget, ItemsFieldSpec, ItemsLen, ItemsElement, ItemsSource, ItemsStmt, ItemsStmts, ItemsLine, Items}

-- the form goes on behind what stands at a place
abbrev Passes : (ℕ → Walk) → ℕ → Type 0
Passes f p = (q : ℕ) × (f p ≡ Ok q)

choose_known : (b : Bool) (f g : ℕ → Walk) (X : ℕ → Type 0) (p q : ℕ)
    → choose b f g p ≡ Ok q → (g p ≡ Ok q → X p) → choose b (λ r. Unit {0}) X p
choose_known true f g X p q e h = tt
choose_known false f g X p q e h = h e

given_read : {A : Type 0} (Y : A → Type 0) (X : ℕ → Type 0) (h : ℕ → A) (b : Bool) (p : ℕ)
    → (X p → Y (h p)) → choose b (λ q. Unit {0}) X p
    → IfGiven Y (choose b (λ q. Tree.absent) (λ q. Tree.given (h q)) p)
given_read Y X h true p k e = tt
given_read Y X h false p k e = k e

-- two things are known of a pair of items, one of an item alone
abbrev Both : Item → Type 0 → Type 0 → Type 0
Both Nothing A B = A
Both b A B = A × B

both_known : (b : Item) (A B : Type 0) → A → B → Both b A B
both_known Nothing A B x y = x
both_known b A B x y = (x, y)

module _ (s : List ℕ) where
  -- what is known of a field's parts, at the places that the skip finds
  unfoldable Each : (ℕ → Type 0) → (ℕ → ℕ) → ℕ → ℕ → Type 0
  Each X d zero p = Unit {0}
  Each X d (suc n) p = X p × Each X d n (d p)

  abbrev OfTimes : Times → (ℕ → Type 0) → (ℕ → ℕ) → ℕ → Type 0
  OfTimes Once X d p = X p
  OfTimes Optional X d p = choose (Form.is_absent s p) (λ q. Unit {0}) X p
  OfTimes Listed X d p = Each X d (payload_at s p) (next s p)
  OfTimes NonEmpty X d p = Each X d (payload_at s p) (next s p)
  OfTimes OptionalList X d p = choose (Form.is_absent s p) (λ q. Unit {0}) (λ q. Each X d (payload_at s q) (next s q)) p

  -- what the form lets pass is known
  module _ (t : List ℕ) (line : Line) (f : ℕ → Walk) (d : ℕ → ℕ) (X : ℕ → Type 0) (walk_ends : (p : ℕ) → EndsAt (f p) (d p)) (known : (p q : ℕ) → f p ≡ Ok q → X p) where
    each_known : (n p q : ℕ) → Form.repeat_form s t line f n p ≡ Ok q → Each X d n p
    unfolding Form.repeat_form Each
    each_known zero p q e = tt
    each_known (suc n) p q e =
        let u = two_parts (f p) (λ r. Form.repeat_form s t line f n r) (d p) q (walk_ends p) e in
        (known p (d p) u.0, each_known n (d p) q u.1)

    list_known : (p q : ℕ) → Form.list_form s t line f p ≡ Ok q → Each X d (payload_at s p) (next s p)
    unfolding Form.list_form
    list_known p q e =
        each_known (payload_at s p) (next s p) q (two_parts (Form.count_form s p) (λ r. Form.repeat_form s t line f (payload_at s p) r) (next s p) q (word_ends_at s 4 16777216 p) e).1

    times_known : (m : Times) (p q : ℕ) → Form.times_form s t line m f p ≡ Ok q → OfTimes m X d p
    unfolding Form.times_form
    times_known Once p q e = known p q e
    times_known Optional p q e = choose_known (Form.is_absent s p) (Form.absent_form s) f X p q e (λ h. known p q h)
    times_known Listed p q e = list_known p q e
    times_known NonEmpty p q e = let u = then_first _ (Form.non_empty_form s p) (λ r. Form.list_form s t line f p) q refl e in list_known p q u.2
    times_known OptionalList p q e =
        choose_known (Form.is_absent s p) (Form.absent_form s) (Form.list_form s t line f) (λ r. Each X d (payload_at s r) (next s r)) p q e (λ h. list_known p q h)

  -- what is read where that is known
  items_read : {A : Type 0} (Y : A → Type 0) (X : ℕ → Type 0) (h : ℕ → A) (d : ℕ → ℕ)
      → ((q : ℕ) → X q → Y (h q)) → (n p : ℕ) → Each X d n p → All Y (Tree.items_at s h d n p)
  unfolding Tree.items_at Each
  items_read Y X h d k zero p e = tt
  items_read Y X h d k (suc n) p e = (k p e.0, items_read Y X h d k n (d p) e.1)

  opt_read : {A : Type 0} (Y : A → Type 0) (X : ℕ → Type 0) (h : ℕ → A) (p : ℕ)
      → (X p → Y (h p)) → choose (Form.is_absent s p) (λ q. Unit {0}) X p → IfGiven Y (Tree.opt_at s h p)
  opt_read Y X h p k e = given_read Y X h (Form.is_absent s p) p k e

  opt_known : {A : Type 0} (Y : A → Type 0) (h : ℕ → A) (g : ℕ → Walk) (p q : ℕ)
      → choose (Form.is_absent s p) (Form.absent_form s) g p ≡ Ok q → (g p ≡ Ok q → Y (h p)) → IfGiven Y (Tree.opt_at s h p)
  opt_known Y h g p q e k = opt_read Y (λ r. Y (h r)) h p (λ x. x) (choose_known (Form.is_absent s p) (Form.absent_form s) g (λ r. Y (h r)) p q e k)

  module _ (t : List ℕ) (line : Line) (F : Facts) (c : Carries s t line F) where
    exprs_read : (h : ℕ → Tree.Expr) (d : ℕ → ℕ) (n p : ℕ) → Each (λ q. ItemsExpr F (h q)) d n p → ItemsExprs F (Tree.exprs_at s h d n p)
    unfolding Tree.exprs_at Each
    exprs_read h d zero p e = tt
    exprs_read h d (suc n) p e = (e.0, exprs_read h d n (d p) e.1)

    stmts_read : (h : ℕ → Tree.Stmt) (d : ℕ → ℕ) (n p : ℕ) → Each (λ q. ItemsStmt F (h q)) d n p → ItemsStmts F (Tree.stmts_at s h d n p)
    unfolding Tree.stmts_at Each
    stmts_read h d zero p e = tt
    stmts_read h d (suc n) p e = (e.0, stmts_read h d n (d p) e.1)

    -- what is known of the statement or expression at a place
    abbrev Below : ℕ → Sort → ℕ → Type 0
    Below left Expr p = ItemsExpr F (Tree.expr_at s left p)
    Below left Place p = ItemsExpr F (Tree.expr_at s left p)
    Below left InputPlace p = ItemsExpr F (Tree.expr_at s left p)
    Below left Stmt p = ItemsStmt F (Tree.stmt_at s left p)

    -- what is known of an expression's own range: of a number literal that the form let it pass
    abbrev OfOwn : ℕ → ℕ → Type 0
    OfOwn zero p = F.name (range_at s p)
    OfOwn (suc zero) p = F.text (range_at s p)
    OfOwn (suc (suc zero)) p = Passes (Form.range_form s line) p
    OfOwn (suc (suc (suc k))) p = F.range (range_at s p)

    module _ (left : ℕ) where
      abbrev here : ℕ → Tree.Expr
      here = Tree.expr_at s left

      abbrev skip_here : Sort → ℕ → ℕ
      skip_here = skip_node s left

      -- what is known of an item, of a field, of a node's fields; of a word and of a number that the form let them pass
      abbrev OfItem : Item → ℕ → Type 0
      OfItem Nothing p = Unit {0}
      OfItem (Word k n) p = Passes (Form.take_word s (kind_number k) n) p
      OfItem range p = F.range (range_at s p)
      OfItem name p = F.name (range_at s p)
      OfItem optionalName p = IfGiven F.name (Tree.opt_at s (range_at s) p)
      OfItem text p = F.text (range_at s p)
      OfItem (Node x) p = Below left x p
      OfItem number p = Passes (Form.number_form s) p
      OfItem optionalLabel p = IfGiven F.label (Tree.opt_at s (label_at s) p)
      OfItem source p = ItemsSource F (Tree.source_of s left (Tree.stmt_at s left) (payload_at s p) (next s p))
      OfItem element p = ItemsElement F (Tree.element_at s left (Tree.stmt_at s left) p)
      OfItem datum p = ItemsDatum F (Tree.datum_at s p)

      abbrev OfPair : Item → Item → ℕ → Type 0
      OfPair a b p = Both b (OfItem a p) (OfItem b (skip_item s skip_here a p))

      abbrev OfField : Field → ℕ → Type 0
      OfField f p = OfTimes f.times (OfPair f.first f.second) (skip_pair s skip_here f.first f.second) p

      abbrev OfFields : List Field → ℕ → Type 0
      OfFields [] p = Unit {0}
      OfFields (f ∷ fs) p = OfField f p × OfFields fs (skip_field s skip_here f p)

      abbrev child : Sort → ℕ → Walk
      child = Form.node_form s t line left

      own_known : (k p q : ℕ) → Form.item_form s t line child (expr_range_item k) p ≡ Ok q → OfOwn k p
      unfolding Form.item_form
      own_known zero p q e = c.name p q e
      own_known (suc zero) p q e = c.text p q e
      own_known (suc (suc zero)) p q e = (q, e)
      own_known (suc (suc (suc k))) p q e = c.range p q e

      own_stmt : (p q : ℕ) → Form.item_form s t line child range p ≡ Ok q → F.range (range_at s p)
      unfolding Form.item_form
      own_stmt p q e = c.range p q e

      -- a node's own range passed
      own_passes : (x : Sort) (at p : ℕ) → Form.node_form s t line (suc left) x at ≡ Ok p
          → Form.item_form s t line child (own_range x (payload_at s at)) (next s at) ≡ Ok (next s (next s at))
      unfolding Form.node_form Form.body_form
      own_passes x at p e =
          let k = payload_at s at in
          let q = next s at in
          let u = two_parts (Form.head_form s x at) _ q p (head_ends_at s x at) e in
          let v = two_parts (Form.fseek_form s x at q) _ q p (ends_at_pick (is_fseek x k) _ _ _ (err_ends_at (Fseek at) q) (ok_ends_at q)) u.1 in
          (two_parts (Form.item_form s t line child (own_range x k) q) _ (next s q) p (own_ends_at s t line child skip_here (node_ends_at s t line left) x k q) v.1).0

      module _ (known : (x : Sort) (p q : ℕ) → child x p ≡ Ok q → Below left x p) where
        source_known : (n p q : ℕ) → Form.source_rest s t line child n p ≡ Ok q → ItemsSource F (Tree.source_of s left (Tree.stmt_at s left) n p)
        source_known zero p q e = tt
        source_known (suc zero) p q e = c.text p q e
        source_known (suc (suc n)) p q e = known Expr p q e

        element_known : (n p q : ℕ) → Form.element_rest s t line child n p ≡ Ok q → ItemsElement F (Tree.element_of s left (Tree.stmt_at s left) n p)
        element_known zero p q e = known Expr p q e
        element_known (suc zero) p q e = c.range p q e
        element_known (suc (suc n)) p q e = c.range p q e

        item_known : (i : Item) (p q : ℕ) → Form.item_form s t line child i p ≡ Ok q → OfItem i p
        unfolding Form.item_form
        item_known Nothing p q e = tt
        item_known (Word k n) p q e = (q, e)
        item_known range p q e = c.range p q e
        item_known name p q e = c.name p q e
        item_known optionalName p q e = opt_known F.name (range_at s) (Form.name_form s t line) p q e (λ h. c.name p q h)
        item_known text p q e = c.text p q e
        item_known (Node x) p q e = known x p q e
        item_known number p q e = (q, e)
        item_known optionalLabel p q e = opt_known F.label (label_at s) (Form.take_word s 3 65536) p q e (λ h. c.label p q h)
        item_known source p q e =
            let n = payload_at s p in
            source_known n (next s p) q (two_parts (Form.take_word s 7 3 p) (λ r. Form.source_rest s t line child n r) (next s p) q (word_ends_at s 7 3 p) e).1
        item_known element p q e =
            let n = payload_at s p in
            element_known n (next s p) q (two_parts (Form.take_word s 8 3 p) (λ r. Form.element_rest s t line child n r) (next s p) q (word_ends_at s 8 3 p) e).1
        item_known datum p q e = c.datum p q e

        pair_known : (a b : Item) (p q : ℕ) → Form.pair_form s t line child a b p ≡ Ok q → OfPair a b p
        unfolding Form.pair_form
        pair_known a b p q e =
            let m = skip_item s skip_here a p in
            let u = two_parts (Form.item_form s t line child a p) (λ r. Form.item_form s t line child b r) m q (item_ends_at s t line child skip_here (node_ends_at s t line left) a p) e in
            both_known b (OfItem a p) (OfItem b m) (item_known a p m u.0) (item_known b m q u.1)

        fields_known : (fs : List Field) (p q : ℕ) → Form.fields_form s t line child fs p ≡ Ok q → OfFields fs p
        unfolding Form.fields_form Form.field_form
        fields_known [] p q e = tt
        fields_known (f ∷ fs) p q e =
            let m = skip_field s skip_here f p in
            let u = two_parts (Form.field_form s t line child f p) (λ r. Form.fields_form s t line child fs r) m q (field_ends_at s t line child skip_here (node_ends_at s t line left) f p) e in
            (times_known t line _ _ _ (pair_ends_at s t line child skip_here (node_ends_at s t line left) f.first f.second) (pair_known f.first f.second) f.times p m u.0, fields_known fs m q u.1)

      listed : (d : ℕ → ℕ) (p : ℕ) → Each (λ q. ItemsExpr F (here q)) d (payload_at s p) (next s p)
          → ItemsExprs F (Tree.exprs_at s here d (payload_at s p) (next s p))
      listed d p e = exprs_read here d (payload_at s p) (next s p) e

      optional_read : (p : ℕ) → choose (Form.is_absent s p) (λ q. Unit {0}) (λ q. ItemsExpr F (here q)) p
          → IfGiven (ItemsExpr F) (Tree.opt_at s here p)
      optional_read p e = opt_read (ItemsExpr F) (λ q. ItemsExpr F (here q)) here p (λ h. h) e

      target_read : (p : ℕ) → choose (Form.is_absent s p) (λ q. Unit {0}) (λ q. F.range (range_at s q) × Passes (Form.take_word s 3 65536) (next s q)) p
          → IfGiven (ItemsTarget F) (Tree.opt_at s (Tree.target_at s) p)
      target_read p e =
          opt_read (ItemsTarget F) (λ q. F.range (range_at s q) × Passes (Form.take_word s 3 65536) (next s q)) (Tree.target_at s) p
          (λ h. (h.0, c.label (next s p) h.1.0 h.1.1)) e

      expr_read : (k p : ℕ) → OfOwn k p → OfFields (expr_fields k) (next s p)
          → ItemsExpr F (Tree.expr_node s here (skip_here Expr) k (range_at s p) (next s p))
      unfolding Tree.expr_node expr_fields skip_field skip_times skip_pair skip_item
      expr_read zero p o e = o
      expr_read (suc zero) p o e = o
      expr_read (suc (suc zero)) p o e = c.number p o.0 e.0.0 o.1 e.0.1
      expr_read (suc (suc (suc zero))) p o e = (o, e.0, listed (skip_here Expr) (next s (next s (next s p))) e.1.1.0)
      expr_read (suc (suc (suc (suc zero)))) p o e = (o, e.0, e.1.0)
      expr_read (suc (suc (suc (suc (suc zero))))) p o e = (o, e.0, e.1.0, e.1.1.1.0)
      expr_read (suc (suc (suc (suc (suc (suc zero)))))) p o e = (o, e.1.1.0)
      expr_read (suc (suc (suc (suc (suc (suc (suc zero))))))) p o e = (o, e.0, listed (skip_here Expr) (next s (next s p)) e.1.0)
      expr_read (suc (suc (suc (suc (suc (suc (suc (suc zero)))))))) p o e = o
      expr_read (suc (suc (suc (suc (suc (suc (suc (suc (suc zero))))))))) p o e = o
      expr_read (suc (suc (suc (suc (suc (suc (suc (suc (suc (suc k)))))))))) p o e = o

      stmts_here : (p : ℕ) → Each (λ q. ItemsStmt F (Tree.stmt_at s left q)) (skip_here Stmt) (payload_at s p) (next s p)
          → ItemsStmts F (Tree.stmt_list s left (Tree.stmt_at s left) p)
      stmts_here p e = stmts_read (Tree.stmt_at s left) (skip_here Stmt) (payload_at s p) (next s p) e

      if_read : (b : Bool) (r : Range) (x : Tree.Expr) (xs : Tree.Stmts) (p : ℕ) → F.range r → ItemsExpr F x → ItemsStmts F xs
          → choose b (λ q. Unit {0}) (λ q. Each (λ m. ItemsStmt F (Tree.stmt_at s left m)) (skip_here Stmt) (payload_at s q) (next s q)) p
          → ItemsStmt F (choose b (λ q. Tree.if_then r x xs) (λ q. Tree.if_else r x xs (Tree.stmt_list s left (Tree.stmt_at s left) q)) p)
      if_read true r x xs p o h k e = (o, h, k)
      if_read false r x xs p o h k e = (o, h, k, stmts_here p e)

      stmt_read : (x : Shape) (k : ℕ) (r : Range) (p : ℕ) → F.range r → OfFields (shape_fields x) p
          → ItemsStmt F (Tree.stmt_node s left (Tree.stmt_at s left) x k r p)
      unfolding Tree.stmt_node skip_field skip_times skip_pair skip_item
      stmt_read Rem k r p o e = o
      stmt_read NoOp k r p o e = o
      stmt_read Op0 k r p o e = o
      stmt_read Run k r p o e = o
      stmt_read Op1 k r p o e = (o, e.0)
      stmt_read Op2 k r p o e = (o, e.0, e.1.0)
      stmt_read Op3 k r p o e = (o, e.0, e.1.0, e.1.1.0)
      stmt_read Draw k r p o e = (o, listed (skip_here Expr) p e.0)
      stmt_read Set k r p o e = (o, e.0, e.1.0)
      stmt_read Data k r p o e = (o, items_read (ItemsDatum F) (λ q. ItemsDatum F (Tree.datum_at s q)) (Tree.datum_at s) (λ q. next s (next s q)) (λ q h. h) (payload_at s p) (next s p) e.0)
      stmt_read Def k r p o e = (o, e.0, e.1.0, e.1.1.0)
      stmt_read Dim k r p o e = (o, listed (skip_here Expr) p e.0)
      stmt_read Fields k r p o e =
          let q = skip_here Expr p in
          let h = Tree.field_spec_at s left in
          (o, e.0, items_read (ItemsFieldSpec F) (λ m. ItemsFieldSpec F (h m)) h (λ m. skip_here Place (skip_here Expr m)) (λ m x. x) (payload_at s q) (next s q) e.1.0)
      stmt_read For k r p o e = (o, e.0, e.1.0, e.1.1.0, optional_read (skip_here Expr (skip_here Expr (next s p))) e.1.1.1.0)
      stmt_read GoSub k r p o e = (o, target_read p e.0)
      stmt_read GoTo k r p o e = (o, target_read (next s p) e.1.0)
      stmt_read If k r p o e =
          let q = skip_here Expr p in
          let m = skip_list s (skip_here Stmt) q in
          if_read (Form.is_absent s m) r (here p) (Tree.stmt_list s left (Tree.stmt_at s left) q) m o e.0 (stmts_here q e.1.0) e.1.1.0
      stmt_read Input k r p o e = (o, e.0, listed (skip_here InputPlace) (Tree.behind_source s left (Tree.stmt_at s left) p) e.1.0)
      stmt_read Let k r p o e = (o, e.0, e.1.0)
      stmt_read Load k r p o e = (o, listed (skip_here Expr) p e.0)
      stmt_read Locate k r p o e = (o, optional_read p e.0, optional_read (choose (Form.is_absent s p) (next s) (skip_here Expr) p) e.1.0)
      stmt_read Next k r p o e =
          let h = Tree.opt_at s (range_at s) in
          (o, items_read (IfGiven F.name) (λ q. IfGiven F.name (h q)) h (next s) (λ q x. x) (payload_at s p) (next s p) e.0)
      stmt_read On k r p o e =
          let q = skip_here Expr p in
          let h = Tree.on_target_at s in
          (o, e.0, items_read (ItemsOnTarget F) (λ m. ItemsOnTarget F (h m)) h (λ m. next s (next s m)) (λ m x. x) (payload_at s q) (next s q) e.1.0)
      stmt_read Open k r p o e =
          let h = Tree.len_at s left in
          (o, e.0, e.1.1.0, opt_read (ItemsLen F) (λ m. ItemsLen F (h m)) h (skip_here Expr (next s (skip_here Expr p))) (λ x. x) e.1.1.1.0)
      stmt_read Print k r p o e =
          let h = Tree.element_at s left (Tree.stmt_at s left) in
          (o, items_read (ItemsElement F) (λ q. ItemsElement F (h q)) h (skip_item s skip_here element) (λ q x. x) (payload_at s p) (next s p) e.0)
      stmt_read Read k r p o e = (o, listed (skip_here Place) p e.0)
      stmt_read Restore k r p o e = (o, target_read p e.0)
      stmt_read Swap k r p o e = (o, e.0, e.1.0)
      stmt_read System k r p o e = o
      stmt_read While k r p o e = (o, e.0)
      stmt_read Write k r p o e =
          let q = choose (Form.is_absent s p) (next s) (skip_here Expr) p in
          let h = Tree.write_element_at s left in (
            o,
            optional_read p e.0,
            items_read (λ (d : Tree.WriteElement). ItemsExpr F d.datum) (λ m. ItemsExpr F (here m) × Passes (Form.take_word s 5 2) (skip_here Expr m)) h (λ m. next s (skip_here Expr m)) (λ m x. x.0)
                (payload_at s q) (next s q) e.1.0,
          )

    too_deep : (x : Sort) (p q : ℕ) → Form.node_form s t line 0 x p ≡ Ok q → ⊥
    unfolding Form.node_form
    too_deep x p q e =
        let u = then_first _ (Form.head_form s x p) (λ r. Err (TooDeep p)) q refl e in
        let y : Err (TooDeep p) ≡ Ok q = u.2 in
        let z : ◌≡◌ {A = ℕ} 0 1 = cc in omega arith

    node_known : (left : ℕ) → ((x : Sort) (p q : ℕ) → Form.node_form s t line left x p ≡ Ok q → Below left x p)
        → (x : Sort) (p q : ℕ) → Form.node_form s t line (suc left) x p ≡ Ok q → OfFields left (fields_of x (payload_at s p)) (next s (next s p))
    node_known left below x p q e = fields_known left below (fields_of x (payload_at s p)) (next s (next s p)) q (inside s t line left x p q e).fields

    node_read : (left : ℕ) (x : Sort) (p q : ℕ) → Form.node_form s t line left x p ≡ Ok q → Below left x p
    unfolding Tree.expr_at Tree.stmt_at
    node_read zero x p q e = absurd (too_deep x p q e)
    node_read (suc left) Expr p q e =
        let k = payload_at s p in expr_read left k (next s p) (own_known left k (next s p) _ (own_passes left Expr p q e)) (node_known left (node_read left) Expr p q e)
    node_read (suc left) Place p q e =
        let k = payload_at s p in expr_read left k (next s p) (own_known left k (next s p) _ (own_passes left Place p q e)) (node_known left (node_read left) Place p q e)
    node_read (suc left) InputPlace p q e =
        let k = payload_at s p in expr_read left k (next s p) (own_known left k (next s p) _ (own_passes left InputPlace p q e)) (node_known left (node_read left) InputPlace p q e)
    node_read (suc left) Stmt p q e =
        let k = payload_at s p in
        stmt_read left (Tree.shape_of k) k (range_at s (next s p)) (next s (next s p)) (own_stmt left (next s p) _ (own_passes left Stmt p q e))
        (rw (← fields_rule k) at (node_known left (node_read left) Stmt p q e))

    label_read : (p q : ℕ) → Form.label_form s line p ≡ Ok q → IfGiven (ItemsTarget F) (Tree.opt_at s (Tree.target_at s) p)
    unfolding Form.label_form
    label_read p q e =
        opt_known (ItemsTarget F) (Tree.target_at s) (λ r. Form.then (Form.range_form s line r) (λ x. Form.take_word s 3 65536 x)) p q e
        (λ h. let u = two_parts (Form.range_form s line p) (λ x. Form.take_word s 3 65536 x) (next s p) q (range_ends_at s line p) h in (c.range p (next s p) u.0, c.label (next s p) q u.1))

    stmts_line : (p q : ℕ) → Form.list_form s t line (Form.node_form s t line 64 Stmt) p ≡ Ok q → ItemsStmts F (Tree.line_stmts s p)
    stmts_line p q e =
        let d = skip_node s 64 Stmt in
        stmts_read (Tree.stmt_at s 64) d (payload_at s p) (next s p) (list_known t line (Form.node_form s t line 64 Stmt) d (Below 64 Stmt) (node_ends_at s t line 64 Stmt) (node_read 64 Stmt) p q e)

  module _ (t : List ℕ) (F : Line → Facts) (c : (line : Line) → UncutLine t line.base line.len → Carries s t line (F line)) (short : length t ≤ 65536) where
    begins_lands : (base p : ℕ) → EndsAt (Form.line_head s t base p) (next s p)
    unfolding Form.line_head
    begins_lands base p =
        ends_at_then _ _ (next s p) _ (word_ends_at s 16 4096 p) (ends_at_pick (leb (base + payload_at s p) (length t)) _ _ _ (ok_ends_at (next s p)) (err_ends_at (BadLength p) (next s p)))

    line_read : (base p q : ℕ) → Form.line_form s t base p ≡ Ok q → ItemsLine (F (Form.line_of s t base p)) (Tree.line_at s p)
    unfolding Form.line_form
    line_read base p q e =
        let line = Form.line_of s t base p in
        let h = c line (line_uncut s t short base p q e) in
        let f = Form.node_form s t line 64 Stmt in
        let m = Tree.behind_label s (next s p) in
        let u = two_parts (Form.line_head s t base p) (λ r. Form.then (Form.label_form s line r) (λ y. Form.list_form s t line f y)) (next s p) q (begins_lands base p) e in
        let v = two_parts (Form.label_form s line (next s p)) (λ y. Form.list_form s t line f y) m q (label_takes s t line (next s p)).walk_ends u.1 in
        (label_read t line (F line) h (next s p) m v.0, stmts_line t line (F line) h m q v.1)

    lines_read : (n base p q : ℕ) → Form.lines_form s t n base p ≡ Ok q → Items F base (Tree.items_at s (Tree.line_at s) (Tree.behind_line s) n p)
    unfolding Form.lines_form Tree.items_at
    lines_read zero base p q e = tt
    lines_read (suc n) base p q e =
        let b = base + payload_at s p in
        let x = Tree.behind_line s p in
        let u = two_parts (Form.line_form s t base p) (λ r. Form.lines_form s t n b r) x q (line_takes s t base p).walk_ends e in
        (line_read base p x u.0, lines_read n b x q u.1)

    sheet_read : (q : ℕ) → Form.sheet_form s t ≡ Ok q → Items F 0 (Tree.program_at s)
    unfolding Form.sheet_form Tree.program_at
    sheet_read q e =
        let n = payload_at s 0 in
        lines_read n 0 (next s 0) q (two_parts (Form.take_word s 15 16777216 0) (λ p. Form.lines_form s t n 0 p) (next s 0) q (word_ends_at s 15 16777216 0) e).1

-- THEOREM: what follows, on each line that stands within the text, from what the form checks of an item where it stands, holds of every
-- item in the tree of an accepted sheet
pub carried : (s t : List ℕ) (work : ℕ) (F : Line → Facts)
    → ((line : Line) → UncutLine t line.base line.len → Carries s t line (F line))
    → checked s t work ≡ Accepted → Items F 0 (Tree.program_at s)
carried s t work F c e = let w = walked s t work e in sheet_read s t F c (text_short s t work e) w.end w.walks
