-- The words that the tree of an accepted sheet stands for are no more than the sheet has.
use mathlib.Core.Path.{◌≡◌, refl}
use mathlib.Core.Bool.{Bool, true, false}
use mathlib.Core.List.{List, [], ◌∷◌}
use Prim.Native.Nat.{ℕ, zero, suc, ◌+◌, ◌≤◌}
use native.Mathlib.Omega.{arith}
use lib.Dec.{ltb, leb}
use lib.ListN.{length}
use Rattle.recorder.specs.Word.{choose, payload_at, next, range_at}
use Rattle.recorder.specs.declared.word.Range.{Range}
use Rattle.sheet.specs.declared.form.Item.TheVariants.{Element as element}
use Rattle.sheet.specs.declared.form.Sort.{Sort}
use Rattle.sheet.specs.declared.form.Sort.TheVariants.{Expr, Place, InputPlace, Stmt}
use Rattle.sheet.specs.declared.form.Shape.{Shape}
use Rattle.sheet.specs.declared.form.Shape.TheVariants.{Rem, NoOp, Op0, Run, Op1, Op2, Op3, Draw, Set, Data, Def, Dim, Field as Fields, For, GoSub, GoTo, If, Input, Let, Load, Locate, Next, On, Open, Print, Read, Restore, Swap, System, While, Write}
use Rattle.std.specs.Prelude.{Ok}
use Rattle.sheet.specs.declared.form.Line.{Line}
use Rattle.sheet.specs.Check.{Accepted}
use Rattle.sheet.specs.Table.{expr_fields}
use Rattle.sheet.specs.Shapes.{shape_fields}
use Rattle.sheet.specs.Form
use Rattle.sheet.specs.Check.{checked}
use Rattle.sheet.specs.Skip.{skip_item, skip_pair, skip_list, skip_times, skip_field, skip_node}
use Rattle.sheet.specs.Tree
use Rattle.sheet.proofs.Shapes.{fields_rule}
use Rattle.walk.proofs.Within.{walked, sheet_within}
use Rattle.rules.proofs.SheetWalk.{two_parts}
use Rattle.bounds.specs.Size
use Rattle.bounds.proofs.SheetWords.{repeat_count, list_count, source_count, element_count, fields_count, node_count, Takes, takes_at, takes_then, takes_less, takes_test, takes_refuse, takes_choose, word_takes, range_takes, list_takes, node_takes}

-- what one of two readers reads, counted by one of two
choose_fits : {A : Type 0} (size : A → ℕ) (b : Bool) (f g : ℕ → A) (c : ℕ) (m n : ℕ → ℕ) (p : ℕ) → size (f p) ≤ c + m p → size (g p) ≤ c + n p → size (choose b f g p) ≤ c + choose b m n p
choose_fits size true f g c m n p h k = h
choose_fits size false f g c m n p h k = k

module _ (s : List ℕ) where
  -- a list, read and counted item by item
  exprs_fit : (h : ℕ → Tree.Expr) (m d : ℕ → ℕ) → ((q : ℕ) → Size.expr_words (h q) ≤ m q) → (n p : ℕ) → Size.exprs_words (Tree.exprs_at s h d n p) ≤ repeat_count s m d n p
  unfolding Size.exprs_words Tree.exprs_at repeat_count
  exprs_fit h m d e zero p = omega arith
  exprs_fit h m d e (suc n) p = omega (arith, e p, exprs_fit h m d e n (d p))

  stmts_fit : (h : ℕ → Tree.Stmt) (m d : ℕ → ℕ) → ((q : ℕ) → Size.stmt_words (h q) ≤ m q) → (n p : ℕ) → Size.stmts_words (Tree.stmts_at s h d n p) ≤ repeat_count s m d n p
  unfolding Size.stmts_words Tree.stmts_at repeat_count
  stmts_fit h m d e zero p = omega arith
  stmts_fit h m d e (suc n) p = omega (arith, e p, stmts_fit h m d e n (d p))

  module _ {A : Type 0} (sum : List A → ℕ) (size : A → ℕ) (none : sum [] ≡ 0) (more : (x : A) (xs : List A) → sum (x ∷ xs) ≡ size x + sum xs) where
    items_fit : (h : ℕ → A) (m d : ℕ → ℕ) → ((q : ℕ) → size (h q) ≤ m q) → (n p : ℕ) → sum (Tree.items_at s h d n p) ≤ repeat_count s m d n p
    unfolding Tree.items_at repeat_count
    items_fit h m d e zero p = omega arith
    items_fit h m d e (suc n) p = omega (arith, more (h p) (Tree.items_at s h d n (d p)), e p, items_fit h m d e n (d p))

  opt_fits : {A : Type 0} (size : Tree.Opt A → ℕ) (h : ℕ → A) (m : ℕ → ℕ) (p : ℕ) → size Tree.absent ≤ 1 → size (Tree.given (h p)) ≤ m p
      → size (Tree.opt_at s h p) ≤ choose (Form.is_absent s p) (λ q. 1) m p
  opt_fits size h m p a b = omega (arith, choose_fits size (Form.is_absent s p) (λ q. Tree.absent) (λ q. Tree.given (h q)) 0 (λ q. 1) m p (omega arith) (omega arith))

  target_fits : (p : ℕ) → Size.opt_target (Tree.opt_at s (Tree.target_at s) p) ≤ choose (Form.is_absent s p) (λ q. 1) (λ q. 2) p
  target_fits p = opt_fits Size.opt_target (Tree.target_at s) (λ q. 2) p (omega arith) (omega arith)

  pairs_fit : {A : Type 0} (h : ℕ → A) (n p : ℕ) → Size.twos (Tree.items_at s h (λ q. next s (next s q)) n p) ≤ repeat_count s (λ q. 2) (λ q. next s (next s q)) n p
  unfolding Size.twos
  pairs_fit h n p = items_fit Size.twos (λ x. 2) refl (λ x xs. refl) h (λ q. 2) (λ q. next s (next s q)) (λ q. omega arith) n p

  -- the words of the tree that is read at a place
  abbrev tree_words : ℕ → Sort → ℕ → ℕ
  tree_words left Expr p = Size.expr_words (Tree.expr_at s left p)
  tree_words left Place p = Size.expr_words (Tree.expr_at s left p)
  tree_words left InputPlace p = Size.expr_words (Tree.expr_at s left p)
  tree_words left Stmt p = Size.stmt_words (Tree.stmt_at s left p)

  -- a tree's parts, where those below it fit
  module _ (left : ℕ) (below : (c : Sort) (p : ℕ) → tree_words left c p ≤ node_count s left c p) where
    abbrev expr_here : ℕ → Tree.Expr
    expr_here = Tree.expr_at s left

    abbrev stmt_here : ℕ → Tree.Stmt
    stmt_here = Tree.stmt_at s left

    abbrev skip : Sort → ℕ → ℕ
    skip = skip_node s left

    abbrev words : Sort → ℕ → ℕ
    words = node_count s left

    listed : (c : Sort) → ((q : ℕ) → Size.expr_words (expr_here q) ≤ words c q) → (p : ℕ)
        → Size.exprs_words (Tree.exprs_at s expr_here (skip c) (payload_at s p) (next s p)) ≤ repeat_count s (λ q. words c q + 0) (skip c) (payload_at s p) (next s p)
    listed c e p = exprs_fit expr_here (λ q. words c q + 0) (skip c) (λ q. omega (arith, e q)) (payload_at s p) (next s p)

    optional_fits : (p : ℕ) → Size.opt_expr (Tree.opt_at s expr_here p) ≤ choose (Form.is_absent s p) (λ q. 1) (λ q. words Expr q + 0) p
    optional_fits p = opt_fits Size.opt_expr expr_here (λ q. words Expr q + 0) p (omega arith) (omega (arith, below Expr p))

    expr_fits : (k : ℕ) (r : Range) (p : ℕ) → Size.expr_words (Tree.expr_node s expr_here (skip Expr) k r p) ≤ 2 + fields_count s words skip (expr_fields k) p
    unfolding Tree.expr_node Size.expr_words expr_fields skip_field skip_times skip_pair skip_item
    expr_fits zero r p = omega arith
    expr_fits (suc zero) r p = omega arith
    expr_fits (suc (suc zero)) r p = omega arith
    expr_fits (suc (suc (suc zero))) r p = omega (arith, listed Expr (below Expr) (next s (next s p)))
    expr_fits (suc (suc (suc (suc zero)))) r p = omega (arith, below Expr (next s p))
    expr_fits (suc (suc (suc (suc (suc zero))))) r p = omega (arith, below Expr p, below Expr (next s (next s (skip Expr p))))
    expr_fits (suc (suc (suc (suc (suc (suc zero)))))) r p = omega (arith, below Expr (next s (next s p)))
    expr_fits (suc (suc (suc (suc (suc (suc (suc zero))))))) r p = omega (arith, listed Expr (below Expr) (next s p))
    expr_fits (suc (suc (suc (suc (suc (suc (suc (suc zero)))))))) r p = omega arith
    expr_fits (suc (suc (suc (suc (suc (suc (suc (suc (suc zero))))))))) r p = omega arith
    expr_fits (suc (suc (suc (suc (suc (suc (suc (suc (suc (suc k)))))))))) r p = omega arith

    source_fits : (n p : ℕ) → Size.source_words (Tree.source_of s left stmt_here n p) ≤ 1 + source_count s words n p
    source_fits zero p = omega arith
    source_fits (suc zero) p = omega arith
    source_fits (suc (suc n)) p = omega (arith, below Expr p)

    element_fits : (n p : ℕ) → Size.element_words (Tree.element_of s left stmt_here n p) ≤ 1 + element_count s words n p
    element_fits zero p = omega (arith, below Expr p)
    element_fits (suc zero) p = omega arith
    element_fits (suc (suc n)) p = omega arith

    stmt_list_lem : (p : ℕ) → Size.stmts_words (Tree.stmts_at s stmt_here (skip Stmt) (payload_at s p) (next s p)) ≤ repeat_count s (λ q. words Stmt q + 0) (skip Stmt) (payload_at s p) (next s p)
    stmt_list_lem p = stmts_fit stmt_here (λ q. words Stmt q + 0) (skip Stmt) (λ q. omega (arith, below Stmt q)) (payload_at s p) (next s p)

    stmt_fits : (x : Shape) (k : ℕ) (r : Range) (p : ℕ) → Size.stmt_words (Tree.stmt_node s left stmt_here x k r p) ≤ 2 + fields_count s words skip (shape_fields x) p
    unfolding Tree.stmt_node Size.stmt_words Size.ones Size.elements_words Size.written_words Size.specs_words skip_field skip_times skip_pair skip_item
    stmt_fits Rem k r p = omega arith
    stmt_fits NoOp k r p = omega arith
    stmt_fits Op0 k r p = omega arith
    stmt_fits Run k r p = omega arith
    stmt_fits Op1 k r p = omega (arith, below Expr p)
    stmt_fits Op2 k r p = omega (arith, below Expr p, below Expr (skip Expr p))
    stmt_fits Op3 k r p = omega (arith, below Expr p, below Expr (skip Expr p), below Expr (skip Expr (skip Expr p)))
    stmt_fits Draw k r p = omega (arith, listed Expr (below Expr) p)
    stmt_fits Set k r p = omega (arith, below Place p, below Expr (skip Place p))
    stmt_fits Data k r p = omega (arith, pairs_fit (Tree.datum_at s) (payload_at s p) (next s p))
    stmt_fits Def k r p = omega (arith, below Expr (next s (next s p)))
    stmt_fits Dim k r p = omega (arith, listed Expr (below Expr) p)
    stmt_fits Fields k r p =
        let q = skip Expr p in
        omega (
          arith,
          below Expr p,
          items_fit Size.specs_words (λ f. Size.expr_words f.len + Size.expr_words f.var) refl (λ f fs. refl) (Tree.field_spec_at s left)
              (λ m. words Expr m + words Place (skip Expr m)) (λ m. skip Place (skip Expr m)) (λ m. omega (arith, below Expr m, below Place (skip Expr m))) (payload_at s q) (next s q),
        )
    stmt_fits For k r p = omega (arith, below Expr (next s p), below Expr (skip Expr (next s p)), optional_fits (skip Expr (skip Expr (next s p))))
    stmt_fits GoSub k r p = omega (arith, target_fits p)
    stmt_fits GoTo k r p = omega (arith, target_fits (next s p))
    stmt_fits If k r p =
        let q = skip Expr p in
        let m = skip_list s (skip Stmt) q in
        let xs = Tree.stmt_list s left stmt_here q in
        let c = 3 + words Expr p + repeat_count s (λ q. words Stmt q + 0) (skip Stmt) (payload_at s q) (next s q) in
        omega (
          arith,
          choose_fits Size.stmt_words (Form.is_absent s m) (λ u. Tree.if_then r (expr_here p) xs) (λ u. Tree.if_else r (expr_here p) xs (Tree.stmt_list s left stmt_here u)) c (λ u. 1) (list_count s (λ u. words Stmt u + 0) (skip Stmt)) m
              (omega (arith, below Expr p, stmt_list_lem q)) (omega (arith, below Expr p, stmt_list_lem q, stmt_list_lem m)),
        )
    stmt_fits Input k r p = omega (arith, source_fits (payload_at s p) (next s p), listed InputPlace (below InputPlace) (Tree.behind_source s left stmt_here p))
    stmt_fits Let k r p = omega (arith, below Place p, below Expr (skip Place p))
    stmt_fits Load k r p = omega (arith, listed Expr (below Expr) p)
    stmt_fits Locate k r p = omega (arith, optional_fits p, optional_fits (choose (Form.is_absent s p) (next s) (skip Expr) p))
    stmt_fits Next k r p = omega (arith, items_fit Size.ones (λ x. 1) refl (λ x xs. refl) (Tree.opt_at s (range_at s)) (λ q. 1) (next s) (λ q. omega arith) (payload_at s p) (next s p))
    stmt_fits On k r p = omega (arith, below Expr p, pairs_fit (Tree.on_target_at s) (payload_at s (skip Expr p)) (next s (skip Expr p)))
    stmt_fits Open k r p =
        let q = next s (skip Expr p) in
        let m = skip Expr q in
        omega (arith, below Expr p, below Expr q, opt_fits Size.opt_len (Tree.len_at s left) (λ u. 1 + words Expr (next s u)) m (omega arith) (omega (arith, below Expr (next s m))))
    stmt_fits Print k r p =
        omega (
          arith,
          items_fit Size.elements_words Size.element_words refl (λ x xs. refl) (Tree.element_at s left stmt_here)
              (λ q. 1 + element_count s words (payload_at s q) (next s q) + 0) (skip_item s skip element) (λ q. omega (arith, element_fits (payload_at s q) (next s q))) (payload_at s p) (next s p),
        )
    stmt_fits Read k r p = omega (arith, listed Place (below Place) p)
    stmt_fits Restore k r p = omega (arith, target_fits p)
    stmt_fits Swap k r p = omega (arith, below Place p, below Place (skip Place p))
    stmt_fits System k r p = omega arith
    stmt_fits While k r p = omega (arith, below Expr p)
    stmt_fits Write k r p =
        let q = choose (Form.is_absent s p) (next s) (skip Expr) p in
        omega (
          arith,
          optional_fits p,
          items_fit Size.written_words (λ d. Size.expr_words d.datum + 1) refl (λ d ds. refl) (Tree.write_element_at s left)
              (λ u. words Expr u + 1) (λ u. next s (skip Expr u)) (λ u. omega (arith, below Expr u)) (payload_at s q) (next s q),
        )

  -- THEOREM: a tree has no more words than are counted where it is read
  tree_fits : (left : ℕ) (c : Sort) (p : ℕ) → tree_words left c p ≤ node_count s left c p
  unfolding Size.expr_words Size.stmt_words Tree.expr_at Tree.stmt_at node_count
  tree_fits zero Expr p = omega arith
  tree_fits zero Place p = omega arith
  tree_fits zero InputPlace p = omega arith
  tree_fits zero Stmt p = omega arith
  tree_fits (suc left) Expr p = expr_fits left (tree_fits left) (payload_at s p) _ _
  tree_fits (suc left) Place p = expr_fits left (tree_fits left) (payload_at s p) _ _
  tree_fits (suc left) InputPlace p = expr_fits left (tree_fits left) (payload_at s p) _ _
  tree_fits (suc left) Stmt p =
      let k = payload_at s p in
      rw (fields_rule k) at (stmt_fits left (tree_fits left) (Tree.shape_of k) k (range_at s (next s p)) (next s (next s p)))

  -- a line, the lines, the sheet
  module _ (t : List ℕ) where
    pub label_takes : (line : Line) (p : ℕ) → Takes (choose (Form.is_absent s p) (λ q. 1) (λ q. 2) p) p (Tree.behind_label s p) (Form.label_form s line p)
    unfolding Form.label_form
    label_takes line p =
        takes_choose (Form.is_absent s p) (λ q. 1) (λ q. 2) (next s) (λ q. next s (next s q)) (Form.absent_form s) (λ q. Form.then (Form.range_form s line q) (λ u. Form.take_word s 3 65536 u)) p
        (word_takes s 2 1 p (omega arith)) (takes_then _ (range_takes s line p) (word_takes s 3 65536 (next s p) (omega arith)))

    pub line_takes : (base p : ℕ) → Takes (Size.line_words (Tree.line_at s p)) p (Tree.behind_line s p) (Form.line_form s t base p)
    unfolding Form.line_form Form.line_head
    line_takes base p =
        let line = Form.line_of s t base p in
        let q = Tree.behind_label s (next s p) in
        let count = node_count s 64 Stmt in
        let skip = skip_node s 64 Stmt in
        takes_less
        (takes_then _ (takes_then _ (word_takes s 16 4096 p (omega arith)) (takes_test (leb (base + payload_at s p) (length t)) _ (takes_at _)))
        (takes_then _ (label_takes line (next s p)) (list_takes s t line (Form.node_form s t line 64 Stmt) count skip (node_takes s t line 64 Stmt) q)))
        (omega (arith, opt_fits Size.opt_target (Tree.target_at s) (λ u. 2) (next s p) (omega arith) (omega arith), stmts_fit (Tree.stmt_at s 64) count skip (tree_fits 64 Stmt) (payload_at s q) (next s q)))

    end_takes : (base p : ℕ) → Takes 0 p p (Form.end_form s t base p)
    unfolding Form.end_form
    end_takes base p = takes_refuse (ltb p (length s)) _ (takes_refuse (ltb base (length t)) _ (takes_at p))

    lines_past : (n base p q : ℕ) → Form.lines_form s t n base p ≡ Ok q → p + Size.lines_words (Tree.items_at s (Tree.line_at s) (Tree.behind_line s) n p) ≤ q
    unfolding Form.lines_form Tree.items_at Size.lines_words
    lines_past zero base p q e = omega (arith, (end_takes base p).past q e)
    lines_past (suc n) base p q e =
        let h = line_takes base p in
        let x = Tree.behind_line s p in
        let u = two_parts (Form.line_form s t base p) (λ r. Form.lines_form s t n (base + payload_at s p) r) x q h.walk_ends e in
        omega (arith, h.past x u.0, lines_past n (base + payload_at s p) x q u.1)

    sheet_past : (q : ℕ) → Form.sheet_form s t ≡ Ok q → Size.program_words (Tree.program_at s) ≤ q
    unfolding Form.sheet_form Tree.program_at
    sheet_past q e =
        let h = word_takes s 15 16777216 0 (omega arith) in
        let u = two_parts (Form.take_word s 15 16777216 0) (λ p. Form.lines_form s t (payload_at s 0) 0 p) (next s 0) q h.walk_ends e in
        omega (arith, h.past (next s 0) u.0, lines_past (payload_at s 0) 0 (next s 0) q u.1)

-- THEOREM: the words that the tree of an accepted sheet stands for are no more than the sheet has
pub program_fits : (s t : List ℕ) (work : ℕ) → checked s t work ≡ Accepted → Size.program_words (Tree.program_at s) ≤ length s
program_fits s t work e = let w = walked s t work e in omega (arith, sheet_past s t w.end w.walks, sheet_within s t w.end w.walks)
