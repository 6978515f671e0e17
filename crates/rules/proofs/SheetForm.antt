-- The trees that a sheet in form holds: places to store are places, functions have arguments, statements have their numbers.
use Rattle.std.proofs.Common.{◌≡◌, ℕ, zero, suc, ◌+◌, Bool, true, false, eqb, leb, List, [], ◌∷◌, length, get_or, sym, refl, subst, arith}
use Rattle.recorder.specs.Word.{pick, both, payload_at, next, choose}
use Rattle.recorder.specs.declared.word.Range.{Range}
use Rattle.recorder.proofs.Bools.{both_left, both_right}
use Rattle.sheet.specs.declared.form.Item.{Item}
use Rattle.sheet.specs.declared.form.Item.TheVariants.{Nothing, Node, Source as source, Element as element}
use Rattle.sheet.specs.declared.form.Sort.{Sort}
use Rattle.sheet.specs.declared.form.Sort.TheVariants.{Expr as exprSort, Place as placeSort, InputPlace as inputSort, Stmt as stmtSort}
use Rattle.sheet.specs.declared.form.Field.{Field}
use Rattle.sheet.specs.declared.form.Shape.{Shape}
use Rattle.sheet.specs.declared.form.Shape.TheVariants.{Rem, NoOp, Op0, Run, Op1, Op2, Op3, Draw, Set, Data, Def, Dim, Field as Fields, For, GoSub, GoTo, If, Input, Let, Load, Locate, Next, On, Open, Print, Read, Restore, Swap, System, While, Write}
use Rattle.sheet.specs.Walk.{Walk}
use Rattle.std.specs.Prelude.{Ok, Err}
use Rattle.sheet.specs.declared.form.Line.{Line}
use Rattle.sheet.specs.declared.form.Offence.TheVariants.{BadLength}
use Rattle.sheet.specs.Check.{Accepted}
use Rattle.sheet.specs.Table.{one, optional, list, non_empty, non_empty₂, optional_list, expr, flag, place, input_place, stmt, may_stand, expr_fields}
use Rattle.sheet.specs.Shapes.{shape_fields}
use Rattle.sheet.specs.Form
use Rattle.sheet.specs.Check.{checked}
use Rattle.sheet.specs.Skip.{skip_item, skip_pair, skip_list, skip_times, skip_field, skip_node, skip_source, skip_element}
use Rattle.sheet.specs.Tree.{Expr, FieldSpec, WriteElement, Stmt, if_then, if_else, shape_table, shape_of, exprs_at, items_at, expr_list_at, expr_node, expr_at, stmts_at, element_of, if_at, stmt_node, stmt_at, line_at, behind_label, behind_line, line_stmts, program_at}
use Rattle.sheet.proofs.Walks.{pick_behind}
use Rattle.sheet.proofs.Shapes.{fields_rule}
use Rattle.walk.proofs.Lines.{then_first}
use Rattle.walk.proofs.Within.{walked}
use Rattle.walk.proofs.Accepted.{EndsAt, ends_at_choose, ends_at_then, word_ends_at, range_ends_at, item_ends_at, list_ends_at, field_ends_at, node_ends_at, accepted}
use Rattle.rules.specs.declared.types.«Type».TheVariants.{String, Real}
use Rattle.rules.specs.Missing.{All}
use Rattle.rules.specs.Tables.{operand}
use Rattle.rules.specs.Piles.{is_set}
use Rattle.rules.proofs.BoolLaws.{no_one}
use Rattle.rules.proofs.OpPiles.{IsPlace, IsInput, AllExprs, Filled, FilledCall, FormedElement, PlainOp, DrawOp, SetOp}
use Rattle.rules.proofs.BlockPiles.{Some, FormedStmt, FormedStmts}
use Rattle.rules.proofs.SheetWalk.{two_parts, nonempty, inside}
use Rattle.rules.proofs.ProgramPiles.{Formed}

-- the numbers of statements, by their shape
abbrev is_plain : ℕ → Bool
is_plain k = pick (eqb k 58) false (pick (is_set k) false true)

abbrev no_text : ℕ → Bool
no_text k = pick (eqb k 44) false (pick (eqb k 70) false (pick (eqb k 66) false true))

abbrev is_set_op : ℕ → Bool
is_set_op k = pick (eqb k 58) false (is_set k)

abbrev op_test : Shape → ℕ → Bool
op_test Rem k = true
op_test NoOp k = true
op_test Op0 k = is_plain k
op_test Run k = is_plain k
op_test Op1 k = is_plain k
op_test Op2 k = is_plain k
op_test Op3 k = is_plain k
op_test Draw k = both (is_plain k) (no_text k)
op_test Set k = is_set_op k
op_test Data k = true
op_test Def k = true
op_test Dim k = true
op_test Fields k = true
op_test For k = true
op_test GoSub k = true
op_test GoTo k = true
op_test If k = true
op_test Input k = true
op_test Let k = true
op_test Load k = true
op_test Locate k = true
op_test Next k = true
op_test On k = true
op_test Open k = true
op_test Print k = true
op_test Read k = true
op_test Restore k = true
op_test Swap k = true
op_test System k = true
op_test While k = true
op_test Write k = true

plain_op : (k : ℕ) → is_plain k ≡ true → PlainOp k
plain_op k e = go (eqb k 58) refl (is_set k) refl e
  where
    go : (a : Bool) → eqb k 58 ≡ a → (b : Bool) → is_set k ≡ b → pick a false (pick b false true) ≡ true → PlainOp k
    go true p b q h = no_one h
    go false p true q h = no_one h
    go false p false q h = record { no_swap = p; no_set = q }

set_op : (k : ℕ) → is_set_op k ≡ true → SetOp k
set_op k e = go (eqb k 58) refl e
  where
    go : (a : Bool) → eqb k 58 ≡ a → pick a false (is_set k) ≡ true → SetOp k
    go true p h = no_one h
    go false p h = record { no_swap = p; is_set = h }

draw_op : (k : ℕ) → is_plain k ≡ true → no_text k ≡ true → DrawOp k
draw_op k e f = record { plain = plain_op k e; real = real }
  where
    real : (i : ℕ) → operand k i ≡ Real
    real i = unfold operand in go (eqb k 44) (eqb k 70) (eqb k 66) f
      where
        go : (a b c : Bool) → pick a false (pick b false (pick c false true)) ≡ true
            → pick a String (pick b String (pick (both c (eqb i 1)) String Real)) ≡ Real
        go true b c h = no_one h
        go false true c h = no_one h
        go false false true h = no_one h
        go false false false h = refl

abbrev all_tests : List Shape → ℕ → Bool
all_tests [] n = true
all_tests (x ∷ xs) n = both (op_test x n) (all_tests xs (suc n))

tests_at : (xs : List Shape) (n k m : ℕ) → m ≡ n + k → all_tests xs n ≡ true → op_test (get_or xs k NoOp) m ≡ true
tests_at [] n k m e a = refl
tests_at (x ∷ xs) n zero m e a = let f : m ≡ n = omega (arith, e) in rw f (both_left (op_test x n) (all_tests xs (suc n)) a)
tests_at (x ∷ xs) n (suc k) m e a = tests_at xs (suc n) k m (omega (arith, e)) (both_right (op_test x n) (all_tests xs (suc n)) a)

op_test_lem : (k : ℕ) → op_test (shape_of k) k ≡ true
unfolding shape_of
op_test_lem k = tests_at shape_table 0 k k (omega arith) refl

-- the cases of an expression
module _ (s : List ℕ) (child : ℕ → Expr) (skip : ℕ → ℕ) where
  place_node : (k : ℕ) (r : Range) (p : ℕ) → may_stand placeSort k ≡ true → IsPlace (expr_node s child skip k r p)
  unfolding expr_node
  place_node zero r p e = tt
  place_node (suc zero) r p e = no_one e
  place_node (suc (suc zero)) r p e = no_one e
  place_node (suc (suc (suc zero))) r p e = no_one e
  place_node (suc (suc (suc (suc zero)))) r p e = no_one e
  place_node (suc (suc (suc (suc (suc zero))))) r p e = no_one e
  place_node (suc (suc (suc (suc (suc (suc zero)))))) r p e = no_one e
  place_node (suc (suc (suc (suc (suc (suc (suc zero))))))) r p e = tt
  place_node (suc (suc (suc (suc (suc (suc (suc (suc zero)))))))) r p e = no_one e
  place_node (suc (suc (suc (suc (suc (suc (suc (suc (suc zero))))))))) r p e = tt
  place_node (suc (suc (suc (suc (suc (suc (suc (suc (suc (suc k)))))))))) r p e = tt

  input_node : (k : ℕ) (r : Range) (p : ℕ) → may_stand inputSort k ≡ true → IsInput (expr_node s child skip k r p)
  unfolding expr_node
  input_node zero r p e = tt
  input_node (suc zero) r p e = no_one e
  input_node (suc (suc zero)) r p e = no_one e
  input_node (suc (suc (suc zero))) r p e = no_one e
  input_node (suc (suc (suc (suc zero)))) r p e = tt
  input_node (suc (suc (suc (suc (suc zero))))) r p e = no_one e
  input_node (suc (suc (suc (suc (suc (suc zero)))))) r p e = no_one e
  input_node (suc (suc (suc (suc (suc (suc (suc zero))))))) r p e = tt
  input_node (suc (suc (suc (suc (suc (suc (suc (suc zero)))))))) r p e = no_one e
  input_node (suc (suc (suc (suc (suc (suc (suc (suc (suc zero))))))))) r p e = tt
  input_node (suc (suc (suc (suc (suc (suc (suc (suc (suc (suc k)))))))))) r p e = tt

  call_node : (k : ℕ) (r : Range) (p : ℕ) → (k ≡ 3 → Filled (expr_list_at s child skip (next s (next s p)))) → FilledCall (expr_node s child skip k r p)
  unfolding expr_node
  call_node zero r p f = tt
  call_node (suc zero) r p f = tt
  call_node (suc (suc zero)) r p f = tt
  call_node (suc (suc (suc zero))) r p f = f refl
  call_node (suc (suc (suc (suc zero)))) r p f = tt
  call_node (suc (suc (suc (suc (suc zero))))) r p f = tt
  call_node (suc (suc (suc (suc (suc (suc zero)))))) r p f = tt
  call_node (suc (suc (suc (suc (suc (suc (suc zero))))))) r p f = tt
  call_node (suc (suc (suc (suc (suc (suc (suc (suc zero)))))))) r p f = tt
  call_node (suc (suc (suc (suc (suc (suc (suc (suc (suc zero))))))))) r p f = tt
  call_node (suc (suc (suc (suc (suc (suc (suc (suc (suc (suc k)))))))))) r p f = tt

  filled_list : (n at : ℕ) → eqb n 0 ≡ false → Filled (exprs_at s child skip n at)
  unfolding exprs_at
  filled_list zero at e = no_one (sym e)
  filled_list (suc n) at e = tt

-- a walk that goes through
pub record Through (w : Walk) : Type 0 where
  pub behind : ℕ
  pub ends_behind : w ≡ Ok behind

module _ (s t : List ℕ) (line : Line) where
  -- the first field, and the others behind it
  pub record HeadField (child : Sort → ℕ → Walk) (skip : Sort → ℕ → ℕ) (f : Field) (fs : List Field) (at p : ℕ) : Type 0 where
    pub first : Through (Form.field_form s t line child f at)
    pub rest : Form.fields_form s t line child fs (skip_field s skip f at) ≡ Ok p

  module _ (child : Sort → ℕ → Walk) (skip : Sort → ℕ → ℕ) (walk_ends : (c : Sort) (at : ℕ) → EndsAt (child c at) (skip c at)) where
    head_field : (f : Field) (fs : List Field) (at p : ℕ) → Form.fields_form s t line child (f ∷ fs) at ≡ Ok p → HeadField child skip f fs at p
    unfolding Form.fields_form
    head_field f fs at p e =
        let q = skip_field s skip f at in
        let u = two_parts (Form.field_form s t line child f at) (λ q. Form.fields_form s t line child fs q) q p (field_ends_at s t line child skip walk_ends f at) e in
        record { first = record { behind = q; ends_behind = u.0 }; rest = u.1 }

    one_item : (i : Item) (at p : ℕ) → Form.field_form s t line child (one i) at ≡ Ok p → Through (Form.item_form s t line child i at)
    unfolding Form.field_form Form.times_form Form.pair_form
    one_item i at p e = let u = then_first _ (Form.item_form s t line child i at) (λ q. Form.item_form s t line child Nothing q) p refl e in record { behind = u.0; ends_behind = u.1 }

    one_node : (c : Sort) (at p : ℕ) → Form.field_form s t line child (one (Node c)) at ≡ Ok p → Through (child c at)
    unfolding Form.item_form
    one_node c at p e = one_item (Node c) at p e

    -- the items of a list
    list_items : (f : ℕ → Walk) (at p : ℕ) → Form.list_form s t line f at ≡ Ok p → Form.repeat_form s t line f (payload_at s at) (next s at) ≡ Ok p
    unfolding Form.list_form
    list_items f at p e = (two_parts (Form.count_form s at) (λ q. Form.repeat_form s t line f (payload_at s at) q) (next s at) p (word_ends_at s 4 16777216 at) e).1

    listed : (a : Item) (at p : ℕ) → Form.field_form s t line child (list a) at ≡ Ok p → Form.repeat_form s t line (Form.pair_form s t line child a Nothing) (payload_at s at) (next s at) ≡ Ok p
    unfolding Form.field_form Form.times_form
    listed a at p e = list_items (Form.pair_form s t line child a Nothing) at p e

    listed_some : (a b : Item) (at p : ℕ) → Form.field_form s t line child (non_empty₂ a b) at ≡ Ok p
        → (eqb (payload_at s at) 0 ≡ false) × (Form.repeat_form s t line (Form.pair_form s t line child a b) (payload_at s at) (next s at) ≡ Ok p)
    unfolding Form.field_form Form.times_form
    listed_some a b at p e =
        let u = then_first _ (Form.non_empty_form s at) (λ q. Form.list_form s t line (Form.pair_form s t line child a b) at) p refl e in
        (nonempty s at u.0 u.1, list_items (Form.pair_form s t line child a b) at p u.2)

    -- one item: where it ends, and what is known of it
    single : (a : Item) (at p : ℕ) → Form.pair_form s t line child a Nothing at ≡ Ok p → Form.item_form s t line child a at ≡ Ok p
    unfolding Form.pair_form Form.item_form
    single a at p e =
        let u = then_first _ (Form.item_form s t line child a at) (λ q. Form.item_form s t line child Nothing q) p refl e in
        let f : u.0 ≡ p = cc u.2 in
        rw f at u.1

    single_node : (c : Sort) (at p : ℕ) → Form.pair_form s t line child (Node c) Nothing at ≡ Ok p → child c at ≡ Ok p
    unfolding Form.item_form
    single_node c at p e = single (Node c) at p e

  module _ (f : ℕ → Walk) (g : ℕ → ℕ) where
    repeat_exprs : (X : Expr → Type 0) (h : ℕ → Expr) → ((at p : ℕ) → f at ≡ Ok p → (p ≡ g at) × X (h at)) → (n at p : ℕ) → Form.repeat_form s t line f n at ≡ Ok p → AllExprs X (exprs_at s h g n at)
    unfolding Form.repeat_form exprs_at
    repeat_exprs X h k zero at p e = tt
    repeat_exprs X h k (suc n) at p e =
        let u = then_first _ (f at) (λ q. Form.repeat_form s t line f n q) p refl e in
        let v = k at u.0 u.1 in
        (v.1, repeat_exprs X h k n (g at) p (subst (λ (q : ℕ). Form.repeat_form s t line f n q ≡ Ok p) v.0 u.2))

    repeat_items : {A : Type 0} (X : A → Type 0) (h : ℕ → A) → ((at p : ℕ) → f at ≡ Ok p → (p ≡ g at) × X (h at)) → (n at p : ℕ) → Form.repeat_form s t line f n at ≡ Ok p → All X (items_at s h g n at)
    unfolding Form.repeat_form items_at
    repeat_items X h k zero at p e = tt
    repeat_items X h k (suc n) at p e =
        let u = then_first _ (f at) (λ q. Form.repeat_form s t line f n q) p refl e in
        let v = k at u.0 u.1 in
        (v.1, repeat_items X h k n (g at) p (subst (λ (q : ℕ). Form.repeat_form s t line f n q ≡ Ok p) v.0 u.2))

    repeat_stmts : (h : ℕ → Stmt) → ((at p : ℕ) → f at ≡ Ok p → (p ≡ g at) × FormedStmt (h at)) → (n at p : ℕ) → Form.repeat_form s t line f n at ≡ Ok p → FormedStmts (stmts_at s h g n at)
    unfolding Form.repeat_form stmts_at
    repeat_stmts h k zero at p e = tt
    repeat_stmts h k (suc n) at p e =
        let u = then_first _ (f at) (λ q. Form.repeat_form s t line f n q) p refl e in
        let v = k at u.0 u.1 in
        (v.1, repeat_stmts h k n (g at) p (subst (λ (q : ℕ). Form.repeat_form s t line f n q ≡ Ok p) v.0 u.2))

  abbrev node : ℕ → Sort → ℕ → Walk
  node left c at = Form.node_form s t line left c at

  place_tree : (left at p : ℕ) → node left placeSort at ≡ Ok p → IsPlace (expr_at s left at)
  unfolding expr_at
  place_tree zero at p e = tt
  place_tree (suc left) at p e = place_node s (expr_at s left) (skip_node s left exprSort) (payload_at s at) _ _ (inside s t line left placeSort at p e).stands

  input_tree : (left at p : ℕ) → node left inputSort at ≡ Ok p → IsInput (expr_at s left at)
  unfolding expr_at
  input_tree zero at p e = tt
  input_tree (suc left) at p e = input_node s (expr_at s left) (skip_node s left exprSort) (payload_at s at) _ _ (inside s t line left inputSort at p e).stands

  call_tree : (left at p : ℕ) → node left exprSort at ≡ Ok p → FilledCall (expr_at s left at)
  unfolding expr_at
  call_tree zero at p e = tt
  call_tree (suc left) at p e = call_node s (expr_at s left) (skip_node s left exprSort) (payload_at s at) _ _ (λ k. filled k (inside s t line left exprSort at p e).fields)
    where
      P : ℕ
      P = next s (next s at)

      filled : payload_at s at ≡ 3 → Form.fields_form s t line (node left) (expr_fields (payload_at s at)) P ≡ Ok p → Filled (expr_list_at s (expr_at s left) (skip_node s left exprSort) (next s (next s P)))
      filled k h = unfold expr_fields skip_field skip_times skip_pair skip_item in
          let h₀ = subst (λ (n : ℕ). Form.fields_form s t line (node left) (expr_fields n) P ≡ Ok p) k h in
          let a = head_field (node left) (skip_node s left) (node_ends_at s t line left) _ _ P p h₀ in
          let b = head_field (node left) (skip_node s left) (node_ends_at s t line left) _ _ (next s P) p a.rest in
          let c = head_field (node left) (skip_node s left) (node_ends_at s t line left) _ _ (next s (next s P)) p b.rest in
          filled_list s (expr_at s left) (skip_node s left exprSort) (payload_at s (next s (next s P))) (next s (next s (next s P)))
          (listed_some (node left) (skip_node s left) (node_ends_at s t line left) expr Nothing (next s (next s P)) c.first.behind c.first.ends_behind).0

  -- a statement's parts, where `left` depths are left and those below are formed
  module _ (left : ℕ) (below : (at p : ℕ) → node left stmtSort at ≡ Ok p → FormedStmt (stmt_at s left at)) where
    abbrev child : Sort → ℕ → Walk
    child = Form.node_form s t line left

    abbrev skip : Sort → ℕ → ℕ
    skip = skip_node s left

    abbrev Fs : List Field → ℕ → ℕ → Type 0
    Fs fs at p = Form.fields_form s t line child fs at ≡ Ok p

    head : (f : Field) (fs : List Field) (at p : ℕ) → Fs (f ∷ fs) at p → HeadField child skip f fs at p
    head f fs at p e = head_field child skip (node_ends_at s t line left) f fs at p e

    first_place : (fs : List Field) (at p : ℕ) → Fs (one place ∷ fs) at p → IsPlace (expr_at s left at)
    first_place fs at p e =
        let a = head (one place) fs at p e in
        let b = one_node child skip (node_ends_at s t line left) placeSort at a.first.behind a.first.ends_behind in
        place_tree left at b.behind b.ends_behind

    two_places : (at p : ℕ) → Fs (one place ∷ one place ∷ []) at p → IsPlace (expr_at s left at) × IsPlace (expr_at s left (skip placeSort at))
    unfolding skip_field skip_times skip_pair skip_item
    two_places at p e =
        let a = head (one place) (one place ∷ []) at p e in
        (first_place (one place ∷ []) at p e, first_place [] (skip placeSort at) p a.rest)

    read_places : (at p : ℕ) → Fs (non_empty place ∷ []) at p → AllExprs IsPlace (exprs_at s (expr_at s left) (skip placeSort) (payload_at s at) (next s at))
    read_places at p e =
        let a = head (non_empty place) [] at p e in
        let b = listed_some child skip (node_ends_at s t line left) place Nothing at a.first.behind a.first.ends_behind in
        repeat_exprs (Form.pair_form s t line child place Nothing) (skip placeSort) IsPlace (expr_at s left)
        (λ q r f. let g = single_node child skip (node_ends_at s t line left) placeSort q r f in (accepted s t line left placeSort q r g, place_tree left q r g))
        (payload_at s at) (next s at) a.first.behind b.1

    input_places : (at p : ℕ) → Fs (one source ∷ non_empty input_place ∷ []) at p
        → AllExprs IsInput (exprs_at s (expr_at s left) (skip inputSort) (payload_at s (skip_source s skip (payload_at s at) (next s at))) (next s (skip_source s skip (payload_at s at) (next s at))))
    unfolding skip_field skip_times skip_pair skip_item
    input_places at p e =
        let a = head _ (non_empty input_place ∷ []) at p e in
        let q = skip_source s skip (payload_at s at) (next s at) in
        let b = head (non_empty input_place) [] q p a.rest in
        let c = listed_some child skip (node_ends_at s t line left) input_place Nothing q b.first.behind b.first.ends_behind in
        repeat_exprs (Form.pair_form s t line child input_place Nothing) (skip inputSort) IsInput (expr_at s left)
        (λ m r f. let g = single_node child skip (node_ends_at s t line left) inputSort m r f in (accepted s t line left inputSort m r g, input_tree left m r g))
        (payload_at s q) (next s q) b.first.behind c.1

    field_places : (at p : ℕ) → Fs (one expr ∷ non_empty₂ expr place ∷ []) at p
        → All (λ (f : FieldSpec). IsPlace f.var) (items_at s (λ q. record { len = expr_at s left q; var = expr_at s left (skip exprSort q) }) (λ q. skip placeSort (skip exprSort q)) (payload_at s (skip exprSort at)) (next s (skip exprSort at)))
    unfolding skip_field skip_times skip_pair skip_item
    field_places at p e =
        let a = head (one expr) (non_empty₂ expr place ∷ []) at p e in
        let q = skip exprSort at in
        let b = head (non_empty₂ expr place) [] q p a.rest in
        let c = listed_some child skip (node_ends_at s t line left) expr place q b.first.behind b.first.ends_behind in
        repeat_items (Form.pair_form s t line child expr place) (λ q. skip placeSort (skip exprSort q)) (λ (f : FieldSpec). IsPlace f.var) _ (λ m r f. one_field m r f) (payload_at s q) (next s q) b.first.behind c.1
      where
        one_field : (m r : ℕ) → Form.pair_form s t line child expr place m ≡ Ok r → (r ≡ skip placeSort (skip exprSort m)) × IsPlace (expr_at s left (skip exprSort m))
        one_field m r f = unfold Form.pair_form Form.item_form in
            let g = (two_parts (child exprSort m) (λ q. child placeSort q) (skip exprSort m) r (node_ends_at s t line left exprSort m) f).1 in
            (accepted s t line left placeSort (skip exprSort m) r g, place_tree left (skip exprSort m) r g)

    some_items : {A : Type 0} (h : ℕ → A) (g : ℕ → ℕ) (n at : ℕ) → eqb n 0 ≡ false → Some (items_at s h g n at)
    unfolding items_at
    some_items h g zero at e = no_one (sym e)
    some_items h g (suc n) at e = tt

    write_values : (at p : ℕ) → Fs (optional expr ∷ non_empty₂ expr flag ∷ []) at p
        → Some {A = WriteElement} (items_at s (λ q. record { datum = expr_at s left q; comma = payload_at s (skip exprSort q) }) (λ q. next s (skip exprSort q)) (payload_at s (choose (Form.is_absent s at) (next s) (skip exprSort) at)) (next s (choose (Form.is_absent s at) (next s) (skip exprSort) at)))
    unfolding skip_field skip_times skip_pair skip_item
    write_values at p e =
        let a = head (optional expr) (non_empty₂ expr flag ∷ []) at p e in
        let q = choose (Form.is_absent s at) (next s) (skip exprSort) at in
        let b = head (non_empty₂ expr flag) [] q p a.rest in
        some_items _ _ (payload_at s q) (next s q) (listed_some child skip (node_ends_at s t line left) expr flag q b.first.behind b.first.ends_behind).0

    element_of_lem : (n q p : ℕ) → Form.element_rest s t line child n q ≡ Ok p → FormedElement (element_of s left (stmt_at s left) n q)
    element_of_lem zero q p e = call_tree left q p e
    element_of_lem (suc zero) q p e = tt
    element_of_lem (suc (suc n)) q p e = tt

    elements : (at p : ℕ) → Fs (list element ∷ []) at p
        → All FormedElement (items_at s (λ q. element_of s left (stmt_at s left) (payload_at s q) (next s q)) (λ q. skip_element s skip (payload_at s q) (next s q)) (payload_at s at) (next s at))
    elements at p e =
        let a = head _ [] at p e in
        let b = listed child skip (node_ends_at s t line left) _ at a.first.behind a.first.ends_behind in
        repeat_items (Form.pair_form s t line child element Nothing) (λ q. skip_element s skip (payload_at s q) (next s q)) FormedElement _ (λ m r f. one_element m r f)
        (payload_at s at) (next s at) a.first.behind b
      where
        one_element : (m r : ℕ) → Form.pair_form s t line child element Nothing m ≡ Ok r
            → (r ≡ skip_element s skip (payload_at s m) (next s m)) × FormedElement (element_of s left (stmt_at s left) (payload_at s m) (next s m))
        one_element m r f = unfold Form.item_form skip_item in
            let g = single child skip (node_ends_at s t line left) element m r f in
            let h = (two_parts (Form.take_word s 8 3 m) (λ q. Form.element_rest s t line child (payload_at s m) q) (next s m) r (word_ends_at s 8 3 m) g).1 in
            ((item_ends_at s t line child skip (node_ends_at s t line left) element m).ends r g, element_of_lem (payload_at s m) (next s m) r h)

    -- statements inside an IF
    stmts_of : (n at p : ℕ) → Form.repeat_form s t line (Form.pair_form s t line child stmt Nothing) n at ≡ Ok p → FormedStmts (stmts_at s (stmt_at s left) (skip stmtSort) n at)
    stmts_of n at p e =
        repeat_stmts (Form.pair_form s t line child stmt Nothing) (skip stmtSort) (stmt_at s left)
        (λ q r f. let g = single_node child skip (node_ends_at s t line left) stmtSort q r f in (accepted s t line left stmtSort q r g, below q r g)) n at p e

    if_of : (r : Range) (at p : ℕ) → Fs (one expr ∷ list stmt ∷ optional_list stmt ∷ []) at p → FormedStmt (if_at s left (stmt_at s left) r at)
    unfolding skip_field skip_times skip_pair skip_item Form.field_form Form.times_form
    if_of r at p e =
        let a = head (one expr) (list stmt ∷ optional_list stmt ∷ []) at p e in
        let q = skip exprSort at in
        let b = head (list stmt) (optional_list stmt ∷ []) q p a.rest in
        let x = stmts_of (payload_at s q) (next s q) b.first.behind (listed child skip (node_ends_at s t line left) stmt q b.first.behind b.first.ends_behind) in
        let c = head (optional_list stmt) [] (skip_list s (skip stmtSort) q) p b.rest in
        go (Form.is_absent s (skip_list s (skip stmtSort) q)) x c.first.behind c.first.ends_behind
      where
        m : ℕ
        m = skip_list s (skip stmtSort) (skip exprSort at)

        go : (b : Bool) → FormedStmts (stmts_at s (stmt_at s left) (skip stmtSort) (payload_at s (skip exprSort at)) (next s (skip exprSort at))) → (u : ℕ)
            → choose b (Form.absent_form s) (Form.list_form s t line (Form.pair_form s t line child stmt Nothing)) m ≡ Ok u
            → FormedStmt (choose b (λ q. if_then r (expr_at s left at) (stmts_at s (stmt_at s left) (skip stmtSort) (payload_at s (skip exprSort at)) (next s (skip exprSort at))))
            (λ q. if_else r (expr_at s left at) (stmts_at s (stmt_at s left) (skip stmtSort) (payload_at s (skip exprSort at)) (next s (skip exprSort at))) (stmts_at s (stmt_at s left) (skip stmtSort) (payload_at s q) (next s q))) m)
        go true x u h = x
        go false x u h = (x, stmts_of (payload_at s m) (next s m) u (list_items child skip (node_ends_at s t line left) (Form.pair_form s t line child stmt Nothing) m u h))

    shape_of_lem : (x : Shape) (k : ℕ) (r : Range) (at p : ℕ) → op_test x k ≡ true → Fs (shape_fields x) at p → FormedStmt (stmt_node s left (stmt_at s left) x k r at)
    unfolding stmt_node
    shape_of_lem Rem k r at p o f = tt
    shape_of_lem NoOp k r at p o f = tt
    shape_of_lem Op0 k r at p o f = plain_op k o
    shape_of_lem Run k r at p o f = plain_op k o
    shape_of_lem Op1 k r at p o f = plain_op k o
    shape_of_lem Op2 k r at p o f = plain_op k o
    shape_of_lem Op3 k r at p o f = plain_op k o
    shape_of_lem Draw k r at p o f = draw_op k (both_left (is_plain k) (no_text k) o) (both_right (is_plain k) (no_text k) o)
    shape_of_lem Set k r at p o f = (set_op k o, first_place (one expr ∷ []) at p f)
    shape_of_lem Data k r at p o f = tt
    shape_of_lem Def k r at p o f = tt
    shape_of_lem Dim k r at p o f = tt
    shape_of_lem Fields k r at p o f = field_places at p f
    shape_of_lem For k r at p o f = tt
    shape_of_lem GoSub k r at p o f = tt
    shape_of_lem GoTo k r at p o f = tt
    shape_of_lem If k r at p o f = if_of r at p f
    shape_of_lem Input k r at p o f = input_places at p f
    shape_of_lem Let k r at p o f = first_place (one expr ∷ []) at p f
    shape_of_lem Load k r at p o f = tt
    shape_of_lem Locate k r at p o f = tt
    shape_of_lem Next k r at p o f = tt
    shape_of_lem On k r at p o f = tt
    shape_of_lem Open k r at p o f = tt
    shape_of_lem Print k r at p o f = elements at p f
    shape_of_lem Read k r at p o f = read_places at p f
    shape_of_lem Restore k r at p o f = tt
    shape_of_lem Swap k r at p o f = two_places at p f
    shape_of_lem System k r at p o f = tt
    shape_of_lem While k r at p o f = tt
    shape_of_lem Write k r at p o f = write_values at p f

  stmt_tree : (left at p : ℕ) → node left stmtSort at ≡ Ok p → FormedStmt (stmt_at s left at)
  unfolding stmt_at
  stmt_tree zero at p e = tt
  stmt_tree (suc left) at p e =
      let k = payload_at s at in
      shape_of_lem left (stmt_tree left) (shape_of k) k _ (next s (next s at)) p (op_test_lem k) (rw (← fields_rule k) at (inside s t line left stmtSort at p e).fields)

-- a line, and where it ends
module _ (s t : List ℕ) where
  label_ends_at : (line : Line) (at : ℕ) → EndsAt (Form.label_form s line at) (behind_label s at)
  unfolding Form.label_form
  label_ends_at line at =
      ends_at_choose (Form.is_absent s at) (Form.absent_form s) (λ p. Form.then (Form.range_form s line p) (λ q. Form.take_word s 3 65536 q)) (next s) (λ p. next s (next s p)) at (word_ends_at s 2 1 at)
      (ends_at_then _ _ (next s at) _ (range_ends_at s line at) (word_ends_at s 3 65536 (next s at)))

  line_tree : (base at p : ℕ) → Form.line_form s t base at ≡ Ok p → (p ≡ behind_line s at) × FormedStmts (line_stmts s (behind_label s (next s at)))
  unfolding Form.line_form Form.line_head
  line_tree base at p e =
      let line = Form.line_of s t base at in
      let f = Form.node_form s t line 64 stmtSort in
      let u = then_first _ (Form.line_head s t base at) (λ p. Form.then (Form.label_form s line p) (λ q. Form.list_form s t line f q)) p refl e in
      let h = two_parts (Form.take_word s 16 4096 at) (λ p. pick (leb (base + payload_at s at) (length t)) (Ok p) (Err (BadLength at))) (next s at) u.0 (word_ends_at s 16 4096 at) u.1 in
      let z : u.0 ≡ next s at = sym (pick_behind (leb (base + payload_at s at) (length t)) (next s at) u.0 (BadLength at) h.1).1 in
      let m = behind_label s (next s at) in
      let w = (two_parts (Form.label_form s line (next s at)) (λ q. Form.list_form s t line f q) m p (label_ends_at line (next s at)) (rw z at u.2)).1 in
      let walk_ends = node_ends_at s t line 64 in (
        (list_ends_at s t line f (skip_node s 64 stmtSort) (walk_ends stmtSort) m).ends p w,
        repeat_stmts s t line f (skip_node s 64 stmtSort) (stmt_at s 64) (λ q r g. ((walk_ends stmtSort q).ends r g, stmt_tree s t line 64 q r g)) (payload_at s m) (next s m) p (list_items s t line (Form.node_form s t line 64) (skip_node s 64) walk_ends f m p w),
      )

  lines_tree : (n base at p : ℕ) → Form.lines_form s t n base at ≡ Ok p → Formed (items_at s (line_at s) (behind_line s) n at)
  unfolding Form.lines_form items_at
  lines_tree zero base at p e = tt
  lines_tree (suc n) base at p e =
      let u = then_first _ (Form.line_form s t base at) (λ q. Form.lines_form s t n (base + payload_at s at) q) p refl e in
      let v = line_tree base at u.0 u.1 in
      (v.1, lines_tree n (base + payload_at s at) (behind_line s at) p (subst (λ (q : ℕ). Form.lines_form s t n (base + payload_at s at) q ≡ Ok p) v.0 u.2))

  sheet_tree : (p : ℕ) → Form.sheet_form s t ≡ Ok p → Formed (program_at s)
  unfolding Form.sheet_form program_at
  sheet_tree p e =
      lines_tree (payload_at s 0) 0 (next s 0) p (two_parts (Form.take_word s 15 16777216 0) (λ q. Form.lines_form s t (payload_at s 0) 0 q) (next s 0) p (word_ends_at s 15 16777216 0) e).1

  -- an accepted sheet is in form
  pub accepted_formed : (work : ℕ) → checked s t work ≡ Accepted → Formed (program_at s)
  accepted_formed work e = let w = walked s t work e in sheet_tree w.end w.walks
