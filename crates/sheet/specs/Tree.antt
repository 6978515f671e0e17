-- The tree that a sheet holds, and how it is read from there. Every reader is total: what the form refuses reads as something.
use Rattle.std.specs.Prelude.{List, [], ◌∷◌, ℕ, zero, suc, ◌+◌, ◌*◌, ◌%◌, get_or}
use Rattle.recorder.specs.Numbers.{half_size, depth_limit}
use Rattle.recorder.specs.Word.{choose, payload_at, next, range_at, label_at}
use Rattle.recorder.specs.declared.word.Range.{Range}
use Rattle.sheet.specs.declared.form.Sort.TheVariants.{Expr as exprSort, Place as placeSort, InputPlace as inputSort, Stmt as stmtSort}
use Rattle.sheet.specs.declared.form.Shape.{Shape}
use Rattle.sheet.specs.declared.form.Shape.TheVariants.{Rem, NoOp, Op0, Run, Op1, Op2, Op3, Draw, Set, Data, Def, Dim, Field, For, GoSub, GoTo, If, Input, Let, Load, Locate, Next, On, Open, Print, Read, Restore, Swap, System, While, Write}
use Rattle.sheet.specs.Form.{is_absent}
use Rattle.sheet.specs.Skip.{skip_node, skip_list, skip_source, skip_element}

pub data Opt (A : Type 0) : Type 0 where
  absent : Opt A
  given : A → Opt A

-- ExprKind, each with its range first
mutual
  pub data Expr : Type 0 where
    ident : Range → Expr
    string_lit : Range → Expr
    -- the literal's e and m
    number_lit : Range → ℕ → ℕ → Expr
    -- the function's range, its place in SysFuncKind, its arguments
    sys_func_call : Range → Range → ℕ → Exprs → Expr
    user_func_call : Range → Opt Range → Expr → Expr
    -- left side, the operator's range, its place in BinaryOpKind, right side
    binary : Range → Expr → Range → ℕ → Expr → Expr
    unary : Range → ℕ → Expr → Expr
    index : Range → Opt Range → Exprs → Expr
    inkey : Range → Expr
    error : Range → Expr

  pub data Exprs : Type 0 where
    none : Exprs
    more : Expr → Exprs → Exprs

abbrev pub expr_range : Expr → Range
expr_range (ident r) = r
expr_range (string_lit r) = r
expr_range (number_lit r e m) = r
expr_range (sys_func_call r f k es) = r
expr_range (user_func_call r f e) = r
expr_range (binary r a o k b) = r
expr_range (unary r k e) = r
expr_range (index r n es) = r
expr_range (inkey r) = r
expr_range (error r) = r

unfoldable pub count : Exprs → ℕ
count none = zero
count (more e es) = suc (count es)

-- Datum, FieldSpec, (Range, Label) of a jump, a RESTORE and a line, (Range, Option<Label>), (Range, ExprId), WriteElement, PrintElement, InputSource
pub record Datum : Type 0 where
  pub range : Range
  pub quoted : ℕ

pub record FieldSpec : Type 0 where
  pub len : Expr
  pub var : Expr

pub record Target : Type 0 where
  pub range : Range
  pub label : ℕ

pub record OnTarget : Type 0 where
  pub range : Range
  pub label : Opt ℕ

pub record Len : Type 0 where
  pub range : Range
  pub value : Expr

pub record WriteElement : Type 0 where
  pub datum : Expr
  pub comma : ℕ

pub data PrintElement : Type 0 where
  value : Expr → PrintElement
  comma : Range → PrintElement
  semicolon : Range → PrintElement

pub data InputSource : Type 0 where
  keyboard : Opt Range → InputSource
  file : Expr → InputSource

-- StmtKind, the cases of one shape together with their number
mutual
  pub data Stmt : Type 0 where
    -- Auto, Copy, Del, Edit, Files, Kill, List, New, Rem, Rename, Save, Stop, NoOp
    rem : Range → Stmt
    -- statements of no operand, one, two and three
    op₀ : ℕ → Range → Stmt
    op₁ : ℕ → Range → Expr → Stmt
    op₂ : ℕ → Range → Expr → Expr → Stmt
    op₃ : ℕ → Range → Expr → Expr → Expr → Stmt
    -- Box, Circle, Draw, Ellipse, Line, Paint
    draw : ℕ → Range → Exprs → Stmt
    -- LSet, RSet
    set : ℕ → Range → Expr → Expr → Stmt
    data_list : Range → List Datum → Stmt
    def : Range → Opt Range → Opt Range → Expr → Stmt
    dim : Range → Exprs → Stmt
    field : Range → Expr → List FieldSpec → Stmt
    for : Range → Opt Range → Expr → Expr → Opt Expr → Stmt
    -- GoSub 1, GoTo 0
    go : Range → ℕ → Opt Target → Stmt
    if_then : Range → Expr → Stmts → Stmt
    if_else : Range → Expr → Stmts → Stmts → Stmt
    input : Range → InputSource → Exprs → Stmt
    assign : Range → Expr → Expr → Stmt
    load : Range → Exprs → Stmt
    locate : Range → Opt Expr → Opt Expr → Stmt
    next_of : Range → List (Opt Range) → Stmt
    on : Range → Expr → List OnTarget → ℕ → Stmt
    -- file name, mode, file number, LEN
    open_file : Range → Expr → ℕ → Expr → Opt Len → Stmt
    print : Range → List PrintElement → Stmt
    read : Range → Exprs → Stmt
    restore : Range → Opt Target → Stmt
    swap : Range → Expr → Expr → Stmt
    system : Range → Stmt
    while : Range → Expr → Stmt
    write : Range → Opt Expr → List WriteElement → Stmt

  pub data Stmts : Type 0 where
    end : Stmts
    then : Stmt → Stmts → Stmts

pub record ProgramLine : Type 0 where
  pub length : ℕ
  pub label : Opt Target
  pub stmts : Stmts

-- the shape of each case of StmtKind
abbrev pub shape_table : List Shape
shape_table =
    Rem ∷ Op0 ∷ Draw ∷ Op1 ∷ Draw ∷ Op0 ∷ Op1 ∷ Op0  -- 0 Auto Beep Box Call Circle Clear Close Cls
    ∷ Op0 ∷ Rem ∷ Data ∷ Def ∷ Rem ∷ Dim ∷ Draw ∷ Rem  -- 8 Cont Copy Data Def Del Dim Draw Edit
    ∷ Draw ∷ Op0 ∷ Field ∷ Rem ∷ Op0 ∷ For ∷ Op2 ∷ GoSub  -- 16 Ellipse End Field Files Flash For Get GoSub
    ∷ GoTo ∷ Op0 ∷ If ∷ Op0 ∷ Input ∷ Op0 ∷ Rem ∷ Let  -- 24 GoTo Graph If InKey Input Inverse Kill Let
    ∷ Draw ∷ Rem ∷ Load ∷ Locate ∷ Set ∷ Rem ∷ Next ∷ Op0  -- 32 Line List Load Locate LSet New Next Normal
    ∷ Op0 ∷ On ∷ Open ∷ Draw ∷ Op1 ∷ Op2 ∷ Op0 ∷ Print  -- 40 NoTrace On Open Paint Play Poke Pop Print
    ∷ Op2 ∷ Read ∷ Rem ∷ Rem ∷ Restore ∷ Op0 ∷ Set ∷ Run  -- 48 Put Read Rem Rename Restore Return RSet Run
    ∷ Rem ∷ Rem ∷ Swap ∷ System ∷ Op0 ∷ Op0 ∷ Op0 ∷ While  -- 56 Save Stop Swap System Text Trace Wend While
    ∷ Write ∷ Op1 ∷ Op2 ∷ Op3 ∷ Op3 ∷ Op2 ∷ Op1 ∷ NoOp  -- 64 Write Sleep Fputc Fread Fwrite Fseek DebugPrint NoOp
    ∷ []

unfoldable pub shape_of : ℕ → Shape
shape_of k = get_or shape_table k NoOp

module _ (s : List ℕ) where
  -- the value of a literal: e, and m from its high and low 16 bits
  abbrev pub mantissa_at : ℕ → ℕ
  mantissa_at at = payload_at s at % half_size * half_size + payload_at s (next s at) % half_size

  abbrev pub opt_at : {A : Type 0} → (ℕ → A) → ℕ → Opt A
  opt_at f at = choose (is_absent s at) (λ p. absent) (λ p. given (f p)) at

  abbrev pub target_at : ℕ → Target
  target_at at = record { range = range_at s at; label = label_at s (next s at) }

  unfoldable pub exprs_at : (ℕ → Expr) → (ℕ → ℕ) → ℕ → ℕ → Exprs
  exprs_at f skip zero at = none
  exprs_at f skip (suc n) at = more (f at) (exprs_at f skip n (skip at))

  unfoldable pub items_at : {A : Type 0} → (ℕ → A) → (ℕ → ℕ) → ℕ → ℕ → List A
  items_at f skip zero at = []
  items_at f skip (suc n) at = f at ∷ items_at f skip n (skip at)

  -- an expression behind its own range r, where `child` reads the expressions below and `skip` finds the place behind one
  module _ (child : ℕ → Expr) (skip : ℕ → ℕ) where
    abbrev pub expr_list_at : ℕ → Exprs
    expr_list_at at = exprs_at child skip (payload_at s at) (next s at)

    abbrev pub expr_readers : List (Range → ℕ → Expr)
    expr_readers =
        (λ r p. ident r)
        ∷ (λ r p. string_lit r)
        ∷ (λ r p. number_lit r (payload_at s p) (mantissa_at (next s p)))
        ∷ (λ r p. sys_func_call r (range_at s p) (payload_at s (next s p)) (expr_list_at (next s (next s p))))
        ∷ (λ r p. user_func_call r (opt_at (range_at s) p) (child (next s p)))
        ∷ (λ r p. binary r (child p) (range_at s (skip p)) (payload_at s (next s (skip p))) (child (next s (next s (skip p)))))
        ∷ (λ r p. unary r (payload_at s (next s p)) (child (next s (next s p))))
        ∷ (λ r p. index r (opt_at (range_at s) p) (expr_list_at (next s p)))
        ∷ (λ r p. inkey r)
        ∷ (λ r p. error r)
        ∷ []

    unfoldable pub expr_node : ℕ → Range → ℕ → Expr
    expr_node k r p = get_or expr_readers k (λ q u. error q) r p

  -- an expression with `left` depths left
  unfoldable pub expr_at : ℕ → ℕ → Expr
  expr_at zero at = error (range_at s (next s at))
  expr_at (suc left) at = expr_node (expr_at left) (skip_node s left exprSort) (payload_at s at) (range_at s (next s at)) (next s (next s at))

  unfoldable pub stmts_at : (ℕ → Stmt) → (ℕ → ℕ) → ℕ → ℕ → Stmts
  stmts_at f skip zero at = end
  stmts_at f skip (suc n) at = then (f at) (stmts_at f skip n (skip at))

  -- the items of lists and options, where expressions have `left` depths left
  abbrev pub datum_at : ℕ → Datum
  datum_at at = record { range = range_at s at; quoted = payload_at s (next s at) }

  abbrev pub on_target_at : ℕ → OnTarget
  on_target_at at = record { range = range_at s at; label = opt_at (label_at s) (next s at) }

  abbrev pub field_spec_at : ℕ → ℕ → FieldSpec
  field_spec_at left at = record { len = expr_at left at; var = expr_at left (skip_node s left exprSort at) }

  abbrev pub len_at : ℕ → ℕ → Len
  len_at left at = record { range = range_at s at; value = expr_at left (next s at) }

  abbrev pub write_element_at : ℕ → ℕ → WriteElement
  write_element_at left at = record { datum = expr_at left at; comma = payload_at s (skip_node s left exprSort at) }

  -- a statement behind its own range r, at p; its parts have `left` depths left
  module _ (left : ℕ) (child : ℕ → Stmt) where
    abbrev pub expr_here : ℕ → Expr
    expr_here = expr_at left

    abbrev pub skip_expr : ℕ → ℕ
    skip_expr = skip_node s left exprSort

    abbrev pub skip_place : ℕ → ℕ
    skip_place = skip_node s left placeSort

    abbrev pub skip_stmt : ℕ → ℕ
    skip_stmt = skip_node s left stmtSort

    abbrev pub list_of : {A : Type 0} → (ℕ → A) → (ℕ → ℕ) → ℕ → List A
    list_of f skip at = items_at f skip (payload_at s at) (next s at)

    abbrev pub expr_list : (ℕ → ℕ) → ℕ → Exprs
    expr_list skip at = exprs_at expr_here skip (payload_at s at) (next s at)

    abbrev pub stmt_list : ℕ → Stmts
    stmt_list at = stmts_at child skip_stmt (payload_at s at) (next s at)

    abbrev pub element_of : ℕ → ℕ → PrintElement
    element_of zero p = value (expr_here p)
    element_of (suc zero) p = comma (range_at s p)
    element_of (suc (suc n)) p = semicolon (range_at s p)

    abbrev pub element_at : ℕ → PrintElement
    element_at at = element_of (payload_at s at) (next s at)

    abbrev pub source_of : ℕ → ℕ → InputSource
    source_of zero p = keyboard absent
    source_of (suc zero) p = keyboard (given (range_at s p))
    source_of (suc (suc n)) p = file (expr_here p)

    -- INPUT's variables stand behind its source
    abbrev pub behind_source : ℕ → ℕ
    behind_source at = skip_source s (skip_node s left) (payload_at s at) (next s at)

    abbrev pub if_at : Range → ℕ → Stmt
    if_at r p =
        choose (is_absent s (skip_list s skip_stmt (skip_expr p)))
        (λ q. if_then r (expr_here p) (stmt_list (skip_expr p)))
        (λ q. if_else r (expr_here p) (stmt_list (skip_expr p)) (stmt_list q))
        (skip_list s skip_stmt (skip_expr p))

    unfoldable pub stmt_node : Shape → ℕ → Range → ℕ → Stmt
    stmt_node Rem k r p = rem r
    stmt_node NoOp k r p = rem r
    stmt_node Op0 k r p = op₀ k r
    stmt_node Run k r p = op₀ k r
    stmt_node Op1 k r p = op₁ k r (expr_here p)
    stmt_node Op2 k r p = op₂ k r (expr_here p) (expr_here (skip_expr p))
    stmt_node Op3 k r p = op₃ k r (expr_here p) (expr_here (skip_expr p)) (expr_here (skip_expr (skip_expr p)))
    stmt_node Draw k r p = draw k r (expr_list skip_expr p)
    stmt_node Set k r p = set k r (expr_here p) (expr_here (skip_place p))
    stmt_node Data k r p = data_list r (list_of datum_at (λ q. next s (next s q)) p)
    stmt_node Def k r p = def r (opt_at (range_at s) p) (opt_at (range_at s) (next s p)) (expr_here (next s (next s p)))
    stmt_node Dim k r p = dim r (expr_list skip_expr p)
    stmt_node Field k r p = field r (expr_here p) (list_of (field_spec_at left) (λ q. skip_place (skip_expr q)) (skip_expr p))
    stmt_node For k r p =
        for r (opt_at (range_at s) p) (expr_here (next s p)) (expr_here (skip_expr (next s p))) (opt_at expr_here (skip_expr (skip_expr (next s p))))
    stmt_node GoSub k r p = go r 1 (opt_at target_at p)
    stmt_node GoTo k r p = go r 0 (opt_at target_at (next s p))
    stmt_node If k r p = if_at r p
    stmt_node Input k r p = input r (source_of (payload_at s p) (next s p)) (expr_list (skip_node s left inputSort) (behind_source p))
    stmt_node Let k r p = assign r (expr_here p) (expr_here (skip_place p))
    stmt_node Load k r p = load r (expr_list skip_expr p)
    stmt_node Locate k r p = locate r (opt_at expr_here p) (opt_at expr_here (choose (is_absent s p) (next s) skip_expr p))
    stmt_node Next k r p = next_of r (list_of (opt_at (range_at s)) (next s) p)
    stmt_node On k r p = on r (expr_here p) (list_of on_target_at (λ q. next s (next s q)) (skip_expr p)) (payload_at s (skip_list s (λ q. next s (next s q)) (skip_expr p)))
    stmt_node Open k r p =
        open_file r (expr_here p) (payload_at s (skip_expr p)) (expr_here (next s (skip_expr p))) (opt_at (len_at left) (skip_expr (next s (skip_expr p))))
    stmt_node Print k r p = print r (list_of element_at (λ q. skip_element s (skip_node s left) (payload_at s q) (next s q)) p)
    stmt_node Read k r p = read r (expr_list skip_place p)
    stmt_node Restore k r p = restore r (opt_at target_at p)
    stmt_node Swap k r p = swap r (expr_here p) (expr_here (skip_place p))
    stmt_node System k r p = system r
    stmt_node While k r p = while r (expr_here p)
    stmt_node Write k r p =
        write r (opt_at expr_here p) (list_of (write_element_at left) (λ q. next s (skip_expr q)) (choose (is_absent s p) (next s) skip_expr p))

  -- a statement with `left` depths left
  unfoldable pub stmt_at : ℕ → ℕ → Stmt
  stmt_at zero at = rem (range_at s (next s at))
  stmt_at (suc left) at = stmt_node left (stmt_at left) (shape_of (payload_at s at)) (payload_at s at) (range_at s (next s at)) (next s (next s at))

  -- a line: its label stands behind its head, its statements behind that
  abbrev pub behind_label : ℕ → ℕ
  behind_label at = choose (is_absent s at) (next s) (λ p. next s (next s p)) at

  abbrev pub line_stmts : ℕ → Stmts
  line_stmts at = stmts_at (stmt_at depth_limit) (skip_node s depth_limit stmtSort) (payload_at s at) (next s at)

  abbrev pub line_at : ℕ → ProgramLine
  line_at at = record { length = payload_at s at; label = opt_at target_at (next s at); stmts = line_stmts (behind_label (next s at)) }

  abbrev pub behind_line : ℕ → ℕ
  behind_line at = skip_list s (skip_node s depth_limit stmtSort) (behind_label (next s at))

  -- the program: its lines
  unfoldable pub program_at : List ProgramLine
  program_at = items_at line_at behind_line (payload_at s 0) (next s 0)
