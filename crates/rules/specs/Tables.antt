-- What the statements and functions want, as compile_stmt and compile_sys_func_call of compiler.rs say it.
use Rattle.std.specs.Prelude.{ℕ, List, [], ◌∷◌, ◌==◌, nat_lt, slice_index_or}
use Rattle.recorder.specs.StmtKind.{box_stmt, circle_stmt, draw_stmt, ellipse_stmt, line_stmt, play_stmt, fputc_stmt, debug_print_stmt}
use Rattle.recorder.specs.Word.{pick, both}
use Rattle.rules.specs.declared.types.«Type».{«Type» as Ty}
use Rattle.rules.specs.declared.types.«Type».TheVariants.{Real, String, Error}
use Rattle.rules.specs.declared.tables.Arity.{Arity}

-- a function's signature: how many arguments at least, their kinds, and the kind of its value
pub record Signature : Type 0 where
  pub min : ℕ
  pub args : List Ty
  pub result : Ty

abbrev pub signature : ℕ → List Ty → Ty → Signature
signature m ts r = record { min = m; args = ts; result = r }

abbrev pub real_of_real : Signature
real_of_real = signature 1 (Real ∷ []) Real

abbrev pub real_of_text : Signature
real_of_text = signature 1 (String ∷ []) Real

abbrev pub text_of_real : Signature
text_of_real = signature 1 (Real ∷ []) String

abbrev pub text_part : Signature
text_part = signature 2 (String ∷ Real ∷ []) String

-- SysFuncKind
abbrev pub signatures : List Signature
signatures =
    real_of_real  -- 0 Abs
    ∷ real_of_text  -- 1 Asc
    ∷ real_of_real  -- 2 Atn
    ∷ text_of_real  -- 3 Chr
    ∷ real_of_real  -- 4 Cos
    ∷ real_of_text  -- 5 Cvi
    ∷ real_of_text  -- 6 Cvs
    ∷ real_of_real  -- 7 Eof
    ∷ real_of_real  -- 8 Exp
    ∷ real_of_real  -- 9 Int
    ∷ text_part  -- 10 Left
    ∷ real_of_text  -- 11 Len
    ∷ real_of_real  -- 12 Lof
    ∷ real_of_real  -- 13 Log
    ∷ signature 2 (String ∷ Real ∷ Real ∷ []) String  -- 14 Mid
    ∷ text_of_real  -- 15 Mki
    ∷ text_of_real  -- 16 Mks
    ∷ real_of_real  -- 17 Peek
    ∷ real_of_real  -- 18 Pos
    ∷ text_part  -- 19 Right
    ∷ real_of_real  -- 20 Rnd
    ∷ real_of_real  -- 21 Sgn
    ∷ real_of_real  -- 22 Sin
    ∷ real_of_real  -- 23 Sqr
    ∷ text_of_real  -- 24 Str
    ∷ real_of_real  -- 25 Tan
    ∷ real_of_text  -- 26 Val
    ∷ real_of_real  -- 27 Tab
    ∷ real_of_real  -- 28 Spc
    ∷ signature 2 (Real ∷ Real ∷ []) Real  -- 29 Point
    ∷ real_of_real  -- 30 CheckKey
    ∷ real_of_real  -- 31 Fopen
    ∷ real_of_real  -- 32 Fgetc
    ∷ real_of_real  -- 33 Ftell
    ∷ []

unfoldable pub signature_of : ℕ → Signature
signature_of k = slice_index_or signatures k real_of_real

-- TAB and SPC stand in PRINT alone
abbrev pub tab : ℕ
tab = 27

abbrev pub spc : ℕ
spc = 28

-- an argument beyond the last may be anything: every kind matches Error
abbrev pub wanted : List Ty → ℕ → Ty
wanted ts i = slice_index_or ts i Error

-- a subscript is a number, however many there are
abbrev pub every_real : ℕ → Ty
every_real i = Real

-- the draw statements' least and greatest numbers of arguments, all numbers
abbrev pub arity : ℕ → ℕ → Arity
arity a b = record { min = a; max = b }

unfoldable pub draw_arity : ℕ → Arity
draw_arity k =
    pick (k == box_stmt) (arity 4 6)
    (pick (k == circle_stmt) (arity 3 5)
    (pick (k == draw_stmt) (arity 2 3)
    (pick (k == ellipse_stmt) (arity 4 6)
    (pick (k == line_stmt) (arity 4 5)
    (arity 5 6)))))  -- Paint

abbrev pub drawn : ℕ → ℕ → Ty
drawn k i = pick (nat_lt i (draw_arity k).max) Real Error

-- the operands of the statements of one, two and three: numbers, but PLAY's and DEBUGPRINT's, and FPUTC's second
unfoldable pub operand : ℕ → ℕ → Ty
operand k i = pick (k == play_stmt) String (pick (k == debug_print_stmt) String (pick (both (k == fputc_stmt) (i == 1)) String Real))
