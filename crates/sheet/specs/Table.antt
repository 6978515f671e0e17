-- The form of the sheet: for each case of ExprKind and StmtKind its fields, in the declared order.
use Rattle.std.specs.Prelude.{List, [], ◌∷◌, Bool, false, ℕ, zero, suc, ltb, eqb, get_or}
use Rattle.recorder.specs.Numbers.{label_size}
use Rattle.recorder.specs.Word.{either}
use Rattle.sheet.specs.declared.form.Kind.{Kind}
use Rattle.sheet.specs.declared.form.Kind.TheVariants.{Range as RangeWord, Absent as AbsentWord, Label as LabelWord, Count as CountWord, Flag as FlagWord, Mode as ModeWord, Source as SourceWord, Element as ElementWord, Place as PlaceWord, Exponent as ExponentWord, Mantissa as MantissaWord, Program as ProgramWord, Line as LineWord, Stmt as StmtWord, Expr as ExprWord}
use Rattle.sheet.specs.declared.form.Item.{Item}
use Rattle.sheet.specs.declared.form.Item.TheVariants.{Nothing, Word, Range as range, Name as name, OptionalName as optionalName, Text as text, Node, Number as number, OptionalLabel as optionalLabel, Source as source, Element as element, Datum as datum}
use Rattle.sheet.specs.declared.form.Sort.{Sort}
use Rattle.sheet.specs.declared.form.Sort.TheVariants.{Expr, Place, InputPlace, Stmt}
use Rattle.sheet.specs.declared.form.Times.TheVariants.{Once, Optional, List as Listed, NonEmpty, OptionalList}
use Rattle.sheet.specs.declared.form.Field.{Field}

-- "A word's top 8 bits are its kind (hexadecimal below)": 01 range, 02 absent, 03 label, 04 count, 05 yes or no, 06 file mode,
-- 07 input source, 08 print element, 09 a place in an enum of operations, 0A and 0B a literal's exponent and the halves of its
-- mantissa, 0F program, 10 line, 20 statement, 21 expression
abbrev pub kind_number : Kind → ℕ
kind_number RangeWord = 1
kind_number AbsentWord = 2
kind_number LabelWord = 3
kind_number CountWord = 4
kind_number FlagWord = 5
kind_number ModeWord = 6
kind_number SourceWord = 7
kind_number ElementWord = 8
kind_number PlaceWord = 9
kind_number ExponentWord = 10
kind_number MantissaWord = 11
kind_number ProgramWord = 15
kind_number LineWord = 16
kind_number StmtWord = 32
kind_number ExprWord = 33

-- words of one kind: "03 label, 0 to 65,535"; "05 yes or no, 1 or 0"; "06 file mode: 0 Error, 1 Random, then from 2 FileMode's
-- other cases"; "09 a place in SysFuncKind, BinaryOpKind or UnaryOpKind"
abbrev pub label : Item
label = Word LabelWord label_size

abbrev pub flag : Item
flag = Word FlagWord 2

abbrev pub mode : Item
mode = Word ModeWord 6

abbrev pub sys_func : Item
sys_func = Word PlaceWord 34

abbrev pub binary_op : Item
binary_op = Word PlaceWord 13

abbrev pub unary_op : Item
unary_op = Word PlaceWord 3

-- nodes: "Assigned places (compile_lvalue) are Ident, Index or Error; INPUT also takes UserFuncCall."
abbrev pub expr : Item
expr = Node Expr

abbrev pub place : Item
place = Node Place

abbrev pub input_place : Item
input_place = Node InputPlace

abbrev pub stmt : Item
stmt = Node Stmt

-- an item once; absent or the item; a count and so many; a count of at least one (NonEmptyVec); absent, or a count and so many
abbrev pub one : Item → Field
one a = record { times = Once; first = a; second = Nothing }

abbrev pub optional : Item → Field
optional a = record { times = Optional; first = a; second = Nothing }

abbrev pub list : Item → Field
list a = record { times = Listed; first = a; second = Nothing }

abbrev pub non_empty : Item → Field
non_empty a = record { times = NonEmpty; first = a; second = Nothing }

abbrev pub optional_list : Item → Field
optional_list a = record { times = OptionalList; first = a; second = Nothing }

-- a tuple or a struct is its parts in the declared order
abbrev pub optional₂ : Item → Item → Field
optional₂ a b = record { times = Optional; first = a; second = b }

abbrev pub non_empty₂ : Item → Item → Field
non_empty₂ a b = record { times = NonEmpty; first = a; second = b }

-- ExprKind
abbrev pub expr_table : List (List Field)
expr_table =
    []  -- 0 Ident: its own range is a name
    ∷ []  -- 1 StringLit: its own range has a unit
    ∷ (one number ∷ [])  -- 2 NumberLit: added, 0A and two 0B
    ∷ (one range ∷ one sys_func ∷ non_empty expr ∷ [])  -- 3 SysFuncCall { func, args }
    ∷ (one optionalName ∷ one expr ∷ [])  -- 4 UserFuncCall { func, arg }
    ∷ (one expr ∷ one range ∷ one binary_op ∷ one expr ∷ [])  -- 5 Binary { lhs, op, rhs }
    ∷ (one range ∷ one unary_op ∷ one expr ∷ [])  -- 6 Unary { op, arg }
    ∷ (one optionalName ∷ non_empty expr ∷ [])  -- 7 Index { name, indices }
    ∷ []  -- 8 Inkey
    ∷ []  -- 9 Error
    ∷ []

-- StmtKind
abbrev pub stmt_table : List (List Field)
stmt_table =
    (one range ∷ [])  -- 0 Auto(Range)
    ∷ []  -- 1 Beep
    ∷ (non_empty expr ∷ [])  -- 2 Box
    ∷ (one expr ∷ [])  -- 3 Call
    ∷ (non_empty expr ∷ [])  -- 4 Circle
    ∷ []  -- 5 Clear
    ∷ (one expr ∷ [])  -- 6 Close { filenum }
    ∷ []  -- 7 Cls
    ∷ []  -- 8 Cont
    ∷ (one range ∷ [])  -- 9 Copy(Range)
    ∷ (non_empty datum ∷ [])  -- 10 Data
    ∷ (one optionalName ∷ one optionalName ∷ one expr ∷ [])  -- 11 Def { name, param, body }
    ∷ (one range ∷ [])  -- 12 Del(Range)
    ∷ (non_empty expr ∷ [])  -- 13 Dim: "DIM takes any expression"
    ∷ (non_empty expr ∷ [])  -- 14 Draw
    ∷ (one range ∷ [])  -- 15 Edit(Range)
    ∷ (non_empty expr ∷ [])  -- 16 Ellipse
    ∷ []  -- 17 End
    ∷ (one expr ∷ non_empty₂ expr place ∷ [])  -- 18 Field { filenum, fields }
    ∷ (one range ∷ [])  -- 19 Files(Range)
    ∷ []  -- 20 Flash
    ∷ (one optionalName ∷ one expr ∷ one expr ∷ optional expr ∷ [])  -- 21 For { var, start, end, step }
    ∷ (one expr ∷ one expr ∷ [])  -- 22 Get { filenum, record }
    ∷ (optional₂ range label ∷ [])  -- 23 GoSub
    ∷ (one flag ∷ optional₂ range label ∷ [])  -- 24 GoTo { has_goto_keyword, label }
    ∷ []  -- 25 Graph
    ∷ (one expr ∷ list stmt ∷ optional_list stmt ∷ [])  -- 26 If { cond, conseq, alt }
    ∷ []  -- 27 InKey
    ∷ (one source ∷ non_empty input_place ∷ [])  -- 28 Input { source, vars }
    ∷ []  -- 29 Inverse
    ∷ (one range ∷ [])  -- 30 Kill(Range)
    ∷ (one place ∷ one expr ∷ [])  -- 31 Let { var, value }
    ∷ (non_empty expr ∷ [])  -- 32 Line
    ∷ (one range ∷ [])  -- 33 List(Range)
    ∷ (non_empty expr ∷ [])  -- 34 Load
    ∷ (optional expr ∷ optional expr ∷ [])  -- 35 Locate { row, column }
    ∷ (one place ∷ one expr ∷ [])  -- 36 LSet { var, value }
    ∷ (one range ∷ [])  -- 37 New(Range)
    ∷ (list optionalName ∷ [])  -- 38 Next { vars }
    ∷ []  -- 39 Normal
    ∷ []  -- 40 NoTrace
    ∷ (one expr ∷ non_empty₂ range optionalLabel ∷ one flag ∷ [])  -- 41 On { cond, labels, is_sub }
    ∷ (one expr ∷ one mode ∷ one expr ∷ optional₂ range expr ∷ [])  -- 42 Open { filename, mode, filenum, len }
    ∷ (non_empty expr ∷ [])  -- 43 Paint
    ∷ (one expr ∷ [])  -- 44 Play
    ∷ (one expr ∷ one expr ∷ [])  -- 45 Poke { addr, value }
    ∷ []  -- 46 Pop
    ∷ (list element ∷ [])  -- 47 Print
    ∷ (one expr ∷ one expr ∷ [])  -- 48 Put { filenum, record }
    ∷ (non_empty place ∷ [])  -- 49 Read
    ∷ (one range ∷ [])  -- 50 Rem(Range)
    ∷ (one range ∷ [])  -- 51 Rename(Range)
    ∷ (optional₂ range label ∷ [])  -- 52 Restore
    ∷ []  -- 53 Return
    ∷ (one place ∷ one expr ∷ [])  -- 54 RSet { var, value }
    ∷ (one range ∷ [])  -- 55 Run(Range)
    ∷ (one range ∷ [])  -- 56 Save(Range)
    ∷ (one range ∷ [])  -- 57 Stop(Range)
    ∷ (one place ∷ one place ∷ [])  -- 58 Swap { left, right }
    ∷ []  -- 59 System
    ∷ []  -- 60 Text
    ∷ []  -- 61 Trace
    ∷ []  -- 62 Wend
    ∷ (one expr ∷ [])  -- 63 While
    ∷ (optional expr ∷ non_empty₂ expr flag ∷ [])  -- 64 Write { filenum, data }
    ∷ (one expr ∷ [])  -- 65 Sleep
    ∷ (one expr ∷ one expr ∷ [])  -- 66 Fputc { filenum, value }
    ∷ (one expr ∷ one expr ∷ one expr ∷ [])  -- 67 Fread { filenum, addr, size }
    ∷ (one expr ∷ one expr ∷ one expr ∷ [])  -- 68 Fwrite { filenum, addr, size }
    ∷ (one expr ∷ one expr ∷ [])  -- 69 Fseek { filenum, offset }: refused 8
    ∷ (one expr ∷ [])  -- 70 DebugPrint { value }
    ∷ []  -- 71 NoOp
    ∷ []

-- the fields of an expression, or of a statement, by its case
unfoldable pub expr_fields : ℕ → List Field
expr_fields k = get_or expr_table k []

unfoldable pub stmt_fields : ℕ → List Field
stmt_fields k = get_or stmt_table k []

-- "20 statement: payload the place of its case in StmtKind, from 0 ... 21 expression: the place in ExprKind"
abbrev pub node_kind : Sort → ℕ
node_kind Expr = 33
node_kind Place = 33
node_kind InputPlace = 33
node_kind Stmt = 32

-- which cases may stand there: "Assigned places ... are Ident, Index or Error; INPUT also takes UserFuncCall."
abbrev pub may_stand : Sort → ℕ → Bool
may_stand Expr k = ltb k 10
may_stand Place k = either (eqb k 0) (either (eqb k 7) (eqb k 9))
may_stand InputPlace k = either (eqb k 0) (either (eqb k 4) (either (eqb k 7) (eqb k 9)))
may_stand Stmt k = ltb k 72

-- "Each is followed by its range and its fields": an Ident's range is a name, a StringLit's has a unit
abbrev pub expr_range_item : ℕ → Item
expr_range_item zero = name
expr_range_item (suc zero) = text
expr_range_item (suc (suc k)) = range

abbrev pub own_range : Sort → ℕ → Item
own_range Expr k = expr_range_item k
own_range Place k = expr_range_item k
own_range InputPlace k = expr_range_item k
own_range Stmt k = range

abbrev pub fields_of : Sort → ℕ → List Field
fields_of Expr k = expr_fields k
fields_of Place k = expr_fields k
fields_of InputPlace k = expr_fields k
fields_of Stmt k = stmt_fields k

-- 8: "An FSEEK statement."
abbrev pub is_fseek : Sort → ℕ → Bool
is_fseek Expr k = false
is_fseek Place k = false
is_fseek InputPlace k = false
is_fseek Stmt k = eqb k 69
