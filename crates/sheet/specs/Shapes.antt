-- The fields of statements by their shape, as the code reads and compiles them.
use Rattle.std.specs.Prelude.{List, [], ◌∷◌}
use Rattle.sheet.specs.declared.form.Item.TheVariants.{Range as range, OptionalName as optionalName, OptionalLabel as optionalLabel, Source as source, Element as element, Datum as datum}
use Rattle.sheet.specs.declared.form.Field.{Field}
use Rattle.sheet.specs.declared.form.Shape.{Shape}
use Rattle.sheet.specs.declared.form.Shape.TheVariants.{Rem, NoOp, Op0, Run, Op1, Op2, Op3, Draw, Set, Data, Def, Dim, Field as Fields, For, GoSub, GoTo, If, Input, Let, Load, Locate, Next, On, Open, Print, Read, Restore, Swap, System, While, Write}
use Rattle.sheet.specs.Table.{label, flag, mode, expr, place, input_place, stmt, one, optional, list, non_empty, optional_list, optional₂, non_empty₂}

-- the cases of one shape have the same fields
abbrev pub shape_fields : Shape → List Field
shape_fields Rem = one range ∷ []
shape_fields NoOp = []
shape_fields Op0 = []
shape_fields Run = one range ∷ []
shape_fields Op1 = one expr ∷ []
shape_fields Op2 = one expr ∷ one expr ∷ []
shape_fields Op3 = one expr ∷ one expr ∷ one expr ∷ []
shape_fields Draw = non_empty expr ∷ []
shape_fields Set = one place ∷ one expr ∷ []
shape_fields Data = non_empty datum ∷ []
shape_fields Def = one optionalName ∷ one optionalName ∷ one expr ∷ []
shape_fields Dim = non_empty expr ∷ []
shape_fields Fields = one expr ∷ non_empty₂ expr place ∷ []
shape_fields For = one optionalName ∷ one expr ∷ one expr ∷ optional expr ∷ []
shape_fields GoSub = optional₂ range label ∷ []
shape_fields GoTo = one flag ∷ optional₂ range label ∷ []
shape_fields If = one expr ∷ list stmt ∷ optional_list stmt ∷ []
shape_fields Input = one source ∷ non_empty input_place ∷ []
shape_fields Let = one place ∷ one expr ∷ []
shape_fields Load = non_empty expr ∷ []
shape_fields Locate = optional expr ∷ optional expr ∷ []
shape_fields Next = list optionalName ∷ []
shape_fields On = one expr ∷ non_empty₂ range optionalLabel ∷ one flag ∷ []
shape_fields Open = one expr ∷ one mode ∷ one expr ∷ optional₂ range expr ∷ []
shape_fields Print = list element ∷ []
shape_fields Read = non_empty place ∷ []
shape_fields Restore = optional₂ range label ∷ []
shape_fields Swap = one place ∷ one place ∷ []
shape_fields System = []
shape_fields While = one expr ∷ []
shape_fields Write = optional expr ∷ non_empty₂ expr flag ∷ []
