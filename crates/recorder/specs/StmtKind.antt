-- The statements that rules name, by "the place of its case in StmtKind, from 0".
use Rattle.std.specs.Prelude.{ℕ}

abbrev pub box_stmt : ℕ
box_stmt = 2

abbrev pub circle_stmt : ℕ
circle_stmt = 4

abbrev pub draw_stmt : ℕ
draw_stmt = 14

abbrev pub ellipse_stmt : ℕ
ellipse_stmt = 16

abbrev pub end_stmt : ℕ
end_stmt = 17

abbrev pub line_stmt : ℕ
line_stmt = 32

abbrev pub lset_stmt : ℕ
lset_stmt = 36

abbrev pub play_stmt : ℕ
play_stmt = 44

abbrev pub return_stmt : ℕ
return_stmt = 53

abbrev pub rset_stmt : ℕ
rset_stmt = 54

abbrev pub swap_stmt : ℕ
swap_stmt = 58

abbrev pub wend_stmt : ℕ
wend_stmt = 62

abbrev pub sleep_stmt : ℕ
sleep_stmt = 65

abbrev pub fputc_stmt : ℕ
fputc_stmt = 66

abbrev pub debug_print_stmt : ℕ
debug_print_stmt = 70
