-- Closing up what is the recorder's: WHILEs, delays, End (clean_up of codegen.rs), by document 01's sentences, but for the rounding of
-- a delay's end.
use Rattle.std.specs.Prelude.{List, [], ◌∷◌, ◌++◌, Bool, ℕ, zero, suc, ◌+◌, ◌*◌, ◌-◌, ◌/◌, ◌^◌, ltb, eqb, length, get_or}
use Rattle.recorder.specs.declared.word.Range.{Range}
use Rattle.recorder.specs.Numbers.{word_size, bias, number_zero, number_half, number_one, Value, value}
use Rattle.recorder.specs.StmtKind.{end_stmt, sleep_stmt, wend_stmt}
use Rattle.recorder.specs.Word.{pick, choose, both, either}
use Rattle.recorder.specs.Recorder.{Recorder}
use Rattle.recorder.specs.Calls.{op_call, number_call, var_call, for_call, next_call, while_call, emit_no_op, emit_op, emit_number, while_without_wend, error_note}
use Rattle.recorder.specs.Ideal.{Rec, rec, Note, note_of, Ideal, ideal, ideal_r, change, with_b, no_rec, no_range, Search, missing, found}

-- emit_op of a statement
abbrev pub is_op : ℕ → Rec → Bool
is_op k r = both (eqb r.call op_call) (eqb r.a k)

abbrev pub is_wend : Rec → Bool
is_wend r = is_op wend_stmt r

abbrev pub is_while : Rec → Bool
is_while r = eqb r.call while_call

-- a record behind a WHILE, where `more` more WHILEs than WENDs were passed since: whether it closes that WHILE, and how many more
-- were passed with it
abbrev pub closes : Rec → ℕ → Bool
closes r more = both (is_wend r) (eqb more 0)

abbrev pub opened : Rec → ℕ → ℕ
opened r more = pick (is_while r) (suc more) (pick (is_wend r) (more - 1) more)

-- "A WHILE's end is one past the first later place where WENDs since it outnumber WHILEs since it by one", in the records from the
-- address k on
unfoldable pub end_from : List Rec → ℕ → ℕ → Search
end_from [] more k = missing
end_from (r ∷ rs) more k = choose (closes r more) found (end_from rs (opened r more)) (suc k)

abbrev pub end_at : Search → Rec → Rec
end_at missing r = r
end_at (found e) r = with_b e r

-- every WHILE of the list with its end, the first record's address being k
unfoldable pub close_whiles : List Rec → ℕ → List Rec
close_whiles [] k = []
close_whiles (r ∷ rs) k = pick (is_while r) (end_at (end_from rs 0 (suc k)) r) r ∷ close_whiles rs (suc k)

-- "if there is none, a class 13 note, last WHILE first"
abbrev pub open_note : Search → Rec → List Note
open_note missing r = note_of while_without_wend r.line r.range error_note ∷ []
open_note (found e) r = []

unfoldable pub open_notes : List Rec → List Note
open_notes [] = []
open_notes (r ∷ rs) = open_notes rs ++ pick (is_while r) (open_note (end_from rs 0 0) r) []

-- "A delay is number zero or one, then a nonzero number or a variable, with step also number one, then FOR, then NEXT naming
-- none or the same symbol."
abbrev pub is_zero : Rec → Bool
is_zero r = both (eqb r.call number_call) (eqb r.a 0)

abbrev pub is_one : Rec → Bool
is_one r = both (eqb r.call number_call) (both (eqb r.a number_one.e) (eqb r.b number_one.m))

abbrev pub is_start : Rec → Bool
is_start r = either (is_zero r) (is_one r)

abbrev pub is_end : Rec → Bool
is_end r = either (both (eqb r.call number_call) (ltb 0 r.a)) (eqb r.call var_call)

abbrev pub is_for : ℕ → Rec → Bool
is_for step r = both (eqb r.call for_call) (eqb r.b step)

abbrev pub is_next_of : Rec → Rec → Bool
is_next_of f r = both (eqb r.call next_call) (either (eqb r.a 0) (eqb r.a (f.a + 1)))

abbrev pub rec_at : List Rec → ℕ → Rec
rec_at rs k = get_or rs k no_rec

-- the four records of a delay without step, or the five of one with step, from the address k on
abbrev pub is_delay : List Rec → ℕ → Bool
is_delay rs k = both (is_start (rec_at rs k)) (both (is_end (rec_at rs (k + 1))) (both (is_for 0 (rec_at rs (k + 2))) (is_next_of (rec_at rs (k + 2)) (rec_at rs (k + 3)))))

abbrev pub is_stepped_delay : List Rec → ℕ → Bool
is_stepped_delay rs k =
    both (is_start (rec_at rs k)) (both (is_end (rec_at rs (k + 1))) (both (is_one (rec_at rs (k + 2)))
    (both (is_for 1 (rec_at rs (k + 3))) (is_next_of (rec_at rs (k + 3)) (rec_at rs (k + 4))))))

-- Document 02: "rounds delay counts to the nearest whole step, an exact half going up". "The decision is made on exponent and
-- mantissa as whole numbers": below one half it becomes zero; from e 160 on it is whole; between, m with half of the unit 2^(160−e)
-- added is cut to whole units. `rounded_nearest` (crates/closing/proofs/Nearest.antt) says it of the number's value.
abbrev pub nearest : ℕ → ℕ → ℕ
nearest m unit = (m + unit / 2) / unit * unit

-- m may have become 2^32
abbrev pub normal : ℕ → ℕ → Value
normal e m = pick (ltb m word_size) (value e m) (value (e + 1) (m / 2))

unfoldable pub rounded : ℕ → ℕ → Value
rounded e m = pick (ltb e number_half.e) number_zero (pick (ltb e bias) (normal e (nearest m (2 ^ (bias - e)))) (value e m))

-- "It becomes no-op, end, (no-op), SLEEP, no-op ... SLEEP is call 2 with 65, 1, 0; the no-ops have zeros. Line and range words
-- stay."
abbrev pub remade : Rec → ℕ → Range → ℕ → ℕ → ℕ → Rec
remade r k range a b c = rec k r.line range a b c

abbrev pub no_op : Rec → Rec
no_op r = emit_no_op (remade r) r.range

abbrev pub sleep : Rec → Rec
sleep r = emit_op (remade r) sleep_stmt 1 r.range

abbrev pub whole_end : Rec → Rec
whole_end r = pick (eqb r.call number_call) (emit_number (remade r) (rounded r.a r.b).e (rounded r.a r.b).m r.range) r

abbrev pub delayed : List Rec → ℕ → List Rec
delayed rs k = change no_op (change sleep (change whole_end (change no_op rs k) (k + 1)) (k + 2)) (k + 3)

abbrev pub stepped_delayed : List Rec → ℕ → List Rec
stepped_delayed rs k = change no_op (change sleep (change no_op (change whole_end (change no_op rs k) (k + 1)) (k + 2)) (k + 3)) (k + 4)

unfoldable pub delay_from : List Rec → ℕ → List Rec
delay_from rs k = pick (is_delay rs k) (delayed rs k) (pick (is_stepped_delay rs k) (stepped_delayed rs k) rs)

-- every delay from the address k on, among n records
unfoldable pub delays : ℕ → ℕ → List Rec → List Rec
delays zero k rs = rs
delays (suc n) k rs = delays n (k + 1) (delay_from rs k)

-- "then emit_op End with range 0 to 0 on the last line (0 if none)"
abbrev pub end_rec : ℕ → Rec
end_rec line = emit_op (λ k r a b c. rec k line r a b c) end_stmt 0 no_range

unfoldable pub clean_up : Ideal → Ideal
clean_up i =
    ideal (delays (length i.records) 0 (close_whiles i.records 0) ++ (end_rec i.line ∷ []))
    (i.notes ++ open_notes i.records) i.entries i.line i.first_datum

-- the rules' recorder
abbrev pub rules_r : List ℕ → Recorder Ideal
rules_r t = ideal_r t clean_up
