-- The memory that is compiled into: three lists of words of fixed lengths, and the state.
-- A put that does not fit changes no word and sets its buffer's flag, which stays.
use Rattle.std.specs.Prelude.{List, ◌++◌, Bool, true, false, ℕ, zero, suc, ◌+◌, ◌*◌, ◌-◌, ◌/◌, ◌%◌, min, ltb, eqb, length, get_or, set, take, drop, Option, None, Some, unwrap_or}
use Rattle.recorder.specs.declared.word.Range.{Range}
use Rattle.recorder.specs.declared.codegen.Descent.{Descent}
use Rattle.recorder.specs.declared.codegen.State.{State}
use Rattle.recorder.specs.declared.label.DatumIndex.{DatumIndex}
use Rattle.recorder.specs.Numbers.{word_size, payload_size, unknown}
use Rattle.recorder.specs.StmtKind.{end_stmt, sleep_stmt}
use Rattle.recorder.specs.Calls.{no_op_call, op_call, number_call, while_without_wend, error_note}
use Rattle.recorder.specs.Word.{pick, both, kind, kind_at, payload_at, range_at, word_of, range_word, next}
use Rattle.recorder.specs.Optional.{plus_one}
use Rattle.recorder.specs.Name.{upper, same_name}
use Rattle.recorder.specs.Layout.{rec_size, note_size, entry_size, most_records}
use Rattle.recorder.specs.Offsets.{range_word_at, arg_a, arg_b, arg_c, extra_at}
use Rattle.recorder.specs.Ideal.{Rec, rec, name_kind, datum_kind, byte_kind, no_range, look_of}
use Rattle.recorder.specs.Recorder.{Recorder, Named, Look}
use Rattle.recorder.specs.Closing.{is_while, is_wend, is_start, is_end, is_one, is_for, is_next_of, rounded}

pub record Mem : Type 0 where
  pub list : List ℕ
  pub notes : List ℕ
  pub book : List ℕ
  pub st : State

abbrev pub mem : List ℕ → List ℕ → List ℕ → State → Mem
mem l n b s = record { list = l; notes = n; book = b; st = s }

-- the state's parts
abbrev pub records_in : State → ℕ
records_in s = s.records

abbrev pub notes_in : State → ℕ
notes_in s = s.notes

abbrev pub entries_in : State → ℕ
entries_in s = s.entries

abbrev pub names_in : State → ℕ
names_in s = s.names

abbrev pub root_in : State → ℕ
root_in s = plus_one s.root

abbrev pub datums_in : State → ℕ
datums_in s = s.datums

abbrev pub bytes_in : State → ℕ
bytes_in s = s.bytes

abbrev pub line_in : State → ℕ
line_in s = s.line

-- a first datum plus 1; 0 if there is none
abbrev pub datum_word : Option DatumIndex → ℕ
datum_word None = 0
datum_word (Some d) = suc d.0

abbrev pub first_in : State → ℕ
first_in s = datum_word s.first

abbrev pub list_full : State → Bool
list_full s = s.list_full

abbrev pub notes_full : State → Bool
notes_full s = s.notes_full

abbrev pub book_full : State → Bool
book_full s = s.book_full

-- nothing written yet
abbrev pub nothing : State
nothing = record {
  records = 0;
  notes = 0;
  entries = 0;
  names = 0;
  root = None;
  datums = 0;
  bytes = 0;
  line = 0;
  first = None;
  list_full = false;
  notes_full = false;
  book_full = false;
}

-- begin_line: the line that records and notes carry from here on, without a datum so far
abbrev pub on_line : State → ℕ → State
on_line s l = record s { line = l; first = None }

-- what of a count goes into a word
abbrev pub as_word : ℕ → ℕ
as_word n = n % word_size

-- the number within its kind that an entry gets: the low 24 bits of the count
abbrev pub low : ℕ → ℕ
low n = n % payload_size

-- one more, up to the book's room
unfoldable pub more : ℕ → ℕ → ℕ
more n room = pick (ltb n room) (n + 1) n

-- a record: five words
unfoldable pub put_list : List ℕ → State → ℕ → ℕ → ℕ → ℕ → ℕ → List ℕ
put_list l s h r a b c = pick (ltb (records_in s) (most_records (length l)))
    (set (set (set (set (set l (rec_size * records_in s) h) (rec_size * records_in s + range_word_at) r) (rec_size * records_in s + arg_a) a) (rec_size * records_in s + arg_b) b) (rec_size * records_in s + arg_c) c) l

unfoldable pub put_st : List ℕ → State → State
put_st l s = pick (ltb (records_in s) (most_records (length l))) (record s { records = s.records + 1 }) (record s { list_full = true })

abbrev pub put_rec : List ℕ → State → ℕ → Range → ℕ → ℕ → ℕ → List ℕ
put_rec l s k r a b c = put_list l s (word_of k (line_in s)) (range_word r) a b c

-- a note, or an entry: the n-th four words
abbrev pub four : List ℕ → ℕ → ℕ → ℕ → ℕ → ℕ → List ℕ
four l n h x y z = set (set (set (set l (4 * n) h) (4 * n + 1) x) (4 * n + 2) y) (4 * n + 3) z

unfoldable pub note_list : List ℕ → State → ℕ → ℕ → ℕ → ℕ → List ℕ
note_list l s h r v n = pick (ltb (notes_in s) (length l / note_size)) (four l (notes_in s) h r v n) l

unfoldable pub note_st : List ℕ → State → State
note_st l s = pick (ltb (notes_in s) (length l / note_size)) (record s { notes = s.notes + 1 }) (record s { notes_full = true })

unfoldable pub entry_list : List ℕ → State → ℕ → ℕ → ℕ → ℕ → List ℕ
entry_list b s h x y z = pick (ltb (entries_in s) (length b / entry_size)) (four b (entries_in s) h x y z) b

unfoldable pub entry_st : List ℕ → State → State
entry_st b s = pick (ltb (entries_in s) (length b / entry_size)) (record s { entries = s.entries + 1 }) (record s { book_full = true })

-- While compiling, the names of the book are a binary tree, gone through by the bits of a hash of the name. A name's last word has
-- a code of its sigil in its low 2 bits, and above it, 15 bits each, the entries of its two children, later names, 0 for none.
-- The descent to a name goes from an entry to one of its children, by the highest bit left of the name's hash. Entries from
-- 32,768 on are in no tree. Closing up leaves the sigil alone in the word.
abbrev pub sigil_code : ℕ → ℕ
sigil_code g = pick (eqb g 36) 1 (pick (eqb g 37) 2 0)

abbrev pub sigil_of : ℕ → ℕ
sigil_of c = pick (eqb c 1) 36 (pick (eqb c 2) 37 0)

abbrev pub link_of : Bool → ℕ → ℕ
link_of high w = pick high (w / 131072) (w / 4 % 32768)

abbrev pub with_link : Bool → ℕ → ℕ → ℕ
with_link high w k = pick high (w % 131072 + 131072 * (k % 32768)) (w / 131072 * 131072 + 4 * (k % 32768) + w % 4)

-- the entries that the book has
abbrev pub known : List ℕ → State → ℕ
known b s = min (entries_in s) (length b / entry_size)

-- the hash: a number of 32 bits from a name's units in upper case, its highest bit chooses the first child
abbrev pub hash_step : ℕ → ℕ → ℕ
hash_step h u = (h + u) * 2654435769 % 4294967296

unfoldable pub hash_of : List ℕ → ℕ → ℕ → ℕ → ℕ
hash_of t at h zero = h
hash_of t at h (suc n) = hash_of t (next t at) (hash_step h (upper (get_or t at 0))) n

-- While compiling, a name's head has a tag in place of its kind: 128 and seven bits of its hash. So most other names are told from it
-- without the text, and a kind above 127 is a name's.
abbrev pub tag_of : ℕ → ℕ
tag_of h = 128 + h / 4096 % 128

abbrev pub name_tag : List ℕ → ℕ → ℕ → ℕ → ℕ
name_tag t x n g = tag_of (hash_of t x (sigil_code g) n)

-- whether an entry is this name, whose tag is v
abbrev pub is_name_entry : List ℕ → ℕ → ℕ → ℕ → ℕ → ℕ → ℕ → ℕ → ℕ → Bool
is_name_entry t h a m y v x n g = pick (eqb (kind h) v) (same_name t a m (y % 4) x n (sigil_code g)) false

abbrev pub tagged_at : List ℕ → List ℕ → ℕ → ℕ → ℕ → ℕ → ℕ → Bool
tagged_at t b k v x n g = pick (ltb k (length b / entry_size)) (is_name_entry t (get_or b (entry_size * k) 0) (get_or b (entry_size * k + 1) 0) (get_or b (entry_size * k + 2) 0) (get_or b (entry_size * k + extra_at) 0) v x n g) false

abbrev pub named_at : List ℕ → List ℕ → ℕ → ℕ → ℕ → ℕ → Bool
named_at t b k x n g = tagged_at t b k (name_tag t x n g) x n g

-- the first of `left` entries, from the k-th on, that is this name; k + left if none is
unfoldable pub lookup : List ℕ → List ℕ → ℕ → ℕ → ℕ → ℕ → ℕ → ℕ
lookup t b x n g k zero = k
lookup t b x n g k (suc left) = pick (named_at t b k x n g) k (lookup t b x n g (k + 1) left)

-- the child that the descent goes on to, and whether there is one: a later entry that the book has
abbrev pub child_of : List ℕ → Descent → ℕ
child_of b w = pick (ltb w.at (length b / entry_size)) (link_of (ltb 2147483647 w.bits) (get_or b (entry_size * w.at + extra_at) 0)) 0

abbrev pub has_child : List ℕ → ℕ → Descent → Bool
has_child b end w = both (ltb w.at (child_of b w)) (ltb (child_of b w) end)

abbrev pub to_child : ℕ → Descent → Descent
to_child k w = record { at = k; bits = w.bits * 2 % 4294967296 }

-- the descent to a name, up to the name or to where it would be linked
unfoldable pub descent_from : List ℕ → List ℕ → ℕ → ℕ → ℕ → ℕ → Descent → ℕ → Descent
descent_from t b end x n g w zero = w
descent_from t b end x n g w (suc left) = pick (named_at t b w.at x n g) w (pick (has_child b end w) (descent_from t b end x n g (to_child (child_of b w) w) left) w)

unfoldable pub descent_to : List ℕ → List ℕ → State → ℕ → ℕ → ℕ → Descent
descent_to t b s x n g = descent_from t b (known b s) x n g (record { at = root_in s - 1; bits = hash_of t x (sigil_code g) n }) (known b s)

-- the entry of a name; `known` if there is none
unfoldable pub entry_of : List ℕ → List ℕ → State → ℕ → ℕ → ℕ → ℕ
entry_of t b s x n g =
    pick (both (ltb 0 (root_in s)) (both (ltb (descent_to t b s x n g).at (known b s)) (named_at t b (descent_to t b s x n g).at x n g)))
    (descent_to t b s x n g).at
    (lookup t b x n g (min (known b s) 32768) (known b s - 32768))

-- the next entry is one that a tree may hold
abbrev pub may_link : List ℕ → State → Bool
may_link b s = both (ltb (entries_in s) (length b / entry_size)) (ltb (entries_in s) 32768)

-- a new name, the next entry, is linked where its descent ends
unfoldable pub linked_at : List ℕ → ℕ → Descent → List ℕ
linked_at b k w = pick (ltb w.at (length b / entry_size)) (set b (entry_size * w.at + extra_at) (with_link (ltb 2147483647 w.bits) (get_or b (entry_size * w.at + extra_at) 0) k)) b

unfoldable pub linked : List ℕ → State → Descent → List ℕ
linked b s w = pick (both (ltb 0 (root_in s)) (may_link b s)) (linked_at b (entries_in s) w) b

-- the first name of the tree
unfoldable pub root_of : List ℕ → State → Option ℕ
root_of b s = pick (both (eqb (root_in s) 0) (may_link b s)) (Some (entries_in s)) s.root

-- a new name with the tag v, whose descent ends at w: linked, and put as the next entry
abbrev pub new_list : List ℕ → State → Descent → ℕ → ℕ → ℕ → ℕ → List ℕ
new_list b s w v x n g = entry_list (linked b s w) s (word_of v (low (names_in s))) x n (sigil_code g)

abbrev pub new_st : List ℕ → State → State
new_st b s = record (entry_st b s) { names = more (names_in s) (length b / entry_size); root = root_of b s }

unfoldable pub symbol_number : List ℕ → List ℕ → State → ℕ → ℕ → ℕ → ℕ
symbol_number t b s x n g = pick (ltb (entry_of t b s x n g) (known b s)) (payload_at b (entry_size * entry_of t b s x n g)) (low (names_in s))

unfoldable pub symbol_list : List ℕ → List ℕ → State → ℕ → ℕ → ℕ → List ℕ
symbol_list t b s x n g = pick (ltb (entry_of t b s x n g) (known b s)) b (new_list b s (descent_to t b s x n g) (name_tag t x n g) x n g)

unfoldable pub symbol_st : List ℕ → List ℕ → State → ℕ → ℕ → ℕ → State
symbol_st t b s x n g = pick (ltb (entry_of t b s x n g) (known b s)) s (new_st b s)

-- closing up: a name's head has its kind again, its last word is its sigil
abbrev pub unlink_at : List ℕ → ℕ → List ℕ
unlink_at b k =
    pick (both (ltb k (length b / entry_size)) (ltb 127 (kind_at b (entry_size * k))))
    (set (set b (entry_size * k) (word_of name_kind (get_or b (entry_size * k) 0))) (entry_size * k + extra_at) (sigil_of (get_or b (entry_size * k + extra_at) 0 % 4)))
    b

unfoldable pub unlink_from : List ℕ → ℕ → ℕ → List ℕ
unlink_from b k zero = b
unlink_from b k (suc left) = unlink_from (unlink_at b k) (k + 1) left

unfoldable pub unlinked : List ℕ → State → List ℕ
unlinked b s = unlink_from b 0 (known b s)

-- a datum; the line's first datum is set whether it fits or not
unfoldable pub datum_list : List ℕ → State → ℕ → ℕ → ℕ → List ℕ
datum_list b s x n q = entry_list b s (word_of datum_kind (low (datums_in s))) x n q

unfoldable pub datum_st : List ℕ → State → State
datum_st b s = record (entry_st b s) { datums = more (datums_in s) (length b / entry_size); first = Some (unwrap_or s.first (record { 0 = low (datums_in s) })) }

unfoldable pub byte_list : List ℕ → State → ℕ → ℕ → ℕ → List ℕ
byte_list b s x n v = entry_list b s (word_of byte_kind (low (bytes_in s))) x n v

unfoldable pub byte_st : List ℕ → State → State
byte_st b s = record (entry_st b s) { bytes = more (bytes_in s) (length b / entry_size) }

-- an earlier record, written as the part of the list that begins at it
unfoldable pub part : (List ℕ → List ℕ) → List ℕ → ℕ → List ℕ
part f l at = take at l ++ f (drop at l)

unfoldable pub at_rec : (List ℕ → List ℕ) → List ℕ → ℕ → List ℕ
at_rec f l k = pick (ltb k (length l / rec_size)) (part f l (rec_size * k)) l

unfoldable pub on_rec : (List ℕ → List ℕ) → List ℕ → State → ℕ → List ℕ
on_rec f l s k = pick (ltb k (records_in s)) (at_rec f l k) l

abbrev pub set_a : ℕ → List ℕ → List ℕ
set_a v p = set p arg_a v

abbrev pub set_b : ℕ → List ℕ → List ℕ
set_b v p = set p arg_b v

abbrev pub set_c : ℕ → List ℕ → List ℕ
set_c v p = set p arg_c v

-- a pending jump or RESTORE that is settled, and one that loses its label
abbrev pub clear_args : List ℕ → List ℕ
clear_args p = set_c 0 (set_b 0 p)

abbrev pub settle_args : ℕ → List ℕ → List ℕ
settle_args v p = clear_args (set_a v p)

-- what the words of a record say
abbrev pub rec_of : List ℕ → ℕ → Rec
rec_of l k = rec (kind_at l (rec_size * k)) (payload_at l (rec_size * k)) (range_at l (rec_size * k + range_word_at)) (get_or l (rec_size * k + arg_a) 0) (get_or l (rec_size * k + arg_b) 0) (get_or l (rec_size * k + arg_c) 0)

abbrev pub look_at : List ℕ → ℕ → Look
look_at l k = look_of (rec_of l k)

-- patch_while_instr: a pass over the records that links the open WHILEs through argument b, each to the one before it, as
-- address plus 1 or 0; `top` is the last of them. A WEND closes the last.
abbrev pub link_at : List ℕ → ℕ → ℕ
link_at l w = get_or l (rec_size * w + arg_b) 0

unfoldable pub while_list : List ℕ → ℕ → ℕ → List ℕ
while_list l top k =
    pick (is_while (rec_of l k)) (at_rec (set_b top) l k)
    (pick (both (is_wend (rec_of l k)) (ltb 0 top)) (at_rec (set_b (k + 1)) l (top - 1)) l)

unfoldable pub while_top : List ℕ → ℕ → ℕ → ℕ
while_top l top k = pick (is_while (rec_of l k)) (k + 1) (pick (both (is_wend (rec_of l k)) (ltb 0 top)) (link_at l (top - 1)) top)

unfoldable pub whiles_from : List ℕ → ℕ → ℕ → ℕ → List ℕ
whiles_from l top k zero = l
whiles_from l top k (suc left) = whiles_from (while_list l top k) (while_top l top k) (k + 1) left

unfoldable pub top_from : List ℕ → ℕ → ℕ → ℕ → ℕ
top_from l top k zero = top
top_from l top k (suc left) = top_from (while_list l top k) (while_top l top k) (k + 1) left

-- then the WHILEs that are still open, the last first: their end is not known, and each has a note
pub record Passed : Type 0 where
  pub list : List ℕ
  pub notes : List ℕ
  pub st : State

abbrev pub passed : List ℕ → List ℕ → State → Passed
passed l n s = record { list = l; notes = n; st = s }

abbrev pub open_step : Passed → ℕ → Passed
open_step p w =
    passed (at_rec (set_b unknown) p.list w)
    (note_list p.notes p.st (word_of while_without_wend (get_or p.list (rec_size * w) 0)) (get_or p.list (rec_size * w + range_word_at) 0) error_note 0)
    (note_st p.notes p.st)

unfoldable pub open_from : Passed → ℕ → ℕ → Passed
open_from p top zero = p
open_from p top (suc left) = pick (eqb top 0) p (open_from (open_step p (top - 1)) (link_at p.list (top - 1)) left)

-- the records that the list has
abbrev pub present : List ℕ → State → ℕ
present l s = min (records_in s) (most_records (length l))

unfoldable pub patch_whiles : List ℕ → List ℕ → State → Passed
patch_whiles l n s = open_from (passed (whiles_from l 0 0 (present l s)) n s) (top_from l 0 0 (present l s)) (present l s)

-- convert_for_loop_to_sleep: a record anew but for its line and its range
abbrev pub set_head : ℕ → List ℕ → List ℕ
set_head k p = set p 0 (word_of k (get_or p 0 0))

abbrev pub rewrite : ℕ → ℕ → ℕ → ℕ → List ℕ → List ℕ
rewrite k a b c p = set_c c (set_b b (set_a a (set_head k p)))

abbrev pub no_op_at : List ℕ → ℕ → List ℕ
no_op_at l k = at_rec (rewrite no_op_call 0 0 0) l k

abbrev pub sleep_at : List ℕ → ℕ → List ℕ
sleep_at l k = at_rec (rewrite op_call sleep_stmt 1 0) l k

unfoldable pub whole_at : List ℕ → ℕ → List ℕ
whole_at l k = pick (eqb (rec_of l k).call number_call) (at_rec (rewrite number_call (rounded (rec_of l k).a (rec_of l k).b).e (rounded (rec_of l k).a (rec_of l k).b).m 0) l k) l

unfoldable pub delay_at : List ℕ → ℕ → Bool
delay_at l k = both (is_start (rec_of l k)) (both (is_end (rec_of l (k + 1))) (both (is_for 0 (rec_of l (k + 2))) (is_next_of (rec_of l (k + 2)) (rec_of l (k + 3)))))

unfoldable pub stepped_at : List ℕ → ℕ → Bool
stepped_at l k =
    both (is_start (rec_of l k)) (both (is_end (rec_of l (k + 1))) (both (is_one (rec_of l (k + 2)))
    (both (is_for 1 (rec_of l (k + 3))) (is_next_of (rec_of l (k + 3)) (rec_of l (k + 4))))))

unfoldable pub delayed_at : List ℕ → ℕ → List ℕ
delayed_at l k = no_op_at (sleep_at (whole_at (no_op_at l k) (k + 1)) (k + 2)) (k + 3)

unfoldable pub stepped_delayed_at : List ℕ → ℕ → List ℕ
stepped_delayed_at l k = no_op_at (sleep_at (no_op_at (whole_at (no_op_at l k) (k + 1)) (k + 2)) (k + 3)) (k + 4)

unfoldable pub delay_list : List ℕ → ℕ → List ℕ
delay_list l k = pick (delay_at l k) (delayed_at l k) (pick (stepped_at l k) (stepped_delayed_at l k) l)

unfoldable pub delays_from : List ℕ → ℕ → ℕ → List ℕ
delays_from l k zero = l
delays_from l k (suc left) = delays_from (delay_list l k) (k + 1) left

unfoldable pub convert_delays : List ℕ → State → List ℕ
convert_delays l s = delays_from l 0 (present l s)

-- clean_up
abbrev pub finish : Passed → Passed
finish p = passed (put_rec (convert_delays p.list p.st) p.st op_call no_range end_stmt 0 0) p.notes (put_st (convert_delays p.list p.st) p.st)

unfoldable pub clean_up_all : List ℕ → List ℕ → State → Passed
clean_up_all l n s = finish (patch_whiles l n s)

-- what each function of the recorder does to the memory
abbrev pub begin_line : Mem → ℕ → Mem
begin_line m l = mem m.list m.notes m.book (on_line m.st l)

abbrev pub put : Mem → ℕ → Range → ℕ → ℕ → ℕ → Mem
put m k r a b c = mem (put_rec m.list m.st k r a b c) m.notes m.book (put_st m.list m.st)

abbrev pub current_addr : Mem → ℕ
current_addr m = as_word (records_in m.st)

abbrev pub put_note : Mem → ℕ → ℕ → ℕ → ℕ → Mem
put_note m h r v n = mem m.list (note_list m.notes m.st h r v n) m.book (note_st m.notes m.st)

abbrev pub note_at : Mem → ℕ → ℕ → Range → ℕ → Mem
note_at m l k r v = put_note m (word_of k l) (range_word r) v 0

abbrev pub note : Mem → ℕ → Range → ℕ → Mem
note m k r v = note_at m (line_in m.st) k r v

abbrev pub note_lost : Mem → ℕ → Range → ℕ → ℕ → Mem
note_lost m k r v n = put_note m (word_of k (line_in m.st)) (range_word r) v n

abbrev pub put_entry : Mem → ℕ → ℕ → ℕ → ℕ → Mem
put_entry m h x y z = mem m.list m.notes (entry_list m.book m.st h x y z) (entry_st m.book m.st)

abbrev pub new_symbol : Mem → Descent → ℕ → ℕ → ℕ → ℕ → Mem
new_symbol m w v x n g = mem m.list m.notes (new_list m.book m.st w v x n g) (new_st m.book m.st)

abbrev pub make_symbol : List ℕ → Mem → ℕ → ℕ → ℕ → Named Mem
make_symbol t m x n g = record {
  state = mem m.list m.notes (symbol_list t m.book m.st x n g) (symbol_st t m.book m.st x n g);
  number = symbol_number t m.book m.st x n g;
}

abbrev pub emit_datum : Mem → ℕ → ℕ → ℕ → Mem
emit_datum m x n q = mem m.list m.notes (datum_list m.book m.st x n q) (datum_st m.book m.st)

abbrev pub first_datum : Mem → ℕ
first_datum m = as_word (first_in m.st)

abbrev pub load_byte : Mem → ℕ → ℕ → ℕ → Mem
load_byte m x n v = mem m.list m.notes (byte_list m.book m.st x n v) (byte_st m.book m.st)

abbrev pub next_byte : Mem → ℕ
next_byte m = low (bytes_in m.st)

abbrev pub patched : (List ℕ → List ℕ) → Mem → ℕ → Mem
patched f m k = mem (on_rec f m.list m.st k) m.notes m.book m.st

abbrev pub clean_up : Mem → Mem
clean_up m = mem (clean_up_all m.list m.notes m.st).list (clean_up_all m.list m.notes m.st).notes (unlinked m.book m.st) (clean_up_all m.list m.notes m.st).st

-- the memory's recorder
abbrev pub mem_r : List ℕ → Recorder Mem
mem_r t = record {
  begin_line = begin_line;
  emit = put;
  count = current_addr;
  note = note;
  note_at = note_at;
  note_lost = note_lost;
  symbol = make_symbol t;
  datum = emit_datum;
  first_datum = first_datum;
  byte = load_byte;
  next_byte = next_byte;
  patch = λ m k v. patched (set_a v) m k;
  patch_end = λ m k v. patched (set_c v) m k;
  look = λ m k. look_at m.list k;
  settle = λ m k v. patched (settle_args v) m k;
  drop_label = λ m k. patched clear_args m k;
  clean_up = clean_up;
}
