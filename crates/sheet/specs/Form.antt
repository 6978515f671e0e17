-- Refusals 4 to 8: reading a sheet left to right, the first offence with its place, or the place behind.
use Rattle.std.specs.Prelude.{List, [], ◌∷◌, Bool, true, false, ℕ, zero, suc, ◌+◌, ◌-◌, ltb, leb, eqb, length, get_or}
use Rattle.recorder.specs.Numbers.{payload_size, line_size, label_size, half_size, depth_limit, least_high, too_large}
use Rattle.recorder.specs.Word.{pick, choose, both, either, kind_at, payload_at, next, range_at}
use Rattle.recorder.specs.declared.word.Range.{Range}
use Rattle.sheet.specs.declared.form.Kind.TheVariants.{Range as RangeWord, Absent as AbsentWord, Label as LabelWord, Count as CountWord, Flag as FlagWord, Source as SourceWord, Element as ElementWord, Exponent as ExponentWord, Mantissa as MantissaWord, Program as ProgramWord, Line as LineWord}
use Rattle.sheet.specs.declared.form.Item.{Item}
use Rattle.sheet.specs.declared.form.Item.TheVariants.{Nothing, Word, Range as range, Name as name, OptionalName as optionalName, Text as text, Node, Number as number, OptionalLabel as optionalLabel, Source as source, Element as element, Datum as datum}
use Rattle.sheet.specs.declared.form.Sort.{Sort}
use Rattle.sheet.specs.declared.form.Sort.TheVariants.{Expr, Stmt}
use Rattle.sheet.specs.declared.form.Times.{Times}
use Rattle.sheet.specs.declared.form.Times.TheVariants.{Once, Optional, List as Listed, NonEmpty, OptionalList}
use Rattle.sheet.specs.declared.form.Field.{Field}
use Rattle.sheet.specs.declared.form.Offence.TheVariants.{BadWord, TooDeep, BadLength, BadRange, Fseek}
use Rattle.sheet.specs.Walk.{Walk}
use Rattle.std.specs.Prelude.{Ok, Err}
use Rattle.sheet.specs.declared.form.Line.{Line}
use Rattle.sheet.specs.Table.{kind_number, node_kind, may_stand, own_range, fields_of, is_fseek}

-- go on behind what was read, unless it offends
abbrev pub then : Walk → (ℕ → Walk) → Walk
then (Ok p) f = f p
then (Err o) f = Err o

abbrev pub between : ℕ → ℕ → ℕ → Bool
between a u b = both (leb a u) (leb u b)

-- "A name is an ASCII letter, then letters, digits or blanks, then at most one % or $; its last unit is no blank."
abbrev pub is_letter : ℕ → Bool
is_letter u = either (between 65 u 90) (between 97 u 122)

abbrev pub is_alnum : ℕ → Bool
is_alnum u = either (is_letter u) (between 48 u 57)

abbrev pub is_sigil : ℕ → Bool
is_sigil u = either (eqb u 37) (eqb u 36)

abbrev pub is_inner : ℕ → Bool
is_inner u = either (is_alnum u) (eqb u 32)

abbrev pub is_last : ℕ → Bool
is_last u = either (is_alnum u) (is_sigil u)

-- the n units of the text from `at`, behind a name's first
unfoldable pub name_tail : List ℕ → ℕ → ℕ → Bool
name_tail t at zero = true
name_tail t at (suc zero) = is_last (get_or t at 0)
name_tail t at (suc (suc n)) = both (is_inner (get_or t at 0)) (name_tail t (next t at) (suc n))

unfoldable pub is_name : List ℕ → ℕ → ℕ → Bool
is_name t at n = both (ltb 0 n) (both (is_letter (get_or t at 0)) (name_tail t (next t at) (n - 1)))

-- "02 absent, payload 0"
abbrev pub is_absent : List ℕ → ℕ → Bool
is_absent s at = eqb (kind_at s at) (kind_number AbsentWord)

abbrev pub is_special : ℕ → Bool
is_special e = either (eqb e 0) (eqb e too_large)

-- "For e 0 or 256, m is 0; else m is at least 2^31": whether the halves of a mantissa may stand behind an exponent
abbrev pub high_fits : ℕ → ℕ → Bool
high_fits e m = pick (is_special e) (eqb m 0) (leb least_high m)

abbrev pub low_fits : ℕ → ℕ → Bool
low_fits e m = either (eqb m 0) (pick (is_special e) false true)

-- 7: "a string, prompt or quoted datum range without a unit"
abbrev pub has_unit : Range → Bool
has_unit r = ltb r.start r.end

-- whether a datum says that it is quoted, and has no unit
abbrev pub lacks_unit : ℕ → Range → Bool
lacks_unit quoted r = both (eqb quoted 1) (pick (has_unit r) false true)

-- 7: "A range with start above end or end above its line's length"
abbrev pub in_line : Line → Range → Bool
in_line line r = both (leb r.start r.end) (leb r.end line.len)

module _ (s : List ℕ) where
  -- a word of the kind k with a payload below n
  unfoldable pub take_word : ℕ → ℕ → ℕ → Walk
  take_word k n at = pick (both (eqb (kind_at s at) k) (ltb (payload_at s at) n)) (Ok (next s at)) (Err (BadWord at))

  abbrev pub absent_form : ℕ → Walk
  absent_form at = take_word (kind_number AbsentWord) 1 at

  -- "04 count"; "NonEmptyVec lists have at least one"
  abbrev pub count_form : ℕ → Walk
  count_form at = take_word (kind_number CountWord) payload_size at

  unfoldable pub non_empty_form : ℕ → Walk
  non_empty_form at = then (count_form at) (λ p. pick (eqb (payload_at s at) 0) (Err (BadWord at)) (Ok p))

  -- a literal's value: "0A with exponent e (0 to 255), or 256 for too large; then two 0B words, the high and low 16 bits of m."
  abbrev pub half_form : Bool → ℕ → Walk
  half_form fits at = then (take_word (kind_number MantissaWord) half_size at) (λ p. pick fits (Ok p) (Err (BadWord at)))

  unfoldable pub high_form : ℕ → ℕ → Walk
  high_form e at = half_form (high_fits e (payload_at s at)) at

  unfoldable pub low_form : ℕ → ℕ → Walk
  low_form e at = half_form (low_fits e (payload_at s at)) at

  unfoldable pub number_form : ℕ → Walk
  number_form at = then (take_word (kind_number ExponentWord) (too_large + 1) at) (λ p. then (high_form (payload_at s at) p) (λ q. low_form (payload_at s at) q))

  -- a node's head: its kind, and a case that may stand there
  abbrev pub head_form : Sort → ℕ → Walk
  head_form c at = pick (both (eqb (kind_at s at) (node_kind c)) (may_stand c (payload_at s at))) (Ok (next s at)) (Err (BadWord at))

  abbrev pub fseek_form : Sort → ℕ → ℕ → Walk
  fseek_form c at p = pick (is_fseek c (payload_at s at)) (Err (Fseek at)) (Ok p)

  module _ (line : Line) where
    unfoldable pub range_form : ℕ → Walk
    range_form at = then (take_word (kind_number RangeWord) payload_size at) (λ p. pick (in_line line (range_at s at)) (Ok p) (Err (BadRange at)))

    unfoldable pub text_form : ℕ → Walk
    text_form at = then (range_form at) (λ p. pick (has_unit (range_at s at)) (Ok p) (Err (BadRange at)))

    -- a datum is its range and whether it is quoted; "Its place is the range word, for a quoted datum too."
    unfoldable pub datum_form : ℕ → Walk
    datum_form at = then (range_form at) (λ p. then (take_word (kind_number FlagWord) 2 p)
        (λ q. pick (lacks_unit (payload_at s p) (range_at s at)) (Err (BadRange at)) (Ok q)))

    -- "absent, or range and label"
    unfoldable pub label_form : ℕ → Walk
    label_form at = choose (is_absent s at) absent_form (λ p. then (range_form p) (λ q. take_word (kind_number LabelWord) label_size q)) at

module _ (s t : List ℕ) where
  module _ (line : Line) where
    -- 7: "an ill-formed name"
    abbrev pub is_name_range : Range → Bool
    is_name_range r = is_name t (line.base + r.start) (r.end - r.start)

    unfoldable pub name_form : ℕ → Walk
    name_form at = then (range_form s line at) (λ p. pick (is_name_range (range_at s at)) (Ok p) (Err (BadRange at)))

    -- "07 input source: 0 keyboard, 1 keyboard and a prompt range, 2 file and an expression"
    abbrev pub source_rest : (Sort → ℕ → Walk) → ℕ → ℕ → Walk
    source_rest child zero p = Ok p
    source_rest child (suc zero) p = text_form s line p
    source_rest child (suc (suc n)) p = child Expr p

    -- "08 print element: 0, 1, 2 in PrintElement's order": an expression, a comma's range, a semicolon's
    abbrev pub element_rest : (Sort → ℕ → Walk) → ℕ → ℕ → Walk
    element_rest child zero p = child Expr p
    element_rest child (suc n) p = range_form s line p

    -- an item, where `child` reads the statements and expressions below
    unfoldable pub item_form : (Sort → ℕ → Walk) → Item → ℕ → Walk
    item_form child Nothing at = Ok at
    item_form child (Word k n) at = take_word s (kind_number k) n at
    item_form child range at = range_form s line at
    item_form child name at = name_form at
    item_form child optionalName at = choose (is_absent s at) (absent_form s) name_form at
    item_form child text at = text_form s line at
    item_form child (Node c) at = child c at
    item_form child number at = number_form s at
    item_form child optionalLabel at = choose (is_absent s at) (absent_form s) (take_word s (kind_number LabelWord) label_size) at
    item_form child source at = then (take_word s (kind_number SourceWord) 3 at) (λ p. source_rest child (payload_at s at) p)
    item_form child element at = then (take_word s (kind_number ElementWord) 3 at) (λ p. element_rest child (payload_at s at) p)
    item_form child datum at = datum_form s line at

    -- one item and another
    unfoldable pub pair_form : (Sort → ℕ → Walk) → Item → Item → ℕ → Walk
    pair_form child a b at = then (item_form child a at) (λ p. item_form child b p)

    unfoldable pub repeat_form : (ℕ → Walk) → ℕ → ℕ → Walk
    repeat_form f zero at = Ok at
    repeat_form f (suc n) at = then (f at) (λ p. repeat_form f n p)

    unfoldable pub list_form : (ℕ → Walk) → ℕ → Walk
    list_form f at = then (count_form s at) (λ p. repeat_form f (payload_at s at) p)

    -- "An option is absent or its value, a list a count and its items"
    unfoldable pub times_form : Times → (ℕ → Walk) → ℕ → Walk
    times_form Once f at = f at
    times_form Optional f at = choose (is_absent s at) (absent_form s) f at
    times_form Listed f at = list_form f at
    times_form NonEmpty f at = then (non_empty_form s at) (λ p. list_form f at)
    times_form OptionalList f at = choose (is_absent s at) (absent_form s) (list_form f) at

    unfoldable pub field_form : (Sort → ℕ → Walk) → Field → ℕ → Walk
    field_form child f at = times_form f.times (pair_form child f.first f.second) at

    unfoldable pub fields_form : (Sort → ℕ → Walk) → List Field → ℕ → Walk
    fields_form child [] at = Ok at
    fields_form child (f ∷ fs) at = then (field_form child f at) (λ p. fields_form child fs p)

    -- what stands behind a node's head word
    unfoldable pub body_form : (Sort → ℕ → Walk) → Sort → ℕ → ℕ → Walk
    body_form child c k at = then (item_form child (own_range c k) at) (λ p. fields_form child (fields_of c k) p)

    -- a statement or an expression with `left` depths left, its own among them.
    -- 5: "A statement or expression nested deeper than 64, a line's own statement being depth 1."
    unfoldable pub node_form : ℕ → Sort → ℕ → Walk
    node_form zero c at = then (head_form s c at) (λ p. Err (TooDeep at))
    node_form (suc left) c at = then (head_form s c at) (λ p. then (fseek_form s c at p) (λ q. body_form (node_form left) c (payload_at s at) q))

  -- "Each line: 10 with its length in units (at most 4,095), then absent, or range and label; then a count and the statements."
  abbrev pub line_of : ℕ → ℕ → Line
  line_of base at = record { base = base; len = payload_at s at }

  -- 6: "At a line head the line lengths so far pass the text"
  unfoldable pub line_head : ℕ → ℕ → Walk
  line_head base at = then (take_word s (kind_number LineWord) line_size at) (λ p. pick (leb (base + payload_at s at) (length t)) (Ok p) (Err (BadLength at)))

  unfoldable pub line_form : ℕ → ℕ → Walk
  line_form base at =
      then (line_head base at) (λ p. then (label_form s (line_of base at) p) (λ q. list_form (line_of base at) (node_form (line_of base at) depth_limit Stmt) q))

  -- 4: "a word left over"; 6: "or after the last word they fall short of it"
  unfoldable pub end_form : ℕ → ℕ → Walk
  end_form base at = pick (ltb at (length s)) (Err (BadWord at)) (pick (ltb base (length t)) (Err (BadLength (length s))) (Ok at))

  unfoldable pub lines_form : ℕ → ℕ → ℕ → Walk
  lines_form zero base at = end_form base at
  lines_form (suc n) base at = then (line_form base at) (λ p. lines_form n (base + payload_at s at) p)

  -- "0F program: lines."
  unfoldable pub sheet_form : Walk
  sheet_form = then (take_word s (kind_number ProgramWord) payload_size 0) (λ p. lines_form (payload_at s 0) 0 p)
