-- What follows of each sort of item: from what the form checks of it where it stands, or from two facts of it.
use Rattle.std.specs.Prelude.{◌≡◌, List, ℕ, Ok}
use Rattle.recorder.specs.Numbers.{label_size}
use Rattle.recorder.specs.Word.{payload_at, next, range_at, label_at}
use Rattle.recorder.specs.declared.word.Range.{Range}
use Rattle.sheet.specs.declared.form.Kind.TheVariants.{Label as LabelWord}
use Rattle.sheet.specs.declared.form.Line.{Line}
use Rattle.sheet.specs.Table.{kind_number}
use Rattle.sheet.specs.Form.{take_word, number_form, range_form, text_form, datum_form, name_form}
use Rattle.sheet.specs.Tree.{mantissa_at}
use Rattle.items.specs.Items.{Facts}

-- on one line: each fact holds of what the tree reads at a place where the form checked such an item and went on; of a number literal
-- the form checked the range and, behind that, the value
pub record Carries (s t : List ℕ) (line : Line) (F : Facts) : Type 0 where
  pub range : (p q : ℕ) → range_form s line p ≡ Ok q → F.range (range_at s p)
  pub name : (p q : ℕ) → name_form s t line p ≡ Ok q → F.name (range_at s p)
  pub text : (p q : ℕ) → text_form s line p ≡ Ok q → F.text (range_at s p)
  pub datum : (p q : ℕ) → datum_form s line p ≡ Ok q → F.datum (range_at s p) (payload_at s (next s p))
  pub number : (p q m : ℕ) → range_form s line p ≡ Ok q → number_form s (next s p) ≡ Ok m
      → F.number (range_at s p) (payload_at s (next s p)) (mantissa_at s (next s (next s p)))
  pub label : (p q : ℕ) → take_word s (kind_number LabelWord) label_size p ≡ Ok q → F.label (label_at s p)

-- of every sort of item H follows from F and G
pub record Together (F G H : Facts) : Type 0 where
  pub range : (r : Range) → F.range r → G.range r → H.range r
  pub name : (r : Range) → F.name r → G.name r → H.name r
  pub text : (r : Range) → F.text r → G.text r → H.text r
  pub datum : (r : Range) (q : ℕ) → F.datum r q → G.datum r q → H.datum r q
  pub number : (r : Range) (e m : ℕ) → F.number r e m → G.number r e m → H.number r e m
  pub label : (l : ℕ) → F.label l → G.label l → H.label l
