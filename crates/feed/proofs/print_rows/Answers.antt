-- A row is written in two calls: its mark, and then its numbers with the line's end.
use Rattle.std.proofs.Common.{ℕ, zero, suc, ◌≡◌, ◌+◌, ◌-◌, ◌<◌, ◌≤◌, List, [], ◌∷◌, ◌++◌, Option, length, take, drop, refl, append_assoc, arith}
use Rattle.std.proofs.lemmas.Bool.Decides.{nat_tests}
use Rattle.std.proofs.KnownBytes.{Appends-nil, Appends-trans}
use Rattle.std.specs.Io.KnownBytes.{Appends}
use Rattle.std.specs.List.{flat_map}
use Rattle.feed.specs.Text.{next_text, line_of, row_text, rows_from}
use Rattle.feed.proofs.print_rows.Goals as goal

rows-ended : (mark words : List ℕ) (size n : ℕ) → length words < size → rows_from mark words size n ≡ []
rows-ended mark words size zero short = refl
rows-ended mark words size (suc n) short = grind (arith, nat_tests)

rows-next : (mark words : List ℕ) (size n : ℕ) → size ≤ length words
    → rows_from mark words size (suc n) ≡ line_of (row_text mark (take size words)) ++ rows_from mark (drop size words) size n
rows-next mark words size n enough = grind (arith, nat_tests)

rows-more : (a b c d : Option (List ℕ)) (mark words : List ℕ) (size n : ℕ) → size ≤ length words → Appends a b mark
    → Appends b c (flat_map next_text (take size words) ++ 10 ∷ []) → Appends c d (rows_from mark (drop size words) size n) → Appends a d (rows_from mark words size (suc n))
rows-more a b c d mark words size n enough first numbers others =
    let all = Appends-trans a b d _ _ first (Appends-trans b c d _ _ numbers others) in
    rw (rows-next mark words size n enough) (simp append_assoc (simp append_assoc at all))

pub returns-then-rest-size : goal.returns-then-rest-size
returns-then-rest-size g c =
    let short : length c.loop-i.rest.now < c.args.size = omega arith in
    c.loop-i.invariant _ (rw (rows-ended c.args.mark.now c.loop-i.rest.now c.args.size (c.args.count - c.loop-i._i) short) (Appends-nil _))

pub loop-i-preserved : goal.loop-i-preserved
loop-i-preserved g c = λ end later.
    let left : c.args.count - c.loop-i._i ≡ suc (c.args.count - (c.loop-i._i + 1)) = omega arith in
    let numbers = rw c.split_at.ensures.front at c.in_ok-writeln.ensures.bytes in
    let others = rw c.split_at.ensures.back at later in
    c.loop-i.invariant end (rw left (rows-more _ _ _ _ _ _ _ _ (omega arith) c.in_ok-write_all.ensures.bytes numbers others))
