-- What is known of the bytes when numbers are read one after the other.
use Rattle.std.proofs.Common.{ℕ, List, [], ◌∷◌, ◌++◌, Option, sym, subst, append-nil}
use Rattle.std.proofs.KnownBytes.{Consumes-trans}
use Rattle.std.proofs.lemmas.Grind.{flat_map-append}
use Rattle.std.specs.Io.KnownBytes.{Consumes}
use Rattle.std.specs.List.{flat_map}

-- some numbers, and then others
pub reads_others : {N : Type 0} (bytes_of : N → List ℕ) (a b c : Option (List ℕ)) (xs ys : List N)
    → Consumes a b (flat_map bytes_of xs) → Consumes b c (flat_map bytes_of ys) → Consumes a c (flat_map bytes_of (xs ++ ys))
reads_others bytes_of a b c xs ys first others =
    subst (Consumes a c) (sym (flat_map-append bytes_of xs ys)) (Consumes-trans a b c _ _ first others)

-- some numbers, and then one
pub reads_more : {N : Type 0} (bytes_of : N → List ℕ) (a b c : Option (List ℕ)) (xs : List N) (x : N)
    → Consumes a b (flat_map bytes_of xs) → Consumes b c (bytes_of x) → Consumes a c (flat_map bytes_of (xs ++ x ∷ []))
reads_more bytes_of a b c xs x first one =
    reads_others bytes_of a b c xs (x ∷ []) first (subst (Consumes b c) (sym (append-nil (bytes_of x))) one)
