-- The contracts' shapes: the code's account of a record in the rules' words, and an answer as a search's.
use Rattle.std.specs.Prelude.{ℕ, Option, None, Some}
use Rattle.recorder.specs.declared.codegen.Looked.{Looked}
use Rattle.recorder.specs.Recorder.{Look}
use Rattle.recorder.specs.Ideal.{Search, missing, found}

abbrev pub as_look : Looked → Look
as_look q = record { call = q.call; line = q.line; b = q.b; c = q.c }

abbrev pub search_of : {A : Type 0} → (A → ℕ) → Option A → Search
search_of number None = missing
search_of number (Some a) = found (number a)
