-- A whole call's shape for the functions inside, whose buffers are lent to the code's recorder.
use Rattle.std.specs.Prelude.{Result, List, ℕ, length}
use Rattle.sheet.specs.declared.form.Refusal.{Refusal}
use Rattle.rules.specs.Outcome.{Outcome, Lengths, lengths}
use Rattle.recorder.specs.declared.codegen.CodeGen.{CodeGen}
use Rattle.compiler.specs.declared.Sizes.{Sizes}
use Rattle.compiler.specs.Answered.{outcome_of}

-- `outcome_of` of the code's recorder and work
abbrev pub outcome_in : Result Sizes Refusal → CodeGen → List ℕ → Outcome
outcome_in x g w = outcome_of x g.list.now g.notes.now g.book.now w

abbrev pub lengths_in : CodeGen → List ℕ → Lengths
lengths_in g w = lengths (length g.list.now) (length g.notes.now) (length g.book.now) (length w)
