-- The contract's shape for one argument too many.
use Rattle.std.specs.Prelude.{List, ℕ, zero, suc}
use Rattle.recorder.specs.declared.word.Range.{Range}
use Rattle.recorder.specs.Mem.{Mem, mem_r}

-- an argument, where so many are still allowed
abbrev pub surplus_note : List ℕ → ℕ → Range → Mem → Mem
surplus_note t zero r m = (mem_r t).note m 7 r 1
surplus_note t (suc n) r m = m
