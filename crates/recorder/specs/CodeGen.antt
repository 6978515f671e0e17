-- The code's recorder as the memory of Mem.antt.
use Rattle.std.specs.Prelude.{◌≡◌}
use Rattle.recorder.specs.declared.codegen.CodeGen.{CodeGen}
use Rattle.recorder.specs.declared.codegen.Looked.{Looked}
use Rattle.recorder.specs.CallNumbers.{numbers_of}
use Rattle.recorder.specs.Recorder.{Look}
use Rattle.recorder.specs.Mem.{Mem, mem, put}
use Rattle.recorder.specs.declared.call.Call.{Call}
use Rattle.recorder.specs.declared.word.Range.{Range}

abbrev pub mem_of : CodeGen → Mem
mem_of g = mem g.list.now g.notes.now g.book.now g.st

-- the buffers are the ones that were lent
abbrev pub SameLoans : CodeGen → CodeGen → Type 0
SameLoans g h = (h.list.ghost_name ≡ g.list.ghost_name) × (h.notes.ghost_name ≡ g.notes.ghost_name) × (h.book.ghost_name ≡ g.book.ghost_name)

abbrev pub look_is : Looked → Look → Type 0
look_is r l = (r.call ≡ l.call) × (r.line ≡ l.line) × (r.b ≡ l.b) × (r.c ≡ l.c)

-- the record of a call on the current line
abbrev pub emit : Mem → Range → Call → Mem
emit m r k = put m (numbers_of k).call r (numbers_of k).a (numbers_of k).b (numbers_of k).c
