-- The parts of the memory that closing up changes.
use Rattle.recorder.specs.Mem.{Mem, mem, Passed, passed}

abbrev pub passed_of : Mem → Passed
passed_of m = passed m.list m.notes m.st

abbrev pub with_passed : Mem → Passed → Mem
with_passed m p = mem p.list p.notes m.book p.st
