-- The buffers' lengths are ample.
use Rattle.std.proofs.Common.{arith}
use Rattle.listing.proofs.Laws.{short_enough}
use Rattle.listing.proofs.Buffers.compile_form.Goals as goal

pub returns-clause-suffices : goal.returns-clause-suffices
returns-clause-suffices c =
    let old = c.args.self.now in
    short_enough c.args.words.now c.args.units.now old.list old.notes old.book old.work _ (omega arith) (omega arith) (omega arith)
    c.compile.ensures
