-- `conflict_by` meets its contract: the two tests of the kinds decide. Assumes nothing.
use Rattle.conflicts.proofs.Over.{reads_none}
use Rattle.conflicts.proofs.sharing.conflict_by.Goals as goal

pub returns-then-reads : goal.returns-then-reads
returns-then-reads c =
    let a = c.args in
    reads_none a.writes a.reads a.names a.widened c.if-writes.false c.if-reads.true
