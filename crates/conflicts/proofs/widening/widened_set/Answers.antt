-- `widened_set` meets its contract: the test of the kind decides. Assumes nothing.
use Rattle.conflicts.specs.Widening.{widened_set}
use Rattle.conflicts.proofs.widening.widened_set.Goals as goal

pub returns-then-is_write : goal.returns-then-is_write
unfolding widened_set
returns-then-is_write c = rw (← c.is_write.ensures, c.if-is_write.true) c.widen_names.ensures

pub returns-else-is_write : goal.returns-else-is_write
unfolding widened_set
returns-else-is_write c = rw (← c.is_write.ensures, c.if-is_write.false)
