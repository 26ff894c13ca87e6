-- `write_whole` ends: each write but the last takes a byte. Assumes nothing.
use lib.ListN.{length}
use Rattle.lockreplay.proofs.write_whole.Given as goal

abbrev pub decreases-loop-rest : goal.decreases-loop-rest
decreases-loop-rest l = length l.rest
