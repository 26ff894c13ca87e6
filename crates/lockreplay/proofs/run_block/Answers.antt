-- `run_block` carries out no more calls than are left. Assumes nothing.
use lib.ListN.{length}
use Rattle.whole_listing.proofs.Ranges.{calls_left}
use Rattle.lockreplay.proofs.run_block.Goals as goal

pub returns : goal.returns
returns c = calls_left _ _ c.args.left (length c.args.out.now) c.args.block.now _ c.run-ran.ensures.result
