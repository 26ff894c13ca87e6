-- `board_of` meets its contract, field by field. Assumes nothing.
use Rattle.boards.proofs.PlanEntries.{board_made}
use Rattle.boards.proofs.board_of.Goals as goal

pub returns : goal.returns
returns c =
    board_made c.args.plan _ _ _ c.lengths_of-lengths.ensures c.conflicts_of-worked.ensures c.writes_of.ensures
