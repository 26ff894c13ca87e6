-- `enter` meets its contract, built from those of its parts. Assumes nothing.
use lib.ListN.{set}
use Rattle.requests.proofs.enter_leave.Done.{entered_done}
use Rattle.requests.proofs.enter_leave.enter.Goals as goal

pub returns : goal.returns
returns c =
    let a = c.args in
    entered_done a.board.rows.now a.board.terms.writes a.tick a.processor a.phases a.earlier.now
    (set a.requested.now a.processor a.entry) (set a.since.now a.processor a.tick)
    c.store.ensures c.store-2.ensures c.settle_new-after.ensures (c.accept.ensures _ _)
