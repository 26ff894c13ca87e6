-- `reach` meets its contract: it lends the parts of the board and the state. Assumes nothing.
use Rattle.queries.specs.Queries.{waits_for, chained, reaches, reach_fault, reach_bytes, reach_scratch}
use Rattle.reach.proofs.reach_queries.reach.Goals as goal

pub returns : goal.returns
unfolding waits_for chained reaches reach_fault reach_bytes reach_scratch
returns c =
    let parts = c.lent.ensures in
    let both = rw (parts.terms, parts.rows, parts.requested, parts.earlier) at c.reach_in_place.ensures in
    record { mask = both.mask; stored = both.stored }
