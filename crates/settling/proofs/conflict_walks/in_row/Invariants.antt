-- `in_row` meets its contract: the search stops at the first processor whose entry is in the row. Assumes nothing.
use lib.ListN.{get_or}
use Rattle.masks.specs.Sets.{bit}
use Rattle.masks.proofs.Walks.{Sought}
use Rattle.plans.specs.Entries.{max_processors}
use Rattle.rules.specs.inner.Moves.{Known}
use Rattle.settling.proofs.conflict_walks.in_row.Given as goal

abbrev pub invariant-loop-left : goal.invariant-loop-left
invariant-loop-left l = Sought max_processors 32 (λ q. bit l.row (get_or l.requested q 0)) l.among l.left
    × Known l.requested l.left

abbrev pub decreases-loop-left : goal.decreases-loop-left
decreases-loop-left l = l.left
