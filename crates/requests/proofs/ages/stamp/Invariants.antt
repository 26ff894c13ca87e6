-- `stamp` meets its contract: the walk goes through the places of the mask. Assumes nothing.
use Rattle.masks.proofs.Stores.{Stored}
use Rattle.plans.specs.Entries.{max_processors}
use Rattle.requests.proofs.ages.stamp.Given as goal

abbrev pub invariant-loop-p : goal.invariant-loop-p
invariant-loop-p l =
    (goal.iterator-loop-p).can_next l.p-iterator × (goal.iterator-loop-p).is_finite l.p-iterator
    × Stored max_processors 32 l.tick l.fn.among l.initial.since l.p-iterator.0 l.since
