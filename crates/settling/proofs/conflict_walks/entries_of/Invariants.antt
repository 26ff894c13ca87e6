-- `entries_of` meets its contract: the walk gathers the entries. Assumes nothing.
use lib.ListN.{get_or}
use Rattle.masks.proofs.Gathers.{Gathered}
use Rattle.plans.specs.Entries.{max_processors, max_entries}
use Rattle.rules.specs.inner.Moves.{Known}
use Rattle.settling.proofs.conflict_walks.entries_of.Given as goal

abbrev pub invariant-loop-p : goal.invariant-loop-p
invariant-loop-p l =
    (goal.iterator-loop-p).can_next l.p-iterator × (goal.iterator-loop-p).is_finite l.p-iterator
    × Gathered max_processors 32 max_entries (λ p. get_or l.requested p 0) l.fn.among l.p-iterator.0 l.set
    × Known l.requested l.p-iterator.0
