-- `store_waits` meets its contract: the walk stores the direct waits of each candidate. Assumes nothing.
use Rattle.masks.specs.Sets.{mask_of}
use Rattle.plans.specs.Entries.{max_processors}
use Rattle.rules.specs.InPlace.{facts_lent}
use Rattle.waits.specs.Waits.{waits_in}
use Rattle.waits.proofs.direct_waits.Filled.{Filled}
use Rattle.waits.proofs.direct_waits.store_waits.Given as goal

abbrev pub invariant-loop-p : goal.invariant-loop-p
invariant-loop-p l =
    (goal.iterator-loop-p).can_next l.p-iterator × (goal.iterator-loop-p).is_finite l.p-iterator
    × Filled max_processors 32 (λ p. mask_of max_processors (waits_in (facts_lent l.fn.facts) l.fn.phases p))
    l.fn.candidates l.initial.waits l.p-iterator.0 l.waits
