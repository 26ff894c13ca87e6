-- `keep_each` meets its contract. The loop's invariant: the sets before this one are changed. Assumes nothing.
use lib.Bits.{bit_and}
use Rattle.masks.proofs.Stores.{Each}
use Rattle.plans.specs.Entries.{max_processors}
use Rattle.requests.proofs.ages.keep_each.Given as goal

abbrev pub invariant-loop-set : goal.invariant-loop-set
invariant-loop-set l = Each max_processors (λ n. bit_and n l.keep) l.fn.sets l.set-index l.set-items
