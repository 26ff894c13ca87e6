use Rattle.masks.proofs.Stores.{each_last}
use Rattle.plans.specs.Entries.{max_processors}
use Rattle.requests.proofs.ages.Ages.{is_tabulate}
use Rattle.requests.proofs.ages.keep_each.Goals as goal

pub returns : goal.returns
returns c = is_tabulate max_processors _ _ c.loop-set.invariant.full
    (each_last c.loop-set-test.false c.loop-set.invariant)
