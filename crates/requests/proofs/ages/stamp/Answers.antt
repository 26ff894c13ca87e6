use native.Mathlib.Omega.{arith}
use Rattle.masks.proofs.Stores.{stored_more, stored_last}
use Rattle.plans.specs.Entries.{max_processors}
use Rattle.requests.proofs.ages.Ages.{is_tabulate}
use Rattle.requests.proofs.ages.stamp.Goals as goal

pub loop-p-preserved : goal.loop-p-preserved
loop-p-preserved c =
    let step = c.in-Some.ensures.steps in
    rw (step.2, step.1) (tt, tt, stored_more step.0 c.loop-p.invariant.2)

pub returns : goal.returns
returns c = is_tabulate max_processors _ _ c.loop-p.invariant.2.full
    (stored_last c.in-None.ensures.steps c.loop-p.invariant.2)
