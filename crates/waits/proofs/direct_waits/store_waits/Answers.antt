use native.Mathlib.Omega.{arith}
use borrow.Author.Rules.{rules}
use Rattle.masks.proofs.Walks.{Left, lowest_bit, lowest_place}
use Rattle.plans.specs.Entries.{max_processors}
use Rattle.waits.proofs.direct_waits.Filled.{filled_first, filled_more, filled_last}
use Rattle.waits.proofs.direct_waits.store_waits.Goals as goal

pub loop-p-init : goal.loop-p-init
loop-p-init c =
    let walk : Left max_processors 32 c.args.candidates = record { fit = omega arith; rest = search rules } in
    rw c.into_iter-p-iterator.ensures.into_iter_gives (tt, tt, filled_first _ walk (search rules))

pub waits_from-requires : goal.waits_from-requires
waits_from-requires c =
    let step = c.in-Some.ensures.steps in
    let inv = c.loop-p.invariant.2 in
    rw step.1 (
      lowest_place inv.walk step.0,
      c.requires.alike _ (inv.within _ (lowest_bit inv.walk step.0)),
    )

pub loop-p-preserved : goal.loop-p-preserved
loop-p-preserved c =
    let step = c.in-Some.ensures.steps in
    rw (step.2, step.1) (
      tt,
      tt,
      filled_more _ step.0 c.loop-p.invariant.2 (rw step.1 at (c.waits_from.ensures c.requires.writers)),
    )

pub returns : goal.returns
returns c = filled_last c.in-None.ensures.steps c.loop-p.invariant.2
