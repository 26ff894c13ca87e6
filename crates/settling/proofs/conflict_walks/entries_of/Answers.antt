use mathlib.Core.Path.{ap}
use Prim.Native.Nat.{ℕ}
use lib.Bits.{bit_or}
use Rattle.masks.proofs.Shifts.{one_shifted}
use Rattle.masks.proofs.Gathers.{gathered_first, gathered_more, gathered_last}
use Rattle.plans.specs.Entries.{max_entries}
use Rattle.rules.proofs.Known.{known_and}
use Rattle.settling.proofs.Processors.{walk_of, lowest_entry}
use Rattle.settling.proofs.conflict_walks.entries_of.Goals as goal

pub loop-p-init : goal.loop-p-init
loop-p-init c =
    rw c.into_iter-p-iterator.ensures.into_iter_gives
    (tt, tt, gathered_first max_entries _ (walk_of c.ranges.among.fits), c.requires)

pub overflow_shl-set : goal.overflow_shl-set
overflow_shl-set c =
    let step = c.in-Some.ensures.steps in
    rw step.1 (lowest_entry c.loop-p.invariant.3 step.0)

pub loop-p-preserved : goal.loop-p-preserved
loop-p-preserved c =
    let step = c.in-Some.ensures.steps in
    let inv = c.loop-p.invariant in
    let below = lowest_entry inv.3 step.0 in
    rw step.2 (
      tt,
      tt,
      gathered_more _ step.0 inv.2 below
          (rw step.1 (ap (λ (x : ℕ). bit_or c.loop-p.set x) (one_shifted max_entries _ below))),
      known_and _ inv.3,
    )

pub returns : goal.returns
returns c = gathered_last c.in-None.ensures.steps c.loop-p.invariant.2
