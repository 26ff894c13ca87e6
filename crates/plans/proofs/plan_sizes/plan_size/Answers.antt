use native.Mathlib.Omega.{arith}
use mathlib.Core.Path.{ap}
use Rattle.plans.specs.Entries.{section_size}
use Rattle.plans.proofs.Sizes.{sized_most, size_added, no_size_left}
use Rattle.plans.proofs.plan_sizes.plan_size.Goals as goal

pub overflow_add-size : goal.overflow_add-size
overflow_add-size c =
    omega (
      arith,
      sized_most _ _ c.entry_size-size.ensures,
      c.loop-entry.invariant.0,
      c.loop-entry-test.true,
      c.counted_entries-entry-items.ensures.few,
    )

pub loop-entry-preserved : goal.loop-entry-preserved
loop-entry-preserved c = (
  omega (arith, sized_most _ _ c.entry_size-size.ensures),
  size_added _ _ _ _ _ _ c.entry_size-size.ensures c.loop-entry-test.true c.loop-entry.invariant.1,
)

pub returns : goal.returns
returns c =
    omega (
      arith,
      c.loop-entry.invariant.1,
      no_size_left _ _ c.loop-entry-test.false,
      ap section_size c.counted_entries-entry-items.ensures.are,
    )
