-- `check_entries` meets its contract. The loop's invariant: the fault of the counted entries is the fault of the
-- entries left. Assumes nothing.
use mathlib.Core.Path.{◌≡◌}
use lib.ListN.{drop}
use Rattle.plans.specs.Acceptance.{entries_fault}
use Rattle.plan_checks.proofs.acceptance.check_entries.Given as goal

abbrev pub invariant-loop-entry : goal.invariant-loop-entry
invariant-loop-entry l =
    entries_fault l.resources l.entry-items ≡ entries_fault l.resources (drop l.entry-index l.entry-items)
