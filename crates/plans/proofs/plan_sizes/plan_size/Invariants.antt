-- `plan_size` meets its contract. The loop's invariant: the bytes so far plus those of the entries left are the plan's
-- bytes, and the bytes so far have a bound. Assumes nothing.
use Prim.Native.Nat.{◌+◌, ◌*◌, ◌≤◌}
use mathlib.Core.Path.{◌≡◌}
use lib.ListN.{drop}
use Rattle.plans.specs.Entries.{counts_size, largest_entry, section_size}
use Rattle.plans.proofs.plan_sizes.plan_size.Given as goal

abbrev pub invariant-loop-entry : goal.invariant-loop-entry
invariant-loop-entry l =
    (l.size ≤ counts_size + largest_entry * l.entry-index)
    × (l.size + section_size (drop l.entry-index l.entry-items) ≡ counts_size + section_size l.entry-items)
