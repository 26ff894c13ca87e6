-- `row` meets its contract. The loop's invariant: the set so far is that of the entries below j that entry i conflicts
-- with. Assumes nothing.
use mathlib.Core.Path.{◌≡◌}
use Rattle.masks.specs.Sets.{mask_of}
use Rattle.conflicts.specs.Conflict.{in_conflict}
use Rattle.conflicts.proofs.row.Given as goal

abbrev pub invariant-loop-j : goal.invariant-loop-j
invariant-loop-j l = l.out ≡ mask_of l.j (in_conflict l.plan l.i)
