-- `writes_of` meets its contract. The loop's invariant: the set contains the writes among the entries so far. Assumes
-- nothing.
use mathlib.Core.Path.{◌≡◌}
use Rattle.masks.specs.Sets.{mask_of}
use Rattle.boards.proofs.PlanEntries.{writes_in}
use Rattle.boards.proofs.writes_of.Given as goal

abbrev pub invariant-loop-i : goal.invariant-loop-i
invariant-loop-i l = l.out ≡ mask_of l.i (writes_in l.plan)
