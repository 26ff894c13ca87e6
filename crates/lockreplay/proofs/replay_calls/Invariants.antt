-- `replay_calls` ends: a block that carries out no call is the last. Assumes nothing.
use mathlib.Core.Path.{◌≡◌}
use lib.ListN.{length}
use Rattle.lockreplay.proofs.replay_calls.Given as goal

abbrev pub invariant-loop-ran : goal.invariant-loop-ran
invariant-loop-ran l = (length l.block ≡ length l.initial.block) × (length l.out ≡ length l.initial.out)

abbrev pub decreases-loop-ran : goal.decreases-loop-ran
decreases-loop-ran l = l.left
