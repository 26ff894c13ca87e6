-- `write_digits` meets its contract. The invariant is `ToStore`. Assumes nothing.
use Rattle.digits.proofs.decimals.Backwards.{ToStore}
use Rattle.digits.proofs.decimals.write_digits.Given as goal

abbrev pub invariant-loop-rest : goal.invariant-loop-rest
invariant-loop-rest l = ToStore l.n l.initial.buffer l.at l.buffer l.rest l.left

abbrev pub decreases-loop-rest : goal.decreases-loop-rest
decreases-loop-rest l = l.rest
