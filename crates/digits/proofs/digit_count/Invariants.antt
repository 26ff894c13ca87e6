-- `digit_count` meets its contract. The invariant: the digits counted so far and those of the rest make up the number.
-- Assumes nothing.
use Prim.Native.Nat.{◌+◌, ◌^◌, ◌≤◌, ◌<◌}
use mathlib.Core.Path.{◌≡◌}
use lib.ListN.{length}
use Rattle.digits.specs.Digits.{decimal}
use Rattle.digits.proofs.digit_count.Given as goal

abbrev pub invariant-loop-head : goal.invariant-loop-head
invariant-loop-head l =
    (l.head ≤ l.n) × ((l.n < 10 ^ 20) × (l.count + length (decimal l.head) ≡ length (decimal l.n)))

abbrev pub decreases-loop-head : goal.decreases-loop-head
decreases-loop-head l = l.head
