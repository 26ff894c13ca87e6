-- `join_through` meets its contract. The invariant: the rows of the processors passed are joined, and the others are as
-- they were. Assumes nothing.
use mathlib.Core.Path.{◌≡◌}
use Prim.Native.Nat.{ℕ, ◌≤◌}
use lib.ListN.{length, get_or, take}
use Rattle.plans.specs.Entries.{max_processors}
use Rattle.masks.specs.Tabulation.{tabulate}
use Rattle.reach.specs.Rows.{joined_row}
use Rattle.reach.proofs.reaching.join_through.Given as goal

abbrev pub invariant-loop-own : goal.invariant-loop-own
invariant-loop-own l =
    (length l.rows ≡ max_processors)
    × (take l.own-index l.rows ≡ tabulate l.own-index (joined_row l.fn.rows l.k))
    × ((j : ℕ) → l.own-index ≤ j → get_or l.rows j 0 ≡ get_or l.fn.rows j 0)
