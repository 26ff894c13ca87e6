-- Reach in rows, one mask for each processor. Specification, section 7.
use Rattle.std.specs.Prelude.{ℕ, zero, suc, cond, List, get_or}
use Rattle.std.specs.Int.Bits.{bit_or}
use Rattle.masks.specs.Sets.{bit}
use Rattle.plans.specs.Entries.{max_processors}
use Rattle.masks.specs.Tabulation.{tabulate}

-- Row p, joined with row k if it contains k.
unfoldable pub joined_row : List ℕ → ℕ → ℕ → ℕ
joined_row rows k p = cond (bit (get_or rows p 0) k) (bit_or (get_or rows p 0) (get_or rows k 0)) (get_or rows p 0)

-- Clause 7.3: the rows with the chains that lead only through processors below k. With all processors of the plan these
-- are the chains of any length (proofs/reach_queries/AllReached).
unfoldable pub rows_through : ℕ → List ℕ → List ℕ
rows_through zero rows = rows
rows_through (suc k) rows = tabulate max_processors (joined_row (rows_through k rows) k)
