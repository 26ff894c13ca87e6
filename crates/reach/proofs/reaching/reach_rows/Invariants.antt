-- `reach_rows` meets its contract. The invariant: the rows contain the chains through the processors passed. Assumes
-- nothing.
use mathlib.Core.Path.{◌≡◌}
use Rattle.reach.specs.Rows.{rows_through}
use Rattle.reach.proofs.reaching.reach_rows.Given as goal

abbrev pub invariant-loop-k : goal.invariant-loop-k
invariant-loop-k l = l.rows ≡ rows_through l.k l.initial.rows
