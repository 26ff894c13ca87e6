-- The queries on the parts that the private functions read.
use Rattle.std.specs.Prelude.{ℕ, List}
use Rattle.masks.specs.Sets.{mask_of}
use Rattle.plans.specs.Entries.{max_processors}
use Rattle.masks.specs.Tabulation.{tabulate}
use Rattle.rules.specs.declared.states.Board.{Board}
use Rattle.rules.specs.declared.states.State.{State}
use Rattle.queries.specs.Queries.{waits_for}

-- The direct waits of every processor.
abbrev pub direct_rows : Board → State → List ℕ
direct_rows b s = tabulate max_processors (λ p. mask_of max_processors (waits_for b s p))
