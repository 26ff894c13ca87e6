-- The writers, as the private functions use them.
use Rattle.std.specs.Prelude.{ℕ, ◌&&◌}
use Rattle.masks.specs.Sets.{mask_of}
use Rattle.plans.specs.Entries.{max_processors}
use Rattle.rules.specs.declared.states.Phases.{Phases}
use Rattle.rules.specs.Requests.{Facts, active, is_writer}

-- The active processors whose requests are writes.
abbrev pub writers_in : Facts → Phases → ℕ
writers_in f ph = mask_of max_processors (λ q. active ph q && is_writer f q)
