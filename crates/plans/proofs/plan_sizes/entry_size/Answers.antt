-- `entry_size` meets its contract: what it returns is the definition itself. Assumes nothing.
use mathlib.Core.Path.{refl}
use Rattle.plans.specs.Entries.{entry_size_of}
use Rattle.plans.proofs.plan_sizes.entry_size.Goals as goal

-- `entry_size` meets its contract: what it returns is the definition itself. Assumes nothing.

pub returns : goal.returns
unfolding entry_size_of
returns c = refl
