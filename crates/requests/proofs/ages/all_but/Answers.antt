-- `all_but` meets its contract. Assumes nothing.
use mathlib.Core.Path.{◌∙◌}
use native.Mathlib.Omega.{arith}
use Rattle.masks.proofs.Tests.{all_but}
use Rattle.plans.specs.Entries.{max_processors}
use Rattle.requests.proofs.ages.all_but.Goals as goal

pub returns : goal.returns
returns c = c.remove32.ensures ∙ (all_but max_processors 32 _ (omega arith)).is
