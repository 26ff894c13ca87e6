-- `known_in` meets its contract: there are as many rows as entries. Assumes nothing.
use Rattle.rules.proofs.Known.{known_all}
use Rattle.settling.proofs.steps.KnownSteps.{all_known}
use Rattle.settling.proofs.steps.known_in.Goals as goal

pub returns-clause-those : goal.returns-clause-those
returns-clause-those c = all_known _ _ _ c.requires c.entries_below.ensures

pub returns-clause-known : goal.returns-clause-known
returns-clause-known c = known_all (all_known _ _ _ c.requires c.entries_below.ensures)
