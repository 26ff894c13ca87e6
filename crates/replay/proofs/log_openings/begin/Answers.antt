-- `begin` meets its contract: an opened plan is within the bytes. Assumes nothing.
use mathlib.Core.Path.{◌∙◌}
use Rattle.replay.proofs.Openings.{opened_inside}
use Rattle.replay.proofs.log_openings.begin.Goals as goal

pub returns-clause-inside : goal.returns-clause-inside
returns-clause-inside c =
    opened_inside _ c.args.bytes.now (c.open.ensures.outcome ∙ c.read-read.ensures.outcome)
