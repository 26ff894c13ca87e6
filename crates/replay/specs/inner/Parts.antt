-- What some records did.
use Rattle.rules.specs.declared.states.LentArrays.{LentArrays}
use Rattle.rules.specs.InPlace.{state_lent}
use Rattle.replay.specs.declared.RanBlock.{RanBlock}
use Rattle.replay.specs.declared.Progress.{Progress}

-- What a block returns, from what its records return and leave in the lent arrays.
abbrev pub ran_lent : Progress → LentArrays → RanBlock
ran_lent p arrays =
    record { state = state_lent p.moment arrays; calls = p.calls; written = p.written; ended = p.ended }
