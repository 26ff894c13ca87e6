-- `hex_pairs` meets its contract: the whole table is computed from the rule and compared, all pairs at once.
-- Assumes nothing.
use mathlib.Core.Path.{refl}
use Rattle.encoding.specs.Numbers.{number}
use Rattle.digits.specs.Digits.{pairs_from, hex_pairs}
use Rattle.digits.proofs.hex_pairs.Goals as goal

pub returns : goal.returns
unfolding number pairs_from hex_pairs
returns c = refl
