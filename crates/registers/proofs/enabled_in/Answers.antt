-- `enabled_in` meets its contract. Assumes nothing.
use mathlib.Core.Path.{◌∙◌}
use lib.Dec.{lit<}
use Rattle.encoding.proofs.Numbers.{part_number}
use Rattle.registers.proofs.enabled_in.Goals as goal

pub returns : goal.returns
returns c = c.read_number.ensures.value ∙ part_number 24 4 c.args.bytes (lit< tt)
