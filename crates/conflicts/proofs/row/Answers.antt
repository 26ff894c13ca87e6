use mathlib.Core.Path.{refl, ◌∙◌}
use native.Mathlib.Omega.{arith}
use Rattle.masks.specs.Sets.{mask_of}
use Rattle.conflicts.proofs.Over.{some_is}
use Rattle.conflicts.proofs.Pairs.{row_next}
use Rattle.conflicts.proofs.row.Goals as goal

pub loop-j-init : goal.loop-j-init
unfolding mask_of
loop-j-init c = refl

pub loop-j-preserved : goal.loop-j-preserved
loop-j-preserved c =
    row_next c.args.plan _ c.requires.widens _ _ _ _ _ c.requires.within c.loop-j-test.true c.loop-j.invariant
    c.pair_conflict-conflict.ensures (rw (← some_is _, ← c.is_some.ensures) c.add_if-out.ensures)
