use native.Mathlib.Omega.{arith}
use mathlib.Core.Path.{◌≡◌, refl}
use Rattle.plans.specs.Entries.{max_entries}
use Rattle.masks.specs.Sets.{mask_of}
use Rattle.boards.specs.Fresh.{board_of}
use Rattle.boards.proofs.PlanEntries.{writes_more}
use Rattle.boards.proofs.writes_of.Goals as goal

pub loop-i-init : goal.loop-i-init
unfolding mask_of
loop-i-init c = refl

pub loop-i-preserved : goal.loop-i-preserved
loop-i-preserved c =
    writes_more c.args.plan _ _ _ _ c.loop-i-test.true c.loop-i.invariant c.write_place.ensures c.with-out.ensures

pub returns : goal.returns
unfolding board_of
returns c =
    let last : c.loop-i.i ≡ max_entries = omega (arith, c.loop-i-test.false, c.loop-i.auto.i-end) in
    rw last at c.loop-i.invariant
