-- One more row joined, in `join_through`. Assumes nothing.
use mathlib.Core.Path.{◌≡◌, refl}
use Prim.Native.Nat.{◌<◌}
use native.Mathlib.Omega.{arith}
use lib.ListN.{length, get_or, length-set}
use Rattle.std.proofs.Common.{◌≢◌, get_or-set_other}
use Rattle.plans.specs.Entries.{max_processors}
use Rattle.masks.specs.Tabulation.{tabulate}
use Rattle.masks.proofs.Tabulate.{fill_more, filled_whole}
use Rattle.reach.specs.Rows.{joined_row}
use Rattle.reach.proofs.reaching.join_through.Goals as goal

pub loop-own-init : goal.loop-own-init
unfolding tabulate
loop-own-init c = (c.told-rows, refl, λ j h. refl)

pub loop-own-preserved : goal.loop-own-preserved
unfolding joined_row
loop-own-preserved c =
    let loop = c.loop-own in
    let i = loop.own-index in
    let low : i < length loop.rows = omega arith in
    let own : get_or loop.rows i 0 ≡ get_or c.args.rows.now i 0 = loop.invariant.2 i (omega arith) in (
      simp length-set loop.invariant.0,
      fill_more _ _ _ _ low loop.invariant.1 (rw (c.has.ensures, own) at c.join_if.ensures),
      λ j h. let ne : j ≢ i = omega arith in rw get_or-set_other (loop.invariant.2 j (omega arith)),
    )

pub returns : goal.returns
returns c =
    let loop = c.loop-own in
    let all : loop.own-index ≡ max_processors = omega arith in
    filled_whole _ max_processors _ loop.invariant.0 (rw all at loop.invariant.1)
