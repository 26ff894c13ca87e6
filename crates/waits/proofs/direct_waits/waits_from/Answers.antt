-- `waits_from` meets its contract: those of the four cases whose entries are in the row of conflicts. Assumes nothing.
use Prim.Native.Nat.{◌^◌, ◌<◌}
use borrow.Author.Rules.{rules}
use Rattle.rules.specs.InPlace.{facts_lent}
use Rattle.waits.proofs.direct_waits.Cases.{waits_mask}
use Rattle.waits.proofs.direct_waits.waits_from.Goals as goal

pub returns : goal.returns
returns c are =
    let a = c.args in
    let holding-fits : a.phases.holding < 2 ^ 32 = search rules in
    waits_mask (facts_lent a.facts) a.phases a.writers a.p are
    c.requires.0 holding-fits
    c.ranges.writers.fits _ _ _ _ _ _ _
    c.has-waiting.ensures c.has-entitled.ensures c.requires.1
    c.join_if-first.ensures c.join_if-second.ensures c.join_if-third.ensures c.join_if-others.ensures _ _
    c.row_at-row.ensures c.those_in.ensures
