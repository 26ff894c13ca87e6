-- `conflict_over` meets its contract: trailing zeros and ones of the set, at its width. Assumes nothing.
use native.Mathlib.Omega.{arith}
use Rattle.conflicts.proofs.Over.{over_none, over_some}
use Rattle.conflicts.proofs.sharing.conflict_over.Goals as goal

pub returns-then-set-eq0 : goal.returns-then-set-eq0
returns-then-set-eq0 c = over_none _ c.if-set-eq0.true

pub returns : goal.returns
returns c = over_some _ (omega arith) c.ranges.set.fits
