-- `entries_below` meets its contract: if the largest entry is below the count, all are. Assumes nothing.
use native.Mathlib.Omega.{arith}
use lib.ListN.{get_or}
use Rattle.settling.proofs.known_requests.Below.{among_below}
use Rattle.settling.proofs.known_requests.entries_below.Goals as goal

pub returns-then-largest-count : goal.returns-then-largest-count
returns-then-largest-count c =
    let a = c.args in
    among_below (λ k. get_or a.requested.now k 0) _ a.count c.largest.ensures
    (omega (arith, c.if-largest-count.true)) a.among c.ranges.among.fits
