-- `read_entries` reads the entries and stops at the first fault. The invariant is `SoFar`, and the measure is how many
-- entries are left. Assumes nothing.
use Prim.Native.Nat.{◌-◌}
use lib.ListN.{get_or}
use Rattle.plan_bytes.proofs.plan_reader.Section.{SoFar}
use Rattle.plan_bytes.proofs.plan_reader.read_entries.Given as goal

abbrev pub invariant-loop-i : goal.invariant-loop-i
invariant-loop-i l = SoFar (get_or l.bytes 1 0) (get_or l.bytes 2 0) l.bytes l.entries l.at l.i

abbrev pub decreases-loop-i : goal.decreases-loop-i
decreases-loop-i l = l.count - l.i
