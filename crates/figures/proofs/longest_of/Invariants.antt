-- `longest_of` meets its contract. The loop's invariant: the longest of all is the longest of the best so far and those
-- left, and the best is a length. Assumes nothing.
use Rattle.plans.specs.declared.Entry.{Entry}
use Prim.Native.Nat.{◌<◌, max}
use mathlib.Core.Path.{◌≡◌}
use mathlib.Core.Bool.{Bool}
use lib.ListN.{drop}
use Rattle.plans.specs.Figures.{longest}
use Rattle.figures.proofs.longest_of.Given as goal

abbrev pub invariant-loop-entry : goal.invariant-loop-entry
invariant-loop-entry g l =
    (l.best < 65536)
    × ((asked : Entry → Bool) → ((e : Entry) (r : Bool) → g.F.Fn.post l.is_asked (e, tt) r → r ≡ asked e)
    → longest asked l.entries ≡ max l.best (longest asked (drop l.entry-index l.entries)))
