-- The conflict over a set of shared resources: there is one exactly if the set is not empty. Assumes nothing.
use Rattle.std.specs.Prelude.{Option, Some, None, is_some}
use Prim.Native.Nat.{ℕ, ◌^◌, ◌<◌}
use mathlib.Core.Path.{◌≡◌, refl, ap}
use mathlib.Core.Bool.{Bool, true, false, cond, not}
use native.Mathlib.Omega.{arith}
use lib.Count.{count_trailing_zeros, ones}
use lib.Dec.{eqb}
use borrow.Author.Tests.{ne_eqb}
use Rattle.masks.proofs.Counts.{lowest_is, ones_are}
use Rattle.plans.specs.Entries.{max_resources}
use Rattle.conflicts.specs.declared.sharing.Conflict.{Conflict}
use Rattle.conflicts.specs.Sharing.{shared_by, Over, conflict_as_numbers, over}

pub over_none : (set : ℕ) → set ≡ 0 → conflict_as_numbers None ≡ over set
unfolding over
over_none set e = rw e

-- Entries that are not both writes: two reads do not conflict, and a read and a write conflict over their names.
module _ (writes reads : Bool) (names widened : ℕ) (w : writes ≡ false) where
  pub reads_none : reads ≡ true → conflict_as_numbers None ≡ over (shared_by writes reads names widened)
  reads_none r = over_none _ (rw (w, r))

  pub by_names : {o : Over} → reads ≡ false → o ≡ over names → o ≡ over (shared_by writes reads names widened)
  by_names r e = rw (w, r) e

pub over_some : (set : ℕ) → 0 < set → set < 2 ^ max_resources
    → conflict_as_numbers (Some (record { lowest = count_trailing_zeros max_resources set; count = ones set })) ≡ over set
unfolding over
over_some set some small =
    rw (ne_eqb set 0 (λ e. omega (arith, e)), lowest_is max_resources set some small, ones_are max_resources set small)

-- There is a conflict if its number is 1.
pub some_is : (o : Option Conflict) → is_some o ≡ eqb (conflict_as_numbers o).number 1
some_is None = refl
some_is (Some c) = refl

-- The number shows which of the two it is: no conflict, or a conflict.
which : (t : Bool) (none one : Over) → none.number ≡ 0 → one.number ≡ 1 → eqb (cond t none one).number 1 ≡ not t
which true none one e f = ap (λ (n : ℕ). eqb n 1) e
which false none one e f = ap (λ (n : ℕ). eqb n 1) f

pub over_is : (set : ℕ) → eqb (over set).number 1 ≡ not (eqb set 0)
unfolding over
over_is set = which (eqb set 0) _ _ refl refl
