-- `is_in` meets its contract: below the width the remainder is the entry itself, and a set contains no entry past its
-- places. Assumes nothing.
use mathlib.Core.Path.{◌≡◌, refl, sym, ap}
use mathlib.Core.Bool.{Bool, true, false, ◌&&◌}
use Prim.Native.Nat.{ℕ, ◌/◌, ◌%◌, ◌^◌, ◌<◌}
use native.Mathlib.Nat.{mod-eq_of_lt}
use lib.Dec.{eqb, ltb}
use borrow.Author.Tests.{ltb-true, ltb-false}
use Rattle.masks.specs.Sets.{bit}
use Rattle.masks.proofs.Places.{bit_past}
use Rattle.plans.specs.Entries.{max_entries}
use Rattle.settling.proofs.conflict_walks.is_in.Goals as goal

within : (w set entry : ℕ) → set < 2 ^ w → (t : Bool) → ltb entry w ≡ t
    → (t && eqb (set / 2 ^ (entry % w) % 2) 1) ≡ bit set entry
unfolding bit
within w set entry fits true e = ap (λ (x : ℕ). eqb (set / 2 ^ x % 2) 1) (mod-eq_of_lt (ltb-true entry w e))
within w set entry fits false e = sym (bit_past w set entry fits (ltb-false entry w e))

pub returns : goal.returns
returns c = within max_entries c.args.set c.args.entry c.ranges.set.fits (ltb c.args.entry max_entries) refl
