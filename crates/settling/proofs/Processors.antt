-- A word as a mask of processors: the walk through it, and the entry of the lowest processor, if all are known. Assumes
-- nothing.
use Prim.Native.Nat.{ℕ, ◌^◌, ◌<◌, ◌≤◌}
use mathlib.Core.List.{List}
use native.Mathlib.Omega.{arith}
use lib.Count.{count_trailing_zeros}
use lib.ListN.{get_or}
use Rattle.masks.proofs.Walks.{Left, lowest_bit, lowest_place}
use Rattle.plans.specs.Entries.{max_processors, max_entries}
use Rattle.rules.specs.inner.Moves.{Known}

fit : max_processors ≤ 32
fit = omega arith

pub walk_of : {among : ℕ} → among < 2 ^ max_processors → Left max_processors 32 among
walk_of h = record { fit = fit; rest = h }

module _ {entry : List ℕ} {left : ℕ} (known : Known entry left) (some_left : 0 < left) where
  pub lowest_known : count_trailing_zeros 32 left < max_processors
  lowest_known = lowest_place (walk_of known.within) some_left

  pub lowest_entry : get_or entry (count_trailing_zeros 32 left) 0 < max_entries
  lowest_entry = known.entries (count_trailing_zeros 32 left) (lowest_bit (walk_of known.within) some_left)
