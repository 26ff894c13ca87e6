-- The cleared bits as the code computes them. Assumes nothing.
use Prim.Native.Nat.{ℕ, ◌-◌, ◌^◌, ◌<◌}
use mathlib.Core.Path.{◌≡◌}
use lib.Bits.{bit_and}
use lib.Dec.{lit<}
use Rattle.masks.proofs.Tests.{own_is, without_is}
use Rattle.registers.specs.Stores.{cleared}

-- A byte without the bits of another.
pub without_cleared : (old value : ℕ) → old < 2 ^ 8 → value < 2 ^ 8 → bit_and old (255 - value) ≡ cleared 8 old value
unfolding cleared
without_cleared old value o v = (without_is 8 (lit< tt) (own_is 8 old o) (own_is 8 value v)).is
