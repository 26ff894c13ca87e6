-- The granted processors joined to the pending ones, as the code computes it. Assumes nothing.
use Prim.Native.Nat.{ℕ, ◌^◌, ◌<◌}
use mathlib.Core.Path.{◌≡◌}
use lib.Bits.{bit_or}
use Rattle.masks.proofs.Tests.{own_is, or_is}
use Rattle.register_block.specs.Registers.{joined}

pub or_joined : (pending granted : ℕ) → pending < 2 ^ 32 → granted < 2 ^ 32 → bit_or pending granted
    ≡ joined 32 pending granted
unfolding joined
or_joined pending granted p g = (or_is (own_is 32 pending p) (own_is 32 granted g)).is
