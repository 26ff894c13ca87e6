-- The interrupt line as the code computes it. Assumes nothing.
use Prim.Native.Nat.{ℕ, ◌^◌, ◌<◌}
use mathlib.Core.Path.{◌≡◌, ap₂, ◌∙◌}
use mathlib.Core.List.{List}
use Rattle.masks.specs.Sets.{meets}
use Rattle.masks.proofs.Meets.{meets_some}
use Rattle.registers.specs.Registers.{pending_in, enabled_in, raised}

-- The interrupt line is raised exactly if the two numbers share a bit.
pub raised_meets : (bytes : List ℕ) (pending enabled : ℕ) → pending ≡ pending_in bytes → enabled ≡ enabled_in bytes
    → pending < 2 ^ 32
    → meets pending enabled ≡ raised 32 bytes
unfolding raised
raised_meets bytes pending enabled p e small = ap₂ meets p e ∙ meets_some 32 _ _ (rw p at small)
