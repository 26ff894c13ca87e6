-- The walk through the places of a set of processors.
use Rattle.std.specs.Prelude.{ℕ, ◌≡◌, ◌-◌, ◌<◌, Option, MatchOption}
use Rattle.std.specs.Int.Bits.{bit_and}
use Rattle.std.specs.Int.Count.{count_trailing_zeros}

-- The lowest place comes next, and the others are left. No place comes of the empty set.
abbrev pub NextPlace : ℕ → Option ℕ → ℕ → Type 0
NextPlace left place later =
    MatchOption place (left ≡ 0)
    (λ p. (0 < left) × (p ≡ count_trailing_zeros 32 left) × (later ≡ bit_and left (left - 1)))
