-- Numbers in bytes. Specification, section 2.
use Rattle.std.specs.Prelude.{ℕ, zero, suc, ◌+◌, ◌*◌, ◌/◌, ◌%◌, List, [], ◌∷◌}

-- Clause 2.1: the number in the bytes, low byte first.
unfoldable pub number : List ℕ → ℕ
number [] = 0
number (b ∷ higher) = b + 256 * number higher

-- Clause 2.1: a number as n bytes.
unfoldable pub bytes_of : ℕ → ℕ → List ℕ
bytes_of zero x = []
bytes_of (suc n) x = x % 256 ∷ bytes_of n (x / 256)
