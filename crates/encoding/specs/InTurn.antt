-- Parts of a list, one after the other. Specification, section 7.
use Rattle.std.specs.Prelude.{ℕ, zero, suc, List, [], ◌++◌}

-- The bytes of f 0, f 1, .. up to f (n - 1), one after the other.
unfoldable pub in_turn : ℕ → (ℕ → List ℕ) → List ℕ
in_turn zero f = []
in_turn (suc n) f = in_turn n f ++ f n
