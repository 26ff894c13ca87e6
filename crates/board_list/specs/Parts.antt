-- The part of a processor in the list of the whole board. Specification, section 7.
use Rattle.std.specs.Prelude.{ℕ, List, ◌∷◌, ◌++◌}
use Rattle.encoding.specs.Numbers.{bytes_of}

-- Clause 7.7: a processor's part: its state, its entry, the ticks that it has waited, and its direct waits in k bytes.
unfoldable pub part_bytes : ℕ → ℕ → ℕ → ℕ → ℕ → List ℕ
part_bytes k state entry waited waits = state ∷ entry ∷ bytes_of 4 waited ++ bytes_of k waits
