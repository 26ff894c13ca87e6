-- Widened sets. Specification, section 3.
use Rattle.std.specs.Prelude.{ℕ, cond, ◌&&◌, List, [], ◌∷◌}
use Rattle.std.specs.Int.Bits.{bit_or}
use Rattle.masks.specs.Sets.{meets}
use Rattle.plans.specs.declared.Entry.{Entry}
use Rattle.plans.specs.Entries.{is_read, is_write}

-- Clause 3.1: the names, and the names of each read entry that shares a resource with them. Every entry is compared
-- with the names alone, so what was added brings in no more.
unfoldable pub widen : ℕ → List Entry → ℕ
widen names [] = names
widen names (e ∷ later) = bit_or (widen names later) (cond (is_read e && meets e.set names) e.set 0)

-- Clause 3.1: the widened set of a write entry. For a read entry it is its names, and is not used.
unfoldable pub widened_set : List Entry → Entry → ℕ
widened_set entries e = cond (is_write e) (widen e.set entries) e.set
