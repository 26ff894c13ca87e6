-- The counts at the start of a plan's bytes, and when they are refused: 1 and 3 to 5. Specification, section 2.
use Rattle.std.specs.Prelude.{ℕ, List, get_or}
use Rattle.refusals.specs.Due.{first_of}
use Rattle.encoding.specs.Buffers.{short_fault}
use Rattle.plans.specs.Entries.{counts_size}
use Rattle.plans.specs.Acceptance.{processors_fault, resources_fault, count_fault}

-- Clauses 2.3 and 2.9: the count of processors, due (1) before it is checked.
abbrev pub first_count : List ℕ → ℕ
first_count s = first_of (short_fault 1 s) (processors_fault (get_or s 0 0))

-- Clauses 2.4 and 2.9: the count of resources, likewise.
abbrev pub second_count : List ℕ → ℕ
second_count s = first_of (short_fault 2 s) (resources_fault (get_or s 1 0))

-- Clauses 2.5 and 2.9: the count of entries, likewise.
abbrev pub third_count : List ℕ → ℕ
third_count s = first_of (short_fault counts_size s) (count_fault (get_or s 2 0))

-- Clauses 2.9 and 8.2: the first fault of the three counts, in the order of their bytes.
unfoldable pub head_fault : List ℕ → ℕ
head_fault s = first_of (first_count s) (first_of (second_count s) (third_count s))
