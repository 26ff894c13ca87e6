-- What writing a plan means, and when it is refused: 3 to 8 and 16. Specification, section 2.
use Rattle.std.specs.Prelude.{ℕ, List, [], ◌∷◌, ◌++◌, length}
use Rattle.refusals.specs.Due.{AsNumbers, first_of, as_numbers}
use Rattle.encoding.specs.Numbers.{bytes_of}
use Rattle.encoding.specs.Buffers.{room_fault, buffer_after}
use Rattle.plans.specs.Entries.{plan_size, counted_entries}
use Rattle.plans.specs.Acceptance.{plan_fault}
use Rattle.plans.specs.declared.Entry.{Entry}
use Rattle.plans.specs.declared.Plan.{Plan}

-- Clause 2.6: an entry in bytes: its kind in one byte, its names in eight and its length in two.
unfoldable pub entry_bytes : Entry → List ℕ
entry_bytes e = e.kind ∷ bytes_of 8 e.set ++ bytes_of 2 e.length

-- The entries one after the other.
unfoldable pub section_bytes : List Entry → List ℕ
section_bytes [] = []
section_bytes (e ∷ later) = entry_bytes e ++ section_bytes later

-- Clause 2.2: the counts of the three sections, a byte each, and then the counted entries.
unfoldable pub plan_bytes : Plan → List ℕ
plan_bytes p = p.processors ∷ p.resources ∷ p.count ∷ section_bytes (counted_entries p)

-- Clauses 2.12 and 8.2: first 3 to 8 for the plan, then 16 for the room. The buffer is `size` bytes long and the plan
-- is written from position `at`.
unfoldable pub write_fault : Plan → ℕ → ℕ → ℕ
write_fault p size at = first_of (plan_fault p) (room_fault (plan_size p) size at)

-- Clause 2.12: how many bytes were written, or the refusal.
abbrev pub write_as_numbers : Plan → List ℕ → ℕ → AsNumbers
write_as_numbers p buffer at = as_numbers (write_fault p (length buffer) at) (plan_size p)

-- Clause 2.12: the buffer after writing. Bytes outside the plan stay. On a refusal, all bytes stay.
unfoldable pub written_buffer : Plan → List ℕ → ℕ → List ℕ
written_buffer p buffer at = buffer_after (write_fault p (length buffer) at) (plan_bytes p) buffer at
