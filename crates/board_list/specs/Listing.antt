-- The list of the whole board: the part of each processor, and all bytes. The phases are those of the requests that
-- count. Specification, section 7.
use Rattle.std.specs.Prelude.{ℕ, List, ◌∷◌, length, get_or}
use Rattle.encoding.specs.Buffers.{room_fault, buffer_after}
use Rattle.encoding.specs.InTurn.{in_turn}
use Rattle.board_list.specs.Sizes.{list_size}
use Rattle.rules.specs.declared.states.Phases.{Phases}
use Rattle.board_list.specs.Fields.{state_in, entry_shown, waited_in}
use Rattle.board_list.specs.declared.list_writer.Columns.{Columns}
use Rattle.board_list.specs.Parts.{part_bytes}

-- The part of processor p. The list `waits` contains the direct waits of all processors.
unfoldable pub part_in : ℕ → Phases → ℕ → List ℕ → List ℕ → List ℕ → ℕ → List ℕ
part_in k ph last entry since waits p =
    part_bytes k (state_in ph p) (entry_shown ph entry p) (waited_in ph last since p) (get_or waits p 0)

-- The part of processor p from what is lent to the list.
abbrev pub part_shown : ℕ → Columns → ℕ → List ℕ
part_shown k columns =
    part_in k columns.moment.phases columns.moment.last columns.requested.now columns.since.now columns.waits.now

-- Clause 7.7: the list of m processors: their count, then the part of each.
unfoldable pub list_bytes : ℕ → (ℕ → List ℕ) → List ℕ
list_bytes m part = m ∷ in_turn m part

-- Clauses 7.9 and 8.1: 16 for a buffer that is too short.
unfoldable pub list_fault : ℕ → ℕ → List ℕ → ℕ
list_fault k m buffer = room_fault (list_size k m) (length buffer) 0

-- Clause 7.9: the buffer afterwards. Bytes after the list stay, and on a refusal all bytes do.
unfoldable pub list_buffer : ℕ → ℕ → (ℕ → List ℕ) → List ℕ → List ℕ
list_buffer k m part buffer = buffer_after (list_fault k m buffer) (list_bytes m part) buffer 0
