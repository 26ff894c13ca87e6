-- A field is stored in a lent buffer from a position on, if everything that is needed fits. Specification, clause 2.12.
use Rattle.std.specs.Prelude.{ℕ, cond, List, length}
use Rattle.encoding.specs.Buffers.{has_room, room_fault, buffer_after}

-- How many bytes are stored in a buffer of size bytes: none without room for what is needed.
abbrev pub placed_size : ℕ → List ℕ → ℕ → ℕ → ℕ
placed_size needed bytes size at = cond (has_room needed size at) (length bytes) 0

-- The buffer afterwards. Other bytes stay.
abbrev pub placed_buffer : ℕ → List ℕ → List ℕ → ℕ → List ℕ
placed_buffer needed bytes buffer at = buffer_after (room_fault needed (length buffer) at) bytes buffer at

-- The same if the field is all that is needed.
abbrev pub field_size : List ℕ → ℕ → ℕ → ℕ
field_size bytes size at = placed_size (length bytes) bytes size at

abbrev pub field_buffer : List ℕ → List ℕ → ℕ → List ℕ
field_buffer bytes buffer at = placed_buffer (length bytes) bytes buffer at
