-- How many records a block carries out. Specification, section 9.
use Rattle.std.specs.Prelude.{ℕ, ◌/◌, min}
use Rattle.logs.specs.Records.{record_size}

-- The longest line of a call, whatever the plan, or of a refusal, rounded up.
abbrev pub line_room : ℕ
line_room = 88

-- Clauses 9.9 and 9.10: how many records are carried out with so many bytes and so much room: those that are left, are
-- whole in the bytes, and have room for their lines.
abbrev pub budget_of : ℕ → ℕ → ℕ → ℕ
budget_of left size room = min left (min (size / record_size) (room / line_room))
