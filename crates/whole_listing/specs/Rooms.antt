-- The sizes of the buffers of a replay.
use Rattle.std.specs.Prelude.{ℕ}
use Rattle.plans.specs.Entries.{max_plan_size}

-- The plan's buffer has room for the longest plan (clause 2.6). The others are for a block of the input and for its
-- lines.
abbrev pub plan_room : ℕ
plan_room = max_plan_size

abbrev pub block_room : ℕ
block_room = 4096

abbrev pub lines_room : ℕ
lines_room = 65536
