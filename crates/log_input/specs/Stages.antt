-- How many bytes to wait for at each stage of a log that arrives in pieces.
use Rattle.std.specs.Prelude.{ℕ, Bool, cond, List, eqb}
use Rattle.plans.specs.Reading.{read_fault}
use Rattle.logs.specs.Records.{record_size}

-- Clause 9.10: more bytes of a plan are needed only while the bytes so far are refused with 1. Any other answer
-- decides.
abbrev pub is_short : List ℕ → Bool
is_short s = eqb (read_fault s) 1

-- Clause 9.10: with calls left, a whole record is needed; after the last call a single byte, which would be a tail.
abbrev pub due_size : ℕ → ℕ
due_size left = cond (eqb left 0) 1 record_size
