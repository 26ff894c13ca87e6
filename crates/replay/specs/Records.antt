-- What a record of a log adds to the listing, and where it leaves the arbiter. Specification, section 9.
use Rattle.std.specs.Prelude.{ℕ, true, cond, List, eqb}
use Rattle.rules.specs.declared.calls.Call.{Call}
use Rattle.rules.specs.CallNumbers.{call_of}
use Rattle.rules.specs.declared.states.Board.{Board}
use Rattle.rules.specs.declared.states.State.{State}
use Rattle.logs.specs.Records.{fields_in, record_fault}
use Rattle.listings.specs.PlainLines.{refusal_line}
use Rattle.replay.specs.Steps.{Step, call_step}

-- The call in the record at the start of the bytes.
abbrev pub call_in : List ℕ → Call
call_in s = call_of (fields_in s)

-- Clause 9.8: a refusal of a record is a line of its own and ends the listing. The state stays.
abbrev pub refusal_step : State → ℕ → Step
refusal_step st number = record { line = refusal_line number; state = st; ended = true }

-- Clauses 9.4, 9.7 and 9.8: the record at the start of the bytes s is a call, or it is refused. The digits of masks
-- come from a table of digit pairs.
unfoldable pub record_step : List ℕ → Board → State → List ℕ → Step
record_step pairs b st s =
    cond (eqb (record_fault s) 0) (call_step pairs b st (call_in s)) (refusal_step st (record_fault s))
