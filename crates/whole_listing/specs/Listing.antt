-- The whole listing of a log's bytes. Specification, section 9.
use Rattle.std.specs.Prelude.{ℕ, zero, suc, cond, List, ◌++◌, eqb, drop}
use Rattle.plans.specs.Reading.{read_fault, read_as_numbers, plan_read}
use Rattle.rules.specs.declared.states.Board.{Board}
use Rattle.rules.specs.declared.states.State.{State}
use Rattle.rules.specs.Calls.{answered}
use Rattle.boards.specs.Fresh.{board_of, fresh_state}
use Rattle.logs.specs.Records.{count_size, record_size, read_count, record_fault, tail_fault}
use Rattle.listings.specs.PlainLines.{refusal_line}
use Rattle.listings.specs.Lines.{first_line, call_line}
use Rattle.replay.specs.Records.{call_in}
use Rattle.replay.specs.Ends.{fault_line}

-- Clauses 9.4 and 9.5: the lines of n calls in the bytes s. A record that is refused ends the listing, and the calls
-- before it stay carried out. After the last call, 2 for a tail.
unfoldable pub calls_listing : Board → State → ℕ → List ℕ → List ℕ
calls_listing b st zero s = fault_line (tail_fault s)
calls_listing b st (suc n) s =
    cond (eqb (record_fault s) 0)
    (call_line b.terms.processors (call_in s) (answered b st (call_in s)).reply
    ++ calls_listing b (answered b st (call_in s)).state n (drop record_size s))
    (refusal_line (record_fault s))

-- Clauses 9.1 and 9.4: the number of calls, and the calls; 1 if the number is not there.
abbrev pub counted_listing : Board → State → List ℕ → List ℕ
counted_listing b st s =
    cond (eqb (read_count s).number 0) (calls_listing b st (read_count s).value (drop count_size s))
    (refusal_line (read_count s).number)

-- Clauses 9.6 and 9.8: what `lockreplay` writes for the bytes of a log. The first line comes once the plan is accepted.
unfoldable pub listing_of : List ℕ → List ℕ
listing_of s =
    cond (eqb (read_fault s) 0)
    (first_line (plan_read s) ++ counted_listing (board_of (plan_read s)) fresh_state (drop (read_as_numbers s).value s))
    (refusal_line (read_fault s))
