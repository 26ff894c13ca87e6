-- The lines that the bytes of a log decide while more of them may come. Specification, section 9.
use Rattle.std.specs.Prelude.{ℕ, zero, suc, ◌≡◌, cond, List, [], ◌++◌, eqb, leb, length, drop}
use Rattle.plans.specs.Reading.{read_fault, read_as_numbers, plan_read}
use Rattle.rules.specs.declared.states.Board.{Board}
use Rattle.rules.specs.declared.states.State.{State}
use Rattle.rules.specs.Calls.{answered}
use Rattle.boards.specs.Fresh.{board_of, fresh_state}
use Rattle.logs.specs.Records.{count_size, record_size, read_count, record_fault, tail_fault}
use Rattle.listings.specs.PlainLines.{refusal_line}
use Rattle.listings.specs.Lines.{first_line, call_line}
use Rattle.log_input.specs.Stages.{is_short}
use Rattle.replay.specs.Records.{call_in}
use Rattle.replay.specs.Ends.{fault_line}

-- The bytes `whole` begin with the bytes `front`.
pub record Begins (whole front : List ℕ) : Type 0 where
  pub rest : List ℕ
  pub is : whole ≡ front ++ rest

-- Clause 9.10: of n calls, the lines of those whose records are there, and then nothing; 9 for a faulty record that is
-- there, and 2 for a byte after the last call.
unfoldable pub calls_so_far : Board → State → ℕ → List ℕ → List ℕ
calls_so_far b st zero s = fault_line (tail_fault s)
calls_so_far b st (suc n) s =
    cond (leb record_size (length s))
    (cond (eqb (record_fault s) 0)
    (call_line b.terms.processors (call_in s) (answered b st (call_in s)).reply
    ++ calls_so_far b (answered b st (call_in s)).state n (drop record_size s))
    (refusal_line (record_fault s)))
    []

-- Clause 9.10: the calls, once their number is there.
abbrev pub counted_so_far : Board → State → List ℕ → List ℕ
counted_so_far b st s =
    cond (leb count_size (length s)) (calls_so_far b st (read_count s).value (drop count_size s)) []

-- Clause 9.10: nothing while the plan is short; otherwise its refusal, or the first line and the calls so far.
unfoldable pub listing_so_far : List ℕ → List ℕ
listing_so_far s =
    cond (is_short s) []
    (cond (eqb (read_fault s) 0)
    (first_line (plan_read s) ++ counted_so_far (board_of (plan_read s)) fresh_state (drop (read_as_numbers s).value s))
    (refusal_line (read_fault s)))
