-- The line that opens the listing of a log. Specification, section 9.
use Rattle.std.specs.Prelude.{ℕ, cond, List, Result, Ok, Err, eqb}
use Rattle.refusals.specs.declared.Refusal.{Refusal}
use Rattle.refusals.specs.Number.{number_of}
use Rattle.refusals.specs.Due.{AsNumbers}
use Rattle.rules.specs.declared.states.Board.{Board}
use Rattle.rules.specs.declared.states.State.{State}
use Rattle.boards.specs.Fresh.{blank_board, fresh_state}
use Rattle.plans.specs.Reading.{read_fault, plan_read}
use Rattle.listings.specs.PlainLines.{refusal_line}
use Rattle.listings.specs.Lines.{first_line}
use Rattle.replay.specs.declared.log_openings.Opened.{Opened}

-- Clauses 9.6 and 9.8: the first line if the plan is accepted, otherwise the line of its refusal.
abbrev pub opening_line : List ℕ → List ℕ
opening_line s = cond (eqb (read_fault s) 0) (first_line (plan_read s)) (refusal_line (read_fault s))

-- What a plan opens, in parts: how many bytes it took, or the number of its refusal; the board, which is blank for a
-- refusal; and the state.
abbrev pub opened_as_numbers : Result Opened Refusal → AsNumbers
opened_as_numbers (Ok opened) = record { number = 0; value = opened.bytes }
opened_as_numbers (Err r) = record { number = number_of r; value = 0 }

abbrev pub board_opened : Result Opened Refusal → Board
board_opened (Ok opened) = opened.board
board_opened (Err r) = blank_board

abbrev pub state_opened : Result Opened Refusal → State
state_opened (Ok opened) = opened.state
state_opened (Err r) = fresh_state
