-- The fresh arbiter of the plan in some bytes, in the caller's memory. Specification, sections 4 and 11.
use Rattle.std.specs.Prelude.{ℕ, cond, List, eqb}
use Rattle.plans.specs.Reading.{read_fault, plan_read}
use Rattle.rules.specs.declared.states.Board.{Board}
use Rattle.rules.specs.declared.states.State.{State}
use Rattle.boards.specs.Fresh.{fresh_board, fresh_state}

-- Clause 11.5: the version of the archive: 10000 × major + 100 × minor + patch.
abbrev pub version_number : ℕ
version_number = 30200

-- Clause 11.2: the board that is left: that of the plan, or the one before if the bytes are refused.
unfoldable pub board_after : List ℕ → Board → Board
board_after bytes before = cond (eqb (read_fault bytes) 0) (fresh_board (plan_read bytes)) before

-- Clauses 11.2 and 4.3: the state that is left: the fresh one, or the one before if the bytes are refused.
unfoldable pub state_after_plan : List ℕ → State → State
state_after_plan bytes before = cond (eqb (read_fault bytes) 0) fresh_state before
