-- From C or Rust, a run is a run. Specification, section 11.
use Rattle.std.specs.Prelude.{◌≡◌, List}
use Rattle.plans.specs.declared.Plan.{Plan}
use Rattle.rules.specs.declared.calls.Call.{Call}
use Rattle.boards.specs.Fresh.{board_of, fresh_state}
use Rattle.runs.specs.Events.{Event, events, state_after}
use Rattle.runs.specs.History.{nothing, counted_in}
use Rattle.runs.specs.Claim.{history_of, WholeRuns}
use Rattle.runs.specs.Freedom.{NoDeadlock}
use Rattle.c_runs.specs.Memory.{Memory, board_held, state_held}

-- Clauses 11.6 and 6.1: the replies that were returned to the calls, and the memory after them, are those of the run:
-- the board is the plan's, and the state is the one that the run leaves. So demand 3 and freedom from deadlock hold;
-- what demand 3 counts (6.2) is counted from these very replies.
pub record IsRun (p : Plan) (calls : List Call) (told : List Event) (after : Memory) : Type 0 where
  pub replies : told ≡ events (board_of p) fresh_state calls
  pub board : board_held after ≡ board_of p
  pub state : state_held after ≡ state_after (board_of p) fresh_state calls
  pub counted : history_of p calls ≡ counted_in nothing told
  pub whole : WholeRuns p calls
  pub free : NoDeadlock p calls
