-- The queries on the parts of a caller's memory that they are lent. Specification, sections 7 and 11.
use Rattle.std.specs.Prelude.{ℕ, ◌≡◌, List, []}
use Rattle.rules.specs.declared.states.Board.{Board}
use Rattle.rules.specs.declared.states.State.{State}
use Rattle.rules.specs.InPlace.{board_by}
use Rattle.queries.specs.Parts.{board_with, state_with}
use Rattle.queries.specs.Queries.{phase_query, waits_query, reach_query, reach_scratch}
use Rattle.queries.specs.WholeBoard.{board_query, board_buffer}
use Rattle.queries.specs.Contention.{shared_of, shared_query}
use Rattle.c_boards.specs.Parts.{terms_by, phases_by}
use Rattle.c_runs.specs.Memory.{Memory, board_held, state_held}

-- Clause 11.4: the board and the state with the parts that direct waits and reach are lent.
abbrev pub board_asked : Memory → Board
board_asked m = board_with (terms_by m.processors m.entries m.writes) m.rows

abbrev pub state_asked : Memory → State
state_asked m = state_with m.requested m.earlier (phases_by m.phases)

-- Clause 11.4: what each function for a query promises about the parts that it is lent is what section 7 says of the
-- board and the state in the memory. On the left are the promises of `bittmelon_state_parts`, `bittmelon_waits_parts`,
-- `bittmelon_reach_parts`, `bittmelon_list_parts` and `bittmelon_shared_parts`.
pub record QueriesOf (m : Memory) : Type 0 where
  pub state : (p : ℕ)
      → phase_query (board_with (terms_by m.processors m.entries 0) [])
      (state_with m.requested [] (phases_by m.phases)) p
      ≡ phase_query (board_held m) (state_held m) p
  pub waits : (p : ℕ) → waits_query (board_asked m) (state_asked m) p ≡ waits_query (board_held m) (state_held m) p
  pub reach : (p : ℕ) (scratch : List ℕ)
      → reach_query (board_asked m) (state_asked m) p scratch ≡ reach_query (board_held m) (state_held m) p scratch
  pub scratch : (p : ℕ) (scratch : List ℕ)
      → reach_scratch (board_asked m) (state_asked m) p scratch ≡ reach_scratch (board_held m) (state_held m) p scratch
  pub list : (buffer : List ℕ)
      → board_query (board_by (terms_by m.processors m.entries m.writes) m.rows []) buffer
      ≡ board_query (board_held m) buffer
  pub bytes : (buffer : List ℕ)
      → board_buffer (board_by (terms_by m.processors m.entries m.writes) m.rows []) (state_held m) buffer
      ≡ board_buffer (board_held m) (state_held m) buffer
  pub shared : (i j : ℕ)
      → shared_of (terms_by m.processors m.entries m.writes) m.names m.widened i j
      ≡ shared_query (board_held m) i j
