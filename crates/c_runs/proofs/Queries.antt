-- Clause 11.4: a query on the parts of a caller's memory that it is lent is the query on the board and the state there.
-- Assumes nothing.
use mathlib.Core.Path.{refl}
use Rattle.rules.specs.CountedRequests.{is_holding, is_entitled, is_waiting, cleaned}
use Rattle.queries.specs.Queries.{state_number}
use Rattle.c_runs.proofs.InPlace.{waits_in_place, reach_in_place, scratch_in_place, list_in_place, listed_in_place}
use Rattle.c_runs.specs.Memory.{Memory, board_held, state_held}
use Rattle.c_runs.specs.Queries.{QueriesOf}

-- The state of a processor does not depend on which entries are writes.
pub queries_from_c : (m : Memory) → QueriesOf m
unfolding is_holding is_entitled is_waiting cleaned state_number
queries_from_c m =
    record {
      state = λ p. refl;
      waits = waits_in_place (board_held m) (state_held m);
      reach = reach_in_place (board_held m) (state_held m);
      scratch = scratch_in_place (board_held m) (state_held m);
      list = list_in_place (board_held m) (state_held m);
      bytes = listed_in_place (board_held m) (state_held m);
      shared = λ i j. refl;
    }
