-- Whole runs: lists of calls, and what the arbiter answers to them. Specification, section 6.
use Rattle.std.specs.Prelude.{List, [], ◌∷◌}
use Rattle.rules.specs.declared.calls.Call.{Call}
use Rattle.rules.specs.Replies.{Response}
use Rattle.rules.specs.declared.states.Board.{Board}
use Rattle.rules.specs.declared.states.State.{State}
use Rattle.rules.specs.Calls.{answered}

-- A call with its answer.
pub record Event : Type 0 where
  pub call : Call
  pub reply : Response

-- Clause 6.1: each call gets the state that the call before it left. The answers are those of `answered`, the same
-- definition that the contracts of the arbiter use.
unfoldable pub events : Board → State → List Call → List Event
events b s [] = []
events b s (c ∷ later) = record { call = c; reply = (answered b s c).reply } ∷ events b (answered b s c).state later

-- Clause 6.1: the state that the calls leave.
unfoldable pub state_after : Board → State → List Call → State
state_after b s [] = s
state_after b s (c ∷ later) = state_after b (answered b s c).state later
