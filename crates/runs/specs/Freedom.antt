-- Freedom from deadlock, stated for whole lists of calls. Specification, clause 6.10.
use Rattle.std.specs.Prelude.{ℕ, ◌≡◌, Bool, true, List}
use Rattle.plans.specs.declared.Plan.{Plan}
use Rattle.rules.specs.declared.states.Board.{Board}
use Rattle.rules.specs.declared.states.State.{State}
use Rattle.rules.specs.declared.calls.Call.{Call}
use Rattle.rules.specs.Requests.{unsatisfied}
use Rattle.rules.specs.CountedRequests.{is_holding}
use Rattle.rules.specs.Calls.{phases_of}
use Rattle.boards.specs.Fresh.{board_of, fresh_state}
use Rattle.runs.specs.Events.{state_after}
use Rattle.queries.specs.Queries.{Chain}

-- Clause 6.1: the state that calls to the fresh arbiter lead to. The theorem requires that the plan is accepted.
abbrev pub reached_by : Plan → List Call → State
reached_by p calls = state_after (board_of p) fresh_state calls

-- The request of processor p counts and holds.
abbrev pub holds_in : Board → State → ℕ → Bool
holds_in b s p = is_holding b.terms s.requested s.phases p

-- Clause 6.10: after any calls, no chain of direct waits leads from a processor back to itself; and from each processor
-- whose request is unsatisfied, a chain leads to one that holds, and so can complete.
pub record NoDeadlock (p : Plan) (calls : List Call) : Type 0 where
  pub nobody_reaches_itself : (q : ℕ) → Chain (board_of p) (reached_by p calls) q q → ⊥
  pub whoever_waits_reaches_a_holder : (q : ℕ) → unsatisfied (phases_of (board_of p) (reached_by p calls)) q ≡ true
      → (h : ℕ) × Chain (board_of p) (reached_by p calls) q h × (holds_in (board_of p) (reached_by p calls) h ≡ true)
