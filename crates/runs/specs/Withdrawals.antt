-- Withdrawn requests, stated for whole lists of calls. Specification, clause 6.3.
use Rattle.std.specs.Prelude.{ℕ, ◌<◌, ◌≡◌, List, ◌∷◌, ◌++◌, length}
use Rattle.plans.specs.declared.Plan.{Plan}
use Rattle.rules.specs.declared.calls.Call.{Call}
use Rattle.rules.specs.Calls.{answered}
use Rattle.boards.specs.Fresh.{board_of}
use Rattle.runs.specs.History.{never, at}
use Rattle.runs.specs.Claim.{history_of, request}
use Rattle.runs.specs.Freedom.{reached_by}

-- Clause 6.3: a request of processor q that has not ended is withdrawn by an accepted call. It ends there without a
-- grant, and no later call grants it: whatever calls follow, it never holds.
abbrev pub WithdrawnNeverHolds : Plan → List Call → ℕ → ℕ → List Call → Type 0
WithdrawnNeverHolds p before q t after =
    (i : ℕ) → i < length (history_of p before).requests → (request (history_of p before) i).processor ≡ q
    → (request (history_of p before) i).end ≡ never
    → (answered (board_of p) (reached_by p before) (Call.Withdraw q t)).reply.number ≡ 0
    → ((request (history_of p (before ++ Call.Withdraw q t ∷ after)) i).grant ≡ never)
    × ((request (history_of p (before ++ Call.Withdraw q t ∷ after)) i).end ≡ at t)
