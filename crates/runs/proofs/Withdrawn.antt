-- A request that is withdrawn, counted: the withdrawal is its end, it has waited up to there, and what its processor is
-- granted later does not belong to it. One run of plan F, request by request. Assumes nothing.
use Prim.Native.Nat.{ℕ}
use mathlib.Core.Path.{◌≡◌, refl}
use mathlib.Core.List.{List, [], ◌∷◌, map}
use Rattle.masks.specs.Sets.{bit, some, mask_of}
use Rattle.conflicts.specs.Widening.{widen, widened_set}
use Rattle.conflicts.specs.Conflict.{shared, conflict, in_conflict, conflicts_of}
use Rattle.masks.specs.Tabulation.{tabulate}
use Rattle.rules.specs.declared.calls.Call.{Call}
use Rattle.rules.specs.Settling.{test1, step1, test2, step2, test3, step3, test4, step4, settled}
use Rattle.rules.specs.CountedRequests.{is_holding, is_entitled, is_waiting, cleaned}
use Rattle.rules.specs.Faults.{issue_fault, complete_fault, withdraw_fault}
use Rattle.rules.specs.Acts.{put_in, put_last, taken_out, stamped}
use Rattle.rules.specs.Calls.{put_state, taken_state, done, settled_done, issued, left, completed, withdrawn}
use Rattle.boards.specs.Fresh.{board_of}
use Rattle.runs.specs.Events.{events}
use Rattle.runs.specs.History.{When, never, at, Request, all_acting, counted_in, wait_of}
use Rattle.runs.specs.Claim.{history_of}
use Rattle.runs.proofs.PlanF.{plan_f, read, write}

-- Processor 0 writes resource 2. Processor 1 asks to write it, leaves the queue, and asks to read it: it holds when
-- processor 0 completes.
unfoldable pub calls : List Call
calls =
    Call.Issue 0 0 0 ∷ Call.Issue 1 0 1 ∷ Call.Withdraw 1 5 ∷ Call.Issue 1 4 6 ∷ Call.Withdraw 0 7 ∷ Call.Complete 0 8
    ∷ []

-- A request of the history.
unfoldable pub counted : ℕ → ℕ → ℕ → When → When → Request
counted p e t granted ended = record { processor = p; entry = e; issued = t; grant = granted; end = ended }

pub withdrawn_request : history_of plan_f calls
    ≡ record {
      requests = counted 0 0 0 (at 0) (at 8) ∷ counted 1 0 1 never (at 5) ∷ counted 1 4 6 (at 8) never ∷ [];
      last = 8;
    }
unfolding plan_f read write calls counted bit some mask_of widen widened_set shared conflict in_conflict tabulate
    conflicts_of is_holding is_entitled is_waiting cleaned test1 step1 test2 step2 test3 step3 test4 step4 settled board_of
    issue_fault complete_fault withdraw_fault put_in put_last taken_out stamped put_state taken_state done settled_done issued
    left completed withdrawn events all_acting counted_in history_of
withdrawn_request = refl

-- The waits of the three requests: the withdrawn one waited from tick 1 to tick 5.
pub withdrawn_wait : map (wait_of 8) (counted 0 0 0 (at 0) (at 8) ∷ counted 1 0 1 never (at 5)
    ∷ counted 1 4 6 (at 8) never ∷ [])
    ≡ 0 ∷ 4 ∷ 2 ∷ []
unfolding counted
withdrawn_wait = refl
