-- Two handovers, counted: the old request ends and the new one is issued at one tick, and a request that waited is
-- granted in between. One run of plan F, answer by answer and request by request. Assumes nothing.
use Prim.Native.Nat.{ℕ}
use mathlib.Core.Path.{◌≡◌, refl}
use mathlib.Core.List.{List, [], ◌∷◌, map}
use Rattle.masks.specs.Sets.{bit, some, mask_of}
use Rattle.conflicts.specs.Widening.{widen, widened_set}
use Rattle.conflicts.specs.Conflict.{shared, conflict, in_conflict, conflicts_of}
use Rattle.masks.specs.Tabulation.{tabulate}
use Rattle.rules.specs.declared.calls.Call.{Call}
use Rattle.rules.specs.Replies.{Response}
use Rattle.rules.specs.Settling.{test1, step1, test2, step2, test3, step3, test4, step4, settled}
use Rattle.rules.specs.CountedRequests.{is_holding, is_entitled, is_waiting, cleaned}
use Rattle.rules.specs.Faults.{issue_fault, complete_fault, handover_fault}
use Rattle.rules.specs.Acts.{put_in, put_last, taken_out, stamped}
use Rattle.rules.specs.Calls.{put_state, taken_state, done, settled_done, issued, left, completed, both, handed_over}
use Rattle.boards.specs.Fresh.{board_of, fresh_state}
use Rattle.runs.specs.Events.{events}
use Rattle.runs.specs.History.{never, at, all_acting, counted_in}
use Rattle.runs.specs.Claim.{history_of}
use Rattle.runs.proofs.PlanF.{plan_f, read, write}
use Rattle.runs.proofs.Withdrawn.{counted}

-- A write of resource 2 holds on processor 0, and another waits on processor 1. Processor 0 hands over to a read of
-- resource 2: processor 1 holds, and the read is entitled behind it. When 1 completes, the read holds, and 0 hands over
-- to a write of resource 0, which is free.
unfoldable pub calls : List Call
calls =
    Call.Issue 0 0 0 ∷ Call.Issue 1 0 1 ∷ Call.Handover 0 4 5 ∷ Call.Complete 1 12 ∷ Call.Handover 0 2 18 ∷ []

-- The granted mask, the entitled mask and late. The second handover is late: the read held for 6 ticks, and its length
-- is 5.
unfoldable pub answer : ℕ → ℕ → ℕ → Response
answer granted entitled late = record { number = 0; granted = granted; entitled = entitled; late = late }

pub handover_answers : map (λ e. e.reply) (events (board_of plan_f) fresh_state calls)
    ≡ answer 1 0 0 ∷ answer 0 0 0 ∷ answer 2 1 0 ∷ answer 1 0 0 ∷ answer 1 0 1 ∷ []
unfolding plan_f read write calls answer bit some mask_of widen widened_set shared conflict in_conflict tabulate conflicts_of
    is_holding is_entitled is_waiting cleaned test1 step1 test2 step2 test3 step3 test4 step4 settled board_of issue_fault
    complete_fault handover_fault put_in put_last taken_out stamped put_state taken_state done settled_done issued left
    completed both handed_over events
handover_answers = refl

pub handed_over_requests : history_of plan_f calls
    ≡ record {
      requests =
          counted 0 0 0 (at 0) (at 5)
          ∷ counted 1 0 1 (at 5) (at 12)
          ∷ counted 0 4 5 (at 12) (at 18)
          ∷ counted 0 2 18 (at 18) never
          ∷ [];
      last = 18;
    }
unfolding plan_f read write calls counted bit some mask_of widen widened_set shared conflict in_conflict tabulate
    conflicts_of is_holding is_entitled is_waiting cleaned test1 step1 test2 step2 test3 step3 test4 step4 settled board_of
    issue_fault complete_fault handover_fault put_in put_last taken_out stamped put_state taken_state done settled_done issued
    left completed both handed_over events all_acting counted_in history_of
handed_over_requests = refl
