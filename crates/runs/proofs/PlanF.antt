-- Plan F's twelve calls: the answer to each in numbers, down to masks, late marks and the refusal. Assumes nothing.
use Prim.Native.Nat.{ℕ}
use mathlib.Core.Path.{◌≡◌, refl}
use mathlib.Core.List.{List, [], ◌∷◌, map}
use lib.ListN.{replicate}
use Rattle.masks.specs.Sets.{bit, some, mask_of}
use Rattle.plans.specs.declared.Entry.{Entry}
use Rattle.plans.specs.declared.Plan.{Plan}
use Rattle.plans.specs.Entries.{blank_entry}
use Rattle.conflicts.specs.Widening.{widen, widened_set}
use Rattle.conflicts.specs.Conflict.{shared, conflict, in_conflict, conflicts_of}
use Rattle.masks.specs.Tabulation.{tabulate}
use Rattle.rules.specs.declared.calls.Call.{Call}
use Rattle.rules.specs.Replies.{Response, refused_with}
use Rattle.rules.specs.Settling.{test1, step1, test2, step2, test3, step3, test4, step4, settled}
use Rattle.rules.specs.CountedRequests.{is_holding, is_entitled, is_waiting, cleaned}
use Rattle.rules.specs.Faults.{issue_fault, complete_fault}
use Rattle.rules.specs.Acts.{put_in, put_last, taken_out, stamped}
use Rattle.rules.specs.Calls.{put_state, taken_state, done, settled_done, issued, left, completed}
use Rattle.boards.specs.Fresh.{board_of, fresh_state}
use Rattle.runs.specs.Events.{Event, events}

unfoldable pub read : ℕ → ℕ → Entry
read names ticks = record { kind = 0; set = names; length = ticks }

unfoldable pub write : ℕ → ℕ → Entry
write names ticks = record { kind = 1; set = names; length = ticks }

-- Plan F: 4 processors, 3 resources, five entries.
unfoldable pub plan_f : Plan
plan_f =
    record {
      processors = 4;
      resources = 3;
      count = 5;
      entries = write 4 30 ∷ write 6 20 ∷ write 1 40 ∷ read 3 10 ∷ read 4 5 ∷ replicate 59 blank_entry;
    }

-- A call and its answer: one line of the listing.
line : Call → Response → Event
line c r = record { call = c; reply = r }

-- The granted mask, the entitled mask and late.
done_with : ℕ → ℕ → ℕ → Response
done_with granted entitled late = record { number = 0; granted = granted; entitled = entitled; late = late }

-- The twelve calls in the order of the listing. The tick of the eleventh is before the last accepted tick: refusal 10.
pub table : List Event
table =
    line (Call.Issue 0 0 0) (done_with 1 0 0)
    ∷ line (Call.Issue 1 1 1) (done_with 0 0 0)
    ∷ line (Call.Issue 2 2 2) (done_with 0 0 0)
    ∷ line (Call.Issue 3 3 3) (done_with 8 0 0)
    ∷ line (Call.Complete 3 13) (done_with 0 0 0)
    ∷ line (Call.Issue 3 4 14) (done_with 0 8 0)
    ∷ line (Call.Complete 0 30) (done_with 8 2 0)
    ∷ line (Call.Issue 0 3 31) (done_with 0 0 0)
    ∷ line (Call.Complete 3 35) (done_with 2 1 0)
    ∷ line (Call.Complete 1 56) (done_with 1 4 1)
    ∷ line (Call.Complete 0 50) (refused_with 10)
    ∷ line (Call.Complete 0 66) (done_with 4 0 0)
    ∷ []

-- The arbiter's answers to the twelve calls are those of the table.
pub twelve_calls : events (board_of plan_f) fresh_state (map (λ e. e.call) table) ≡ table
unfolding plan_f table read write line done_with bit some mask_of widen widened_set shared conflict in_conflict tabulate
    conflicts_of is_holding is_entitled is_waiting cleaned test1 step1 test2 step2 test3 step3 test4 step4 settled board_of
    issue_fault complete_fault put_in put_last taken_out stamped put_state taken_state done settled_done issued left completed
    events
twelve_calls = refl
