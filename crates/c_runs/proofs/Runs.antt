-- Clause 11.6: every list of calls from C or Rust, on memory in which the fresh arbiter of a plan was stored, is a run.
-- Assumes nothing.
use Prim.Native.Nat.{ℕ}
use mathlib.Core.Path.{◌≡◌, refl, sym, ap, ap₂, ◌∙◌}
use mathlib.Core.List.{List, ◌∷◌}
use Rattle.plans.specs.Reading.{read_fault, plan_read}
use Rattle.plans.proofs.RoundTrip.{read_is_accepted}
use Rattle.rules.specs.declared.calls.Call.{Call}
use Rattle.rules.specs.Calls.{Answer, answered}
use Rattle.runs.proofs.InPlace.{in_place_is_by_value}
use Rattle.boards.specs.Fresh.{board_of, fresh_board, fresh_state}
use Rattle.c_boards.specs.declared.CAnswer.{CAnswer}
use Rattle.c_fresh.specs.Fresh.{board_after, state_after_plan}
use Rattle.c_calls.specs.declared.c_replies.CReply.{CReply}
use Rattle.c_calls.specs.Replies.{response}
use Rattle.runs.specs.Events.{Event, events, state_after}
use Rattle.runs.specs.History.{nothing, counted_in}
use Rattle.runs.specs.Claim.{history_of}
use Rattle.runs.proofs.refinement.WholeRuns.{whole_runs}
use Rattle.runs.proofs.Freedom.{no_deadlock}
use Rattle.c_runs.specs.Memory.{Memory, board_held, state_held, Stored, Answers, issues, completes}
use Rattle.c_runs.specs.Memory.{withdraws, hands_over, CallsFromC, none, next}
use Rattle.c_runs.specs.Claim.{IsRun}

-- ---- one call

board_stays : {m n : Memory} {c : Call} {r : CReply} → Answers m c r n → board_held n ≡ board_held m
board_stays (issues e) = refl
board_stays (completes e) = refl
board_stays (withdraws e) = refl
board_stays (hands_over e) = refl

-- The board that a call is lent has no names and no widened sets, and no call reads them.
is_answered : {m n : Memory} {c : Call} {r : CReply} → Answers m c r n
    → ◌≡◌ {A = Answer} (record { reply = response r; state = state_held n }) (answered (board_held m) (state_held m) c)
is_answered {m = m} (issues {p} {e} {t} said) =
    said ∙ in_place_is_by_value (board_held m) (state_held m) (Call.Issue p e t)
is_answered {m = m} (completes {p} {t} said) =
    said ∙ in_place_is_by_value (board_held m) (state_held m) (Call.Complete p t)
is_answered {m = m} (withdraws {p} {t} said) =
    said ∙ in_place_is_by_value (board_held m) (state_held m) (Call.Withdraw p t)
is_answered {m = m} (hands_over {p} {e} {t} said) =
    said ∙ in_place_is_by_value (board_held m) (state_held m) (Call.Handover p e t)

-- ---- all calls

replies_of_run : {m n : Memory} {calls : List Call} {told : List Event} → CallsFromC m calls told n
    → told ≡ events (board_held m) (state_held m) calls
unfolding events
replies_of_run none = refl
replies_of_run (next {c = c} {calls = calls} a later) =
    ap₂ ◌∷◌ (ap (λ (x : Answer). record { call = c; reply = x.reply }) (is_answered a))
    (replies_of_run later ∙ ap₂ (λ b s. events b s calls) (board_stays a) (ap (λ x. x.state) (is_answered a)))

state_of_run : {m n : Memory} {calls : List Call} {told : List Event} → CallsFromC m calls told n
    → state_held n ≡ state_after (board_held m) (state_held m) calls
unfolding state_after
state_of_run none = refl
state_of_run (next {calls = calls} a later) =
    state_of_run later ∙ ap₂ (λ b s. state_after b s calls) (board_stays a) (ap (λ x. x.state) (is_answered a))

board_of_run : {m n : Memory} {calls : List Call} {told : List Event} → CallsFromC m calls told n
    → board_held n ≡ board_held m
board_of_run none = refl
board_of_run (next a later) = board_of_run later ∙ board_stays a

-- ---- from the fresh arbiter

module _ (bytes : List ℕ) (before m : Memory) (answer : CAnswer) (stored : Stored bytes before answer m)
    (accepted : answer.refusal ≡ 0) where
  plan_read_law : read_fault bytes ≡ 0
  plan_read_law = sym (ap (λ x. x.number) stored.told) ∙ accepted

  fresh_board_law : board_held m ≡ board_of (plan_read bytes)
  unfolding board_after fresh_board
  fresh_board_law = stored.board ∙ rw (plan_read_law, read_is_accepted bytes plan_read_law)

  fresh_state_law : state_held m ≡ fresh_state
  unfolding state_after_plan
  fresh_state_law = stored.state ∙ rw plan_read_law

  replies_are : {calls : List Call} {told : List Event} {after : Memory} → CallsFromC m calls told after
      → told ≡ events (board_of (plan_read bytes)) fresh_state calls
  replies_are {calls = calls} run = replies_of_run run ∙ ap₂ (λ b s. events b s calls) fresh_board_law fresh_state_law

  pub run_from_c : (calls : List Call) (told : List Event) (after : Memory) → CallsFromC m calls told after
      → IsRun (plan_read bytes) calls told after
  unfolding history_of
  run_from_c calls told after run =
      record {
        replies = replies_are run;
        board = board_of_run run ∙ fresh_board_law;
        state = state_of_run run ∙ ap₂ (λ b s. state_after b s calls) fresh_board_law fresh_state_law;
        counted = ap (counted_in nothing) (sym (replies_are run));
        whole = whole_runs (plan_read bytes) (read_is_accepted bytes plan_read_law) calls;
        free = no_deadlock (plan_read bytes) (read_is_accepted bytes plan_read_law) calls;
      }
