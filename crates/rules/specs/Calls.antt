-- Issue, complete, withdraw and hand over on whole states. Specification, section 4.
use Rattle.std.specs.Prelude.{ℕ, ◌-◌, cond, ◌&&◌, ◌||◌, eqb, ltb, get_or, set}
use Rattle.masks.specs.Sets.{bit, mask_of}
use Rattle.plans.specs.Entries.{max_processors}
use Rattle.rules.specs.declared.calls.Call.{Call}
use Rattle.rules.specs.Replies.{Response, refused_with}
use Rattle.rules.specs.declared.states.Phases.{Phases}
use Rattle.rules.specs.Requests.{Facts, facts_by}
use Rattle.rules.specs.Settling.{settled}
use Rattle.rules.specs.declared.states.Board.{Board}
use Rattle.rules.specs.declared.states.State.{State}
use Rattle.rules.specs.CountedRequests.{cleaned}
use Rattle.rules.specs.Faults.{issue_fault, complete_fault, withdraw_fault, handover_fault}
use Rattle.rules.specs.Acts.{put_in, put_last, taken_out, began, became, stamped}

-- What settling uses from a board and a state.
abbrev pub facts_of : Board → State → Facts
facts_of b s = facts_by b.rows b.terms.writes s.requested s.earlier

-- Clause 4.10: the phases of the requests that count.
abbrev pub phases_of : Board → State → Phases
phases_of b s = cleaned b.terms s.requested s.phases

-- Clause 4.4: the state, with only the requests that count, after processor p's request for entry e enters at tick t.
unfoldable pub put_state : Board → State → ℕ → ℕ → ℕ → State
put_state b s p e t =
    record {
      last = t;
      phases = put_in (phases_of b s) p;
      since = set s.since p t;
      earlier = put_last s.earlier (phases_of b s) p;
      requested = set s.requested p e;
    }

-- Clause 4.4: the state, with only the requests that count, after processor p's request leaves at tick t.
unfoldable pub taken_state : Board → State → ℕ → ℕ → State
taken_state b s p t =
    record {
      last = t;
      phases = taken_out (phases_of b s) p;
      since = s.since;
      earlier = s.earlier;
      requested = s.requested;
    }

-- The answer to a call, in numbers, and the state after it.
pub record Answer : Type 0 where
  pub reply : Response
  pub state : State

-- Clauses 4.6 and 4.7: the answer to an accepted call, and the state after it. In the state x the request has entered
-- or left, and `after` are the phases after settling. The masks contain who holds or is entitled in `after` but was not
-- in x.
unfoldable pub done : State → Phases → ℕ → Answer
done x after late =
    record {
      reply =
          record {
            number = 0;
            granted = mask_of max_processors (began x.phases after);
            entitled = mask_of max_processors (became x.phases after);
            late = late;
          };
      state =
          record {
            last = x.last;
            phases = after;
            since = stamped x.since x.phases after x.last;
            earlier = x.earlier;
            requested = x.requested;
          };
    }

-- Clauses 4.6 and 4.9: a refused call returns only its number, and the state does not change.
abbrev pub ruled : ℕ → State → Answer → Answer
ruled number s accepted = cond (eqb number 0) accepted (record { reply = refused_with number; state = s })

-- Clauses 4.6 and 5.2: in the state x the request has entered or left. Then all requests are settled.
unfoldable pub settled_done : Board → State → ℕ → Answer
settled_done b x late = done x (settled (facts_of b x) x.phases) late

-- Clause 4.4: issue: processor p requests entry e at tick t. An issue is never late.
unfoldable pub issued : Board → State → ℕ → ℕ → ℕ → Answer
issued b s p e t =
    ruled (issue_fault b.terms s.last (phases_of b s) p e t) s (settled_done b (put_state b s p e t) 0)

-- Clauses 4.8 and 4.10: late is 1 if the hold was longer than its entry's length. A hold that would run backwards
-- lasted 0.
abbrev pub late_mark : Board → State → ℕ → ℕ → ℕ
late_mark b s p t = cond (ltb (get_or b.lengths (get_or s.requested p 0) 0) (t - get_or s.since p 0)) 1 0

-- Clauses 4.4 and 4.6: processor p's request leaves at tick t, unless a number is due.
unfoldable pub left : Board → State → ℕ → ℕ → ℕ → ℕ → Answer
left b s p t number late = ruled number s (settled_done b (taken_state b s p t) late)

-- Clause 4.4: complete: processor p ends its hold at tick t.
unfoldable pub completed : Board → State → ℕ → ℕ → Answer
completed b s p t = left b s p t (complete_fault b.terms s.last (phases_of b s) p t) (late_mark b s p t)

-- Clauses 4.4 and 4.8: withdraw: processor p leaves the queue at tick t. It held nothing, so it is never late.
unfoldable pub withdrawn : Board → State → ℕ → ℕ → Answer
withdrawn b s p t = left b s p t (withdraw_fault b.terms s.last (phases_of b s) p t) 0

-- Clause 4.7: the answer to a handover's two halves, the completion first: who began to hold in either half; who became
-- entitled in either half and still is after both; the completion's late mark; and the state after both.
unfoldable pub both : Answer → Answer → Answer
both first second =
    record {
      reply =
          record {
            number = 0;
            granted = mask_of max_processors (λ q. bit first.reply.granted q || bit second.reply.granted q);
            entitled =
                mask_of max_processors
                (λ q.
                (bit first.reply.entitled q || bit second.reply.entitled q)
                && bit second.state.phases.entitled q);
            late = first.reply.late;
          };
      state = second.state;
    }

-- Clause 4.4: hand over: processor p ends its hold and requests entry e at the same tick t, as a completion and then an
-- issue would. All requests are settled after each half.
unfoldable pub handed_over : Board → State → ℕ → ℕ → ℕ → Answer
handed_over b s p e t =
    ruled (handover_fault b.terms s.last (phases_of b s) p e t) s
    (both (completed b s p t) (issued b (completed b s p t).state p e t))

-- The answer to any call.
abbrev pub answered : Board → State → Call → Answer
answered b s (Call.Issue p e t) = issued b s p e t
answered b s (Call.Complete p t) = completed b s p t
answered b s (Call.Withdraw p t) = withdrawn b s p t
answered b s (Call.Handover p e t) = handed_over b s p e t
