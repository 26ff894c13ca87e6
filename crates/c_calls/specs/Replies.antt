-- What a call from C or Rust returns, and what it leaves in the caller's memory. Specification, sections 4 and 11.
use Rattle.std.specs.Prelude.{ℕ, List, Result, Ok, Err}
use Rattle.refusals.specs.declared.Refusal.{Refusal}
use Rattle.rules.specs.declared.calls.Done.{Done}
use Rattle.rules.specs.Replies.{Response}
use Rattle.rules.specs.declared.states.Moment.{Moment}
use Rattle.rules.specs.Calls.{Answer}
use Rattle.rules.specs.InPlace.{state_by}
use Rattle.c_boards.specs.Parts.{moment_by}
use Rattle.c_calls.specs.declared.c_replies.CReply.{CReply}

-- Clauses 11.3, 4.7 and 4.9: the reply's four numbers.
abbrev pub response : CReply → Response
response r = record { number = r.refusal; granted = r.granted; entitled = r.entitled; late = r.late }

-- Clauses 11.3 and 4.6: the moment that is left: the one after the call if it was carried out, and the one before if it
-- was refused.
abbrev pub moment_left : Result Done Refusal → Moment → Moment → Moment
moment_left (Ok d) after before = after
moment_left (Err r) after before = before

-- Clause 11.3: the answer: what the call returns, with the caller's memory as it leaves it.
abbrev pub answer_in : CReply → ℕ → List ℕ → List ℕ → List ℕ → List ℕ → Answer
answer_in r last phases entry since earlier =
    record { reply = response r; state = state_by (moment_by last phases) entry since earlier }
