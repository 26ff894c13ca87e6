-- A step of a replay: the line that it adds, and where it leaves the arbiter. Specification, sections 4 and 9.
use Rattle.std.specs.Prelude.{ℕ, Bool, false, List}
use Rattle.rules.specs.declared.calls.Call.{Call}
use Rattle.rules.specs.declared.states.Board.{Board}
use Rattle.rules.specs.declared.states.State.{State}
use Rattle.rules.specs.Calls.{answered}
use Rattle.rules.specs.declared.states.LentArrays.{LentArrays}
use Rattle.rules.specs.InPlace.{state_lent}
use Rattle.listings.specs.PlainLines.{line_as_numbers}
use Rattle.listings.specs.Lines.{call_line_by}
use Rattle.replay.specs.declared.carrying_out.Replayed.{Replayed}

-- The line of a step, the state after it, and whether it ends the replay.
pub record Step : Type 0 where
  pub line : List ℕ
  pub state : State
  pub ended : Bool

-- Clause 9.7: a call is carried out and gets its line, here with the digits of masks from a table of digit pairs. The
-- replay goes on, also after a call that is refused.
unfoldable pub call_step : List ℕ → Board → State → Call → Step
call_step pairs b st c =
    record {
      line = call_line_by pairs b.terms.processors c (answered b st c).reply;
      state = (answered b st c).state;
      ended = false;
    }

-- What a step returns: the state after it, how many bytes its line took, and whether it ends the replay.
pub record Stands : Type 0 where
  pub state : State
  pub written : ℕ
  pub ended : Bool

-- The line is written into a buffer of `size` bytes, from the position `at`. It takes no bytes if there is no room for
-- it.
unfoldable pub stands : Step → ℕ → ℕ → Stands
stands step size at =
    record { state = step.state; written = (line_as_numbers step.line size at).value; ended = step.ended }

-- The same for what a function returns, with the lent arrays as it leaves them.
abbrev pub replayed_lent : Replayed → LentArrays → Stands
replayed_lent r arrays = record { state = state_lent r.moment arrays; written = r.written; ended = r.ended }
