-- The effect of a request that entered or left at a tick, as numbers: the answer to an accepted call, with the arrays
-- after it. Specification, clauses 4.6 and 4.7.
use Rattle.std.specs.Prelude.{ℕ, List, Ok}
use Rattle.rules.specs.Replies.{reply_as_numbers}
use Rattle.rules.specs.Calls.{Answer}
use Rattle.rules.specs.InPlace.{state_by}
use Rattle.requests.specs.declared.effects.Effect.{Effect}

abbrev pub effect_as_numbers : Effect → ℕ → List ℕ → List ℕ → List ℕ → Answer
effect_as_numbers c tick requested since earlier =
    record {
      reply = reply_as_numbers (Ok c.done);
      state = state_by (record { last = tick; phases = c.phases }) requested since earlier;
    }
