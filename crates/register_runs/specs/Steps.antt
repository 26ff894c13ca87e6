-- Runs of steps on a register block and its arbiter. Specification, section 10.
use Rattle.std.specs.Prelude.{ℕ, ◌+◌, ◌/◌, ◌%◌, Bool, false, cond, not, ◌&&◌, ◌||◌, List, [], ◌∷◌, ◌++◌, eqb, ltb, leb, replicate}
use Rattle.masks.specs.Sets.{bit}
use Rattle.rules.specs.declared.calls.Call.{Call}
use Rattle.rules.specs.Replies.{Response, refused_with}
use Rattle.rules.specs.declared.states.Board.{Board}
use Rattle.rules.specs.declared.states.State.{State}
use Rattle.rules.specs.Calls.{answered}
use Rattle.boards.specs.Fresh.{fresh_state}
use Rattle.registers.specs.declared.Block.{Block}
use Rattle.registers.specs.Registers.{refusal_in, late_in, granted_in, entitled_in}
use Rattle.register_block.specs.Calls.{command_call}
use Rattle.register_block.specs.Commands.{register_write}
use Rattle.runs.specs.Events.{Event}

-- Clause 10.11: a step is a read, a write, or a direct call of the arbiter on the same state.
pub data Step : Type 0 where
  reads : (offset : ℕ) → Step
  writes : (offset value : ℕ) → Step
  calls : Call → Step

-- The block, and the state of its arbiter.
pub record Device : Type 0 where
  pub block : Block
  pub state : State

-- Clauses 10.1 and 4.3: at first every register is 0 and the arbiter is fresh.
abbrev pub fresh_device : Device
fresh_device = record { block = record { bytes = replicate 32 0 }; state = fresh_state }

-- Clause 10.11: what a step leaves. A read changes nothing; a direct call changes the state alone.
abbrev pub stepped : Board → Device → Step → Device
stepped b d (reads offset) = d
stepped b d (writes offset value) =
    record {
      block = (register_write b d.state d.block offset value).block;
      state = (register_write b d.state d.block offset value).state;
    }
stepped b d (calls c) = record { block = d.block; state = (answered b d.state c).state }

-- Clause 10.11: what a run of steps leaves.
unfoldable pub after : Board → Device → List Step → Device
after b d [] = d
after b d (s ∷ later) = after b (stepped b d s) later

-- Clause 10.7: the write is a command that the arbiter answers.
abbrev pub carries : ℕ → ℕ → Bool
carries offset value = eqb offset 0 && (ltb 0 value && leb value 4)

-- Clause 10.12: the step is a command that grants processor p. A refused command grants nobody.
abbrev pub grants : Board → Device → Step → ℕ → Bool
grants b d (reads offset) p = false
grants b d (writes offset value) p =
    carries offset value && bit (answered b d.state (command_call d.block.bytes value)).reply.granted p
grants b d (calls c) p = false

-- Clause 10.12: the step writes a 1 to processor p's pending bit, which is bit p % 8 of offset 20 + p / 8.
abbrev pub clears : Step → ℕ → Bool
clears (reads offset) p = false
clears (writes offset value) p = eqb offset (20 + p / 8) && bit value (p % 8)
clears (calls c) p = false

-- Clause 10.12: a command has granted processor p, and no 1 has been written to its bit since. `was` says whether this
-- was true before the run.
unfoldable pub unanswered : Board → Device → Bool → List Step → ℕ → Bool
unanswered b d was [] p = was
unanswered b d was (s ∷ later) p =
    unanswered b (stepped b d s) ((was || grants b d s p) && not (clears s p)) later p

-- Clause 10.14: the calls that a step makes to the arbiter.
abbrev pub calls_in : Device → Step → List Call
calls_in d (reads offset) = []
calls_in d (writes offset value) = cond (carries offset value) (command_call d.block.bytes value ∷ []) []
calls_in d (calls c) = c ∷ []

unfoldable pub calls_of : Board → Device → List Step → List Call
calls_of b d [] = []
calls_of b d (s ∷ later) = calls_in d s ++ calls_of b (stepped b d s) later

-- Clause 10.14: the reply to the last command, as a driver reads it from the registers.
abbrev pub reply_in : List ℕ → Response
reply_in bytes =
    cond (eqb (refusal_in bytes) 0)
    (record { number = 0; granted = granted_in bytes; entitled = entitled_in bytes; late = late_in bytes })
    (refused_with (refusal_in bytes))

-- Clause 10.14: the calls of a step with their replies: for a command the reply in the registers after the step, for a
-- direct call its answer.
abbrev pub seen_in : Board → Device → Step → List Event
seen_in b d (reads offset) = []
seen_in b d (writes offset value) =
    cond (carries offset value)
    (record {
      call = command_call d.block.bytes value;
      reply = reply_in (stepped b d (writes offset value)).block.bytes;
    } ∷ [])
    []
seen_in b d (calls c) = record { call = c; reply = (answered b d.state c).reply } ∷ []

unfoldable pub seen_of : Board → Device → List Step → List Event
seen_of b d [] = []
seen_of b d (s ∷ later) = seen_in b d s ++ seen_of b (stepped b d s) later
