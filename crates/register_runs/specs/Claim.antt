-- What holds after any run of reads, writes and direct calls from a block of zeros. Specification, section 10.
use Rattle.std.specs.Prelude.{ℕ, ◌<◌, ◌≡◌, true, false, List, ◌∷◌, ◌++◌, length, get_or}
use Rattle.masks.specs.Sets.{bit}
use Rattle.plans.specs.declared.Plan.{Plan}
use Rattle.rules.specs.declared.states.Board.{Board}
use Rattle.boards.specs.Fresh.{board_of, fresh_state}
use Rattle.registers.specs.Registers.{pending_in, line_of}
use Rattle.runs.specs.Events.{events, state_after}
use Rattle.runs.specs.Claim.{WholeRuns}
use Rattle.register_runs.specs.Steps.{Step, fresh_device, after, grants, clears, unanswered, calls_of}
use Rattle.register_runs.specs.Steps.{seen_of}

-- The bytes of the block after a run.
abbrev pub bytes_after : Board → List Step → List ℕ
bytes_after b steps = (after b fresh_device steps).block.bytes

-- Clause 10.12: a processor's bit is pending exactly if a command granted the processor and no 1 has been written to
-- the bit since.
abbrev pub PendingAreGrants : Board → List Step → Type 0
PendingAreGrants b steps =
    (p : ℕ) → p < 32 → bit (pending_in (bytes_after b steps)) p ≡ unanswered b fresh_device false steps p

-- Clause 10.12: whatever comes before and after a command that grants a processor, the processor's bit is pending as
-- long as none of the later steps writes a 1 to it.
abbrev pub GrantStays : Board → List Step → Step → List Step → Type 0
GrantStays b before command later =
    (p : ℕ) → p < 32 → grants b (after b fresh_device before) command p ≡ true
    → ((i : ℕ) → i < length later → clears (get_or later i command) p ≡ false)
    → bit (pending_in (bytes_after b (before ++ command ∷ later))) p ≡ true

-- Clause 10.13: byte 28 is the interrupt line: 1 if some bit is both pending and enabled, otherwise 0.
abbrev pub LineIsRight : Board → List Step → Type 0
LineIsRight b steps = get_or (bytes_after b steps) 28 0 ≡ line_of (bytes_after b steps)

-- Clause 10.14: the commands and the direct calls are a list of calls to the arbiter: the replies that the registers
-- show, and the state, are those of the list.
pub record CallsOfRun (b : Board) (steps : List Step) : Type 0 where
  pub replies : seen_of b fresh_device steps ≡ events b fresh_state (calls_of b fresh_device steps)
  pub state : (after b fresh_device steps).state ≡ state_after b fresh_state (calls_of b fresh_device steps)

-- Clauses 10.12 to 10.14: all of it, for the arbiter of a plan, with demand 3 for the list of calls.
pub record RegisterRuns (p : Plan) (steps : List Step) : Type 0 where
  pub pending : PendingAreGrants (board_of p) steps
  pub line : LineIsRight (board_of p) steps
  pub calls : CallsOfRun (board_of p) steps
  pub whole : WholeRuns p (calls_of (board_of p) fresh_device steps)
