-- Commands, and a write to any offset of a block, on a board and a state. Specification, section 10.
use Rattle.std.specs.Prelude.{ℕ, Result, Ok, Err, cond, eqb, ltb}
use Rattle.refusals.specs.declared.Refusal.{Refusal}
use Rattle.refusals.specs.Number.{number_of, verdict_number}
use Rattle.rules.specs.declared.states.Board.{Board}
use Rattle.rules.specs.declared.states.State.{State}
use Rattle.rules.specs.Calls.{Answer, answered}
use Rattle.registers.specs.declared.Block.{Block}
use Rattle.registers.specs.declared.Register.{Register}
use Rattle.registers.specs.Registers.{register_at}
use Rattle.registers.specs.Stores.{stored}
use Rattle.register_block.specs.Calls.{command_call}
use Rattle.register_block.specs.Registers.{replied_block}
use Rattle.register_block.specs.declared.commands.Change.{Change}
use Rattle.register_block.specs.declared.commands.Written.{Written}

-- What a write returns, 0 or 18, and the block and the state after it.
pub record WriteAnswer : Type 0 where
  pub number : ℕ
  pub block : Block
  pub state : State

abbrev pub unmoved : ℕ → Block → State → WriteAnswer
unmoved number block state = record { number = number; block = block; state = state }

-- Clauses 10.8 and 10.9: a command that the arbiter answers, whether it accepts or refuses it, is an accepted write.
abbrev pub carried_out : Block → Answer → WriteAnswer
carried_out block answer =
    record { number = 0; block = replied_block block.bytes answer.reply; state = answer.state }

-- Clause 10.7: writing a command: 0 changes nothing, and one above 4 is refused with 18.
unfoldable pub commanded : Board → State → Block → ℕ → WriteAnswer
commanded board state block command =
    cond (eqb command 0) (unmoved 0 block state)
    (cond (ltb 4 command) (unmoved 18 block state)
    (carried_out block (answered board state (command_call block.bytes command))))

-- Clauses 10.5 to 10.7: one case for each register. A refused write leaves block and state as they were.
abbrev pub written_to : Register → Board → State → Block → ℕ → ℕ → WriteAnswer
written_to Register.Command board state block offset value = commanded board state block value
written_to Register.Argument board state block offset value = unmoved 0 (stored block offset value) state
written_to Register.Answer board state block offset value = unmoved 18 block state
written_to Register.Pending board state block offset value = unmoved 0 (stored block offset value) state
written_to Register.Enabled board state block offset value = unmoved 0 (stored block offset value) state
written_to Register.Line board state block offset value = unmoved 18 block state
written_to Register.Unlisted board state block offset value = unmoved 18 block state

-- Clauses 10.5 to 10.7: writing a byte to an offset of a block.
unfoldable pub register_write : Board → State → Block → ℕ → ℕ → WriteAnswer
register_write board state block offset value = written_to (register_at offset) board state block offset value

-- Clause 10.10: what a write returns, with the block as it leaves it, in numbers.
abbrev pub written_as_numbers : Written → Block → WriteAnswer
written_as_numbers written block =
    record { number = verdict_number written.verdict; block = block; state = written.state }

-- The same for a write with the block by value: a refusal leaves the block and the state that it was given.
abbrev pub change_as_numbers : Result Change Refusal → Block → State → WriteAnswer
change_as_numbers (Ok change) block state = record { number = 0; block = change.block; state = change.state }
change_as_numbers (Err r) block state = record { number = number_of r; block = block; state = state }
