-- A write is defined once, `register_write`: `register_block::write_register` promises it on the lent parts of a board,
-- and the runs of steps use it on the board. Both are the same, since no call reads names or a widened set. Assumes
-- nothing.
use Prim.Native.Nat.{ℕ}
use mathlib.Core.Path.{◌≡◌, refl, ap}
use mathlib.Core.Bool.{cond}
use lib.Dec.{eqb, ltb}
use Rattle.rules.specs.declared.states.Board.{Board}
use Rattle.rules.specs.declared.states.State.{State}
use Rattle.rules.specs.InPlace.{board_by}
use Rattle.runs.proofs.InPlace.{in_place_is_by_value}
use Rattle.registers.specs.declared.Block.{Block}
use Rattle.registers.specs.declared.Register.{Register}
use Rattle.registers.specs.Registers.{register_at}
use Rattle.register_block.specs.Calls.{command_call}
use Rattle.register_block.specs.Commands.{unmoved, carried_out, commanded, written_to, register_write}

module _ (b : Board) (s : State) (block : Block) (offset value : ℕ) where
  abbrev lent : Board
  lent = board_by b.terms b.rows b.lengths

  same_command : commanded lent s block value ≡ commanded b s block value
  unfolding commanded
  same_command =
      ap
      (λ a. cond (eqb value 0) (unmoved 0 block s) (cond (ltb 4 value) (unmoved 18 block s) (carried_out block a)))
      (in_place_is_by_value b s (command_call block.bytes value))

  same_written : (r : Register) → written_to r lent s block offset value ≡ written_to r b s block offset value
  same_written Register.Command = same_command
  same_written Register.Argument = refl
  same_written Register.Answer = refl
  same_written Register.Pending = refl
  same_written Register.Enabled = refl
  same_written Register.Line = refl
  same_written Register.Unlisted = refl

  pub lent_write_is_write : register_write lent s block offset value ≡ register_write b s block offset value
  unfolding register_write
  lent_write_is_write = same_written (register_at offset)
