-- `replay::run_records` meets its contract. The invariant: the records that are left still give the whole block.
-- Assumes nothing.
use mathlib.Core.Bool.{false}
use Rattle.rules.specs.InPlace.{board_lent, state_lent, SameArrays}
use Rattle.replay.specs.Blocks.{ran}
use Rattle.replay.proofs.Blocks.{Leaves}
use Rattle.replay.proofs.run_records.Given as goal

abbrev pub invariant-loop-calls : goal.invariant-loop-calls
invariant-loop-calls l =
    record {
      same : SameArrays l.initial.arrays l.arrays;
      leaves :
          Leaves (ran (board_lent l.board) (state_lent l.initial.moment l.initial.arrays) l.due l.bytes)
          (board_lent l.board) l.due l.bytes l.initial.out (state_lent l.moment l.arrays) l.calls l.written false l.out;
    }
