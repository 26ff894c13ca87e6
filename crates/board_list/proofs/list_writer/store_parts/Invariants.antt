-- `store_parts` meets its contract. The invariant: the parts of the processors so far are stored. Assumes nothing.
use mathlib.Core.Path.{◌≡◌}
use lib.ListN.{length}
use lib.Seq.{sets}
use Rattle.encoding.specs.InTurn.{in_turn}
use Rattle.board_list.specs.Listing.{part_shown}
use Rattle.board_list.proofs.list_writer.store_parts.Given as goal

abbrev pub invariant-loop-i : goal.invariant-loop-i
invariant-loop-i l =
    (length l.buffer ≡ length l.initial.buffer)
    × (l.buffer ≡ sets l.initial.buffer 1 (in_turn l.i (part_shown l.size l.columns)))
