-- Bytes written after other bytes, and the parts of a board that records read. Assumes nothing.
use Prim.Native.Nat.{ℕ, zero, suc, ◌+◌, ◌≤◌}
use mathlib.Core.Path.{◌≡◌, refl}
use mathlib.Core.List.{List, ◌++◌, append_assoc}
use native.Mathlib.Nat.{add_assoc}
use native.Mathlib.Omega.{arith}
use lib.ListN.{length, take, drop, length-append}
use lib.Seq.{length-take-le, take_at, drop_at, drop-drop}
use Rattle.encoding.specs.Buffers.{overwritten}
use Rattle.rules.specs.declared.states.Board.{Board}
use Rattle.rules.specs.declared.states.State.{State}
use Rattle.rules.specs.Calls.{answered}
use Rattle.rules.specs.InPlace.{board_by}
use Rattle.calls_in_place.proofs.Verdicts.{call_reads}
use Rattle.logs.specs.Records.{record_size}
use Rattle.replay.specs.Records.{call_in}
use Rattle.replay.specs.Blocks.{ran}

-- Writing some bytes and then some more, from a position, is writing all of them.
pub over_over : (x : List ℕ) (at : ℕ) (l m : List ℕ) → at + length l ≤ length x
    → overwritten (overwritten x at l) (at + length l) m ≡ overwritten x at (l ++ m)
over_over x at l m h =
    let inside : at ≤ length x = omega arith in
    let size : length (take at x ++ l) ≡ at + length l = simp (length-append, length-take-le at x inside) in
    rw (
      ← append_assoc (take at x) l (drop (at + length l) x),
      take_at (take at x ++ l) (drop (at + length l) x) (at + length l) size,
      ← drop-drop (length m) (at + length l) ((take at x ++ l) ++ drop (at + length l) x),
      drop_at (take at x ++ l) (drop (at + length l) x) (at + length l) size,
      drop-drop (length m) (at + length l) x,
    )
    (simp (append_assoc, length-append, add_assoc))

-- Records read only those parts of a board that a call reads.
pub ran_reads : (b : Board) (k : ℕ) (st : State) (s : List ℕ) → ran (board_by b.terms b.rows b.lengths) st k s
    ≡ ran b st k s
unfolding ran
ran_reads b zero st s = refl
ran_reads b (suc k) st s =
    rw (call_reads b st (call_in s), ran_reads b k (answered b st (call_in s)).state (drop record_size s)) refl
