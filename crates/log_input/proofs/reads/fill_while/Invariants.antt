-- `reads::fill_while` meets its contract, and it ends: each read but the last adds a byte. Assumes nothing.
use Prim.Native.Nat.{◌≤◌, ◌-◌}
use mathlib.Core.Path.{◌≡◌}
use mathlib.Core.Bool.{Bool, false}
use lib.ListN.{length, take}
use Rattle.std.specs.Fn.{FnReturnsAt}
use Rattle.log_input.proofs.reads.fill_while.Given as goal

-- The last part: if the bytes at hand ask for no more, there is no turn.
abbrev pub invariant-loop-have : goal.invariant-loop-have
invariant-loop-have g l =
    (l.have ≤ length l.buffer) × ((l.first ≤ l.have)
    × ((length l.buffer ≡ length l.initial.buffer) × ((take l.first l.buffer ≡ take l.first l.initial.buffer)
    × (((more : Bool) → FnReturnsAt g.F.Fn l.waits (take l.first l.initial.buffer) more → more ≡ false)
    → (l.buffer ≡ l.initial.buffer) × (l.have ≡ l.first)))))

abbrev pub decreases-loop-have : goal.decreases-loop-have
decreases-loop-have g l = length l.buffer - l.have
