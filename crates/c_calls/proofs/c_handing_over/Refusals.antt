-- A handover that is refused leaves the state as it was. Assumes nothing.
use Prim.Native.Nat.{ℕ}
use mathlib.Core.Path.{refl}
use Rattle.rules.specs.Calls.{phases_of, issued, completed, both, handed_over}
use Rattle.rules.specs.declared.states.Board.{Board}
use Rattle.rules.specs.declared.states.State.{State}
use Rattle.rules.specs.Faults.{handover_fault}
use Rattle.c_calls.proofs.c_replies.Memory.{Stays, ruled_stays}

pub handover_stays : (b : Board) (s : State) (p e t : ℕ) → Stays (handed_over b s p e t) s
unfolding handed_over both
handover_stays b s p e t =
    ruled_stays (handover_fault b.terms s.last (phases_of b s) p e t) s
    (both (completed b s p t) (issued b (completed b s p t).state p e t)) refl
