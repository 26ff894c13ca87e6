-- An issue, a completion or a withdrawal that is refused leaves the state as it was. Assumes nothing.
use Prim.Native.Nat.{ℕ}
use mathlib.Core.Path.{refl}
use Rattle.rules.specs.Calls.{phases_of, put_state, taken_state, done, settled_done, late_mark, issued, left, completed}
use Rattle.rules.specs.Calls.{withdrawn}
use Rattle.rules.specs.declared.states.Board.{Board}
use Rattle.rules.specs.declared.states.State.{State}
use Rattle.rules.specs.Faults.{issue_fault, complete_fault, withdraw_fault}
use Rattle.c_calls.proofs.c_replies.Memory.{Stays, ruled_stays}

pub issue_stays : (b : Board) (s : State) (p e t : ℕ) → Stays (issued b s p e t) s
unfolding issued settled_done done
issue_stays b s p e t =
    ruled_stays (issue_fault b.terms s.last (phases_of b s) p e t) s (settled_done b (put_state b s p e t) 0) refl

left_stays : (b : Board) (s : State) (p t n late : ℕ) → Stays (left b s p t n late) s
unfolding left settled_done done
left_stays b s p t n late = ruled_stays n s (settled_done b (taken_state b s p t) late) refl

pub complete_stays : (b : Board) (s : State) (p t : ℕ) → Stays (completed b s p t) s
unfolding completed
complete_stays b s p t = left_stays b s p t (complete_fault b.terms s.last (phases_of b s) p t) (late_mark b s p t)

pub withdraw_stays : (b : Board) (s : State) (p t : ℕ) → Stays (withdrawn b s p t) s
unfolding withdrawn
withdraw_stays b s p t = left_stays b s p t (withdraw_fault b.terms s.last (phases_of b s) p t) 0
