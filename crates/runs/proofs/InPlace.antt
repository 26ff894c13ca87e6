-- A call on the lent parts of a board and a state answers what the call on the board and the state answers: no call
-- reads names or a widened set. Assumes nothing.
use mathlib.Core.Path.{◌≡◌, refl}
use Rattle.rules.specs.declared.calls.Call.{Call}
use Rattle.rules.specs.declared.states.Board.{Board}
use Rattle.rules.specs.declared.states.State.{State}
use Rattle.rules.specs.Calls.{put_state, taken_state, settled_done, issued, left, completed, withdrawn, both}
use Rattle.rules.specs.Calls.{handed_over, answered}
use Rattle.rules.specs.InPlace.{board_by, state_by}

pub in_place_is_by_value : (b : Board) (s : State) (c : Call)
    → answered (board_by b.terms b.rows b.lengths)
    (state_by (record { last = s.last; phases = s.phases }) s.requested s.since s.earlier) c
    ≡ answered b s c
unfolding put_state taken_state settled_done issued left completed withdrawn both handed_over
in_place_is_by_value b s (Call.Issue p e t) = refl
in_place_is_by_value b s (Call.Complete p t) = refl
in_place_is_by_value b s (Call.Withdraw p t) = refl
in_place_is_by_value b s (Call.Handover p e t) = refl
