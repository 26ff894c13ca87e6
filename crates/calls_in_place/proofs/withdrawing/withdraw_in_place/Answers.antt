-- `withdraw_in_place` meets its contract, which follows from the contracts of its parts. Assumes nothing.
use mathlib.Core.Path.{◌∙◌}
use Rattle.calls_in_place.proofs.Verdicts.{withdraw_refused, withdraw_done}
use Rattle.calls_in_place.proofs.withdrawing.withdraw_in_place.Goals as goal

pub returns-in-Err : goal.returns-in-Err
returns-in-Err c =
    c.refused.ensures _ _ _
    ∙ withdraw_refused _ _ _ c.clean-before.ensures _ _ _ c.check_withdraw.ensures _ c.in-Err.is

pub returns : goal.returns
returns c =
    c.accepted.ensures _ _ _
    ∙ withdraw_done _ _ _ c.clean-before.ensures _ _ _ c.check_withdraw.ensures c.in_default.is _ c.leave.ensures
