-- `complete_in_place` meets its contract, which follows from the contracts of its parts. Assumes nothing.
use mathlib.Core.Path.{◌∙◌}
use Rattle.calls_in_place.proofs.Verdicts.{complete_refused, complete_counted, complete_done}
use Rattle.calls_in_place.proofs.completing.complete_in_place.Goals as goal

pub returns-in-Err : goal.returns-in-Err
returns-in-Err c =
    c.refused.ensures _ _ _
    ∙ complete_refused _ _ _ c.clean-before.ensures _ _ _ c.check_complete.ensures _ c.in-Err.is

pub bounds-requested-processor : goal.bounds-requested-processor
bounds-requested-processor c = complete_counted _ _ _ _ _ _ c.in_default.is c.check_complete.ensures

pub bounds-since-processor : goal.bounds-since-processor
bounds-since-processor c = complete_counted _ _ _ _ _ _ c.in_default.is c.check_complete.ensures

pub returns : goal.returns
returns c =
    c.accepted.ensures _ _ _
    ∙ complete_done _ _ _ c.clean-before.ensures _ _ _ c.check_complete.ensures c.in_default.is _ _ _
    c.length_at-length.ensures c.late_mark-late.ensures c.leave.ensures
