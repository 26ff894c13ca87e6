-- `handover_in_place` meets its contract, which follows from the contracts of its parts: the first half is the
-- completion, and the second half is the issue on the state that the completion left. That issue is not refused.
-- Assumes nothing.
use mathlib.Core.Path.{◌∙◌}
use Rattle.calls_in_place.proofs.Verdicts.{handover_refused, handover_counted, handover_done}
use Rattle.calls_in_place.proofs.handing_over.handover_in_place.Goals as goal

pub returns-in-Err-clause-answer : goal.returns-in-Err-clause-answer
returns-in-Err-clause-answer c =
    c.refused.ensures _ _ _
    ∙ handover_refused _ _ _ c.clean-before.ensures _ _ _ _ c.check_handover.ensures _ c.in-Err.is

pub bounds-arrays-processor : goal.bounds-arrays-processor
bounds-arrays-processor c = handover_counted _ _ _ _ _ _ c.in_default.is _ c.check_handover.ensures

pub bounds-arrays-processor-2 : goal.bounds-arrays-processor-2
bounds-arrays-processor-2 c = handover_counted _ _ _ _ _ _ c.in_default.is _ c.check_handover.ensures

pub returns-clause-answer : goal.returns-clause-answer
returns-clause-answer c =
    c.accepted.ensures _ _ _
    ∙ handover_done _ _ _ c.clean-before.ensures _ _ _ _ c.check_handover.ensures
    c.in_default.is _ _
    c.length_at-length.ensures c.late_mark-late.ensures _ c.leave-first.ensures _
    c.clean-ready.ensures _
    c.put_last.ensures _ c.enter-second.ensures _ (c.merge.ensures _ _ _ _ _ _ _)
