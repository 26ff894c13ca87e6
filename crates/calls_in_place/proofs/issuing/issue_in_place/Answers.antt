-- `issue_in_place` meets its contract, which follows from the contracts of its parts. Assumes nothing.
use mathlib.Core.Path.{◌∙◌}
use Rattle.calls_in_place.proofs.Verdicts.{issue_refused, issue_done}
use Rattle.calls_in_place.proofs.issuing.issue_in_place.Goals as goal

pub returns-in-Err-clause-answer : goal.returns-in-Err-clause-answer
returns-in-Err-clause-answer c =
    c.refused.ensures _ _ _
    ∙ issue_refused _ _ _ c.clean-before.ensures _ _ _ _ c.check_issue.ensures _ c.in-Err.is

pub returns-clause-answer : goal.returns-clause-answer
returns-clause-answer c =
    c.accepted.ensures _ _ _
    ∙ issue_done _ _ _ c.clean-before.ensures _ _ _ _ c.check_issue.ensures
    c.in_default.is _ _
    c.put_last.ensures c.enter-carried.ensures
