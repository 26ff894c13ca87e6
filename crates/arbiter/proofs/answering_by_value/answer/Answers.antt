-- `answer` meets its contract: it makes the call on the parts of a board. Assumes nothing.
use mathlib.Core.Path.{◌∙◌}
use Rattle.calls_in_place.proofs.Verdicts.{call_reads}
use Rattle.arbiter.proofs.answering_by_value.answer.Goals as goal

pub returns : goal.returns
returns c =
    let a = c.args in
    let lent = c.lend-lent.ensures in
    c.answer_on.ensures ∙ rw (lent.terms, lent.rows, lent.lengths) (call_reads a.board a.state a.call)
