-- `list_board_in_place` meets its contract: it makes the list from the phases that count and the direct waits of all
-- processors. Assumes nothing.
use mathlib.Core.Path.{◌∙◌}
use mathlib.Core.List.{[]}
use Rattle.rules.specs.InPlace.{board_by, state_by}
use Rattle.queries.proofs.Answers.{rows_counted}
use Rattle.queries.proofs.WholeBoard.{board_found}
use Rattle.queries.proofs.board_queries.list_board_in_place.Goals as goal

pub returns-clause-bytes : goal.returns-clause-bytes
returns-clause-bytes c =
    let a = c.args in
    let f = a.facts in
    let b = board_by f.terms f.rows.now [] in
    let s = state_by a.moment f.requested.now a.since.now f.earlier.now in
    let counted = c.clean-phases.ensures in
    c.write.ensures.bytes
    ∙ board_found b s _ _ counted (rows_counted b s _ counted _ c.waits_of_all.ensures) a.buffer.now
