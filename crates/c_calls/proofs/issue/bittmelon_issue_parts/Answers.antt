-- `bittmelon_issue_parts` meets its contract: it issues in place and returns the reply in numbers; the moment is stored
-- if the call was carried out. Assumes nothing.
use borrow.Author.Rules.{rules}
use Rattle.rules.specs.Calls.{issued}
use Rattle.rules.specs.InPlace.{board_by, state_by}
use Rattle.c_boards.specs.Parts.{terms_by, moment_by}
use Rattle.c_calls.proofs.c_replies.Memory.{answered, from_memory}
use Rattle.c_calls.proofs.Refusals.{issue_stays}
use Rattle.c_calls.proofs.issue.bittmelon_issue_parts.Goals as goal

pub returns : goal.returns
returns c =
    let a = c.args in
    let b = board_by (terms_by a.processors a.entries a.writes) a.rows.now a.lengths.now in
    let s = state_by (moment_by a.last.now a.phases.now) a.requested.now a.since.now a.earlier.now in
    let same = c.issue_in_place-changed.ensures.same in
    let done =
    from_memory (λ s. issued b s a.processor a.entry a.tick) _ _ _ a.requested.now a.since.now
    a.earlier.now _ c.moment_of-moment.ensures
    (rw c.terms_of.ensures at c.issue_in_place-changed.ensures.answer) in
    answered _ s (issue_stays b s a.processor a.entry a.tick) _ c.issue_in_place-changed.result _ _ _ _ _
    c.store_and_reply.ensures.told c.store_and_reply.ensures.moment (search (rules, done))
