-- `put_last` meets its contract: no set contains the new request's place, and its own set contains the active
-- processors. Assumes nothing.
use mathlib.Core.Path.{◌∙◌}
use borrow.Author.Rules.{rules}
use Rattle.requests.proofs.ages.Ages.{any_put}
use Rattle.requests.proofs.ages.put_last.Goals as goal

pub returns : goal.returns
returns c =
    c.store.ensures
    ∙ any_put _ _ c.args.phases _ _ c.all_but.ensures c.keep_each.ensures (search rules) (search rules) (search rules)
