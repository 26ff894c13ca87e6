-- `accept` meets its contract, using the law of the masks and the ticks of grants. Assumes nothing.
use borrow.Author.Rules.{rules}
use Rattle.requests.proofs.grants.Done.{carried_done}
use Rattle.requests.proofs.grants.accept.Goals as goal

pub returns : goal.returns
returns c entry earlier =
    carried_done _ c.args.before c.args.after _ _ _ _ _ _ _
    (search rules) (search rules) (search rules) (search rules)
    c.without32-granted.ensures c.without32.ensures c.stamp.ensures
