-- `put_in` meets its contract: the new request is among those that wait. Assumes nothing.
use borrow.Author.Rules.{rules}
use Rattle.requests.proofs.placing.PutIn.{new_waits}
use Rattle.requests.proofs.placing.put_in.Goals as goal

pub returns : goal.returns
returns c = new_waits c.args.phases _ (search rules) _ c.with.ensures
