-- `settle_left` meets its contract: if nobody is unsatisfied, settling changes nothing. Assumes nothing.
use borrow.Author.Rules.{rules}
use Rattle.requests.proofs.placing.PutIn.{quiet_same}
use Rattle.requests.proofs.placing.settle_left.Goals as goal

pub returns-then-phases-eq0 : goal.returns-then-phases-eq0
returns-then-phases-eq0 c = quiet_same _ _ (search rules) (search rules) (search rules) c.if-phases-eq0.true
