-- `first_in_queue` meets its contract: the test is made of each candidate. Assumes nothing.
use borrow.Author.Rules.{rules}
use Rattle.settling.proofs.conflict_walks.first_in_queue.Goals as goal

pub returns : goal.returns
returns c = c.those.ensures _ (λ p r l h e. search rules)
