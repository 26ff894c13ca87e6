-- `each_below` meets its contract: the test is made of each processor's entry. Assumes nothing.
use borrow.Author.Rules.{rules}
use Rattle.settling.proofs.known_requests.each_below.Goals as goal

pub returns : goal.returns
returns c = c.those.ensures _ (λ p r l h e. search rules)
