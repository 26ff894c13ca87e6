-- `settle_new` meets its contract: on an idle board using the law of a request alone, and otherwise using its parts.
-- Assumes nothing.
use native.Mathlib.Omega.{arith}
use borrow.Author.Rules.{rules}
use Rattle.rules.specs.InPlace.{facts_lent}
use Rattle.requests.proofs.placing.PutIn.{idle_holds}
use Rattle.requests.proofs.placing.settle_new.Goals as goal

pub returns-then-facts-processor-eq0 : goal.returns-then-facts-processor-eq0
returns-then-facts-processor-eq0 c =
    idle_holds c.args.phases _ (omega (arith, c.if-processor-lt-MAX_PROCESSORS.true))
    (search rules) (search rules) (search rules)
    (facts_lent c.args.facts) _ c.if-phases-eq0.true
    c.if-facts-processor-eq0.true c.with.ensures
