-- `known_among` meets its contract: the test is made of each processor's entry. Assumes nothing.
use borrow.Author.Rules.{rules}
use Rattle.rules.proofs.Known.{known_kept}
use Rattle.settling.proofs.conflict_walks.known_among.Goals as goal

pub returns : goal.returns
returns c =
    let kept = c.those.ensures _ (λ p r l h e. search rules) in
    record { those = kept; known = known_kept _ c.requires kept }
