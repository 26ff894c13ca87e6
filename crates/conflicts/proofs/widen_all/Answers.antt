-- `widen_all` meets its contract: the closure gives the widened set of each entry. Assumes nothing.
use mathlib.Core.Path.{◌≡◌}
use borrow.Author.Rules.{rules}
use Rattle.plans.specs.Entries.{max_entries}
use Rattle.conflicts.specs.Conflict.{conflicts_of}
use Rattle.masks.proofs.Made.{made_whole}
use Rattle.conflicts.proofs.WidenedSets.{widened_at}
use Rattle.conflicts.proofs.widen_all.Goals as goal

pub returns : goal.returns
unfolding conflicts_of
returns c =
    made_whole _ (λ p. p.0.now ≡ c.args.plan) (widened_at c.args.plan)
    (λ p q i y kept called.
    let gives : y ≡ widened_at p.0.now i = search (rules, called) in
    let same : q ≡ p = search (rules, called) in
    (rw (← kept) gives, rw same kept))
    _ _ max_entries (search rules) c.from_fn.ensures.items
