-- `all_rows` meets its contract: the closure gives the row of each entry. Assumes nothing.
use mathlib.Core.Path.{◌≡◌}
use borrow.Author.Rules.{rules}
use Rattle.masks.specs.Sets.{mask_of}
use Rattle.plans.specs.Entries.{max_entries}
use Rattle.conflicts.specs.Conflict.{conflicts_of, in_conflict}
use Rattle.masks.proofs.Made.{made_whole}
use Rattle.conflicts.proofs.all_rows.Goals as goal

pub returns : goal.returns
unfolding conflicts_of
returns c =
    made_whole _ (λ p. p.0.now ≡ c.args.plan) (λ k. mask_of max_entries (in_conflict c.args.plan k))
    (λ p q i y kept called.
    let gives : y ≡ mask_of max_entries (in_conflict p.0.now i) = search (rules, called) in
    let same : q ≡ p = search (rules, called) in
    (rw (← kept) gives, rw same kept))
    _ _ max_entries (search rules) c.from_fn.ensures.items
