-- `names_of` meets its contract: the closure gives the names of each entry. Assumes nothing.
use mathlib.Core.Path.{◌≡◌, refl, ◌∙◌}
use mathlib.Core.Bool.{cond}
use lib.Dec.{ltb}
use lib.ListN.{get_or}
use borrow.Author.Rules.{rules}
use Rattle.plans.specs.Entries.{max_entries, entry_at, blank_entry}
use Rattle.plans.specs.declared.Entry.{Entry}
use Rattle.conflicts.specs.Conflict.{conflicts_of}
use Rattle.masks.proofs.Made.{made_whole}
use Rattle.conflicts.proofs.WidenedSets.{counted_field}
use Rattle.conflicts.proofs.names_of.Goals as goal

pub returns : goal.returns
unfolding conflicts_of
returns c =
    let plan = c.args.plan in
    made_whole _ (λ p. (p.0.now ≡ plan.count) × (p.1.now ≡ plan.entries)) (λ j. (entry_at plan j).set)
    (λ p q i y kept called.
    let gives : y ≡ cond (ltb i p.0.now) (get_or p.1.now i blank_entry).set 0 = search (rules, called) in
    let same : q ≡ p = search (rules, called) in (
      gives ∙ rw (kept.0, kept.1) (counted_field plan i (λ (x : Entry). x.set) refl),
      rw same kept,
    ))
    _ _ max_entries (search rules) c.from_fn.ensures.items
