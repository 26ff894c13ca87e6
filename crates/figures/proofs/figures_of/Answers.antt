-- `figures_of` meets its contract: the two longest are those of the counted entries. Assumes nothing.
use borrow.Author.Rules.{rules}
use Rattle.plans.specs.Entries.{is_read, is_write}
use Rattle.plans.specs.Figures.{figures_of}
use Rattle.figures.proofs.figures_of.Goals as goal

pub returns : goal.returns
unfolding figures_of
returns c =
    rw (
      c.longest_of-longest_read.ensures.is is_read (λ e r called. search (rules, called)),
      c.longest_of-longest_write.ensures.is is_write (λ e r called. search (rules, called)),
      c.counted_entries-entries.ensures.are,
      c.saturating_sub-others.ensures,
    )
