-- `first_line` meets its contract: the numbers are the plan's. Assumes nothing.
use Rattle.plans.specs.Figures.{figures_of}
use Rattle.listings.specs.Lines.{first_line}
use Rattle.listings.proofs.first_line.Goals as goal

pub returns : goal.returns
unfolding first_line figures_of
returns c =
    record {
      outcome = rw c.figures_of-figures.ensures at c.numbers_line.ensures.outcome;
      bytes = rw c.figures_of-figures.ensures at c.numbers_line.ensures.bytes;
    }
