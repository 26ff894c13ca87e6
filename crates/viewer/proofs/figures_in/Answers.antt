-- `figures_in` meets its contract. Assumes nothing.
use Rattle.plans.specs.Figures.{figures_of}
use Rattle.viewer.specs.Viewer.{plan_read_figure, plan_write_figure}
use Rattle.viewer.proofs.Answers.{is_figure, no_figure}
use Rattle.viewer.proofs.figures_in.Goals as goal

pub returns-in-Ok : goal.returns-in-Ok
unfolding plan_read_figure plan_write_figure figures_of
returns-in-Ok c =
    let read = c.read.ensures in
    record {
      read = is_figure _ _ read.outcome _ c.in-Ok.is read.plan (λ f. f.read) _ c.figures_of.ensures;
      write = is_figure _ _ read.outcome _ c.in-Ok.is read.plan (λ f. f.write) _ c.figures_of.ensures;
    }

pub returns-in-Err : goal.returns-in-Err
unfolding plan_read_figure plan_write_figure
returns-in-Err c = record {
  read = no_figure _ _ c.read.ensures.outcome _ c.in-Err.is _;
  write = no_figure _ _ c.read.ensures.outcome _ c.in-Err.is _;
}
