-- What the viewer's functions return for the plan in some bytes. Specification, clause 7.6.
use Rattle.std.specs.Prelude.{ℕ, List}
use Rattle.refusals.specs.Due.{as_numbers}
use Rattle.plans.specs.Figures.{read_figure, write_figure}
use Rattle.plans.specs.Reading.{read_fault, plan_read}

-- Clause 7.6: the refusal number, or 0 if the plan is accepted.
abbrev pub plan_refusal : List ℕ → ℕ
plan_refusal s = read_fault s

-- Clause 7.6: the read figure, or 0 for a refused plan. That of an accepted plan is never 0.
unfoldable pub plan_read_figure : List ℕ → ℕ
plan_read_figure s = (as_numbers (read_fault s) (read_figure (plan_read s))).value

-- Clause 7.6: the write figure, or 0 for a refused plan. That of an accepted plan is 0 too if it has one processor.
unfoldable pub plan_write_figure : List ℕ → ℕ
plan_write_figure s = (as_numbers (read_fault s) (write_figure (plan_read s))).value
