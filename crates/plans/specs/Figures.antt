-- The longest lengths and the two figures of a plan. Specification, clauses 1.7 and 6.7.
use Rattle.std.specs.Prelude.{ℕ, ◌+◌, ◌-◌, ◌*◌, max, Bool, cond, List, [], ◌∷◌}
use Rattle.plans.specs.Entries.{is_read, is_write, counted_entries}
use Rattle.plans.specs.declared.Entry.{Entry}
use Rattle.plans.specs.declared.Plan.{Plan}
use Rattle.plans.specs.declared.Figures.{Figures}

-- The longest length of the entries that pass the test, or 0 if there is none.
unfoldable pub longest : (Entry → Bool) → List Entry → ℕ
longest test [] = 0
longest test (e ∷ later) = max (cond (test e) e.length 0) (longest test later)

-- Clause 1.7: Lr, over the counted reads.
abbrev pub longest_read : Plan → ℕ
longest_read p = longest is_read (counted_entries p)

-- Clause 1.7: Lw, over the counted writes.
abbrev pub longest_write : Plan → ℕ
longest_write p = longest is_write (counted_entries p)

-- Clause 6.7: the read figure.
abbrev pub read_figure : Plan → ℕ
read_figure p = longest_read p + longest_write p

-- Clause 6.7: the write figure, one read figure for each processor but one.
abbrev pub write_figure : Plan → ℕ
write_figure p = (p.processors - 1) * read_figure p

-- Both lengths and both figures, of any plan value.
unfoldable pub figures_of : Plan → Figures
figures_of p =
    record {
      longest_read = longest_read p;
      longest_write = longest_write p;
      read = read_figure p;
      write = write_figure p;
    }
