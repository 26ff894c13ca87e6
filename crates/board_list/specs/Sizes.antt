-- How long the list of the whole board is. Specification, section 7.
use Rattle.std.specs.Prelude.{ℕ, ◌+◌, ◌*◌, min}
use Rattle.plans.specs.Entries.{max_processors}

-- Clauses 7.7 and 4.10: how many processors are listed: those of the plan, but no more than a state has places for.
abbrev pub listed_of : ℕ → ℕ
listed_of processors = min max_processors processors

-- Clause 7.7: how many bytes a part takes, and how many the list takes.
abbrev pub part_size : ℕ → ℕ
part_size k = 6 + k

abbrev pub list_size : ℕ → ℕ → ℕ
list_size k m = 1 + part_size k * m
