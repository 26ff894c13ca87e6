-- What two entries share, as numbers for the caller. Specification, sections 7 and 11.
use Rattle.queries.specs.Contention.{SharedSaid}
use Rattle.c_queries.specs.declared.c_contention.CConflict.{CConflict}

-- Clauses 11.4, 7.10 and 3.4: the number of the refusal, 0 if there is none; 1 for a conflict, with the lowest shared
-- resource and how many resources are shared.
abbrev pub c_conflict_as_numbers : CConflict → SharedSaid
c_conflict_as_numbers t =
    record { number = t.refusal; conflict = record { number = t.conflict; lowest = t.lowest; count = t.count } }
