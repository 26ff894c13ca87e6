-- The answers of the queries of one processor, in numbers. Specification, section 7.
use Rattle.std.specs.Prelude.{Result, Ok, Err}
use Rattle.refusals.specs.declared.Refusal.{Refusal}
use Rattle.refusals.specs.Number.{number_of}
use Rattle.refusals.specs.Due.{AsNumbers}
use Rattle.board_list.specs.declared.phases.Phase.{Phase}
use Rattle.board_list.specs.Fields.{phase_number}

-- The answer to a query for a state in numbers. For a mask it is `outcome_as_numbers` of the crate `encoding`.
abbrev pub phase_as_numbers : Result Phase Refusal → AsNumbers
phase_as_numbers (Ok ph) = record { number = 0; value = phase_number ph }
phase_as_numbers (Err r) = record { number = number_of r; value = 0 }
