-- Which fields of a record give a call, and which are refused with 9. Specification, section 9.
use Rattle.std.specs.Prelude.{ℕ, cond, ◌&&◌, ◌||◌, Result, Ok, Err, eqb}
use Rattle.refusals.specs.declared.Refusal.{Refusal}
use Rattle.refusals.specs.Number.{number_of}
use Rattle.refusals.specs.Due.{due}
use Rattle.rules.specs.declared.calls.Call.{Call}
use Rattle.rules.specs.CallNumbers.{Fields, call_as_numbers}

-- Clause 9.3: 9 for a verb above 3, or a completion or a withdrawal with an entry.
abbrev pub verb_fault : Fields → ℕ
verb_fault f =
    due
    (eqb f.verb 0
    || ((eqb f.verb 1 && eqb f.entry 0) || ((eqb f.verb 2 && eqb f.entry 0) || eqb f.verb 3)))
    9

-- A record as numbers: the number that is due, and the call's fields, which are all 0 if it is refused.
pub record Recorded : Type 0 where
  pub number : ℕ
  pub fields : Fields

abbrev pub no_fields : Fields
no_fields = record { verb = 0; processor = 0; entry = 0; tick = 0 }

-- The number that is due, and the fields if that number is 0.
abbrev pub record_due : ℕ → Fields → Recorded
record_due n f = record { number = n; fields = cond (eqb n 0) f no_fields }

abbrev pub record_as_numbers : Result Call Refusal → Recorded
record_as_numbers (Ok c) = record { number = 0; fields = call_as_numbers c }
record_as_numbers (Err r) = record { number = number_of r; fields = no_fields }

-- Clause 9.3: the record that these fields give.
abbrev pub recorded : Fields → Recorded
recorded f = record_due (verb_fault f) f
