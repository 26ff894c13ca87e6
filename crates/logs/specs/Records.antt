-- The content of a log after its plan, and when it is refused: with 1, 2 or 9. Specification, section 9.
use Rattle.std.specs.Prelude.{ℕ, List, Result, Ok, Err, eqb, length, get_or, take}
use Rattle.std.proofs.Math.Seq.{slice}
use Rattle.refusals.specs.declared.Refusal.{Refusal}
use Rattle.refusals.specs.Number.{number_of}
use Rattle.refusals.specs.Due.{AsNumbers, due, first_of, as_numbers}
use Rattle.encoding.specs.Numbers.{number}
use Rattle.encoding.specs.Buffers.{short_fault}
use Rattle.rules.specs.CallNumbers.{Fields}
use Rattle.logs.specs.Verbs.{Recorded, record_due, verb_fault}

-- Clauses 9.1 and 9.2: how many bytes the number of calls takes, and how many a call takes.
abbrev pub count_size : ℕ
count_size = 2

abbrev pub record_size : ℕ
record_size = 8

-- How many calls follow, as numbers.
abbrev pub count_as_numbers : Result ℕ Refusal → AsNumbers
count_as_numbers (Ok n) = record { number = 0; value = n }
count_as_numbers (Err r) = record { number = number_of r; value = 0 }

-- Clauses 9.1 and 9.4: the number of calls, at the start of the bytes after the plan; 1 if there are too few bytes.
abbrev pub read_count : List ℕ → AsNumbers
read_count s = as_numbers (short_fault count_size s) (number (take count_size s))

-- Clause 9.2: the fields of the record at the start of the bytes s. Its tick is in the last five bytes.
unfoldable pub fields_in : List ℕ → Fields
fields_in s =
    record { verb = get_or s 0 0; processor = get_or s 1 0; entry = get_or s 2 0; tick = number (slice 3 record_size s) }

-- Clauses 9.4 and 8.2: the record's bytes are due (1) before its verb is checked.
unfoldable pub record_fault : List ℕ → ℕ
record_fault s = first_of (short_fault record_size s) (verb_fault (fields_in s))

-- A call's record at the start of the bytes s.
unfoldable pub read_record : List ℕ → Recorded
read_record s = record_due (record_fault s) (fields_in s)

-- Clause 9.5: 2 if there are bytes after the last call.
abbrev pub tail_fault : List ℕ → ℕ
tail_fault s = due (eqb (length s) 0) 2
