-- Bytes in a lent buffer, and when there are too few of them: refusals 1 and 16. Specification, sections 2 and 8.
use Rattle.std.specs.Prelude.{Result, Ok, Err}
use Rattle.refusals.specs.declared.Refusal.{Refusal}
use Rattle.std.specs.Prelude.{ℕ, ◌+◌, ◌-◌, Bool, cond, ◌&&◌, List, ◌++◌, eqb, leb, length, take, drop}
use Rattle.refusals.specs.Number.{number_of}
use Rattle.refusals.specs.Due.{AsNumbers, due}

-- Clauses 2.9 and 8.1: 1 if the bytes s end before the n bytes that are due.
abbrev pub short_fault : ℕ → List ℕ → ℕ
short_fault n s = due (leb n (length s)) 1

-- Clause 2.12: a buffer of size bytes has room if the position is in it or at its end, and it has the needed bytes from
-- there on.
abbrev pub has_room : ℕ → ℕ → ℕ → Bool
has_room needed size at = leb at size && leb needed (size - at)

-- Clause 8.1: 16 if there is no room.
abbrev pub room_fault : ℕ → ℕ → ℕ → ℕ
room_fault needed size at = due (has_room needed size at) 16

-- Clause 2.12: the buffer with these bytes from a position on; all others stay.
abbrev pub overwritten : List ℕ → ℕ → List ℕ → List ℕ
overwritten buffer at new = take at buffer ++ (new ++ drop (at + length new) buffer)

-- Clause 2.12: the buffer after bytes are written from a position on. If a refusal number is due, nothing is written.
abbrev pub buffer_after : ℕ → List ℕ → List ℕ → ℕ → List ℕ
buffer_after number new buffer at = cond (eqb number 0) (overwritten buffer at new) buffer

-- How many bytes were read or written, or the refusal, as numbers.
abbrev pub outcome_as_numbers : Result ℕ Refusal → AsNumbers
outcome_as_numbers (Ok n) = record { number = 0; value = n }
outcome_as_numbers (Err r) = record { number = number_of r; value = 0 }
