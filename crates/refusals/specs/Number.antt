-- The number of each refusal word. Specification, section 8.
use Rattle.std.specs.Prelude.{Result, Ok, Err}
use Rattle.std.specs.Prelude.{ℕ}
use Rattle.refusals.specs.declared.Refusal.{Refusal}
use Rattle.refusals.specs.declared.Refusal.TheVariants.{Short, Tail, Processors, Resources, Entries, Kind, Set}
use Rattle.refusals.specs.declared.Refusal.TheVariants.{Length, Verb, Tick, Processor, Entry, Busy, Idle, Unheld}
use Rattle.refusals.specs.declared.Refusal.TheVariants.{Room, Held, Register}

-- Clause 8.1: one number for each word of the table.
abbrev pub number_of : Refusal → ℕ
number_of Short = 1
number_of Tail = 2
number_of Processors = 3
number_of Resources = 4
number_of Entries = 5
number_of Kind = 6
number_of Set = 7
number_of Length = 8
number_of Verb = 9
number_of Tick = 10
number_of Processor = 11
number_of Entry = 12
number_of Busy = 13
number_of Idle = 14
number_of Unheld = 15
number_of Room = 16
number_of Held = 17
number_of Register = 18

-- A verdict as a number: 0 if accepted, else the refusal's number.
abbrev pub verdict_number : Result Unit Refusal → ℕ
verdict_number (Ok tt) = 0
verdict_number (Err r) = number_of r
