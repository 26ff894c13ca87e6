-- A board and a state in memory that a program in C or Rust owns: numbers and arrays of numbers, of any content.
-- Specification, section 11.
use Rattle.std.specs.Prelude.{ℕ, List, get_or}
use Rattle.rules.specs.declared.states.Phases.{Phases}
use Rattle.rules.specs.declared.states.Terms.{Terms}
use Rattle.rules.specs.declared.states.Board.{Board}
use Rattle.rules.specs.declared.states.Moment.{Moment}

-- Clause 11.1: the counts of processors and of entries, and which entries are writes.
abbrev pub terms_by : ℕ → ℕ → ℕ → Terms
terms_by processors entries writes = record { processors = processors; count = entries; writes = writes }

-- Clause 11.1: three words: who waits, who is entitled, who holds.
unfoldable pub phases_by : List ℕ → Phases
phases_by words = record { waiting = get_or words 0 0; entitled = get_or words 1 0; holding = get_or words 2 0 }

-- Clause 11.1: the last accepted tick, and the phases.
abbrev pub moment_by : ℕ → List ℕ → Moment
moment_by last words = record { last = last; phases = phases_by words }

-- Clause 11.1: the board with these parts.
abbrev pub board_in : Terms → List ℕ → List ℕ → List ℕ → List ℕ → Board
board_in terms lengths names widened rows =
    record { terms = terms; lengths = lengths; names = names; widened = widened; rows = rows }
