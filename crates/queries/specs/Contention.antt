-- What two entries of a board share. Specification, clauses 3.4 and 7.10.
use Rattle.std.specs.Prelude.{Result, Ok, Err, Option}
use Rattle.refusals.specs.declared.Refusal.{Refusal}
use Rattle.std.specs.Prelude.{ℕ, cond, not, ◌&&◌, List, eqb, ltb, get_or}
use Rattle.std.specs.Int.Bits.{bit_and}
use Rattle.masks.specs.Sets.{bit}
use Rattle.refusals.specs.Number.{number_of}
use Rattle.refusals.specs.Due.{due}
use Rattle.conflicts.specs.declared.sharing.Conflict.{Conflict}
use Rattle.conflicts.specs.Sharing.{shared_by, Over, no_conflict, conflict_as_numbers, over}
use Rattle.rules.specs.declared.states.Terms.{Terms}
use Rattle.rules.specs.declared.states.Board.{Board}

-- Clause 3.2: what entries i and j share, given which entries are writes and the names and widened sets of all entries.
-- An entry past the lists shares nothing.
abbrev pub shared_in : ℕ → List ℕ → List ℕ → ℕ → ℕ → ℕ
shared_in writes names widened i j =
    shared_by (bit writes i && bit writes j) (not (bit writes i) && not (bit writes j))
    (bit_and (get_or names i 0) (get_or names j 0)) (bit_and (get_or widened i 0) (get_or widened j 0))

-- The answer in numbers: the number of the refusal, 0 if there is none, and the conflict.
pub record SharedSaid : Type 0 where
  pub number : ℕ
  pub conflict : Over

abbrev pub shared_as_numbers : Result (Option Conflict) Refusal → SharedSaid
shared_as_numbers (Ok c) = record { number = 0; conflict = conflict_as_numbers c }
shared_as_numbers (Err r) = record { number = number_of r; conflict = no_conflict }

-- Clauses 7.10 and 8.2: 12 if either entry is not one of the plan's.
abbrev pub pair_fault : Terms → ℕ → ℕ → ℕ
pair_fault terms i j = due (ltb i terms.count && ltb j terms.count) 12

-- Clause 7.10: the number that is due, and the conflict if none is.
unfoldable pub shared_of : Terms → List ℕ → List ℕ → ℕ → ℕ → SharedSaid
shared_of terms names widened i j =
    record {
      number = pair_fault terms i j;
      conflict = cond (eqb (pair_fault terms i j) 0) (over (shared_in terms.writes names widened i j)) no_conflict;
    }

-- Clause 7.10: the same for a board.
abbrev pub shared_query : Board → ℕ → ℕ → SharedSaid
shared_query b i j = shared_of b.terms b.names b.widened i j
