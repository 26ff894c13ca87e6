-- The parts of a board and a state that a single query reads.
use Rattle.std.specs.Prelude.{ℕ, List, []}
use Rattle.rules.specs.declared.states.Phases.{Phases}
use Rattle.rules.specs.declared.states.Terms.{Terms}
use Rattle.rules.specs.declared.states.Board.{Board}
use Rattle.rules.specs.declared.states.State.{State}
use Rattle.rules.specs.declared.states.LentFacts.{LentFacts}
use Rattle.rules.specs.InPlace.{board_by, state_by}

-- The board with these terms and conflict rows. No query about one processor reads its other parts.
abbrev pub board_with : Terms → List ℕ → Board
board_with terms rows = board_by terms rows []

-- The state with these entries, earlier requests and phases. No query about one processor reads a tick.
abbrev pub state_with : List ℕ → List ℕ → Phases → State
state_with entry earlier ph = state_by (record { last = 0; phases = ph }) entry [] earlier

-- ---- the same from what is lent

abbrev pub board_from : LentFacts → Board
board_from f = board_with f.terms f.rows.now

abbrev pub state_from : LentFacts → Phases → State
state_from f phases = state_with f.requested.now f.earlier.now phases
