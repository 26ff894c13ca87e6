-- Calls in place: the parts of a board and of a state that are lent to them, and the answer.
use Rattle.std.specs.Prelude.{ℕ, ◌≡◌, List, []}
use Rattle.rules.specs.Replies.{reply_as_numbers}
use Rattle.rules.specs.declared.states.Terms.{Terms}
use Rattle.rules.specs.declared.states.Board.{Board}
use Rattle.rules.specs.declared.states.State.{State}
use Rattle.rules.specs.declared.states.Moment.{Moment}
use Rattle.rules.specs.declared.states.LentBoard.{LentBoard}
use Rattle.rules.specs.declared.states.LentFacts.{LentFacts}
use Rattle.rules.specs.declared.states.LentArrays.{LentArrays}
use Rattle.rules.specs.Requests.{Facts, facts_by}
use Rattle.rules.specs.declared.calls.Changed.{Changed}
use Rattle.rules.specs.Calls.{Answer}

-- The board with these terms, conflict rows and lengths. No call reads names or a widened set.
abbrev pub board_by : Terms → List ℕ → List ℕ → Board
board_by terms rows lengths = record { terms = terms; lengths = lengths; names = []; widened = []; rows = rows }

-- The state with this moment and these arrays.
abbrev pub state_by : Moment → List ℕ → List ℕ → List ℕ → State
state_by now requested since earlier =
    record { last = now.last; phases = now.phases; since = since; earlier = earlier; requested = requested }

-- The answer: what the call returns, with the arrays as it leaves them.
abbrev pub answer_by : Changed → List ℕ → List ℕ → List ℕ → Answer
answer_by c requested since earlier =
    record { reply = reply_as_numbers c.reply; state = state_by c.moment requested since earlier }

-- ---- the same from what is lent

-- The board of which these parts are lent.
abbrev pub board_lent : LentBoard → Board
board_lent b = board_by b.terms b.rows.now b.lengths.now

-- The facts of which these parts are lent.
abbrev pub facts_lent : LentFacts → Facts
facts_lent f = facts_by f.rows.now f.terms.writes f.requested.now f.earlier.now

-- The state with this moment and the lent arrays.
abbrev pub state_lent : Moment → LentArrays → State
state_lent now arrays = state_by now arrays.requested.now arrays.since.now arrays.earlier.now

-- The answer, with the lent arrays as the call leaves them.
abbrev pub answer_lent : Changed → LentArrays → Answer
answer_lent c arrays = answer_by c arrays.requested.now arrays.since.now arrays.earlier.now

-- A call leaves the same three arrays lent: it writes to them, and puts no others in their places.
pub record SameArrays (old new : LentArrays) : Type 0 where
  pub requested : new.requested.ghost_name ≡ old.requested.ghost_name
  pub since : new.since.ghost_name ≡ old.since.ghost_name
  pub earlier : new.earlier.ghost_name ≡ old.earlier.ghost_name
