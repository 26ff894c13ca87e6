-- The memory that a program in C or Rust owns, and what the exported functions promise about it, one after the other.
-- Specification, section 11.
use Rattle.std.specs.Prelude.{ℕ, ◌≡◌, List, [], ◌∷◌}
use Rattle.plans.specs.Reading.{read_as_numbers}
use Rattle.rules.specs.declared.calls.Call.{Call}
use Rattle.rules.specs.declared.states.Board.{Board}
use Rattle.rules.specs.declared.states.State.{State}
use Rattle.rules.specs.Calls.{issued, completed, withdrawn, handed_over}
use Rattle.rules.specs.InPlace.{board_by, state_by}
use Rattle.c_boards.specs.declared.CAnswer.{CAnswer}
use Rattle.c_boards.specs.Parts.{terms_by, moment_by, board_in}
use Rattle.c_boards.specs.Answers.{c_answer_as_numbers}
use Rattle.c_fresh.specs.Fresh.{board_after, state_after_plan}
use Rattle.c_calls.specs.declared.c_replies.CReply.{CReply}
use Rattle.c_calls.specs.Replies.{response, answer_in}
use Rattle.runs.specs.Events.{Event}

-- Clause 11.1: the numbers and the arrays of a board and of its state, of any content.
pub record Memory : Type 0 where
  pub processors : ℕ
  pub entries : ℕ
  pub writes : ℕ
  pub lengths : List ℕ
  pub names : List ℕ
  pub widened : List ℕ
  pub rows : List ℕ
  pub last : ℕ
  pub phases : List ℕ
  pub requested : List ℕ
  pub since : List ℕ
  pub earlier : List ℕ

-- Clause 11.1: the board value and the state value that the memory contains.
abbrev pub board_held : Memory → Board
board_held m =
    board_in (terms_by m.processors m.entries m.writes) m.lengths m.names m.widened m.rows

abbrev pub state_held : Memory → State
state_held m = state_by (moment_by m.last m.phases) m.requested m.since m.earlier

-- Clause 11.2: what `bittmelon_fresh_parts` promises about the bytes of a plan, the memory before it, what it returns,
-- and the memory after it.
pub record Stored (bytes : List ℕ) (before : Memory) (answer : CAnswer) (after : Memory) : Type 0 where
  pub told : c_answer_as_numbers answer ≡ read_as_numbers bytes
  pub board : board_held after ≡ board_after bytes (board_held before)
  pub state : state_held after ≡ state_after_plan bytes (state_held before)

-- Clause 11.3: the board with the parts that a call is lent.
abbrev pub board_lent : Memory → Board
board_lent m = board_by (terms_by m.processors m.entries m.writes) m.rows m.lengths

-- Clause 11.3: the memory with these parts of a state. The board stays: no call can write it.
abbrev pub leaving : Memory → ℕ → List ℕ → List ℕ → List ℕ → List ℕ → Memory
leaving m last phases requested since earlier =
    record {
      processors = m.processors;
      entries = m.entries;
      writes = m.writes;
      lengths = m.lengths;
      names = m.names;
      widened = m.widened;
      rows = m.rows;
      last = last;
      phases = phases;
      requested = requested;
      since = since;
      earlier = earlier;
    }

-- Clause 11.3: what the function of each call promises about the memory before it, the call, what it returns, and the
-- memory after it: `bittmelon_issue_parts`, `bittmelon_complete_parts`, `bittmelon_withdraw_parts` and
-- `bittmelon_handover_parts`. A completion and a withdrawal cannot write `requested` and `earlier`.
pub data Answers (m : Memory) : Call → CReply → Memory → Type 0 where
  issues : {p e t last : ℕ} {phases requested since earlier : List ℕ} {r : CReply}
      → answer_in r last phases requested since earlier ≡ issued (board_lent m) (state_held m) p e t
      → Answers m (Call.Issue p e t) r (leaving m last phases requested since earlier)
  completes : {p t last : ℕ} {phases since : List ℕ} {r : CReply}
      → answer_in r last phases m.requested since m.earlier ≡ completed (board_lent m) (state_held m) p t
      → Answers m (Call.Complete p t) r (leaving m last phases m.requested since m.earlier)
  withdraws : {p t last : ℕ} {phases since : List ℕ} {r : CReply}
      → answer_in r last phases m.requested since m.earlier ≡ withdrawn (board_lent m) (state_held m) p t
      → Answers m (Call.Withdraw p t) r (leaving m last phases m.requested since m.earlier)
  hands_over : {p e t last : ℕ} {phases requested since earlier : List ℕ} {r : CReply}
      → answer_in r last phases requested since earlier ≡ handed_over (board_lent m) (state_held m) p e t
      → Answers m (Call.Handover p e t) r (leaving m last phases requested since earlier)

-- Clause 11.6: a list of calls, each on the memory that the call before it left, with their replies, and the memory
-- after the last. Queries may come between them: they change none of this memory (11.4).
pub data CallsFromC : Memory → List Call → List Event → Memory → Type 0 where
  none : {m : Memory} → CallsFromC m [] [] m
  next : {m left after : Memory} {c : Call} {r : CReply} {calls : List Call} {told : List Event}
      → Answers m c r left → CallsFromC left calls told after
      → CallsFromC m (c ∷ calls) (record { call = c; reply = response r } ∷ told) after
