-- A log that arrives in pieces, in the buffers of `lockreplay`: what the program writes, built from what the functions
-- promise for each buffer.
use Rattle.std.specs.Prelude.{ℕ, zero, suc, ◌-◌, ◌*◌, Bool, cond, not, ◌||◌, List, [], ◌∷◌, ◌++◌, eqb, leb, length, take, drop}
use Rattle.plans.specs.Reading.{read_as_numbers, plan_read}
use Rattle.rules.specs.declared.states.Board.{Board}
use Rattle.rules.specs.declared.states.State.{State}
use Rattle.boards.specs.Fresh.{fresh_state, fresh_board}
use Rattle.logs.specs.Records.{count_size, record_size, read_count}
use Rattle.log_input.specs.Stages.{is_short, due_size}
use Rattle.replay.specs.Blocks.{ran, budget, going_on}
use Rattle.replay.specs.Openings.{opening_line}
use Rattle.replay.specs.Ends.{count_line, end_line}
use Rattle.whole_listing.specs.Rooms.{plan_room, block_room, lines_room}

-- The pieces of an input, one after the other.
unfoldable pub together : List (List ℕ) → List ℕ
together [] = []
together (piece ∷ later) = piece ++ together later

-- Clause 9.10: a read with room for n bytes gets at most n bytes of the first piece. A piece without bytes is ignored.
unfoldable pub got : ℕ → List (List ℕ) → List ℕ
got n [] = []
got n ([] ∷ later) = got n later
got n ((x ∷ piece) ∷ later) = take n (x ∷ piece)

-- What is then still to come: the rest of that piece, and the later pieces.
unfoldable pub to_come : ℕ → List (List ℕ) → List (List ℕ)
to_come n [] = []
to_come n ([] ∷ later) = to_come n later
to_come n ((x ∷ piece) ∷ later) = drop n (x ∷ piece) ∷ later

-- The bytes at hand in a buffer, and the pieces that are still to come.
pub record Arrived : Type 0 where
  pub bytes : List ℕ
  pub later : List (List ℕ)

-- Reads into a buffer, after its bytes, until they are enough. Once the input has ended, a read gets nothing.
unfoldable pub reads : ℕ → ℕ → (List ℕ → Bool) → List ℕ → List (List ℕ) → Arrived
reads zero room enough s t = record { bytes = s; later = t }
reads (suc turns) room enough s t =
    cond (enough s) (record { bytes = s; later = t })
    (reads turns room enough (s ++ got (room - length s) t) (to_come (room - length s) t))

-- Each read except the last gets a byte, so as many reads as there are bytes of room are enough.
abbrev pub fed : ℕ → (List ℕ → Bool) → List ℕ → List (List ℕ) → Arrived
fed room enough s t = reads room room enough s t

-- Clauses 9.10 and 9.11: what is written after a wait. If the input is not closed after its pieces, a wait for bytes
-- that do not come, or a read that fails, ends what is written.
abbrev pub waited : Bool → (List ℕ → Bool) → Arrived → (List ℕ → List (List ℕ) → List ℕ) → List ℕ
waited closed enough a next = cond (closed || enough a.bytes) (next a.bytes a.later) []

-- What the program waits for: the plan, the number of calls, and with n calls left a record or a tail.
abbrev pub plan_there : List ℕ → Bool
plan_there s = not (is_short s)

abbrev pub count_there : List ℕ → Bool
count_there s = leb count_size (length s)

abbrev pub call_there : ℕ → List ℕ → Bool
call_there n s = leb (due_size n) (length s)

-- The calls, block by block, from the block s and the pieces t that are still to come. A block that carries out no call
-- is the last. Every other block carries out a call, so one turn more than there are calls is enough.
unfoldable pub in_blocks : Bool → ℕ → Board → State → ℕ → List ℕ → List (List ℕ) → List ℕ
in_blocks closed zero b st left s t = []
in_blocks closed (suc turns) b st left s t =
    let r = ran b st (budget left s lines_room) s in
    let n = left - r.calls in
    going_on r
    (λ st'. cond (eqb r.calls 0) (end_line left s)
    (waited closed (call_there n) (fed block_room (call_there n) (drop (record_size * r.calls) s) t)
    (λ s' t'. in_blocks closed turns b st' n s' t')))

-- The call count at the start of the block s, and the calls after it.
abbrev pub from_count : Bool → Board → State → List ℕ → List (List ℕ) → List ℕ
from_count closed b st s t =
    let n = (read_count s).value in
    count_line s
    ++ cond (eqb (read_count s).number 0)
    (waited closed (call_there n) (fed block_room (call_there n) (drop count_size s) t)
    (λ s' t'. in_blocks closed (suc n) b st n s' t'))
    []

-- The plan at the start of its buffer s. The bytes that were read after it are the next ones of the log.
abbrev pub from_plan : Bool → List ℕ → List (List ℕ) → List ℕ
from_plan closed s t =
    opening_line s
    ++ cond (eqb (read_as_numbers s).number 0)
    (waited closed count_there (fed block_room count_there (drop (read_as_numbers s).value s) t)
    (λ s' t'. from_count closed (fresh_board (plan_read s)) fresh_state s' t'))
    []

-- All that is written for the pieces of an input.
unfoldable pub program_listing : Bool → List (List ℕ) → List ℕ
program_listing closed pieces =
    waited closed plan_there (fed plan_room plan_there [] pieces) (λ s t. from_plan closed s t)
