-- A log in blocks: what a block of its bytes adds to the listing, and where the next block continues.
use Rattle.std.specs.Prelude.{ℕ, zero, suc, Bool, true, false, cond, List, [], ◌++◌, eqb, length, drop}
use Rattle.rules.specs.declared.states.Board.{Board}
use Rattle.rules.specs.declared.states.State.{State}
use Rattle.rules.specs.Calls.{answered}
use Rattle.logs.specs.Records.{record_size, record_fault}
use Rattle.listings.specs.PlainLines.{refusal_line}
use Rattle.listings.specs.Lines.{call_line}
use Rattle.replay.specs.Records.{call_in}
use Rattle.replay.specs.Budgets.{budget_of}
use Rattle.replay.specs.declared.RanBlock.{RanBlock}

-- The lines of some records, the state after them, how many calls were carried out, and whether a refusal ended the
-- replay.
pub record Ran : Type 0 where
  pub lines : List ℕ
  pub state : State
  pub calls : ℕ
  pub ended : Bool

-- A call's line in front of what the later records give.
abbrev pub one_more : List ℕ → Ran → Ran
one_more line later =
    record { lines = line ++ later.lines; state = later.state; calls = suc later.calls; ended = later.ended }

-- k records of the bytes s, or those up to the first that is refused.
unfoldable pub ran : Board → State → ℕ → List ℕ → Ran
ran b st zero s = record { lines = []; state = st; calls = 0; ended = false }
ran b st (suc k) s =
    cond (eqb (record_fault s) 0)
    (one_more (call_line b.terms.processors (call_in s) (answered b st (call_in s)).reply)
    (ran b (answered b st (call_in s)).state k (drop record_size s)))
    (record { lines = refusal_line (record_fault s); state = st; calls = 0; ended = true })

-- How many records a block carries out: those that are left, are whole in the bytes, and have room for their lines.
abbrev pub budget : ℕ → List ℕ → ℕ → ℕ
budget left s room = budget_of left (length s) room

-- What follows some records: nothing after a refusal, otherwise what `later` gives for the state after them.
abbrev pub going_on : Ran → (State → List ℕ) → List ℕ
going_on r later = cond r.ended r.lines (r.lines ++ later r.state)

-- What a block returns: the state after its records, how many calls were carried out, how many bytes their lines take,
-- and whether a refusal ended the replay.
abbrev pub ran_block : Ran → RanBlock
ran_block r = record { state = r.state; calls = r.calls; written = length r.lines; ended = r.ended }
