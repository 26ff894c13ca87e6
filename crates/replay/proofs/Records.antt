-- The first record of some bytes: what it adds to a listing, that it is one step followed by the rest, and that its
-- line has room. Assumes nothing.
use Prim.Native.Nat.{ℕ, suc, ◌+◌, ◌≤◌}
use mathlib.Core.Path.{◌≡◌, refl}
use mathlib.Core.Bool.{Bool, true, false, cond, not}
use mathlib.Core.List.{List, [], ◌++◌, append-nil}
use native.Mathlib.Numerals.{one-add}
use native.Mathlib.Omega.{arith}
use borrow.Author.Tests.{eqb-true}
use mir.Val.{bool_byte}
use lib.Dec.{eqb}
use lib.ListN.{length, drop}
use Rattle.rules.specs.declared.states.Board.{Board}
use Rattle.rules.specs.declared.states.State.{State}
use Rattle.rules.specs.Calls.{answered}
use Rattle.logs.specs.Records.{record_size, record_fault}
use Rattle.digits.specs.Digits.{hex_pairs}
use Rattle.listings.specs.PlainLines.{refusal_line}
use Rattle.listings.specs.Lines.{call_line}
use Rattle.listings.proofs.Fields.{line_by_table}
use Rattle.listings.proofs.LongestCall.{any_plans_call, any_refusal}
use Rattle.replay.specs.Steps.{Step, call_step}
use Rattle.replay.specs.Records.{call_in, record_step}
use Rattle.replay.specs.Budgets.{line_room}
use Rattle.replay.specs.Blocks.{Ran, one_more, ran}

-- The record is a call, or it is refused.
pub data Found (s : List ℕ) : Type 0 where
  call : record_fault s ≡ 0 → Found s
  refused : eqb (record_fault s) 0 ≡ false → Found s

pub found : (s : List ℕ) → Found s
found s = go (eqb (record_fault s) 0) refl
  where
    go : (t : Bool) → eqb (record_fault s) 0 ≡ t → Found s
    go true e = call (eqb-true (record_fault s) 0 e)
    go false e = refused e

-- What a refused record gives.
abbrev pub stopped : State → ℕ → Ran
stopped st number = record { lines = refusal_line number; state = st; calls = 0; ended = true }

module _ (b : Board) (st : State) (s : List ℕ) where
  -- The line of the call in the record, and the state after it.
  abbrev pub line_in : List ℕ
  line_in = call_line b.terms.processors (call_in s) (answered b st (call_in s)).reply

  abbrev pub state_in : State
  state_in = (answered b st (call_in s)).state

  module _ (k : ℕ) where
    pub ran_call : record_fault s ≡ 0 → ran b st (suc k) s ≡ one_more line_in (ran b state_in k (drop record_size s))
    unfolding ran
    ran_call e = rw e

    pub ran_refused : eqb (record_fault s) 0 ≡ false → ran b st (suc k) s ≡ stopped st (record_fault s)
    unfolding ran
    ran_refused e = rw e

  -- The step of the record, with the digits of every byte in a table.
  abbrev pub step : Step
  step = record_step hex_pairs b st s

  step_call : record_fault s ≡ 0 → step ≡ record { line = line_in; state = state_in; ended = false }
  unfolding record_step call_step
  step_call e = rw (e, line_by_table b.terms.processors (call_in s) (answered b st (call_in s)).reply) refl

  step_refused : eqb (record_fault s) 0 ≡ false → step
      ≡ record { line = refusal_line (record_fault s); state = st; ended = true }
  unfolding record_step
  step_refused e = rw e refl

  -- Its line has room.
  pub step_room : length step.line ≤ line_room
  step_room =
      elim (found s) [
        | call e ↦ rw (step_call e) (omega (
          arith,
          any_plans_call b.terms.processors (call_in s)
              (answered b st (call_in s)).reply,
        ))
        | refused e ↦ rw (step_refused e) (omega (arith, any_refusal (record_fault s)))
      ]

-- n calls and their lines, in front of what the later records give.
abbrev pub front : List ℕ → ℕ → Ran → Ran
front lines n r = record { lines = lines ++ r.lines; state = r.state; calls = n + r.calls; ended = r.ended }

-- What is left: nothing if a refusal ended the replay, otherwise k records.
abbrev pub remaining : Bool → Board → State → ℕ → List ℕ → Ran
remaining ended b st k s = cond ended (record { lines = []; state = st; calls = 0; ended = true }) (ran b st k s)

-- One step, and then what is left.
pub step_then_more : (b : Board) (st : State) (k : ℕ) (s : List ℕ)
    → ran b st (suc k) s
    ≡ front (step b st s).line (bool_byte (not (step b st s).ended))
    (remaining (step b st s).ended b (step b st s).state k (drop record_size s))
step_then_more b st k s =
    elim (found s) [
      | call e ↦ rw (ran_call b st s k e, step_call b st s e, one-add)
      | refused e ↦ rw (ran_refused b st s k e, step_refused b st s e, append-nil)
    ]
