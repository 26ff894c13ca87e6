-- What a block returns is within the block, the calls that are left and the buffer. Assumes nothing.
use Rattle.std.specs.Prelude.{Result, Ok}
use Rattle.refusals.specs.declared.Refusal.{Refusal}
use Prim.Native.Nat.{ℕ, zero, suc, ◌+◌, ◌*◌, ◌≤◌}
use mathlib.Core.Path.{◌≡◌, refl, ap, ◌∙◌}
use mathlib.Core.Bool.{Bool, true, false, cond}
use mathlib.Core.List.{List}
use native.Mathlib.Omega.{arith}
use borrow.Author.Tests.{eqb-true}
use lib.Dec.{eqb}
use lib.ListN.{length, take, drop, length-append}
use lib.Seq.{length-take-le}
use Rattle.refusals.specs.Due.{AsNumbers}
use Rattle.encoding.specs.Buffers.{room_fault, overwritten, outcome_as_numbers}
use Rattle.encoding.proofs.Room.{room_fits}
use Rattle.encoding.proofs.Outcomes.{bytes_said}
use Rattle.plans.specs.Reading.{read_as_numbers}
use Rattle.plans.proofs.RoundTrip.{read_inside}
use Rattle.rules.specs.declared.states.Board.{Board}
use Rattle.rules.specs.declared.states.State.{State}
use Rattle.logs.specs.Records.{record_size}
use Rattle.listings.specs.PlainLines.{line_as_numbers}
use Rattle.replay.specs.declared.RanBlock.{RanBlock}
use Rattle.replay.specs.Blocks.{ran, budget, ran_block}
use Rattle.replay.proofs.Records.{Found, found, state_in, ran_call, ran_refused}

-- There are no more calls than records.
pub calls_within : (b : Board) (k : ℕ) (st : State) (s : List ℕ) → (ran b st k s).calls ≤ k
unfolding ran
calls_within b zero st s = omega arith
calls_within b (suc k) st s =
    elim (found s) [
      | Found.call h ↦ rw (ran_call b st s k h) (omega (arith, calls_within b k (state_in b st s) (drop record_size s)))
      | Found.refused h ↦ rw (ran_refused b st s k h) (omega arith)
    ]

-- A line takes no more bytes than the buffer has.
pub line_within : (bytes : List ℕ) (size at : ℕ) (la : Result ℕ Refusal) → outcome_as_numbers la ≡ line_as_numbers bytes size at
    → (outcome_as_numbers la).value ≤ size
line_within bytes size at la e = rw (ap (λ (x : AsNumbers). x.value) e)
    (go (eqb (room_fault (length bytes) size at) 0) refl)
  where
    go : (t : Bool) → eqb (room_fault (length bytes) size at) 0 ≡ t → cond t (length bytes) 0 ≤ size
    go true h = omega (arith, room_fits (length bytes) size at (eqb-true _ 0 h))
    go false h = omega arith

module _ (b : Board) (st : State) (left size : ℕ) (s : List ℕ) (r : RanBlock)
    (e : r ≡ ran_block (ran b st (budget left s size) s)) where
  calls_in_budget : r.calls ≤ budget left s size
  calls_in_budget = omega (arith, ap (λ (x : RanBlock). x.calls) e, calls_within b (budget left s size) st s)

  -- The calls are among those that are left, and their records are whole in the bytes.
  pub calls_left : r.calls ≤ left
  calls_left = omega (arith, calls_in_budget)

  pub calls_whole : record_size * r.calls ≤ length s
  calls_whole = omega (arith, calls_in_budget)

  -- The lines are within the buffer that contains them.
  pub lines_within : (out out' : List ℕ) → out' ≡ overwritten out 0 (ran b st (budget left s size) s).lines
      → r.written ≤ length out'
  lines_within out out' eo =
      let lines = (ran b st (budget left s size) s).lines in
      omega (
        arith,
        ap (λ (x : RanBlock). x.written) e,
        ap length eo
            ∙ length-append lines (drop (0 + length lines) out),
      )

-- A plan ends within the bytes that were lent.
pub plan_filled : (plan : List ℕ) (filled n : ℕ) (o : Result ℕ Refusal) → outcome_as_numbers o ≡ read_as_numbers (take filled plan)
    → filled ≤ length plan
    → o ≡ Ok n
    → n ≤ filled
plan_filled plan filled n o says h e =
    let read = bytes_said o _ _ says n e in
    omega (arith, read_inside (take filled plan) read.0, length-take-le filled plan h, read.1)
