-- A plan that was read is accepted and within its bytes, and the blank plan is refused. Assumes nothing.
use Rattle.std.specs.Prelude.{Result, Ok, Err, IfOk}
use Prim.Native.Nat.{ℕ, ◌≤◌}
use mathlib.Core.Path.{◌≡◌, refl, sym, ap, ◌∙◌}
use mathlib.Core.List.{List}
use native.Mathlib.Omega.{arith}
use lib.ListN.{length}
use Rattle.refusals.specs.declared.Refusal.{Refusal}
use Rattle.refusals.proofs.Numbers.{said_accepted}
use Rattle.plans.specs.declared.Read.{Read}
use Rattle.plans.specs.Acceptance.{counts_fault, plan_fault}
use Rattle.plans.specs.Reading.{read_as_numbers, plan_read, blank_plan, taken_as_numbers, plan_taken}
use Rattle.plans.proofs.RoundTrip.{read_is_accepted, read_inside}
use Rattle.boards.specs.Fresh.{blank_board, fresh_board}
use Rattle.replay.specs.declared.log_openings.Opened.{Opened}
use Rattle.replay.specs.Openings.{opened_as_numbers}

pub blank_refused : fresh_board blank_plan ≡ blank_board
unfolding fresh_board plan_fault counts_fault
blank_refused = refl

pub accepted_if_read : (read : Result Read Refusal) (s : List ℕ) → taken_as_numbers read ≡ read_as_numbers s
    → plan_taken read ≡ plan_read s → (taken_as_numbers read).number ≡ 0 → plan_fault (plan_taken read) ≡ 0
accepted_if_read read s says is none = rw is (read_is_accepted s (ap (λ x. x.number) (sym says) ∙ none))

pub opened_inside : (r : Result Opened Refusal) (s : List ℕ) → opened_as_numbers r ≡ read_as_numbers s
    → IfOk r (λ opened. opened.bytes ≤ length s)
opened_inside (Ok opened) s says =
    let read = said_accepted _ _ opened.bytes (sym says) in
    omega (arith, read.1, read_inside s read.0)
opened_inside (Err refusal) s says = tt
