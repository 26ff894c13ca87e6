-- What follows from the checks of a writing: an accepted plan fits, and what is returned then and on a refusal. Assumes
-- nothing.
use Rattle.std.specs.Prelude.{Result, Ok, Err}
use Prim.Native.Nat.{ℕ, ◌+◌, ◌≤◌}
use mathlib.Core.Path.{◌≡◌, refl, sym, ap, ◌∙◌}
use mathlib.Core.List.{List}
use lib.ListN.{length}
use Rattle.refusals.specs.declared.Refusal.{Refusal}
use Rattle.refusals.specs.Number.{number_of, verdict_number}
use Rattle.refusals.specs.Due.{AsNumbers, first_of, as_numbers}
use Rattle.refusals.proofs.Numbers.{number_not_zero}
use Rattle.encoding.specs.Buffers.{room_fault, overwritten}
use Rattle.plans.specs.declared.Plan.{Plan}
use Rattle.plans.specs.Entries.{max_entries, plan_size}
use Rattle.plans.specs.Acceptance.{plan_fault}
use Rattle.plans.specs.Writing.{plan_bytes, write_fault, write_as_numbers, written_buffer}
use Rattle.plans.proofs.Accepted.{accepted_count, accepted_fits, accepted_says, accepted_buffer}

module _
    (p : Plan) (buffer : List ℕ) (at n : ℕ) (size : n ≡ plan_size p)
    (v : Result Unit Refusal) (checked : verdict_number v ≡ first_of (plan_fault p) (room_fault n (length buffer) at))
  where
    is : verdict_number v ≡ write_fault p (length buffer) at
    unfolding write_fault
    is = checked ∙ rw size

    none_due : v ≡ Ok tt → write_fault p (length buffer) at ≡ 0
    none_due e = sym is ∙ ap verdict_number e

    pub plan_fits : v ≡ Ok tt → (p.count ≤ max_entries) × (at + plan_size p ≤ length buffer)
    plan_fits e =
        let fits = accepted_fits p buffer at (none_due e) in
        (accepted_count p fits.0, fits.1)

    pub written_answer : v ≡ Ok tt → (after : List ℕ) → after ≡ overwritten buffer at (plan_bytes p)
        → (as_numbers 0 n ≡ write_as_numbers p buffer at) × (after ≡ written_buffer p buffer at)
    written_answer e after stored = (
      ap (as_numbers 0) size ∙ sym (accepted_says p buffer at (none_due e)),
      stored ∙ sym (accepted_buffer p buffer at (none_due e)),
    )

    pub refused_answer : (r : Refusal) → v ≡ Err r
        → (◌≡◌ {A = AsNumbers} (record { number = number_of r; value = 0 }) (write_as_numbers p buffer at))
        × (buffer ≡ written_buffer p buffer at)
    unfolding written_buffer
    refused_answer r e = rw (← is, e, number_not_zero r) (refl, refl)
