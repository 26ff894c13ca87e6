-- What follows from an accepted plan value, an accepted reading and an accepted writing. Assumes nothing.
use Prim.Native.Nat.{ℕ, ◌+◌, ◌≤◌}
use mathlib.Core.Path.{◌≡◌, sym, ap, ◌∙◌}
use mathlib.Core.List.{List, ◌++◌}
use native.Mathlib.Omega.{arith}
use lib.ListN.{length, get_or, take, drop, length-drop}
use lib.Seq.{length-take-le, drop_at}
use Rattle.refusals.specs.Due.{as_numbers}
use Rattle.refusals.proofs.Numbers.{first_accepted}
use Rattle.encoding.specs.Buffers.{overwritten, buffer_after}
use Rattle.encoding.proofs.Room.{room_fits, fits_room}
use Rattle.plans.specs.declared.Plan.{Plan}
use Rattle.plans.specs.Entries.{max_entries, counts_size, section_size, plan_size}
use Rattle.plans.specs.Acceptance.{counts_fault, entries_fault, plan_fault}
use Rattle.plans.specs.Reading.{entries_in, section_fault, read_fault, plan_in, plan_read}
use Rattle.plans.specs.Writing.{plan_bytes, write_fault, write_as_numbers, written_buffer}
use Rattle.plans.proofs.PlanBytes.{counted_plan_in}
use Rattle.plans.proofs.Faults.{counts_at_most, section_fault_law, section_length, read_fault_law, read_length}

-- ---- a plan value

pub accepted_count : (p : Plan) → plan_fault p ≡ 0 → p.count ≤ max_entries
unfolding plan_fault
accepted_count p e =
    counts_at_most p.processors p.resources p.count
    (first_accepted (counts_fault p.processors p.resources p.count) _ e).first

-- ---- a reading

pub accepted_read : (s : List ℕ) → read_fault s ≡ 0 → plan_read s ≡ plan_in s
unfolding plan_read
accepted_read s e = rw e

-- What is true of bytes that were read as a plan.
pub record Taken (s : List ℕ) : Type 0 where
  pub plan : plan_read s ≡ plan_in s
  pub counts : counts_fault (get_or s 0 0) (get_or s 1 0) (get_or s 2 0) ≡ 0
  pub entries : entries_fault (get_or s 1 0) (entries_in (get_or s 2 0) (drop counts_size s)) ≡ 0
  pub few : get_or s 2 0 ≤ max_entries
  pub inside : plan_size (plan_in s) ≤ length s

pub taken : (s : List ℕ) → read_fault s ≡ 0 → Taken s
taken s e =
    let three = read_length s e in
    let section = section_fault (get_or s 1 0) (get_or s 2 0) (drop counts_size s) in
    let both = first_accepted (counts_fault (get_or s 0 0) (get_or s 1 0) (get_or s 2 0)) section
    (sym (read_fault_law s three) ∙ e) in
    let long = section_length (get_or s 1 0) (get_or s 2 0) (drop counts_size s) both.later in
    record {
      plan = accepted_read s e;
      counts = both.first;
      entries = sym (section_fault_law (get_or s 1 0) (get_or s 2 0) (drop counts_size s) long) ∙ both.later;
      few = counts_at_most (get_or s 0 0) (get_or s 1 0) (get_or s 2 0) both.first;
      inside = omega (arith, length-drop counts_size s, ap section_size (counted_plan_in s));
    }

-- ---- a writing

module _ (p : Plan) (buffer : List ℕ) (at : ℕ) where
  pub accepted_room : plan_fault p ≡ 0 → at + plan_size p ≤ length buffer → write_fault p (length buffer) at ≡ 0
  unfolding write_fault
  accepted_room e room = rw (e, fits_room (plan_size p) (length buffer) at room)

  module _ (e : write_fault p (length buffer) at ≡ 0) where
    pub accepted_fits : (plan_fault p ≡ 0) × (at + plan_size p ≤ length buffer)
    unfolding write_fault
    accepted_fits =
        let both = first_accepted (plan_fault p) _ e in
        (both.first, room_fits (plan_size p) (length buffer) at both.later)

    pub accepted_says : write_as_numbers p buffer at ≡ as_numbers 0 (plan_size p)
    accepted_says = rw e

    pub accepted_buffer : written_buffer p buffer at ≡ overwritten buffer at (plan_bytes p)
    unfolding written_buffer
    accepted_buffer = ap (λ n. buffer_after n (plan_bytes p) buffer at) e

    -- From the position on, the buffer contains the plan's bytes and then the bytes that stay.
    pub accepted_from : drop at (written_buffer p buffer at) ≡ plan_bytes p ++ drop (at + length (plan_bytes p)) buffer
    accepted_from =
        ap (drop at) accepted_buffer
        ∙ drop_at (take at buffer) (plan_bytes p ++ drop (at + length (plan_bytes p)) buffer) at
        (length-take-le at buffer (omega (arith, accepted_fits.1)))
