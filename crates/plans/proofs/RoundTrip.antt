-- Clause 2.13: a plan that is written and then read is the same plan, and an accepted plan that is written back gives
-- the same bytes. Clause 2.10: the writer refuses with the reader's number. Assumes nothing.
use Prim.Native.Nat.{ℕ, ◌+◌, ◌≤◌, ◌<◌}
use mathlib.Core.Path.{◌≡◌, sym, ap, ◌∙◌}
use mathlib.Core.List.{List, [], ◌++◌, append-nil}
use native.Mathlib.Omega.{arith}
use lib.ListN.{length, take, drop, length-append}
use Rattle.refusals.specs.Due.{as_numbers}
use Rattle.refusals.proofs.Numbers.{first_same, first_refuses, said_refusal}
use Rattle.encoding.specs.Buffers.{overwritten}
use Rattle.encoding.proofs.Bytes.{AreBytes}
use Rattle.plans.specs.declared.Plan.{Plan}
use Rattle.plans.specs.Entries.{max_entries, section_size, plan_size, counted_entries, Same}
use Rattle.plans.specs.Acceptance.{counts_fault, entries_fault, plan_fault}
use Rattle.plans.specs.Reading.{entries_in, section_fault, read_fault, plan_in, read_as_numbers, plan_read}
use Rattle.plans.specs.Writing.{section_bytes, plan_bytes, write_fault, write_as_numbers, written_buffer}
use Rattle.plans.proofs.Fits.{Fits_plan}
use Rattle.plans.proofs.EntryBytes.{length_section_bytes}
use Rattle.plans.proofs.Faults.{counts_at_most, section_fault_law, read_fault_law}
use Rattle.plans.proofs.PlanBytes.{length_plan_bytes, entries_written, counted_plan_in}
use Rattle.plans.proofs.PlanBytes.{same_plan_in, plan_bytes_plan_in, size_plan_in, fits_plan_in}
use Rattle.plans.proofs.Accepted.{accepted_count, accepted_read, accepted_room, accepted_fits, accepted_says}
use Rattle.plans.proofs.Accepted.{accepted_buffer, accepted_from, taken}

-- ---- the same fault

-- Clause 2.10: a plan value's bytes are refused with the number that the value is refused with.
pub same_fault : (p : Plan) → Fits_plan p → (rest : List ℕ) → read_fault (plan_bytes p ++ rest) ≡ plan_fault p
unfolding plan_bytes plan_fault
same_fault p f rest =
    read_fault_law (plan_bytes p ++ rest) (omega arith)
    ∙ first_same counts (section_fault p.resources p.count section)
    (entries_fault p.resources (counted_entries p)) entries
  where
    counts : ℕ
    counts = counts_fault p.processors p.resources p.count

    section : List ℕ
    section = section_bytes (counted_entries p) ++ rest

    entries : counts ≡ 0
        → section_fault p.resources p.count section ≡ entries_fault p.resources (counted_entries p)
    entries e =
        let few = counts_at_most p.processors p.resources p.count e in
        let long : section_size (entries_in p.count section) ≤ length section =
        omega (
          arith,
          length-append (section_bytes (counted_entries p)) rest,
          length_section_bytes (counted_entries p),
          ap section_size (entries_written p f few rest),
        )
        in
        section_fault_law p.resources p.count section long
        ∙ ap (λ es. entries_fault p.resources es) (entries_written p f few rest)

pub same_fault_alone : (p : Plan) → Fits_plan p → read_fault (plan_bytes p) ≡ plan_fault p
same_fault_alone p f = ap read_fault (sym (append-nil (plan_bytes p))) ∙ same_fault p f []

-- If the reader refuses, the writer refuses with the same number, at any position of any buffer.
pub same_refusal : (p : Plan) → Fits_plan p → (rest buffer : List ℕ) (at : ℕ) → 0 < read_fault (plan_bytes p ++ rest)
    → write_as_numbers p buffer at ≡ read_as_numbers (plan_bytes p ++ rest)
unfolding write_fault
same_refusal p f rest buffer at h =
    let refused : 0 < plan_fault p = omega (arith, same_fault p f rest) in
    rw (
      first_refuses (plan_fault p) _ refused,
      said_refusal (plan_fault p) _ refused,
      same_fault p f rest,
      said_refusal (plan_fault p) _ refused,
    )

-- ---- written, then read

pub written_size : (p : Plan) → length (plan_bytes p) ≡ plan_size p
written_size p = length_plan_bytes p

-- Clause 2.13: the same plan and the same number of bytes, whatever bytes follow.
pub written_then_read : (p : Plan) (rest : List ℕ) → Fits_plan p → plan_fault p ≡ 0
    → (read_as_numbers (plan_bytes p ++ rest) ≡ as_numbers 0 (plan_size p)) × Same p (plan_read (plan_bytes p ++ rest))
unfolding plan_bytes
written_then_read p rest f e =
    let accepted = same_fault p f rest ∙ e in
    let same = same_plan_in p f (accepted_count p e) rest in
    (rw (accepted, ← same.entries), rw (accepted_read (plan_bytes p ++ rest) accepted) same)

-- Clause 2.13: what the writer wrote is read from the position as the same plan, and the reader returns the same number
-- of bytes as the writer.
pub written_in_buffer : (p : Plan) (buffer : List ℕ) (at : ℕ) → Fits_plan p → write_fault p (length buffer) at ≡ 0
    → (read_as_numbers (drop at (written_buffer p buffer at)) ≡ write_as_numbers p buffer at)
    × Same p (plan_read (drop at (written_buffer p buffer at)))
written_in_buffer p buffer at f e =
    rw (accepted_from p buffer at e, accepted_says p buffer at e)
    (written_then_read p (drop (at + length (plan_bytes p)) buffer) f (accepted_fits p buffer at e).0)

-- ---- read, then written

module _ (s : List ℕ) (e : read_fault s ≡ 0) where
  -- The bytes that the plan took.
  pub read_then_written : AreBytes s → plan_bytes (plan_read s) ≡ take (plan_size (plan_read s)) s
  read_then_written h = rw (taken s e).plan (plan_bytes_plan_in s h (taken s e).inside)

  -- The writer accepts every plan that the reader accepts.
  pub read_is_accepted : plan_fault (plan_read s) ≡ 0
  unfolding plan_fault plan_in
  read_is_accepted = rw ((taken s e).plan, counted_plan_in s, (taken s e).counts) (taken s e).entries

  -- The reader returns a plan value of its type and the plan's size, which is within the bytes given.
  pub read_fits : AreBytes s → Fits_plan (plan_read s)
  read_fits h = rw (taken s e).plan (fits_plan_in s h (taken s e).inside (taken s e).few)

  pub read_entries : length (plan_read s).entries ≡ max_entries
  read_entries = rw (taken s e).plan (size_plan_in s (taken s e).few)

  pub read_inside : plan_size (plan_in s) ≤ length s
  read_inside = (taken s e).inside

  -- Clause 2.13: with room for it, the writer accepts the plan that was read, returns the number of bytes that the
  -- reader returned, and writes the same bytes.
  pub written_back : (buffer : List ℕ) (at : ℕ) → AreBytes s → at + plan_size (plan_read s) ≤ length buffer
      → (write_as_numbers (plan_read s) buffer at ≡ read_as_numbers s)
      × (written_buffer (plan_read s) buffer at ≡ overwritten buffer at (take (plan_size (plan_read s)) s))
  written_back buffer at h room =
      let accepted = accepted_room (plan_read s) buffer at read_is_accepted room in
      let says : read_as_numbers s ≡ as_numbers 0 (plan_size (plan_read s)) = rw (e, (taken s e).plan) in (
        accepted_says (plan_read s) buffer at accepted ∙ sym says,
        accepted_buffer (plan_read s) buffer at accepted ∙ ap (λ new. overwritten buffer at new) (read_then_written h),
      )
