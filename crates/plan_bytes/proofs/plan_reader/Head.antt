-- The counts of a plan and then its entries: the fault of the whole. If the counts have no fault, they are there.
-- Assumes nothing.
use Rattle.std.specs.Prelude.{Result, Ok, Err}
use Prim.Native.Nat.{ℕ}
use mathlib.Core.Path.{◌≡◌, sym, ap, ◌∙◌}
use mathlib.Core.List.{List}
use lib.ListN.{get_or}
use Rattle.refusals.specs.declared.Refusal.{Refusal}
use Rattle.refusals.specs.Number.{number_of, verdict_number}
use Rattle.refusals.specs.Due.{first_of}
use Rattle.refusals.proofs.Numbers.{first_accepted, first_assoc, first_of_four, first_accepts_verdict}
use Rattle.refusals.proofs.Numbers.{first_refuses_verdict}
use Rattle.encoding.specs.Buffers.{short_fault}
use Rattle.encoding.proofs.Room.{enough_length}
use Rattle.plans.specs.Entries.{max_entries, counts_size}
use Rattle.plans.specs.Acceptance.{processors_fault, resources_fault, count_fault}
use Rattle.plans.specs.Reading.{read_fault}
use Rattle.plans.proofs.Faults.{within_most}
use Rattle.plan_bytes.specs.inner.Head.{first_count, second_count, third_count, head_fault}
use Rattle.plan_bytes.specs.inner.Body.{body_fault, CountsThere}

module _ (s : List ℕ) where
  head_then_body : read_fault s ≡ first_of (head_fault s) (body_fault s)
  unfolding read_fault head_fault
  head_then_body =
      let third = first_assoc (short_fault counts_size s) (count_fault (get_or s 2 0)) (body_fault s) in
      let second = first_assoc (short_fault 2 s) (resources_fault (get_or s 1 0)) (first_of (third_count s) (body_fault s)) in
      let first = first_assoc (short_fault 1 s) (processors_fault (get_or s 0 0))
      (first_of (second_count s) (first_of (third_count s) (body_fault s))) in
      sym
      (sym (first_of_four (first_count s) (second_count s) (third_count s) (body_fault s))
      ∙ first
      ∙ ap (λ k. first_of (short_fault 1 s) (first_of (processors_fault (get_or s 0 0)) k))
      (second ∙ ap (λ k. first_of (short_fault 2 s) (first_of (resources_fault (get_or s 1 0)) k)) third))

  -- What the check of the counts found.
  module _ (v : Result Unit Refusal) (is : verdict_number v ≡ head_fault s) where
    pub fault_of_entries : v ≡ Ok tt → read_fault s ≡ body_fault s
    fault_of_entries e = head_then_body ∙ rw (← is) (first_accepts_verdict v (body_fault s) e)

    pub fault_of_counts : (r : Refusal) → v ≡ Err r → read_fault s ≡ number_of r
    fault_of_counts r e = head_then_body ∙ rw (← is) (first_refuses_verdict v (body_fault s) r e)

    pub counts_there : v ≡ Ok tt → CountsThere s
    unfolding head_fault
    counts_there e =
        let rest = (first_accepted (first_count s) (first_of (second_count s) (third_count s))
        (sym is ∙ ap verdict_number e)).later in
        let last = (first_accepted (second_count s) (third_count s) rest).later in
        let both = first_accepted (short_fault counts_size s) (count_fault (get_or s 2 0)) last in
        record {
          there = enough_length counts_size s both.first;
          held = within_most 1 max_entries (get_or s 2 0) 4
              both.later;
        }
