-- What the checks of an accepted call show: its tick, its processor, its entry, and the request of its processor.
-- Assumes nothing.
use Prim.Native.Nat.{ℕ, ◌≤◌, ◌<◌}
use mathlib.Core.Path.{◌≡◌}
use mathlib.Core.Bool.{true, false, not, ◌&&◌}
use lib.Dec.{leb, ltb, lit<}
use borrow.Author.Tests.{ltb-true, leb-true, not-true}
use Rattle.refusals.specs.Due.{due, first_of}
use Rattle.refusals.proofs.Numbers.{first_accepted, due_accepted}
use Rattle.masks.proofs.Truth.{and_left, and_right}
use Rattle.plans.specs.Entries.{max_processors}
use Rattle.rules.specs.declared.states.Phases.{Phases}
use Rattle.rules.specs.Requests.{unsatisfied, active}
use Rattle.rules.specs.declared.states.Terms.{Terms}
use Rattle.rules.specs.CountedRequests.{has_processor}
use Rattle.rules.specs.Faults.{tick_fault, processor_fault, issue_fault, take_fault, complete_fault}

-- What the checks of all calls show about their tick and processor.
pub record Admissible (terms : Terms) (last p t : ℕ) : Type 0 where
  pub in_time : last ≤ t
  pub in_state : p < max_processors
  pub in_plan_law : p < terms.processors

module _ (terms : Terms) (last : ℕ) (ph : Phases) (p t : ℕ) where
  admissible : (later : ℕ) → first_of (tick_fault last t) (first_of (processor_fault terms p) later) ≡ 0
      → Admissible terms last p t
  admissible later ok =
      let both = first_accepted (tick_fault last t) _ ok in
      let tick = due_accepted (leb last t && leb t 1099511627775) 10 (lit< tt) both.first in
      let place =
      due_accepted (has_processor terms p) 11 (lit< tt)
      (first_accepted (processor_fault terms p) _ both.later).first in
      record {
        in_time = leb-true _ _ (and_left _ _ tick);
        in_state = ltb-true _ _ (and_left _ _ place);
        in_plan_law = ltb-true _ _ (and_right (ltb p max_processors) _ place);
      }

  pub record IssueTaken (e : ℕ) : Type 0 where
    pub call : Admissible terms last p t
    pub entry_in_plan : e < terms.count
    pub was_idle : active ph p ≡ false

  pub issue_taken : (e : ℕ) → issue_fault terms last ph p e t ≡ 0 → IssueTaken e
  unfolding issue_fault
  issue_taken e ok =
      let later = (first_accepted (processor_fault terms p) _ (first_accepted (tick_fault last t) _ ok).later).later in
      let both = first_accepted (due (ltb e terms.count) 12) (due (not (active ph p)) 13) later in
      record {
        call = admissible _ ok;
        entry_in_plan = ltb-true _ _ (due_accepted _ 12 (lit< tt) both.first);
        was_idle = not-true _ (due_accepted _ 13 (lit< tt) both.later);
      }

  -- A completion or a withdrawal.
  pub record LeaveTaken : Type 0 where
    pub call : Admissible terms last p t
    pub was_active : active ph p ≡ true

  pub leave_taken : (phaseFault : ℕ) → take_fault terms last ph p t phaseFault ≡ 0 → LeaveTaken
  leave_taken phaseFault ok =
      let later = (first_accepted (processor_fault terms p) _ (first_accepted (tick_fault last t) _ ok).later).later in
      record {
        call = admissible _ ok;
        was_active = due_accepted _ 14 (lit< tt) (first_accepted (due (active ph p) 14) phaseFault later).first;
      }

  -- What is due for the phase of a request that leaves is not due either.
  pub phase_taken : (phaseFault : ℕ) → take_fault terms last ph p t phaseFault ≡ 0 → phaseFault ≡ 0
  phase_taken phaseFault ok =
      (first_accepted (due (active ph p) 14) phaseFault
      (first_accepted (processor_fault terms p) _ (first_accepted (tick_fault last t) _ ok).later).later).later

  -- A request that is completed is not unsatisfied.
  pub completed_satisfied : complete_fault terms last ph p t ≡ 0 → unsatisfied ph p ≡ false
  unfolding complete_fault
  completed_satisfied ok =
      let later = (first_accepted (processor_fault terms p) _ (first_accepted (tick_fault last t) _ ok).later).later in
      not-true _ (due_accepted _ 15 (lit< tt) (first_accepted (due (active ph p) 14) _ later).later)
