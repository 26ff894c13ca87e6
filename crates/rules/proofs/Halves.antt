-- If a handover is not refused, neither of its halves is refused, on any state value. So 13 is never due for its issue.
-- Assumes nothing.
use mathlib.Core.Path.{◌≡◌, refl, sym, ap, ap₂, ◌∙◌}
use mathlib.Core.Bool.{Bool, true, false, not, ◌&&◌, ◌||◌, false≢true, and-false}
use mathlib.Core.List.{List}
use Prim.Native.Nat.{ℕ, ◌<◌}
use native.Mathlib.Omega.{arith}
use lib.Dec.{eqb, leb, ltb, lit<}
use borrow.Author.Tests.{ltb-true, le-leb, eq-eqb}
use Rattle.refusals.specs.Due.{due, first_of}
use Rattle.refusals.proofs.Numbers.{first_accepted, first_passes, due_accepted, due_passed}
use Rattle.masks.specs.Sets.{bit, mask_of}
use Rattle.masks.proofs.Masks.{bit_mask_at}
use Rattle.masks.proofs.Truth.{and_left, and_right}
use Rattle.plans.specs.Entries.{max_processors}
use Rattle.rules.specs.declared.states.Phases.{Phases}
use Rattle.rules.specs.Requests.{Facts, is_writer, against, unsatisfied, active, entitled_write, holding_write}
use Rattle.rules.specs.Settling.{test1, test2, test3, test4, step1, step2, step3, step4, settled}
use Rattle.rules.proofs.Active.{active_held, active_entitled}
use Rattle.rules.specs.declared.states.Terms.{Terms}
use Rattle.rules.specs.declared.states.Board.{Board}
use Rattle.rules.specs.declared.states.State.{State}
use Rattle.rules.specs.CountedRequests.{has_processor, in_plan, is_waiting, is_entitled, is_holding, cleaned}
use Rattle.rules.specs.Faults.{tick_fault, processor_fault, issue_fault, complete_fault, handover_fault}
use Rattle.rules.specs.Acts.{taken_out}
use Rattle.rules.specs.Calls.{phases_of, facts_of, taken_state, done, ruled, settled_done, late_mark, left}
use Rattle.rules.specs.Calls.{completed}

-- ---- settling leaves every active request active

unsatisfied_by_1 : (w e wr a h : Bool) → (((e && not wr) || ((w && not wr) && not a)) && not h) ≡ true → (w || e) ≡ true
unsatisfied_by_1 true e wr a h _ = refl
unsatisfied_by_1 false true wr a h _ = refl
unsatisfied_by_1 false false wr a h t = absurd (false≢true t)

entitled_by_3 : (w e : Bool) → e ≡ true → (w || e) ≡ true
entitled_by_3 true e t = refl
entitled_by_3 false e t = t

module _ (f : Facts) (p : ℕ) (l : p < max_processors) where
  active_1 : (ph : Phases) → active (step1 f ph) p ≡ active ph p
  unfolding test1 step1
  active_1 ph =
      active_held ph (test1 f ph) p l
      (unsatisfied_by_1 (bit ph.waiting p) (bit ph.entitled p) (is_writer f p) (against f p (entitled_write f ph))
      (against f p (holding_write f ph)))

  active_2 : (ph : Phases) → active (step2 f ph) p ≡ active ph p
  unfolding test2 step2
  active_2 ph = active_entitled ph (test2 f ph) p l (λ t. and_left (bit ph.waiting p) _ (and_left _ _ t))

  active_3 : (ph : Phases) → active (step3 f ph) p ≡ active ph p
  unfolding test3 step3
  active_3 ph =
      active_held ph (test3 f ph) p l
      (λ t. entitled_by_3 (bit ph.waiting p) _ (and_left (bit ph.entitled p) _ (and_left _ _ t)))

  active_4 : (ph : Phases) → active (step4 f ph) p ≡ active ph p
  unfolding test4 step4
  active_4 ph = active_entitled ph (test4 f ph) p l (λ t. and_left (bit ph.waiting p) _ (and_left _ _ t))

  pub active_settled : (ph : Phases) → active (settled f ph) p ≡ active ph p
  unfolding settled
  active_settled ph = active_4 _ ∙ active_3 _ ∙ active_2 _ ∙ active_1 ph

-- ---- a processor is idle after its request left

none_of : (w e h : Bool) → (w || e || h) ≡ false → (w ≡ false) × (e ≡ false) × (h ≡ false)
none_of true e h t = absurd (false≢true (sym t))
none_of false true h t = absurd (false≢true (sym t))
none_of false false h t = (refl, refl, t)

taken_idle : (ph : Phases) (p : ℕ) → p < max_processors → active (taken_out ph p) p ≡ false
unfolding taken_out
taken_idle ph p l = λ i. (out ph.waiting i || out ph.entitled i || out ph.holding i)
  where
    out : (n : ℕ) → bit (mask_of max_processors (λ q. bit n q && not (eqb q p))) p ≡ false
    out n = bit_mask_at max_processors _ p l ∙ ap (λ t. bit n p && not t) (eq-eqb p p refl) ∙ and-false (bit n p)

idle_cleaned : (terms : Terms) (entry : List ℕ) (ph : Phases) (p : ℕ) → p < max_processors → active ph p ≡ false
    → active (cleaned terms entry ph) p ≡ false
unfolding is_waiting is_entitled is_holding cleaned
idle_cleaned terms entry ph p l idle =
    λ i. ((bit_mask_at max_processors (is_waiting terms entry ph) p l ∙ gone _ _ no.0) i
    || (bit_mask_at max_processors (is_entitled terms entry ph) p l ∙ gone _ _ no.1) i
    || (bit_mask_at max_processors (is_holding terms entry ph) p l ∙ ap (λ t. in_plan terms entry p && t) no.2
    ∙ and-false (in_plan terms entry p)) i)
  where
    no : (bit ph.waiting p ≡ false) × (bit ph.entitled p ≡ false) × (bit ph.holding p ≡ false)
    no = none_of (bit ph.waiting p) (bit ph.entitled p) (bit ph.holding p) idle

    gone : (x y : Bool) → x ≡ false → (in_plan terms entry p && (x && y)) ≡ false
    gone x y e = ap (λ t. in_plan terms entry p && (t && y)) e ∙ and-false (in_plan terms entry p)

-- ---- a handover that is not refused

module _ (b : Board) (s : State) (p e t : ℕ) (ok : handover_fault b.terms s.last (phases_of b s) p e t ≡ 0) where
  -- Its tick, its processor and its entry pass their checks, and its processor's request holds.
  record Passed : Type 0 where
    in_time : (leb s.last t && leb t 1099511627775) ≡ true
    in_plan_law : has_processor b.terms p ≡ true
    listed : ltb e b.terms.count ≡ true
    held : first_of (due (active (phases_of b s) p) 14) (due (not (unsatisfied (phases_of b s) p)) 15) ≡ 0

  passed : Passed
  unfolding handover_fault
  passed =
      let a = first_accepted (tick_fault s.last t) _ ok in
      let c = first_accepted (processor_fault b.terms p) _ a.later in
      let d = first_accepted (due (ltb e b.terms.count) 12) _ c.later in
      record {
        in_time = due_accepted _ 10 (lit< tt) a.first;
        in_plan_law = due_accepted _ 11 (lit< tt) c.first;
        listed = due_accepted _ 12 (lit< tt) d.first;
        held = d.later;
      }

  pub handover_below : p < max_processors
  handover_below = ltb-true p max_processors (and_left _ _ passed.in_plan_law)

  pub completion_accepted : complete_fault b.terms s.last (phases_of b s) p t ≡ 0
  unfolding complete_fault
  completion_accepted =
      first_passes (tick_fault s.last t) _ (due_passed _ 10 passed.in_time)
      ∙ first_passes (processor_fault b.terms p) _ (due_passed _ 11 passed.in_plan_law) ∙ passed.held

  -- So the state after the first half is the state after the accepted completion.
  pub first_half : completed b s p t ≡ settled_done b (taken_state b s p t) (late_mark b s p t)
  unfolding left completed
  first_half =
      ap (λ (n : ℕ). ruled n s (settled_done b (taken_state b s p t) (late_mark b s p t))) completion_accepted

  idle_after : active (phases_of b (completed b s p t).state) p ≡ false
  unfolding taken_state done settled_done
  idle_after =
      ap (λ a. active (phases_of b a.state) p) first_half
      ∙ idle_cleaned b.terms s.requested _ p handover_below
      (active_settled (facts_of b (taken_state b s p t)) p handover_below _ ∙ taken_idle (phases_of b s) p handover_below)

  last_after : (completed b s p t).state.last ≡ t
  unfolding taken_state done settled_done
  last_after = ap (λ a. a.state.last) first_half

  pub issue_accepted : issue_fault b.terms (completed b s p t).state.last
      (phases_of b (completed b s p t).state) p e t ≡ 0
  unfolding issue_fault
  issue_accepted =
      first_passes (tick_fault (completed b s p t).state.last t) _
      (due_passed _ 10
      (ap₂ ◌&&◌ (ap (λ n. leb n t) last_after ∙ le-leb t t (omega arith))
      (and_right (leb s.last t) _ passed.in_time)))
      ∙ first_passes (processor_fault b.terms p) _ (due_passed _ 11 passed.in_plan_law)
      ∙ first_passes (due (ltb e b.terms.count) 12) _ (due_passed _ 12 passed.listed)
      ∙ due_passed _ 13 (ap not idle_after)

-- Neither half of a handover that is not refused is refused.
pub halves_accepted : (b : Board) (s : State) (p e t : ℕ) → handover_fault b.terms s.last (phases_of b s) p e t ≡ 0
    → (complete_fault b.terms s.last (phases_of b s) p t ≡ 0)
    × (issue_fault b.terms (completed b s p t).state.last (phases_of b (completed b s p t).state) p e t ≡ 0)
halves_accepted b s p e t ok = (completion_accepted b s p e t ok, issue_accepted b s p e t ok)
