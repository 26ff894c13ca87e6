-- The answers to the calls, built from the results of their parts. Assumes nothing.
use Rattle.std.specs.Prelude.{Result, Ok, Err}
use mathlib.Core.Path.{◌≡◌, refl, sym, ap, ap₂, ◌∙◌}
use mathlib.Core.Bool.{cond}
use mathlib.Core.List.{List}
use Prim.Native.Nat.{ℕ, ◌-◌, ◌<◌}
use native.Mathlib.Omega.{arith}
use lib.Dec.{ltb}
use lib.ListN.{get_or, set}
use borrow.Author.Tests.{ltb-true}
use Rattle.refusals.specs.declared.Refusal.{Refusal}
use Rattle.refusals.specs.Number.{number_of, verdict_number}
use Rattle.refusals.specs.Due.{first_of}
use Rattle.refusals.proofs.Numbers.{number_not_zero, first_accepted, due_accepted}
use Rattle.masks.proofs.Truth.{and_left}
use Rattle.plans.specs.Entries.{max_processors}
use Rattle.rules.specs.Replies.{refused_with}
use Rattle.rules.specs.declared.calls.Call.{Call}
use Rattle.rules.specs.declared.states.Phases.{Phases}
use Rattle.rules.specs.Requests.{facts_by}
use Rattle.rules.specs.Settling.{settled}
use Rattle.rules.specs.declared.states.Terms.{Terms}
use Rattle.rules.specs.declared.states.Board.{Board}
use Rattle.rules.specs.declared.states.State.{State}
use Rattle.rules.specs.CountedRequests.{has_processor}
use Rattle.rules.specs.Faults.{tick_fault, processor_fault, issue_fault, complete_fault, withdraw_fault, handover_fault}
use Rattle.rules.specs.Acts.{put_in, put_last, taken_out}
use Rattle.rules.specs.Calls.{Answer, phases_of, put_state, taken_state, done, ruled, settled_done, issued, late_mark, left}
use Rattle.rules.specs.Calls.{completed, withdrawn, both, handed_over, answered}
use Rattle.rules.specs.InPlace.{board_by, state_by}
use Rattle.rules.proofs.Halves.{first_half, issue_accepted}

-- ---- by verdict

-- The answer to a refused call.
abbrev pub Unchanged : Refusal → State → Answer
Unchanged r s = record { reply = refused_with (number_of r); state = s }

ruled_accepts : (n : ℕ) (v : Result Unit Refusal) (s : State) (a : Answer) → verdict_number v ≡ n → v ≡ Ok tt → a
    ≡ ruled n s a
ruled_accepts n v s a says w = ap (λ (n : ℕ). ruled n s a) (ap verdict_number (sym w) ∙ says)

ruled_refuses : (n : ℕ) (v : Result Unit Refusal) (r : Refusal) (s : State) (a : Answer) → verdict_number v ≡ n → v
    ≡ Err r
    → Unchanged r s ≡ ruled n s a
ruled_refuses n v r s a says w =
    ap (λ t. cond t a (Unchanged r s)) (sym (number_not_zero r))
    ∙ ap (λ (n : ℕ). ruled n s a) (ap verdict_number (sym w) ∙ says)

-- If a call is not refused with 10 or 11, its processor has a place in a state.
counted_below : (terms : Terms) (last p t later : ℕ)
    → first_of (tick_fault last t) (first_of (processor_fault terms p) later) ≡ 0 → p < max_processors
counted_below terms last p t later e =
    ltb-true p max_processors
    (and_left (ltb p max_processors) (ltb p terms.processors)
    (due_accepted (has_processor terms p) 11 (omega arith)
    (first_accepted (processor_fault terms p) later (first_accepted (tick_fault last t) _ e).later).first))

module _ (v : Result Unit Refusal) (terms : Terms) (last : ℕ) (ph : Phases) (p t : ℕ) (w : v ≡ Ok tt) where
  pub complete_counted : verdict_number v ≡ complete_fault terms last ph p t → p < max_processors
  unfolding complete_fault
  complete_counted says = counted_below terms last p t _ (sym says ∙ ap verdict_number w)

  pub handover_counted : (e : ℕ) → verdict_number v ≡ handover_fault terms last ph p e t → p < max_processors
  unfolding handover_fault
  handover_counted e says = counted_below terms last p t _ (sym says ∙ ap verdict_number w)

-- ---- an act on the requests that count

-- The answer that `enter` gives when it adds a request to those in the phases ph. `line` contains the masks of earlier
-- requests.
abbrev pub Entered : Board → State → Phases → List ℕ → Answer → ℕ → ℕ → ℕ → Type 0
Entered b s ph line a p e t =
    a
    ≡ done (state_by (record { last = t; phases = put_in ph p }) (set s.requested p e) (set s.since p t) line)
    (settled (facts_by b.rows b.terms.writes (set s.requested p e) line) (put_in ph p)) 0

-- The answer that `leave` gives when it removes a request from those in the phases ph.
abbrev pub Gone : Board → State → Phases → Answer → ℕ → ℕ → ℕ → Type 0
Gone b s ph a p t late =
    a
    ≡ done (state_by (record { last = t; phases = taken_out ph p }) s.requested s.since s.earlier)
    (settled (facts_by b.rows b.terms.writes s.requested s.earlier) (taken_out ph p)) late

module _ (b : Board) (s : State) (before : Phases) (cleans : before ≡ phases_of b s) (a : Answer) where
  entered_is : (line : List ℕ) (p e t : ℕ) → line ≡ put_last s.earlier before p → Entered b s before line a p e t
      → a ≡ settled_done b (put_state b s p e t) 0
  unfolding put_state settled_done
  entered_is line p e t el eq =
      eq ∙ ap₂ (λ ph line. settled_done b (put ph line) 0) cleans (el ∙ ap (λ ph. put_last s.earlier ph p) cleans)
    where
      put : Phases → List ℕ → State
      put ph line = state_by (record { last = t; phases = put_in ph p }) (set s.requested p e)
          (set s.since p t) line

  gone_is : (p t late : ℕ) → Gone b s before a p t late → a ≡ settled_done b (taken_state b s p t) late
  unfolding taken_state settled_done
  gone_is p t late eq =
      eq ∙ ap (λ ph. settled_done b (state_by (record { last = t; phases = taken_out ph p }) s.requested s.since
      s.earlier) late) cleans

-- The late mark as the code computes it.
late_is : (b : Board) (s : State) (p t length late : ℕ) → length ≡ get_or b.lengths (get_or s.requested p 0) 0
    → late ≡ cond (ltb length (t - get_or s.since p 0)) 1 0 → late ≡ late_mark b s p t
late_is b s p t length late eh el = el ∙ ap (λ (x : ℕ). cond (ltb x (t - get_or s.since p 0)) 1 0) eh

-- ---- the calls

module _ (b : Board) (s : State) (before : Phases) (cleans : before ≡ phases_of b s) (v : Result Unit Refusal) where
  module _ (p e t : ℕ) (says : verdict_number v ≡ issue_fault b.terms s.last before p e t) where
    decides : verdict_number v ≡ issue_fault b.terms s.last (phases_of b s) p e t
    decides = says ∙ ap (λ ph. issue_fault b.terms s.last ph p e t) cleans

    pub issue_refused : (r : Refusal) → v ≡ Err r → Unchanged r s ≡ issued b s p e t
    unfolding issued
    issue_refused r w = ruled_refuses _ v r s _ decides w

    pub issue_done : v ≡ Ok tt → (line : List ℕ) (a : Answer) → line ≡ put_last s.earlier before p
        → Entered b s before line a p e t → a ≡ issued b s p e t
    unfolding issued
    issue_done w line a el eq = entered_is b s before cleans a line p e t el eq ∙ ruled_accepts _ v s _ decides w

  -- A request that leaves.
  module _ (p t late : ℕ) (number : Phases → ℕ) (says : verdict_number v ≡ number before) where
    ends : verdict_number v ≡ number (phases_of b s)
    ends = says ∙ ap number cleans

    leave_refused : (r : Refusal) → v ≡ Err r → Unchanged r s ≡ left b s p t (number (phases_of b s)) late
    unfolding left
    leave_refused r w = ruled_refuses (number (phases_of b s)) v r s _ ends w

    leave_done : v ≡ Ok tt → (a : Answer) → Gone b s before a p t late → a
        ≡ left b s p t (number (phases_of b s)) late
    unfolding left
    leave_done w a eq = gone_is b s before cleans a p t late eq ∙ ruled_accepts (number (phases_of b s)) v s _ ends w

  module _ (p t : ℕ) (says : verdict_number v ≡ complete_fault b.terms s.last before p t) where
    pub complete_refused : (r : Refusal) → v ≡ Err r → Unchanged r s ≡ completed b s p t
    unfolding completed
    complete_refused = leave_refused p t (late_mark b s p t) (λ ph. complete_fault b.terms s.last ph p t) says

    pub complete_done : v ≡ Ok tt → (length late : ℕ) (a : Answer)
        → length ≡ get_or b.lengths (get_or s.requested p 0) 0 → late
        ≡ cond (ltb length (t - get_or s.since p 0)) 1 0
        → Gone b s before a p t late → a ≡ completed b s p t
    unfolding completed
    complete_done w length late a eh el eq =
        leave_done p t late (λ ph. complete_fault b.terms s.last ph p t) says w a eq
        ∙ ap (left b s p t (complete_fault b.terms s.last (phases_of b s) p t)) (late_is b s p t length late eh el)

  module _ (p t : ℕ) (says : verdict_number v ≡ withdraw_fault b.terms s.last before p t) where
    pub withdraw_refused : (r : Refusal) → v ≡ Err r → Unchanged r s ≡ withdrawn b s p t
    unfolding withdrawn
    withdraw_refused = leave_refused p t 0 (λ ph. withdraw_fault b.terms s.last ph p t) says

    pub withdraw_done : v ≡ Ok tt → (a : Answer) → Gone b s before a p t 0 → a ≡ withdrawn b s p t
    unfolding withdrawn
    withdraw_done = leave_done p t 0 (λ ph. withdraw_fault b.terms s.last ph p t) says

  module _ (p e t : ℕ) (says : verdict_number v ≡ handover_fault b.terms s.last before p e t) where
    hands : verdict_number v ≡ handover_fault b.terms s.last (phases_of b s) p e t
    hands = says ∙ ap (λ ph. handover_fault b.terms s.last ph p e t) cleans

    pub handover_refused : (r : Refusal) → v ≡ Err r → Unchanged r s ≡ handed_over b s p e t
    unfolding handed_over
    handover_refused r w = ruled_refuses _ v r s _ hands w

    module _ (w : v ≡ Ok tt) (length late : ℕ) (eh : length ≡ get_or b.lengths (get_or s.requested p 0) 0)
        (el : late ≡ cond (ltb length (t - get_or s.since p 0)) 1 0) (a : Answer)
        (gone : Gone b s before a p t late) where
      ok : handover_fault b.terms s.last (phases_of b s) p e t ≡ 0
      ok = sym hands ∙ ap verdict_number w

      first_is : a ≡ completed b s p t
      first_is =
          gone_is b s before cleans a p t late gone
          ∙ ap (settled_done b (taken_state b s p t)) (late_is b s p t length late eh el)
          ∙ sym (first_half b s p e t ok)

      -- The second half uses the state that the first half left, and is accepted.
      second_is : (ready : Phases) → ready ≡ phases_of b a.state → (line : List ℕ) → line
          ≡ put_last a.state.earlier ready p
          → (a₂ : Answer) → Entered b a.state ready line a₂ p e t → a₂ ≡ issued b a.state p e t
      unfolding issued
      second_is ready cleans₂ line el₂ a₂ eq =
          entered_is b a.state ready cleans₂ a₂ line p e t el₂ eq
          ∙ ap (λ (n : ℕ). ruled n a.state (settled_done b (put_state b a.state p e t) 0))
          (sym
          (ap (λ (x : Answer). issue_fault b.terms x.state.last (phases_of b x.state) p e t) first_is
          ∙ issue_accepted b s p e t ok))

      pub handover_done : (ready : Phases) → ready ≡ phases_of b a.state → (line : List ℕ) → line
          ≡ put_last a.state.earlier ready p
          → (a₂ : Answer) → Entered b a.state ready line a₂ p e t → (r : Answer) → r ≡ both a a₂ → r
          ≡ handed_over b s p e t
      unfolding handed_over
      handover_done ready cleans₂ line el₂ a₂ eq r is =
          is ∙ ap (both a) (second_is ready cleans₂ line el₂ a₂ eq)
          ∙ ap (λ (x : Answer). both x (issued b x.state p e t)) first_is
          ∙ ruled_accepts _ v s _ hands w

-- ---- what a call reads

-- A call reads only the board's terms, its conflict rows and its lengths.
pub call_reads : (b : Board) (s : State) (call : Call) → answered (board_by b.terms b.rows b.lengths) s call
    ≡ answered b s call
unfolding put_state settled_done issued taken_state left completed withdrawn handed_over
call_reads b s (Call.Issue p e t) = refl
call_reads b s (Call.Complete p t) = refl
call_reads b s (Call.Withdraw p t) = refl
call_reads b s (Call.Handover p e t) = refl
