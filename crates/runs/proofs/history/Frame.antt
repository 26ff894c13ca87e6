-- An accepted call is one act, carried out and settled, or two acts one after the other; a refused call changes
-- nothing. Assumes nothing.
use Prim.Native.Nat.{ℕ}
use mathlib.Core.Path.{◌≡◌, refl, sym, ap, ap₂, subst, ◌∙◌}
use mathlib.Core.Bool.{cond, not}
use mathlib.Core.List.{[], ◌∷◌}
use native.Mathlib.Decide.{ℕ_discrete}
use lib.Dec.{eqb}
use borrow.Author.Tests.{ne_eqb}
use Rattle.masks.specs.Sets.{bit, mask_of}
use Rattle.refusals.specs.Due.{due}
use Rattle.plans.specs.Entries.{max_processors}
use Rattle.rules.specs.declared.calls.Call.{Call}
use Rattle.rules.specs.CallNumbers.{tick_of}
use Rattle.rules.specs.Replies.{refused_with}
use Rattle.rules.specs.Requests.{unsatisfied, active}
use Rattle.rules.specs.declared.states.Board.{Board}
use Rattle.rules.specs.declared.states.State.{State}
use Rattle.rules.specs.Faults.{issue_fault, take_fault, complete_fault, withdraw_fault, handover_fault}
use Rattle.rules.specs.Acts.{became}
use Rattle.rules.specs.Calls.{phases_of, put_state, taken_state, Answer, done, ruled, settled_done, issued, late_mark, left}
use Rattle.rules.specs.Calls.{completed, withdrawn, both, handed_over, answered}
use Rattle.rules.proofs.Halves.{halves_accepted}
use Rattle.runs.specs.History.{Act, puts, takes, acts_of}
use Rattle.runs.proofs.history.Verdicts.{issue_taken, leave_taken}
use Rattle.runs.proofs.refinement.State.{active_not_idle, inactive_idle}
use Rattle.runs.proofs.refinement.Clean.{Clean, clean_phases}
use Rattle.runs.proofs.refinement.Acts.{start_from, start_of, grants_in, state_after_act, phases_after, Allowed}
use Rattle.runs.proofs.refinement.Acts.{act_done}

-- ---- by the number that is due

module _ (number : ℕ) (s : State) (accepted : Answer) where
  pub ruled_accepted : number ≡ 0 → ruled number s accepted ≡ accepted
  ruled_accepted ok = ap (λ (n : ℕ). cond (eqb n 0) accepted (record { reply = refused_with number; state = s })) ok

  ruled_refused : (number ≡ 0 → ⊥) → ruled number s accepted ≡ record { reply = refused_with number; state = s }
  ruled_refused due = ap (λ u. cond u accepted (record { reply = refused_with number; state = s })) (ne_eqb number 0 due)

-- ---- of a clean state

-- The processors that become entitled in the act a, and are entitled once all is settled.
abbrev pub entitles_in : Board → State → ℕ → Act → ℕ
entitles_in b s t a = mask_of max_processors (became (start_of s t a).phases (phases_after b s t a))

-- The answer to an accepted call that carries out the act a.
abbrev pub act_answer : Board → State → ℕ → Act → ℕ → Answer
act_answer b s t a late =
    record {
      reply = record { number = 0; granted = grants_in b s t a; entitled = entitles_in b s t a; late = late };
      state = state_after_act b s t a;
    }

module _ (b : Board) (s : State) (p t : ℕ) (c : Clean b s) where
  issue_act : (e : ℕ) → issue_fault b.terms s.last (phases_of b s) p e t ≡ 0
      → Allowed b s t (puts p e) × (settled_done b (put_state b s p e t) 0 ≡ act_answer b s t (puts p e) 0)
  unfolding settled_done put_state done
  issue_act e ok =
      let k = issue_taken b.terms s.last (phases_of b s) p t e ok in (
        record {
          in_time = k.call.in_time;
          below = k.call.in_state;
          may =
              record {
                in_plan_law = k.call.in_plan_law;
                listed = k.entry_in_plan;
                was_idle =
                    inactive_idle s.phases p (sym (ap (λ ph. active ph p) (clean_phases b s c)) ∙ k.was_idle);
              };
        },
        ap (λ ph. settled_done b (start_from ph s t (puts p e)) 0) (clean_phases b s c),
      )

  leave_act : (phaseFault late : ℕ) → take_fault b.terms s.last (phases_of b s) p t phaseFault ≡ 0
      → Allowed b s t (takes p) × (settled_done b (taken_state b s p t) late ≡ act_answer b s t (takes p) late)
  unfolding settled_done taken_state done
  leave_act phaseFault late ok =
      let k = leave_taken b.terms s.last (phases_of b s) p t phaseFault ok in
      let same = clean_phases b s c in (
        record {
          in_time = k.call.in_time;
          below = k.call.in_state;
          may = record {
            was_active = active_not_idle s.phases p
                (sym (ap (λ ph. active ph p) same) ∙ k.was_active);
          };
        },
        ap (λ ph. settled_done b (start_from ph s t (takes p)) late) same,
      )

-- ---- a completion and then an issue

-- The answer to an accepted call that removes p's request and then adds one of p for entry e: that of both acts.
abbrev pub both_answer : Board → State → ℕ → ℕ → ℕ → ℕ → Answer
both_answer b s t p e late =
    both (act_answer b s t (takes p) late) (act_answer b (state_after_act b s t (takes p)) t (puts p e) 0)

-- The two acts are allowed, each in the state that it finds.
pub record BothAllowed (b : Board) (s : State) (t p e : ℕ) : Type 0 where
  pub first : Allowed b s t (takes p)
  pub second : Allowed b (state_after_act b s t (takes p)) t (puts p e)

module _ (b : Board) (s : State) (p t : ℕ) (c : Clean b s) where
  complete_act : complete_fault b.terms s.last (phases_of b s) p t ≡ 0
      → Allowed b s t (takes p) × (completed b s p t ≡ act_answer b s t (takes p) (late_mark b s p t))
  unfolding completed left complete_fault
  complete_act ok =
      let late = late_mark b s p t in
      let act = leave_act b s p t c (due (not (unsatisfied (phases_of b s) p)) 15) late ok in
      (act.0, ruled_accepted _ s (settled_done b (taken_state b s p t) late) ok ∙ act.1)

  issued_act : (e : ℕ) → issue_fault b.terms s.last (phases_of b s) p e t ≡ 0
      → Allowed b s t (puts p e) × (issued b s p e t ≡ act_answer b s t (puts p e) 0)
  unfolding issued
  issued_act e ok =
      let act = issue_act b s p t c e ok in
      (act.0, ruled_accepted _ s (settled_done b (put_state b s p e t) 0) ok ∙ act.1)

-- Both halves of an accepted handover are accepted, and are the two acts.
pub handover_acts : (b : Board) (s : State) (p e t : ℕ) → Clean b s
    → handover_fault b.terms s.last (phases_of b s) p e t ≡ 0
    → BothAllowed b s t p e
    × (both (completed b s p t) (issued b (completed b s p t).state p e t) ≡ both_answer b s t p e (late_mark b s p t))
handover_acts b s p e t c ok =
    let (complete-ok, issue-ok) = halves_accepted b s p e t ok in
    let (first, is-first) = complete_act b s p t c complete-ok in
    let s₁ : State = state_after_act b s t (takes p) in
    let left_in : (completed b s p t).state ≡ s₁ = ap (λ x. x.state) is-first in
    let clean₁ : Clean b s₁ = (act_done b s t (takes p) c first).clean in
    let (second, is-second) =
    issued_act b s₁ p t clean₁ e
    (subst (λ x. issue_fault b.terms x.last (phases_of b x) p e t ≡ 0) left_in issue-ok) in (
      record { first = first; second = second },
      ap₂ both is-first (ap (λ x. issued b x p e t) left_in ∙ is-second),
    )

-- ---- any call

-- A call is refused with a number and changes nothing, or it carries out one act, or it removes a request and adds
-- another of its processor.
pub data Answers (b : Board) (s : State) (c : Call) : Type 0 where
  refused : (n : ℕ) → (n ≡ 0 → ⊥) → answered b s c ≡ record { reply = refused_with n; state = s } → Answers b s c
  acts : (a : Act) (late : ℕ) → acts_of c ≡ a ∷ [] → Allowed b s (tick_of c) a
      → answered b s c ≡ act_answer b s (tick_of c) a late
      → Answers b s c
  replaces : (p e late : ℕ) → acts_of c ≡ takes p ∷ puts p e ∷ [] → BothAllowed b s (tick_of c) p e
      → answered b s c ≡ both_answer b s (tick_of c) p e late
      → Answers b s c

-- By the number that is due.
by_number : (b : Board) (s : State) (c : Call) (number : ℕ) (carried : Answer) → answered b s c ≡ ruled number s carried
    → (number ≡ 0 → answered b s c ≡ carried → Answers b s c) → Answers b s c
by_number b s c number carried is accepted = go (ℕ_discrete number 0)
  where
    go : Dec (number ≡ 0) → Answers b s c
    go (yes ok) = accepted ok (is ∙ ruled_accepted number s carried ok)
    go (no due) = refused number due (is ∙ ruled_refused number s carried due)

one_act : (b : Board) (s : State) (c : Call) (a : Act) (number late : ℕ) (carried : Answer) → acts_of c ≡ a ∷ []
    → answered b s c ≡ ruled number s carried
    → (number ≡ 0 → Allowed b s (tick_of c) a × (carried ≡ act_answer b s (tick_of c) a late)) → Answers b s c
one_act b s c a number late carried one is accepted =
    by_number b s c number carried is (λ ok same. acts a late one (accepted ok).0 (same ∙ (accepted ok).1))

two_acts : (b : Board) (s : State) (c : Call) (p e number late : ℕ) (carried : Answer)
    → acts_of c ≡ takes p ∷ puts p e ∷ []
    → answered b s c ≡ ruled number s carried
    → (number ≡ 0 → BothAllowed b s (tick_of c) p e × (carried ≡ both_answer b s (tick_of c) p e late)) → Answers b s c
two_acts b s c p e number late carried two is accepted =
    by_number b s c number carried is (λ ok same. replaces p e late two (accepted ok).0 (same ∙ (accepted ok).1))

pub answers : (b : Board) (s : State) → Clean b s → (c : Call) → Answers b s c
unfolding issued left completed withdrawn handed_over complete_fault withdraw_fault
answers b s clean (Call.Issue p e t) =
    one_act b s (Call.Issue p e t) (puts p e) _ 0 (settled_done b (put_state b s p e t) 0) refl refl
    (issue_act b s p t clean e)
answers b s clean (Call.Complete p t) =
    let late = late_mark b s p t in
    one_act b s (Call.Complete p t) (takes p) _ late (settled_done b (taken_state b s p t) late) refl refl
    (leave_act b s p t clean (due (not (unsatisfied (phases_of b s) p)) 15) late)
answers b s clean (Call.Withdraw p t) =
    one_act b s (Call.Withdraw p t) (takes p) _ 0 (settled_done b (taken_state b s p t) 0) refl refl
    (leave_act b s p t clean (due (not (bit (phases_of b s).holding p)) 17) 0)
answers b s clean (Call.Handover p e t) =
    two_acts b s (Call.Handover p e t) p e _ (late_mark b s p t)
    (both (completed b s p t) (issued b (completed b s p t).state p e t)) refl refl (handover_acts b s p e t clean)
