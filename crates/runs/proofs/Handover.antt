-- What an accepted handover does, in terms of its two halves, and in terms of the states before and after it: no grant
-- and no entitlement is lost or invented. Assumes nothing.
use Prim.Native.Nat.{ℕ, ◌<◌}
use mathlib.Core.Path.{◌≡◌, sym, ap, subst, ◌∙◌}
use mathlib.Core.Bool.{Bool, true, false, not, ◌&&◌, ◌||◌, false≢true}
use lib.Dec.{eqb}
use Rattle.masks.specs.Sets.{bit}
use Rattle.masks.proofs.Masks.{bit_mask_at}
use Rattle.plans.specs.Entries.{max_processors}
use Rattle.rules.specs.Requests.{unsatisfied}
use Rattle.rules.specs.declared.states.Board.{Board}
use Rattle.rules.specs.declared.states.State.{State}
use Rattle.rules.specs.Faults.{handover_fault}
use Rattle.rules.specs.Calls.{Answer, phases_of, issued, completed, late_mark, both, handed_over}
use Rattle.rules.proofs.Halves.{halves_accepted}
use Rattle.runs.proofs.history.Verdicts.{completed_satisfied}
use Rattle.runs.proofs.history.Frame.{ruled_accepted, both_answer, BothAllowed, handover_acts}
use Rattle.runs.proofs.history.Compared.{holds_at, entitled_at, granted_by_both, entitled_by_both}
use Rattle.runs.proofs.refinement.Clean.{Clean, clean_phases}

-- ---- in terms of its halves, on every state

module _ (b : Board) (s : State) (p e t : ℕ) (ok : handover_fault b.terms s.last (phases_of b s) p e t ≡ 0) where
  abbrev whole : Answer
  whole = handed_over b s p e t

  abbrev first : Answer
  first = completed b s p t

  abbrev second : Answer
  second = issued b (completed b s p t).state p e t

  pub is_both_halves : handed_over b s p e t ≡ both (completed b s p t) (issued b (completed b s p t).state p e t)
  unfolding handed_over
  is_both_halves = ruled_accepted _ s (both first second) ok

  -- The state is the one that the completion and then the issue leave.
  pub leaves_what_both_leave : (handed_over b s p e t).state ≡ (issued b (completed b s p t).state p e t).state
  unfolding both
  leaves_what_both_leave = ap (λ x. x.state) is_both_halves

  -- The processors that began to hold in either half.
  pub grants_of_both : (q : ℕ) → q < max_processors
      → bit (handed_over b s p e t).reply.granted q
      ≡ (bit (completed b s p t).reply.granted q || bit (issued b (completed b s p t).state p e t).reply.granted q)
  unfolding both
  grants_of_both q l =
      ap (λ x. bit x.reply.granted q) is_both_halves
      ∙ bit_mask_at max_processors (λ q. bit first.reply.granted q || bit second.reply.granted q) q l

  -- The processors that became entitled in either half and are entitled at the end.
  pub entitlements_of_both : (q : ℕ) → q < max_processors
      → bit (handed_over b s p e t).reply.entitled q
      ≡ ((bit (completed b s p t).reply.entitled q
      || bit (issued b (completed b s p t).state p e t).reply.entitled q)
      && bit (handed_over b s p e t).state.phases.entitled q)
  unfolding both
  entitlements_of_both q l =
      ap (λ x. bit x.reply.entitled q) is_both_halves
      ∙ bit_mask_at max_processors
      (λ q.
      (bit first.reply.entitled q || bit second.reply.entitled q) && bit second.state.phases.entitled q)
      q l
      ∙ ap
      (λ x. (bit first.reply.entitled q || bit second.reply.entitled q) && bit x.phases.entitled q)
      (sym leaves_what_both_leave)

-- ---- in terms of the states before and after, in a state that calls led to

right_of_none : (a b : Bool) → (a || b) ≡ false → b ≡ false
right_of_none true b none = absurd (false≢true (sym none))
right_of_none false b none = none

module _ (b : Board) (s : State) (p e t : ℕ) (c : Clean b s)
    (ok : handover_fault b.terms s.last (phases_of b s) p e t ≡ 0) where
  abbrev late : ℕ
  late = late_mark b s p t

  two_acts : BothAllowed b s t p e
  two_acts = (handover_acts b s p e t c ok).0

  is_two_acts : handed_over b s p e t ≡ both_answer b s t p e late
  is_two_acts = is_both_halves b s p e t ok ∙ (handover_acts b s p e t c ok).1

  -- The granted mask contains the processors that hold after the handover and did not before, and p itself if its new
  -- request holds.
  pub grants_exactly : (q : ℕ) → q < max_processors
      → bit (handed_over b s p e t).reply.granted q
      ≡ (bit (handed_over b s p e t).state.phases.holding q && (not (bit s.phases.holding q) || eqb q p))
  unfolding both
  grants_exactly q l =
      subst (λ x. bit x.reply.granted q ≡ (holds_at x.state q && (not (holds_at s q) || eqb q p)))
      (sym is_two_acts) (granted_by_both b s t p e late c two_acts q l)

  held_not_entitled : entitled_at s p ≡ false
  held_not_entitled =
      let satisfied = completed_satisfied b.terms s.last (phases_of b s) p t (halves_accepted b s p e t ok).0 in
      right_of_none (bit s.phases.waiting p) _ (sym (ap (λ ph. unsatisfied ph p) (clean_phases b s c)) ∙ satisfied)

  -- The entitled mask contains the processors that are entitled after the handover and were not before.
  pub entitles_exactly : (q : ℕ) → q < max_processors
      → bit (handed_over b s p e t).reply.entitled q
      ≡ (bit (handed_over b s p e t).state.phases.entitled q && not (bit s.phases.entitled q))
  unfolding both
  entitles_exactly q l =
      subst (λ x. bit x.reply.entitled q ≡ (entitled_at x.state q && not (entitled_at s q)))
      (sym is_two_acts) (entitled_by_both b s t p e late c two_acts held_not_entitled q l)
