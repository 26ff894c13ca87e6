-- Along every list of calls the state and the history stay related, and what is required of the arbiter at each act is
-- true of the history at the end. Assumes nothing.
use Prim.Native.Nat.{ℕ, ◌≤◌, ◌<◌}
use mathlib.Core.Path.{◌≡◌, refl, sym, ap, ap₂, subst, subst₂, ◌∙◌}
use mathlib.Core.Bool.{Bool, true, false}
use mathlib.Core.List.{List, [], ◌∷◌}
use native.Mathlib.Omega.{arith}
use lib.ListN.{length, get_or}
use borrow.Author.Tests.{ne_eqb}
use Rattle.masks.specs.Sets.{bit}
use Rattle.rules.specs.declared.calls.Call.{Call}
use Rattle.rules.specs.CallNumbers.{tick_of}
use Rattle.rules.specs.declared.states.Board.{Board}
use Rattle.rules.specs.declared.states.State.{State}
use Rattle.rules.specs.Calls.{both, answered}
use Rattle.boards.specs.Fresh.{fresh_state}
use Rattle.runs.specs.Events.{events, state_after}
use Rattle.runs.specs.History.{History, Act, puts, takes, all_acting, counting, counted_in, nothing, holds}
use Rattle.runs.specs.Claim.{request}
use Rattle.runs.proofs.history.Frame.{BothAllowed, Answers, refused, acts, replaces, answers}
use Rattle.runs.proofs.history.Tied.{holder_of}
use Rattle.runs.proofs.history.Related.{Related, Step, related_fresh, after_act, act_counted}
use Rattle.runs.proofs.history.Together.{either, after_acts, after_both, both_counted}
use Rattle.runs.proofs.history.Keeps.{Keeps, Waits, keeps_earlier, keeps_before, waits_on, kept_to, waits_later}
use Rattle.runs.proofs.history.Arbiter.{length_on, bound_on, Kept, Arbiter}
use Rattle.runs.proofs.refinement.Clean.{Clean, fresh_clean}
use Rattle.runs.proofs.refinement.Acts.{grants_in, state_after_act, Allowed, act_done}

module _ (b : Board) (group : ℕ → Bool) (Lr Lw : ℕ) (A : Arbiter b group Lr Lw) where
  -- A state and the history that led to it.
  pub record Reached (s : State) (h : History) : Type 0 where
    pub clean : Clean b s
    pub safe : A.Safe s
    pub related : Related s h

  pub record OnTime (s : State) (h : History) : Type 0 where
    pub timed : A.Timed s
    pub waited : Waits (bound_on b Lr Lw) group h.last h

  -- ---- one call

  -- A call is refused and changes nothing, or an act is carried out at a tick t; or one outcome follows another.
  data Outcome : State → State → History → History → Type 0 where
    unchanged : {s s' : State} {h h' : History} → s' ≡ s → h' ≡ h → Outcome s s' h h'
    taken : {s s' : State} {h h' : History} (t : ℕ) → s.last ≤ t → h'.last ≡ t → Step t h h' s' → Clean b s'
        → A.Safe s'
        → (A.Timed s → Kept b group s t → A.Timed s') → Outcome s s' h h'
    follows : {s s₁ s' : State} {h h₁ h' : History} → Outcome s s₁ h h₁ → Outcome s₁ s' h₁ h' → Outcome s s' h h'

  -- An act that is carried out, whichever call does so.
  act_outcome : (s : State) (h : History) (t : ℕ) (a : Act) → Reached s h → Allowed b s t a
      → Outcome s (state_after_act b s t a) h (after_act h t a (grants_in b s t a))
  act_outcome s h t a r k =
      let done = act_done b s t a r.clean k in
      taken t k.in_time refl (act_counted b s t a _ _ done h r.related) done.clean
      (A.safe_act s t a r.clean r.safe k)
      (λ timed kept. A.timed_act s t a r.clean r.safe timed kept k)

  reached_next : {s s' : State} {h h' : History} → Reached s h → Outcome s s' h h' → Reached s' h'
  reached_next r (unchanged same-state same-history) = subst₂ Reached (sym same-state) (sym same-history) r
  reached_next r (taken t in_time now step clean safe timed) =
      record { clean = clean; safe = safe; related = step.related }
  reached_next r (follows one two) = reached_next (reached_next r one) two

  -- Two acts that are carried out at one tick, counted together.
  both_outcome : (s : State) (h : History) (t p e : ℕ) → Reached s h → BothAllowed b s t p e
      → Outcome s (state_after_act b (state_after_act b s t (takes p)) t (puts p e)) h (after_both b s h t p e)
  both_outcome s h t p e r k =
      let one = act_outcome s h t (takes p) r k.first in
      let s₁ : State = state_after_act b s t (takes p) in
      let h₁ : History = after_act h t (takes p) (grants_in b s t (takes p)) in
      subst (Outcome s (state_after_act b s₁ t (puts p e)) h) (sym (both_counted b s t p r.clean k.first h e))
      (follows one (act_outcome s₁ h₁ t (puts p e) (reached_next r one) k.second))

  outcome : (c : Call) (s : State) (h : History) → Reached s h
      → Outcome s (answered b s c).state h (counting h c (answered b s c).reply)
  unfolding all_acting both
  outcome c s h r = go (answers b s r.clean c)
    where
      go : Answers b s c → Outcome s (answered b s c).state h (counting h c (answered b s c).reply)
      go (refused n due same) =
          unchanged {h = h} (ap (λ x. x.state) same) (ap (λ x. counting h c x.reply) same ∙ rw (ne_eqb n 0 due))
      go (acts a late one k same) =
          let t : ℕ = tick_of c in
          subst (λ x. Outcome s x.state h (counting h c x.reply)) (sym same)
          (subst (λ l. Outcome s (state_after_act b s t a) h (after_acts h t l (grants_in b s t a))) (sym one)
          (act_outcome s h t a r k))
      go (replaces p e late two k same) =
          let t : ℕ = tick_of c in
          let s₁ : State = state_after_act b s t (takes p) in
          let g : ℕ = either (grants_in b s t (takes p)) (grants_in b s₁ t (puts p e)) in
          subst (λ x. Outcome s x.state h (counting h c x.reply)) (sym same)
          (subst (λ l. Outcome s (state_after_act b s₁ t (puts p e)) h (after_acts h t l g)) (sym two)
          (both_outcome s h t p e r k))

  -- If the holders keep to their lengths after an act, they kept to them up to its tick before it, and before that.
  keeps_at : {h h' : History} (t : ℕ) → h'.last ≡ t → (s' : State) → Step t h h' s'
      → Keeps (length_on b) group h'.last h'
      → Keeps (length_on b) group t h
  keeps_at {h} {h'} t now s' step keeps =
      keeps_before (length_on b) group t h h' step.advanced
      (subst (λ (n : ℕ). Keeps (length_on b) group n h') now keeps)

  keeps_next : {s s' : State} {h h' : History} → Reached s h → Outcome s s' h h'
      → Keeps (length_on b) group h'.last h'
      → Keeps (length_on b) group h.last h
  keeps_next r (unchanged same-state same-history) keeps =
      subst (λ x. Keeps (length_on b) group x.last x) same-history keeps
  keeps_next {s' = s'} {h = h} r (taken t in_time now step clean safe timed) keeps =
      keeps_earlier (length_on b) group h.last t h (omega (arith, r.related.last)) (keeps_at t now s' step keeps)
  keeps_next r (follows one two) keeps = keeps_next r one (keeps_next (reached_next r one) two keeps)

  on_time_next : {s s' : State} {h h' : History} → Reached s h → OnTime s h → Outcome s s' h h'
      → Keeps (length_on b) group h'.last h'
      → OnTime s' h'
  on_time_next r o (unchanged same-state same-history) keeps = subst₂ OnTime (sym same-state) (sym same-history) o
  on_time_next {s} {s'} {h} {h'} r o (taken t in_time now step clean safe timed) keeps =
      let kept : Kept b group s t = kept_to (length_on b) group s t h r.related (keeps_at t now s' step keeps) in
      let later : Waits (bound_on b Lr Lw) group t h =
      waits_later (bound_on b Lr Lw) group s h.last t h r.related
      (A.bounded s t r.clean r.safe o.timed kept) o.waited in
      record {
        timed = timed o.timed kept;
        waited =
            subst (λ (n : ℕ). Waits (bound_on b Lr Lw) group n h') (sym now)
            (waits_on (bound_on b Lr Lw) group t h h' step.advanced later);
      }
  on_time_next r o (follows one two) keeps =
      let next = reached_next r one in
      on_time_next next (on_time_next r o one (keeps_next next two keeps)) two keeps

  -- ---- every list of calls

  pub run : (calls : List Call) (s : State) (h : History) → Reached s h
      → (s' : State) × Reached s' (counted_in h (events b s calls))
  unfolding events counted_in
  run [] s h r = (s, r)
  run (c ∷ later) s h r =
      run later (answered b s c).state (counting h c (answered b s c).reply) (reached_next r (outcome c s h r))

  -- The state that the calls leave and the history of the calls are related too.
  pub run_to : (calls : List Call) (s : State) (h : History) → Reached s h
      → Reached (state_after b s calls) (counted_in h (events b s calls))
  unfolding events counted_in state_after
  run_to [] s h r = r
  run_to (c ∷ later) s h r =
      run_to later (answered b s c).state (counting h c (answered b s c).reply) (reached_next r (outcome c s h r))

  -- If the holders keep to their lengths at the end, they do so at the start.
  keeps_first : (calls : List Call) (s : State) (h : History) → Reached s h
      → Keeps (length_on b) group (counted_in h (events b s calls)).last (counted_in h (events b s calls))
      → Keeps (length_on b) group h.last h
  unfolding events counted_in
  keeps_first [] s h r keeps = keeps
  keeps_first (c ∷ later) s h r keeps =
      keeps_next r (outcome c s h r)
      (keeps_first later (answered b s c).state (counting h c (answered b s c).reply)
      (reached_next r (outcome c s h r)) keeps)

  pub run_on_time : (calls : List Call) (s : State) (h : History) → Reached s h → OnTime s h
      → Keeps (length_on b) group (counted_in h (events b s calls)).last (counted_in h (events b s calls))
      → Waits (bound_on b Lr Lw) group (counted_in h (events b s calls)).last (counted_in h (events b s calls))
  unfolding events counted_in
  run_on_time [] s h r o keeps = o.waited
  run_on_time (c ∷ later) s h r o keeps =
      let next = reached_next r (outcome c s h r) in
      run_on_time later (answered b s c).state (counting h c (answered b s c).reply) next
      (on_time_next r o (outcome c s h r)
      (keeps_first later (answered b s c).state (counting h c (answered b s c).reply) next keeps))
      keeps

  pub reached_fresh : Reached fresh_state nothing
  reached_fresh = record { clean = fresh_clean b; safe = A.safe_fresh; related = related_fresh }

  pub on_time_fresh : OnTime fresh_state nothing
  on_time_fresh = record { timed = A.timed_fresh; waited = λ i l. absurd (omega arith) }

  -- ---- what is claimed of a history that is reached

  pub reached_exclusive : (s : State) (h : History) → Reached s h → (i j : ℕ) → i < length h.requests
      → j < length h.requests → (i ≡ j → ⊥)
      → holds (request h i) ≡ true → holds (request h j) ≡ true
      → bit (get_or b.rows (request h i).entry 0) (request h j).entry ≡ false
  reached_exclusive s h r i j li lj different hi hj =
      let u = (holder_of s (request h i) (r.related.each i li) hi).1 in
      let v = (holder_of s (request h j) (r.related.each j lj) hj).1 in
      let apart : (request h i).processor ≡ (request h j).processor → ⊥ =
      λ same.
      different
      (r.related.apart (request h j).processor i j
      (record { listed = li; no_end = u.open_in.no_end; processor = same })
      (record { listed = lj; no_end = v.open_in.no_end; processor = refl })) in
      ap₂ (λ (e f : ℕ). bit (get_or b.rows e 0) f) (sym u.open_in.entry) (sym v.open_in.entry)
      ∙ A.exclusive s (request h i).processor (request h j).processor r.clean r.safe u.open_in.below
      v.open_in.below apart
      u.held v.held
