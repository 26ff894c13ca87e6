-- An act on a clean state is a call of the columns. Assumes nothing.
use Prim.Native.Nat.{ℕ, ◌<◌}
use mathlib.Core.Path.{◌≡◌, sym, subst, ◌∙◌}
use mathlib.Core.Bool.{Bool}
use Rattle.plans.specs.Entries.{max_processors}
use Rattle.rules.specs.declared.states.Phases.{Phases}
use Rattle.rules.specs.Requests.{Facts}
use Rattle.rules.specs.Settling.{step1, step2, step3, settled}
use Rattle.rules.specs.declared.states.Board.{Board}
use Rattle.rules.specs.declared.states.State.{State}
use Rattle.rules.specs.Calls.{facts_of}
use Rattle.runs.specs.History.{Act, puts, takes}
use Rattle.runs.proofs.history.Cases.{by_processor}
use Rattle.runs.proofs.columns.Columns.{idle, Start, puts_in, takes_out, Stamp, arrives, Called}
use Rattle.runs.proofs.columns.Phases.{clash, idle_stays}
use Rattle.runs.proofs.columns.Moves.{write_kept1}
use Rattle.runs.proofs.refinement.State.{requests_of, phase_of, Tidy}
use Rattle.runs.proofs.refinement.Steps.{first_step, first_leaves, second_step, third_step, fourth_step}
use Rattle.runs.proofs.refinement.Steps.{step1_tidy, step2_tidy, step3_tidy}
use Rattle.runs.proofs.refinement.First.{stopped_after}
use Rattle.runs.proofs.refinement.Clean.{phase_in, since_in, Clean}
use Rattle.runs.proofs.refinement.Starts.{put_in_law, taken_out_law}
use Rattle.runs.proofs.refinement.Acts.{caller_of, start_of, state_after_act, Allowed, Same, Own, Begun, start_tidy}
use Rattle.runs.proofs.refinement.Acts.{Marked, begins, keeps, Settles, act_done}

-- ---- the ticks

own_stamp : (s x s' : State) (g t : ℕ) (a : Act) → x.last ≡ t → Own s x t a → caller_of a < max_processors
    → Settles x s' g
    → Stamp t (phase_in s (caller_of a)) (phase_in s' (caller_of a)) (since_in s (caller_of a)) (since_in s' (caller_of a))
own_stamp s x s' g t (puts p e) now o l h = arrives o.was_idle (go (h.marked p l))
  where
    go : Marked x s' g p → since_in s' p ≡ t
    go (begins m k d f) = f ∙ now
    go (keeps m k f) = f ∙ o.since
own_stamp s x s' g t (takes p) now o l h =
    let gone : phase_in s' p ≡ idle = idle_stays (h.rises p l) o.now_idle in
    Stamp.keeps (λ k. absurd (clash gone k tt)) (λ k. gone) (go gone (h.marked p l))
  where
    go : phase_in s' p ≡ idle → Marked x s' g p → since_in s' p ≡ since_in s p
    go gone (begins m k d f) = absurd (clash gone k tt)
    go gone (keeps m k f) = f ∙ o.since

other_stamp : (s x s' : State) (g t q : ℕ) → x.last ≡ t → Same s x q → q < max_processors → Settles x s' g
    → Stamp t (phase_in s q) (phase_in s' q) (since_in s q) (since_in s' q)
other_stamp s x s' g t q now o l h = go (h.marked q l)
  where
    go : Marked x s' g q → Stamp t (phase_in s q) (phase_in s' q) (since_in s q) (since_in s' q)
    go (begins m k d f) = Stamp.begins k (λ z. d (o.phase ∙ z)) (f ∙ now)
    go (keeps m k f) =
        Stamp.keeps (λ z. sym o.phase ∙ k z) (λ z. idle_stays (h.rises q l) (o.phase ∙ z)) (f ∙ o.since)

stamps : (s x s' : State) (g t : ℕ) (a : Act) → Begun s x t a → Settles x s' g → (i : ℕ) → i < max_processors
    → Stamp t (phase_in s i) (phase_in s' i) (since_in s i) (since_in s' i)
stamps s x s' g t a k h i l =
    by_processor i (caller_of a)
    (λ same.
    subst (λ (q : ℕ). Stamp t (phase_in s q) (phase_in s' q) (since_in s q) (since_in s' q)) (sym same)
    (own_stamp s x s' g t a k.last k.own k.below h))
    (λ other. other_stamp s x s' g t i k.last (k.others i l other) l h)

-- ---- the call

-- A call at t in the columns, from s to s'.
abbrev pub CallOf : Board → (ℕ → Bool) → State → ℕ → State → Type 0
CallOf b G s t s' =
    Called max_processors t (requests_of (facts_of b s) G) (requests_of (facts_of b s') G) (phase_in s) (phase_in s')
    (since_in s)
    (since_in s')

module _ (b : Board) (G : ℕ → Bool) (s : State) (t : ℕ) (c : Clean b s) where
  start : (a : Act) → Allowed b s t a
      → Start max_processors (requests_of (facts_of b s) G) (requests_of (facts_of b (start_of s t a)) G) (phase_in s)
      (phase_in (start_of s t a))
  start (puts p e) k =
      puts_in p
      (put_in_law b.rows b.terms.writes s.requested s.earlier s.phases p e G c.entry_length c.tidy
      k.below
      k.may.was_idle)
  start (takes p) k = takes_out p (taken_out_law s.phases p (requests_of (facts_of b s) G) k.below k.may.was_active)

  pub act_called : (a : Act) → Allowed b s t a → CallOf b G s t (state_after_act b s t a)
  unfolding settled
  act_called a k =
      let x = start_of s t a in
      let f : Facts = facts_of b x in
      let zero : Tidy x.phases = start_tidy b s t c a k in
      let y₁ : Phases = step1 f x.phases in
      let one : Tidy y₁ = step1_tidy f _ zero in
      let two = step2_tidy f _ one in
      let three = step3_tidy f _ two in
      let first = first_step f G x.phases zero in
      let done = act_done b s t a c k in
      record {
        ph₀ = phase_in x;
        ph₁ = phase_of y₁;
        ph₂ = phase_of (step2 f y₁);
        ph₃ = phase_of (step3 f (step2 f y₁));
        start = start a k;
        first = first;
        left =
            λ i l read w. stopped_after (λ j m v. write_kept1 (first j m) v)
            (first_leaves f G x.phases zero i l read w);
        second = second_step f G y₁ one;
        third = third_step f G (step2 f y₁) two;
        fourth = fourth_step f G (step3 f (step2 f y₁)) three;
        stamps = stamps s done.start (state_after_act b s t a) _ t a done.begun done.settles;
      }
