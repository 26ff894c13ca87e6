-- One act on a clean state, processor by processor: a request is added, or removed in whatever phase, and then the four
-- steps settle. Assumes nothing.
use Prim.Native.Nat.{ℕ, ◌≤◌, ◌<◌}
use mathlib.Core.Path.{◌≡◌, refl, sym, ap, subst, ◌∙◌}
use mathlib.Core.Bool.{Bool, true, false, cond}
use native.Mathlib.Nat.{le_refl, le_trans}
use native.Mathlib.Omega.{arith}
use lib.Dec.{eqb}
use mathlib.Core.List.{List}
use lib.ListN.{length, get_or, set, length-set}
use borrow.Author.Tests.{eq-eqb, ne_eqb, not-true, not-false}
use Rattle.masks.specs.Sets.{bit, mask_of}
use Rattle.masks.proofs.Masks.{bit_mask_at}
use Rattle.masks.proofs.Truth.{and_left, and_right}
use Rattle.plans.specs.Entries.{max_processors}
use Rattle.masks.proofs.Tabulate.{length_tabulate, get_d_tabulate}
use Rattle.rules.specs.declared.states.Phases.{Phases}
use Rattle.rules.specs.Requests.{Facts}
use Rattle.rules.specs.Settling.{settled}
use Rattle.rules.specs.declared.states.Board.{Board}
use Rattle.rules.specs.declared.states.State.{State}
use Rattle.rules.specs.Acts.{put_in, put_last, taken_out, began, stamped}
use Rattle.rules.specs.Calls.{facts_of}
use Rattle.runs.specs.History.{Act, puts, takes}
use Rattle.runs.specs.Claim.{every_entry}
use Rattle.runs.proofs.history.Cases.{by_processor, get_d_set}
use Rattle.runs.proofs.columns.Columns.{idle, waiting, holding}
use Rattle.runs.proofs.columns.Phases.{true_not_false, Rises, rises_rises, idle_stays}
use Rattle.runs.proofs.columns.Moves.{rises1, rises2, rises3, rises4}
use Rattle.runs.proofs.refinement.State.{phase_of, Tidy, held_phase, held_bit, Becomes, moved, kept}
use Rattle.runs.proofs.refinement.State.{becomes_tidy}
use Rattle.runs.proofs.refinement.Steps.{second_fails, first_step, second_step, third_step, fourth_step}
use Rattle.runs.proofs.refinement.Steps.{step1_tidy, step2_tidy, step3_tidy, step4_tidy}
use Rattle.runs.proofs.refinement.Clean.{phase_in, entry_for, since_in, Clean}
use Rattle.runs.proofs.refinement.Starts.{put_moves, take_moves}

-- ---- what an act does to a state

-- The processor whose request is added or removed.
abbrev pub caller_of : Act → ℕ
caller_of (puts p e) = p
caller_of (takes p) = p

-- The state with the act carried out at tick t, before it settles. ph contains the phases of the requests of s that
-- count.
abbrev pub start_from : Phases → State → ℕ → Act → State
start_from ph s t (puts p e) =
    record {
      last = t;
      phases = put_in ph p;
      since = set s.since p t;
      earlier = put_last
          s.earlier ph p;
      requested = set s.requested p e;
    }
start_from ph s t (takes p) =
    record { last = t; phases = taken_out ph p; since = s.since; earlier = s.earlier; requested = s.requested }

abbrev pub start_of : State → ℕ → Act → State
start_of s t a = start_from s.phases s t a

-- The phases, the state and the mask of grants that settling leaves.
abbrev pub phases_after : Board → State → ℕ → Act → Phases
phases_after b s t a = settled (facts_of b (start_of s t a)) (start_of s t a).phases

abbrev pub settled_from : State → Phases → State
settled_from x ph =
    record {
      last = x.last;
      phases = ph;
      since = stamped x.since x.phases ph
          x.last;
      earlier = x.earlier;
      requested = x.requested;
    }

abbrev pub state_after_act : Board → State → ℕ → Act → State
state_after_act b s t a = settled_from (start_of s t a) (phases_after b s t a)

abbrev pub grants_of : State → Phases → ℕ
grants_of x ph = mask_of max_processors (began x.phases ph)

abbrev pub grants_in : Board → State → ℕ → Act → ℕ
grants_in b s t a = grants_of (start_of s t a) (phases_after b s t a)

-- ---- which acts are accepted

pub record MayPut (b : Board) (s : State) (p e : ℕ) : Type 0 where
  pub in_plan_law : p < b.terms.processors
  pub listed : e < b.terms.count
  pub was_idle : phase_in s p ≡ idle

-- A request may be removed in any phase.
pub record MayTake (s : State) (p : ℕ) : Type 0 where
  pub was_active : phase_in s p ≡ idle → ⊥

abbrev pub May : Board → State → Act → Type 0
May b s (puts p e) = MayPut b s p e
May b s (takes p) = MayTake s p

pub record Allowed (b : Board) (s : State) (t : ℕ) (a : Act) : Type 0 where
  pub in_time : s.last ≤ t
  pub below : caller_of a < max_processors
  pub may : May b s a

-- ---- the act is carried out

-- Processor q's request is the same in both states.
pub record Same (s x : State) (q : ℕ) : Type 0 where
  pub entry : entry_for x q ≡ entry_for s q
  pub since : since_in x q ≡ since_in s q
  pub phase : phase_in x q ≡ phase_in s q

pub record NewIn (s x : State) (t p e : ℕ) : Type 0 where
  pub was_idle : phase_in s p ≡ idle
  pub now_waiting : phase_in x p ≡ waiting
  pub entry : entry_for x p ≡ e
  pub since : since_in x p ≡ t

pub record GoneFrom (s x : State) (p : ℕ) : Type 0 where
  pub now_idle : phase_in x p ≡ idle
  pub since : since_in x p ≡ since_in s p

-- What the act does to the request of its own processor.
abbrev pub Own : State → State → ℕ → Act → Type 0
Own s x t (puts p e) = NewIn s x t p e
Own s x t (takes p) = GoneFrom s x p

-- From s to x, with the act carried out at tick t.
pub record Begun (s x : State) (t : ℕ) (a : Act) : Type 0 where
  pub last : x.last ≡ t
  pub below : caller_of a < max_processors
  pub others : (q : ℕ) → q < max_processors → (q ≡ caller_of a → ⊥) → Same s x q
  pub own : Own s x t a

module _ (b : Board) (s : State) (t : ℕ) (c : Clean b s) where
  pub begun : (a : Act) → Allowed b s t a → Begun s (start_of s t a) t a
  begun (puts p e) k =
      record {
        last = refl;
        below = k.below;
        others = λ q l other.
            record {
              entry = stored s.requested e q c.entry_length
                  ∙ ap (λ u. cond u e (entry_for s q)) (ne_eqb q p other);
              since = stored s.since t q c.since_length ∙ ap (λ u. cond u t (since_in s q)) (ne_eqb q p other);
              phase = kept moves q l (ne_eqb q p other);
            };
        own =
            record {
              was_idle = k.may.was_idle;
              now_waiting = moved moves p k.below (eq-eqb p p refl);
              entry = stored s.requested e p c.entry_length ∙ ap (λ u. cond u e (entry_for s p)) (eq-eqb p p refl);
              since = stored s.since t p c.since_length ∙ ap (λ u. cond u t (since_in s p)) (eq-eqb p p refl);
            };
      }
    where
      moves : Becomes waiting (λ q. eqb q p) s.phases (put_in s.phases p)
      moves = put_moves s.phases p c.tidy k.may.was_idle

      stored : (l : List ℕ) (x q : ℕ) → length l ≡ max_processors → get_or (set l p x) q 0 ≡ cond (eqb q p) x (get_or l q 0)
      stored l x q full = get_d_set l p x q 0 (omega (arith, k.below, full))
  begun (takes p) k =
      record {
        last = refl;
        below = k.below;
        others =
            λ q l other. record {
              entry = refl;
              since = refl;
              phase = kept (take_moves s.phases p) q l
                  (ne_eqb q p other);
            };
        own = record { now_idle = moved (take_moves s.phases p) p k.below (eq-eqb p p refl); since = refl };
      }

  pub start_tidy : (a : Act) → Allowed b s t a → Tidy (start_of s t a).phases
  start_tidy (puts p e) k = becomes_tidy (put_moves s.phases p c.tidy k.may.was_idle) c.tidy
  start_tidy (takes p) k = becomes_tidy (take_moves s.phases p) c.tidy

  start_lengths : (a : Act) → (length (start_of s t a).requested ≡ max_processors)
      × (length (start_of s t a).since ≡ max_processors)
  start_lengths (puts p e) = (
    length-set s.requested p e ∙ c.entry_length,
    length-set s.since p t
        ∙ c.since_length,
  )
  start_lengths (takes p) = (c.entry_length, c.since_length)

  -- What `Clean` requires of the caller's own request.
  abbrev Counts : State → ℕ → Type 0
  Counts x q = (q < b.terms.processors) × (entry_for x q < b.terms.count) × (since_in x q ≤ t)

  own_counts : (a : Act) (x : State) → Allowed b s t a → Own s x t a → (phase_in x (caller_of a) ≡ idle → ⊥)
      → Counts x (caller_of a)
  own_counts (puts p e) x k o a = (k.may.in_plan_law, rw o.entry k.may.listed, rw o.since (le_refl t))
  own_counts (takes p) x k o a = absurd (a o.now_idle)

  other_counts : (x : State) (q : ℕ) → s.last ≤ t → q < max_processors → Same s x q → (phase_in x q ≡ idle → ⊥)
      → Counts x q
  other_counts x q in_time l o a =
      let before : phase_in s q ≡ idle → ⊥ = λ k. a (o.phase ∙ k) in
      let plan = c.in_plan_law q l before in
      (plan.0, rw o.entry plan.1, rw o.since (le_trans (c.dated q l before) in_time))

  start_counts : (a : Act) (x : State) → Allowed b s t a → Begun s x t a → (q : ℕ) → q < max_processors
      → (phase_in x q ≡ idle → ⊥) → Counts x q
  start_counts a x k begun q l active =
      by_processor q (caller_of a)
      (λ same. subst (Counts x) (sym same) (own_counts a x k begun.own (λ i. active (ap (phase_in x) same ∙ i))))
      (λ other. other_counts x q k.in_time l (begun.others q l other) active)

  start_clean : (a : Act) → Allowed b s t a → Clean b (start_of s t a)
  start_clean a k =
      let f = begun a k in
      let counts = start_counts a (start_of s t a) k f in
      record {
        tidy = start_tidy a k;
        in_plan_law = λ q l active. ((counts q l active).0, (counts q l active).1);
        entry_length = (start_lengths a).0;
        since_length = (start_lengths a).1;
        dated = λ q l active. subst (λ (n : ℕ). since_in (start_of s t a) q ≤ n) (sym f.last) (counts q l active).2;
      }

-- ---- the steps settle

-- Whether processor q's bit is in the mask g of grants, and what that means.
pub data Marked (x s' : State) (g q : ℕ) : Type 0 where
  begins : bit g q ≡ true → phase_in s' q ≡ holding → (phase_in x q ≡ holding → ⊥) → since_in s' q ≡ x.last
      → Marked x s' g q
  keeps : bit g q ≡ false → (phase_in s' q ≡ holding → phase_in x q ≡ holding) → since_in s' q ≡ since_in x q
      → Marked x s' g q

-- From x to s' by the steps, with the mask g of grants.
pub record Settles (x s' : State) (g : ℕ) : Type 0 where
  pub last : s'.last ≡ x.last
  pub entry : s'.requested ≡ x.requested
  pub rises : (q : ℕ) → q < max_processors → Rises (phase_in x q) (phase_in s' q)
  pub marked : (q : ℕ) → q < max_processors → Marked x s' g q

module _ (f : Facts) (y : Phases) (tidy : Tidy y) where
  pub settled_tidy : Tidy (settled f y)
  unfolding settled
  settled_tidy = step4_tidy f _ (step3_tidy f _ (step2_tidy f _ (step1_tidy f y tidy)))

pub settled_rises : (f : Facts) (G : ℕ → Bool) (x : Phases) → Tidy x → (q : ℕ) → q < max_processors
    → Rises (phase_of x q) (phase_of (settled f x) q)
unfolding settled
settled_rises f G x tidy q l =
    let one = step1_tidy f x tidy in
    let two = step2_tidy f _ one in
    let three = step3_tidy f _ two in
    rises_rises (rises1 (first_step f G x tidy q l))
    (rises_rises (rises2 (second_step f G _ one q l))
    (rises_rises (rises3 (third_step f G _ two q l)) (rises4 (fourth_step f G _ three q l))))

marked_at : (x : State) (ph : Phases) (q : ℕ) → q < max_processors → Marked x (settled_from x ph) (grants_of x ph) q
unfolding stamped
marked_at x ph q l = go (began x.phases ph q) refl
  where
    since : since_in (settled_from x ph) q ≡ cond (began x.phases ph q) x.last (since_in x q)
    since = get_d_tabulate max_processors (λ p. cond (began x.phases ph p) x.last (since_in x p)) q 0 l

    go : (t : Bool) → began x.phases ph q ≡ t → Marked x (settled_from x ph) (grants_of x ph) q
    go true e =
        begins (bit_mask_at max_processors (began x.phases ph) q l ∙ e)
        (held_phase ph q (and_left (bit ph.holding q) _ e))
        (λ k. true_not_false (held_bit x.phases q k)
        (not-true (bit x.phases.holding q) (and_right (bit ph.holding q) _ e)))
        (since ∙ ap (λ u. cond u x.last (since_in x q)) e)
    go false e =
        keeps (bit_mask_at max_processors (began x.phases ph) q l ∙ e)
        (λ k.
        held_phase x.phases q
        (not-false (bit x.phases.holding q) (second_fails (bit ph.holding q) _ e (held_bit ph q k))))
        (since ∙ ap (λ u. cond u x.last (since_in x q)) e)

settles_clean : (b : Board) (x : State) (ph : Phases) (g : ℕ) → Clean b x → Tidy ph → Settles x (settled_from x ph) g
    → Clean b (settled_from x ph)
unfolding stamped
settles_clean b x ph g c tidy s =
    record {
      tidy = tidy;
      in_plan_law = λ q l a. c.in_plan_law q l (active q l a);
      entry_length = c.entry_length;
      since_length = full;
      dated = λ q l a. go q (c.dated q l (active q l a)) (s.marked q l);
    }
  where
    full : length (settled_from x ph).since ≡ max_processors
    full = length_tabulate max_processors _

    active : (q : ℕ) → q < max_processors → (phase_of ph q ≡ idle → ⊥) → phase_in x q ≡ idle → ⊥
    active q l a k = a (idle_stays (s.rises q l) k)

    go : (q : ℕ) → since_in x q ≤ x.last → Marked x (settled_from x ph) g q → since_in (settled_from x ph) q ≤ x.last
    go q d (begins m h k e) = omega (arith, e)
    go q d (keeps m h e) = omega (arith, e)

-- ---- the accepted act

-- From s to s', with the mask g of grants, through the state with the act carried out.
pub record ActDone (b : Board) (s : State) (t : ℕ) (a : Act) (s' : State) (g : ℕ) : Type 0 where
  pub start : State
  pub begun : Begun s start t a
  pub settles : Settles start s' g
  pub clean : Clean b s'

pub act_done : (b : Board) (s : State) (t : ℕ) (a : Act) → Clean b s → Allowed b s t a
    → ActDone b s t a (state_after_act b s t a) (grants_in b s t a)
act_done b s t a c k =
    let x = start_of s t a in
    let ph = phases_after b s t a in
    let tidy = start_tidy b s t c a k in
    let settles : Settles x (settled_from x ph) (grants_of x ph) =
    record {
      last = refl;
      entry = refl;
      rises = settled_rises (facts_of b x) every_entry
          x.phases tidy;
      marked = marked_at x ph;
    } in
    record {
      start = x;
      begun = begun b s t c a k;
      settles = settles;
      clean =
          settles_clean b x ph (grants_of x ph) (start_clean b s t c a k)
          (settled_tidy (facts_of b x) _ tidy) settles;
    }
