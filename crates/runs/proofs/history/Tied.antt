-- One request of a history and the arbiter's state: how they agree, and that an act and then its grants keep it so.
-- Assumes nothing.
use Prim.Native.Nat.{ℕ, ◌<◌}
use mathlib.Core.Path.{◌≡◌, refl, sym, ap, subst, ◌∙◌}
use mathlib.Core.Bool.{true, not, ◌&&◌, and-false, false≢true}
use mathlib.Core.Logic.{◌⊎◌, inl, inr}
use native.Mathlib.Omega.{arith}
use lib.ListN.{get_or}
use borrow.Author.Tests.{eq-eqb, ne_eqb}
use Rattle.plans.specs.Entries.{max_processors}
use Rattle.rules.specs.declared.states.State.{State}
use Rattle.runs.specs.History.{When, never, at, happened, Request, puts, takes, arrival, granting, ending}
use Rattle.runs.specs.History
use Rattle.runs.proofs.history.Cases.{by_processor}
use Rattle.runs.proofs.history.Spans.{timed}
use Rattle.runs.proofs.columns.Columns.{idle, holding}
use Rattle.runs.proofs.columns.Phases.{clash, Unsatisfied, unsatisfied_or_holding, unsatisfied_active}
use Rattle.runs.proofs.columns.Phases.{unsatisfied_not_holding, holding_stays, idle_was_idle}
use Rattle.runs.proofs.refinement.Clean.{phase_in, entry_for, since_in}
use Rattle.runs.proofs.refinement.Acts.{Same, Begun, Marked, begins, keeps, Settles}

-- The request has no end, and it is the request of its processor in the state.
pub record Open (s : State) (r : Request) : Type 0 where
  pub no_end : r.end ≡ never
  pub below : r.processor < max_processors
  pub entry : entry_for s r.processor ≡ r.entry

pub record Waiting (s : State) (r : Request) : Type 0 where
  pub no_grant : r.grant ≡ never
  pub open_in : Open s r
  pub unsatisfied : Unsatisfied (phase_in s r.processor)
  pub since : since_in s r.processor ≡ r.issued

pub record Holding (s : State) (r : Request) (g : ℕ) : Type 0 where
  pub grant_at : r.grant ≡ at g
  pub open_in : Open s r
  pub held : phase_in s r.processor ≡ holding
  pub since : since_in s r.processor ≡ g

-- A request of the history and what the state says of its processor. A request that has ended, with or without a grant,
-- is not in the state.
pub data Tied (s : State) (r : Request) : Type 0 where
  waits : Waiting s r → Tied s r
  holds : (g : ℕ) → Holding s r g → Tied s r
  ended : (d : ℕ) → r.end ≡ at d → Tied s r

pub never_is_not_at : (t : ℕ) → never ≡ at t → ⊥
never_is_not_at t e = let z : ◌≡◌ {A = ℕ} 0 1 = cc in omega arith

-- A request without an end is its processor's request, and is active.
open_of : (s : State) (r : Request) → Tied s r → r.end ≡ never → Open s r
open_of s r (waits w) e = w.open_in
open_of s r (holds g w) e = w.open_in
open_of s r (ended d k) e = absurd (never_is_not_at d (sym e ∙ k))

pub open_active : (s : State) (r : Request) → Tied s r → r.end ≡ never → phase_in s r.processor ≡ idle → ⊥
open_active s r (waits w) e = unsatisfied_active w.unsatisfied
open_active s r (holds g w) e = λ k. clash w.held k tt
open_active s r (ended d k) e = absurd (never_is_not_at d (sym e ∙ k))

-- A request that holds according to its grant and its end holds in the state.
pub holder_of : (s : State) (r : Request) → Tied s r → History.holds r ≡ true → (g : ℕ) × Holding s r g
holder_of s r (waits w) e =
    absurd (false≢true (sym (ap (λ m. happened m && not (happened r.end)) w.no_grant) ∙ e))
holder_of s r (holds g w) e = (g, w)
holder_of s r (ended d k) e =
    absurd (false≢true (sym (ap (λ m. happened r.grant && not (happened m)) k ∙ and-false (happened r.grant))
    ∙ e))

-- ---- what an act and its grants do to a request

pub ending_other : (p t : ℕ) (r : Request) → (r.processor ≡ p → ⊥) → ending p t r ≡ r
ending_other p t r other = rw (ne_eqb r.processor p other)

-- ---- the act

-- A request of a processor that the act leaves alone.
tied_untouched : (s x : State) (r : Request) → (r.end ≡ never → Same s x r.processor) → Tied s r → Tied x r
tied_untouched s x r same tied = go tied
  where
    open_on : Open s r → Open x r
    open_on w = record { no_end = w.no_end; below = w.below; entry = (same w.no_end).entry ∙ w.entry }

    go : Tied s r → Tied x r
    go (waits w) =
        let o = same w.open_in.no_end in
        waits
        (record {
          no_grant = w.no_grant;
          open_in = open_on w.open_in;
          unsatisfied = subst Unsatisfied (sym o.phase) w.unsatisfied;
          since = o.since ∙ w.since;
        })
    go (holds g w) =
        let o = same w.open_in.no_end in
        holds g
        (record {
          grant_at = w.grant_at;
          open_in = open_on w.open_in;
          held = o.phase ∙ w.held;
          since = o.since
              ∙ w.since;
        })
    go (ended d e) = ended d e

-- When a request is added, no old request of its processor is without an end.
pub tied_put : (s x : State) (t p e : ℕ) → Begun s x t (puts p e) → (r : Request) → Tied s r → Tied x r
tied_put s x t p e f r tied =
    tied_untouched s x r
    (λ no_end.
    f.others _ (open_of s r tied no_end).below
    (λ same. open_active s r tied no_end (ap (phase_in s) same ∙ f.own.was_idle))) tied

pub tied_arrival : (s x : State) (t p e : ℕ) → Begun s x t (puts p e) → Tied x (arrival p e t)
tied_arrival s x t p e f =
    waits
    (record {
      no_grant = refl;
      open_in = record { no_end = refl; below = f.below; entry = f.own.entry };
      unsatisfied = inl f.own.now_waiting;
      since = f.own.since;
    })

-- When a request is removed, in whatever phase, it ends.
pub tied_taken : (s x : State) (t p : ℕ) → Begun s x t (takes p) → (r : Request) → Tied s r → Tied x (ending p t r)
tied_taken s x t p f r tied =
    by_processor r.processor p (λ same. go same r.grant r.end)
    (λ other.
    rw (ne_eqb r.processor p other)
    (tied_untouched s x r (λ no_end. f.others _ (open_of s r tied no_end).below other) tied))
  where
    go : r.processor ≡ p → (grant end : When) → Tied x (ending p t (timed r grant end))
    go same grant never = rw (eq-eqb r.processor p same) (ended t refl)
    go same grant (at d) = rw (eq-eqb r.processor p same) (ended d refl)

-- ---- the grants

module _ (x s' : State) (g : ℕ) (h : Settles x s' g) (r : Request) where
  abbrev p : ℕ
  p = r.processor

  open_after : {grant : When} → Open x (timed r grant never) → (grant' : When) → Open s' (timed r grant' never)
  open_after w grant' = record { no_end = refl; below = w.below; entry = ap (λ l. get_or l p 0) h.entry ∙ w.entry }

  waiting_after : Waiting x (timed r never never) → Tied s' (granting g x.last (timed r never never))
  waiting_after w = go (h.marked p w.open_in.below)
    where
      still : (phase_in s' p ≡ holding → phase_in x p ≡ holding) → Unsatisfied (phase_in s' p) ⊎ (phase_in s' p ≡ holding)
          → Unsatisfied (phase_in s' p)
      still k (inl u) = u
      still k (inr e) = absurd (unsatisfied_not_holding w.unsatisfied (k e))

      go : Marked x s' g p → Tied s' (granting g x.last (timed r never never))
      go (begins m k d e) =
          rw m (holds x.last (record {
            grant_at = refl;
            open_in = open_after w.open_in
                (at x.last);
            held = k;
            since = e;
          }))
      go (keeps m k e) =
          rw m
          (waits
          (record {
            no_grant = refl;
            open_in = open_after w.open_in never;
            unsatisfied =
                still k
                (unsatisfied_or_holding (phase_in s' p)
                (λ i. unsatisfied_active w.unsatisfied (idle_was_idle (h.rises p w.open_in.below) i)));
            since = e ∙ w.since;
          }))

  holding_after : (j k : ℕ) → Holding x (timed r (at j) never) k → Tied s' (timed r (at j) never)
  holding_after j k w = holds k (go (h.marked p w.open_in.below))
    where
      go : Marked x s' g p → Holding s' (timed r (at j) never) k
      go (begins m a d e) = absurd (d w.held)
      go (keeps m a e) =
          record {
            grant_at = w.grant_at;
            open_in = open_after w.open_in (at j);
            held = holding_stays (h.rises p w.open_in.below) w.held;
            since = e ∙ w.since;
          }

  after : (grant end : When) → Tied x (timed r grant end) → Tied s' (granting g x.last (timed r grant end))
  after never never (waits w) = waiting_after w
  after never never (holds k w) = absurd (never_is_not_at k w.grant_at)
  after never never (ended d e) = absurd (never_is_not_at d e)
  after (at j) never (waits w) = absurd (never_is_not_at j (sym w.no_grant))
  after (at j) never (holds k w) = holding_after j k w
  after (at j) never (ended d e) = absurd (never_is_not_at d e)
  after never (at d) tied = ended d refl
  after (at j) (at d) tied = ended d refl

  pub tied_granted : Tied x r → Tied s' (granting g x.last r)
  tied_granted = after r.grant r.end
