-- Waits and holds up to a tick t. An act at t and its grants do not change those of the old requests, and a new request
-- has waited 0; later they can only grow. Assumes nothing.
use Prim.Native.Nat.{ℕ, ◌-◌, ◌≤◌, zero-le}
use mathlib.Core.Path.{◌≡◌, refl, ◌∙◌}
use mathlib.Core.Bool.{Bool, true, false, cond}
use native.Mathlib.Nat.{le_refl}
use native.Mathlib.Omega.{arith}
use borrow.Author.Tests.{eq-eqb, ne_eqb}
use Rattle.masks.specs.Sets.{bit}
use Rattle.runs.specs.History.{When, never, at, happened, tick_or, Request, arrival, granting, ending, hold_of}
use Rattle.runs.specs.History.{wait_of}
use Rattle.runs.proofs.history.Cases.{by_processor}

-- The same request, which may have been granted or ended at t: its wait and hold up to t are the same.
pub record Alike (t : ℕ) (r r' : Request) : Type 0 where
  pub processor : r'.processor ≡ r.processor
  pub entry : r'.entry ≡ r.entry
  pub wait : wait_of t r' ≡ wait_of t r
  pub hold : hold_of t r' ≡ hold_of t r
  pub was_open : r'.end ≡ never → r.end ≡ never

pub alike_same : (t : ℕ) (r : Request) → Alike t r r
alike_same t r = record { processor = refl; entry = refl; wait = refl; hold = refl; was_open = λ e. e }

pub alike_through : {t : ℕ} {r r₁ r₂ : Request} → Alike t r r₁ → Alike t r₁ r₂ → Alike t r r₂
alike_through f g =
    record {
      processor = g.processor ∙ f.processor;
      entry = g.entry ∙ f.entry;
      wait = g.wait ∙ f.wait;
      hold = g.hold ∙ f.hold;
      was_open = λ e. f.was_open (g.was_open e);
    }

-- The request with this grant and this end.
abbrev pub timed : Request → When → When → Request
timed r grant end = record { processor = r.processor; entry = r.entry; issued = r.issued; grant = grant; end = end }

itself : (t : ℕ) → t - t ≡ 0
itself t = omega arith

pub granting_alike : (g t : ℕ) (r : Request) → Alike t r (granting g t r)
granting_alike g t r = go r.grant r.end
  where
    open_alike : (u : Bool) → bit g r.processor ≡ u
        → Alike t (timed r never never) (granting g t (timed r never never))
    open_alike true e =
        rw e (record { processor = refl; entry = refl; wait = refl; hold = itself t; was_open = λ e. e })
    open_alike false e = rw e (alike_same t (timed r never never))

    go : (grant end : When) → Alike t (timed r grant end) (granting g t (timed r grant end))
    go never never = open_alike (bit g r.processor) refl
    go never (at d) = alike_same t (timed r never (at d))
    go (at k) never = alike_same t (timed r (at k) never)
    go (at k) (at d) = alike_same t (timed r (at k) (at d))

pub granting_end : (g t : ℕ) (r : Request) → (granting g t r).end ≡ r.end
granting_end g t r = go r.grant r.end
  where
    open_end : (u : Bool) → bit g r.processor ≡ u → (granting g t (timed r never never)).end ≡ never
    open_end true e = rw e
    open_end false e = rw e

    go : (grant end : When) → (granting g t (timed r grant end)).end ≡ end
    go never never = open_end (bit g r.processor) refl
    go never (at d) = refl
    go (at k) never = refl
    go (at k) (at d) = refl

pub ending_alike : (p t : ℕ) (r : Request) → Alike t r (ending p t r)
ending_alike p t r =
    by_processor r.processor p (λ same. go same r.grant r.end)
    (λ other. rw (ne_eqb r.processor p other) (alike_same t r))
  where
    ends : Alike t (timed r never never) (timed r never (at t))
        × ((k : ℕ) → Alike t (timed r (at k) never) (timed r (at k) (at t)))
    ends = (
      record { processor = refl; entry = refl; wait = refl; hold = refl; was_open = λ e. refl },
      λ k. record { processor = refl; entry = refl; wait = refl; hold = refl; was_open = λ e. refl },
    )

    go : r.processor ≡ p → (grant end : When) → Alike t (timed r grant end) (ending p t (timed r grant end))
    go same never never = rw (eq-eqb r.processor p same) ends.0
    go same (at k) never = rw (eq-eqb r.processor p same) (ends.1 k)
    go same grant (at d) = rw (eq-eqb r.processor p same) (alike_same t (timed r grant (at d)))

pub arrival_waits : (p e t : ℕ) → wait_of t (arrival p e t) ≡ 0
arrival_waits p e t = itself t

-- ---- along the ticks

lasting_longer : (n t : ℕ) (grant end : When) → n ≤ t
    → cond (happened grant) (tick_or end n - tick_or grant n) 0 ≤ cond (happened grant) (tick_or end t - tick_or grant t) 0
lasting_longer n t never end l = zero-le
lasting_longer n t (at g) never l = omega arith
lasting_longer n t (at g) (at d) l = le_refl (d - g)

pub hold_grows : (n t : ℕ) (r : Request) → n ≤ t → hold_of n r ≤ hold_of t r
hold_grows n t r l = lasting_longer n t r.grant r.end l
