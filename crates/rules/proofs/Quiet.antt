-- Mask places past the last processor are ignored, and if no request is waiting or entitled there is nothing to settle.
-- Assumes nothing.
use mathlib.Core.Path.{◌≡◌, refl}
use Prim.Native.Nat.{ℕ, ◌-◌, ◌^◌}
use lib.Bits.{bit_and, or_zero_r}
use Rattle.masks.proofs.Walks.{none_kept}
use Rattle.masks.proofs.Tests.{cut_is}
use Rattle.plans.specs.Entries.{max_processors}
use Rattle.rules.specs.Requests.{Facts}
use Rattle.rules.specs.Settling.{settled}
use Rattle.rules.specs.inner.Moves.{Follows, unopposed_in, first_in_line}
use Rattle.rules.specs.declared.states.Phases.{Phases}
use Rattle.rules.proofs.FourSteps.{At, at_first, after1, after2, after3, after4, at_last}

-- The masks of any phases, cut to the processors.
pub cut_follows : (ph : Phases)
    → Follows ph (bit_and ph.waiting (2 ^ max_processors - 1)) (bit_and ph.entitled (2 ^ max_processors - 1))
    (bit_and ph.holding (2 ^ max_processors - 1))
cut_follows ph =
    record {
      waits = (cut_is max_processors ph.waiting).is;
      entitles = (cut_is max_processors
          ph.entitled).is;
      holds = (cut_is max_processors ph.holding).is;
    }

-- Without candidates nobody is unopposed, and nobody is first in the queue.
pub none_unopposed : (f : Facts) (others : ℕ) → 0 ≡ unopposed_in f 0 others
none_unopposed f others = none_kept max_processors _ 0 refl

pub none_first : (f : Facts) (others : ℕ) → 0 ≡ first_in_line f 0 others
none_first f others = none_kept max_processors _ 0 refl

at_quiet : {f : Facts} {ph : Phases} {w h : ℕ} → At f ph w 0 0 h → At f (settled f ph) w 0 0 h
unfolding settled
at_quiet {f} at =
    let none = none_unopposed f in
    let one = rw or_zero_r at (after1 at (none _) (none _)) in
    let two = after2 one (none _) (none_first f _) in
    let three = rw or_zero_r at (after3 two (none _)) in
    after4 three (none _) (none _)

pub quiet : (f : Facts) (ph : Phases) (h : ℕ) → Follows ph 0 0 h
    → ◌≡◌ {A = Phases} (record { waiting = 0; entitled = 0; holding = h }) (settled f ph)
quiet f ph h given = at_last ph (record { waiting = 0; entitled = 0; holding = h }) (at_quiet (at_first given refl))
