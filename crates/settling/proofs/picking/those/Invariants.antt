-- `those` meets its contract: what is left is among the processors, and the walk keeps those that pass. Assumes
-- nothing.
use mathlib.Core.Path.{◌≡◌}
use mathlib.Core.Bool.{Bool, true}
use Prim.Native.Nat.{ℕ, ◌<◌}
use Rattle.masks.specs.Sets.{bit}
use Rattle.masks.proofs.Walks.{Left, Kept}
use Rattle.plans.specs.Entries.{max_processors}
use Rattle.settling.proofs.picking.those.Given as goal

abbrev pub invariant-loop-p : goal.invariant-loop-p
invariant-loop-p g l = record {
  next : (goal.iterator-loop-p g).can_next l.p-iterator;
  ends : (goal.iterator-loop-p g).is_finite l.p-iterator;
  walk : Left max_processors 32 l.p-iterator.0;
  within : (p : ℕ) → bit l.p-iterator.0 p ≡ true → bit l.fn.among p ≡ true;
  kept : (P : ℕ → Bool)
      → ((p : ℕ) (r : Bool) → p < max_processors → bit l.fn.among p ≡ true → goal.F-post g l.passes p r → r ≡ P p)
      → Kept max_processors 32 P l.fn.among l.p-iterator.0 l.out;
}
