-- `processors_of` meets its contract, for fewer processors than a state has places for, and for as many or more.
-- Assumes nothing.
use mathlib.Core.Path.{refl, sym, ap, ◌∙◌}
use Prim.Native.Nat.{ℕ, ◌-◌}
use native.Mathlib.Omega.{arith}
use borrow.Author.Tests.{lt-ltb}
use Rattle.masks.proofs.Shifts.{one_shifted}
use Rattle.plans.specs.Entries.{max_processors}
use Rattle.settling.proofs.counted_requests.Cleaning.{processors_are}
use Rattle.settling.proofs.counted_requests.processors_of.Goals as goal

pub returns-then-m : goal.returns-then-m
returns-then-m c =
    ap (λ (x : ℕ). x - 1) (one_shifted 32 _ (omega arith))
    ∙ processors_are c.args.terms _ (omega arith) (λ k l. refl)

pub returns-else-m : goal.returns-else-m
returns-else-m c =
    processors_are c.args.terms max_processors (omega arith)
    (λ k l. lt-ltb k max_processors l ∙ sym (lt-ltb k _ (omega arith)))
