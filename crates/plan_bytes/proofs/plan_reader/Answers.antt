-- What a refusal returns: its number, and the blank plan. Assumes nothing.
use Rattle.std.specs.Prelude.{Result, Err}
use Prim.Native.Nat.{ℕ}
use mathlib.Core.Path.{◌≡◌, sym, ap, ◌∙◌}
use mathlib.Core.Bool.{cond}
use lib.Dec.{eqb}
use Rattle.refusals.specs.declared.Refusal.{Refusal}
use Rattle.refusals.specs.Number.{number_of}
use Rattle.refusals.specs.Due.{as_numbers}
use Rattle.refusals.proofs.Numbers.{number_positive, number_not_zero, said_refusal}
use Rattle.plans.specs.declared.Plan.{Plan}
use Rattle.plans.specs.declared.Read.{Read}
use Rattle.plans.specs.Reading.{blank_plan, taken_as_numbers, plan_taken}

pub refused_only : (read : Result Read Refusal) (r : Refusal) → read ≡ Err r
    → (fault : ℕ) → fault ≡ number_of r → (n : ℕ) (p : Plan)
    → (taken_as_numbers read ≡ as_numbers fault n) × (plan_taken read ≡ cond (eqb fault 0) p blank_plan)
refused_only read r e fault f n p = (
  ap taken_as_numbers e ∙ sym (ap (λ k. as_numbers k n) f ∙ said_refusal (number_of r) n (number_positive r)),
  ap plan_taken e ∙ sym (ap (λ k. cond (eqb k 0) p blank_plan) f ∙ ap (λ t. cond t p blank_plan) (number_not_zero r)),
)
