-- From the contracts of the reader and of the figures to those of the viewer. Assumes nothing.
use Rattle.std.specs.Prelude.{Result, Ok, Err}
use Prim.Native.Nat.{ℕ}
use mathlib.Core.Path.{◌≡◌, sym, ap, ◌∙◌}
use mathlib.Core.List.{List}
use Rattle.refusals.specs.declared.Refusal.{Refusal}
use Rattle.refusals.specs.Number.{number_of}
use Rattle.refusals.specs.Due.{as_numbers}
use Rattle.refusals.proofs.Numbers.{number_not_zero}
use Rattle.plans.specs.Figures.{figures_of}
use Rattle.plans.specs.Reading.{read_fault, read_as_numbers, plan_read, taken_as_numbers, plan_taken}
use Rattle.plans.specs.declared.Figures.{Figures}
use Rattle.plans.specs.declared.Read.{Read}

module _ (s : List ℕ) (answer : Result Read Refusal) (says : taken_as_numbers answer ≡ read_as_numbers s) where
  -- Either figure of the plan that was read.
  pub is_figure : (read : Read) → answer ≡ Ok read → plan_taken answer ≡ plan_read s → (pick : Figures → ℕ)
      → (figures : Figures) → figures ≡ figures_of read.plan
      → pick figures ≡ (as_numbers (read_fault s) (pick (figures_of (plan_read s)))).value
  is_figure read is plan pick figures are =
      let none : read_fault s ≡ 0 =
      sym (ap (λ a. a.number) says) ∙ ap (λ a. (taken_as_numbers a).number) is in
      rw none (ap pick (are ∙ ap figures_of (sym (ap plan_taken is) ∙ plan)))

  -- A refused plan has none.
  pub no_figure : (r : Refusal) → answer ≡ Err r → (x : ℕ) → 0 ≡ (as_numbers (read_fault s) x).value
  no_figure r is x =
      let number : read_fault s ≡ number_of r =
      sym (ap (λ a. a.number) says) ∙ ap (λ a. (taken_as_numbers a).number) is in
      rw (number, number_not_zero r)
