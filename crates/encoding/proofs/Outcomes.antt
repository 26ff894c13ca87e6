-- What a known outcome implies for the answer that was expected. Assumes nothing.
use Rattle.std.specs.Prelude.{Result, Ok}
use Prim.Native.Nat.{ℕ}
use mathlib.Core.Path.{◌≡◌, sym, ap, ◌∙◌}
use Rattle.refusals.specs.declared.Refusal.{Refusal}
use Rattle.refusals.specs.Due.{as_numbers}
use Rattle.refusals.proofs.Numbers.{said_accepted}
use Rattle.encoding.specs.Buffers.{outcome_as_numbers}

module _ (o : Result ℕ Refusal) (number value : ℕ) (says : outcome_as_numbers o ≡ as_numbers number value) where
  pub bytes_said : (n : ℕ) → o ≡ Ok n → (number ≡ 0) × (value ≡ n)
  bytes_said n e = said_accepted number value n (sym says ∙ ap outcome_as_numbers e)
