-- A reply in numbers. Specification, section 4.
use Rattle.std.specs.Prelude.{ℕ, Result, Ok, Err}
use Rattle.refusals.specs.declared.Refusal.{Refusal}
use Rattle.refusals.specs.Number.{number_of}
use Rattle.rules.specs.declared.calls.Done.{Done}

-- Clauses 4.7 and 4.9: the refusal's number, 0 if the call is accepted; the granted mask, the entitled mask and late. A
-- refusal is only its number, so the other three are then 0.
pub record Response : Type 0 where
  pub number : ℕ
  pub granted : ℕ
  pub entitled : ℕ
  pub late : ℕ

abbrev pub reply_as_numbers : Result Done Refusal → Response
reply_as_numbers (Ok done) =
    record { number = 0; granted = done.granted; entitled = done.entitled; late = done.late }
reply_as_numbers (Err r) = record { number = number_of r; granted = 0; entitled = 0; late = 0 }

-- A refusal, given its number.
abbrev pub refused_with : ℕ → Response
refused_with number = record { number = number; granted = 0; entitled = 0; late = 0 }
