-- Which refusal number is due: each definition of a fault gives a number of the table, or 0 for none. Specification,
-- section 8.
use Rattle.std.specs.Prelude.{ℕ, Bool, cond, eqb}

-- The number if the test fails, or 0 if it holds.
abbrev pub due : Bool → ℕ → ℕ
due holds number = cond holds 0 number

-- Clause 8.2: of two numbers, the one from the earlier check decides, unless it is 0.
abbrev pub first_of : ℕ → ℕ → ℕ
first_of earlier later = cond (eqb earlier 0) later earlier

-- Clause 8.1: an answer of one value as numbers: the number that is due, and the value if that number is 0. A refusal
-- is its number alone, so its value is 0.
pub record AsNumbers : Type 0 where
  pub number : ℕ
  pub value : ℕ

abbrev pub as_numbers : ℕ → ℕ → AsNumbers
as_numbers number value = record { number = number; value = cond (eqb number 0) value 0 }
