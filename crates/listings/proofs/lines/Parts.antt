-- The lines in the parts that are stored: a lead and the fields after it. Assumes nothing.
use Prim.Native.Nat.{ℕ, ◌+◌, ◌≤◌}
use native.Mathlib.Omega.{arith}
use mathlib.Core.Path.{◌≡◌, refl}
use mathlib.Core.List.{List, [], ◌∷◌, ◌++◌, append_assoc}
use lib.ListN.{length, length-append}
use Rattle.digits.specs.Digits.{decimal}
use Rattle.digits.proofs.DecimalDigits.{some_digit}
use Rattle.line_fields.specs.Leads.{call_lead}
use Rattle.line_fields.specs.NumberFields.{last_field}
use Rattle.listings.specs.PlainLines.{refused_word, further_fields, fields_line, refused_fields, refusal_line}

-- The fields after the lead of a refused call.
abbrev pub refused_tail : ℕ → List ℕ
refused_tail number = last_field (32 ∷ refused_word ++ (32 ∷ [])) number

module _ (letter processor tick : ℕ) where
  pub refused_parts : (number : ℕ)
      → fields_line letter processor tick (refused_fields number) ≡ call_lead letter processor tick ++ refused_tail number
  unfolding further_fields
  refused_parts number = simp append_assoc

  pub some_lead : 1 ≤ length (call_lead letter processor tick)
  some_lead = simp length-append (omega (arith, some_digit tick))

pub fault_parts : (number : ℕ) → refusal_line number ≡ last_field (refused_word ++ (32 ∷ [])) number
unfolding refusal_line further_fields
fault_parts number = refl

pub some_fault : (number : ℕ) → 1 ≤ length (last_field (refused_word ++ (32 ∷ [])) number)
some_fault number = simp length-append (omega arith)

pub refused_tail_length : (number d : ℕ) → d ≡ length (decimal number) → 10 + d ≡ length (refused_tail number)
refused_tail_length number d e = simp length-append (omega arith)
