-- The line of an accepted call in the parts that are stored: the lead and the fields after it. Assumes nothing.
use Prim.Native.Nat.{ℕ, ◌+◌, ◌*◌}
use native.Mathlib.Omega.{arith}
use mathlib.Core.Path.{◌≡◌}
use mathlib.Core.List.{List, [], ◌∷◌, ◌++◌, append_assoc}
use lib.ListN.{length, length-append}
use Rattle.digits.specs.Digits.{decimal, mask_by}
use Rattle.line_fields.specs.Leads.{call_lead}
use Rattle.line_fields.specs.NumberFields.{last_field}
use Rattle.line_fields.specs.MaskFields.{mask_fields}
use Rattle.line_fields.proofs.MaskLengths.{length_mask}
use Rattle.listings.specs.PlainLines.{further_fields, fields_line, done_fields}

-- The fields after the lead.
abbrev pub done_tail : List ℕ → ℕ → ℕ → ℕ → ℕ → List ℕ
done_tail pairs n granted entitled late = mask_fields pairs n granted entitled ++ last_field (32 ∷ []) late

pub done_parts : (letter processor tick : ℕ) (pairs : List ℕ) (n granted entitled late : ℕ)
    → fields_line letter processor tick (done_fields (mask_by pairs n) granted entitled late)
    ≡ call_lead letter processor tick ++ done_tail pairs n granted entitled late
unfolding further_fields
done_parts letter processor tick pairs n granted entitled late = simp append_assoc

pub done_tail_length : (pairs : List ℕ) (n k granted entitled late d : ℕ) → k ≡ n → d ≡ length (decimal late)
    → 4 + 4 * k + d ≡ length (done_tail pairs n granted entitled late)
done_tail_length pairs n k granted entitled late d size e =
    simp length-append (omega (arith, length_mask pairs n granted, length_mask pairs n entitled))
