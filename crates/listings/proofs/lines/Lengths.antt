-- How long lines and their fields are. Assumes nothing.
use Prim.Native.Nat.{ℕ, ◌+◌, ◌*◌}
use native.Mathlib.Omega.{arith}
use mathlib.Core.Path.{◌≡◌, refl}
use mathlib.Core.List.{List, [], ◌∷◌}
use lib.ListN.{length, length-append}
use Rattle.digits.specs.Digits.{decimal}
use Rattle.listings.specs.PlainLines.{further_fields, numbers_line, refusal_line, fields_line, done_fields}
use Rattle.listings.specs.PlainLines.{refused_fields}

length_end : length (further_fields []) ≡ 1
unfolding further_fields
length_end = refl

length_field : (field : List ℕ) (later : List (List ℕ)) → length (further_fields (field ∷ later))
    ≡ 1 + length field + length (further_fields later)
unfolding further_fields
length_field field later = simp length-append (omega arith)

-- ---- a call's line

pub done_length : (mask : ℕ → List ℕ) (n : ℕ) → ((x : ℕ) → length (mask x) ≡ 2 * n) → (granted entitled late : ℕ)
    → length (further_fields (done_fields mask granted entitled late)) ≡ 4 + 4 * n + length (decimal late)
done_length mask n digits granted entitled late =
    simp (length_field, length_end) (omega (arith, digits granted, digits entitled))

pub refused_length : (n : ℕ) → length (further_fields (refused_fields n)) ≡ 10 + length (decimal n)
refused_length n = simp (length_field, length_end) (omega arith)

pub length_fields : (letter processor tick : ℕ) (fields : List (List ℕ))
    → length (fields_line letter processor tick fields)
    ≡ length (decimal tick) + 3 + length (decimal processor) + length (further_fields fields)
length_fields letter processor tick fields = simp (length-append, length_field) (omega arith)

-- ---- the other lines

pub length_numbers : (m r n read write : ℕ)
    → length (numbers_line m r n read write)
    ≡ 45 + (length (decimal m) + length (decimal r) + length (decimal n) + length (decimal read) + length
    (decimal write))
length_numbers m r n read write = simp (length_field, length_end) (omega arith)

pub length_refusal : (n : ℕ) → length (refusal_line n) ≡ 9 + length (decimal n)
unfolding refusal_line
length_refusal n = simp (length_field, length_end) (omega arith)
