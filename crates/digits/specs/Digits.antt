-- How numbers are written in a listing, as bytes of ASCII: 48 is `0`, 97 is `a`. Specification, clause 9.9.
use Rattle.std.specs.Prelude.{ℕ, zero, suc, ◌+◌, ◌/◌, ◌%◌, cond, List, [], ◌∷◌, ◌++◌, ltb, get_or}
use Rattle.encoding.specs.Numbers.{number, bytes_of}

-- The last k digits of a number, without leading zeros.
unfoldable pub digits : ℕ → ℕ → List ℕ
digits zero n = []
digits (suc k) n = cond (ltb n 10) ((48 + n) ∷ []) (digits k (n / 10) ++ ((48 + n % 10) ∷ []))

-- Clause 9.9: a decimal number. No number in a listing has more than 20 digits.
abbrev pub decimal : ℕ → List ℕ
decimal n = digits 20 n

-- Clause 9.9: a hexadecimal digit, `a` to `f` in lower case.
abbrev pub hex_digit : ℕ → ℕ
hex_digit d = cond (ltb d 10) (48 + d) (87 + d)

-- Clause 9.9: a byte as two hexadecimal digits, the higher first.
abbrev pub hex_pair : ℕ → List ℕ
hex_pair byte = hex_digit (byte / 16) ∷ hex_digit (byte % 16) ∷ []

-- Clause 9.9: the n low bytes of a mask, the highest first, each with the digits that `pair` gives for it.
unfoldable pub mask_in : (ℕ → List ℕ) → ℕ → ℕ → List ℕ
mask_in pair zero mask = []
mask_in pair (suc n) mask = mask_in pair n (mask / 256) ++ pair (mask % 256)

-- Clause 9.9: a mask of n bytes in hexadecimal digits.
abbrev pub hex_mask : ℕ → ℕ → List ℕ
hex_mask n mask = mask_in hex_pair n mask

-- The pairs of n bytes from b on, each as a number of two bytes (clause 2.1); and the table of the pairs of all 256
-- bytes.
unfoldable pub pairs_from : ℕ → ℕ → List ℕ
pairs_from b zero = []
pairs_from b (suc n) = number (hex_pair b) ∷ pairs_from (suc b) n

unfoldable pub hex_pairs : List ℕ
hex_pairs = pairs_from 0 256

-- A mask of n bytes, with the digits that a table of pairs contains for them.
abbrev pub mask_by : List ℕ → ℕ → ℕ → List ℕ
mask_by pairs n mask = mask_in (λ byte. bytes_of 2 (get_or pairs byte 0)) n mask
