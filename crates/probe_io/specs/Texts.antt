-- What is shown: bytes in hexadecimal digits, and refusals.
use Rattle.std.specs.Prelude.{ℕ, ◌/◌, ◌%◌, false, List, [], ◌∷◌, ◌++◌, flat_map, codes}
use Rattle.std.specs.Fmt.{decimal, digit_glyph}
use Rattle.refusals.specs.declared.Refusal.{Refusal}
use Rattle.refusals.specs.Number.{number_of}

-- A byte as two digits in lower case, the higher first.
abbrev pub hex_pair : ℕ → List ℕ
hex_pair byte = digit_glyph false (byte / 16) ∷ digit_glyph false (byte % 16) ∷ []

-- The digits of all bytes, one after the other.
abbrev pub hex_of : List ℕ → List ℕ
hex_of bytes = flat_map hex_pair bytes

-- The word `refused`, a space and the number.
abbrev pub refused : Refusal → List ℕ
refused refusal = codes "refused " ++ decimal (number_of refusal)
