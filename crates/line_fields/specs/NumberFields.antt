-- The fields of a line that are a word and a decimal number, as bytes of ASCII: 10 is a line feed. Specification,
-- section 9.
use Rattle.std.specs.Prelude.{ℕ, List, [], ◌∷◌, ◌++◌}
use Rattle.digits.specs.Digits.{decimal}

-- A word, and its number after it.
abbrev pub labelled : List ℕ → ℕ → List ℕ
labelled word n = word ++ decimal n

-- The same at the end of a line.
abbrev pub last_field : List ℕ → ℕ → List ℕ
last_field word n = word ++ (decimal n ++ (10 ∷ []))
