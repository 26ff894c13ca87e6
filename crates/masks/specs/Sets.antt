-- Clauses 1.6 and 2.6: sets of small numbers as the bits of one number. Bit p of a mask is processor p, and bit r of an
-- entry's names is resource r. A set of width w is a number below 2 ^ w.
use Rattle.std.specs.Prelude.{ℕ, zero, suc, ◌+◌, ◌-◌, ◌/◌, ◌%◌, ◌^◌, Bool, false, cond, not, ◌||◌, eqb}
use Rattle.std.specs.Int.Bits.{bit_and, bit_or}

-- Place k is in the set n.
unfoldable pub bit : ℕ → ℕ → Bool
bit n k = eqb (n / 2 ^ k % 2) 1

-- The places below the width w that are not in the set n.
abbrev pub complement : ℕ → ℕ → ℕ
complement w n = 2 ^ w - 1 - n

-- The places of a that are not in b, both of width w.
abbrev pub without : ℕ → ℕ → ℕ → ℕ
without w a b = bit_and a (complement w b)

-- The set n with place k added.
abbrev pub added : ℕ → ℕ → ℕ
added n k = bit_or n (2 ^ k)

-- The set n of width w with place k removed.
abbrev pub removed : ℕ → ℕ → ℕ → ℕ
removed w n k = without w n (2 ^ k)

-- The two sets share a place.
abbrev pub meets : ℕ → ℕ → Bool
meets a b = not (eqb (bit_and a b) 0)

-- Some number below n passes the test.
unfoldable pub some : ℕ → (ℕ → Bool) → Bool
some zero p = false
some (suc n) p = some n p || p n

-- The set of the numbers below n that pass the test.
unfoldable pub mask_of : ℕ → (ℕ → Bool) → ℕ
mask_of zero p = 0
mask_of (suc n) p = mask_of n p + cond (p n) (2 ^ n) 0

-- How many numbers below n pass the test.
unfoldable pub count_of : ℕ → (ℕ → Bool) → ℕ
count_of zero p = 0
count_of (suc n) p = count_of n p + cond (p n) 1 0

-- The lowest number below n that passes the test, or n if none does. proofs/Counts.antt proves that it passes and that
-- no smaller number does.
unfoldable pub lowest_of : ℕ → (ℕ → Bool) → ℕ
lowest_of zero p = 0
lowest_of (suc n) p = cond (some n p) (lowest_of n p) (cond (p n) n (suc n))
