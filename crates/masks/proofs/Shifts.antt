-- The results of the code's shifts, at any width: one place as a set, and the test that no place is at or above a
-- count. Assumes nothing.
use mathlib.Core.Path.{◌≡◌, refl, sym, ap, ◌∙◌}
use mathlib.Core.Bool.{Bool, true, false}
use Prim.Native.Nat.{ℕ, ◌*◌, ◌/◌, ◌%◌, ◌^◌, ◌<◌, ◌≤◌}
use native.Mathlib.Nat.{one-mul, mod-eq_of_lt, div-eq_of_lt, div-lt_iff_lt-mul, lt_of_lt_of_le}
use native.Mathlib.Omega.{arith}
use lib.Dec.{eqb, ltb, leb}
use lib.Pow.{pow_pos, pow-lt, pow_mono}
use borrow.Author.Tests.{ltb-true, ltb-false, lt-ltb, le-leb, eq-eqb, ne_eqb}

-- A place below the width is not shifted out.
pub one_shifted : (w k : ℕ) → k < w → 1 * 2 ^ k % 2 ^ w ≡ 2 ^ k
one_shifted w k l = ap (λ (x : ℕ). x % 2 ^ w) (one-mul (2 ^ k)) ∙ mod-eq_of_lt (pow-lt l)

-- No place is at or above the count exactly if nothing is left once the set is shifted down by it.
pub none_past : (n c : ℕ) → eqb (n / 2 ^ c) 0 ≡ ltb n (2 ^ c)
none_past n c = go (ltb n (2 ^ c)) refl
  where
    go : (t : Bool) → ltb n (2 ^ c) ≡ t → eqb (n / 2 ^ c) 0 ≡ t
    go true e = eq-eqb (n / 2 ^ c) 0 (div-eq_of_lt (ltb-true n (2 ^ c) e))
    go false e =
        ne_eqb (n / 2 ^ c) 0 (λ z.
        let under : n / 2 ^ c < 1 = omega arith in
        let low : n < 1 * 2 ^ c = (div-lt_iff_lt-mul (pow_pos c)).0 under in
        omega (arith, ltb-false n (2 ^ c) e))

-- A count past the width: the test that it is past the width says the same.
pub all_below : (w n c : ℕ) → n < 2 ^ w → w ≤ c → leb w c ≡ ltb n (2 ^ c)
all_below w n c h l = le-leb w c l ∙ sym (lt-ltb n (2 ^ c) (lt_of_lt_of_le h (pow_mono l)))
