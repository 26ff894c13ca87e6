-- Sets of one width with the same places are equal, and a set contains only places below w exactly if it is below
-- 2 ^ w. Assumes nothing.
use mathlib.Core.Path.{◌≡◌, refl, sym, ◌∙◌}
use mathlib.Core.Bool.{false}
use Prim.Native.Nat.{ℕ, zero, suc, ◌/◌, ◌%◌, ◌^◌, ◌<◌, ◌≤◌, suc-le-suc, zero-le}
use native.Mathlib.Nat.{div-le_self, lt_of_le_of_lt, zero-lt-suc}
use native.Mathlib.Omega.{arith}
use lib.Dec.{eqb}
use lib.Pow.{pow_pos}
use borrow.Author.Tests.{eqb-true}
use Rattle.masks.specs.Sets.{bit}
use Rattle.masks.proofs.Digits.{bit_lowest, bit_suc, by_digits, digit_lt, half_lt}
use Rattle.masks.proofs.Places.{bit_zero}

-- Two digits are equal if both are 1 or neither is.
same_digit : (x y : ℕ) → x < 2 → y < 2 → eqb x 1 ≡ eqb y 1 → x ≡ y
same_digit =
    by_digits (λ x y. eqb x 1 ≡ eqb y 1 → x ≡ y) (λ e. refl) (λ e. eqb-true 0 1 e) (λ e. sym (eqb-true 0 1 (sym e)))
    (λ e. refl)

pub same_places : (w a b : ℕ) → a < 2 ^ w → b < 2 ^ w → ((k : ℕ) → k < w → bit a k ≡ bit b k) → a ≡ b
same_places zero a b ha hb same = omega arith
same_places (suc w) a b ha hb same =
    let half : a / 2 ≡ b / 2 = same_places w (a / 2) (b / 2) (half_lt w a ha) (half_lt w b hb)
    (λ k l. sym (bit_suc a k) ∙ same (suc k) (suc-le-suc l) ∙ bit_suc b k) in
    let low : a % 2 ≡ b % 2 = same_digit (a % 2) (b % 2) (digit_lt a) (digit_lt b)
    (sym (bit_lowest a) ∙ same 0 (zero-lt-suc w) ∙ bit_lowest b) in
    omega arith

-- The converse is `bit_past`.
pub below_by_places : (w n v : ℕ) → n < 2 ^ v → ((k : ℕ) → w ≤ k → bit n k ≡ false) → n < 2 ^ w
below_by_places zero n v h past =
    let none : n ≡ 0 = same_places v n 0 h (pow_pos v) (λ k l. past k zero-le ∙ sym (bit_zero k)) in
    omega arith
below_by_places (suc w) n v h past =
    let half : n / 2 < 2 ^ w =
    below_by_places w (n / 2) v (lt_of_le_of_lt (div-le_self n 2) h)
    (λ k l. sym (bit_suc n k) ∙ past (suc k) (suc-le-suc l)) in
    omega arith
