-- The places in the result of each operation on sets, at any width, and the width of the result. Assumes nothing.
use mathlib.Core.Path.{◌≡◌, refl, sym, ap, ap₂, ◌∙◌}
use mathlib.Core.Bool.{Bool, true, false, cond, not, ◌&&◌, ◌||◌, and-true, and-false, or-false}
use Prim.Native.Nat.{ℕ, zero, suc, ◌-◌, ◌/◌, ◌%◌, ◌^◌, ◌<◌, ◌≤◌, min, max}
use native.Mathlib.Nat.{div-eq_of_lt, zero-div, lt_of_lt_of_le, lt_of_le_of_lt}
use native.Mathlib.Omega.{arith}
use lib.Bits.{bit_and, bit_or, and_step, or_step, and_le_l, and_le_r, or_lt}
use lib.Dec.{eqb, ltb, eqb-zero-suc, eqb-suc-zero, eqb-suc-suc}
use lib.Pow.{pow_pos, pow_mono, pow-lt}
use borrow.Author.Tests.{eqb-true, ltb-true, ltb-false, lt-ltb, le-ltb}
use Rattle.masks.specs.Sets.{bit, complement, without, added, removed}
use Rattle.masks.proofs.Digits.{bit_lowest, bit_suc, by_digit, by_digits, digit_lt, half_lt, ltb_none, ltb_first}
use Rattle.masks.proofs.Digits.{ltb_suc}

pub bit_past : (w n k : ℕ) → n < 2 ^ w → w ≤ k → bit n k ≡ false
unfolding bit
bit_past w n k h l = ap (λ (x : ℕ). eqb (x % 2) 1) (div-eq_of_lt (lt_of_lt_of_le h (pow_mono l)))

-- A place past the width is in no set: the test that it is below the width says so already.
pub not_within : (w n k : ℕ) → n < 2 ^ w → w ≤ k → ltb k w ≡ bit n k
not_within w n k h l = le-ltb k w l ∙ sym (bit_past w n k h l)

pub bit_zero : (k : ℕ) → bit 0 k ≡ false
unfolding bit
bit_zero k = ap (λ (x : ℕ). eqb (x % 2) 1) (zero-div (2 ^ k))

-- ---- and, or

min_test : (x y : ℕ) → x < 2 → y < 2 → eqb (min x y) 1 ≡ (eqb x 1 && eqb y 1)
min_test = by_digits (λ x y. eqb (min x y) 1 ≡ (eqb x 1 && eqb y 1)) refl refl refl refl

max_test : (x y : ℕ) → x < 2 → y < 2 → eqb (max x y) 1 ≡ (eqb x 1 || eqb y 1)
max_test = by_digits (λ x y. eqb (max x y) 1 ≡ (eqb x 1 || eqb y 1)) refl refl refl refl

-- An operation that combines digits with f combines places with the test g.
module _ (op : ℕ → ℕ → ℕ) (f : ℕ → ℕ → ℕ) (g : Bool → Bool → Bool)
    (low : (a b : ℕ) → op a b % 2 ≡ f (a % 2) (b % 2))
    (rest : (a b : ℕ) → op a b / 2 ≡ op (a / 2) (b / 2))
    (test : (x y : ℕ) → x < 2 → y < 2 → eqb (f x y) 1 ≡ g (eqb x 1) (eqb y 1)) where
  by_places : (a b k : ℕ) → bit (op a b) k ≡ g (bit a k) (bit b k)
  by_places a b zero =
      bit_lowest (op a b) ∙ ap (λ (x : ℕ). eqb x 1) (low a b) ∙ test (a % 2) (b % 2) (digit_lt a) (digit_lt b)
      ∙ ap₂ g (sym (bit_lowest a)) (sym (bit_lowest b))
  by_places a b (suc k) =
      bit_suc (op a b) k ∙ ap (λ (x : ℕ). bit x k) (rest a b) ∙ by_places (a / 2) (b / 2) k
      ∙ ap₂ g (sym (bit_suc a k)) (sym (bit_suc b k))

and_low : (a b : ℕ) → bit_and a b % 2 ≡ min (a % 2) (b % 2)
and_low a b = omega (arith, and_step a b)

and_rest : (a b : ℕ) → bit_and a b / 2 ≡ bit_and (a / 2) (b / 2)
and_rest a b = omega (arith, and_step a b)

or_low : (a b : ℕ) → bit_or a b % 2 ≡ max (a % 2) (b % 2)
or_low a b = omega (arith, or_step a b)

or_rest : (a b : ℕ) → bit_or a b / 2 ≡ bit_or (a / 2) (b / 2)
or_rest a b = omega (arith, or_step a b)

pub bit_and_law : (a b k : ℕ) → bit (bit_and a b) k ≡ (bit a k && bit b k)
bit_and_law = by_places bit_and min ◌&&◌ and_low and_rest min_test

pub bit_or_law : (a b k : ℕ) → bit (bit_or a b) k ≡ (bit a k || bit b k)
bit_or_law = by_places bit_or max ◌||◌ or_low or_rest max_test

-- The union with another set if a test holds.
pub bit_or_if : (a b k : ℕ) (t : Bool) → bit (cond t (bit_or a b) a) k ≡ (bit a k || (t && bit b k))
bit_or_if a b k true = bit_or_law a b k
bit_or_if a b k false = sym (or-false (bit a k))

-- ---- complement, without

flip_test : (d : ℕ) → d < 2 → eqb (1 - d) 1 ≡ not (eqb d 1)
flip_test = by_digit (λ d. eqb (1 - d) 1 ≡ not (eqb d 1)) refl refl

complement_low : (w n : ℕ) → n < 2 ^ suc w → complement (suc w) n % 2 ≡ 1 - n % 2
complement_low w n h = omega arith

complement_rest : (w n : ℕ) → n < 2 ^ suc w → complement (suc w) n / 2 ≡ complement w (n / 2)
complement_rest w n h = omega arith

pub bit_complement : (w n k : ℕ) → n < 2 ^ w → bit (complement w n) k ≡ (ltb k w && not (bit n k))
bit_complement zero n k h =
    let none : complement 0 n ≡ 0 = omega arith in
    ap (λ (x : ℕ). bit x k) none ∙ bit_zero k ∙ ap (λ t. t && not (bit n k)) (sym (ltb_none k))
bit_complement (suc w) n zero h =
    bit_lowest (complement (suc w) n) ∙ ap (λ (x : ℕ). eqb x 1) (complement_low w n h) ∙ flip_test (n % 2) (digit_lt n)
    ∙ ap₂ (λ t u. t && not u) (sym (ltb_first w)) (sym (bit_lowest n))
bit_complement (suc w) n (suc k) h =
    bit_suc (complement (suc w) n) k ∙ ap (λ (x : ℕ). bit x k) (complement_rest w n h)
    ∙ bit_complement w (n / 2) k (half_lt w n h)
    ∙ ap₂ (λ t u. t && not u) (sym (ltb_suc k w)) (sym (bit_suc n k))

-- A place of a set of width w is below w.
pub bit_within : (w n k : ℕ) (t : Bool) → n < 2 ^ w → (bit n k && (ltb k w && t)) ≡ (bit n k && t)
bit_within w n k t h = go (ltb k w) refl
  where
    go : (u : Bool) → ltb k w ≡ u → (bit n k && (u && t)) ≡ (bit n k && t)
    go true e = refl
    go false e = and-false (bit n k) ∙ ap (λ b. b && t) (sym (bit_past w n k h (ltb-false k w e)))

pub bit_without : (w a b k : ℕ) → a < 2 ^ w → b < 2 ^ w → bit (without w a b) k ≡ (bit a k && not (bit b k))
bit_without w a b k ha hb =
    bit_and_law a (complement w b) k ∙ ap (λ t. bit a k && t) (bit_complement w b k hb)
    ∙ bit_within w a k (not (bit b k)) ha

-- ---- one place

pub bit_single : (p k : ℕ) → bit (2 ^ p) k ≡ eqb k p
unfolding bit
bit_single zero zero = refl
bit_single zero (suc k) = bit_suc 1 k ∙ bit_zero k ∙ sym (eqb-suc-zero k)
bit_single (suc p) zero =
    let even : 2 ^ suc p % 2 ≡ 0 = omega arith in
    bit_lowest (2 ^ suc p) ∙ ap (λ (x : ℕ). eqb x 1) even ∙ sym (eqb-zero-suc p)
bit_single (suc p) (suc k) =
    let half : 2 ^ suc p / 2 ≡ 2 ^ p = omega arith in
    bit_suc (2 ^ suc p) k ∙ ap (λ (x : ℕ). bit x k) half ∙ bit_single p k ∙ sym (eqb-suc-suc k p)

pub bit_added : (n p k : ℕ) → bit (added n p) k ≡ (bit n k || eqb k p)
bit_added n p k = bit_or_law n (2 ^ p) k ∙ ap (λ t. bit n k || t) (bit_single p k)

pub bit_removed : (w n p k : ℕ) → n < 2 ^ w → p < w → bit (removed w n p) k ≡ (bit n k && not (eqb k p))
bit_removed w n p k h l = bit_without w n (2 ^ p) k h (pow-lt l) ∙ ap (λ t. bit n k && not t) (bit_single p k)

-- ---- one place, if a test holds: the code adds and removes only a place below the width

pub bit_added_if : (n p k : ℕ) (t : Bool) → bit (cond t (added n p) n) k ≡ (bit n k || (eqb k p && t))
bit_added_if n p k true = bit_added n p k ∙ ap (λ u. bit n k || u) (sym (and-true (eqb k p)))
bit_added_if n p k false = sym (or-false (bit n k)) ∙ ap (λ u. bit n k || u) (sym (and-false (eqb k p)))

-- A place past the width is not in the set, so there is nothing to remove.
pub bit_removed_if : (w n p k : ℕ) → n < 2 ^ w → bit (cond (ltb p w) (removed w n p) n) k ≡ (bit n k && not (eqb k p))
bit_removed_if w n p k h = go (ltb p w) refl
  where
    absent : (u : Bool) → eqb k p ≡ u → w ≤ p → bit n k ≡ (bit n k && not u)
    absent true e l =
        let same : k ≡ p = eqb-true k p e in
        bit_past w n k h (omega arith) ∙ sym (and-false (bit n k))
    absent false e l = sym (and-true (bit n k))

    go : (t : Bool) → ltb p w ≡ t → bit (cond t (removed w n p) n) k ≡ (bit n k && not (eqb k p))
    go true e = bit_removed w n p k h (ltb-true p w e)
    go false e = absent (eqb k p) refl (ltb-false p w e)

-- ---- the results stay within the width

pub wider : {w W n : ℕ} → w ≤ W → n < 2 ^ w → n < 2 ^ W
wider fit h = lt_of_lt_of_le h (pow_mono fit)

pub and_below : (w a b : ℕ) → a < 2 ^ w → bit_and a b < 2 ^ w
and_below w a b h = lt_of_le_of_lt (and_le_l a b) h

pub or_below : (w a b : ℕ) → a < 2 ^ w → b < 2 ^ w → bit_or a b < 2 ^ w
or_below w a b ha hb = or_lt w a b ha hb

pub without_below : (w a b : ℕ) → a < 2 ^ w → without w a b < 2 ^ w
without_below w a b h = and_below w a (complement w b) h

pub added_below : (w n p : ℕ) → n < 2 ^ w → p < w → added n p < 2 ^ w
added_below w n p h l = or_lt w n (2 ^ p) h (pow-lt l)

pub removed_below : (w n p : ℕ) → n < 2 ^ w → removed w n p < 2 ^ w
removed_below w n p h = without_below w n (2 ^ p) h

-- ---- the first w places: 2 ^ w - 1

pub bit_ones : (w k : ℕ) → bit (2 ^ w - 1) k ≡ ltb k w
bit_ones w k =
    let none : 2 ^ w - 1 ≡ complement w 0 = omega arith in
    ap (λ (x : ℕ). bit x k) none ∙ bit_complement w 0 k (pow_pos w) ∙ ap (λ t. ltb k w && not t) (bit_zero k)
    ∙ and-true (ltb k w)

pub bit_first : (w n k : ℕ) → k < w → bit (bit_and n (2 ^ w - 1)) k ≡ bit n k
bit_first w n k l = bit_and_law n (2 ^ w - 1) k ∙ ap (λ t. bit n k && t) (bit_ones w k ∙ lt-ltb k w l) ∙ and-true (bit n k)

pub ones_below : (w : ℕ) → 2 ^ w - 1 < 2 ^ w
ones_below w = omega (arith, pow_pos w)

pub first_below : (w n : ℕ) → bit_and n (2 ^ w - 1) < 2 ^ w
first_below w n = lt_of_le_of_lt (and_le_r n (2 ^ w - 1)) (ones_below w)
