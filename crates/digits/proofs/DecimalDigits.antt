-- Decimal numbers: one more digit, two more digits, and how many digits there are. Assumes nothing.
use Prim.Native.Nat.{ℕ, zero, suc, ◌+◌, ◌*◌, ◌/◌, ◌%◌, ◌^◌, ◌≤◌, ◌<◌}
use native.Mathlib.Nat.{pow-succ'}
use native.Mathlib.Omega.{arith}
use mathlib.Core.Path.{◌≡◌, refl, sym, ap, ◌∙◌}
use mathlib.Core.Bool.{Bool, true, false}
use mathlib.Core.List.{[], ◌∷◌, ◌++◌, append_assoc}
use borrow.Author.Tests.{lt-ltb, le-ltb, ltb-true, ltb-false}
use lib.Dec.{ltb}
use lib.ListN.{length, length-append}
use Rattle.digits.specs.Digits.{digits, decimal}

one_digit : (k n : ℕ) → n < 10 → digits (suc k) n ≡ (48 + n) ∷ []
unfolding digits
one_digit k n h = rw (lt-ltb n 10 h) refl

more_digits : (k n : ℕ) → 10 ≤ n → digits (suc k) n ≡ digits k (n / 10) ++ ((48 + n % 10) ∷ [])
unfolding digits
more_digits k n h = rw (le-ltb n 10 h) refl

tenth : (k n : ℕ) → n < 10 ^ suc k → n / 10 < 10 ^ k
tenth k n h = let e : 10 ^ suc k ≡ 10 * 10 ^ k = pow-succ' 10 k in omega arith

-- There is one digit, or there are more.
data Size (n : ℕ) : Type 0 where
  small : n < 10 → Size n
  large : 10 ≤ n → Size n

size : (n : ℕ) → Size n
size n = go (ltb n 10) refl
  where
    go : (b : Bool) → ltb n 10 ≡ b → Size n
    go true e = small (ltb-true n 10 e)
    go false e = large (ltb-false n 10 e)

-- If so many digits are enough, one more changes nothing.
enough_digits : (k n : ℕ) → n < 10 ^ suc k → digits (suc (suc k)) n ≡ digits (suc k) n
enough_digits zero n h = one_digit 1 n h ∙ sym (one_digit 0 n h)
enough_digits (suc k) n h =
    elim (size n) [
      | small s ↦ one_digit (suc (suc k)) n s ∙ sym (one_digit (suc k) n s)
      | large l ↦ more_digits (suc (suc k)) n l
          ∙ ap (λ ds. ds ++ ((48 + n % 10) ∷ [])) (enough_digits k (n / 10) (tenth (suc k) n h))
          ∙ sym (more_digits (suc k) n l)
    ]

pub decimal_one : (n : ℕ) → n < 10 → decimal n ≡ (48 + n) ∷ []
decimal_one n h = one_digit 19 n h

pub decimal_more : (n : ℕ) → 10 ≤ n → n < 10 ^ 20 → decimal n ≡ decimal (n / 10) ++ ((48 + n % 10) ∷ [])
decimal_more n h most =
    more_digits 19 n h ∙ ap (λ ds. ds ++ ((48 + n % 10) ∷ [])) (sym (enough_digits 18 (n / 10) (tenth 19 n most)))

-- Two digits at once: a number of two digits, and the digits before the last two of a longer number.
pub decimal_two : (n : ℕ) → 10 ≤ n → n < 100 → decimal n ≡ (48 + n / 10) ∷ (48 + n % 10) ∷ []
decimal_two n h most =
    let small : n < 10 ^ 20 = omega arith in
    let tens : n / 10 < 10 = omega arith in
    rw (decimal_more n h small, decimal_one (n / 10) tens) refl

pub decimal_two_more : (n : ℕ) → 100 ≤ n → n < 10 ^ 20
    → decimal n ≡ decimal (n / 100) ++ ((48 + n % 100 / 10) ∷ (48 + n % 100 % 10) ∷ [])
decimal_two_more n h most =
    let ten : 10 ≤ n = omega arith in
    let more : 10 ≤ n / 10 = omega arith in
    let fewer : n / 10 < 10 ^ 20 = omega arith in
    let hundreds : n / 10 / 10 ≡ n / 100 = omega arith in
    let tens : n % 100 / 10 ≡ n / 10 % 10 = omega arith in
    let ones : n % 100 % 10 ≡ n % 10 = omega arith in
    rw (tens, ones)
    (decimal_more n ten most
    ∙ rw (decimal_more (n / 10) more fewer, hundreds)
    (append_assoc (decimal (n / 100)) ((48 + n / 10 % 10) ∷ []) ((48 + n % 10) ∷ [])))

pub length_one : (n : ℕ) → n < 10 → length (decimal n) ≡ 1
length_one n h = ap length (decimal_one n h)

pub length_more : (n : ℕ) → 10 ≤ n → n < 10 ^ 20 → length (decimal n) ≡ length (decimal (n / 10)) + 1
length_more n h most = ap length (decimal_more n h most) ∙ simp length-append

pub length_two : (n : ℕ) → 10 ≤ n → n < 100 → length (decimal n) ≡ 2
length_two n h most = ap length (decimal_two n h most)

pub length_two_more : (n : ℕ) → 100 ≤ n → n < 10 ^ 20 → length (decimal n) ≡ length (decimal (n / 100)) + 2
length_two_more n h most = ap length (decimal_two_more n h most) ∙ simp length-append

pub length_four_more : (n : ℕ) → 10000 ≤ n → n < 10 ^ 20 → length (decimal n) ≡ length (decimal (n / 10000)) + 4
length_four_more n h most =
    let q : n / 100 / 100 ≡ n / 10000 = omega arith in
    let next = rw q at (length_two_more (n / 100) (omega arith) (omega arith)) in
    omega (arith, length_two_more n (omega arith) most, next)

at_least_one : (k n : ℕ) → 1 ≤ length (digits (suc k) n)
at_least_one k n =
    elim (size n) [
      | small s ↦ rw (one_digit k n s) (omega arith)
      | large l ↦ rw (more_digits k n l) (simp length-append (omega arith))
    ]

pub some_digit : (n : ℕ) → 1 ≤ length (decimal n)
some_digit n = at_least_one 19 n

at_most : (j k n : ℕ) → n < 10 ^ suc k → length (digits j n) ≤ suc k
unfolding digits
at_most zero k n h = omega arith
at_most (suc j) zero n h = rw (one_digit j n h) (omega arith)
at_most (suc j) (suc k) n h =
    elim (size n) [
      | small s ↦ rw (one_digit j n s) (omega arith)
      | large l ↦ rw (more_digits j n l) (simp length-append (omega (arith, at_most j k (n / 10) (tenth (suc k) n h))))
    ]

-- A number below 10 ^ k, k above 0, has at most k digits.
pub most_digits : (k n : ℕ) → n < 10 ^ suc k → length (decimal n) ≤ suc k
most_digits k n h = at_most 20 k n h

-- No number has more than 20 digits.
few : (k n : ℕ) → length (digits k n) ≤ k
unfolding digits
few zero n = omega arith
few (suc k) n =
    elim (size n) [
      | small s ↦ rw (one_digit k n s) (omega arith)
      | large l ↦ rw (more_digits k n l) (simp length-append (omega (arith, few k (n / 10))))
    ]

pub few_digits : (n : ℕ) → length (decimal n) ≤ 20
few_digits n = few 20 n

pub byte_most : (n : ℕ) → n < 256 → length (decimal n) ≤ 3
byte_most n h = most_digits 2 n (omega arith)
