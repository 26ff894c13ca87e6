-- A set digit by digit: place 0 is the lowest digit, and place k + 1 of n is place k of n / 2. Assumes nothing.
use mathlib.Core.Path.{◌≡◌, sym, ap, ◌∙◌}
use mathlib.Core.Bool.{true, false}
use Prim.Native.Nat.{ℕ, zero, suc, ◌/◌, ◌%◌, ◌^◌, ◌<◌}
use native.Mathlib.Nat.{div-one, mod-lt, zero-lt-suc}
use native.Mathlib.Numerals.{one-add}
use native.Mathlib.Omega.{arith}
use lib.Dec.{eqb, ltb, leb-zero, leb-suc-zero, leb-suc-suc}
use lib.Pow.{shr-shr}
use Rattle.masks.specs.Sets.{bit}

pub bit_lowest : (n : ℕ) → bit n 0 ≡ eqb (n % 2) 1
unfolding bit
bit_lowest n = ap (λ (x : ℕ). eqb (x % 2) 1) (div-one n)

pub bit_suc : (n k : ℕ) → bit n (suc k) ≡ bit (n / 2) k
unfolding bit
bit_suc n k = ap (λ (x : ℕ). eqb (x % 2) 1) (ap (λ (x : ℕ). n / 2 ^ x) (sym (one-add k)) ∙ sym (shr-shr n 1 k))

-- A property of 0 and of 1 is a property of every digit.
pub by_digit : (P : ℕ → Type 0) → P 0 → P 1 → (d : ℕ) → d < 2 → P d
by_digit P none one zero h = none
by_digit P none one (suc zero) h = one
by_digit P none one (suc (suc d)) h = absurd (omega arith)

pub by_digits : (P : ℕ → ℕ → Type 0) → P 0 0 → P 0 1 → P 1 0 → P 1 1 → (x y : ℕ) → x < 2 → y < 2 → P x y
by_digits P a b c d x y hx hy = by_digit (λ x. P x y) (by_digit (P 0) a b y hy) (by_digit (P 1) c d y hy) x hx

pub digit_lt : (n : ℕ) → n % 2 < 2
digit_lt n = mod-lt n (zero-lt-suc 1)

pub half_lt : (w n : ℕ) → n < 2 ^ suc w → n / 2 < 2 ^ w
half_lt w n h = omega arith

-- The test that a place is below a width, one place down.
pub ltb_none : (k : ℕ) → ltb k 0 ≡ false
ltb_none k = leb-suc-zero k

pub ltb_first : (w : ℕ) → ltb 0 (suc w) ≡ true
ltb_first w = leb-suc-suc 0 w ∙ leb-zero w

pub ltb_suc : (k w : ℕ) → ltb (suc k) (suc w) ≡ ltb k w
ltb_suc k w = leb-suc-suc (suc k) w
