-- The lowest place of a set that is not empty, and the set without it: n & (n - 1). Assumes nothing.
use mathlib.Core.Path.{◌≡◌, refl, sym, ap, ap₂, ◌∙◌}
use mathlib.Core.Bool.{true, false, not, ◌&&◌, and_self, and-true}
use Prim.Native.Nat.{ℕ, zero, suc, ◌-◌, ◌/◌, ◌%◌, ◌^◌, ◌<◌, suc-le-suc}
use native.Mathlib.Nat.{zero-lt-suc, not-suc-le-zero, le_of_suc-le-suc}
use native.Mathlib.Omega.{arith}
use lib.Bits.{bit_and}
use lib.Count.{count_trailing_zeros, under}
use lib.Dec.{eqb, eqb-suc-zero, eqb-suc-suc}
use Rattle.masks.specs.Sets.{bit}
use Rattle.masks.proofs.Digits.{bit_lowest, bit_suc, by_digit, digit_lt, half_lt}
use Rattle.masks.proofs.Places.{bit_and_law}

-- Cases on the lowest digit: it is 0, and the half is not empty, or it is 1.
by_lowest : (n : ℕ) (P : ℕ → Type 0) → (n % 2 ≡ 0 → P 0) → (n % 2 ≡ 1 → P 1) → P (n % 2)
by_lowest n P even odd = by_digit (λ d. n % 2 ≡ d → P d) even odd (n % 2) (digit_lt n) refl

pub lowest_below : (w n : ℕ) → 0 < n → n < 2 ^ w → count_trailing_zeros w n < w
unfolding count_trailing_zeros
lowest_below zero n p h = omega arith
lowest_below (suc w) n p h =
    by_lowest n (λ d. under d (count_trailing_zeros w (n / 2)) < suc w)
    (λ e. suc-le-suc (lowest_below w (n / 2) (omega arith) (half_lt w n h)))
    (λ e. zero-lt-suc w)

pub lowest_in : (w n : ℕ) → 0 < n → n < 2 ^ w → bit n (count_trailing_zeros w n) ≡ true
unfolding count_trailing_zeros
lowest_in zero n p h = absurd (omega arith)
lowest_in (suc w) n p h =
    by_lowest n (λ d. bit n (under d (count_trailing_zeros w (n / 2))) ≡ true)
    (λ e. bit_suc n (count_trailing_zeros w (n / 2)) ∙ lowest_in w (n / 2) (omega arith) (half_lt w n h))
    (λ e. bit_lowest n ∙ ap (λ (x : ℕ). eqb x 1) e)

pub lowest_first : (w n k : ℕ) → k < count_trailing_zeros w n → bit n k ≡ false
unfolding count_trailing_zeros
lowest_first zero n k l = absurd (not-suc-le-zero l)
lowest_first (suc w) n zero l =
    by_lowest n (λ d. 0 < under d (count_trailing_zeros w (n / 2)) → bit n 0 ≡ false)
    (λ e l. bit_lowest n ∙ ap (λ (x : ℕ). eqb x 1) e) (λ e l. absurd (not-suc-le-zero l)) l
lowest_first (suc w) n (suc k) l =
    by_lowest n (λ d. suc k < under d (count_trailing_zeros w (n / 2)) → bit n (suc k) ≡ false)
    (λ e l. bit_suc n k ∙ lowest_first w (n / 2) k (le_of_suc-le-suc l)) (λ e l. absurd (not-suc-le-zero l)) l

-- Of the places of n, n - 1 contains all but the lowest.
one_less : (w n k : ℕ) → 0 < n → n < 2 ^ w → (bit n k && bit (n - 1) k) ≡ (bit n k && not (eqb k (count_trailing_zeros w n)))
unfolding count_trailing_zeros
one_less zero n k p h = absurd (omega arith)
one_less (suc w) n zero p h =
    by_lowest n (λ d. (bit n 0 && bit (n - 1) 0) ≡ (bit n 0 && not (eqb 0 (under d (count_trailing_zeros w (n / 2))))))
    (λ e. let out : bit n 0 ≡ false = bit_lowest n ∙ ap (λ (x : ℕ). eqb x 1) e in
    ap (λ t. t && bit (n - 1) 0) out ∙ ap (λ t. t && not (eqb 0 (suc (count_trailing_zeros w (n / 2))))) (sym out))
    (λ e. let even : (n - 1) % 2 ≡ 0 = omega arith in
    ap (λ t. bit n 0 && t) (bit_lowest (n - 1) ∙ ap (λ (x : ℕ). eqb x 1) even))
one_less (suc w) n (suc k) p h =
    by_lowest n (λ d. (bit n (suc k) && bit (n - 1) (suc k))
    ≡ (bit n (suc k) && not (eqb (suc k) (under d (count_trailing_zeros w (n / 2))))))
    (λ e. let half : (n - 1) / 2 ≡ n / 2 - 1 = omega arith in
    ap₂ ◌&&◌ (bit_suc n k) (bit_suc (n - 1) k ∙ ap (λ (x : ℕ). bit x k) half)
    ∙ one_less w (n / 2) k (omega arith) (half_lt w n h)
    ∙ ap₂ (λ t u. t && not u) (sym (bit_suc n k)) (sym (eqb-suc-suc k (count_trailing_zeros w (n / 2)))))
    (λ e. let half : (n - 1) / 2 ≡ n / 2 = omega arith in
    ap (λ t. bit n (suc k) && t) (bit_suc (n - 1) k ∙ ap (λ (x : ℕ). bit x k) half ∙ sym (bit_suc n k))
    ∙ and_self (bit n (suc k))
    ∙ sym (and-true (bit n (suc k))) ∙ ap (λ t. bit n (suc k) && not t) (sym (eqb-suc-zero k)))

pub bit_rest : (w n k : ℕ) → 0 < n → n < 2 ^ w → bit (bit_and n (n - 1)) k ≡ (bit n k && not (eqb k (count_trailing_zeros w n)))
bit_rest w n k p h = bit_and_law n (n - 1) k ∙ one_less w n k p h
