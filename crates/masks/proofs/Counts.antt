-- The lowest place of a set and the number of its places, at any width: the results of counting trailing zeros and
-- ones. Assumes nothing.
use mathlib.Core.Path.{◌≡◌, refl, sym, ap, ap₂, ◌∙◌}
use mathlib.Core.Bool.{Bool, true, false, cond, ◌||◌, false≢true}
use Prim.Native.Nat.{ℕ, zero, suc, ◌+◌, ◌/◌, ◌%◌, ◌^◌, ◌<◌}
use native.Mathlib.Nat.{le_refl}
use native.Mathlib.Omega.{arith}
use lib.Count.{count_trailing_zeros, ones, ones_step}
use lib.Dec.{eqb, ltb}
use borrow.Author.Tests.{ltb-true, ltb-false}
use Rattle.masks.specs.Sets.{bit, some, count_of, lowest_of}
use Rattle.masks.proofs.Digits.{bit_lowest, bit_suc, by_digit, digit_lt, half_lt}
use Rattle.masks.proofs.Some.{some_at, some_none_at}
use Rattle.masks.proofs.Lowest.{lowest_below, lowest_in, lowest_first}

-- ---- the lowest number that passes a test

-- It passes, and no smaller number does.
pub record IsLowest (n : ℕ) (p : ℕ → Bool) (k : ℕ) : Type 0 where
  pub below : k < n
  pub passes : p k ≡ true
  pub first : (j : ℕ) → j < k → p j ≡ false

pub lowest_of_is : (n : ℕ) (p : ℕ → Bool) → some n p ≡ true → IsLowest n p (lowest_of n p)
unfolding some lowest_of
lowest_of_is zero p e = absurd (false≢true e)
lowest_of_is (suc n) p e = go (lowest_of_is n p) (some n p) refl
  where
    at : some n p ≡ false → (u : Bool) → p n ≡ u → IsLowest (suc n) p (cond u n (suc n))
    at h true k = record { below = le_refl (suc n); passes = k; first = λ j l. some_none_at n p j h l }
    at h false k = absurd (false≢true (sym (ap₂ ◌||◌ h k) ∙ e))

    go : (some n p ≡ true → IsLowest n p (lowest_of n p)) → (t : Bool) → some n p ≡ t
        → IsLowest (suc n) p (cond t (lowest_of n p) (cond (p n) n (suc n)))
    go less true h =
        let r = less h in
        let l = r.below in
        record { below = omega (arith, l); passes = r.passes; first = r.first }
    go less false h = at h (p n) refl

not_before : (n : ℕ) (p : ℕ → Bool) (k l : ℕ) → IsLowest n p k → IsLowest n p l → k < l → ⊥
not_before n p k l a b h = false≢true (sym (b.first k h) ∙ a.passes)

pub lowest_unique : (n : ℕ) (p : ℕ → Bool) (k l : ℕ) → IsLowest n p k → IsLowest n p l → k ≡ l
lowest_unique n p k l a b = go (ltb k l) refl (ltb l k) refl
  where
    go : (t : Bool) → ltb k l ≡ t → (u : Bool) → ltb l k ≡ u → k ≡ l
    go true e u f = absurd (not_before n p k l a b (ltb-true k l e))
    go false e true f = absurd (not_before n p l k b a (ltb-true l k f))
    go false e false f = omega (arith, ltb-false k l e, ltb-false l k f)

-- The number of trailing zeros of a set is its lowest place.
pub lowest_is : (w n : ℕ) → 0 < n → n < 2 ^ w → count_trailing_zeros w n ≡ lowest_of w (bit n)
lowest_is w n p h =
    let k = count_trailing_zeros w n in
    let l = lowest_below w n p h in
    lowest_unique w (bit n) k (lowest_of w (bit n))
    (record { below = l; passes = lowest_in w n p h; first = lowest_first w n })
    (lowest_of_is w (bit n) (some_at w (bit n) k l (lowest_in w n p h)))

-- ---- how many pass

count_agree : (n : ℕ) (p q : ℕ → Bool) → ((k : ℕ) → p k ≡ q k) → count_of n p ≡ count_of n q
unfolding count_of
count_agree zero p q h = refl
count_agree (suc n) p q h = ap₂ (λ (x : ℕ) t. x + cond t 1 0) (count_agree n p q h) (h n)

-- The first number is counted separately, and the others one down.
count_first : (n : ℕ) (p : ℕ → Bool) → count_of (suc n) p ≡ cond (p 0) 1 0 + count_of n (λ k. p (suc k))
unfolding count_of
count_first zero p = omega arith
count_first (suc n) p =
    let e : count_of n p + cond (p n) 1 0 ≡ cond (p 0) 1 0 + count_of n (λ k. p (suc k)) = count_first n p in
    omega (arith, e)

digit_counts : (n : ℕ) → n % 2 ≡ cond (bit n 0) 1 0
digit_counts n =
    by_digit (λ d. d ≡ cond (eqb d 1) 1 0) refl refl (n % 2) (digit_lt n) ∙ ap (λ t. cond t 1 0) (sym (bit_lowest n))

none : (n : ℕ) → n < 2 ^ 0 → ones n ≡ count_of 0 (bit n)
unfolding ones count_of
none zero h = refl
none (suc n) h = absurd (omega arith)

-- The number of ones of a set is the number of its places.
pub ones_are : (w n : ℕ) → n < 2 ^ w → ones n ≡ count_of w (bit n)
ones_are zero n h = none n h
ones_are (suc w) n h =
    ones_step n
    ∙ ap₂ ◌+◌ (digit_counts n) (ones_are w (n / 2) (half_lt w n h)
    ∙ count_agree w (bit (n / 2)) (λ k. bit n (suc k)) (λ k. sym (bit_suc n k)))
    ∙ sym (count_first w (bit n))
