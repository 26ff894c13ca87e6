-- How many numbers below n pass a test, and how the counts of two tests compare. Assumes nothing.
use Prim.Native.Nat.{ℕ, zero, suc, ◌<◌, ◌≤◌, ◌+◌}
use native.Mathlib.Omega.{arith}
use native.Mathlib.Nat.{le_refl, le_step, le_of_suc-le-suc, not-suc-le-zero, eq-or-lt_of_le}
use mathlib.Core.Path.{◌≡◌, refl, sym, ap, ◌∙◌}
use mathlib.Core.Bool.{Bool, true, false, cond, false≢true}
use mathlib.Core.Logic.{⊎_elim}

one_if : Bool → ℕ
one_if b = cond b 1 0

unfoldable pub count : ℕ → (ℕ → Bool) → ℕ
unfolding one_if
count zero p = 0
count (suc n) p = count n p + one_if (p n)

-- Every number below n that passes p also passes q.
abbrev pub Within : ℕ → (ℕ → Bool) → (ℕ → Bool) → Type 0
Within n p q = (j : ℕ) → j < n → p j ≡ true → q j ≡ true

within_fewer : (n : ℕ) (p q : ℕ → Bool) → Within (suc n) p q → Within n p q
within_fewer n p q h j l = h j (le_step l)

one_if_grows : (a b : Bool) → (a ≡ true → b ≡ true) → one_if a ≤ one_if b
unfolding one_if
one_if_grows true true h = le_refl 1
one_if_grows true false h = absurd (false≢true (h refl))
one_if_grows false true h = omega arith
one_if_grows false false h = le_refl 0

one_if_less : (a b : Bool) → a ≡ false → b ≡ true → one_if a < one_if b
unfolding one_if
one_if_less true b e f = absurd (false≢true (sym e))
one_if_less false true e f = le_refl 1
one_if_less false false e f = absurd (false≢true f)

pub count_grows : (n : ℕ) (p q : ℕ → Bool) → Within n p q → count n p ≤ count n q
unfolding count
count_grows zero p q h = le_refl 0
count_grows (suc n) p q h =
    omega (arith, one_if_grows (p n) (q n) (h n (le_refl (suc n))), count_grows n p q (within_fewer n p q h))

-- If some number passes q but not p, q's count is the greater.
pub count_less : (n : ℕ) (p q : ℕ → Bool) (k : ℕ) → k < n → p k ≡ false → q k ≡ true → Within n p q
    → count n p < count n q
unfolding count
count_less zero p q k l e f h = absurd (not-suc-le-zero l)
count_less (suc n) p q k l e f h =
    ⊎_elim
    (λ s. omega (
      arith,
      one_if_less (p n) (q n) (ap p (sym s) ∙ e) (ap q (sym s) ∙ f),
      count_grows n p q
          (within_fewer n p q h),
    ))
    (λ m. omega (
      arith,
      one_if_grows (p n) (q n) (h n (le_refl (suc n))),
      count_less n p q k m e f
          (within_fewer n p q h),
    ))
    (eq-or-lt_of_le (le_of_suc-le-suc l))

never : ℕ → Bool
never j = false

pub count_positive : (n : ℕ) (p : ℕ → Bool) (k : ℕ) → k < n → p k ≡ true → 0 < count n p
unfolding never
count_positive n p k l e = omega (arith, count_less n never p k l refl e (λ j m f. absurd (false≢true f)))

-- If the count is above 0, some number passes.
pub count_found : (n : ℕ) (p : ℕ → Bool) → 0 < count n p → (k : ℕ) × (k < n) × (p k ≡ true)
unfolding count one_if
count_found zero p l = absurd (not-suc-le-zero l)
count_found (suc n) p l = go (p n) refl (count_found n p)
  where
    go : (b : Bool) → p n ≡ b → (0 < count n p → (k : ℕ) × (k < n) × (p k ≡ true)) → (k : ℕ) × (k < suc n)
        × (p k ≡ true)
    go true e found = (n, le_refl (suc n), e)
    go false e found = let r = found (omega (arith, ap one_if e)) in (r.0, le_step r.1, r.2)

one_if_at_most_one : (b : Bool) → one_if b ≤ 1
unfolding one_if
one_if_at_most_one true = le_refl 1
one_if_at_most_one false = omega arith

count_at_most : (n : ℕ) (p : ℕ → Bool) → count n p ≤ n
unfolding count
count_at_most zero p = le_refl 0
count_at_most (suc n) p = omega (arith, one_if_at_most_one (p n), count_at_most n p)

-- If every number that passes is below m, at most m pass.
pub count_below : (n m : ℕ) (p : ℕ → Bool) → ((j : ℕ) → j < n → p j ≡ true → j < m) → count n p ≤ m
unfolding count one_if
count_below zero m p h = omega arith
count_below (suc n) m p h = go (p n) refl (count_below n m p (λ j l. h j (le_step l)))
  where
    go : (b : Bool) → p n ≡ b → count n p ≤ m → count n p + one_if (p n) ≤ m
    go true e i = omega (arith, ap one_if e, h n (le_refl (suc n)) e, count_at_most n p)
    go false e i = omega (arith, ap one_if e)
