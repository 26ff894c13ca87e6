-- A set of numbers below w that only grows, step by step, stops growing within w steps. Assumes nothing.
use Prim.Native.Nat.{ℕ, zero, suc, ◌+◌, ◌≤◌, ◌<◌}
use mathlib.Core.Path.{◌≡◌, refl, sym, ap, ◌∙◌}
use mathlib.Core.Bool.{Bool, true, false, cond, not, ◌&&◌, false≢true}
use mathlib.Core.Logic.{◌⊎◌, inl, inr, ⊎_elim}
use native.Mathlib.Nat.{le_refl, le_step, le_of_suc-le-suc, not-suc-le-zero, eq-or-lt_of_le}
use native.Mathlib.Omega.{arith}
use borrow.Author.Tests.{not-true}
use Rattle.masks.specs.Sets.{some}
use Rattle.masks.proofs.Some.{some_found, some_none_at}
use Rattle.masks.proofs.Truth.{and_left, and_right, and_not_false}

-- Every number below w that passes the test p also passes q.
abbrev pub Within : ℕ → (ℕ → Bool) → (ℕ → Bool) → Type 0
Within w p q = (j : ℕ) → j < w → p j ≡ true → q j ≡ true

-- 1 for a failed test, 0 otherwise.
abbrev miss : Bool → ℕ
miss t = cond t 0 1

-- How many numbers below w fail the test.
unfoldable missing : ℕ → (ℕ → Bool) → ℕ
missing zero p = 0
missing (suc w) p = missing w p + miss (p w)

one_more_at_most : (m w : ℕ) (t : Bool) → m ≤ w → m + miss t ≤ suc w
one_more_at_most m w true h = omega arith
one_more_at_most m w false h = omega arith

missing_at_most : (w : ℕ) (p : ℕ → Bool) → missing w p ≤ w
unfolding missing
missing_at_most zero p = le_refl 0
missing_at_most (suc w) p = one_more_at_most (missing w p) w (p w) (missing_at_most w p)

fails_less : (t u : Bool) → (t ≡ true → u ≡ true) → miss u ≤ miss t
fails_less t true h = omega arith
fails_less true false h = absurd (false≢true (h refl))
fails_less false false h = le_refl 1

missing_falls : (w : ℕ) (p q : ℕ → Bool) → Within w p q → missing w q ≤ missing w p
unfolding missing
missing_falls zero p q h = le_refl 0
missing_falls (suc w) p q h =
    omega (arith, missing_falls w p q (λ j l. h j (le_step l)), fails_less (p w) (q w) (h w (le_refl (suc w))))

-- If some number passes q but not p, fewer numbers fail q than p.
missing_fewer : (w : ℕ) (p q : ℕ → Bool) (k : ℕ) → k < w → p k ≡ false → q k ≡ true → Within w p q
    → missing w q < missing w p
unfolding missing
missing_fewer zero p q k l e f h = absurd (not-suc-le-zero l)
missing_fewer (suc w) p q k l e f h =
    ⊎_elim
    (λ s. omega (
      arith,
      missing_falls w p q (λ j m. h j (le_step m)),
      ap miss (ap p (sym s) ∙ e),
      ap miss
          (ap q (sym s) ∙ f),
    ))
    (λ m. omega (
      arith,
      missing_fewer w p q k m e f (λ j m. h j (le_step m)),
      fails_less (p w) (q w)
          (h w (le_refl (suc w))),
    ))
    (eq-or-lt_of_le (le_of_suc-le-suc l))

-- If no number fails the test, all pass it.
none_missing : (w : ℕ) (p : ℕ → Bool) → missing w p ≡ 0 → (j : ℕ) → j < w → p j ≡ true
unfolding missing
none_missing w p e j l = go (p j) refl
  where
    go : (t : Bool) → p j ≡ t → p j ≡ true
    go true h = h
    go false h = absurd (omega (arith, e, missing_fewer w p (λ k. true) j l h refl (λ k m f. refl)))

module _ (w : ℕ) (S : ℕ → ℕ → Bool) (grows : (n : ℕ) → Within w (S n) (S (suc n))) where
  -- Step m adds nothing.
  abbrev Stops : ℕ → Type 0
  Stops m = Within w (S (suc m)) (S m)

  -- Either some step up to n added nothing, or each step added at least one number.
  stops_or_adds : (n : ℕ) → ((m : ℕ) × (m ≤ n) × Stops m) ⊎ (missing w (S n) + n ≤ w)
  stops_or_adds zero = inr (omega (arith, missing_at_most w (S 0)))
  stops_or_adds (suc n) = ⊎_elim (λ h. inl (h.0, le_step h.1, h.2)) more (stops_or_adds n)
    where
      new : ℕ → Bool
      new j = S (suc n) j && not (S n j)

      go : missing w (S n) + n ≤ w → (t : Bool) → some w new ≡ t → ((m : ℕ) × (m ≤ suc n) × Stops m)
          ⊎ (missing w (S (suc n)) + suc n ≤ w)
      go h true e =
          let r = some_found w new e in
          let has : S (suc n) r.0 ≡ true = and_left _ (not (S n r.0)) r.2 in
          let had : S n r.0 ≡ false = not-true _ (and_right (S (suc n) r.0) _ r.2) in
          inr (omega (arith, h, missing_fewer w (S n) (S (suc n)) r.0 r.1 had has (grows n)))
      go h false e = inl (n, le_step (le_refl n), λ j l. and_not_false (S (suc n) j) (S n j) (some_none_at w new j e l))

      more : missing w (S n) + n ≤ w → ((m : ℕ) × (m ≤ suc n) × Stops m) ⊎ (missing w (S (suc n)) + suc n ≤ w)
      more h = go h (some w new) refl

  pub stops : (m : ℕ) × (m ≤ w) × Within w (S (suc m)) (S m)
  stops =
      ⊎_elim (λ h. h) (λ h. (w, le_refl w, λ j l e. none_missing w (S w) (omega (arith, h)) j l)) (stops_or_adds w)
