-- Laws of `some`: what follows if a search over the numbers below n succeeds, and if it fails. Assumes nothing.
use mathlib.Core.Path.{◌≡◌, refl, sym, ap, ap₂, ◌∙◌}
use mathlib.Core.Bool.{Bool, true, false, ◌||◌, false≢true, or-true}
use mathlib.Core.Logic.{⊎_elim}
use Prim.Native.Nat.{ℕ, zero, suc, ◌<◌}
use native.Mathlib.Nat.{le_refl, le_step, le_of_suc-le-suc, not-suc-le-zero, eq-or-lt_of_le}
use Rattle.masks.specs.Sets.{some}
use Rattle.masks.proofs.Truth.{or_cases}

or_middle : (a b c d : Bool) → (a || b || (c || d)) ≡ (a || c || (b || d))
or_middle true b c d = refl
or_middle false true true d = refl
or_middle false true false d = refl
or_middle false false c d = refl

pub some_found : (n : ℕ) (p : ℕ → Bool) → some n p ≡ true → (k : ℕ) × (k < n) × (p k ≡ true)
unfolding some
some_found zero p e = absurd (false≢true e)
some_found (suc n) p e =
    ⊎_elim (λ h. let r = some_found n p h in (r.0, le_step r.1, r.2)) (λ h. (n, le_refl (suc n), h))
    (or_cases (some n p) (p n) e)

pub some_at : (n : ℕ) (p : ℕ → Bool) (k : ℕ) → k < n → p k ≡ true → some n p ≡ true
unfolding some
some_at zero p k l h = absurd (not-suc-le-zero l)
some_at (suc n) p k l h =
    ⊎_elim (λ e. ap (λ t. some n p || t) (ap p (sym e) ∙ h) ∙ or-true (some n p))
    (λ m. ap (λ t. t || p n) (some_at n p k m h))
    (eq-or-lt_of_le (le_of_suc-le-suc l))

pub some_agree : (n : ℕ) (p q : ℕ → Bool) → ((k : ℕ) → k < n → p k ≡ q k) → some n p ≡ some n q
unfolding some
some_agree zero p q h = refl
some_agree (suc n) p q h = ap₂ ◌||◌ (some_agree n p q (λ k l. h k (le_step l))) (h n (le_refl (suc n)))

pub some_never : (n : ℕ) → some n (λ k. false) ≡ false
unfolding some
some_never zero = refl
some_never (suc n) = ap (λ t. t || false) (some_never n)

pub some_none : (n : ℕ) (p : ℕ → Bool) → ((k : ℕ) → k < n → p k ≡ false) → some n p ≡ false
some_none n p h = some_agree n p (λ k. false) h ∙ some_never n

pub some_none_at : (n : ℕ) (p : ℕ → Bool) (k : ℕ) → some n p ≡ false → k < n → p k ≡ false
some_none_at n p k e l = go (p k) refl
  where
    go : (t : Bool) → p k ≡ t → t ≡ false
    go true h = sym (some_at n p k l h) ∙ e
    go false h = refl

pub some_or : (n : ℕ) (p q : ℕ → Bool) → some n (λ k. p k || q k) ≡ (some n p || some n q)
unfolding some
some_or zero p q = refl
some_or (suc n) p q = ap (λ t. t || (p n || q n)) (some_or n p q) ∙ or_middle (some n p) (some n q) (p n) (q n)
