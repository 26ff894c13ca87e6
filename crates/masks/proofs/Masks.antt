-- Laws of `mask_of`: the set of the numbers below n that pass a test, place by place. Assumes nothing.
use mathlib.Core.Path.{◌≡◌, refl, sym, ap, ap₂, ◌∙◌}
use mathlib.Core.Bool.{Bool, true, false, cond, not, ◌&&◌, ◌||◌, or-false}
use Prim.Native.Nat.{ℕ, zero, suc, ◌+◌, ◌*◌, ◌^◌, ◌<◌, ◌≤◌}
use native.Mathlib.Nat.{one-mul}
use native.Mathlib.Numerals.{add-one}
use native.Mathlib.Omega.{arith}
use lib.Bits.{bit_and, bit_or, or_shifted_r}
use lib.Dec.{eqb, ltb}
use lib.Pow.{pow_pos}
use borrow.Author.Tests.{eqb-true, eqb-false, ltb-true, ltb-false, lt-ltb, le-ltb}
use Rattle.masks.specs.Sets.{bit, added, without, mask_of}
use Rattle.masks.proofs.Digits.{ltb_none}
use Rattle.masks.proofs.Places.{bit_zero, bit_and_law, bit_or_law, bit_without, bit_added_if, and_below, or_below, wider}
use Rattle.masks.proofs.Equal.{same_places}

-- ---- the width

more_below : (n m : ℕ) (t : Bool) → m < 2 ^ n → m + cond t (2 ^ n) 0 < 2 ^ suc n
more_below n m true h = omega arith
more_below n m false h = omega arith

pub mask_below : (n : ℕ) (p : ℕ → Bool) → mask_of n p < 2 ^ n
unfolding mask_of
mask_below zero p = pow_pos 0
mask_below (suc n) p = more_below n (mask_of n p) (p n) (mask_below n p)

pub mask_below_width : (w n : ℕ) (p : ℕ → Bool) → n ≤ w → mask_of n p < 2 ^ w
mask_below_width w n p l = wider l (mask_below n p)

-- ---- one more place, with n + 1 as in the code

pub mask_more : (n : ℕ) (p : ℕ → Bool) → mask_of (n + 1) p ≡ mask_of n p + cond (p n) (2 ^ n) 0
unfolding mask_of
mask_more n p = ap (λ (m : ℕ). mask_of m p) (add-one n)

-- The next place is above all others, so adding it to the set is a sum.
sum_added : (n m : ℕ) (t : Bool) → m < 2 ^ n → m + cond t (2 ^ n) 0 ≡ cond t (added m n) m
sum_added n m true h =
    let joined : added m n ≡ 1 * 2 ^ n + m = ap (λ (x : ℕ). bit_or m x) (sym (one-mul (2 ^ n))) ∙ or_shifted_r 1 n m h in
    omega arith
sum_added n m false h = omega arith

pub mask_more_added : (n : ℕ) (p : ℕ → Bool) → mask_of (n + 1) p ≡ cond (p n) (added (mask_of n p) n) (mask_of n p)
mask_more_added n p = mask_more n p ∙ sum_added n (mask_of n p) (p n) (mask_below n p)

-- The set m, with the next place added if the flag t is true, is the mask with one more place.
pub mask_next : (n : ℕ) (p : ℕ → Bool) (m r : ℕ) (t : Bool) → r ≡ cond t (added m n) m → m ≡ mask_of n p → t ≡ p n
    → r ≡ mask_of (n + 1) p
mask_next n p m r t next made e =
    next ∙ ap₂ (λ t (m : ℕ). cond t (added m n) m) e made ∙ sym (mask_more_added n p)

-- ---- the places

-- A number below n + 1 is below n or is n.
below_more : (n k : ℕ) (p : ℕ → Bool) → (ltb k n && p k || (eqb k n && p n)) ≡ (ltb k (suc n) && p k)
below_more n k p = last (eqb k n) refl
  where
    step : (t : Bool) → ltb k n ≡ t → (k ≡ n → ⊥) → t ≡ ltb k (suc n)
    step true e f = sym (lt-ltb k (suc n) (omega (arith, ltb-true k n e)))
    step false e f = sym (le-ltb k (suc n) (omega (arith, ltb-false k n e, f)))

    last : (t : Bool) → eqb k n ≡ t → (ltb k n && p k || (t && p n)) ≡ (ltb k (suc n) && p k)
    last true e =
        let same : k ≡ n = eqb-true k n e in
        ap₂ (λ t u. t && p k || u) (le-ltb k n (omega arith)) (ap p (sym same))
        ∙ ap (λ t. t && p k) (sym (lt-ltb k (suc n) (omega arith)))
    last false e = or-false (ltb k n && p k) ∙ ap (λ t. t && p k) (step (ltb k n) refl (eqb-false k n e))

pub bit_mask : (n : ℕ) (p : ℕ → Bool) (k : ℕ) → bit (mask_of n p) k ≡ (ltb k n && p k)
unfolding mask_of
bit_mask zero p k = bit_zero k ∙ ap (λ t. t && p k) (sym (ltb_none k))
bit_mask (suc n) p k =
    ap (λ (x : ℕ). bit x k) (sum_added n (mask_of n p) (p n) (mask_below n p)) ∙ bit_added_if (mask_of n p) n k (p n)
    ∙ ap (λ t. t || (eqb k n && p n)) (bit_mask n p k) ∙ below_more n k p

pub bit_mask_at : (n : ℕ) (p : ℕ → Bool) (k : ℕ) → k < n → bit (mask_of n p) k ≡ p k
bit_mask_at n p k l = bit_mask n p k ∙ ap (λ t. t && p k) (lt-ltb k n l)

-- ---- equal masks

-- A set of width n is the mask of a test if it contains exactly the places that pass the test.
pub is_mask : (n m : ℕ) (p : ℕ → Bool) → m < 2 ^ n → ((k : ℕ) → k < n → bit m k ≡ p k) → m ≡ mask_of n p
is_mask n m p h same = same_places n m (mask_of n p) h (mask_below n p) (λ k l. same k l ∙ sym (bit_mask_at n p k l))

pub mask_agree : (n : ℕ) (p q : ℕ → Bool) → ((k : ℕ) → k < n → p k ≡ q k) → mask_of n p ≡ mask_of n q
mask_agree n p q same = is_mask n (mask_of n p) q (mask_below n p) (λ k l. bit_mask_at n p k l ∙ same k l)

pub mask_of_bits : (w n : ℕ) → n < 2 ^ w → mask_of w (bit n) ≡ n
mask_of_bits w n h = sym (is_mask w n (bit n) h (λ k l. refl))

pub mask_none : (n : ℕ) → mask_of n (λ k. false) ≡ 0
mask_none n = sym (is_mask n 0 (λ k. false) (pow_pos n) (λ k l. bit_zero k))

-- ---- the operations

pub mask_and : (n : ℕ) (p q : ℕ → Bool) → bit_and (mask_of n p) (mask_of n q) ≡ mask_of n (λ k. p k && q k)
mask_and n p q =
    is_mask n (bit_and (mask_of n p) (mask_of n q)) (λ k. p k && q k)
    (and_below n (mask_of n p) (mask_of n q) (mask_below n p))
    (λ k l. bit_and_law (mask_of n p) (mask_of n q) k ∙ ap₂ ◌&&◌ (bit_mask_at n p k l) (bit_mask_at n q k l))

pub mask_or : (n : ℕ) (p q : ℕ → Bool) → bit_or (mask_of n p) (mask_of n q) ≡ mask_of n (λ k. p k || q k)
mask_or n p q =
    is_mask n (bit_or (mask_of n p) (mask_of n q)) (λ k. p k || q k)
    (or_below n (mask_of n p) (mask_of n q) (mask_below n p) (mask_below n q))
    (λ k l. bit_or_law (mask_of n p) (mask_of n q) k ∙ ap₂ ◌||◌ (bit_mask_at n p k l) (bit_mask_at n q k l))

-- Also if the masks have fewer places than the width w of the complement.
pub mask_without : (w n : ℕ) (p q : ℕ → Bool) → n ≤ w → without w (mask_of n p) (mask_of n q)
    ≡ mask_of n (λ k. p k && not (q k))
mask_without w n p q l =
    is_mask n (without w (mask_of n p) (mask_of n q)) (λ k. p k && not (q k))
    (and_below n (mask_of n p) _ (mask_below n p))
    (λ k m. bit_without w (mask_of n p) (mask_of n q) k (mask_below_width w n p l) (mask_below_width w n q l)
    ∙ ap₂ (λ t u. t && not u) (bit_mask_at n p k m) (bit_mask_at n q k m))
