-- Lists of w numbers that a loop changes: it stores one value at each place of a mask of w places, in a word of W bits,
-- or it changes each number in turn. Assumes nothing.
use mathlib.Core.Path.{◌≡◌, refl, sym, ap, ap₂, ◌∙◌}
use mathlib.Core.Bool.{Bool, true, false, cond, not, ◌&&◌, and-true}
use mathlib.Core.List.{List}
use Prim.Native.Nat.{ℕ, ◌-◌, ◌^◌, ◌<◌, ◌≤◌}
use native.Mathlib.Omega.{arith}
use lib.Bits.{bit_and}
use lib.Count.{count_trailing_zeros}
use lib.Dec.{eqb}
use lib.ListN.{length, get_or, set, length-set}
use lib.Seq.{get_or-set_same, get_or-set_other}
use borrow.Author.Tests.{eqb-true, eqb-false}
use Rattle.masks.specs.Sets.{bit}
use Rattle.masks.proofs.Places.{bit_first}
use Rattle.masks.proofs.Walks.{Left, left_first, left_more, lowest_place, bit_left, at_lowest, bit_none}

-- The elements of a list after one store.
pub stored_at : (xs : List ℕ) (p v k : ℕ) → p < length xs → get_or (set xs p v) k 0 ≡ cond (eqb k p) v (get_or xs k 0)
stored_at xs p v k l = go (eqb k p) refl
  where
    go : (t : Bool) → eqb k p ≡ t → get_or (set xs p v) k 0 ≡ cond t v (get_or xs k 0)
    go true e = ap (λ (x : ℕ). get_or (set xs p v) x 0) (eqb-true k p e) ∙ get_or-set_same xs p v 0 l
    go false e = get_or-set_other xs p k v 0 (eqb-false k p e)

-- ---- one value at each place of a mask

-- The list so far, with the value stored at the places left in the mask, is the result.
pub record Stored (w W v among : ℕ) (first : List ℕ) (left : ℕ) (out : List ℕ) : Type 0 where
  pub walk : Left w W left
  pub full : length out ≡ w
  pub places : (k : ℕ) → k < w → cond (bit left k) v (get_or out k 0) ≡ cond (bit among k) v (get_or first k 0)

pub stored_first : {w W : ℕ} → w ≤ W → (v among : ℕ) (first : List ℕ) → length first ≡ w
    → Stored w W v among first (bit_and among (2 ^ w - 1)) first
stored_first {w} fit v among first full =
    record {
      walk = left_first fit among;
      full = full;
      places = λ k l. ap (λ t. cond t v (get_or first k 0)) (bit_first w among k l);
    }

pub stored_more : {w W v among : ℕ} {first : List ℕ} {left : ℕ} {out : List ℕ} → 0 < left
    → Stored w W v among first left out
    → Stored w W v among first (bit_and left (left - 1)) (set out (count_trailing_zeros W left) v)
stored_more {w} {W} {v} {left = left} {out} p h =
    record {
      walk = left_more h.walk;
      full = length-set out low v ∙ h.full;
      places = λ k l.
          ap₂ (λ t (x : ℕ). cond t v x) (bit_left h.walk p k)
          (stored_at out low v k (omega (arith, lowest_place h.walk p, h.full)))
          ∙ at k (eqb k low) refl
          ∙ h.places k l;
    }
  where
    low : ℕ
    low = count_trailing_zeros W left

    at : (k : ℕ) (t : Bool) → eqb k low ≡ t → cond (bit left k && not t) v (cond t v (get_or out k 0))
        ≡ cond (bit left k) v (get_or out k 0)
    at k true e = let there = (at_lowest h.walk p k e).1 in rw there
    at k false e = ap (λ b. cond b v (get_or out k 0)) (and-true (bit left k))

pub stored_last : {w W v among : ℕ} {first : List ℕ} {left : ℕ} {out : List ℕ} → left ≡ 0
    → Stored w W v among first left out
    → (k : ℕ) → k < w → get_or out k 0 ≡ cond (bit among k) v (get_or first k 0)
stored_last {v = v} {left = left} {out} e h k l = ap (λ t. cond t v (get_or out k 0)) (sym (bit_none left k e))
    ∙ h.places k l

-- ---- each number changed in turn

-- The first q numbers are changed, and the others are as they were.
pub record Each (w : ℕ) (f : ℕ → ℕ) (first : List ℕ) (q : ℕ) (out : List ℕ) : Type 0 where
  pub within : q ≤ w
  pub full : length out ≡ w
  pub changed : (k : ℕ) → k < q → get_or out k 0 ≡ f (get_or first k 0)
  pub rest : (k : ℕ) → q ≤ k → get_or out k 0 ≡ get_or first k 0

pub each_last : {w : ℕ} {f : ℕ → ℕ} {first : List ℕ} {q : ℕ} {out : List ℕ} → w ≤ q → Each w f first q out
    → (k : ℕ) → k < w → get_or out k 0 ≡ f (get_or first k 0)
each_last last h k l = h.changed k (omega arith)
