-- Two sets meet exactly if they share a place. Assumes nothing.
use mathlib.Core.Path.{◌≡◌, refl, sym, ap, ap₂, ◌∙◌}
use mathlib.Core.Bool.{Bool, true, false, not, ◌&&◌, ◌||◌, true≢false, and-eq-true_iff, and-or_distrib_right}
use Prim.Native.Nat.{ℕ, ◌^◌, ◌<◌}
use lib.Bits.{bit_and, and_comm, and_zero_r}
use lib.Dec.{eqb}
use lib.Pow.{pow_pos}
use borrow.Author.Tests.{eqb-true, eq-eqb, ne_eqb}
use Rattle.masks.specs.Sets.{bit, added, meets, some}
use Rattle.masks.proofs.Places.{bit_zero, bit_and_law, bit_added, and_below, added_below}
use Rattle.masks.proofs.Equal.{same_places}
use Rattle.masks.proofs.Some.{some_found, some_at, some_agree, some_none, some_none_at, some_or}

-- A set with a place in it is not empty.
pub has_not_empty : (n k : ℕ) → bit n k ≡ true → not (eqb n 0) ≡ true
has_not_empty n k h = ap not (ne_eqb n 0 (λ e. true≢false (sym h ∙ ap (λ (x : ℕ). bit x k) e ∙ bit_zero k)))

pub not_empty : (w n : ℕ) → n < 2 ^ w → not (eqb n 0) ≡ some w (bit n)
not_empty w n h = go (some w (bit n)) refl
  where
    go : (t : Bool) → some w (bit n) ≡ t → not (eqb n 0) ≡ t
    go true e = let f = some_found w (bit n) e in has_not_empty n f.0 f.2
    go false e =
        ap not (eq-eqb n 0 (same_places w n 0 h (pow_pos w) (λ k l. some_none_at w (bit n) k e l ∙ sym (bit_zero k))))

pub meets_some : (w a b : ℕ) → a < 2 ^ w → meets a b ≡ some w (λ k. bit a k && bit b k)
meets_some w a b h =
    not_empty w (bit_and a b) (and_below w a b h)
    ∙ some_agree w (bit (bit_and a b)) (λ k. bit a k && bit b k) (λ k l. bit_and_law a b k)

pub meets_share : (w a b : ℕ) → a < 2 ^ w → meets a b ≡ true → (k : ℕ) × (k < w) × (bit a k ≡ true) × (bit b k ≡ true)
meets_share w a b h m =
    let f = some_found w (λ k. bit a k && bit b k) (sym (meets_some w a b h) ∙ m) in
    let both = (and-eq-true_iff (bit a f.0) (bit b f.0)).0 f.2 in
    (f.0, f.1, both.0, both.1)

pub share_meets : (a b k : ℕ) → bit a k ≡ true → bit b k ≡ true → meets a b ≡ true
share_meets a b k ha hb = has_not_empty (bit_and a b) k (bit_and_law a b k ∙ ap₂ ◌&&◌ ha hb)

pub meets_comm : (a b : ℕ) → meets a b ≡ meets b a
meets_comm a b = ap (λ (x : ℕ). not (eqb x 0)) (and_comm a b)

-- ---- any row, and a set that grows by one place

some_one : (w row e : ℕ) → e < w → some w (λ k. eqb k e && bit row k) ≡ bit row e
some_one w row e l = go (bit row e) refl
  where
    other : (k : ℕ) (t : Bool) → eqb k e ≡ t → bit row e ≡ false → (t && bit row k) ≡ false
    other k true same none = ap (bit row) (eqb-true k e same) ∙ none
    other k false same none = refl

    go : (t : Bool) → bit row e ≡ t → some w (λ k. eqb k e && bit row k) ≡ t
    go true h = some_at w (λ k. eqb k e && bit row k) e l (ap₂ ◌&&◌ (eq-eqb e e refl) h)
    go false h = some_none w (λ k. eqb k e && bit row k) (λ k m. other k (eqb k e) refl h)

meets_set : (w row set : ℕ) → set < 2 ^ w → meets row set ≡ some w (λ k. bit set k && bit row k)
meets_set w row set h = meets_comm row set ∙ meets_some w set row h

pub meets_none : (row : ℕ) → meets row 0 ≡ false
meets_none row = ap (λ (x : ℕ). not (eqb x 0)) (and_zero_r row)

pub meets_added : (w row set e : ℕ) → set < 2 ^ w → e < w → meets row (added set e) ≡ (meets row set || bit row e)
meets_added w row set e h l =
    meets_set w row (added set e) (added_below w set e h l)
    ∙ some_agree w (λ k. bit (added set e) k && bit row k) (λ k. bit set k && bit row k || eqb k e && bit row k)
    (λ k m. ap (λ t. t && bit row k) (bit_added set e k) ∙ and-or_distrib_right (bit set k) (eqb k e) (bit row k))
    ∙ some_or w (λ k. bit set k && bit row k) (λ k. eqb k e && bit row k)
    ∙ ap₂ ◌||◌ (sym (meets_set w row set h)) (some_one w row e l)
