-- Numbers that are the mask of the places below w that pass a test, and the masks that the operations on words of W
-- bits make of them. Assumes nothing.
use mathlib.Core.Path.{◌≡◌, refl, sym, ap, ap₂, ◌∙◌}
use mathlib.Core.Bool.{Bool, true, false, cond, not, ◌&&◌, ◌||◌, true≢false}
use Prim.Native.Nat.{ℕ, ◌-◌, ◌^◌, ◌<◌, ◌≤◌}
use native.Mathlib.Nat.{lt_of_lt_of_le, lt_of_le_of_lt}
use lib.Bits.{bit_and, bit_or, and_le_r}
use lib.Dec.{eqb, ltb}
use lib.Pow.{pow_pos, pow-lt}
use borrow.Author.Tests.{lt-ltb}
use Rattle.masks.specs.Sets.{bit, added, removed, without, mask_of}
use Rattle.masks.proofs.Places.{bit_zero, bit_and_law, bit_single, bit_added, bit_removed_if}
use Rattle.masks.proofs.Places.{bit_ones, bit_first, and_below, first_below, ones_below, added_below, wider}
use Rattle.masks.proofs.Masks.{is_mask, mask_agree, mask_below, mask_of_bits, mask_and, mask_or, mask_without}
use Rattle.masks.proofs.Masks.{bit_mask_at}

pub record Mask (w : ℕ) (P : ℕ → Bool) (a : ℕ) : Type 0 where
  pub is : a ≡ mask_of w P

pub bit_is : {w : ℕ} {P : ℕ → Bool} {a : ℕ} → Mask w P a → (k : ℕ) → k < w → bit a k ≡ P k
bit_is {w} {P} m k l = ap (λ (x : ℕ). bit x k) m.is ∙ bit_mask_at w P k l

pub below_is : {w : ℕ} {P : ℕ → Bool} {a : ℕ} → Mask w P a → a < 2 ^ w
below_is {w} {P} m = rw m.is (mask_below w P)

pub word_is : {w : ℕ} {P : ℕ → Bool} {a : ℕ} (W : ℕ) → w ≤ W → Mask w P a → a < 2 ^ W
word_is W fit m = wider fit (below_is m)

pub by_bits : {w : ℕ} {P : ℕ → Bool} {a : ℕ} → a < 2 ^ w → ((k : ℕ) → k < w → bit a k ≡ P k) → Mask w P a
by_bits {w} {P} {a} h same = record { is = is_mask w a P h same }

pub agree_is : {w : ℕ} {P Q : ℕ → Bool} {a : ℕ} → ((k : ℕ) → k < w → P k ≡ Q k) → Mask w P a → Mask w Q a
agree_is {w} {P} {Q} same m = record { is = m.is ∙ mask_agree w P Q same }

-- Two masks of the same test are equal.
pub same_is : {w : ℕ} {P : ℕ → Bool} {a b : ℕ} → Mask w P a → Mask w P b → a ≡ b
same_is ma mb = ma.is ∙ sym mb.is

-- ---- basic masks

-- A set of width w, and the first w places of any set.
pub own_is : (w n : ℕ) → n < 2 ^ w → Mask w (bit n) n
own_is w n h = record { is = sym (mask_of_bits w n h) }

pub cut_is : (w n : ℕ) → Mask w (bit n) (bit_and n (2 ^ w - 1))
cut_is w n = by_bits (first_below w n) (bit_first w n)

pub places_is : {w : ℕ} {P : ℕ → Bool} {a : ℕ} → Mask w P a → Mask w (bit (mask_of w P)) a
places_is {w} {P} m = record { is = m.is ∙ (own_is w (mask_of w P) (mask_below w P)).is }

pub none_is : (w : ℕ) → Mask w (λ k. false) 0
none_is w = by_bits (pow_pos w) (λ k l. bit_zero k)

pub one_is : (w p : ℕ) → p < w → Mask w (λ k. eqb k p) (2 ^ p)
one_is w p l = by_bits (pow-lt l) (λ k m. bit_single p k)

-- The first n places.
pub first_is : (w n : ℕ) → n ≤ w → Mask w (λ k. ltb k n) (2 ^ n - 1)
first_is w n fit = by_bits (wider fit (ones_below n)) (λ k l. bit_ones n k)

pub all_is : (w : ℕ) → Mask w (λ k. true) (2 ^ w - 1)
all_is w = by_bits (ones_below w) (λ k l. bit_ones w k ∙ lt-ltb k w l)

-- ---- the operations

pub and_is : {w : ℕ} {P Q : ℕ → Bool} {a b : ℕ} → Mask w P a → Mask w Q b → Mask w (λ k. P k && Q k) (bit_and a b)
and_is {w} {P} {Q} ma mb = record { is = ap₂ bit_and ma.is mb.is ∙ mask_and w P Q }

pub or_is : {w : ℕ} {P Q : ℕ → Bool} {a b : ℕ} → Mask w P a → Mask w Q b → Mask w (λ k. P k || Q k) (bit_or a b)
or_is {w} {P} {Q} ma mb = record { is = ap₂ bit_or ma.is mb.is ∙ mask_or w P Q }

pub without_is : {w : ℕ} {P Q : ℕ → Bool} {a b : ℕ} (W : ℕ) → w ≤ W → Mask w P a → Mask w Q b
    → Mask w (λ k. P k && not (Q k)) (without W a b)
without_is {w} {P} {Q} W fit ma mb = record { is = ap₂ (without W) ma.is mb.is ∙ mask_without W w P Q fit }

-- The other operand can be any number: only its first w places matter.
pub and_any : {w : ℕ} {P : ℕ → Bool} {a : ℕ} → Mask w P a → (n : ℕ) → Mask w (λ k. P k && bit n k) (bit_and a n)
and_any {w} {P} {a} m n =
    by_bits (and_below w a n (below_is m)) (λ k l. bit_and_law a n k ∙ ap (λ t. t && bit n k) (bit_is m k l))

pub any_and : {w : ℕ} {P : ℕ → Bool} {a : ℕ} (n : ℕ) → Mask w P a → Mask w (λ k. bit n k && P k) (bit_and n a)
any_and {w} {P} {a} n m =
    by_bits (lt_of_le_of_lt (and_le_r n a) (below_is m)) (λ k l. bit_and_law n a k ∙ ap (λ t. bit n k && t) (bit_is m k l))

-- ---- one place added or removed

pub in_is : {w : ℕ} {P : ℕ → Bool} {a : ℕ} (W p : ℕ) → w ≤ W → p < w → Mask w P a
    → Mask w (λ k. P k || eqb k p) (cond (ltb p W) (added a p) a)
in_is {w} {P} {a} W p fit l m =
    rw here (by_bits (added_below w a p (below_is m) l)
    (λ k h. bit_added a p k ∙ ap (λ t. t || eqb k p) (bit_is m k h)))
  where
    here : ltb p W ≡ true
    here = lt-ltb p W (lt_of_lt_of_le l fit)

pub out_is : {w : ℕ} {P : ℕ → Bool} {a : ℕ} (W p : ℕ) → w ≤ W → Mask w P a
    → Mask w (λ k. P k && not (eqb k p)) (cond (ltb p W) (removed W a p) a)
out_is {w} {P} {a} W p fit m =
    by_bits (below (ltb p W)) (λ k l. bit_removed_if W a p k (word_is W fit m)
    ∙ ap (λ t. t && not (eqb k p)) (bit_is m k l))
  where
    below : (t : Bool) → cond t (removed W a p) a < 2 ^ w
    below true = and_below w a _ (below_is m)
    below false = below_is m

-- Every place but p.
pub all_but : (w W p : ℕ) → w ≤ W → Mask w (λ k. not (eqb k p)) (cond (ltb p W) (removed W (2 ^ w - 1) p) (2 ^ w - 1))
all_but w W p fit = out_is W p fit (all_is w)

-- ---- empty sets

-- A mask is empty exactly if no place passes its test. If the union of two masks is empty, both are.
pub no_place : {w : ℕ} {P : ℕ → Bool} {a : ℕ} → Mask w P a → ((k : ℕ) → k < w → P k ≡ false) → a ≡ 0
no_place {w} m none = same_is (agree_is none m) (none_is w)

pub empty_is : {w : ℕ} {P : ℕ → Bool} {a : ℕ} → Mask w P a → a ≡ 0 → (k : ℕ) → k < w → P k ≡ false
empty_is m e k l = sym (bit_is m k l) ∙ ap (λ (x : ℕ). bit x k) e ∙ bit_zero k

pub neither : {w : ℕ} {P Q : ℕ → Bool} {a b : ℕ} → Mask w P a → Mask w Q b → bit_or a b ≡ 0 → (a ≡ 0) × (b ≡ 0)
neither {P = P} {Q} ma mb e = (
  no_place ma (λ k l. first_none (P k) (Q k) (empty_is (or_is ma mb) e k l)),
  no_place mb
      (λ k l. second_none (P k) (Q k) (empty_is (or_is ma mb) e k l)),
)
  where
    first_none : (x y : Bool) → (x || y) ≡ false → x ≡ false
    first_none true y e = e
    first_none false y e = refl

    second_none : (x y : Bool) → (x || y) ≡ false → y ≡ false
    second_none true y e = absurd (true≢false e)
    second_none false y e = e
