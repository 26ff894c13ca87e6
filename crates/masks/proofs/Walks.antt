-- The walk through the places of a mask, the lowest first: what is left of the mask, which places a test keeps, and
-- whether one of the places passes a test. The mask has w places, in a word of W bits. Assumes nothing.
use mathlib.Core.Path.{◌≡◌, refl, sym, ap, ap₂, ◌∙◌}
use mathlib.Core.Bool.{Bool, true, false, cond, not, ◌&&◌, ◌||◌, true≢false, false≢true, and-true, and-false, or-false}
use Prim.Native.Nat.{ℕ, ◌-◌, ◌^◌, ◌<◌, ◌≤◌}
use lib.Bits.{bit_and}
use lib.Count.{count_trailing_zeros}
use lib.Dec.{eqb, ltb}
use lib.Pow.{pow_pos}
use borrow.Author.Tests.{eqb-true, ltb-true, ltb-false}
use Rattle.masks.specs.Sets.{bit, added, some, mask_of}
use Rattle.masks.proofs.Places.{bit_zero, bit_past, bit_added_if, and_below, first_below, added_below, wider}
use Rattle.masks.proofs.Masks.{is_mask, mask_agree, mask_none}
use Rattle.masks.proofs.Some.{some_at, some_agree, some_none}
use Rattle.masks.proofs.Lowest.{lowest_in, bit_rest}

-- ---- what is left of the mask

pub record Left (w W left : ℕ) : Type 0 where
  pub fit : w ≤ W
  pub rest : left < 2 ^ w

pub left_first : {w W : ℕ} → w ≤ W → (n : ℕ) → Left w W (bit_and n (2 ^ w - 1))
left_first {w} fit n = record { fit = fit; rest = first_below w n }

module _ {w W n : ℕ} (l : Left w W n) where
  pub left_more : Left w W (bit_and n (n - 1))
  left_more = record { fit = l.fit; rest = and_below w n (n - 1) l.rest }

  pub left_word : n < 2 ^ W
  left_word = wider l.fit l.rest

  module _ (some_left : 0 < n) where
    pub lowest_bit : bit n (count_trailing_zeros W n) ≡ true
    lowest_bit = lowest_in W n some_left left_word

    pub lowest_place : count_trailing_zeros W n < w
    lowest_place = go (ltb (count_trailing_zeros W n) w) refl
      where
        go : (t : Bool) → ltb (count_trailing_zeros W n) w ≡ t → count_trailing_zeros W n < w
        go true e = ltb-true (count_trailing_zeros W n) w e
        go false e =
            absurd (true≢false (sym lowest_bit ∙ bit_past w n (count_trailing_zeros W n) l.rest
            (ltb-false (count_trailing_zeros W n) w e)))

    pub bit_left : (k : ℕ) → bit (bit_and n (n - 1)) k ≡ (bit n k && not (eqb k (count_trailing_zeros W n)))
    bit_left k = bit_rest W n k some_left left_word

    -- At the lowest place and at any other.
    pub at_lowest : (k : ℕ) → eqb k (count_trailing_zeros W n) ≡ true → (k ≡ count_trailing_zeros W n) × (bit n k ≡ true)
    at_lowest k e = let here = eqb-true k (count_trailing_zeros W n) e in (here, ap (bit n) here ∙ lowest_bit)

pub bit_none : (n k : ℕ) → n ≡ 0 → bit n k ≡ false
bit_none n k e = ap (λ (x : ℕ). bit x k) e ∙ bit_zero k

-- ---- the places that pass the test

pub record Kept (w W : ℕ) (P : ℕ → Bool) (all left out : ℕ) : Type 0 where
  pub walk : Left w W left
  pub width : out < 2 ^ w
  pub places : (k : ℕ) → k < w → (bit out k || bit left k && P k) ≡ (bit all k && P k)

pub kept_first : {w W all : ℕ} (P : ℕ → Bool) → Left w W all → Kept w W P all all 0
kept_first {w} {W} {all} P h =
    record { walk = h; width = pow_pos w; places = λ k l. ap (λ t. t || bit all k && P k) (bit_zero k) }

-- Moving place e from the places left to the places kept does not change the result.
moved : (o l e t u : Bool) → (e ≡ true → (l ≡ true) × (u ≡ t)) → (o || e && u || l && not e && t) ≡ (o || l && t)
moved true l e t u h = refl
moved false l false t u h = ap (λ x. x && t) (and-true l)
moved false true true t u h = or-false u ∙ (h refl).1
moved false false true t u h = absurd (false≢true (h refl).0)

kept_width : (w n k : ℕ) (t : Bool) → n < 2 ^ w → k < w → cond t (added n k) n < 2 ^ w
kept_width w n k true h l = added_below w n k h l
kept_width w n k false h l = h

pub kept_more : {w W : ℕ} {P : ℕ → Bool} {all left out : ℕ} (next : ℕ) → 0 < left → Kept w W P all left out
    → next ≡ cond (P (count_trailing_zeros W left)) (added out (count_trailing_zeros W left)) out
    → Kept w W P all (bit_and left (left - 1)) next
kept_more {w} {W} {P} {all} {left} {out} next p h e =
    record {
      walk = left_more h.walk;
      width = rw e (kept_width w out low (P low) h.width (lowest_place h.walk p));
      places = λ k l.
          ap₂ (λ t u. t || u && P k) (ap (λ (x : ℕ). bit x k) e ∙ bit_added_if out low k (P low))
          (bit_left h.walk p k)
          ∙ moved (bit out k) (bit left k) (eqb k low) (P k) (P low)
          (λ same. let here = at_lowest h.walk p k same in (here.1, ap P (sym here.0)))
          ∙ h.places k l;
    }
  where
    low : ℕ
    low = count_trailing_zeros W left

pub kept_last : {w W : ℕ} {P : ℕ → Bool} {all left out : ℕ} → left ≡ 0 → Kept w W P all left out → out
    ≡ mask_of w (λ k. bit all k && P k)
kept_last {w} {P = P} {all} {left} {out} e h =
    is_mask w out (λ k. bit all k && P k) h.width
    (λ k l. sym (or-false (bit out k)) ∙ ap (λ t. bit out k || t && P k) (sym (bit_none left k e)) ∙ h.places k l)

-- If there are no candidates, nothing is kept.
pub none_kept : (w : ℕ) (P : ℕ → Bool) (all : ℕ) → all ≡ 0 → 0 ≡ mask_of w (λ k. bit all k && P k)
none_kept w P all e =
    sym (mask_none w) ∙ mask_agree w (λ k. false) (λ k. bit all k && P k)
    (λ k l. ap (λ t. t && P k) (sym (bit_none all k e)))

-- ---- whether some place of the mask passes the test

abbrev pub some_of : ℕ → (ℕ → Bool) → ℕ → Bool
some_of w P mask = some w (λ k. bit mask k && P k)

pub some_last : (w : ℕ) (P : ℕ → Bool) (left : ℕ) → left ≡ 0 → some_of w P left ≡ false
some_last w P left e = some_none w (λ k. bit left k && P k) (λ k l. ap (λ t. t && P k) (bit_none left k e))

-- The place that passes is p, or it is one of the others.
one_or_others : (L P : ℕ → Bool) (n p : ℕ) → p < n → L p ≡ true → (P p || some n (λ k. L k && not (eqb k p) && P k))
    ≡ some n (λ k. L k && P k)
one_or_others L P n p l h = go (P p) refl
  where
    same : (k : ℕ) (t : Bool) → eqb k p ≡ t → P p ≡ false → (L k && not t && P k) ≡ (L k && P k)
    same k true e n =
        let none : P k ≡ false = ap P (eqb-true k p e) ∙ n in
        ap (λ t. L k && not true && t) none ∙ and-false (L k && not true)
        ∙ sym (ap (λ t. L k && t) none ∙ and-false (L k))
    same k false e n = ap (λ t. t && P k) (and-true (L k))

    go : (t : Bool) → P p ≡ t → (t || some n (λ k. L k && not (eqb k p) && P k)) ≡ some n (λ k. L k && P k)
    go true e = sym (some_at n (λ k. L k && P k) p l (ap₂ ◌&&◌ h e))
    go false e = some_agree n (λ k. L k && not (eqb k p) && P k) (λ k. L k && P k) (λ k m. same k (eqb k p) refl e)

pub some_lowest : {w W n : ℕ} (P : ℕ → Bool) → Left w W n → 0 < n
    → (P (count_trailing_zeros W n) || some_of w P (bit_and n (n - 1))) ≡ some_of w P n
some_lowest {w} {W} {n} P l p =
    ap (λ t. P (count_trailing_zeros W n) || t)
    (some_agree w (λ k. bit (bit_and n (n - 1)) k && P k) (λ k. bit n k && not (eqb k (count_trailing_zeros W n)) && P k)
    (λ k m. ap (λ t. t && P k) (bit_left l p k)))
    ∙ one_or_others (bit n) P w (count_trailing_zeros W n) (lowest_place l p) (lowest_bit l p)

-- The search so far: no place that was checked passes the test.
pub record Sought (w W : ℕ) (P : ℕ → Bool) (among left : ℕ) : Type 0 where
  pub walk : Left w W left
  pub same : some_of w P left ≡ some_of w P among

pub sought_first : {w W among : ℕ} (P : ℕ → Bool) → Left w W among → Sought w W P among among
sought_first P h = record { walk = h; same = refl }

module _ {w W : ℕ} {P : ℕ → Bool} {among left : ℕ} (h : Sought w W P among left) where
  found : (t : Bool) → 0 < left → P (count_trailing_zeros W left) ≡ t → (t || some_of w P (bit_and left (left - 1)))
      ≡ some_of w P among
  found t p e =
      ap (λ t. t || some_of w P (bit_and left (left - 1))) (sym e) ∙ some_lowest P h.walk p ∙ h.same

  pub sought_found : 0 < left → P (count_trailing_zeros W left) ≡ true → true ≡ some_of w P among
  sought_found = found true

  pub sought_more : 0 < left → P (count_trailing_zeros W left) ≡ false → Sought w W P among (bit_and left (left - 1))
  sought_more p e = record { walk = left_more h.walk; same = found false p e }

  pub sought_last : left ≡ 0 → false ≡ some_of w P among
  sought_last e = sym (some_last w P left e) ∙ h.same
