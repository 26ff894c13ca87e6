-- Cases on numbers, and lists by place: one element set, `map`, and one more element at the end. Assumes nothing.
use Prim.Native.Nat.{ℕ, zero, suc, ◌≤◌, ◌<◌}
use mathlib.Core.Path.{◌≡◌, refl, ap, ◌∙◌}
use mathlib.Core.Bool.{Bool, true, false, cond}
use mathlib.Core.List.{List, [], ◌∷◌, ◌++◌, map}
use native.Mathlib.Nat.{not-suc-le-zero, le_of_suc-le-suc}
use native.Mathlib.Omega.{arith}
use lib.Dec.{eqb, ltb}
use lib.ListN.{length, get_or, set, length-append}
use lib.Seq.{get_or-set_same, get_or-set_other}
use borrow.Author.Tests.{eqb-true, eqb-false, ltb-true, ltb-false}

-- A processor is p or another.
pub by_processor : {A : Type 0} (q p : ℕ) → (q ≡ p → A) → ((q ≡ p → ⊥) → A) → A
by_processor {A} q p same other = go (eqb q p) refl
  where
    go : (t : Bool) → eqb q p ≡ t → A
    go true e = same (eqb-true q p e)
    go false e = other (eqb-false q p e)

-- A number is below n or not.
pub below_or_past : {A : Type 0} (i n : ℕ) → (i < n → A) → (n ≤ i → A) → A
below_or_past {A} i n below past = go (ltb i n) refl
  where
    go : (t : Bool) → ltb i n ≡ t → A
    go true e = below (ltb-true i n e)
    go false e = past (ltb-false i n e)

pub length_more : {A : Type 0} (l : List A) (a : A) → length (l ++ (a ∷ [])) ≡ suc (length l)
length_more l a = omega (arith, length-append l (a ∷ []))

pub get_d_set : (l : List ℕ) (p a q d : ℕ) → p < length l → get_or (set l p a) q d ≡ cond (eqb q p) a (get_or l q d)
get_d_set l p a q d h = go (eqb q p) refl
  where
    go : (t : Bool) → eqb q p ≡ t → get_or (set l p a) q d ≡ cond t a (get_or l q d)
    go true e = ap (λ (k : ℕ). get_or (set l p a) k d) (eqb-true q p e) ∙ get_or-set_same l p a d h
    go false e = get_or-set_other l p q a d (eqb-false q p e)

pub get_d_map : {A B : Type 0} (f : A → B) (l : List A) (i : ℕ) (c : B) (d : A) → i < length l
    → get_or (map f l) i c ≡ f (get_or l i d)
get_d_map f [] i c d l = absurd (not-suc-le-zero l)
get_d_map f (x ∷ xs) zero c d l = refl
get_d_map f (x ∷ xs) (suc i) c d l = get_d_map f xs i c d (le_of_suc-le-suc l)
