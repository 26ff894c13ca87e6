-- Laws of `tabulate` for any function and length: its length, its elements, one more element, and an array that a loop
-- fills with it. Assumes nothing.
use Prim.Native.Nat.{ℕ, zero, suc, ◌+◌, ◌<◌, ◌≤◌}
use native.Mathlib.Nat.{le_refl, le_step, le_of_suc-le-suc, not-suc-le-zero, eq-or-lt_of_le}
use native.Mathlib.Numerals.{add-one}
use native.Mathlib.Omega.{arith}
use mathlib.Core.Path.{◌≡◌, refl, sym, ap, ap₂, ◌∙◌}
use mathlib.Core.Logic.{⊎_elim}
use mathlib.Core.List.{List, [], ◌∷◌, ◌++◌}
use lib.ListN.{length, take, get_or, set, length-append, get_or-append, get_or-eq_default}
use lib.Seq.{get_or_at, take_all, take-suc-set}
use Rattle.masks.specs.Tabulation.{tabulate}

pub length_tabulate : (n : ℕ) (f : ℕ → ℕ) → length (tabulate n f) ≡ n
unfolding tabulate
length_tabulate zero f = refl
length_tabulate (suc n) f = length-append (tabulate n f) (f n ∷ []) ∙ ap (λ (x : ℕ). x + 1) (length_tabulate n f)
    ∙ add-one n

pub get_d_tabulate : (n : ℕ) (f : ℕ → ℕ) (i d : ℕ) → i < n → get_or (tabulate n f) i d ≡ f i
unfolding tabulate
get_d_tabulate zero f i d l = absurd (not-suc-le-zero l)
get_d_tabulate (suc n) f i d l =
    ⊎_elim
    (λ e. get_or_at (tabulate n f) (f n) [] d i (length_tabulate n f ∙ sym e) ∙ ap f (sym e))
    (λ h. let here : i < length (tabulate n f) = omega (arith, length_tabulate n f) in
    get_or-append (tabulate n f) (f n ∷ []) d i here ∙ get_d_tabulate n f i d h)
    (eq-or-lt_of_le (le_of_suc-le-suc l))

pub get_d_tabulate_past : (n : ℕ) (f : ℕ → ℕ) (i d : ℕ) → n ≤ i → get_or (tabulate n f) i d ≡ d
get_d_tabulate_past n f i d l = get_or-eq_default (tabulate n f) d {n = i} (omega (arith, length_tabulate n f))

-- One more element, with n + 1 as in the code.
pub tabulate_more : (n : ℕ) (f : ℕ → ℕ) → tabulate (n + 1) f ≡ tabulate n f ++ (f n ∷ [])
unfolding tabulate
tabulate_more n f = ap (λ (m : ℕ). tabulate m f) (add-one n)

pub tabulate_agree : (n : ℕ) (f g : ℕ → ℕ) → ((i : ℕ) → i < n → f i ≡ g i) → tabulate n f ≡ tabulate n g
unfolding tabulate
tabulate_agree zero f g same = refl
tabulate_agree (suc n) f g same =
    ap₂ (λ l (x : ℕ). l ++ (x ∷ [])) (tabulate_agree n f g (λ i l. same i (le_step l))) (same n (le_refl (suc n)))

-- A loop that stores f i at place i: one more place filled, and the whole array.
pub fill_more : (xs : List ℕ) (i x : ℕ) (f : ℕ → ℕ) → i < length xs → take i xs ≡ tabulate i f → x ≡ f i
    → take (i + 1) (set xs i x) ≡ tabulate (i + 1) f
fill_more xs i x f l filled e =
    ap (λ (m : ℕ). take m (set xs i x)) (add-one i) ∙ take-suc-set xs i x l ∙ ap₂ (λ l (y : ℕ). l ++ (y ∷ [])) filled e
    ∙ sym (tabulate_more i f)

pub filled_whole : (xs : List ℕ) (n : ℕ) (f : ℕ → ℕ) → length xs ≡ n → take n xs ≡ tabulate n f → xs ≡ tabulate n f
filled_whole xs n f full filled = sym (take_all n xs (omega arith)) ∙ filled
