-- A list in which a walk through a mask stores the values of a function, one place after the other. Assumes nothing.
use Prim.Native.Nat.{ℕ, ◌-◌, ◌<◌}
use mathlib.Core.Path.{◌≡◌, refl, sym, ap, ap₂, ◌∙◌}
use mathlib.Core.Bool.{Bool, true, false, cond, not, ◌&&◌, and-true}
use mathlib.Core.List.{List}
use native.Mathlib.Omega.{arith}
use lib.Bits.{bit_and}
use lib.Count.{count_trailing_zeros}
use lib.Dec.{eqb}
use lib.ListN.{length, get_or, set, length-set}
use lib.Seq.{ext_get_or}
use Rattle.masks.specs.Sets.{bit}
use Rattle.masks.specs.Tabulation.{tabulate}
use Rattle.masks.proofs.Truth.{and_left}
use Rattle.masks.proofs.Stores.{stored_at}
use Rattle.masks.proofs.Tabulate.{length_tabulate, get_d_tabulate}
use Rattle.masks.proofs.Walks.{Left, left_more, lowest_place, bit_left, at_lowest, bit_none}

-- The list so far, with the values at the places left in the mask, is the result.
pub record Filled (w W : ℕ) (f : ℕ → ℕ) (among : ℕ) (start : List ℕ) (left : ℕ) (out : List ℕ) : Type 0 where
  pub walk : Left w W left
  pub within : (k : ℕ) → bit left k ≡ true → bit among k ≡ true
  pub full : length out ≡ w
  pub places : (k : ℕ) → k < w → cond (bit left k) (f k) (get_or out k 0) ≡ cond (bit among k) (f k) (get_or start k 0)

pub filled_first : {w W among : ℕ} {start : List ℕ} (f : ℕ → ℕ) → Left w W among → length start ≡ w
    → Filled w W f among start among start
filled_first f walk full = record { walk = walk; within = λ k h. h; full = full; places = λ k l. refl }

pub filled_more : {w W : ℕ} {f : ℕ → ℕ} {among left : ℕ} {start out : List ℕ} (v : ℕ) → 0 < left
    → Filled w W f among start left out → v ≡ f (count_trailing_zeros W left)
    → Filled w W f among start (bit_and left (left - 1)) (set out (count_trailing_zeros W left) v)
filled_more {w} {W} {f} {left = left} {out = out} v p h e =
    record {
      walk = left_more h.walk;
      within = λ k t. h.within k (and_left (bit left k) (not (eqb k low)) (sym (bit_left h.walk p k) ∙ t));
      full = length-set out low v ∙ h.full;
      places = λ k l.
          ap₂ (λ t (x : ℕ). cond t (f k) x) (bit_left h.walk p k)
          (stored_at out low v k (omega (arith, lowest_place h.walk p, h.full)))
          ∙ at k (eqb k low) refl
          ∙ h.places k l;
    }
  where
    low : ℕ
    low = count_trailing_zeros W left

    at : (k : ℕ) (t : Bool) → eqb k low ≡ t → cond (bit left k && not t) (f k) (cond t v (get_or out k 0))
        ≡ cond (bit left k) (f k) (get_or out k 0)
    at k true e₂ =
        let there = at_lowest h.walk p k e₂ in
        rw there.1 (e ∙ ap f (sym there.0))
    at k false e₂ = ap (λ b. cond b (f k) (get_or out k 0)) (and-true (bit left k))

pub filled_last : {w W : ℕ} {f : ℕ → ℕ} {among left : ℕ} {start out : List ℕ} → left ≡ 0
    → Filled w W f among start left out → out ≡ tabulate w (λ k. cond (bit among k) (f k) (get_or start k 0))
filled_last {w} {f = f} {among} {left} {start} {out} e h =
    ext_get_or 0 out (tabulate w result) (h.full ∙ sym (length_tabulate w result))
    (λ k l. let here : k < w = omega (arith, h.full) in
    ap (λ t. cond t (f k) (get_or out k 0)) (sym (bit_none left k e)) ∙ h.places k here
    ∙ sym (get_d_tabulate w result k 0 here))
  where
    result : ℕ → ℕ
    result k = cond (bit among k) (f k) (get_or start k 0)
