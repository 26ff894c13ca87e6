-- The walk through a mask that collects the number of each place in a set. A row meets the set exactly if it contains
-- one of the numbers. The mask has w places in a word of W bits, and the set is in a word of R bits. Assumes nothing.
use mathlib.Core.Path.{◌≡◌, sym, ap, ◌∙◌}
use mathlib.Core.Bool.{Bool, ◌||◌, or-false, or_assoc}
use Prim.Native.Nat.{ℕ, ◌-◌, ◌^◌, ◌<◌}
use lib.Bits.{bit_and}
use lib.Count.{count_trailing_zeros}
use lib.Pow.{pow_pos}
use Rattle.masks.specs.Sets.{bit, added, meets}
use Rattle.masks.proofs.Places.{added_below}
use Rattle.masks.proofs.Meets.{meets_none, meets_added}
use Rattle.masks.proofs.Walks.{Left, left_more, some_of, some_lowest, some_last}

-- The row contains the number of some place of the mask.
abbrev pub some_in : ℕ → (ℕ → ℕ) → ℕ → ℕ → Bool
some_in w f row mask = some_of w (λ k. bit row (f k)) mask

pub record Gathered (w W R : ℕ) (f : ℕ → ℕ) (among left set : ℕ) : Type 0 where
  pub walk : Left w W left
  pub width : set < 2 ^ R
  pub meeting : (row : ℕ) → (meets row set || some_in w f row left) ≡ some_in w f row among

pub gathered_first : {w W among : ℕ} (R : ℕ) (f : ℕ → ℕ) → Left w W among → Gathered w W R f among among 0
gathered_first {w} {W} {among} R f h =
    record { walk = h; width = pow_pos R; meeting = λ row. ap (λ t. t || some_in w f row among) (meets_none row) }

pub gathered_more : {w W R : ℕ} {f : ℕ → ℕ} {among left set : ℕ} (next : ℕ) → 0 < left → Gathered w W R f among left set
    → f (count_trailing_zeros W left) < R → next ≡ added set (f (count_trailing_zeros W left))
    → Gathered w W R f among (bit_and left (left - 1)) next
gathered_more {w} {W} {R} {f} {among} {left} {set} next p h l e =
    record {
      walk = left_more h.walk;
      width = rw e (added_below R set here h.width l);
      meeting = λ row.
          ap (λ t. t || some_in w f row (bit_and left (left - 1)))
          (ap (λ (x : ℕ). meets row x) e ∙ meets_added R row set here h.width l)
          ∙ or_assoc (meets row set) (bit row here) (some_in w f row (bit_and left (left - 1)))
          ∙ ap (λ t. meets row set || t) (some_lowest (λ k. bit row (f k)) h.walk p)
          ∙ h.meeting row;
    }
  where
    here : ℕ
    here = f (count_trailing_zeros W left)

pub gathered_last : {w W R : ℕ} {f : ℕ → ℕ} {among left set : ℕ} → left ≡ 0 → Gathered w W R f among left set
    → (row : ℕ) → meets row set ≡ some_in w f row among
gathered_last {w} {f = f} {left = left} {set} e h row =
    sym (or-false (meets row set)) ∙ ap (λ t. meets row set || t) (sym (some_last w (λ k. bit row (f k)) left e))
    ∙ h.meeting row
