-- Bit j of row i is set exactly if entries i and j conflict, and a row is a set of width 64. Assumes nothing.
use Prim.Native.Nat.{ℕ, ◌^◌, ◌<◌}
use mathlib.Core.Path.{◌≡◌, refl, ap, ◌∙◌}
use mathlib.Core.Bool.{Bool, true, false}
use lib.Dec.{ltb}
use lib.ListN.{get_or}
use lib.Pow.{pow_pos}
use borrow.Author.Tests.{ltb-true, ltb-false}
use Rattle.masks.specs.Sets.{bit, mask_of}
use Rattle.masks.proofs.Masks.{bit_mask_at, mask_below}
use Rattle.plans.specs.declared.Plan.{Plan}
use Rattle.plans.specs.Entries.{max_entries}
use Rattle.conflicts.specs.Conflict.{in_conflict, conflicts_of}
use Rattle.masks.proofs.Tabulate.{get_d_tabulate, get_d_tabulate_past}

module _ (p : Plan) where
  pub row_is : (i : ℕ) → i < max_entries → get_or (conflicts_of p).rows i 0 ≡ mask_of max_entries (in_conflict p i)
  unfolding conflicts_of
  row_is i l = get_d_tabulate max_entries (λ i. mask_of max_entries (in_conflict p i)) i 0 l

  pub bit_row : (i j : ℕ) → i < max_entries → j < max_entries → bit (get_or (conflicts_of p).rows i 0) j ≡ in_conflict p i j
  bit_row i j li lj = ap (λ (r : ℕ). bit r j) (row_is i li) ∙ bit_mask_at max_entries (in_conflict p i) j lj

  -- Past the last row the row is empty.
  pub row_below : (i : ℕ) → get_or (conflicts_of p).rows i 0 < 2 ^ 64
  unfolding conflicts_of
  row_below i = go (ltb i max_entries) refl
    where
      go : (t : Bool) → ltb i max_entries ≡ t → get_or (conflicts_of p).rows i 0 < 2 ^ 64
      go true e = rw (row_is i (ltb-true i max_entries e)) (mask_below max_entries (in_conflict p i))
      go false e = rw (get_d_tabulate_past max_entries (λ i. mask_of max_entries (in_conflict p i)) i 0
          (ltb-false i max_entries e)) (pow_pos max_entries)
