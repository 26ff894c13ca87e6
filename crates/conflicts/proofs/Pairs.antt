-- The conflict of two entries, read from the plan's array and from the array of widened sets, and a row with one more
-- entry. Assumes nothing.
use Prim.Native.Nat.{ℕ, ◌+◌, ◌<◌}
use mathlib.Core.Path.{◌≡◌, refl, ap, ◌∙◌}
use mathlib.Core.Bool.{Bool, true, false, cond, not, ◌&&◌}
use mathlib.Core.List.{List}
use lib.Bits.{bit_and}
use lib.Dec.{eqb, ltb}
use lib.ListN.{get_or}
use borrow.Author.Tests.{ltb-true}
use Rattle.masks.specs.Sets.{added, mask_of}
use Rattle.masks.proofs.Masks.{mask_next}
use Rattle.plans.specs.declared.Entry.{Entry}
use Rattle.plans.specs.declared.Plan.{Plan}
use Rattle.plans.specs.Entries.{max_entries, is_read, is_write, counted_entries, blank_entry, entry_at}
use Rattle.conflicts.specs.Sharing.{shared_by, Over, over}
use Rattle.conflicts.specs.Widening.{widened_set}
use Rattle.conflicts.specs.Conflict.{shared, conflict, in_conflict, conflicts_of}
use Rattle.conflicts.proofs.Over.{over_is}
use Rattle.conflicts.proofs.WidenedSets.{entry_at_law, widened_counted, widened_at_law}

-- What two entries share, given their widened sets a and b, and whether they conflict.
abbrev pub pair_shares : Entry → ℕ → Entry → ℕ → ℕ
pair_shares e a f b = shared_by (is_write e && is_write f) (is_read e && is_read f) (bit_and e.set f.set) (bit_and a b)

abbrev pair : Entry → ℕ → Entry → ℕ → Bool
pair e a f b = not (eqb (pair_shares e a f b) 0)

module _ (p : Plan) (sets : List ℕ) (made : sets ≡ (conflicts_of p).widened) where
  set_read : (i : ℕ) → i < max_entries → i < p.count → get_or sets i 0
      ≡ widened_set (counted_entries p) (get_or p.entries i blank_entry)
  set_read i l h = ap (λ s. get_or s i 0) made ∙ widened_at_law p i l ∙ widened_counted p i h

  pair_in_conflict : (i j : ℕ) → i < max_entries → j < max_entries
      → ((ltb i p.count && ltb j p.count)
      && pair (get_or p.entries i blank_entry) (get_or sets i 0) (get_or p.entries j blank_entry) (get_or sets j 0))
      ≡ in_conflict p i j
  unfolding in_conflict conflict shared
  pair_in_conflict i j li lj = go (ltb i p.count) (ltb j p.count) refl refl
    where
      go : (t u : Bool) → ltb i p.count ≡ t → ltb j p.count ≡ u
          → ((t && u) && pair (get_or p.entries i blank_entry) (get_or sets i 0) (get_or p.entries j blank_entry)
          (get_or sets j 0))
          ≡ ((t && u) && conflict (counted_entries p) (entry_at p i) (entry_at p j))
      go true true hi hj =
          let ci : i < p.count = ltb-true i p.count hi in
          let cj : j < p.count = ltb-true j p.count hj in
          rw (set_read i li ci, set_read j lj cj, entry_at_law p i ci, entry_at_law p j cj)
      go true false hi hj = refl
      go false u hi hj = refl

  -- The row of entry i with column j added, whether or not the pair conflicts.
  pub row_next : (i j row next : ℕ) (found : Over) → i < max_entries → j < max_entries → row ≡ mask_of j (in_conflict p i)
      → found ≡ over (pair_shares (get_or p.entries i blank_entry) (get_or sets i 0) (get_or p.entries j blank_entry)
      (get_or sets j 0))
      → next ≡ cond ((ltb i p.count && ltb j p.count) && eqb found.number 1) (added row j) row
      → next ≡ mask_of (j + 1) (in_conflict p i)
  row_next i j row next found li lj before e after =
      mask_next j (in_conflict p i) row next ((ltb i p.count && ltb j p.count) && eqb found.number 1) after
      before
      (ap (λ t. (ltb i p.count && ltb j p.count) && t) (ap (λ (o : Over). eqb o.number 1) e ∙ over_is _)
      ∙ pair_in_conflict i j li lj)
