-- The widened set of entry i, and other numbers of it, as the loops over the whole array compute them. Assumes nothing.
use Prim.Native.Nat.{ℕ, ◌<◌}
use native.Mathlib.Omega.{arith}
use mathlib.Core.Path.{◌≡◌, refl, sym, ap, ap₂, ◌∙◌}
use mathlib.Core.Bool.{Bool, true, false, cond}
use lib.Dec.{ltb}
use lib.ListN.{get_or, length-take, get_or-eq_default}
use lib.Seq.{get_or-take}
use borrow.Author.Tests.{lt-ltb, ltb-true, ltb-false}
use Rattle.plans.specs.declared.Entry.{Entry}
use Rattle.plans.specs.declared.Plan.{Plan}
use Rattle.plans.specs.Entries.{max_entries, counted_entries, blank_entry, entry_at}
use Rattle.conflicts.specs.Widening.{widened_set}
use Rattle.conflicts.specs.Conflict.{conflicts_of}
use Rattle.masks.proofs.Tabulate.{get_d_tabulate}

-- The widened set of entry i, or the empty set past the count.
abbrev pub widened_at : Plan → ℕ → ℕ
widened_at p i = cond (ltb i p.count) (widened_set (counted_entries p) (entry_at p i)) 0

module _ (p : Plan) (i : ℕ) (h : i < p.count) where
  -- A counted entry, at its place in the plan's array.
  pub entry_at_law : entry_at p i ≡ get_or p.entries i blank_entry
  entry_at_law = get_or-take p.count p.entries i blank_entry h

  pub widened_counted : widened_at p i ≡ widened_set (counted_entries p) (get_or p.entries i blank_entry)
  widened_counted = ap₂ (λ t e. cond t (widened_set (counted_entries p) e) 0) (lt-ltb i p.count h) entry_at_law

-- Past the count an entry is the blank one.
pub past_count : (p : Plan) (i : ℕ) → ltb i p.count ≡ false → entry_at p i ≡ blank_entry
past_count p i e =
    get_or-eq_default (counted_entries p) blank_entry {n = i}
    (omega (arith, length-take p.count p.entries, ltb-false i p.count e))

-- A number of each counted entry, or 0 past the count, as a loop over the whole array computes it.
pub counted_field : (p : Plan) (i : ℕ) (f : Entry → ℕ) → f blank_entry ≡ 0
    → cond (ltb i p.count) (f (get_or p.entries i blank_entry)) 0 ≡ f (entry_at p i)
counted_field p i f none = go (ltb i p.count) refl
  where
    go : (t : Bool) → ltb i p.count ≡ t → cond t (f (get_or p.entries i blank_entry)) 0 ≡ f (entry_at p i)
    go true e = ap f (sym (entry_at_law p i (ltb-true i p.count e)))
    go false e = sym (ap f (past_count p i e) ∙ none)

-- The elements of the array of all widened sets.
pub widened_at_law : (p : Plan) (i : ℕ) → i < max_entries → get_or (conflicts_of p).widened i 0 ≡ widened_at p i
unfolding conflicts_of
widened_at_law p i l = get_d_tabulate max_entries (widened_at p) i 0 l
