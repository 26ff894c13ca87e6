-- Which entries of a plan conflict. Specification, section 3.
use Rattle.std.specs.Prelude.{ℕ, Bool, cond, not, ◌&&◌, List, eqb, ltb}
use Rattle.std.specs.Int.Bits.{bit_and}
use Rattle.masks.specs.Sets.{mask_of}
use Rattle.masks.specs.Tabulation.{tabulate}
use Rattle.plans.specs.declared.Entry.{Entry}
use Rattle.plans.specs.declared.Plan.{Plan}
use Rattle.plans.specs.Entries.{max_entries, is_read, is_write, counted_entries, entry_at}
use Rattle.conflicts.specs.Sharing.{shared_by}
use Rattle.conflicts.specs.Widening.{widened_set}
use Rattle.conflicts.specs.declared.Conflicts.{Conflicts}

-- Clause 3.2: the resources that two entries of a plan conflict over.
unfoldable pub shared : List Entry → Entry → Entry → ℕ
shared entries e f =
    shared_by (is_write e && is_write f) (is_read e && is_read f) (bit_and e.set f.set)
    (bit_and (widened_set entries e) (widened_set entries f))

-- Clause 3.2: they conflict if there is such a resource.
unfoldable pub conflict : List Entry → Entry → Entry → Bool
conflict entries e f = not (eqb (shared entries e f) 0)

-- Clause 3.3: whether entries i and j of the plan conflict. Past the count there is no conflict.
unfoldable pub in_conflict : Plan → ℕ → ℕ → Bool
in_conflict p i j =
    (ltb i p.count && ltb j p.count) && conflict (counted_entries p) (entry_at p i) (entry_at p j)

-- Clause 3.3: computed once: the names and the widened set of each entry, and its row, the entries that it conflicts
-- with.
unfoldable pub conflicts_of : Plan → Conflicts
conflicts_of p =
    record {
      names = tabulate max_entries (λ i. (entry_at p i).set);
      widened = tabulate max_entries (λ i. cond (ltb i p.count) (widened_set (counted_entries p) (entry_at p i)) 0);
      rows = tabulate max_entries (λ i. mask_of max_entries (in_conflict p i));
    }
