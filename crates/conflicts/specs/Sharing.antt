-- What two entries conflict over. Specification, clauses 3.2 and 3.4.
use Rattle.std.specs.Prelude.{ℕ, Bool, Option, Some, None, cond, eqb}
use Rattle.masks.specs.Sets.{bit, count_of, lowest_of}
use Rattle.plans.specs.Entries.{max_resources}
use Rattle.conflicts.specs.declared.sharing.Conflict.{Conflict}

-- Clauses 3.2 and 5.8: the resources that two entries conflict over: for two writes what their widened sets share, for
-- two reads none, for a read and a write what their names share.
abbrev pub shared_by : Bool → Bool → ℕ → ℕ → ℕ
shared_by writes reads names widened = cond writes widened (cond reads 0 names)

-- Clause 3.4: a conflict as numbers: 0 for none, else 1, with the lowest of the shared resources and how many there
-- are.
pub record Over : Type 0 where
  pub number : ℕ
  pub lowest : ℕ
  pub count : ℕ

abbrev pub no_conflict : Over
no_conflict = record { number = 0; lowest = 0; count = 0 }

abbrev pub conflict_as_numbers : Option Conflict → Over
conflict_as_numbers None = no_conflict
conflict_as_numbers (Some c) = record { number = 1; lowest = c.lowest; count = c.count }

-- Clause 3.4: the conflict over a set of shared resources.
unfoldable pub over : ℕ → Over
over set =
    cond (eqb set 0) no_conflict
    (record { number = 1; lowest = lowest_of max_resources (bit set); count = count_of max_resources (bit set) })
