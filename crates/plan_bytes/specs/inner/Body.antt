-- The entries of a plan in its bytes, after the three counts.
use Rattle.std.specs.Prelude.{ℕ, ◌≤◌, List, length, get_or, drop}
use Rattle.plans.specs.declared.Entry.{Entry}
use Rattle.plans.specs.declared.Read.{Read}
use Rattle.plans.specs.Entries.{max_entries, counts_size}
use Rattle.plans.specs.Reading.{section_fault}

-- The first fault of the counted entries.
abbrev pub body_fault : List ℕ → ℕ
body_fault s = section_fault (get_or s 1 0) (get_or s 2 0) (drop counts_size s)

-- The bytes of the counts are there, and an array has room for the entries.
pub record CountsThere (s : List ℕ) : Type 0 where
  pub there : counts_size ≤ length s
  pub held : get_or s 2 0 ≤ max_entries

-- Clause 2.8: the plan with the counts in the bytes s and these entries, and the number of bytes that it took.
abbrev pub whole_read : List ℕ → List Entry → ℕ → Read
whole_read s entries taken =
    record {
      plan = record { processors = get_or s 0 0; resources = get_or s 1 0; count = get_or s 2 0; entries = entries };
      bytes = taken;
    }
