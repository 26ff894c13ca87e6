-- Which plan values are accepted, and which number the others are refused with: 3 to 8. Specification, section 2.
use Rattle.std.specs.Prelude.{ℕ, ◌^◌, Bool, not, ◌&&◌, ◌||◌, List, [], ◌∷◌, eqb, leb, ltb}
use Rattle.refusals.specs.Due.{due, first_of}
use Rattle.plans.specs.Entries.{max_processors, max_resources, max_entries, is_read, is_write, counted_entries}
use Rattle.plans.specs.declared.Entry.{Entry}
use Rattle.plans.specs.declared.Plan.{Plan}

-- The number n is from low to high.
abbrev pub within : ℕ → ℕ → ℕ → Bool
within low high n = leb low n && leb n high

-- Clause 2.3: 3 for a count of processors that is not 1 to 32.
abbrev pub processors_fault : ℕ → ℕ
processors_fault m = due (within 1 max_processors m) 3

-- Clause 2.4: 4 for a count of resources that is not 1 to 64.
abbrev pub resources_fault : ℕ → ℕ
resources_fault n = due (within 1 max_resources n) 4

-- Clause 2.5: 5 for a count of entries that is not 1 to 64.
abbrev pub count_fault : ℕ → ℕ
count_fault n = due (within 1 max_entries n) 5

-- Clause 2.9: the three counts in the order of their bytes.
unfoldable pub counts_fault : ℕ → ℕ → ℕ → ℕ
counts_fault processors resources count =
    first_of (processors_fault processors) (first_of (resources_fault resources) (count_fault count))

-- Clause 2.6: 6 for an entry that neither reads nor writes.
abbrev pub kind_fault : Entry → ℕ
kind_fault e = due (is_read e || is_write e) 6

-- Clause 2.7: 7 for no names, or for a name that is not counted. All names are below n if the set as a number is below
-- 2 ^ n.
abbrev pub set_fault : ℕ → Entry → ℕ
set_fault resources e = due (not (eqb e.set 0) && ltb e.set (2 ^ resources)) 7

-- Clause 2.7: 8 for a length of 0.
abbrev pub length_fault : Entry → ℕ
length_fault e = due (ltb 0 e.length) 8

-- Clause 2.9: an entry's kind, then its names, then its length.
unfoldable pub entry_fault : ℕ → Entry → ℕ
entry_fault resources e = first_of (kind_fault e) (first_of (set_fault resources e) (length_fault e))

-- Clause 2.9: the first fault of the entries in their order.
unfoldable pub entries_fault : ℕ → List Entry → ℕ
entries_fault resources [] = 0
entries_fault resources (e ∷ later) = first_of (entry_fault resources e) (entries_fault resources later)

-- Clause 2.10: the number that a plan value is refused with, the same as the reader's, or 0 if it is accepted. Entries
-- past the count are not checked.
unfoldable pub plan_fault : Plan → ℕ
plan_fault p =
    first_of (counts_fault p.processors p.resources p.count) (entries_fault p.resources (counted_entries p))
