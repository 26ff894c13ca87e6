-- What reading a plan means, and when it is refused: 1 and 3 to 8. Specification, section 2.
use Rattle.std.specs.Prelude.{ℕ, Result, Ok, Err, zero, suc, ◌-◌, cond, List, [], ◌∷◌, ◌++◌, eqb, get_or, drop, replicate}
use Rattle.std.proofs.Math.Seq.{slice}
use Rattle.refusals.specs.declared.Refusal.{Refusal}
use Rattle.refusals.specs.Number.{number_of}
use Rattle.refusals.specs.Due.{AsNumbers, first_of, as_numbers}
use Rattle.encoding.specs.Numbers.{number}
use Rattle.encoding.specs.Buffers.{short_fault}
use Rattle.plans.specs.Entries.{max_entries, counts_size, entry_size, entry_size_of, plan_size, blank_entry}
use Rattle.plans.specs.Acceptance.{processors_fault, resources_fault, count_fault, entry_fault}
use Rattle.plans.specs.declared.Entry.{Entry}
use Rattle.plans.specs.declared.Plan.{Plan}
use Rattle.plans.specs.declared.Read.{Read}

-- Clause 2.6: the entry at the start of the bytes s.
unfoldable pub entry_in : List ℕ → Entry
entry_in s = record { kind = get_or s 0 0; set = number (slice 1 9 s); length = number (slice 9 entry_size s) }

-- The first n entries of the bytes s.
unfoldable pub entries_in : ℕ → List ℕ → List Entry
entries_in zero s = []
entries_in (suc n) s = entry_in s ∷ entries_in n (drop (entry_size_of (entry_in s)) s)

-- Clauses 2.9 and 8.2: the first fault of n entries in the bytes s. Each entry is due (1) before it is checked.
unfoldable pub section_fault : ℕ → ℕ → List ℕ → ℕ
section_fault resources zero s = 0
section_fault resources (suc n) s =
    first_of (short_fault entry_size s)
    (first_of (entry_fault resources (entry_in s)) (section_fault resources n (drop (entry_size_of (entry_in s)) s)))

-- Clauses 2.9 and 8.2: the first fault of the bytes s. Each count is due (1) before it is checked, then the entries.
unfoldable pub read_fault : List ℕ → ℕ
read_fault s =
    first_of (short_fault 1 s)
    (first_of (processors_fault (get_or s 0 0))
    (first_of (short_fault 2 s)
    (first_of (resources_fault (get_or s 1 0))
    (first_of (short_fault counts_size s)
    (first_of (count_fault (get_or s 2 0)) (section_fault (get_or s 1 0) (get_or s 2 0) (drop counts_size s)))))))

-- Clause 2.9: the plan that is returned with a refusal.
abbrev pub blank_plan : Plan
blank_plan = record { processors = 0; resources = 0; count = 0; entries = replicate max_entries blank_entry }

-- Clauses 2.2 and 2.6: the plan in the bytes s.
unfoldable pub plan_in : List ℕ → Plan
plan_in s =
    record {
      processors = get_or s 0 0;
      resources = get_or s 1 0;
      count = get_or s 2 0;
      entries = entries_in (get_or s 2 0) (drop counts_size s) ++ replicate (max_entries - get_or s 2 0) blank_entry;
    }

-- Clause 2.8: how many bytes the plan took, or the refusal. Bytes after the plan are ignored.
abbrev pub read_as_numbers : List ℕ → AsNumbers
read_as_numbers s = as_numbers (read_fault s) (plan_size (plan_in s))

-- Clause 2.9: the plan that is returned with it. It is blank if the bytes are refused.
unfoldable pub plan_read : List ℕ → Plan
plan_read s = cond (eqb (read_fault s) 0) (plan_in s) blank_plan

-- What a reading returns, in numbers: how many bytes the plan took, or the refusal.
abbrev pub taken_as_numbers : Result Read Refusal → AsNumbers
taken_as_numbers (Ok read) = record { number = 0; value = read.bytes }
taken_as_numbers (Err r) = record { number = number_of r; value = 0 }

-- The plan of a reading. Clause 2.9: it is blank for a refusal.
abbrev pub plan_taken : Result Read Refusal → Plan
plan_taken (Ok read) = read.plan
plan_taken (Err r) = blank_plan
