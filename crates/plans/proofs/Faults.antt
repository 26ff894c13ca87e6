-- The first fault of a plan's bytes is that of the plan value in them. Assumes nothing.
use Prim.Native.Nat.{ℕ, zero, suc, ◌≤◌}
use mathlib.Core.Path.{◌≡◌, refl}
use mathlib.Core.List.{List}
use native.Mathlib.Omega.{arith}
use lib.Dec.{leb}
use lib.ListN.{length, get_or, drop, length-drop}
use borrow.Author.Tests.{leb-true}
use Rattle.masks.proofs.Truth.{and_right}
use Rattle.refusals.specs.Due.{due, first_of}
use Rattle.refusals.proofs.Numbers.{first_accepted, first_of_four, due_accepted}
use Rattle.encoding.specs.Buffers.{short_fault}
use Rattle.encoding.proofs.Room.{enough_at, enough_length}
use Rattle.plans.specs.Entries.{max_entries, counts_size, entry_size, entry_size_of, section_size}
use Rattle.plans.specs.Acceptance.{within, processors_fault, resources_fault, count_fault, counts_fault, entry_fault}
use Rattle.plans.specs.Acceptance.{entries_fault}
use Rattle.plans.specs.Reading.{entry_in, entries_in, section_fault, read_fault}
use Rattle.plans.proofs.Sizes.{entry_size_least, entry_size_due}
use Rattle.plans.proofs.EntryBytes.{first_there, later_there}

-- ---- the counts

pub within_most : (low high n k : ℕ) → due (within low high n) (suc k) ≡ 0 → n ≤ high
within_most low high n k e =
    leb-true n high (and_right (leb low n) (leb n high) (due_accepted (within low high n) (suc k) (omega arith) e))

pub counts_at_most : (m n k : ℕ) → counts_fault m n k ≡ 0 → k ≤ max_entries
unfolding counts_fault
counts_at_most m n k e =
    let rest = (first_accepted (processors_fault m) (first_of (resources_fault n) (count_fault k)) e).later in
    within_most 1 max_entries k 4 (first_accepted (resources_fault n) (count_fault k) rest).later

-- ---- the entries

pub section_fault_law : (r n : ℕ) (s : List ℕ) → section_size (entries_in n s) ≤ length s
    → section_fault r n s ≡ entries_fault r (entries_in n s)
unfolding section_fault entries_fault entries_in
section_fault_law r zero s l = refl
section_fault_law r (suc n) s l =
    rw (
      enough_at entry_size s (omega (arith, first_there n s l, entry_size_least (entry_in s))),
      section_fault_law r n (drop (entry_size_of (entry_in s)) s) (later_there n s l),
    )

pub section_length : (r n : ℕ) (s : List ℕ) → section_fault r n s ≡ 0 → section_size (entries_in n s) ≤ length s
unfolding section_fault entries_in section_size
section_length r zero s e = omega arith
section_length r (suc n) s e =
    let k = entry_size_of (entry_in s) in
    let both = first_accepted (short_fault entry_size s) _ e in
    let later = (first_accepted (entry_fault r (entry_in s)) _ both.later).later in
    omega (
      arith,
      enough_length entry_size s both.first,
      entry_size_due (entry_in s),
      section_length r n (drop k s) later,
      length-drop k s,
    )

-- ---- a whole plan

pub read_fault_law : (s : List ℕ) → counts_size ≤ length s
    → read_fault s
    ≡ first_of (counts_fault (get_or s 0 0) (get_or s 1 0) (get_or s 2 0))
    (section_fault (get_or s 1 0) (get_or s 2 0) (drop counts_size s))
unfolding read_fault counts_fault
read_fault_law s l =
    rw (enough_at 1 s (omega arith), enough_at 2 s (omega arith), enough_at counts_size s l)
    (first_of_four (processors_fault (get_or s 0 0)) (resources_fault (get_or s 1 0)) (count_fault (get_or s 2 0)) _)

pub read_length : (s : List ℕ) → read_fault s ≡ 0 → counts_size ≤ length s
unfolding read_fault
read_length s e =
    let first = (first_accepted (short_fault 1 s) _ e).later in
    let resources = (first_accepted (processors_fault (get_or s 0 0)) _ first).later in
    let second = (first_accepted (short_fault 2 s) _ resources).later in
    let count = (first_accepted (resources_fault (get_or s 1 0)) _ second).later in
    enough_length counts_size s (first_accepted (short_fault counts_size s) _ count).first
