-- How many bytes entries and plans take: at least a kind, names and a length, and never more than the maximum. Assumes
-- nothing.
use Prim.Native.Nat.{ℕ, ◌+◌, ◌*◌, ◌≤◌, ◌<◌}
use mathlib.Core.Path.{◌≡◌, ap}
use mathlib.Core.List.{List, [], ◌∷◌, ◌++◌}
use native.Mathlib.Nat.{le_refl}
use native.Mathlib.Omega.{arith}
use lib.ListN.{length, drop, get_or, length-take}
use Rattle.plans.specs.declared.Entry.{Entry}
use Rattle.plans.specs.declared.Plan.{Plan}
use Rattle.plans.specs.Entries.{max_entries, entry_size, entry_size_of, largest_entry, section_size}
use Rattle.plans.specs.Entries.{counted_entries, plan_size, max_plan_size}
use Rattle.plans.proofs.Counted.{none_left, next_left}

-- ---- one entry

pub entry_size_least : (e : Entry) → entry_size ≤ entry_size_of e
unfolding entry_size_of
entry_size_least e = le_refl entry_size

pub entry_size_most : (e : Entry) → entry_size_of e ≤ largest_entry
unfolding entry_size_of
entry_size_most e = le_refl largest_entry

-- The same for a number that is known to be its size.
pub sized_least : (e : Entry) (k : ℕ) → k ≡ entry_size_of e → entry_size ≤ k
sized_least e k is = omega (arith, entry_size_least e)

pub sized_most : (e : Entry) (k : ℕ) → k ≡ entry_size_of e → k ≤ largest_entry
sized_most e k is = omega (arith, entry_size_most e)

-- An entry ends with its length, so bytes that contain its kind, names and length contain all of it.
pub entry_size_due : (e : Entry) → entry_size_of e ≤ entry_size
unfolding entry_size_of
entry_size_due e = le_refl entry_size

pub sized_due : (e : Entry) (k : ℕ) → k ≡ entry_size_of e → k ≤ entry_size
sized_due e k is = omega (arith, entry_size_due e)

-- ---- the entries of a section

pub section_size_most : (es : List Entry) → section_size es ≤ largest_entry * length es
unfolding section_size
section_size_most [] = omega arith
section_size_most (e ∷ es) = omega (arith, entry_size_most e, section_size_most es)

pub section_size_append : (xs ys : List Entry) → section_size (xs ++ ys) ≡ section_size xs + section_size ys
unfolding section_size
section_size_append [] ys = omega arith
section_size_append (e ∷ xs) ys = omega (arith, section_size_append xs ys)

pub section_size_one : (e : Entry) → section_size (e ∷ []) ≡ entry_size_of e
unfolding section_size
section_size_one e = omega arith

-- The bytes of the entries that are left at place i.
module _ (i : ℕ) (xs : List Entry) where
  pub size_left : (d : Entry) → i < length xs
      → section_size (drop i xs) ≡ entry_size_of (get_or xs i d) + section_size (drop (i + 1) xs)
  unfolding section_size
  size_left d h = ap section_size (next_left i xs d h)

  -- A turn adds the size of the next one.
  pub size_added : (d : Entry) (size k whole : ℕ) → k ≡ entry_size_of (get_or xs i d) → i < length xs
      → size + section_size (drop i xs) ≡ whole → size + k + section_size (drop (i + 1) xs) ≡ whole
  size_added d size k whole is h e = omega (arith, size_left d h)

  pub no_size_left : length xs ≤ i → section_size (drop i xs) ≡ 0
  unfolding section_size
  no_size_left h = ap section_size (none_left i xs h)

-- ---- a plan

pub plan_size_most : (p : Plan) → p.count ≤ max_entries → plan_size p ≤ max_plan_size
plan_size_most p h =
    omega (arith, section_size_most (counted_entries p), length-take p.count p.entries)
