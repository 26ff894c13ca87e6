-- What an accepted plan guarantees for each of its entries: its kind, and a set that is not empty and names only
-- counted resources. Assumes nothing.
use Prim.Native.Nat.{ℕ, zero, suc, ◌^◌, ◌<◌}
use mathlib.Core.Path.{◌≡◌, refl}
use mathlib.Core.Bool.{true, not, ◌||◌, false≢true, and-eq-true_iff}
use mathlib.Core.Logic.{⊎_elim}
use mathlib.Core.List.{List, [], ◌∷◌}
use lib.Dec.{eqb, ltb, lit<}
use lib.ListN.{get_or}
use lib.Pow.{pow_pos}
use borrow.Author.Tests.{eqb-true, ltb-true}
use Rattle.plans.specs.declared.Entry.{Entry}
use Rattle.plans.specs.declared.Plan.{Plan}
use Rattle.plans.specs.Acceptance.{kind_fault, set_fault, length_fault, counts_fault, entry_fault, entries_fault, plan_fault}
use Rattle.plans.specs.Entries.{is_read, is_write, counted_entries, blank_entry, entry_at}
use Rattle.masks.proofs.Truth.{or_cases}
use Rattle.refusals.proofs.Numbers.{first_accepted, due_accepted}

-- ---- an entry

module _ (resources : ℕ) (e : Entry) (taken : entry_fault resources e ≡ 0) where
  kind_taken : (is_read e || is_write e) ≡ true
  unfolding entry_fault
  kind_taken = due_accepted (is_read e || is_write e) 6 (lit< tt) (first_accepted (kind_fault e) _ taken).first

  set_taken : (not (eqb e.set 0) ≡ true) × (ltb e.set (2 ^ resources) ≡ true)
  unfolding entry_fault
  set_taken =
      (and-eq-true_iff (not (eqb e.set 0)) (ltb e.set (2 ^ resources))).0
      (due_accepted _ 7 (lit< tt) (first_accepted (set_fault resources e) (length_fault e)
      (first_accepted (kind_fault e) _ taken).later).first)

one_kind : (k : ℕ) → (eqb k 0 || eqb k 1) ≡ true → eqb k 0 ≡ not (eqb k 1)
one_kind k h = ⊎_elim (λ e. rw (eqb-true k 0 e)) (λ e. rw (eqb-true k 1 e)) (or_cases (eqb k 0) (eqb k 1) h)

-- ---- the entries

-- A property of the blank entry and of each entry without a fault is a property of the entry at each place.
by_accepted : (P : Entry → Type 0) (resources : ℕ) → P blank_entry → ((e : Entry) → entry_fault resources e ≡ 0 → P e)
    → (es : List Entry) → entries_fault resources es ≡ 0 → (i : ℕ) → P (get_or es i blank_entry)
unfolding entries_fault
by_accepted P resources blank each [] h i = blank
by_accepted P resources blank each (e ∷ later) h zero =
    each e (first_accepted (entry_fault resources e) (entries_fault resources later) h).first
by_accepted P resources blank each (e ∷ later) h (suc i) =
    by_accepted P resources blank each later
    (first_accepted (entry_fault resources e) (entries_fault resources later) h).later i

module _ (p : Plan) (taken : plan_fault p ≡ 0) (i : ℕ) where
  by_plan : (P : Entry → Type 0) → P blank_entry → ((e : Entry) → entry_fault p.resources e ≡ 0 → P e)
      → P (entry_at p i)
  unfolding plan_fault
  by_plan P blank each =
      by_accepted P p.resources blank each (counted_entries p)
      (first_accepted (counts_fault p.processors p.resources p.count) _ taken).later i

  pub read_or_write : is_read (entry_at p i) ≡ not (is_write (entry_at p i))
  read_or_write =
      by_plan (λ e. is_read e ≡ not (is_write e)) refl (λ e h. one_kind e.kind (kind_taken p.resources e h))

  pub write_not_empty : is_write (entry_at p i) ≡ true → not (eqb (entry_at p i).set 0) ≡ true
  write_not_empty =
      by_plan (λ e. is_write e ≡ true → not (eqb e.set 0) ≡ true) (λ h. absurd (false≢true h))
      (λ e h w. (set_taken p.resources e h).0)

  pub set_below : (entry_at p i).set < 2 ^ p.resources
  set_below =
      by_plan (λ e. e.set < 2 ^ p.resources) (pow_pos p.resources)
      (λ e h. ltb-true e.set (2 ^ p.resources) (set_taken p.resources e h).1)
