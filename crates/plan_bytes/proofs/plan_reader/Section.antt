-- One turn of the loop over the entries of a plan: what was read so far, and what each branch makes of it. Assumes
-- nothing.
use Rattle.std.specs.Prelude.{Result, Ok, Err}
use Prim.Native.Nat.{ℕ, zero, suc, ◌+◌, ◌-◌, ◌≤◌, ◌<◌}
use native.Mathlib.Nat.{le_refl}
use native.Mathlib.Numerals.{add-one}
use native.Mathlib.Omega.{arith}
use mathlib.Core.Path.{◌≡◌, refl, sym, ap, ◌∙◌}
use mathlib.Core.Bool.{cond}
use mathlib.Core.List.{List, [], ◌∷◌, ◌++◌, append_assoc}
use borrow.Author.Tests.{lt-leb}
use lib.Dec.{eqb}
use lib.ListN.{length, get_or, take, drop, set, replicate, length-drop}
use lib.Seq.{drop-drop, set_at, take_all}
use Rattle.refusals.specs.declared.Refusal.{Refusal}
use Rattle.refusals.specs.Number.{number_of, verdict_number}
use Rattle.refusals.specs.Due.{first_of, as_numbers}
use Rattle.refusals.proofs.Numbers.{first_of_four, first_accepts_verdict, first_refuses_verdict}
use Rattle.encoding.proofs.Room.{enough_at}
use Rattle.plans.specs.declared.Entry.{Entry}
use Rattle.plans.specs.declared.Read.{Read}
use Rattle.plans.specs.Entries.{max_entries, counts_size, entry_size, entry_size_of, section_size, plan_size, blank_entry}
use Rattle.plans.specs.Acceptance.{kind_fault, set_fault, length_fault, entry_fault}
use Rattle.plans.specs.Reading.{entry_in, entries_in, section_fault, blank_plan, plan_in, taken_as_numbers, plan_taken}
use Rattle.plans.proofs.Sizes.{entry_size_due, section_size_append, section_size_one}
use Rattle.plans.proofs.EntryBytes.{length_entries_in}
use Rattle.plans.proofs.PlanBytes.{counted_plan_in}
use Rattle.plan_bytes.specs.inner.Body.{body_fault, whole_read}

-- The first i of n entries are read and have no fault. The next one begins at byte `at`.
pub record SoFar (resources n : ℕ) (bytes : List ℕ) (entries : List Entry) (at i : ℕ) : Type 0 where
  pub place : at ≡ counts_size + section_size (entries_in i (drop counts_size bytes))
  pub inside : at ≤ length bytes
  pub counted : i ≤ n
  pub fault : section_fault resources n (drop counts_size bytes) ≡ section_fault resources (n - i) (drop at bytes)
  pub filled : entries ≡ entries_in i (drop counts_size bytes) ++ replicate (max_entries - i) blank_entry

-- The entry after the first i.
abbrev entry_after : ℕ → List ℕ → Entry
entry_after i s = entry_in (drop (section_size (entries_in i s)) s)

one_entry_more : (i : ℕ) (s : List ℕ) → entries_in (suc i) s ≡ entries_in i s ++ (entry_after i s ∷ [])
unfolding entries_in section_size
one_entry_more zero s = refl
one_entry_more (suc i) s =
    ap (λ l. entry_in s ∷ l) (one_entry_more i (drop (entry_size_of (entry_in s)) s) ∙ rw drop-drop)

one_size_more : (i : ℕ) (s : List ℕ)
    → section_size (entries_in (suc i) s) ≡ section_size (entries_in i s) + entry_size_of (entry_after i s)
one_size_more i s =
    ap section_size (one_entry_more i s)
    ∙ section_size_append (entries_in i s) (entry_after i s ∷ [])
    ∙ ap (λ k. section_size (entries_in i s) + k) (section_size_one (entry_after i s))

store_next : (i : ℕ) (s : List ℕ) → i < max_entries
    → set (entries_in i s ++ replicate (max_entries - i) blank_entry) i (entry_after i s)
    ≡ entries_in (suc i) s ++ replicate (max_entries - suc i) blank_entry
store_next i s h =
    let e : max_entries - i ≡ suc (max_entries - suc i) = omega arith in
    let blank = replicate (max_entries - suc i) blank_entry in
    rw (
      e,
      set_at (entries_in i s) blank_entry blank (entry_after i s) i (length_entries_in i s),
      one_entry_more,
      append_assoc,
    )

pub nothing_read : (resources n : ℕ) (bytes : List ℕ) → counts_size ≤ length bytes
    → SoFar resources n bytes (replicate max_entries blank_entry) counts_size 0
unfolding entries_in section_size
nothing_read resources n bytes h =
    let e : n - 0 ≡ n = omega arith in
    record { place = refl; inside = h; counted = omega arith; fault = rw e; filled = refl }

-- The bytes from `at` on, as the code takes the slice.
pub rest_length : (at : ℕ) (bytes : List ℕ) → length (take (length bytes - at) (drop at bytes)) ≡ length bytes - at
rest_length at bytes = rw (take_all (length bytes - at) (drop at bytes) (rw length-drop (le_refl _)), length-drop)

-- A verdict is not both accepted and refused.
pub not_both : (v : Result Unit Refusal) (r : Refusal) → v ≡ Err r → v ≡ Ok tt → ⊥
not_both v r f a =
    let z : ◌≡◌ {A = ℕ} 0 1 = cc in
    omega arith

-- The loop ends with the refusal that a check returned.
pub left_with : (v : Result Unit Refusal) (r q : Refusal) → v ≡ Err r → (fault : ℕ) → fault ≡ number_of q
    → v ≡ Err q → fault ≡ number_of r
left_with v r q e fault f found = f ∙ sym (ap verdict_number found) ∙ ap verdict_number e

module _
    (resources n : ℕ) (bytes : List ℕ) (entries : List Entry) (at i : ℕ) (h : SoFar resources n bytes entries at i)
  where
    -- The bytes end before the next entry does.
    pub entry_missing : i < n → length bytes - at < entry_size → section_fault resources n (drop counts_size bytes) ≡ 1
    unfolding section_fault
    entry_missing more few =
        let e : n - i ≡ suc (n - suc i) = omega arith in
        let short : length (drop at bytes) < entry_size = rw length-drop few in
        h.fault ∙ rw (e, lt-leb entry_size (length (drop at bytes)) short)

    -- They do not. The entry is read from them. Its kind is checked, then its names, then its length.
    module _
        (more : i < n) (there : entry_size ≤ length bytes - at) (e : Entry)
        (read : e ≡ entry_in (take (length bytes - at) (drop at bytes)))
        (kind : Result Unit Refusal) (k : verdict_number kind ≡ kind_fault e)
      where
        entry_read : e ≡ entry_in (drop at bytes)
        entry_read = rw (take_all (length bytes - at) (drop at bytes) (rw length-drop (le_refl _))) at read

        -- What is checked after the entry.
        abbrev later : ℕ
        later = section_fault resources (n - suc i) (drop (at + entry_size_of e) bytes)

        entry_first : section_fault resources n (drop counts_size bytes)
            ≡ first_of (verdict_number kind) (first_of (set_fault resources e) (first_of (length_fault e) later))
        unfolding section_fault entry_fault
        entry_first =
            let turn : n - i ≡ suc (n - suc i) = omega arith in
            let due : entry_size ≤ length (drop at bytes) = rw length-drop there in
            h.fault
            ∙ rw (turn, enough_at entry_size (drop at bytes) due, ← entry_read, drop-drop (entry_size_of e) at bytes, k)
            (sym (first_of_four (kind_fault e) (set_fault resources e) (length_fault e) later))

        pub kind_refused : (r : Refusal) → kind ≡ Err r
            → section_fault resources n (drop counts_size bytes) ≡ number_of r
        kind_refused r f = entry_first ∙ first_refuses_verdict kind _ r f

        module _
            (kind-passes : kind ≡ Ok tt) (names : Result Unit Refusal) (s : verdict_number names ≡ set_fault resources e)
          where
            names_first : section_fault resources n (drop counts_size bytes)
                ≡ first_of (verdict_number names) (first_of (length_fault e) later)
            names_first = entry_first ∙ first_accepts_verdict kind _ kind-passes ∙ rw s

            pub names_refused : (r : Refusal) → names ≡ Err r
                → section_fault resources n (drop counts_size bytes) ≡ number_of r
            names_refused r f = names_first ∙ first_refuses_verdict names _ r f

            module _
                (names-pass : names ≡ Ok tt) (ticks : Result Unit Refusal) (l : verdict_number ticks ≡ length_fault e)
              where
                ticks_first : section_fault resources n (drop counts_size bytes) ≡ first_of (verdict_number ticks) later
                ticks_first = names_first ∙ first_accepts_verdict names _ names-pass ∙ rw l

                pub ticks_refused : (r : Refusal) → ticks ≡ Err r
                    → section_fault resources n (drop counts_size bytes) ≡ number_of r
                ticks_refused r f = ticks_first ∙ first_refuses_verdict ticks _ r f

                -- The entry has no fault and is stored.
                pub entry_passes : ticks ≡ Ok tt → n ≤ max_entries → (size : ℕ) → size ≡ entry_size_of e
                    → SoFar resources n bytes (set entries i e) (at + size) (i + 1)
                entry_passes a most size sized =
                    let small : i < max_entries = omega arith in
                    let reached : at ≤ length bytes = h.inside in
                    let held : e ≡ entry_after i (drop counts_size bytes) =
                    entry_read
                    ∙ rw (h.place, ← drop-drop (section_size (entries_in i (drop counts_size bytes))) counts_size bytes)
                    in
                    record {
                      place =
                          rw add-one
                          (omega (arith, h.place, one_size_more i (drop counts_size bytes), ap entry_size_of held));
                      inside = omega (arith, entry_size_due e);
                      counted = omega arith;
                      fault = ticks_first ∙ first_accepts_verdict ticks _ a ∙ rw (sized, add-one);
                      filled = rw (h.filled, held, add-one) (store_next i (drop counts_size bytes) small);
                    }

-- All entries are read: the number returned, and the plan.
module _
    (bytes : List ℕ) (entries : List Entry) (at i : ℕ) (h : SoFar (get_or bytes 1 0) (get_or bytes 2 0) bytes entries at i)
    (all : get_or bytes 2 0 ≤ i)
  where
    all_read : i ≡ get_or bytes 2 0
    all_read = let most : i ≤ get_or bytes 2 0 = h.counted in omega arith

    no_fault : body_fault bytes ≡ 0
    unfolding section_fault
    no_fault =
        let z : get_or bytes 2 0 - i ≡ 0 = omega arith in
        h.fault ∙ rw z

    whole_plan : (whole_read bytes entries at).plan ≡ plan_in bytes
    unfolding plan_in
    whole_plan = rw (h.filled, all_read)

    pub read_whole : (read : Read) → read ≡ whole_read bytes entries at
        → (taken_as_numbers (Ok read) ≡ as_numbers (body_fault bytes) (plan_size (plan_in bytes)))
        × (plan_taken (Ok read) ≡ cond (eqb (body_fault bytes) 0) (plan_in bytes) blank_plan)
    read_whole read e =
        let size : at ≡ plan_size (plan_in bytes) = h.place ∙ rw (all_read, counted_plan_in) in
        rw (e, no_fault) (ap (as_numbers 0) size, whole_plan)
