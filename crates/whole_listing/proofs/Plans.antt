-- A plan that is not short is decided: bytes after it change nothing, and a full buffer is never short. Assumes
-- nothing.
use Prim.Native.Nat.{ℕ, zero, suc, ◌*◌, ◌^◌, ◌≤◌, ◌<◌}
use mathlib.Core.Path.{◌≡◌, refl, ap, sym, ◌∙◌}
use mathlib.Core.Bool.{Bool, true, false, not, ◌&&◌, ◌||◌}
use mathlib.Core.List.{List, ◌++◌}
use native.Mathlib.Omega.{arith}
use borrow.Author.Tests.{leb-true, eq-eqb, ne_eqb}
use lib.Dec.{leb, eqb, ltb, eqb-suc-zero}
use lib.ListN.{length, get_or, drop, length-append, length-drop, get_or-append}
use lib.Seq.{slice, take-append-le, drop-append-le}
use Rattle.refusals.specs.Due.{due, first_of}
use Rattle.encoding.specs.Buffers.{short_fault}
use Rattle.encoding.proofs.Room.{enough_at}
use Rattle.plans.specs.declared.Entry.{Entry}
use Rattle.plans.specs.Entries.{max_processors, max_resources, max_entries, is_read, is_write}
use Rattle.plans.specs.Entries.{counts_size, entry_size, entry_size_of, largest_entry, section_size, counted_entries}
use Rattle.plans.specs.Acceptance.{within, processors_fault, resources_fault, count_fault, counts_fault, kind_fault}
use Rattle.plans.specs.Acceptance.{set_fault, entry_fault}
use Rattle.plans.specs.Reading.{entry_in, entries_in, section_fault, read_fault, plan_in, read_as_numbers, plan_read}
use Rattle.plans.proofs.Sizes.{entry_size_least, entry_size_most, entry_size_due}
use Rattle.plans.proofs.EntryBytes.{first_there, later_there}
use Rattle.plans.proofs.PlanBytes.{counted_plan_in}
use Rattle.plans.proofs.Faults.{counts_at_most, read_fault_law, read_length}
use Rattle.plans.proofs.Accepted.{taken}
use Rattle.log_input.specs.Stages.{is_short}
use Rattle.whole_listing.specs.Rooms.{plan_room}

-- ---- numbers that are not 1

abbrev NotShort : ℕ → Type 0
NotShort n = n ≡ 1 → ⊥

due_not_short : (t : Bool) (n : ℕ) → 1 < n → NotShort (due t n)
due_not_short true n h e = omega arith
due_not_short false n h e = omega arith

first_not_short : (a b : ℕ) → NotShort a → (a ≡ 0 → NotShort b) → NotShort (first_of a b)
first_not_short zero b na nb = nb refl
first_not_short (suc n) b na nb = λ e. na (rw (eqb-suc-zero n) at e)

-- After a first check with the same number: the number is the same if what is checked later is decided.
look_same : (a b c : ℕ) → (a ≡ 0 → NotShort b → b ≡ c) → NotShort (first_of a b) → first_of a b ≡ first_of a c
look_same zero b c h decided = h refl decided
look_same (suc n) b c h decided = rw (eqb-suc-zero n)

-- The same after bytes that are due and are there.
due_same : (k : ℕ) (s t : List ℕ) (b c : ℕ) → (k ≤ length s → NotShort b → b ≡ c)
    → NotShort (first_of (short_fault k s) b)
    → first_of (short_fault k s) b ≡ first_of (short_fault k (s ++ t)) c
due_same k s t b c h decided = go (leb k (length s)) refl decided
  where
    go : (there : Bool) → leb k (length s) ≡ there → NotShort (first_of (due there 1) b) → first_of (short_fault k s) b
        ≡ first_of (short_fault k (s ++ t)) c
    go true e d =
        let whole : k ≤ length s = leb-true k (length s) e in
        let longer : k ≤ length (s ++ t) = simp length-append (omega arith) in
        rw (enough_at k s whole, enough_at k (s ++ t) longer) (h whole d)
    go false e d = absurd (d refl)

-- ---- entries

-- An entry that is whole in s is read from s, whatever follows.
entry_in_front : (s t : List ℕ) → entry_size ≤ length s → entry_in (s ++ t) ≡ entry_in s
unfolding entry_in
entry_in_front s t h =
    let h0 : 0 < length s = omega arith in
    let nine : 9 ≤ length s = omega arith in
    let set : slice 1 9 (s ++ t) ≡ slice 1 9 s = ap (drop 1) (take-append-le 9 s t nine) in
    let len : slice 9 entry_size (s ++ t) ≡ slice 9 entry_size s = ap (drop 9) (take-append-le entry_size s t h) in
    rw (get_or-append s t 0 0 h0, set, len)

-- The same for the entries of a section.
entries_in_front : (n : ℕ) (s t : List ℕ) → section_size (entries_in n s) ≤ length s
    → entries_in n (s ++ t) ≡ entries_in n s
unfolding entries_in
entries_in_front zero s t h = refl
entries_in_front (suc n) s t h =
    let k = entry_size_of (entry_in s) in
    let whole : k ≤ length s = first_there n s h in
    let one : entry_size ≤ length s = omega (arith, entry_size_least (entry_in s)) in
    rw (entry_in_front s t one, drop-append-le k s t whole, entries_in_front n (drop k s) t (later_there n s h))

-- The same for their first fault, unless it is that they are short.
section_decided : (r n : ℕ) (s t : List ℕ) → NotShort (section_fault r n s) → section_fault r n s
    ≡ section_fault r n (s ++ t)
unfolding section_fault
section_decided r zero s t decided = refl
section_decided r (suc n) s t decided =
    due_same entry_size s t _ _
    (λ one rest.
    let k = entry_size_of (entry_in s) in
    let whole : k ≤ length s = omega (arith, entry_size_due (entry_in s)) in
    rw (entry_in_front s t one, drop-append-le k s t whole)
    (look_same (entry_fault r (entry_in s)) _ _ (λ e later. section_decided r n (drop k s) t later) rest))
    decided

entry_not_short : (r : ℕ) (e : Entry) → NotShort (entry_fault r e)
unfolding entry_fault
entry_not_short r e =
    first_not_short (kind_fault e) _ (due_not_short (is_read e || is_write e) 6 (omega arith))
    (λ z. first_not_short (set_fault r e) _ (due_not_short (not (eqb e.set 0) && ltb e.set (2 ^ r)) 7
    (omega arith))
    (λ z'. due_not_short (ltb 0 e.length) 8 (omega arith)))

section_not_short : (r n : ℕ) (s : List ℕ) → largest_entry * n ≤ length s → NotShort (section_fault r n s)
unfolding section_fault
section_not_short r zero s h = λ e. omega arith
section_not_short r (suc n) s h =
    let k = entry_size_of (entry_in s) in
    let later : largest_entry * n ≤ length (drop k s) = simp length-drop (omega (arith, entry_size_most (entry_in s))) in
    rw (enough_at entry_size s (omega arith))
    (first_not_short (entry_fault r (entry_in s)) _ (entry_not_short r (entry_in s))
    (λ z. section_not_short r n (drop k s) later))

-- ---- a whole plan

-- The plan's buffer has room for every plan: when it is full, the plan is not short.
pub full_plan : (s : List ℕ) → plan_room ≤ length s → not (is_short s) ≡ true
unfolding counts_fault
full_plan s h = rw (ne_eqb (read_fault s) 1 decided)
  where
    decided : NotShort (read_fault s)
    decided e =
        let counts = counts_fault (get_or s 0 0) (get_or s 1 0) (get_or s 2 0) in
        first_not_short counts _
        (first_not_short (processors_fault (get_or s 0 0)) _
        (due_not_short (within 1 max_processors (get_or s 0 0)) 3 (omega arith))
        (λ z. first_not_short (resources_fault (get_or s 1 0)) _
        (due_not_short (within 1 max_resources (get_or s 1 0)) 4 (omega arith))
        (λ z'. due_not_short (within 1 max_entries (get_or s 2 0)) 5 (omega arith))))
        (λ z. section_not_short (get_or s 1 0) (get_or s 2 0) (drop counts_size s)
        (omega (arith, length-drop counts_size s, counts_at_most (get_or s 0 0) (get_or s 1 0) (get_or s 2 0) z)))
        (sym (read_fault_law s (omega arith)) ∙ e)

module _ (s t : List ℕ) (decided : not (is_short s) ≡ true) where
  not_short : NotShort (read_fault s)
  not_short e = no_clash (rw (eq-eqb (read_fault s) 1 e) at decided)
    where
      no_clash : false ≡ true → ⊥
      no_clash h = let z : ◌≡◌ {A = ℕ} 0 1 = cc in omega arith

  pub fault_decided : read_fault s ≡ read_fault (s ++ t)
  unfolding read_fault
  fault_decided =
      due_same 1 s t _ _
      (λ one. rw (get_or-append s t 0 0 one)
      (look_same (processors_fault (get_or s 0 0)) _ _
      (λ z. due_same 2 s t _ _
      (λ two. rw (get_or-append s t 0 1 two)
      (look_same (resources_fault (get_or s 1 0)) _ _
      (λ z'. due_same counts_size s t _ _
      (λ three. rw (get_or-append s t 0 2 three, drop-append-le 3 s t three)
      (look_same (count_fault (get_or s 2 0)) _ _ (λ z''. section_decided (get_or s 1 0) (get_or s 2 0) (drop 3 s) t)))))))))
      not_short

  module _ (e : read_fault s ≡ 0) where
    three : counts_size ≤ length s
    three = read_length s e

    -- The plan in the bytes is the same.
    held : plan_in (s ++ t) ≡ plan_in s
    unfolding plan_in
    held =
        let there = (taken s e).inside in
        let size : section_size (counted_entries (plan_in s)) ≡ section_size (entries_in (get_or s 2 0) (drop counts_size s)) =
        ap section_size (counted_plan_in s)
        in
        let inside : section_size (entries_in (get_or s 2 0) (drop counts_size s)) ≤ length (drop counts_size s) =
        omega (arith, length-drop counts_size s)
        in
        rw (
          get_or-append s t 0 2 three,
          get_or-append s t 0 0 (omega (arith, three)),
          get_or-append s t 0 1 (omega (arith, three)),
          drop-append-le counts_size s t three,
          entries_in_front (get_or s 2 0) (drop counts_size s) t inside,
        )

    pub size_decided : (read_as_numbers (s ++ t)).value ≡ (read_as_numbers s).value
    size_decided = rw (sym fault_decided ∙ e, e, held)

    pub plan_inside : (read_as_numbers s).value ≤ length s
    plan_inside = rw e (taken s e).inside

    pub plan_decided : plan_read (s ++ t) ≡ plan_read s
    unfolding plan_read
    plan_decided = rw (sym fault_decided ∙ e, e, held)
