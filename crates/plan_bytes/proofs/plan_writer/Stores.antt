-- Runs of stores: a section's bytes, and stores into the rest of a list. Assumes nothing.
use Prim.Native.Nat.{ℕ, suc, ◌+◌, ◌-◌, ◌≤◌, ◌<◌}
use mathlib.Core.Path.{◌≡◌, refl, sym, ◌∙◌}
use mathlib.Core.List.{List, append_assoc}
use native.Mathlib.Omega.{arith}
use lib.ListN.{length, take, drop, get_or, set, length-take, length-drop, length-set, take-append-drop}
use lib.Seq.{sets, sets-eq, drop-drop, drop-append-le}
use borrow.Rule.Slice.PartMut.{mid_of, post_of, put_mid}
use Rattle.encoding.specs.Buffers.{room_fault, overwritten, buffer_after}
use Rattle.encoding.proofs.Room.{stored_where_fits}
use Rattle.encoding.proofs.Stores.{sets_append, sets_overwritten}
use Rattle.plans.specs.declared.Entry.{Entry}
use Rattle.plans.specs.declared.Plan.{Plan}
use Rattle.plans.specs.Entries.{counts_size, entry_size_of, section_size, plan_size, counted_entries}
use Rattle.plans.specs.Writing.{entry_bytes, section_bytes, plan_bytes}
use Rattle.plans.proofs.Counted.{none_left, next_left}
use Rattle.plans.proofs.Sizes.{size_left}
use Rattle.plans.proofs.EntryBytes.{length_entry_bytes, length_section_bytes}

-- A turn stores the next entry, if there is room for all of them.
pub section_turn : (l next : List ℕ) (es : List Entry) (i at size : ℕ) (d : Entry) → i < length es
    → size ≡ entry_size_of (get_or es i d) → at + section_size (drop i es) ≤ length l
    → next ≡ buffer_after (room_fault (entry_size_of (get_or es i d)) (length l) at) (entry_bytes (get_or es i d)) l at
    → sets next (at + size) (section_bytes (drop (i + 1) es)) ≡ sets l at (section_bytes (drop i es))
unfolding section_bytes
section_turn l next es i at size d h sized room written =
    let e = get_or es i d in
    let fits : at + entry_size_of e ≤ length l = omega (arith, size_left i es d h) in
    let stored = written ∙ stored_where_fits l at (entry_bytes e) (entry_size_of e) (length_entry_bytes e) fits in
    rw (stored, next_left i es d h, sets_append, length_entry_bytes, sized)

-- All entries are stored when none is left.
pub section_end : (l : List ℕ) (es : List Entry) (i at : ℕ) → length es ≤ i
    → sets l at (section_bytes (drop i es)) ≡ l
unfolding section_bytes
section_end l es i at h = rw (none_left i es h)

-- Stores from the start of a part that is then put back are stores into the whole.
pub part_stores : (a k : ℕ) (l vs : List ℕ) → length vs ≤ k → a + k ≤ length l → put_mid a k l (sets (mid_of a k l) 0 vs)
    ≡ sets l a vs
part_stores a k l vs h g =
    let m : length vs ≤ length (mid_of a k l) = simp (length-take, length-drop) (omega arith) in
    let m0 : 0 + length vs ≤ length (mid_of a k l) = omega arith in
    let z : 0 + length vs ≡ length vs = omega arith in
    let w : a + length vs ≤ length l = omega arith in
    rw (
      sets-eq vs (mid_of a k l) 0 m0,
      sets-eq vs l a w,
      append_assoc vs (drop (0 + length vs) (mid_of a k l)) (post_of a k l),
      z,
      ← drop-append-le (length vs) (mid_of a k l) (post_of a k l) m,
      take-append-drop,
      drop-drop,
    )
    (sym (append_assoc (take a l) vs (drop (a + length vs) l)))

-- The buffer with the plan's counts from position `at`, and how many bytes follow them.
abbrev pub counts_stored : List ℕ → ℕ → Plan → List ℕ
counts_stored l at p = set (set (set l at p.processors) (at + 1) p.resources) (at + 2) p.count

abbrev pub after_counts : List ℕ → ℕ → Plan → ℕ
after_counts l at p = length (counts_stored l at p) - (at + counts_size)

-- The stores of a plan: the counts, then the section into the rest of the buffer.
pub plan_stores : (l : List ℕ) (at : ℕ) (p : Plan) → at + plan_size p ≤ length l
    → put_mid (at + counts_size) (after_counts l at p) (counts_stored l at p)
    (sets (mid_of (at + counts_size) (after_counts l at p) (counts_stored l at p)) 0 (section_bytes (counted_entries p)))
    ≡ overwritten l at (plan_bytes p)
unfolding plan_bytes
plan_stores l at p h =
    let n : length (section_bytes (counted_entries p)) ≡ section_size (counted_entries p) =
    length_section_bytes (counted_entries p)
    in
    let fits : length (section_bytes (counted_entries p)) ≤ after_counts l at p = simp length-set (omega arith) in
    let room : at + counts_size + after_counts l at p ≤ length (counts_stored l at p) = simp length-set (omega arith) in
    let whole : at + length (plan_bytes p) ≤ length l = omega arith in
    let one : at + 1 ≡ suc at = omega arith in
    let two : at + 2 ≡ suc (suc at) = omega arith in
    let three : at + counts_size ≡ suc (suc (suc at)) = omega arith in
    part_stores (at + counts_size) (after_counts l at p) (counts_stored l at p) (section_bytes (counted_entries p)) fits room
    ∙ (rw (one, two, three) refl)
    ∙ sets_overwritten l at (plan_bytes p) whole
