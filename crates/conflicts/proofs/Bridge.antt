-- Conflict is symmetric, two reads never conflict, a write conflicts with itself, and a read that conflicts with two
-- writes bridges them: the writes conflict with each other. Assumes nothing.
use Prim.Native.Nat.{ℕ, zero, suc, ◌^◌, ◌<◌}
use native.Mathlib.Omega.{arith}
use mathlib.Core.Path.{◌≡◌, sym, ap, ap₂, ◌∙◌}
use mathlib.Core.Bool.{true, false, cond, not, ◌&&◌, ◌||◌, true≢false, and_comm, and-false, or-true, and-eq-true_iff}
use mathlib.Core.List.{List, [], ◌∷◌}
use lib.Bits as bits
use lib.Dec.{eqb, ltb}
use lib.ListN.{get_or}
use lib.Pow.{pow_pos}
use borrow.Author.Tests.{eqb-true, lt-ltb, ltb-true}
use Rattle.masks.specs.Sets.{bit, meets}
use Rattle.masks.proofs.Places.{bit_zero, bit_or_law}
use Rattle.masks.proofs.Some.{some_found}
use Rattle.masks.proofs.Meets.{not_empty, meets_share, share_meets}
use Rattle.plans.specs.declared.Entry.{Entry}
use Rattle.plans.specs.declared.Plan.{Plan}
use Rattle.plans.specs.Entries.{is_read, is_write, counted_entries, blank_entry, entry_at}
use Rattle.plans.specs.Acceptance.{plan_fault}
use Rattle.conflicts.specs.Widening.{widen, widened_set}
use Rattle.conflicts.proofs.widening.Names.{brought_to}
use Rattle.conflicts.specs.Conflict.{shared, conflict, in_conflict}
use Rattle.conflicts.proofs.Accepted.{write_not_empty}

-- ---- kinds and sets

read_no_write : (e : Entry) → is_read e ≡ true → is_write e ≡ false
read_no_write e h = ap (λ (k : ℕ). eqb k 1) (eqb-true e.kind 0 h)

write_no_read : (e : Entry) → is_write e ≡ true → is_read e ≡ false
write_no_read e h = ap (λ (k : ℕ). eqb k 0) (eqb-true e.kind 1 h)

-- Every set n fits in some width.
some_width : (n : ℕ) → n < 2 ^ n
some_width zero = pow_pos 0
some_width (suc n) = omega (arith, some_width n)

-- ---- widened sets

pub names_in_widened : (names : ℕ) (es : List Entry) (k : ℕ) → bit names k ≡ true → bit (widen names es) k ≡ true
unfolding widen
names_in_widened names [] k h = h
names_in_widened names (e ∷ later) k h =
    bit_or_law (widen names later) (brought_to names e) k
    ∙ ap (λ t. t || bit (brought_to names e) k) (names_in_widened names later k h)

pub read_in_widened : (names : ℕ) (es : List Entry) (i k : ℕ) → is_read (get_or es i blank_entry) ≡ true
    → meets (get_or es i blank_entry).set names ≡ true → bit (get_or es i blank_entry).set k ≡ true → bit (widen names es) k
    ≡ true
unfolding widen
read_in_widened names [] i k r m h = absurd (true≢false (sym h ∙ bit_zero k))
read_in_widened names (e ∷ later) zero k r m h =
    bit_or_law (widen names later) (brought_to names e) k
    ∙ ap (λ t. bit (widen names later) k || t) (ap (λ t. bit (cond t e.set 0) k) (ap₂ ◌&&◌ r m) ∙ h)
    ∙ or-true (bit (widen names later) k)
read_in_widened names (e ∷ later) (suc i) k r m h =
    bit_or_law (widen names later) (brought_to names e) k
    ∙ ap (λ t. t || bit (brought_to names e) k) (read_in_widened names later i k r m h)

-- ---- two entries, in a list of entries

module _ (es : List Entry) where
  conflict_comm : (e f : Entry) → conflict es e f ≡ conflict es f e
  unfolding shared conflict
  conflict_comm e f =
      rw (
        and_comm (is_write e) (is_write f),
        and_comm (is_read e) (is_read f),
        bits.and_comm (widened_set es e) (widened_set es f),
        bits.and_comm e.set f.set,
      )

  reads_apart : (e f : Entry) → is_read e ≡ true → is_read f ≡ true → conflict es e f ≡ false
  unfolding shared conflict
  reads_apart e f he hf = rw (read_no_write e he, he, hf)

  read_and_write : (e f : Entry) → is_read e ≡ true → is_write f ≡ true → conflict es e f ≡ meets e.set f.set
  unfolding shared conflict
  read_and_write e f he hf = rw (read_no_write e he, he, write_no_read f hf)

  two_writes : (e f : Entry) → is_write e ≡ true → is_write f ≡ true → conflict es e f
      ≡ meets (widen e.set es) (widen f.set es)
  unfolding shared conflict widened_set
  two_writes e f he hf = rw (he, hf)

  write_itself : (e : Entry) → is_write e ≡ true → not (eqb e.set 0) ≡ true → conflict es e e ≡ true
  write_itself e h full =
      let named = some_found e.set (bit e.set) (sym (not_empty e.set e.set (some_width e.set)) ∙ full) in
      let held = names_in_widened e.set es named.0 named.2 in
      two_writes e e h h ∙ share_meets _ _ named.0 held held

  -- Both widened sets contain the whole set of the read at place r.
  bridged : (r : ℕ) (e f : Entry) → is_read (get_or es r blank_entry) ≡ true → is_write e ≡ true → is_write f ≡ true
      → conflict es (get_or es r blank_entry) e ≡ true → conflict es (get_or es r blank_entry) f ≡ true → conflict es e f
      ≡ true
  bridged r e f hr he hf ce cf =
      let read : Entry = get_or es r blank_entry in
      let me : meets read.set e.set ≡ true = sym (read_and_write read e hr he) ∙ ce in
      let mf : meets read.set f.set ≡ true = sym (read_and_write read f hr hf) ∙ cf in
      let named = meets_share read.set read.set e.set (some_width read.set) me in
      two_writes e f he hf
      ∙ share_meets _ _ named.0 (read_in_widened e.set es r named.0 hr me named.2)
      (read_in_widened f.set es r named.0 hr mf named.2)

-- ---- two entries of a plan

module _ (p : Plan) where
  pub conflict_symmetric : (i j : ℕ) → in_conflict p i j ≡ in_conflict p j i
  unfolding in_conflict
  conflict_symmetric i j =
      ap₂ ◌&&◌ (and_comm (ltb i p.count) (ltb j p.count))
      (conflict_comm (counted_entries p) (entry_at p i) (entry_at p j))

  parts : (i j : ℕ) → in_conflict p i j ≡ true
      → ((ltb i p.count && ltb j p.count) ≡ true)
      × (conflict (counted_entries p) (entry_at p i) (entry_at p j) ≡ true)
  unfolding in_conflict
  parts i j h = (and-eq-true_iff (ltb i p.count && ltb j p.count)
      (conflict (counted_entries p) (entry_at p i) (entry_at p j))).0 h

  pub both_counted : (i j : ℕ) → in_conflict p i j ≡ true → (i < p.count) × (j < p.count)
  both_counted i j h =
      let both = (and-eq-true_iff (ltb i p.count) (ltb j p.count)).0 (parts i j h).0 in
      (ltb-true i p.count both.0, ltb-true j p.count both.1)

  counted_conflict : (i j : ℕ) → i < p.count → j < p.count → conflict (counted_entries p) (entry_at p i) (entry_at p j)
      ≡ true → in_conflict p i j ≡ true
  unfolding in_conflict
  counted_conflict i j hi hj h = ap₂ ◌&&◌ (ap₂ ◌&&◌ (lt-ltb i p.count hi) (lt-ltb j p.count hj)) h

  pub reads_never_conflict : (i j : ℕ) → is_read (entry_at p i) ≡ true → is_read (entry_at p j) ≡ true → in_conflict p i j
      ≡ false
  unfolding in_conflict
  reads_never_conflict i j hi hj =
      ap (λ t. (ltb i p.count && ltb j p.count) && t)
      (reads_apart (counted_entries p) (entry_at p i) (entry_at p j) hi hj)
      ∙ and-false (ltb i p.count && ltb j p.count)

  -- Clause 3.2: so several processors may hold one read entry at once.
  pub read_never_conflicts_itself : (i : ℕ) → is_read (entry_at p i) ≡ true → in_conflict p i i ≡ false
  read_never_conflicts_itself i h = reads_never_conflict i i h h

  pub write_conflicts_itself : plan_fault p ≡ 0 → (i : ℕ) → i < p.count → is_write (entry_at p i) ≡ true
      → in_conflict p i i ≡ true
  write_conflicts_itself taken i l h =
      counted_conflict i i l l (write_itself (counted_entries p) (entry_at p i) h (write_not_empty p taken i h))

  -- The bridge, also if w and v are the same.
  pub read_bridges_writes : (r w v : ℕ) → is_read (entry_at p r) ≡ true → is_write (entry_at p w) ≡ true
      → is_write (entry_at p v) ≡ true
      → in_conflict p r w ≡ true → in_conflict p r v ≡ true → in_conflict p w v ≡ true
  read_bridges_writes r w v hr hw hv cw cv =
      counted_conflict w v (both_counted r w cw).1 (both_counted r v cv).1
      (bridged (counted_entries p) r (entry_at p w) (entry_at p v) hr hw hv (parts r w cw).1 (parts r v cv).1)
