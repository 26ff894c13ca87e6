-- Reading and writing an entry are inverse to each other, and so are reading and writing a section of entries. Assumes
-- nothing.
use Prim.Native.Nat.{ℕ, zero, suc, ◌≤◌}
use mathlib.Core.Path.{◌≡◌, refl, sym, ap, ap₂, ◌∙◌}
use mathlib.Core.List.{List, [], ◌∷◌, ◌++◌, append_assoc}
use native.Mathlib.Omega.{arith}
use lib.ListN.{length, take, drop, length-append, length-drop, take-append-drop}
use lib.Seq.{drop_at, take-add, take-take, length-take-le, slice, length-slice}
use Rattle.plans.specs.declared.Entry.{Entry}
use Rattle.encoding.specs.Numbers.{number, bytes_of}
use Rattle.encoding.proofs.Bytes.{AreBytes, bytes_tail, bytes_drop, bytes_take, bytes_slice, bytes_none, bytes_cons}
use Rattle.encoding.proofs.Bytes.{bytes_append}
use Rattle.encoding.proofs.Numbers.{number_bytes_of, bytes_of_number_at, number_below_at, bytes_bytes_of}
use Rattle.plans.specs.Entries.{entry_size, entry_size_of, section_size}
use Rattle.plans.specs.Reading.{entry_in, entries_in}
use Rattle.plans.specs.Writing.{entry_bytes, section_bytes}
use Rattle.plans.proofs.Fits.{Fits_entry, Fit_entries}
use Rattle.plans.proofs.Sizes.{entry_size_least}

-- ---- one entry

pub length_entry_bytes : (e : Entry) → length (entry_bytes e) ≡ entry_size_of e
unfolding entry_bytes bytes_of entry_size_of
length_entry_bytes e = refl

pub bytes_entry_bytes : (e : Entry) → Fits_entry e → AreBytes (entry_bytes e)
unfolding entry_bytes
bytes_entry_bytes e h =
    let rest = bytes_of 8 e.set ++ bytes_of 2 e.length in
    let bytes = bytes_append (bytes_of 8 e.set) (bytes_of 2 e.length) (bytes_bytes_of 8 e.set)
    (bytes_bytes_of 2 e.length) in
    bytes_cons e.kind rest h.kind bytes

-- An entry written and then read is the same, whatever bytes follow.
pub entry_in_entry_bytes : (e : Entry) → Fits_entry e → (rest : List ℕ) → entry_in (entry_bytes e ++ rest) ≡ e
unfolding entry_bytes entry_in bytes_of
entry_in_entry_bytes e h rest =
    let set : number (bytes_of 8 e.set) ≡ e.set = number_bytes_of 8 e.set h.set in
    let len : number (bytes_of 2 e.length) ≡ e.length = number_bytes_of 2 e.length h.length in
    λ i. record { kind = e.kind; set = set i; length = len i }

-- Bytes read as an entry and then written are the same.
pub entry_bytes_entry_in : (s : List ℕ) → AreBytes s → entry_size_of (entry_in s) ≤ length s
    → entry_bytes (entry_in s) ≡ take (entry_size_of (entry_in s)) s
unfolding entry_bytes entry_in entry_size_of
entry_bytes_entry_in [] h l = absurd (omega arith)
entry_bytes_entry_in (k ∷ s) h l =
    let bytes : AreBytes s = bytes_tail k s h in
    let set : bytes_of 8 (number (take 8 s)) ≡ take 8 s =
    bytes_of_number_at 8 (take 8 s) (bytes_take 8 s bytes) (length-take-le 8 s (omega arith))
    in
    let len : bytes_of 2 (number (slice 8 10 s)) ≡ slice 8 10 s =
    bytes_of_number_at 2 (slice 8 10 s) (bytes_slice 8 10 s bytes) (length-slice 8 10 s (omega arith))
    in
    let both : take 8 s ++ slice 8 10 s ≡ take 10 s =
    ap (λ t. t ++ slice 8 10 s) (sym (take-take 8 10 s (omega arith))) ∙ take-append-drop 8 (take 10 s)
    in
    ap (λ t. k ∷ t) (ap₂ (λ a b. a ++ b) set len ∙ both)

pub fits_entry_in : (s : List ℕ) → AreBytes s → entry_size ≤ length s → Fits_entry (entry_in s)
unfolding entry_in
fits_entry_in s h l =
    record {
      kind = h 0 (omega arith);
      set = number_below_at 8 (slice 1 9 s) (bytes_slice 1 9 s h) (length-slice 1 9 s (omega arith));
      length = number_below_at 2 (slice 9 entry_size s) (bytes_slice 9 entry_size s h) (length-slice 9 entry_size s l);
    }

-- ---- the entries of a section

pub length_entries_in : (n : ℕ) (s : List ℕ) → length (entries_in n s) ≡ n
unfolding entries_in
length_entries_in zero s = refl
length_entries_in (suc n) s = ap suc (length_entries_in n (drop (entry_size_of (entry_in s)) s))

pub length_section_bytes : (es : List Entry) → length (section_bytes es) ≡ section_size es
unfolding section_bytes section_size
length_section_bytes [] = refl
length_section_bytes (e ∷ es) =
    omega (arith, length-append (entry_bytes e) (section_bytes es), length_entry_bytes e, length_section_bytes es)

pub bytes_section_bytes : (es : List Entry) → Fit_entries es → AreBytes (section_bytes es)
unfolding section_bytes
bytes_section_bytes [] h = bytes_none
bytes_section_bytes (e ∷ es) h =
    let later : Fit_entries es = λ i l. h (suc i) (omega arith) in
    bytes_append (entry_bytes e) (section_bytes es) (bytes_entry_bytes e (h 0 (omega arith))) (bytes_section_bytes es later)

-- Entries written and then read are the same, whatever bytes follow.
pub entries_in_section_bytes : (es : List Entry) → Fit_entries es → (rest : List ℕ)
    → entries_in (length es) (section_bytes es ++ rest) ≡ es
unfolding section_bytes entries_in
entries_in_section_bytes [] h rest = refl
entries_in_section_bytes (e ∷ es) h rest =
    let first : Fits_entry e = h 0 (omega arith) in
    let later : Fit_entries es = λ i l. h (suc i) (omega arith) in
    rw (
      append_assoc (entry_bytes e) (section_bytes es) rest,
      entry_in_entry_bytes e first (section_bytes es ++ rest),
      drop_at (entry_bytes e) (section_bytes es ++ rest) (entry_size_of e) (length_entry_bytes e),
      entries_in_section_bytes es later rest,
    )

module _ (n : ℕ) (s : List ℕ) (l : section_size (entries_in (suc n) s) ≤ length s) where
  -- The bytes contain the first entry, and then the later ones.
  pub first_there : entry_size_of (entry_in s) ≤ length s
  unfolding entries_in section_size
  first_there = omega arith

  pub later_there : section_size (entries_in n (drop (entry_size_of (entry_in s)) s))
      ≤ length (drop (entry_size_of (entry_in s)) s)
  unfolding entries_in section_size
  later_there = simp length-drop (omega arith)

-- Bytes read as n entries and then written are the same.
pub section_bytes_entries_in : (n : ℕ) (s : List ℕ) → AreBytes s → section_size (entries_in n s) ≤ length s
    → section_bytes (entries_in n s) ≡ take (section_size (entries_in n s)) s
unfolding section_bytes entries_in section_size
section_bytes_entries_in zero s h l = refl
section_bytes_entries_in (suc n) s h l =
    let k = entry_size_of (entry_in s) in
    rw (
      take-add k (section_size (entries_in n (drop k s))) s,
      entry_bytes_entry_in s h (first_there n s l),
      section_bytes_entries_in n (drop k s) (bytes_drop k s h) (later_there n s l),
    )

-- Entries read from bytes fit their type.
pub fit_entries_in : (n : ℕ) (s : List ℕ) → AreBytes s → section_size (entries_in n s) ≤ length s
    → Fit_entries (entries_in n s)
unfolding entries_in
fit_entries_in zero s h l i inside = absurd (omega arith)
fit_entries_in (suc n) s h l zero inside =
    fits_entry_in s h (omega (arith, first_there n s l, entry_size_least (entry_in s)))
fit_entries_in (suc n) s h l (suc i) inside =
    let k = entry_size_of (entry_in s) in
    fit_entries_in n (drop k s) (bytes_drop k s h) (later_there n s l) i (omega arith)
