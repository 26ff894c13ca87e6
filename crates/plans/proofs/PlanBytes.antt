-- A plan with at most 64 entries and its bytes: how many bytes there are, and that each gives the other. Assumes
-- nothing.
use Prim.Native.Nat.{ℕ, ◌-◌, ◌≤◌, ◌<◌}
use mathlib.Core.Path.{◌≡◌, refl, sym, ap, ◌∙◌}
use mathlib.Core.List.{List, [], ◌∷◌, ◌++◌}
use native.Mathlib.Omega.{arith}
use lib.ListN.{length, get_or, take, drop, replicate, length-append, length-take, length-drop, length-replicate}
use lib.ListN.{get_or-append}
use lib.Seq.{get_or-take, length-take-le, take_at, take-add}
use Rattle.plans.specs.declared.Entry.{Entry}
use Rattle.plans.specs.declared.Plan.{Plan}
use Rattle.encoding.proofs.Bytes.{AreBytes, bytes_cons, bytes_drop}
use Rattle.plans.specs.Entries.{max_entries, section_size, plan_size, counted_entries, blank_entry, Same}
use Rattle.plans.specs.Reading.{entries_in, plan_in}
use Rattle.plans.specs.Writing.{section_bytes, plan_bytes}
use Rattle.plans.proofs.Fits.{Fits_entry, Fit_entries, Fits_plan}
use Rattle.plans.proofs.EntryBytes.{length_section_bytes, bytes_section_bytes, length_entries_in}
use Rattle.plans.proofs.EntryBytes.{entries_in_section_bytes, section_bytes_entries_in, fit_entries_in}

-- ---- a plan value, written

pub length_counted : (p : Plan) → length p.entries ≡ max_entries → p.count ≤ max_entries → length (counted_entries p)
    ≡ p.count
length_counted p size h = length-take-le p.count p.entries (omega arith)

pub length_plan_bytes : (p : Plan) → length (plan_bytes p) ≡ plan_size p
unfolding plan_bytes
length_plan_bytes p = omega (arith, length_section_bytes (counted_entries p))

fit_counted : (p : Plan) → Fits_plan p → Fit_entries (counted_entries p)
fit_counted p f i l =
    let inside : i < p.count = omega (arith, length-take p.count p.entries) in
    rw get_or-take (f.entries i inside)

-- Every number written is a byte.
pub bytes_plan_bytes : (p : Plan) → Fits_plan p → AreBytes (plan_bytes p)
unfolding plan_bytes
bytes_plan_bytes p f =
    let section = section_bytes (counted_entries p) in
    let third = bytes_cons p.count section f.count (bytes_section_bytes (counted_entries p) (fit_counted p f)) in
    let second = bytes_cons p.resources (p.count ∷ section) f.resources third in
    bytes_cons p.processors (p.resources ∷ p.count ∷ section) f.processors second

-- The counted entries follow the three counts, whatever bytes come after them.
pub entries_written : (p : Plan) → Fits_plan p → p.count ≤ max_entries → (rest : List ℕ)
    → entries_in p.count (section_bytes (counted_entries p) ++ rest) ≡ counted_entries p
entries_written p f h rest =
    rw (length_counted p f.size h) at (entries_in_section_bytes (counted_entries p) (fit_counted p f) rest)

-- ---- bytes, read

pub counted_plan_in : (s : List ℕ) → counted_entries (plan_in s) ≡ entries_in (get_or s 2 0) (drop 3 s)
unfolding plan_in
counted_plan_in s =
    take_at (entries_in (get_or s 2 0) (drop 3 s)) (replicate (max_entries - get_or s 2 0) blank_entry) (get_or s 2 0)
    (length_entries_in (get_or s 2 0) (drop 3 s))

pub same_plan_in : (p : Plan) → Fits_plan p → p.count ≤ max_entries → (rest : List ℕ)
    → Same p (plan_in (plan_bytes p ++ rest))
unfolding plan_bytes plan_in
same_plan_in p f h rest =
    record {
      processors = refl;
      resources = refl;
      count = refl;
      entries = sym (counted_plan_in (plan_bytes p ++ rest) ∙ entries_written p f h rest);
    }

pub plan_bytes_plan_in : (s : List ℕ) → AreBytes s → plan_size (plan_in s) ≤ length s
    → plan_bytes (plan_in s) ≡ take (plan_size (plan_in s)) s
unfolding plan_bytes plan_in
plan_bytes_plan_in [] h l = absurd (omega arith)
plan_bytes_plan_in (m ∷ []) h l = absurd (omega arith)
plan_bytes_plan_in (m ∷ n ∷ []) h l = absurd (omega arith)
plan_bytes_plan_in (m ∷ n ∷ k ∷ s) h l =
    let whole = m ∷ n ∷ k ∷ s in
    let held = counted_entries (plan_in whole) in
    let size : section_size held ≡ section_size (entries_in k s) = ap section_size (counted_plan_in whole) in
    let section : section_bytes held ≡ take (section_size held) s =
    ap section_bytes (counted_plan_in whole)
    ∙ section_bytes_entries_in k s (bytes_drop 3 whole h) (omega arith)
    ∙ ap (λ z. take z s) (sym size)
    in
    ap (λ t. m ∷ n ∷ k ∷ t) section ∙ sym (take-add 3 (section_size held) whole)

pub size_plan_in : (s : List ℕ) → get_or s 2 0 ≤ max_entries → length (plan_in s).entries ≡ max_entries
unfolding plan_in
size_plan_in s l =
    let read = entries_in (get_or s 2 0) (drop 3 s) in
    let blank = replicate (max_entries - get_or s 2 0) blank_entry in
    omega (
      arith,
      length-append read blank,
      length_entries_in (get_or s 2 0) (drop 3 s),
      length-replicate
          (max_entries - get_or s 2 0) blank_entry,
    )

-- A plan read from bytes fits its type.
pub fits_plan_in : (s : List ℕ) → AreBytes s → plan_size (plan_in s) ≤ length s → get_or s 2 0 ≤ max_entries
    → Fits_plan (plan_in s)
unfolding plan_in
fits_plan_in s h l k =
    record {
      processors = h 0 (omega arith);
      resources = h 1 (omega arith);
      count = h 2 (omega arith);
      size = size_plan_in s k;
      entries = read_fit;
    }
  where
    count : ℕ
    count = get_or s 2 0

    read : List Entry
    read = entries_in count (drop 3 s)

    read_fit : (i : ℕ) → i < count → Fits_entry (get_or (plan_in s).entries i blank_entry)
    read_fit i inside =
        let known : i < length read = omega (arith, length_entries_in count (drop 3 s)) in
        rw (get_or-append read (replicate (max_entries - count) blank_entry) blank_entry i known)
        (fit_entries_in count (drop 3 s) (bytes_drop 3 s h)
        (omega (arith, length-drop 3 s, ap section_size (counted_plan_in s))) i known)
