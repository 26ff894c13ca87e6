-- The longest first line: 145 bytes whatever the numbers, 68 for any plan value, 64 for an accepted plan. One accepted
-- plan reaches 64. Assumes nothing.
use Prim.Native.Nat.{ℕ, suc, ◌+◌, ◌-◌, ◌*◌, ◌^◌, ◌≤◌, ◌<◌}
use native.Mathlib.Nat.{mul-le-mul}
use native.Mathlib.Omega.{arith}
use mathlib.Core.Path.{◌≡◌, refl}
use mathlib.Core.Bool.{Bool, true, false, cond}
use mathlib.Core.List.{List, [], ◌∷◌}
use lib.Dec.{lit<}
use lib.ListN.{length, replicate, length-take}
use lib.Seq.{get_or-take}
use Rattle.refusals.proofs.Numbers.{first_accepted}
use Rattle.plans.specs.declared.Entry.{Entry}
use Rattle.plans.specs.declared.Plan.{Plan}
use Rattle.plans.specs.Entries.{max_processors, max_resources, max_entries, is_read, is_write, counted_entries, blank_entry}
use Rattle.plans.specs.Acceptance.{processors_fault, resources_fault, counts_fault, entry_fault, entries_fault, plan_fault}
use Rattle.plans.specs.Figures.{longest, read_figure, write_figure}
use Rattle.plans.proofs.Fits.{Fits_plan, Fit_entries}
use Rattle.plans.proofs.Faults.{within_most}
use Rattle.digits.specs.Digits.{digits, decimal}
use Rattle.listings.specs.PlainLines.{further_fields}
use Rattle.listings.specs.Lines.{first_line}
use Rattle.digits.proofs.DecimalDigits.{few_digits, most_digits}
use Rattle.listings.proofs.lines.Lengths.{length_numbers}

-- ---- the figures of a plan

longer_of : (b : Bool) (n : ℕ) → n < 65536 → cond b n 0 < 65536
longer_of true n h = h
longer_of false n h = lit< tt

longest_small : (test : Entry → Bool) (es : List Entry) → Fit_entries es → longest test es < 65536
unfolding longest
longest_small test [] h = lit< tt
longest_small test (e ∷ es) h =
    let one : cond (test e) e.length 0 < 65536 = longer_of (test e) e.length (h 0 (omega arith)).length in
    let others : longest test es < 65536 = longest_small test es (λ i l. h (suc i) (omega arith)) in
    omega arith

counted_fit : (p : Plan) → Fits_plan p → Fit_entries (counted_entries p)
counted_fit p f i h =
    let l : i < p.count = omega (arith, simp length-take at h) in
    rw (get_or-take p.count p.entries i blank_entry l) (f.entries i l)

read_small : (p : Plan) → Fits_plan p → read_figure p ≤ 131070
read_small p f =
    omega (
      arith,
      longest_small is_read (counted_entries p) (counted_fit p f),
      longest_small is_write (counted_entries p)
          (counted_fit p f),
    )

write_small : (p : Plan) (m : ℕ) → Fits_plan p → p.processors ≤ suc m → write_figure p ≤ m * 131070
write_small p m f h = let l : p.processors - 1 ≤ m = omega arith in mul-le-mul l (read_small p f)

-- ---- the first line

first_length : (p : Plan)
    → length (first_line p)
    ≡ 45 + (length (decimal p.processors) + length (decimal p.resources) + length (decimal p.count) + length
    (decimal (read_figure p)) + length (decimal (write_figure p)))
unfolding first_line
first_length p = length_numbers p.processors p.resources p.count (read_figure p) (write_figure p)

pub any_first : (p : Plan) → length (first_line p) ≤ 145
any_first p =
    omega (
      arith,
      first_length p,
      few_digits p.processors,
      few_digits p.resources,
      few_digits
          p.count,
      few_digits (read_figure p),
      few_digits (write_figure p),
    )

pub longest_first : (p : Plan) → Fits_plan p → length (first_line p) ≤ 68
longest_first p f =
    let fp : p.processors < 10 ^ 3 = omega (arith, f.processors) in
    let fr : p.resources < 10 ^ 3 = omega (arith, f.resources) in
    let fc : p.count < 10 ^ 3 = omega (arith, f.count) in
    let read : read_figure p < 10 ^ 6 = omega (arith, read_small p f) in
    let write : write_figure p < 10 ^ 8 = omega (arith, write_small p 254 f (omega (arith, f.processors))) in
    omega (
      arith,
      first_length p,
      most_digits 2 _ fp,
      most_digits 2 _ fr,
      most_digits 2 _ fc,
      most_digits 5 _ read,
      most_digits 7 _ write,
    )

record Counts (p : Plan) : Type 0 where
  processors : p.processors ≤ max_processors
  resources : p.resources ≤ max_resources
  count : p.count ≤ max_entries

accepted_counts : (p : Plan) → plan_fault p ≡ 0 → Counts p
unfolding plan_fault counts_fault
accepted_counts p e =
    let counts = (first_accepted (counts_fault p.processors p.resources p.count) _ e).first in
    let one = first_accepted (processors_fault p.processors) _ counts in
    let two = first_accepted (resources_fault p.resources) _ one.later in
    record {
      processors = within_most 1 max_processors p.processors 2 one.first;
      resources = within_most 1 max_resources p.resources 3 two.first;
      count = within_most 1 max_entries p.count 4 two.later;
    }

pub longest_accepted : (p : Plan) → Fits_plan p → plan_fault p ≡ 0 → length (first_line p) ≤ 64
longest_accepted p f e =
    let c = accepted_counts p e in
    let fp : p.processors < 10 ^ 2 = omega (arith, c.processors) in
    let fr : p.resources < 10 ^ 2 = omega (arith, c.resources) in
    let fc : p.count < 10 ^ 2 = omega (arith, c.count) in
    let read : read_figure p < 10 ^ 6 = omega (arith, read_small p f) in
    let write : write_figure p < 10 ^ 7 = omega (arith, write_small p 31 f c.processors) in
    omega (
      arith,
      first_length p,
      most_digits 1 _ fp,
      most_digits 1 _ fr,
      most_digits 1 _ fc,
      most_digits 5 _ read,
      most_digits 6 _ write,
    )

-- Sixteen processors, ten resources, ten entries, and lengths of 65,535.
abbrev long_plan : Plan
long_plan =
    record {
      processors = 16;
      resources = 10;
      count = 10;
      entries = record { kind = 0; set = 1; length = 65535 }
          ∷ replicate 63 (record { kind = 1; set = 1; length = 65535 });
    }

pub longest_accepted_reached : (plan_fault long_plan ≡ 0) × (length (first_line long_plan) ≡ 64)
unfolding plan_fault counts_fault entries_fault entry_fault first_line further_fields digits longest
longest_accepted_reached = (refl, refl)
