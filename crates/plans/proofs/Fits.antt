-- What the Rattle types guarantee for an entry and for a plan: each number fits its type. Assumes nothing.
use Prim.Native.Nat.{ℕ, ◌^◌, ◌<◌}
use mathlib.Core.Path.{◌≡◌}
use mathlib.Core.List.{List}
use lib.ListN.{length, get_or}
use Rattle.plans.specs.Entries.{max_entries, blank_entry}
use Rattle.plans.specs.declared.Entry.{Entry}
use Rattle.plans.specs.declared.Plan.{Plan}

pub record Fits_entry (e : Entry) : Type 0 where
  pub kind : e.kind < 2 ^ 8
  pub set : e.set < 2 ^ 64
  pub length : e.length < 2 ^ 16

abbrev pub Fit_entries : List Entry → Type 0
Fit_entries es = (i : ℕ) → i < length es → Fits_entry (get_or es i blank_entry)

-- Entries past the count may be anything.
pub record Fits_plan (p : Plan) : Type 0 where
  pub processors : p.processors < 2 ^ 8
  pub resources : p.resources < 2 ^ 8
  pub count : p.count < 2 ^ 8
  pub size : length p.entries ≡ max_entries
  pub entries : (i : ℕ) → i < p.count → Fits_entry (get_or p.entries i blank_entry)
