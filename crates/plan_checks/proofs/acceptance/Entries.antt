-- One turn of the loop over the counted entries: if the entry has no fault, the fault is that of the later ones, and
-- otherwise the entry's own fault is that of all. Assumes nothing.
use Rattle.std.specs.Prelude.{Result, Ok, Err}
use Prim.Native.Nat.{ℕ, ◌+◌, ◌<◌}
use native.Mathlib.Numerals.{add-one}
use mathlib.Core.Path.{◌≡◌, sym, ap, ◌∙◌}
use mathlib.Core.List.{List, [], ◌∷◌}
use lib.ListN.{length, drop, get_or}
use lib.Seq.{drop-cons}
use Rattle.refusals.specs.declared.Refusal.{Refusal}
use Rattle.refusals.specs.Number.{number_of, verdict_number}
use Rattle.refusals.specs.Due.{first_of}
use Rattle.refusals.proofs.Numbers.{first_accepts_verdict, first_refuses_verdict}
use Rattle.plans.specs.Acceptance.{entry_fault, entries_fault}
use Rattle.plans.specs.declared.Entry.{Entry}

module _ (resources i : ℕ) (xs : List Entry) (d : Entry) (h : i < length xs) (v : Result Unit Refusal) where
  next : drop i xs ≡ get_or xs i d ∷ drop (i + 1) xs
  next = rw (add-one) (drop-cons xs i d h)

  left_fault : verdict_number v ≡ entry_fault resources (get_or xs i d)
      → entries_fault resources (drop i xs) ≡ first_of (verdict_number v) (entries_fault resources (drop (i + 1) xs))
  unfolding entries_fault
  left_fault found =
      ap (entries_fault resources) next
      ∙ ap (λ k. first_of k (entries_fault resources (drop (i + 1) xs))) (sym found)

  pub faultless_passed : verdict_number v ≡ entry_fault resources (get_or xs i d) → v ≡ Ok tt
      → entries_fault resources (drop i xs) ≡ entries_fault resources (drop (i + 1) xs)
  faultless_passed found e = left_fault found ∙ first_accepts_verdict v _ e

  pub first_fault : verdict_number v ≡ entry_fault resources (get_or xs i d) → (r : Refusal) → v ≡ Err r
      → entries_fault resources (drop i xs) ≡ number_of r
  first_fault found r e = left_fault found ∙ first_refuses_verdict v _ r e
