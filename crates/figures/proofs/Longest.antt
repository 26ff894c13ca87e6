-- One turn of the loop over the counted entries: the longest of those left and of the best so far. Assumes nothing.
use Prim.Native.Nat.{ℕ, ◌+◌, ◌<◌, ◌≤◌, max}
use native.Mathlib.Nat.{max-zero}
use native.Mathlib.Omega.{arith}
use mathlib.Core.Path.{◌≡◌, ap, ◌∙◌}
use mathlib.Core.Bool.{Bool, true, false, cond}
use mathlib.Core.List.{List}
use lib.ListN.{length, drop, get_or}
use Rattle.std.proofs.Common.{rules, nat_cmp}
use Rattle.std.specs.Ordering.{ord_max}
use Rattle.plans.specs.Figures.{longest}
use Rattle.plans.specs.declared.Entry.{Entry}
use Rattle.plans.proofs.Counted.{none_left, next_left}

-- The library's larger of two numbers is the larger of them.
pub larger : (a b : ℕ) → ord_max nat_cmp a b ≡ max a b
larger a b = search rules

module _ (test : Entry → Bool) (i best : ℕ) (xs : List Entry) where
  pub best_of_all : length xs ≤ i → max best (longest test (drop i xs)) ≡ best
  unfolding longest
  best_of_all h = rw (none_left i xs h) (max-zero best)

  best_with_next : (d : Entry) → i < length xs
      → max best (longest test (drop i xs))
      ≡ max (max best (cond (test (get_or xs i d)) (get_or xs i d).length 0)) (longest test (drop (i + 1) xs))
  unfolding longest
  best_with_next d h = ap (λ l. max best (longest test l)) (next_left i xs d h) ∙ omega arith

  -- The next entry is of the kind that is asked for, or it is not.
  pub best_with_asked : (d : Entry) → i < length xs → test (get_or xs i d) ≡ true
      → max best (longest test (drop i xs)) ≡ max (max best (get_or xs i d).length) (longest test (drop (i + 1) xs))
  best_with_asked d h asked =
      best_with_next d h
      ∙ ap (λ t. max (max best (cond t (get_or xs i d).length 0)) (longest test (drop (i + 1) xs))) asked

  pub best_without : (d : Entry) → i < length xs → test (get_or xs i d) ≡ false
      → max best (longest test (drop i xs)) ≡ max best (longest test (drop (i + 1) xs))
  best_without d h other =
      best_with_next d h
      ∙ ap (λ t. max (max best (cond t (get_or xs i d).length 0)) (longest test (drop (i + 1) xs))) other
      ∙ ap (λ b. max b (longest test (drop (i + 1) xs))) (max-zero best)
