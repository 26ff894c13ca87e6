-- The elements of a list, in the order of a loop over them: which are left at place i. Assumes nothing.
use Prim.Native.Nat.{ℕ, ◌+◌, ◌<◌, ◌≤◌}
use native.Mathlib.Numerals.{add-one}
use mathlib.Core.Path.{◌≡◌}
use mathlib.Core.List.{List, [], ◌∷◌}
use lib.ListN.{length, drop, get_or, drop_of_length-le}
use lib.Seq.{drop-cons}

module _ {A : Type 0} (i : ℕ) (xs : List A) where
  pub none_left : length xs ≤ i → drop i xs ≡ []
  none_left h = drop_of_length-le xs {i = i} h

  pub next_left : (d : A) → i < length xs → drop i xs ≡ get_or xs i d ∷ drop (i + 1) xs
  next_left d h = rw (add-one) (drop-cons xs i d h)
