-- An array that the library makes from a closure, as `tabulate` makes a list from a function. Assumes nothing.
use Prim.Native.Nat.{ℕ, zero, suc, ◌+◌, ◌<◌}
use native.Mathlib.Omega.{arith}
use mathlib.Core.Path.{◌≡◌, sym, ◌∙◌}
use mathlib.Core.List.{List}
use lib.ListN.{get_or}
use denote.Param.Members.{Mut, Called}
use Rattle.std.specs.Array.{IsFromFnResultFrom, IsFromFnResult}
use Rattle.std.proofs.lemmas.List.{ext_get_or}
use Rattle.masks.specs.Tabulation.{tabulate}
use Rattle.masks.proofs.Tabulate.{length_tabulate, get_d_tabulate}

module _
    {F : Type 0} (g : Mut F (ℕ × Unit {0}) ℕ) (Kept : F → Type 0) (f : ℕ → ℕ)
    (gives : (p q : F) (i y : ℕ) → Kept p → Called g p (i, tt) y q → (y ≡ f i) × Kept q)
  where
    each_made : (p : F) (xs : List ℕ) (i n k : ℕ) → Kept p → IsFromFnResultFrom g p xs i n → k < n
        → get_or xs (i + k) 0 ≡ f (i + k)
    each_made p xs i zero k kept made l = absurd (omega arith)
    each_made p xs i (suc n) zero kept made l =
        let here : i + 0 ≡ i = omega arith in
        rw here (made.2.1 0 ∙ (gives p made.0 i made.1 kept made.3).0)
    each_made p xs i (suc n) (suc k) kept made l =
        let later : i + suc k ≡ i + 1 + k = omega arith in
        rw later
        (each_made made.0 xs (i + 1) n k (gives p made.0 i made.1 kept made.3).1 made.4 (omega arith))

    -- The array is the list of the values, if each call gives the value at its place and leaves the closure as it was.
    pub made_whole : (p : F) (xs : List ℕ) (n : ℕ) → Kept p → IsFromFnResult g p xs n → xs ≡ tabulate n f
    made_whole p xs n kept made =
        ext_get_or 0 xs (tabulate n f) (made.long ∙ sym (length_tabulate n f))
        (λ i l.
        let here : i < n = omega (arith, made.long) in
        let from : 0 + i ≡ i = omega arith in
        (rw (← from) (each_made p xs 0 n i kept made.each here)) ∙ sym (get_d_tabulate n f i 0 here))
