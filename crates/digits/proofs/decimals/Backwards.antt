-- A decimal number stored two digits at a time, the last ones first. Assumes nothing.
use Prim.Native.Nat.{ℕ, ◌+◌, ◌-◌, ◌/◌, ◌%◌, ◌^◌, ◌≤◌, ◌<◌}
use native.Mathlib.Omega.{arith}
use mathlib.Core.Path.{◌≡◌, refl, ◌∙◌}
use mathlib.Core.List.{List, [], ◌∷◌}
use lib.ListN.{length}
use lib.Seq.{sets, length-sets}
use Rattle.digits.specs.Digits.{decimal}
use Rattle.digits.proofs.DecimalDigits.{decimal_two_more, length_two_more, some_digit}
use Rattle.digits.proofs.Stores.{last_first}

-- Of the number n, the digits of `rest` are left to store, and `left` says how many. Storing them gives the whole.
pub record ToStore (n : ℕ) (before : List ℕ) (at : ℕ) (buffer : List ℕ) (rest left : ℕ) : Type 0 where
  pub most : rest < 10 ^ 20
  pub some : 1 ≤ left
  pub within : left ≤ length (decimal n)
  pub places : left ≡ length (decimal rest)
  pub same : length buffer ≡ length before
  pub stores : sets buffer at (decimal rest) ≡ sets before at (decimal n)

pub all_to_store : (n : ℕ) (l : List ℕ) (at size : ℕ) → n < 10 ^ 20 → size ≡ length (decimal n)
    → ToStore n l at l n size
all_to_store n l at size most e =
    record {
      most = most;
      some = omega (arith, some_digit n);
      within = omega arith;
      places = e;
      same = refl;
      stores =
          refl;
    }

module _ (n : ℕ) (l : List ℕ) (at : ℕ) (b : List ℕ) (rest left : ℕ) (h : ToStore n l at b rest left) where
  pub two_at_least : 99 < rest → 3 ≤ left
  two_at_least more =
      omega (arith, h.places, length_two_more rest (omega arith) h.most, some_digit (rest / 100))

  pub two_digits_less : (a : List ℕ) → 99 < rest → a
      ≡ sets b (at + (left - 2)) ((48 + rest % 100 / 10) ∷ (48 + rest % 100 % 10) ∷ [])
      → ToStore n l at a (rest / 100) (left - 2)
  two_digits_less a more e =
      let hundred : 100 ≤ rest = omega arith in
      let d : length (decimal rest) ≡ length (decimal (rest / 100)) + 2 = length_two_more rest hundred h.most in
      let p : left - 2 ≡ length (decimal (rest / 100)) = omega (arith, h.places) in
      record {
        most = omega (arith, h.most);
        some = omega (arith, some_digit (rest / 100));
        within = omega (arith, h.within);
        places = p;
        same = rw e (length-sets b (at + (left - 2)) ((48 + rest % 100 / 10) ∷ (48 + rest % 100 % 10) ∷ []) ∙ h.same);
        stores = rw (
          e,
          p,
          last_first b at (decimal (rest / 100))
              ((48 + rest % 100 / 10) ∷ (48 + rest % 100 % 10) ∷ []),
          ← decimal_two_more rest hundred h.most,
        )
            h.stores;
      }

  pub last_digits : (a : List ℕ) → a ≡ sets b at (decimal rest) → a ≡ sets l at (decimal n)
  last_digits a e = e ∙ h.stores
