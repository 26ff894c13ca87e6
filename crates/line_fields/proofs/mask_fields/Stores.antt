-- Storing the digits of masks: a mask's two low bytes, a whole mask, both masks. Assumes nothing.
use Prim.Native.Nat.{ℕ, suc, ◌+◌, ◌/◌, ◌%◌}
use native.Mathlib.Omega.{arith}
use mathlib.Core.Path.{◌≡◌, refl, ◌∙◌}
use mathlib.Core.List.{List}
use lib.ListN.{get_or, set}
use lib.Seq.{sets}
use Rattle.encoding.specs.Numbers.{bytes_of}
use Rattle.digits.specs.Digits.{mask_in, mask_by}
use Rattle.digits.specs.inner.Stored.{Stored}
use Rattle.digits.proofs.Table.{mask_halves}
use Rattle.digits.proofs.Placed.{one_stored, then_stored}
use Rattle.line_fields.specs.MaskFields.{mask_field}

-- The digits of a mask's two low bytes, byte by byte.
pub half_stored : (pairs l a b : List ℕ) (at mask : ℕ)
    → a ≡ sets l at (bytes_of 2 (get_or pairs (mask / 256 % 256) 0))
    → b ≡ sets a (at + 2) (bytes_of 2 (get_or pairs (mask % 256) 0))
    → Stored (mask_by pairs 2 mask) l at (at + 4) b
unfolding mask_in bytes_of
half_stored pairs l a b at mask ea eb =
    let two : at + 2 ≡ suc (suc at) = omega arith in
    record { place = refl; stores = eb ∙ rw (ea, two) refl }

module _ (pairs l : List ℕ) (at mask : ℕ) where
  -- A space and a mask of two bytes.
  pub narrow_stored : (n : ℕ) → n ≡ 2 → {next : ℕ} {b : List ℕ}
      → Stored (mask_by pairs 2 mask) (set l at 32) (at + 1) next b
      → Stored (mask_field pairs n mask) l at next b
  narrow_stored n e s = rw e (then_stored (one_stored l at 32) s)

  -- A space and a mask of four bytes: its upper half, and then its lower half.
  pub wide_stored : (n : ℕ) → n ≡ 4 → {next end : ℕ} {a b : List ℕ}
      → Stored (mask_by pairs 2 (mask / 65536)) (set l at 32) (at + 1) next a
      → Stored (mask_by pairs 2 mask) a next end b
      → Stored (mask_field pairs n mask) l at end b
  wide_stored n e s t =
      rw (e, mask_halves (λ byte. bytes_of 2 (get_or pairs byte 0)) mask)
      (then_stored (one_stored l at 32) (then_stored s t))
