-- How many bytes a mask has, and how many digits. Assumes nothing.
use Prim.Native.Nat.{ℕ, zero, suc, ◌+◌, ◌*◌, ◌/◌, ◌%◌, ◌≤◌}
use native.Mathlib.Omega.{arith}
use mathlib.Core.Path.{◌≡◌, refl}
use mathlib.Core.Bool.{Bool, true, false, cond}
use mathlib.Core.List.{List}
use lib.Dec.{leb}
use lib.ListN.{length, get_or, length-append}
use Rattle.encoding.specs.Numbers.{bytes_of}
use Rattle.encoding.proofs.Numbers.{length_bytes_of}
use Rattle.plans.specs.Entries.{mask_size_for}
use Rattle.digits.specs.Digits.{hex_pair, mask_in, hex_mask, mask_by}
use Rattle.digits.specs.inner.Stored.{Stored}
use Rattle.line_fields.specs.MaskFields.{mask_field, mask_fields}

-- A mask has two bytes or four.
pub most_bytes : (m : ℕ) → mask_size_for m ≤ 4
most_bytes m = go (leb m 16)
  where
    go : (b : Bool) → cond b 2 4 ≤ 4
    go true = omega arith
    go false = omega arith

pub least_bytes : (m : ℕ) → 2 ≤ mask_size_for m
least_bytes m = go (leb m 16)
  where
    go : (b : Bool) → 2 ≤ cond b 2 4
    go true = omega arith
    go false = omega arith

pub else_four : (m : ℕ) → (mask_size_for m ≡ 2 → ⊥) → mask_size_for m ≡ 4
else_four m = go (leb m 16)
  where
    go : (b : Bool) → (◌≡◌ {A = ℕ} (cond b 2 4) 2 → ⊥) → ◌≡◌ {A = ℕ} (cond b 2 4) 4
    go true more = absurd (more refl)
    go false more = refl

-- A mask has two digits for each of its bytes, also with a table.
length_in : (pair : ℕ → List ℕ) → ((byte : ℕ) → length (pair byte) ≡ 2) → (n mask : ℕ) → length (mask_in pair n mask)
    ≡ 2 * n
unfolding mask_in
length_in pair two zero mask = refl
length_in pair two (suc n) mask =
    simp length-append (omega (arith, two (mask % 256), length_in pair two n (mask / 256)))

pub length_hex : (n mask : ℕ) → length (hex_mask n mask) ≡ 2 * n
length_hex n mask = length_in hex_pair (λ byte. refl) n mask

pub length_mask : (pairs : List ℕ) (n mask : ℕ) → length (mask_by pairs n mask) ≡ 2 * n
length_mask pairs n mask = length_in (λ byte. bytes_of 2 (get_or pairs byte 0))
    (λ byte. length_bytes_of 2 (get_or pairs byte 0)) n mask

-- The position after a mask of two bytes.
pub half_place : (pairs : List ℕ) (mask : ℕ) {l b : List ℕ} {at next : ℕ} → Stored (mask_by pairs 2 mask) l at next b
    → next ≡ at + 4
half_place pairs mask s = omega (arith, s.place, length_mask pairs 2 mask)

-- The position after a space and a mask, whatever the mask.
pub mask_place : (pairs : List ℕ) (n mask : ℕ) {l b : List ℕ} {at next : ℕ}
    → Stored (mask_field pairs n mask) l at next b → next ≡ at + 1 + 2 * n
mask_place pairs n mask s = omega (arith, s.place, length_mask pairs n mask)

pub masks_length : (pairs : List ℕ) (n granted entitled : ℕ) → length (mask_fields pairs n granted entitled) ≡ 2 + 4 * n
masks_length pairs n granted entitled =
    simp length-append (omega (arith, length_mask pairs n granted, length_mask pairs n entitled))
