-- The table of pairs: one law gives each pair from the rule, and a mask written with the table has the mask's digits.
-- One computed test over all pairs (`hex_pairs/Proof.antt`) shows that the code's table is this one. Assumes nothing.
use Prim.Native.Nat.{ℕ, zero, suc, ◌+◌, ◌*◌, ◌/◌, ◌%◌, ◌<◌}
use native.Mathlib.Omega.{arith}
use mathlib.Core.Path.{◌≡◌, refl, ◌∙◌}
use mathlib.Core.Bool.{Bool, true, false, cond}
use mathlib.Core.List.{List, [], ◌∷◌, ◌++◌, append_assoc}
use lib.Dec.{ltb}
use lib.ListN.{get_or}
use Rattle.encoding.specs.Numbers.{number, bytes_of}
use Rattle.digits.specs.Digits.{hex_digit, hex_pair, pairs_from, hex_pairs, mask_in, hex_mask, mask_by}

from : (b n k : ℕ) → k < n → get_or (pairs_from b n) k 0 ≡ number (hex_pair (b + k))
unfolding pairs_from
from b zero k h = omega arith
from b (suc n) zero h = let z : b + 0 ≡ b = omega arith in rw z refl
from b (suc n) (suc k) h = let s : b + suc k ≡ suc b + k = omega arith in rw s (from (suc b) n k (omega arith))

-- Element b of the table contains the two digits of b.
pub entry : (b : ℕ) → b < 256 → get_or hex_pairs b 0 ≡ number (hex_pair b)
unfolding hex_pairs
entry b h = let z : 0 + b ≡ b = omega arith in from 0 256 b h ∙ rw z refl

-- ---- the digits from the table

two_bytes : (x y : ℕ) → x < 256 → y < 256 → bytes_of 2 (number (x ∷ y ∷ [])) ≡ x ∷ y ∷ []
unfolding number bytes_of
two_bytes x y h k =
    let first : (x + 256 * (y + 256 * 0)) % 256 ≡ x = omega arith in
    let second : (x + 256 * (y + 256 * 0)) / 256 ≡ y = omega arith in
    let small : y % 256 ≡ y = omega arith in
    rw (first, second, small) refl

hex_small : (d : ℕ) → d < 16 → hex_digit d < 256
hex_small d h = go (ltb d 10)
  where
    go : (b : Bool) → cond b (48 + d) (87 + d) < 256
    go true = omega arith
    go false = omega arith

entry_digits : (b : ℕ) → b < 256 → bytes_of 2 (get_or hex_pairs b 0) ≡ hex_pair b
entry_digits b h =
    let d : b / 16 < 16 = omega arith in
    let f : b % 16 < 16 = omega arith in
    rw (entry b h) (two_bytes (hex_digit (b / 16)) (hex_digit (b % 16)) (hex_small (b / 16) d) (hex_small (b % 16) f))

-- A mask written with the table has the mask's digits, for any number of bytes.
pub mask_digits : (n mask : ℕ) → mask_by hex_pairs n mask ≡ hex_mask n mask
unfolding mask_in
mask_digits zero mask = refl
mask_digits (suc n) mask =
    let low : mask % 256 < 256 = omega arith in
    rw (mask_digits n (mask / 256), entry_digits (mask % 256) low) refl

-- Four bytes are the two upper bytes and then the two lower ones.
pub mask_halves : (pair : ℕ → List ℕ) (mask : ℕ) → mask_in pair 4 mask
    ≡ mask_in pair 2 (mask / 65536) ++ mask_in pair 2 mask
unfolding mask_in
mask_halves pair mask =
    let third : mask / 256 / 256 ≡ mask / 65536 = omega arith in
    rw (third, append_assoc) refl
