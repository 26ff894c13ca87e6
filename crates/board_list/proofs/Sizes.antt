-- A mask has few bytes, so the sizes that depend on it are small. Assumes nothing.
use Prim.Native.Nat.{ℕ, ◌*◌, ◌≤◌}
use mathlib.Core.Bool.{Bool, true, false, cond}
use native.Mathlib.Nat.{mul-le-mul_right}
use native.Mathlib.Omega.{arith}
use lib.Dec.{leb}
use Rattle.plans.specs.Entries.{max_processors, mask_size_for}
use Rattle.board_list.specs.Sizes.{part_size}

pub mask_size_small : (m : ℕ) → mask_size_for m ≤ 4
mask_size_small m = go (leb m 16)
  where
    go : (t : Bool) → cond t 2 4 ≤ 4
    go true = omega arith
    go false = omega arith

-- No list is longer than the one with all places and masks of four bytes.
pub list_small : (k count : ℕ) → k ≤ 4 → count ≤ max_processors → part_size k * count ≤ 320
list_small k count few places =
    let wide : part_size k ≤ 10 = omega arith in
    omega (arith, mul-le-mul_right count wide)
