-- How long a processor's part is. Assumes nothing.
use Prim.Native.Nat.{ℕ}
use mathlib.Core.Path.{◌≡◌}
use native.Mathlib.Omega.{arith}
use lib.ListN.{length, length-append}
use Rattle.encoding.specs.Numbers.{bytes_of}
use Rattle.encoding.proofs.Numbers.{length_bytes_of}
use Rattle.board_list.specs.Sizes.{part_size}
use Rattle.board_list.specs.Parts.{part_bytes}

pub length_part : (k state entry waited waits : ℕ) → length (part_bytes k state entry waited waits) ≡ part_size k
unfolding part_bytes
length_part k state entry waited waits =
    let both = length-append (bytes_of 4 waited) (bytes_of k waits) in
    omega (arith, both, length_bytes_of 4 waited, length_bytes_of k waits)
