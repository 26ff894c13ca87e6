-- Runs of stores: of the low bytes of a number, and of a part. Assumes nothing.
use Prim.Native.Nat.{ℕ, zero, suc, ◌+◌, ◌-◌, ◌/◌, ◌≤◌}
use mathlib.Core.Path.{◌≡◌, refl, ◌∙◌}
use mathlib.Core.List.{List}
use native.Mathlib.Omega.{arith}
use borrow.Rule.Slice.PartMut.{put_mid}
use lib.ListN.{length, take, set}
use lib.Seq.{sets, sets-eq, drop-drop}
use Rattle.std.specs.Int.{w32, to_le_bytes}
use Rattle.std.proofs.Common.{append_assoc}
use Rattle.encoding.specs.Numbers.{bytes_of}
use Rattle.encoding.proofs.Numbers.{length_bytes_of}
use Rattle.encoding.proofs.Stores.{sets_append}
use Rattle.board_list.specs.Parts.{part_bytes}

-- The low bytes of a number of four.
pub low_bytes : (k x : ℕ) → k ≤ 4 → take k (to_le_bytes w32 x) ≡ bytes_of k x
unfolding bytes_of
low_bytes zero x h = refl
low_bytes (suc zero) x h = refl
low_bytes (suc (suc zero)) x h = refl
low_bytes (suc (suc (suc zero))) x h = let third : x / 65536 ≡ x / 256 / 256 = omega arith in rw third
low_bytes (suc (suc (suc (suc zero)))) x h =
    let third : x / 65536 ≡ x / 256 / 256 = omega arith in
    let fourth : x / 16777216 ≡ x / 256 / 256 / 256 = omega arith in
    rw (third, fourth)
low_bytes (suc (suc (suc (suc (suc k))))) x h = absurd (omega arith)

-- A part of a list that is replaced by a copy.
part_copied : (l new : List ℕ) (at k : ℕ) → length new ≡ k → at + k ≤ length l
    → put_mid at (at + k - at) l new ≡ sets l at new
part_copied l new at k size room =
    let part : at + k - at ≡ k = omega arith in
    let fits : at + length new ≤ length l = omega arith in
    rw (part, sets-eq new l at fits, append_assoc, size, drop-drop)

pub low_stored : (l part : List ℕ) (at k x : ℕ) → k ≤ 4 → at + k ≤ length l
    → part ≡ take k (to_le_bytes w32 x) → put_mid at (at + k - at) l part ≡ sets l at (bytes_of k x)
low_stored l part at k x few room copied =
    let bytes : part ≡ bytes_of k x = copied ∙ low_bytes k x few in
    rw bytes (part_copied l (bytes_of k x) at k (length_bytes_of k x) room)

-- The stores of a part: state, entry, four bytes and k bytes.
pub part_stores : (k state entry waited waits : ℕ) (l : List ℕ) (at : ℕ)
    → sets (sets (set (set l at state) (at + 1) entry) (at + 2) (bytes_of 4 waited)) (at + 6) (bytes_of k waits)
    ≡ sets l at (part_bytes k state entry waited waits)
unfolding part_bytes
part_stores k state entry waited waits l at =
    let one : at + 1 ≡ suc at = omega arith in
    let two : at + 2 ≡ suc (suc at) = omega arith in
    let six : at + 6 ≡ suc (suc at) + 4 = omega arith in
    rw (
      one,
      two,
      six,
      sets_append (set (set l at state) (suc at) entry) (suc (suc at)) (bytes_of 4 waited) (bytes_of k waits),
      length_bytes_of 4 waited,
    )
