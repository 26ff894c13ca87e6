-- `store_number` meets its contract. The invariant: storing the rest of the number from here on gives the whole.
-- Assumes nothing.
use Prim.Native.Nat.{◌-◌}
use mathlib.Core.Path.{◌≡◌}
use lib.ListN.{length}
use lib.Seq.{sets}
use Rattle.encoding.specs.Numbers.{bytes_of}
use Rattle.encoding.proofs.storing.store_number.Given as goal

abbrev pub invariant-loop-byte : goal.invariant-loop-byte
invariant-loop-byte l =
    sets l.byte-items l.byte-index (bytes_of (length l.fn.part - l.byte-index) l.rest)
    ≡ sets l.fn.part 0 (bytes_of (length l.fn.part) l.value)
