-- `read_number` returns the number in the first eight bytes. The invariant: the sum is the number in those that were
-- read, and the others are left in the iterator. Assumes nothing.
use Rattle.std.proofs.Common.{take}
use Rattle.encoding.proofs.number_reads.Top.{IsTop}
use Rattle.encoding.proofs.number_reads.read_number.Given as goal

abbrev pub invariant-loop-byte : goal.invariant-loop-byte
invariant-loop-byte l = IsTop (take 8 l.bytes) l.byte-iterator.iter.rest.now l.sum
