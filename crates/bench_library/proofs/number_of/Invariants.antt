-- `number_of` meets its contract: a digit more stays below the bound. Assumes nothing.
use Prim.Native.Nat.{◌<◌}
use Rattle.bench_library.proofs.number_of.Given as goal

abbrev pub invariant-loop-byte : goal.invariant-loop-byte
invariant-loop-byte l = l.sum < 1000000000
