use Prim.Native.Nat.{◌^◌, ◌<◌, min}
use native.Mathlib.Omega.{arith}
use mathlib.Core.Path.{◌≡◌}
use lib.ListN.{length, take, length-take}
use Rattle.std.proofs.Common.{rules}
use Rattle.std.proofs.lemmas.List.{take_min}
use Rattle.encoding.proofs.number_reads.Top.{no_byte, one_byte_more, below_all, all_bytes}
use Rattle.encoding.proofs.number_reads.read_number.Goals as goal

pub loop-byte-init : goal.loop-byte-init
loop-byte-init c =
    let size : c.min.result ≡ min 8 (length c.args.bytes.now) = omega arith in
    let left : c.into_iter-byte-iterator.result.iter.rest.now ≡ take 8 c.args.bytes.now =
    rw (c.into_iter-byte-iterator.ensures.into_iter_gives, c.rev-byte-items.ensures.source, c.iter.ensures.rest, size)
    (take_min 8 c.args.bytes.now) in
    rw left (no_byte _)

small : (c : goal.After-from) → c.loop-byte.sum < 256 ^ 7
small c =
    below_all _ _ c.in-Some.ensures.steps c.loop-byte.invariant 7 (omega (arith, length-take 8 c.args.bytes.now))

pub overflow_mul-sum : goal.overflow_mul-sum
overflow_mul-sum c = omega (arith, small c)

pub overflow_add-sum : goal.overflow_add-sum
overflow_add-sum c = omega (arith, small c)

pub loop-byte-preserved : goal.loop-byte-preserved
loop-byte-preserved c = one_byte_more _ _ (search rules) c.loop-byte.invariant (omega arith)

pub returns : goal.returns
returns c =
    let all = all_bytes _ c.in-None.ensures.steps.0 c.loop-byte.invariant in
    record { value = all.0; bound = rw (length-take 8 c.args.bytes.now) at all.1 }
