use native.Mathlib.Omega.{arith}
use Rattle.digits.proofs.decimals.Backwards.{all_to_store, two_at_least, two_digits_less}
use Rattle.digits.proofs.decimals.write_digits.Goals as goal

pub loop-rest-init : goal.loop-rest-init
loop-rest-init c = all_to_store _ _ _ _ (omega arith) c.requires.0

pub overflow_sub-left : goal.overflow_sub-left
overflow_sub-left c = omega (arith, two_at_least _ _ _ _ _ _ c.loop-rest.invariant c.loop-rest-test.true)

pub write_two-requires : goal.write_two-requires
write_two-requires c =
    let loop = c.loop-rest in (
      omega arith,
      omega (
        arith,
        loop.invariant.within,
        loop.invariant.same,
        two_at_least _ _ _ _ _ _ loop.invariant
            c.loop-rest-test.true,
      ),
    )

pub loop-rest-preserved : goal.loop-rest-preserved
loop-rest-preserved c =
    let two = c in
    two_digits_less _ _ _ _ _ _ two.loop-rest.invariant _ two.loop-rest-test.true
    two.write_two.ensures
