-- `write_mask` meets its contract: two bytes, or four if the plan's masks do not have two. Assumes nothing.
use native.Mathlib.Omega.{arith}
use mathlib.Core.Path.{◌≡◌}
use lib.ListN.{length-set}
use Rattle.plans.specs.Entries.{mask_size_for}
use Rattle.line_fields.proofs.MaskLengths.{else_four, half_place}
use Rattle.line_fields.proofs.mask_fields.Stores.{wide_stored}
use Rattle.line_fields.proofs.mask_fields.write_mask.Goals as goal

pub write_half-requires-else-size-eq2 : goal.write_half-requires-else-size-eq2
write_half-requires-else-size-eq2 c =
    let half = c in
    let sized = half in
    let a = sized.args in
    let four : mask_size_for a.format.processors ≡ 4 = else_four a.format.processors
    (λ e. omega (arith, sized.mask_size-size.ensures)) in
    omega (arith, half_place a.format.pairs.now _ half.write_half-next.ensures, length-set a.buffer.now a.at 32)

pub returns-else-size-eq2 : goal.returns-else-size-eq2
returns-else-size-eq2 c =
    let low = c in
    let high = low in
    let sized = high in
    let a = sized.args in
    let four : mask_size_for a.format.processors ≡ 4 = else_four a.format.processors
    (λ e. omega (arith, sized.mask_size-size.ensures)) in
    wide_stored a.format.pairs.now _ _ a.mask _ four high.write_half-next.ensures low.write_half-else-size-eq2.ensures
