-- `put_masks` meets its contract: both masks are stored if they fit. Assumes nothing.
use native.Mathlib.Omega.{arith}
use Prim.Native.Nat.{ℕ, ◌+◌, ◌*◌}
use mathlib.Core.Path.{◌≡◌}
use mathlib.Core.List.{List}
use lib.ListN.{length}
use Rattle.plans.specs.Entries.{mask_size_for}
use Rattle.digits.proofs.Placed.{then_stored, field_placed, field_not_placed}
use Rattle.line_fields.specs.MaskFields.{mask_fields}
use Rattle.line_fields.proofs.MaskLengths.{most_bytes, mask_place, masks_length}
use Rattle.line_fields.proofs.mask_fields.put_masks.Goals as goal

whole-size : (pairs : List ℕ) (n granted entitled k : ℕ) → k ≡ n → 2 + 4 * k
    ≡ length (mask_fields pairs n granted entitled)
whole-size pairs n granted entitled k e = omega (arith, masks_length pairs n granted entitled)

pub write_mask-requires : goal.write_mask-requires
write_mask-requires c =
    let asked = c in
    let a = asked.args in
    omega (
      arith,
      mask_place a.format.pairs.now (mask_size_for a.format.processors) _
          c.write_mask-next.ensures,
      asked.mask_size.ensures,
      asked.has_room.ensures.room
          c.if-has_room.true,
    )

pub returns-then-has_room : goal.returns-then-has_room
returns-then-has_room c =
    let asked = c in
    let a = asked.args in
    let both =
    field_placed (mask_fields a.format.pairs.now (mask_size_for a.format.processors) a.granted a.entitled) _ _ _
    (whole-size a.format.pairs.now (mask_size_for a.format.processors) a.granted a.entitled _
    asked.mask_size.ensures) _ asked.has_room.ensures.is
    c.if-has_room.true
    (then_stored c.write_mask-next.ensures
    c.write_mask.ensures) in
    record { size = both.0; bytes = both.1; most = omega (arith, asked.mask_size.ensures, most_bytes a.format.processors) }

pub returns-else-has_room : goal.returns-else-has_room
returns-else-has_room c =
    let asked = c in
    let a = asked.args in
    let none =
    field_not_placed (mask_fields a.format.pairs.now (mask_size_for a.format.processors) a.granted a.entitled) _ _ _
    (whole-size a.format.pairs.now (mask_size_for a.format.processors) a.granted a.entitled _
    asked.mask_size.ensures) _ asked.has_room.ensures.is c.if-has_room.false in
    record { size = none.0; bytes = none.1; most = omega arith }
