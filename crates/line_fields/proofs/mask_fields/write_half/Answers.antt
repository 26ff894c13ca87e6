-- `write_half` meets its contract: the digits are those of the mask's two low bytes. Assumes nothing.
use Rattle.line_fields.proofs.mask_fields.Stores.{half_stored}
use Rattle.line_fields.proofs.mask_fields.write_half.Goals as goal

pub returns : goal.returns
returns c =
    let low = c in
    let high = low in
    let a = high.args in
    half_stored a.pairs.now _ _ _ _ a.mask high.write_byte.ensures low.write_byte-2.ensures
