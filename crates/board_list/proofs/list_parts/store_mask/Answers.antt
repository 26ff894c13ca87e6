-- `store_mask` meets its contract, for sizes other than two: there is room for the bytes. Assumes nothing.
use mathlib.Core.Path.{◌∙◌}
use Rattle.encoding.specs.Numbers.{bytes_of}
use Rattle.encoding.proofs.Numbers.{length_bytes_of}
use Rattle.encoding.proofs.Room.{stored_where_fits}
use Rattle.board_list.proofs.list_parts.store_mask.Goals as goal

pub returns-else-size-eq2 : goal.returns-else-size-eq2
returns-else-size-eq2 c =
    let a = c.args in
    rw c.from.ensures at c.write_number.ensures.bytes
    ∙ stored_where_fits a.buffer.now a.at (bytes_of a.size a.mask) a.size
    (length_bytes_of a.size a.mask) c.requires
