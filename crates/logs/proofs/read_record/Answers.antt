-- `read_record` meets its contract: the verb is read only if all 8 bytes are there. Assumes nothing.
use mathlib.Core.Path.{sym, ◌∙◌}
use Rattle.encoding.proofs.Room.{enough_length}
use Rattle.logs.proofs.Fields.{record_read}
use Rattle.logs.proofs.read_record.Goals as goal

pub returns : goal.returns
returns c =
    c.call_by.ensures
    ∙ record_read _ (enough_length 8 c.args.bytes.now (sym c.in_ok-check_due.ensures)) _ c.read_number-tick.ensures.value
