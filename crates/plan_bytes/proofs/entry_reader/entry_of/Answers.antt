-- `entry_of` returns the entry in the first 11 bytes: the set and the length are the numbers in their parts. Assumes
-- nothing.
use Rattle.plan_bytes.proofs.entry_reader.Entries.{entry_parts}
use Rattle.plan_bytes.proofs.entry_reader.entry_of.Goals as goal

pub returns : goal.returns
returns c = entry_parts _ _ _ c.read_number-set.ensures.value c.read_number-length.ensures.value
