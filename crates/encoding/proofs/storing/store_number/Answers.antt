use mathlib.Core.Path.{sym, ◌∙◌}
use Rattle.encoding.proofs.Numbers.{length_bytes_of}
use Rattle.encoding.proofs.Stores.{number_turn, number_end, all_stored}
use Rattle.encoding.proofs.storing.store_number.Goals as goal

pub loop-byte-preserved : goal.loop-byte-preserved
loop-byte-preserved c = number_turn _ _ _ _ c.loop-byte-test.true ∙ c.loop-byte.invariant

pub returns : goal.returns
returns c =
    sym (number_end _ _ _ _ c.loop-byte-test.false) ∙ c.loop-byte.invariant
    ∙ all_stored _ _ (length_bytes_of _ _)
