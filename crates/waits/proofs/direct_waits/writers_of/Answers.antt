-- `writers_of` meets its contract: the union of the phases is the active processors. Assumes nothing.
use mathlib.Core.Path.{ap, ◌∙◌}
use mathlib.Core.Bool.{◌&&◌}
use lib.ListN.{get_or}
use Rattle.masks.specs.Sets.{bit}
use Rattle.masks.proofs.Masks.{mask_agree}
use Rattle.plans.specs.Entries.{max_processors}
use Rattle.waits.proofs.direct_waits.Cases.{bit_active}
use Rattle.waits.proofs.direct_waits.writers_of.Goals as goal

pub returns : goal.returns
returns c =
    let a = c.args in
    c.those_in.ensures
    ∙ mask_agree max_processors _ _ (λ q l. ap (λ t. t && bit a.facts.terms.writes (get_or a.facts.requested.now q 0))
    (bit_active a.phases q))
