-- `is_behind` meets its contract: the code intersects two masks, and the definition tests both. Assumes nothing.
use mathlib.Core.Path.{ap, ◌∙◌}
use mathlib.Core.Bool.{◌&&◌}
use Prim.Native.Nat.{ℕ}
use lib.Bits.{bit_and}
use lib.ListN.{get_or}
use Rattle.masks.specs.Sets.{bit, some}
use Rattle.masks.proofs.Places.{bit_and_law}
use Rattle.masks.proofs.Some.{some_agree}
use Rattle.plans.specs.Entries.{max_processors}
use Rattle.rules.proofs.Known.{and_known}
use Rattle.settling.proofs.conflict_walks.is_behind.Goals as goal

pub in_row-requires : goal.in_row-requires
in_row-requires c = and_known (get_or c.args.facts.earlier.now c.args.p 0) c.requires.2

pub returns : goal.returns
returns c =
    let f = c.args.facts in
    let earlier = get_or f.earlier.now c.args.p 0 in
    c.in_row.ensures
    ∙ ap (λ (x : ℕ). some max_processors (λ q. bit (bit_and earlier c.args.others) q
    && bit x (get_or f.requested.now q 0))) c.row_at.ensures
    ∙ some_agree max_processors _ _
    (λ q l. ap (λ t. t && bit (get_or f.rows.now (get_or f.requested.now c.args.p 0) 0) (get_or f.requested.now q 0))
    (bit_and_law earlier c.args.others q))
