use native.Mathlib.Omega.{arith}
use mathlib.Core.Path.{sym, ◌∙◌}
use Rattle.masks.proofs.Walks.{sought_found, sought_more, sought_last}
use Rattle.rules.proofs.Known.{known_and}
use Rattle.settling.proofs.Processors.{lowest_known, lowest_entry}
use Rattle.settling.proofs.conflict_walks.in_row.Goals as goal

pub has_entry-requires : goal.has_entry-requires
has_entry-requires c =
    let known = c.loop-left.invariant.1 in
    (lowest_known known (omega arith), lowest_entry known (omega arith))

pub returns-then-has_entry : goal.returns-then-has_entry
returns-then-has_entry c =
    sought_found c.loop-left.invariant.0 (omega arith) (sym c.has_entry.ensures ∙ c.if-has_entry.true)

pub loop-left-preserved : goal.loop-left-preserved
loop-left-preserved c =
    let inv = c.loop-left.invariant in
    (sought_more inv.0 (omega arith) (sym c.has_entry.ensures ∙ c.if-has_entry.false), known_and _ inv.1)

pub returns : goal.returns
returns c = sought_last c.loop-left.invariant.0 c.loop-left-test.false
