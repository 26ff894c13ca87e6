-- `widen_names` meets its contract: the fold goes from the last counted entry to the first. Assumes nothing.
use Rattle.std.specs.Prelude.{reverse}
use Rattle.std.specs.List.{fold}
use mathlib.Core.Path.{◌≡◌, ap, ◌∙◌}
use borrow.Author.Rules.{rules}
use lib.Bits.{bit_or}
use Rattle.conflicts.specs.Widening.{widen}
use Rattle.conflicts.proofs.widening.Names.{brought_to, widened_by_fold}
use Rattle.conflicts.proofs.widening.widen_names.Goals as goal

pub returns : goal.returns
returns c =
    let names = c.args.names in
    let es = c.counted_entries.result.now in
    let folds : c.rfold.result ≡ fold (λ out e. bit_or out (brought_to names e)) names (reverse es) = search rules in
    folds ∙ widened_by_fold names es ∙ ap (widen names) c.counted_entries.ensures.are
