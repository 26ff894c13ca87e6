-- `merge` meets its contract. Assumes nothing.
use borrow.Author.Rules.{rules}
use Rattle.requests.proofs.effects.Both.{merged_both}
use Rattle.requests.proofs.merging.merge.Goals as goal

pub returns : goal.returns
returns c tick requested requested₂ since since₂ earlier earlier₂ =
    merged_both c.args.first c.args.second tick requested requested₂ since since₂ earlier earlier₂
    (search rules) (search rules) (search rules) (search rules) (search rules)
