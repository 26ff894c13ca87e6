-- `clean` meets its contract, using the law of the requests that count. Assumes nothing.
use borrow.Author.Rules.{rules}
use Rattle.settling.proofs.counted_requests.Cleaning.{cleaned_masks}
use Rattle.settling.proofs.counted_requests.clean.Goals as goal

pub returns : goal.returns
returns c =
    let below = c in
    let a = below.args in
    cleaned_masks a.terms _ a.phases (search rules) (search rules) (search rules) _ _ _ _
    below.processors_of.ensures below.entries_below-counted.ensures
    c.without32.ensures c.without32-2.ensures
