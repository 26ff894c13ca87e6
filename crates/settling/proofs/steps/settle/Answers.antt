-- `settle` meets its contract: the masks are those of the four steps. Assumes nothing.
use Prim.Native.Nat.{◌^◌, ◌<◌}
use borrow.Author.Rules.{rules}
use Rattle.plans.specs.Entries.{max_entries}
use Rattle.rules.specs.InPlace.{facts_lent}
use Rattle.rules.specs.Settling.{settled}
use Rattle.rules.proofs.FourSteps.{at_last}
use Rattle.rules.proofs.Quiet.{cut_follows}
use Rattle.rules.proofs.Known.{and_known, known_and, known_or}
use Rattle.settling.proofs.steps.KnownSteps.{at_known, known_after1, known_after2}
use Rattle.settling.proofs.steps.KnownSteps.{known_after3, known_after4}
use Rattle.settling.proofs.steps.settle.Goals as goal

pub known_among-w-requires : goal.known_among-w-requires
known_among-w-requires c = search and_known

pub unopposed-ahead-requires : goal.unopposed-ahead-requires
unopposed-ahead-requires c = search (known_or, and_known, known_and)

pub unopposed-free-requires : goal.unopposed-free-requires
unopposed-free-requires c = search (known_or, and_known, known_and)

pub unopposed-clear-requires : goal.unopposed-clear-requires
unopposed-clear-requires c = search (known_or, and_known, known_and)

pub first_in_queue-next-requires : goal.first_in_queue-next-requires
first_in_queue-next-requires c = search (known_or, and_known, known_and)

pub unopposed-granted-requires : goal.unopposed-granted-requires
unopposed-granted-requires c = search (known_or, and_known, known_and)

pub unopposed-clear-requires-2 : goal.unopposed-clear-requires-2
unopposed-clear-requires-2 c = search (known_or, and_known, known_and)

pub unopposed-behind-requires : goal.unopposed-behind-requires
unopposed-behind-requires c = search (known_or, and_known, known_and)

pub returns : goal.returns
unfolding settled
returns c =
    let a = c.args in
    let f = facts_lent a.facts in
    let small : a.facts.terms.writes < 2 ^ max_entries = search rules in
    let table = c.known_in-known.ensures.table in
    let all = c.known_in-known.ensures.those in
    let zero = at_known f small table all (cut_follows a.phases) c.known_among-w.ensures.those in
    let one = known_after1 f small table all zero c.unopposed-ahead.ensures.those c.unopposed-free.ensures.those in
    let two = known_after2 f small table all one c.unopposed-clear.ensures.those c.first_in_queue-next.ensures in
    let three = known_after3 f small table all two c.unopposed-granted.ensures.those in
    at_last a.phases _ (known_after4 f small table all three c.unopposed-clear-2.ensures.those c.unopposed-behind.ensures.those)
