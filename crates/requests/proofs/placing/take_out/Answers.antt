-- `take_out` meets its contract. Assumes nothing.
use Rattle.requests.proofs.placing.PutIn.{taken_out_law}
use Rattle.requests.proofs.placing.take_out.Goals as goal

pub returns : goal.returns
returns c = taken_out_law c.args.phases _ _
    c.all_but-others.ensures
