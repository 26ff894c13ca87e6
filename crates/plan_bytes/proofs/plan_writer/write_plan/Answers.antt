-- `write_plan` meets its contract: three stores, then the section into the rest of the buffer, which is a part lent and
-- given back. Assumes nothing.
use Rattle.plan_bytes.proofs.plan_writer.Stores.{plan_stores}
use Rattle.plan_bytes.proofs.plan_writer.write_plan.Goals as goal

pub returns : goal.returns
returns c =
    rw c.write_section.ensures
    (plan_stores _ _ _ c.requires.1)
