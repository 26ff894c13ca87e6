-- `read` returns what the definitions state for the bytes. Assumes nothing.
use borrow.Author.Rules.{rules}
use Rattle.plans.specs.Reading.{plan_read}
use Rattle.plan_bytes.proofs.plan_reader.Answers.{refused_only}
use Rattle.plan_bytes.proofs.plan_reader.Head.{fault_of_entries, fault_of_counts, counts_there}
use Rattle.plan_bytes.proofs.plan_reader.read.Goals as goal

pub read_entries-requires : goal.read_entries-requires
read_entries-requires c = counts_there _ _ c.check_head.ensures (search rules)

pub returns : goal.returns
unfolding plan_read
returns c =
    let whole = fault_of_entries _ _ c.check_head.ensures (search rules) in
    record {
      outcome = rw whole c.read_entries.ensures.outcome;
      plan = rw whole c.read_entries.ensures.plan;
    }

pub returns-in_err-check_head : goal.returns-in_err-check_head
unfolding plan_read
returns-in_err-check_head c =
    let both = refused_only c.from_residual.result c.in_err-check_head.field-0.0 (search rules) _
    (fault_of_counts _ _ c.check_head.ensures c.in_err-check_head.field-0.0 (search rules)) _ _ in
    record { outcome = both.0; plan = both.1 }
