-- `write` meets its contract: an accepted plan is stored if there is room for it, and a refusal stores nothing.
-- Assumes nothing.
use borrow.Author.Rules.{rules}
use Rattle.plan_bytes.proofs.plan_writer.Answers.{plan_fits, written_answer, refused_answer}
use Rattle.plan_bytes.proofs.plan_writer.write.Goals as goal

pub write_plan-requires : goal.write_plan-requires
write_plan-requires c =
    let a = c.args in
    plan_fits a.plan a.buffer.now _ _ c.plan_size-size.ensures _ c.check_writing.ensures (search rules)

pub returns : goal.returns
returns c =
    let a = c.args in
    let both = written_answer a.plan a.buffer.now a.at _ c.plan_size-size.ensures
    _ c.check_writing.ensures (search rules) _ c.write_plan.ensures in
    record { outcome = both.0; bytes = both.1 }

pub returns-in_err-check_writing : goal.returns-in_err-check_writing
returns-in_err-check_writing c =
    let a = c.args in
    let both = refused_answer a.plan a.buffer.now a.at _ c.plan_size-size.ensures
    _ c.check_writing.ensures c.in_err-check_writing.field-0.0 (search rules) in
    record { outcome = search (rules, both.0); bytes = both.1 }
