-- `replay_record` meets its contract: a record that was read is a call, or it is refused. Assumes nothing.
use Rattle.rules.specs.InPlace.{board_lent, state_lent}
use Rattle.replay.proofs.replay_records.Steps.{call_step_law, refusal_carried}
use Rattle.replay.proofs.replay_records.replay_record.Goals as goal

pub returns-in-Ok-clause-result : goal.returns-in-Ok-clause-result
returns-in-Ok-clause-result c =
    let a = c.args in
    rw (call_step_law a.pairs.now (board_lent a.board) (state_lent a.moment a.arrays.now) a.bytes.now _
    c.read_record.ensures _ c.in-Ok.is) c.carry_out.ensures.result

pub returns-in-Ok-clause-written : goal.returns-in-Ok-clause-written
returns-in-Ok-clause-written c =
    let a = c.args in
    rw (call_step_law a.pairs.now (board_lent a.board) (state_lent a.moment a.arrays.now) a.bytes.now _
    c.read_record.ensures _ c.in-Ok.is) c.carry_out.ensures.written

pub returns-in-Err-clause-result : goal.returns-in-Err-clause-result
returns-in-Err-clause-result c =
    (refusal_carried _ _ _ _ _ c.read_record.ensures _ c.in-Err.is c.args.out.now c.args.at
    c.refusal_line.result _ _ c.refusal_line.ensures.outcome c.refusal_line.ensures.bytes c.line_size.ensures).0

pub returns-in-Err-clause-written : goal.returns-in-Err-clause-written
returns-in-Err-clause-written c =
    (refusal_carried c.args.pairs.now (board_lent c.args.board) (state_lent c.args.moment c.args.arrays.now) _ _ c.read_record.ensures _ c.in-Err.is c.args.out.now c.args.at
    c.refusal_line.result _ _ c.refusal_line.ensures.outcome c.refusal_line.ensures.bytes c.line_size.ensures).1
