use native.Mathlib.Omega.{arith}
use mathlib.Core.Path.{refl, ◌∙◌}
use Rattle.replay.proofs.Blocks.{after_refusal, after_last, after_call, at_refusal, written_room}
use Rattle.replay.proofs.run_records.Goals as goal

pub overflow_add-written : goal.overflow_add-written
overflow_add-written c = omega (
  arith,
  c.loop-calls.invariant.leaves.room refl,
  c.loop-calls-test.true,
  written_room _ _ _ _ _ _ _ c.requires.0 c.replay_record-carried.ensures.result,
)

pub returns-then-carried-clause-result : goal.returns-then-carried-clause-result
returns-then-carried-clause-result c =
    (after_refusal _ _ _ _ _ _ _ _ _ (at_refusal _ _ _ _ _ _ _ _ _ c.loop-calls.invariant.leaves
    c.loop-calls-test.true c.requires.1.1 _ c.requires.0 _ _ c.replay_record-carried.ensures.result
    c.replay_record-carried.ensures.written c.replay_record-carried.auto.out c.if-carried.true)).0

pub returns-then-carried-clause-written : goal.returns-then-carried-clause-written
returns-then-carried-clause-written c =
    (after_refusal _ _ _ _ _ _ _ _ _ (at_refusal _ _ _ _ _ _ _ _ _ c.loop-calls.invariant.leaves
    c.loop-calls-test.true c.requires.1.1 _ c.requires.0 _ _ c.replay_record-carried.ensures.result
    c.replay_record-carried.ensures.written c.replay_record-carried.auto.out c.if-carried.true)).1

pub loop-calls-preserved : goal.loop-calls-preserved
loop-calls-preserved c =
    let now = c.replay_record-carried.ensures.same in
    let before = c.loop-calls.invariant.same in
    record {
      same =
          record {
            requested = now.requested ∙ before.requested;
            since = now.since ∙ before.since;
            earlier = now.earlier ∙ before.earlier;
          };
      leaves = after_call _ _ _ _ _ _ _ _ _ c.loop-calls.invariant.leaves c.loop-calls-test.true c.requires.1.1 _
          c.requires.0 _ _ c.replay_record-carried.ensures.result c.replay_record-carried.ensures.written
          c.replay_record-carried.auto.out c.if-carried.false;
    }

pub returns-clause-result : goal.returns-clause-result
returns-clause-result c = (after_last _ _ _ _ _ _ _ _ _ (omega arith) c.loop-calls.invariant.leaves).0

pub returns-clause-written : goal.returns-clause-written
returns-clause-written c = (after_last _ _ _ _ _ _ _ _ _ (omega arith) c.loop-calls.invariant.leaves).1
