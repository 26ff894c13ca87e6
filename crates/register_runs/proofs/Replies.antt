-- What is true of every answer of the arbiter: its masks fit into four bytes, and a refusal is its number alone.
-- Assumes nothing.
use Prim.Native.Nat.{ℕ, ◌^◌, ◌<◌}
use mathlib.Core.Path.{◌≡◌, refl}
use mathlib.Core.Bool.{Bool, true, false, cond, true≢false}
use lib.Dec.{eqb, lit<}
use Rattle.masks.proofs.Masks.{mask_below_width}
use Rattle.plans.specs.Entries.{max_processors}
use Rattle.rules.specs.declared.calls.Call.{Call}
use Rattle.rules.specs.Replies.{Response, refused_with}
use Rattle.rules.specs.declared.states.Phases.{Phases}
use Rattle.rules.specs.declared.states.Board.{Board}
use Rattle.rules.specs.declared.states.State.{State}
use Rattle.rules.specs.Faults.{issue_fault, handover_fault}
use Rattle.rules.specs.Calls.{Answer, phases_of, put_state, taken_state, done, ruled, settled_done, issued, left, completed}
use Rattle.rules.specs.Calls.{withdrawn, both, handed_over, answered}

-- A reply that fits into the registers.
pub record Holdable (r : Response) : Type 0 where
  pub granted : r.granted < 2 ^ 32
  pub entitled : r.entitled < 2 ^ 32
  pub alone : eqb r.number 0 ≡ false → r ≡ refused_with r.number

done_holdable : (x : State) (after : Phases) (late : ℕ) → Holdable (done x after late).reply
unfolding done
done_holdable x after late =
    record {
      granted = mask_below_width 32 max_processors _ (lit< tt);
      entitled = mask_below_width 32 max_processors _ (lit< tt);
      alone = λ e. absurd (true≢false e);
    }

refused_holdable : (n : ℕ) → Holdable (refused_with n)
refused_holdable n = record { granted = lit< tt; entitled = lit< tt; alone = λ e. refl }

ruled_holdable : (n : ℕ) (s : State) (a : Answer) → Holdable a.reply → Holdable (ruled n s a).reply
ruled_holdable n s a h = go (eqb n 0)
  where
    go : (t : Bool) → Holdable (cond t a (record { reply = refused_with n; state = s })).reply
    go true = h
    go false = refused_holdable n

settled_holdable : (b : Board) (x : State) (late : ℕ) → Holdable (settled_done b x late).reply
unfolding settled_done
settled_holdable b x late = done_holdable x _ late

both_holdable : (first second : Answer) → Holdable (both first second).reply
unfolding both
both_holdable first second =
    record {
      granted = mask_below_width 32 max_processors _ (lit< tt);
      entitled = mask_below_width 32 max_processors _ (lit< tt);
      alone = λ e. absurd (true≢false e);
    }

left_holdable : (b : Board) (s : State) (p t number late : ℕ) → Holdable (left b s p t number late).reply
unfolding left
left_holdable b s p t number late =
    ruled_holdable number s (settled_done b (taken_state b s p t) late) (settled_holdable b (taken_state b s p t) late)

pub answer_holdable : (b : Board) (s : State) (c : Call) → Holdable (answered b s c).reply
unfolding issued completed withdrawn handed_over
answer_holdable b s (Call.Issue p e t) =
    ruled_holdable (issue_fault b.terms s.last (phases_of b s) p e t) s (settled_done b (put_state b s p e t) 0)
    (settled_holdable b (put_state b s p e t) 0)
answer_holdable b s (Call.Complete p t) = left_holdable b s p t _ _
answer_holdable b s (Call.Withdraw p t) = left_holdable b s p t _ 0
answer_holdable b s (Call.Handover p e t) =
    ruled_holdable (handover_fault b.terms s.last (phases_of b s) p e t) s
    (both (completed b s p t) (issued b (completed b s p t).state p e t))
    (both_holdable (completed b s p t) (issued b (completed b s p t).state p e t))
