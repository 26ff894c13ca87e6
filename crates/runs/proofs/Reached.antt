-- Every state that calls lead to from the fresh arbiter of an accepted plan is clean, and I1 to I7 and the order of
-- calls hold in it. Assumes nothing.
use Prim.Native.Nat.{ℕ}
use mathlib.Core.Path.{◌≡◌, refl, sym, subst}
use mathlib.Core.List.{List, [], ◌∷◌}
use Rattle.plans.specs.declared.Plan.{Plan}
use Rattle.plans.specs.Acceptance.{plan_fault}
use Rattle.rules.specs.declared.calls.Call.{Call}
use Rattle.rules.specs.CallNumbers.{tick_of}
use Rattle.rules.specs.declared.states.Board.{Board}
use Rattle.rules.specs.declared.states.State.{State}
use Rattle.rules.specs.Calls.{both, answered}
use Rattle.boards.specs.Fresh.{board_of, fresh_state}
use Rattle.runs.specs.Events.{state_after}
use Rattle.runs.specs.History.{Act, puts, takes}
use Rattle.runs.specs.Claim.{Closed, every_entry}
use Rattle.runs.proofs.history.Frame.{Answers, refused, acts, replaces, answers}
use Rattle.runs.proofs.refinement.Clean.{Clean, fresh_clean}
use Rattle.runs.proofs.refinement.Acts.{state_after_act, Allowed, act_done}
use Rattle.runs.proofs.refinement.Arbiter.{Safe, safe_fresh, safe_act}
use Rattle.runs.specs.Freedom.{reached_by}

pub record Reached (b : Board) (s : State) : Type 0 where
  pub clean : Clean b s
  pub standing : Safe b every_entry s

module _ (p : Plan) (taken : plan_fault p ≡ 0) where
  abbrev b : Board
  b = board_of p

  -- No entry is outside the group of all entries.
  closed : Closed p every_entry
  closed i j g x = refl

  fresh_reached : Reached b fresh_state
  fresh_reached = record { clean = fresh_clean b; standing = safe_fresh p taken every_entry closed }

  act_reached : (s : State) (t : ℕ) (a : Act) → Reached b s → Allowed b s t a → Reached b (state_after_act b s t a)
  act_reached s t a r k =
      record {
        clean = (act_done b s t a r.clean k).clean;
        standing = safe_act p taken every_entry closed s t a r.clean r.standing k;
      }

  next_reached : (c : Call) (s : State) → Reached b s → Reached b (answered b s c).state
  unfolding both
  next_reached c s r = go (answers b s r.clean c)
    where
      go : Answers b s c → Reached b (answered b s c).state
      go (refused n due same) = subst (λ x. Reached b x.state) (sym same) r
      go (acts a late one k same) =
          subst (λ x. Reached b x.state) (sym same) (act_reached s (tick_of c) a r k)
      go (replaces q e late two k same) =
          let t : ℕ = tick_of c in
          subst (λ x. Reached b x.state) (sym same)
          (act_reached (state_after_act b s t (takes q)) t (puts q e) (act_reached s t (takes q) r k.first)
          k.second)

  after_reached : (calls : List Call) (s : State) → Reached b s → Reached b (state_after b s calls)
  unfolding state_after
  after_reached [] s r = r
  after_reached (c ∷ later) s r = after_reached later (answered b s c).state (next_reached c s r)

  pub reached : (calls : List Call) → Reached (board_of p) (reached_by p calls)
  reached calls = after_reached calls fresh_state fresh_reached
