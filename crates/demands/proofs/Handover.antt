-- A handover after any calls to the fresh arbiter of an accepted plan: no grant and no entitlement is lost or invented.
-- Assumes nothing.
use Prim.Native.Nat.{ℕ, ◌<◌}
use mathlib.Core.Path.{◌≡◌}
use mathlib.Core.Bool.{not, ◌&&◌, ◌||◌}
use mathlib.Core.List.{List}
use lib.Dec.{eqb}
use Rattle.masks.specs.Sets.{bit}
use Rattle.plans.specs.declared.Plan.{Plan}
use Rattle.plans.specs.Entries.{max_processors}
use Rattle.plans.specs.Acceptance.{plan_fault}
use Rattle.rules.specs.declared.calls.Call.{Call}
use Rattle.rules.specs.declared.states.Phases.{Phases}
use Rattle.rules.specs.Faults.{handover_fault}
use Rattle.rules.specs.Calls.{Answer, phases_of, answered}
use Rattle.boards.specs.Fresh.{board_of}
use Rattle.runs.proofs.Handover.{grants_exactly, entitles_exactly}
use Rattle.runs.specs.Freedom.{reached_by}
use Rattle.runs.proofs.Reached.{reached}

-- The phases before the handover, and its answer.
abbrev pub before : Plan → List Call → Phases
before plan calls = (reached_by plan calls).phases

abbrev pub handover : Plan → List Call → ℕ → ℕ → ℕ → Answer
handover plan calls p e t = answered (board_of plan) (reached_by plan calls) (Call.Handover p e t)

-- The number that is due for it.
abbrev pub due_for : Plan → List Call → ℕ → ℕ → ℕ → ℕ
due_for plan calls p e t =
    handover_fault (board_of plan).terms (reached_by plan calls).last
    (phases_of (board_of plan) (reached_by plan calls)) p e t

module _ (plan : Plan) (taken : plan_fault plan ≡ 0) (calls : List Call) (p e t : ℕ)
    (ok : due_for plan calls p e t ≡ 0) (q : ℕ) (l : q < max_processors) where
  -- The granted mask contains the processors that hold after it and did not before, and the caller if its new request
  -- holds.
  pub handover_grants : bit (handover plan calls p e t).reply.granted q
      ≡ (bit (handover plan calls p e t).state.phases.holding q
      && (not (bit (before plan calls).holding q) || eqb q p))
  handover_grants =
      grants_exactly (board_of plan) (reached_by plan calls) p e t (reached plan taken calls).clean ok q l

  -- The entitled mask contains the processors that are entitled after it and were not before.
  pub handover_entitles : bit (handover plan calls p e t).reply.entitled q
      ≡ (bit (handover plan calls p e t).state.phases.entitled q && not (bit (before plan calls).entitled q))
  handover_entitles =
      entitles_exactly (board_of plan) (reached_by plan calls) p e t (reached plan taken calls).clean ok q l
