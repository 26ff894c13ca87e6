-- Clause 6.10: freedom from deadlock, for every accepted plan and every list of calls. Assumes nothing.
use Prim.Native.Nat.{ℕ, ◌<◌}
use mathlib.Core.Path.{◌≡◌, sym, ap, ◌∙◌}
use mathlib.Core.Bool.{true, false}
use mathlib.Core.List.{List}
use native.Mathlib.Nat.{le_refl}
use native.Mathlib.Omega.{arith}
use Rattle.masks.specs.Sets.{bit, mask_of}
use Rattle.masks.proofs.Masks.{bit_mask_at}
use Rattle.plans.specs.declared.Plan.{Plan}
use Rattle.plans.specs.Entries.{max_processors}
use Rattle.plans.specs.Acceptance.{plan_fault}
use Rattle.rules.specs.declared.calls.Call.{Call}
use Rattle.rules.specs.Requests.{unsatisfied}
use Rattle.rules.specs.declared.states.Board.{Board}
use Rattle.rules.specs.declared.states.State.{State}
use Rattle.rules.specs.CountedRequests.{is_holding, cleaned}
use Rattle.rules.specs.Calls.{phases_of}
use Rattle.boards.specs.Fresh.{board_of}
use Rattle.runs.proofs.columns.Columns.{holding}
use Rattle.runs.proofs.refinement.State.{unsatisfied_phase, held_bit}
use Rattle.runs.proofs.refinement.Clean.{phase_in, clean_phases}
use Rattle.queries.specs.Queries.{Chain, reaches}
use Rattle.queries.proofs.Waits.{unsatisfied_below}
use Rattle.queries.proofs.Chains.{no_chain_not_reached}
use Rattle.runs.specs.Freedom.{reached_by, holds_in, NoDeadlock}
use Rattle.runs.proofs.Reached.{Reached, reached}
use Rattle.runs.proofs.Falling.{distance, chain_falls}
use Rattle.runs.proofs.Holders.{reaches_holder}

module _ (b : Board) (s : State) (r : Reached b s) where
  not_itself : (q : ℕ) → Chain b s q q → ⊥
  not_itself q c = omega (arith, chain_falls b s r q q c)

  same : phases_of b s ≡ s.phases
  same = clean_phases b s r.clean

  holds : (h : ℕ) → h < max_processors → phase_in s h ≡ holding → holds_in b s h ≡ true
  unfolding cleaned
  holds h l e =
      sym (bit_mask_at max_processors (is_holding b.terms s.requested s.phases) h l)
      ∙ ap (λ x. bit x.holding h) same
      ∙ held_bit s.phases h e

  to_a_holder : (q : ℕ) → unsatisfied (phases_of b s) q ≡ true → (h : ℕ) × Chain b s q h × (holds_in b s h ≡ true)
  to_a_holder q e =
      let l = unsatisfied_below b s q e in
      let u = unsatisfied_phase s.phases q r.clean.tidy l (sym (ap (λ x. unsatisfied x q) same) ∙ e) in
      let t = reaches_holder b s r (distance b s r q) q (le_refl (distance b s r q)) l u in
      (t.0, t.1, holds t.0 t.3 t.2)

pub no_deadlock : (p : Plan) → plan_fault p ≡ 0 → (calls : List Call) → NoDeadlock p calls
no_deadlock p taken calls =
    let r = reached p taken calls in
    record {
      nobody_reaches_itself = not_itself (board_of p) (reached_by p calls) r;
      whoever_waits_reaches_a_holder = to_a_holder (board_of p) (reached_by p calls) r;
    }

-- The same for the reach that the query returns: no processor is in its own reach.
pub not_in_own_reach : (p : Plan) → plan_fault p ≡ 0 → (calls : List Call) → (q : ℕ)
    → reaches (board_of p) (reached_by p calls) q q ≡ false
not_in_own_reach p taken calls q =
    no_chain_not_reached (board_of p) (reached_by p calls) q q ((no_deadlock p taken calls).nobody_reaches_itself q)

pub not_in_own_mask : (p : Plan) → plan_fault p ≡ 0 → (calls : List Call) → (q : ℕ) → q < max_processors
    → bit (mask_of max_processors (reaches (board_of p) (reached_by p calls) q)) q ≡ false
not_in_own_mask p taken calls q l =
    bit_mask_at max_processors (reaches (board_of p) (reached_by p calls) q) q l ∙ not_in_own_reach p taken calls q
