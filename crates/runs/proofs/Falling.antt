-- In a state that calls lead to, a number falls along every direct wait. It is 0 for a processor that holds, 1 for an
-- entitled one, and for a waiting one 2 plus the number of active writes earlier than its request. Assumes nothing.
use Prim.Native.Nat.{ℕ, ◌+◌, ◌≤◌, ◌<◌}
use mathlib.Core.Path.{◌≡◌, refl, sym, ap, ◌∙◌}
use mathlib.Core.Bool.{true, not}
use native.Mathlib.Omega.{arith}
use Rattle.rules.specs.declared.states.Board.{Board}
use Rattle.rules.specs.declared.states.State.{State}
use Rattle.plans.specs.Entries.{max_processors}
use Rattle.rules.specs.declared.states.Phases.{Phases}
use Rattle.rules.specs.Requests.{Facts, is_writer}
use Rattle.rules.specs.Calls.{facts_of}
use Rattle.runs.specs.Claim.{every_entry}
use Rattle.runs.proofs.columns.Columns.{Phase, idle, waiting, entitled, holding, Requests}
use Rattle.runs.proofs.columns.Phases.{is_active_law}
use Rattle.runs.proofs.columns.Rank.{rank, Ahead, ahead_has_lower_rank}
use Rattle.runs.proofs.refinement.State.{requests_of, active_not_idle, held_phase, entitled_phase, waiting_phase}
use Rattle.runs.proofs.refinement.Clean.{phase_in, clean_phases}
use Rattle.waits.specs.Waits.{waits_in}
use Rattle.queries.specs.Queries.{waits_for, Chain, direct, through}
use Rattle.masks.proofs.Truth.{and_left}
use Rattle.queries.proofs.Waits.{Reason, entitled_read_law, waiting_read_law, entitled_write_law, waiting_write_law, waits_reason}
use Rattle.queries.proofs.Waits.{waits_below}
use Rattle.runs.proofs.Reached.{Reached}

unfoldable cost : Phase → ℕ → ℕ
cost idle earlier = 0
cost holding earlier = 0
cost entitled earlier = 1
cost waiting earlier = 2 + earlier

cost_at_most : (a : Phase) (n : ℕ) → cost a n ≤ 2 + n
unfolding cost
cost_at_most idle n = omega arith
cost_at_most holding n = omega arith
cost_at_most entitled n = omega arith
cost_at_most waiting n = omega arith

module _ (b : Board) (s : State) (r : Reached b s) where
  abbrev R : Requests
  R = requests_of (facts_of b s) every_entry

  abbrev f : Facts
  f = facts_of b s

  abbrev ph : Phases
  ph = s.phases

  pub distance : ℕ → ℕ
  distance i = cost (phase_in s i) (rank max_processors R (phase_in s) i)

  distance_in : (i : ℕ) (a : Phase) → phase_in s i ≡ a → distance i ≡ cost a (rank max_processors R (phase_in s) i)
  unfolding distance
  distance_in i a e = ap (λ x. cost x (rank max_processors R (phase_in s) i)) e

  holding_at_zero : (i : ℕ) → phase_in s i ≡ holding → distance i ≡ 0
  unfolding cost
  holding_at_zero i = distance_in i holding

  entitled_at_one : (i : ℕ) → phase_in s i ≡ entitled → distance i ≡ 1
  unfolding cost
  entitled_at_one i = distance_in i entitled

  waiting_at : (i : ℕ) → phase_in s i ≡ waiting → distance i ≡ 2 + rank max_processors R (phase_in s) i
  unfolding cost
  waiting_at i = distance_in i waiting

  distance_at_most : (i : ℕ) → distance i ≤ 2 + rank max_processors R (phase_in s) i
  unfolding distance
  distance_at_most i = cost_at_most (phase_in s i) (rank max_processors R (phase_in s) i)

  -- The number falls, and the processor that is waited for is active.
  reason_falls : (i j : ℕ) → i < max_processors → j < max_processors → Reason f ph i j
      → (distance j < distance i) × (phase_in s j ≡ idle → ⊥)
  reason_falls i j li lj (entitled_read_law h k x) =
      let at_i : phase_in s i ≡ entitled = entitled_phase ph i r.clean.tidy li (and_left _ (not (is_writer f i)) h) in
      let at_j : phase_in s j ≡ holding = held_phase ph j (and_left _ (is_writer f j) k) in
      (omega (arith, entitled_at_one i at_i, holding_at_zero j at_j), is_active_law at_j tt)
  reason_falls i j li lj (waiting_read_law h k x) =
      let at_i : phase_in s i ≡ waiting = waiting_phase ph i r.clean.tidy li (and_left _ (not (is_writer f i)) h) in
      let at_j : phase_in s j ≡ entitled = entitled_phase ph j r.clean.tidy lj (and_left _ (is_writer f j) k) in
      (omega (arith, waiting_at i at_i, entitled_at_one j at_j), is_active_law at_j tt)
  reason_falls i j li lj (entitled_write_law h k x) =
      let at_i : phase_in s i ≡ entitled = entitled_phase ph i r.clean.tidy li (and_left _ (is_writer f i) h) in
      let at_j : phase_in s j ≡ holding = held_phase ph j (and_left _ (not (is_writer f j)) k) in
      (omega (arith, entitled_at_one i at_i, holding_at_zero j at_j), is_active_law at_j tt)
  reason_falls i j li lj (waiting_write_law h before a w x) =
      let at_i : phase_in s i ≡ waiting = waiting_phase ph i r.clean.tidy li (and_left _ (is_writer f i) h) in
      let ahead : Ahead R (phase_in s) i j =
      record { member = record { active = active_not_idle ph j a; write_is = w; group_is = refl }; before = before } in (
        omega (
          arith,
          waiting_at i at_i,
          distance_at_most j,
          ahead_has_lower_rank r.standing.ordered i j li lj (is_active_law at_i tt) ahead,
        ),
        active_not_idle ph j a,
      )

  -- The state is clean, so its own phases are those that count.
  pub waits_here : (i j : ℕ) → waits_for b s i j ≡ waits_in (facts_of b s) s.phases i j
  unfolding waits_for
  waits_here i j = ap (λ x. waits_in f x i j) (clean_phases b s r.clean)

  pub wait_falls : (i j : ℕ) → waits_for b s i j ≡ true → (distance j < distance i) × (phase_in s j ≡ idle → ⊥)
  wait_falls i j e =
      let l = waits_below b s i j e in
      reason_falls i j l.0 l.1 (waits_reason f ph i j (sym (waits_here i j) ∙ e))

  pub chain_falls : (i j : ℕ) → Chain b s i j → distance j < distance i
  chain_falls i j (direct e) = (wait_falls i j e).0
  chain_falls i j (through {r = k} e c) = omega (arith, (wait_falls i k e).0, chain_falls k j c)
