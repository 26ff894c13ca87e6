-- In a state that calls lead to, every unsatisfied request waits directly for another, and through a chain for a
-- holder: I4 to I7, and the number that falls along a wait. Assumes nothing.
use Prim.Native.Nat.{ℕ, zero, suc, ◌≤◌, ◌<◌}
use mathlib.Core.Path.{◌≡◌, refl, ap, ◌∙◌}
use mathlib.Core.Bool.{Bool, true, false, not}
use mathlib.Core.Logic.{◌⊎◌, inl, inr}
use native.Mathlib.Omega.{arith}
use Rattle.rules.specs.declared.states.Board.{Board}
use Rattle.rules.specs.declared.states.State.{State}
use Rattle.plans.specs.Entries.{max_processors}
use Rattle.rules.specs.declared.states.Phases.{Phases}
use Rattle.rules.specs.Requests.{Facts, is_writer}
use Rattle.rules.specs.Calls.{facts_of}
use Rattle.runs.specs.Claim.{every_entry}
use Rattle.runs.proofs.columns.Columns.{waiting, entitled, holding, Settled}
use Rattle.runs.proofs.columns.Phases.{Unsatisfied, unsatisfied_or_holding}
use Rattle.runs.proofs.refinement.State.{requests_of, Marks, not_idle_active, held_bit, marks_waiting}
use Rattle.runs.proofs.refinement.State.{marks_entitled}
use Rattle.runs.proofs.refinement.Clean.{phase_in}
use Rattle.queries.specs.Queries.{waits_for, Chain, direct, through}
use Rattle.masks.proofs.Truth.{and_both}
use Rattle.queries.proofs.Waits.{Reason, entitled_read_law, waiting_read_law, entitled_write_law, waiting_write_law, reason_waits}
use Rattle.queries.proofs.Waits.{waits_below}
use Rattle.runs.proofs.Reached.{Reached}
use Rattle.runs.proofs.Falling.{distance, waits_here, wait_falls}

module _ (b : Board) (s : State) (r : Reached b s) where
  abbrev f : Facts
  f = facts_of b s

  abbrev ph : Phases
  ph = s.phases

  waiting_mark : Marks ph ph.waiting waiting
  waiting_mark = marks_waiting ph r.clean.tidy

  entitled_mark : Marks ph ph.entitled entitled
  entitled_mark = marks_entitled ph r.clean.tidy

  settled : Settled max_processors (requests_of f every_entry) (phase_in s)
  settled = r.standing.settled

  abbrev Awaited : ℕ → Type 0
  Awaited i = (j : ℕ) × (waits_for b s i j ≡ true)

  because : (i j : ℕ) → Reason f ph i j → Awaited i
  because i j why = (j, waits_here b s r i j ∙ reason_waits f ph i j why)

  reads_only : (i : ℕ) → is_writer f i ≡ false → not (is_writer f i) ≡ true
  reads_only i e = ap not e

  -- I5 and I6.
  waiting_waits : (i : ℕ) → i < max_processors → phase_in s i ≡ waiting → (w : Bool) → is_writer f i ≡ w → Awaited i
  waiting_waits i l e true w =
      let (j, lj, wj, aj, before, x) = settled.i6 i l w e in
      because i j
      (waiting_write_law (and_both _ (is_writer f i) (waiting_mark.from i l e) w) before (not_idle_active ph j aj) wj x)
  waiting_waits i l e false w =
      let (j, lj, y) = settled.i5 i l w e in
      because i j
      (waiting_read_law (and_both _ (not (is_writer f i)) (waiting_mark.from i l e) (reads_only i w))
      (and_both _ (is_writer f j) (entitled_mark.from j lj y.phase_is) y.write_is)
      y.conflict)

  -- I7 and I4.
  entitled_waits : (i : ℕ) → i < max_processors → phase_in s i ≡ entitled → (w : Bool) → is_writer f i ≡ w → Awaited i
  entitled_waits i l e true w =
      let (j, lj, y) = settled.i7 i l w e in
      because i j
      (entitled_write_law (and_both _ (is_writer f i) (entitled_mark.from i l e) w)
      (and_both _ (not (is_writer f j)) (held_bit ph j y.phase_is) (reads_only j y.write_is))
      y.conflict)
  entitled_waits i l e false w =
      let (j, lj, y) = settled.i4 i l w e in
      because i j
      (entitled_read_law (and_both _ (not (is_writer f i)) (entitled_mark.from i l e) (reads_only i w))
      (and_both _ (is_writer f j) (held_bit ph j y.phase_is) y.write_is)
      y.conflict)

  unsatisfied_waits : (i : ℕ) → i < max_processors → Unsatisfied (phase_in s i) → Awaited i
  unsatisfied_waits i l (inl e) = waiting_waits i l e (is_writer f i) refl
  unsatisfied_waits i l (inr e) = entitled_waits i l e (is_writer f i) refl

  -- From every request that waits a chain leads to a holder. Recursion on a bound of the number that falls.
  pub reaches_holder : (n i : ℕ) → distance b s r i ≤ n → i < max_processors → Unsatisfied (phase_in s i)
      → (h : ℕ) × Chain b s i h × (phase_in s h ≡ holding) × (h < max_processors)
  reaches_holder zero i m l u =
      let (j, e) = unsatisfied_waits i l u in absurd (omega (arith, (wait_falls b s r i j e).0, m))
  reaches_holder (suc n) i m l u =
      let (j, e) = unsatisfied_waits i l u in
      let f = wait_falls b s r i j e in
      let lj = (waits_below b s i j e).1 in
      go j e lj (unsatisfied_or_holding (phase_in s j) f.1) (λ v. reaches_holder n j (omega (arith, f.0, m)) lj v)
    where
      go : (j : ℕ) → waits_for b s i j ≡ true → j < max_processors → Unsatisfied (phase_in s j) ⊎ (phase_in s j ≡ holding)
          → (Unsatisfied (phase_in s j) → (h : ℕ) × Chain b s j h × (phase_in s h ≡ holding) × (h < max_processors))
          → (h : ℕ) × Chain b s i h × (phase_in s h ≡ holding) × (h < max_processors)
      go j e lj (inl v) later = let t = later v in (t.0, through e t.1, t.2, t.3)
      go j e lj (inr k) later = (j, direct e, k, lj)
