-- What whole runs require of the arbiter, one act at a time. This file only defines; refinement/Arbiter.antt shows an
-- arbiter that meets these definitions. Assumes nothing.
use Prim.Native.Nat.{ℕ, ◌+◌, ◌-◌, ◌*◌, ◌<◌}
use mathlib.Core.Path.{◌≡◌}
use mathlib.Core.Bool.{Bool, false, cond}
use lib.ListN.{get_or}
use Rattle.masks.specs.Sets.{bit}
use Rattle.plans.specs.Entries.{max_processors}
use Rattle.rules.specs.Requests.{conflicts}
use Rattle.rules.specs.declared.states.Board.{Board}
use Rattle.rules.specs.declared.states.State.{State}
use Rattle.rules.specs.Calls.{facts_of}
use Rattle.boards.specs.Fresh.{fresh_state}
use Rattle.runs.specs.History.{Act}
use Rattle.runs.proofs.history.Keeps.{KeptTo, WaitsTo}
use Rattle.runs.proofs.columns.Columns.{holding}
use Rattle.runs.proofs.refinement.Clean.{phase_in, Clean}
use Rattle.runs.proofs.refinement.Acts.{state_after_act, Allowed}

-- The lengths and the bounds of entries, on a board.
abbrev pub length_on : Board → ℕ → ℕ
length_on b e = get_or b.lengths e 0

abbrev pub bound_on : Board → ℕ → ℕ → ℕ → ℕ
bound_on b Lr Lw e = cond (bit b.terms.writes e) ((b.terms.processors - 1) * (Lr + Lw)) (Lr + Lw)

-- Each holder of the group keeps to its length up to tick t.
abbrev pub Kept : Board → (ℕ → Bool) → State → ℕ → Type 0
Kept b group s t = KeptTo (length_on b) group s t

-- `Safe` is true of every state that calls lead to, and `Timed` as long as each holder of the group keeps to its
-- length.
pub record Arbiter (b : Board) (group : ℕ → Bool) (Lr Lw : ℕ) : Type 1 where
  pub Safe : State → Type 0
  pub Timed : State → Type 0
  pub safe_fresh : Safe fresh_state
  pub timed_fresh : Timed fresh_state
  pub safe_act : (s : State) (t : ℕ) (a : Act) → Clean b s → Safe s → Allowed b s t a → Safe (state_after_act b s t a)
  pub timed_act : (s : State) (t : ℕ) (a : Act) → Clean b s → Safe s → Timed s → Kept b group s t → Allowed b s t a
      → Timed (state_after_act b s t a)
  pub exclusive : (s : State) (p q : ℕ) → Clean b s → Safe s → p < max_processors → q < max_processors → (p ≡ q → ⊥)
      → phase_in s p ≡ holding
      → phase_in s q ≡ holding → conflicts (facts_of b s) p q ≡ false
  pub bounded : (s : State) (t : ℕ) → Clean b s → Safe s → Timed s → Kept b group s t
      → WaitsTo (bound_on b Lr Lw) group s t
