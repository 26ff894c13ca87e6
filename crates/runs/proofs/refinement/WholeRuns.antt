-- Demand 3: every list of calls to the arbiter of every accepted plan, and the same for each closed group of entries.
-- Assumes nothing.
use Prim.Native.Nat.{ℕ, zero, suc, ◌+◌, ◌-◌, ◌*◌, ◌≤◌, zero-le}
use mathlib.Core.Path.{◌≡◌, refl, sym, ap, subst, ◌∙◌}
use mathlib.Core.Bool.{Bool, true, false, cond, not}
use mathlib.Core.List.{List, [], ◌∷◌}
use native.Mathlib.Omega.{arith}
use lib.ListN.{get_or}
use Rattle.plans.specs.declared.Entry.{Entry}
use Rattle.plans.specs.declared.Plan.{Plan}
use Rattle.plans.specs.Entries.{blank_entry, is_read, is_write, counted_entries, entry_at}
use Rattle.plans.specs.Acceptance.{plan_fault}
use Rattle.plans.specs.Figures.{longest, longest_read, longest_write}
use Rattle.conflicts.proofs.Accepted.{read_or_write}
use Rattle.rules.specs.declared.calls.Call.{Call}
use Rattle.runs.specs.Claim.{Closed, LengthsAtMost, every_entry, GroupRuns, WholeRuns}
use Rattle.runs.proofs.history.Whole.{whole_run}
use Rattle.runs.proofs.refinement.Arbiter.{plan_arbiter}

-- A group of entries that no entry outside it conflicts with: the waits depend only on the group's lengths and holders.
-- The figures may also be larger.
pub group_runs : (p : Plan) → plan_fault p ≡ 0 → (group : ℕ → Bool) → Closed p group → (Lr Lw : ℕ)
    → LengthsAtMost p group Lr Lw
    → {read write : ℕ} → Lr + Lw ≤ read → (p.processors - 1) * (Lr + Lw) ≤ write → (calls : List Call)
    → GroupRuns p group read write calls
group_runs p taken group closed Lr Lw bounded =
    whole_run p group Lr Lw taken (plan_arbiter p taken group closed Lr Lw bounded)

-- An entry that passes the test is no longer than the longest that does.
at_most_longest : (test : Entry → Bool) (es : List Entry) (i : ℕ) → test (get_or es i blank_entry) ≡ true
    → (get_or es i blank_entry).length ≤ longest test es
unfolding longest
at_most_longest test [] i h = zero-le
at_most_longest test (e ∷ later) zero h =
    let here : cond (test e) e.length 0 ≡ e.length = ap (λ t. cond t e.length 0) h in
    omega arith
at_most_longest test (e ∷ later) (suc i) h = omega (arith, at_most_longest test later i h)

-- The plan's two lengths bound those of all its entries.
pub every_length : (p : Plan) → plan_fault p ≡ 0 → LengthsAtMost p every_entry (longest_read p) (longest_write p)
every_length p taken i l g = go (is_write (entry_at p i)) refl
  where
    go : (w : Bool) → is_write (entry_at p i) ≡ w
        → (entry_at p i).length ≤ cond (is_write (entry_at p i)) (longest_write p) (longest_read p)
    go true w =
        subst (λ u. (entry_at p i).length ≤ cond u (longest_write p) (longest_read p)) (sym w)
        (at_most_longest is_write (counted_entries p) i w)
    go false w =
        subst (λ u. (entry_at p i).length ≤ cond u (longest_write p) (longest_read p)) (sym w)
        (at_most_longest is_read (counted_entries p) i (read_or_write p taken i ∙ ap not w))

-- Clauses 6.8 and 6.9, for every accepted plan and every list of calls.
pub whole_runs : (p : Plan) → plan_fault p ≡ 0 → (calls : List Call) → WholeRuns p calls
whole_runs p taken calls =
    group_runs p taken every_entry (λ i j g x. refl) (longest_read p) (longest_write p) (every_length p taken)
    (omega arith) (omega arith) calls
