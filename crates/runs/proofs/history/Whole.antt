-- Whole runs: every list of calls to the fresh arbiter of an accepted plan, given what is required of the arbiter at
-- each act. Assumes nothing.
use Prim.Native.Nat.{ℕ, ◌+◌, ◌-◌, ◌*◌, ◌≤◌}
use mathlib.Core.Path.{◌≡◌, sym, subst, ◌∙◌}
use mathlib.Core.Bool.{Bool, true, false, cond}
use mathlib.Core.List.{List}
use native.Mathlib.Nat.{le_trans}
use Rattle.plans.specs.declared.Plan.{Plan}
use Rattle.plans.specs.Entries.{max_entries, is_write, entry_at}
use Rattle.plans.specs.Acceptance.{plan_fault}
use Rattle.plans.proofs.Accepted.{accepted_count}
use Rattle.rules.specs.declared.calls.Call.{Call}
use Rattle.boards.specs.Fresh.{board_of, fresh_state}
use Rattle.runs.specs.History.{nothing, hold_of}
use Rattle.runs.specs.Claim.{history_of, request, KeepToLengths, WaitAtMost, GroupRuns}
use Rattle.runs.proofs.refinement.Board.{length_on_board, write_on_board, conflict_on_board}
use Rattle.runs.proofs.history.Arbiter.{length_on, bound_on, Arbiter}
use Rattle.runs.proofs.history.Keeps.{Keeps}
use Rattle.runs.proofs.history.Runs.{run, run_on_time, reached_fresh, on_time_fresh, reached_exclusive}

cond_grows : (w : Bool) (a a' b b' : ℕ) → a ≤ a' → b ≤ b' → cond w a b ≤ cond w a' b'
cond_grows true a a' b b' h k = h
cond_grows false a a' b b' h k = k

module _ (p : Plan) (group : ℕ → Bool) (Lr Lw : ℕ) (few : p.count ≤ max_entries) (read write : ℕ)
    (reads : Lr + Lw ≤ read)
    (writes : (p.processors - 1) * (Lr + Lw) ≤ write) where
  bound_on_board : (e : ℕ) → bound_on (board_of p) Lr Lw e ≤ cond (is_write (entry_at p e)) write read
  unfolding board_of
  bound_on_board e =
      subst (λ u. cond u ((p.processors - 1) * (Lr + Lw)) (Lr + Lw) ≤ cond (is_write (entry_at p e)) write read)
      (sym (write_on_board p few e)) (cond_grows (is_write (entry_at p e)) _ write _ read writes reads)

  all_wait : Arbiter (board_of p) group Lr Lw → (calls : List Call) → KeepToLengths p group (history_of p calls)
      → WaitAtMost p group read write (history_of p calls)
  unfolding history_of
  all_wait A calls keeps i l in_group =
      let on_board : Keeps (length_on (board_of p)) group (history_of p calls).last (history_of p calls) =
      λ i l g.
      subst (λ (n : ℕ). hold_of (history_of p calls).last (request (history_of p calls) i) ≤ n)
      (sym (length_on_board p few (request (history_of p calls) i).entry)) (keeps i l g) in
      le_trans
      (run_on_time (board_of p) group Lr Lw A calls fresh_state nothing (reached_fresh (board_of p) group Lr Lw A)
      (on_time_fresh (board_of p) group Lr Lw A) on_board i l in_group)
      (bound_on_board (request (history_of p calls) i).entry)

pub whole_run : (p : Plan) (group : ℕ → Bool) (Lr Lw : ℕ) {read write : ℕ} → plan_fault p ≡ 0
    → Arbiter (board_of p) group Lr Lw
    → Lr + Lw ≤ read → (p.processors - 1) * (Lr + Lw) ≤ write → (calls : List Call)
    → GroupRuns p group read write calls
unfolding history_of
whole_run p group Lr Lw {read} {write} ok A reads writes calls =
    let few : p.count ≤ max_entries = accepted_count p ok in
    record {
      exclusive = λ i j li lj different hi hj.
          let end = run (board_of p) group Lr Lw A calls fresh_state nothing (reached_fresh (board_of p) group Lr Lw A) in
          sym (conflict_on_board p few _ _)
          ∙ reached_exclusive (board_of p) group Lr Lw A end.0 _ end.1 i j li lj different hi hj;
      waits = all_wait p group Lr Lw few read write reads writes A calls;
    }
