-- The arbiter of an accepted plan meets what whole runs require, for every closed group of entries: I1 to I7 and the
-- order of calls hold after each act, and T1, T2, W1 and W2 as long as the group's holders keep to their lengths.
-- Assumes nothing.
use Prim.Native.Nat.{ℕ, ◌+◌, ◌-◌, ◌*◌, ◌<◌, ◌≤◌}
use mathlib.Core.Path.{◌≡◌, refl, sym, subst}
use mathlib.Core.Bool.{Bool, true, false, cond}
use native.Mathlib.Nat.{le_trans}
use Rattle.plans.specs.declared.Plan.{Plan}
use Rattle.plans.specs.Entries.{max_processors}
use Rattle.plans.specs.Acceptance.{plan_fault}
use Rattle.rules.specs.Requests.{is_writer}
use Rattle.rules.specs.declared.states.Board.{Board}
use Rattle.rules.specs.declared.states.State.{State}
use Rattle.rules.specs.Calls.{facts_of}
use Rattle.boards.specs.Fresh.{board_of, fresh_state}
use Rattle.runs.specs.History.{Act}
use Rattle.runs.specs.Claim.{Closed, LengthsAtMost}
use Rattle.runs.proofs.history.Keeps.{WaitsTo}
use Rattle.runs.proofs.history.Arbiter.{bound_on, Kept, Arbiter}
use Rattle.runs.proofs.columns.Columns.{idle}
use Rattle.runs.proofs.columns.Order.{ordered_fresh, called_keeps_order}
use Rattle.runs.proofs.columns.Safe.{settled_fresh, called_keeps_settled}
use Rattle.runs.proofs.columns.Exclusive.{exclusive}
use Rattle.runs.proofs.columns.ReadWait.{ReadTimed, read_timed_fresh, read_wait_bounded, called_keeps_read_timed}
use Rattle.runs.proofs.columns.WriteWait.{WriteTimed, write_timed_fresh, Standing, write_wait_bounded}
use Rattle.runs.proofs.columns.WriteWait.{called_keeps_write_timed}
use Rattle.runs.proofs.refinement.State.{requests_of}
use Rattle.runs.proofs.refinement.Clean.{phase_in, entry_for, since_in, Clean, fresh_idle}
use Rattle.runs.proofs.refinement.Acts.{state_after_act, Allowed, act_done}
use Rattle.runs.proofs.refinement.Call.{CallOf, act_called}
use Rattle.runs.proofs.refinement.Board.{reads_apart, lawful, active_below, prompt}

-- I1 to I7, the order of calls, and lawful conflict.
abbrev pub Safe : Board → (ℕ → Bool) → State → Type 0
Safe b G s = Standing max_processors (requests_of (facts_of b s) G) (phase_in s)

-- T1 and T2, W1 and W2.
record Timed (b : Board) (G : ℕ → Bool) (Lr Lw : ℕ) (s : State) : Type 0 where
  pub reads : ReadTimed max_processors Lr (requests_of (facts_of b s) G) (phase_in s) (since_in s)
  pub writes : WriteTimed max_processors b.terms.processors Lr Lw (requests_of (facts_of b s) G) (phase_in s)
      (since_in s)

timed_fresh : (b : Board) (G : ℕ → Bool) (Lr Lw : ℕ) → Timed b G Lr Lw fresh_state
timed_fresh b G Lr Lw =
    record { reads = read_timed_fresh (λ i l. fresh_idle i); writes = write_timed_fresh (λ i l. fresh_idle i) }

module _ (p : Plan) (taken : plan_fault p ≡ 0) (G : ℕ → Bool) (closed : Closed p G) where
  abbrev b : Board
  b = board_of p

  pub safe_fresh : Safe (board_of p) G fresh_state
  safe_fresh =
      record {
        settled = settled_fresh (λ i l. fresh_idle i);
        ordered = ordered_fresh (λ i l. fresh_idle i);
        lawful = lawful p taken fresh_state G closed;
      }

  safe_called : (s s' : State) (t : ℕ) → Safe b G s → CallOf b G s t s' → Safe b G s'
  safe_called s s' t safe c =
      let law = lawful p taken s' G closed in
      record {
        settled = called_keeps_settled safe.settled safe.ordered law c;
        ordered = called_keeps_order safe.ordered c;
        lawful = law;
      }

  pub safe_act : (s : State) (t : ℕ) (a : Act) → Clean (board_of p) s → Safe (board_of p) G s → Allowed (board_of p) s t a
      → Safe (board_of p) G (state_after_act (board_of p) s t a)
  safe_act s t a clean safe k = safe_called s (state_after_act b s t a) t safe (act_called b G s t clean a k)

  module _ (Lr Lw : ℕ) (bounded : LengthsAtMost p G Lr Lw) where
    timed_called : (s s' : State) (t : ℕ) → Clean b s → Clean b s' → s.last ≤ t → Safe b G s → Timed b G Lr Lw s
        → Kept b G s t
        → CallOf b G s t s' → Timed b G Lr Lw s'
    timed_called s s' t clean clean' in_time safe timed kept c =
        let safe' : Safe b G s' = safe_called s s' t safe c in
        let past : (i : ℕ) → i < max_processors → (phase_in s i ≡ idle → ⊥) → since_in s i ≤ t =
        λ i l a. le_trans (clean.dated i l a) in_time in
        let keeps = prompt p taken s clean G Lr Lw bounded t kept in
        record {
          reads =
              called_keeps_read_timed c
              (record {
                settled = safe.settled;
                ordered = safe.ordered;
                lawful = safe.lawful;
                settled' = safe'.settled;
                ordered' = safe'.ordered;
                lawful' = safe'.lawful;
                timed = timed.reads;
                past = past;
                prompt = keeps;
              });
          writes = called_keeps_write_timed c safe safe' (active_below p taken s' clean') past keeps timed.writes;
        }

    bounded_at : (s : State) (t : ℕ) → Clean b s → Safe b G s → Timed b G Lr Lw s → Kept b G s t
        → WaitsTo (bound_on b Lr Lw) G s t
    bounded_at s t clean safe timed kept q l unsat g = go (is_writer (facts_of b s) q) refl
      where
        go : (w : Bool) → is_writer (facts_of b s) q ≡ w → t ≤ since_in s q + bound_on b Lr Lw (entry_for s q)
        go true w =
            subst (λ u. t ≤ since_in s q + cond u ((b.terms.processors - 1) * (Lr + Lw)) (Lr + Lw)) (sym w)
            (write_wait_bounded safe (prompt p taken s clean G Lr Lw bounded t kept) timed.writes q
            (record { below = l; group_is = g; write_is = w; unsatisfied = unsat }))
        go false w =
            subst (λ u. t ≤ since_in s q + cond u ((b.terms.processors - 1) * (Lr + Lw)) (Lr + Lw)) (sym w)
            (read_wait_bounded safe.settled safe.lawful timed.reads
            (prompt p taken s clean G Lr Lw bounded t kept) q l g w unsat)

    pub plan_arbiter : Arbiter (board_of p) G Lr Lw
    plan_arbiter =
        record {
          Safe = Safe b G;
          Timed = Timed b G Lr Lw;
          safe_fresh = safe_fresh;
          timed_fresh = timed_fresh b G Lr Lw;
          safe_act = safe_act;
          timed_act = λ s t a clean safe timed kept k.
              timed_called s (state_after_act b s t a) t clean (act_done b s t a clean k).clean
              k.in_time safe timed kept
              (act_called b G s t clean a k);
          exclusive = λ s i j clean safe li lj d hi hj.
              exclusive safe.settled safe.ordered safe.lawful
              (λ i j li lj. reads_apart p taken s i j) i j li lj d hi hj;
          bounded = bounded_at;
        }
