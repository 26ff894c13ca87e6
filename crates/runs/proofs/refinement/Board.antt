-- The board of an accepted plan, entry by entry: kinds, lengths and conflict are the plan's. On it conflict is lawful:
-- symmetric, bridged by reads, and closed in a closed group; two reads never conflict; lengths are bounded as the
-- plan's are, and active processors are the plan's. Assumes nothing.
use Prim.Native.Nat.{ℕ, ◌≤◌, ◌<◌}
use mathlib.Core.Path.{◌≡◌, sym, ap, ap₂, ◌∙◌, subst}
use mathlib.Core.Bool.{◌&&◌, false, and-false, Bool, true, cond, not}
use native.Mathlib.Nat.{le_trans}
use native.Mathlib.Omega.{arith}
use lib.Dec.{ltb}
use lib.ListN.{get_or, length-take, get_or-eq_default}
use borrow.Author.Tests.{lt-ltb, le-ltb}
use Rattle.masks.specs.Sets.{bit, mask_of}
use Rattle.masks.proofs.Truth.{never_true}
use Rattle.masks.proofs.Places.{bit_zero, bit_past}
use Rattle.masks.proofs.Masks.{bit_mask}
use Rattle.plans.specs.declared.Plan.{Plan}
use Rattle.plans.specs.Entries.{max_entries, blank_entry, is_write, counted_entries, entry_at, max_processors, is_read}
use Rattle.plans.specs.Acceptance.{plan_fault}
use Rattle.plans.proofs.Accepted.{accepted_count}
use Rattle.conflicts.specs.Conflict.{conflicts_of, in_conflict}
use Rattle.masks.proofs.Tabulate.{get_d_tabulate, get_d_tabulate_past}
use Rattle.conflicts.proofs.Bridge.{both_counted, conflict_symmetric, reads_never_conflict, read_bridges_writes}
use Rattle.conflicts.proofs.Rows.{bit_row, row_below}
use Rattle.conflicts.proofs.Accepted.{read_or_write}
use Rattle.rules.specs.Requests.{is_writer, conflicts}
use Rattle.boards.specs.Fresh.{board_of}
use Rattle.rules.specs.declared.states.Board.{Board}
use Rattle.rules.specs.declared.states.State.{State}
use Rattle.rules.specs.Calls.{facts_of}
use Rattle.runs.proofs.history.Cases.{below_or_past}
use Rattle.runs.specs.Claim.{Closed, LengthsAtMost}
use Rattle.runs.proofs.history.Arbiter.{length_on, Kept}
use Rattle.runs.proofs.columns.Columns.{idle, Lawful}
use Rattle.runs.proofs.columns.Lengths.{Prompt}
use Rattle.runs.proofs.columns.Rank.{Below}
use Rattle.runs.proofs.refinement.State.{requests_of}
use Rattle.runs.proofs.refinement.Clean.{phase_in, entry_for, since_in, Clean}

module _ (p : Plan) (few : p.count ≤ max_entries) where
  -- Past the count there is no entry.
  entry_past : (i : ℕ) → p.count ≤ i → entry_at p i ≡ blank_entry
  entry_past i l =
      get_or-eq_default (counted_entries p) blank_entry (omega (arith, length-take p.count p.entries))

  pub length_on_board : (e : ℕ) → get_or (board_of p).lengths e 0 ≡ (entry_at p e).length
  unfolding board_of
  length_on_board e =
      below_or_past e max_entries (λ l. get_d_tabulate max_entries (λ i. (entry_at p i).length) e 0 l)
      (λ l.
      get_d_tabulate_past max_entries (λ i. (entry_at p i).length) e 0 l
      ∙ sym (ap (λ x. x.length) (entry_past e (le_trans few l))))

  pub write_on_board : (e : ℕ) → bit (board_of p).terms.writes e ≡ is_write (entry_at p e)
  unfolding board_of
  write_on_board e =
      bit_mask max_entries (λ i. ltb i p.count && is_write (entry_at p i)) e
      ∙ below_or_past e p.count
      (λ l. ap₂ (λ t u. t && (u && is_write (entry_at p e))) (lt-ltb e max_entries (le_trans l few))
      (lt-ltb e p.count l))
      (λ l.
      ap (λ u. ltb e max_entries && (u && is_write (entry_at p e))) (le-ltb e p.count l)
      ∙ and-false (ltb e max_entries)
      ∙ sym (ap is_write (entry_past e l)))

  -- Past the last entry nothing conflicts.
  none_past : (e f : ℕ) → (e < max_entries → f < max_entries → ⊥) → in_conflict p e f ≡ false
  none_past e f past =
      never_true (in_conflict p e f)
      (λ x. let both = both_counted p e f x in past (le_trans both.0 few) (le_trans both.1 few))

  pub conflict_on_board : (e f : ℕ) → bit (get_or (board_of p).rows e 0) f ≡ in_conflict p e f
  unfolding board_of conflicts_of
  conflict_on_board e f =
      below_or_past e max_entries
      (λ l.
      below_or_past f max_entries (λ m. bit_row p e f l m)
      (λ m. bit_past max_entries _ f (row_below p e) m ∙ sym (none_past e f (λ k n. omega arith))))
      (λ l.
      ap (λ (row : ℕ). bit row f) (get_d_tabulate_past max_entries (λ i. mask_of max_entries (in_conflict p i)) e 0 l)
      ∙ bit_zero f
      ∙ sym (none_past e f (λ k n. omega arith)))

module _ (p : Plan) (taken : plan_fault p ≡ 0) (s : State) where
  abbrev b : Board
  b = board_of p

  few : p.count ≤ max_entries
  few = accepted_count p taken

  plan_conflict : (i j : ℕ) → conflicts (facts_of b s) i j ≡ in_conflict p (entry_for s i) (entry_for s j)
  plan_conflict i j = conflict_on_board p few (entry_for s i) (entry_for s j)

  plan_write : (i : ℕ) → is_writer (facts_of b s) i ≡ is_write (entry_at p (entry_for s i))
  plan_write i = write_on_board p few (entry_for s i)

  plan_read_law : (i : ℕ) → is_writer (facts_of b s) i ≡ false → is_read (entry_at p (entry_for s i)) ≡ true
  plan_read_law i h = read_or_write p taken (entry_for s i) ∙ ap not (sym (plan_write i) ∙ h)

  pub reads_apart : (i j : ℕ) → is_writer (facts_of (board_of p) s) i ≡ false → is_writer (facts_of (board_of p) s) j ≡ false
      → conflicts (facts_of (board_of p) s) i j ≡ false
  reads_apart i j hi hj =
      plan_conflict i j ∙ reads_never_conflict p (entry_for s i) (entry_for s j) (plan_read_law i hi) (plan_read_law j hj)

  -- What is required of conflict holds whichever requests are active.
  pub lawful : (G : ℕ → Bool) → Closed p G → Lawful max_processors (requests_of (facts_of (board_of p) s) G) (phase_in s)
  lawful G closed =
      record {
        symmetric = λ i j hi hj x.
            plan_conflict j i ∙ conflict_symmetric p (entry_for s j) (entry_for s i) ∙ sym (plan_conflict i j) ∙ x;
        bridge = λ r w v hr hw hv d ar aw av read ww wv x y.
            plan_conflict w v
            ∙ read_bridges_writes p (entry_for s r) (entry_for s w) (entry_for s v) (plan_read_law r read)
            (sym (plan_write w) ∙ ww)
            (sym (plan_write v) ∙ wv) (sym (plan_conflict r w) ∙ x) (sym (plan_conflict r v) ∙ y);
        closed = λ i j hi hj x g. closed (entry_for s i) (entry_for s j) g (sym (plan_conflict i j) ∙ x);
      }

  module _ (c : Clean (board_of p) s) where
    pub active_below : Below max_processors (board_of p).terms.processors (phase_in s)
    active_below i l a = (c.in_plan_law i l a).0

    module _ (G : ℕ → Bool) (Lr Lw : ℕ) (bounded : LengthsAtMost p G Lr Lw) where
      -- The length of an active request of the group.
      length_at_most : (i : ℕ) (write : Bool) → i < max_processors → G (entry_for s i) ≡ true → (phase_in s i ≡ idle → ⊥)
          → is_writer (facts_of b s) i ≡ write → length_on b (entry_for s i) ≤ cond write Lw Lr
      unfolding board_of
      length_at_most i write l g a w =
          subst (λ u. length_on b (entry_for s i) ≤ cond u Lw Lr) (sym (plan_write i) ∙ w)
          (subst (λ (n : ℕ). n ≤ cond (is_write (entry_at p (entry_for s i))) Lw Lr)
          (sym (length_on_board p few (entry_for s i)))
          (bounded (entry_for s i) (c.in_plan_law i l a).1 g))

      -- Holders that keep to their lengths up to tick t, in columns.
      pub prompt : (t : ℕ) → Kept (board_of p) G s t
          → Prompt max_processors t Lr Lw (requests_of (facts_of (board_of p) s) G) (phase_in s) (since_in s)
          (λ i. length_on (board_of p) (entry_for s i))
      prompt t kept =
          record {
            kept = λ i l g k. kept i l k g;
            lengths =
                record {
                  of_reads = λ i l g a w. length_at_most i false l g a w;
                  of_writes = λ i l g a w. length_at_most i true l g a w;
                };
          }
