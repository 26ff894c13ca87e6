-- What the query about two entries answers on the board of an accepted plan: what these entries of the plan share, with
-- a conflict exactly if the board's rows contain one. A write shares its widened set with itself. Assumes nothing.
use Prim.Native.Nat.{ℕ, ◌<◌, ◌≤◌}
use mathlib.Core.Path.{◌≡◌, sym, ap, ap₂, ◌∙◌}
use mathlib.Core.Bool.{true, cond, not, ◌&&◌}
use native.Mathlib.Nat.{le_trans}
use lib.Bits as bits
use lib.Bits.{bit_and}
use lib.Dec.{eqb, ltb}
use lib.ListN.{get_or}
use borrow.Author.Tests.{lt-ltb}
use Rattle.masks.specs.Sets.{bit}
use Rattle.plans.specs.declared.Plan.{Plan}
use Rattle.plans.specs.Entries.{max_entries, is_write, counted_entries, entry_at}
use Rattle.plans.specs.Acceptance.{plan_fault}
use Rattle.plans.proofs.Accepted.{accepted_count}
use Rattle.conflicts.specs.Sharing.{over}
use Rattle.conflicts.proofs.Over.{over_is}
use Rattle.conflicts.specs.Widening.{widened_set}
use Rattle.conflicts.specs.Conflict.{shared, conflict, in_conflict, conflicts_of}
use Rattle.conflicts.proofs.Accepted.{read_or_write}
use Rattle.masks.proofs.Tabulate.{get_d_tabulate}
use Rattle.conflicts.proofs.WidenedSets.{widened_at_law}
use Rattle.boards.specs.Fresh.{board_of}
use Rattle.runs.proofs.refinement.Board.{write_on_board, conflict_on_board}
use Rattle.queries.specs.Contention.{shared_in, SharedSaid, shared_of, shared_query}

counted_on_board : (p : Plan) (k : ℕ) → k < p.count → ltb k (board_of p).terms.count ≡ true
unfolding board_of
counted_on_board p k l = lt-ltb k p.count l

module _ (p : Plan) (taken : plan_fault p ≡ 0) (i j : ℕ) (li : i < p.count) (lj : j < p.count) where
  abbrev few : p.count ≤ max_entries
  few = accepted_count p taken

  names_on_board : (k : ℕ) → k < p.count → get_or (board_of p).names k 0 ≡ (entry_at p k).set
  unfolding board_of conflicts_of
  names_on_board k l = get_d_tabulate max_entries (λ i. (entry_at p i).set) k 0 (le_trans l few)

  widened_on_board : (k : ℕ) → k < p.count → get_or (board_of p).widened k 0
      ≡ widened_set (counted_entries p) (entry_at p k)
  unfolding board_of
  widened_on_board k l =
      widened_at_law p k (le_trans l few) ∙ ap (λ t. cond t (widened_set (counted_entries p) (entry_at p k)) 0)
      (lt-ltb k p.count l)

  -- What the two entries of the board share is what those of the plan share.
  pub shared_on_board : shared_in (board_of p).terms.writes (board_of p).names (board_of p).widened i j
      ≡ shared (counted_entries p) (entry_at p i) (entry_at p j)
  unfolding shared
  shared_on_board =
      rw (
        write_on_board p few i,
        write_on_board p few j,
        ← read_or_write p taken i,
        ← read_or_write p taken j,
        names_on_board i li,
        names_on_board j lj,
        widened_on_board i li,
        widened_on_board j lj,
      )

  -- The query returns this, and refuses none of a plan's own entries.
  pub query_on_board : shared_query (board_of p) i j
      ≡ record { number = 0; conflict = over (shared (counted_entries p) (entry_at p i) (entry_at p j)) }
  unfolding shared_of
  query_on_board = rw (count_on_board i li, count_on_board j lj, shared_on_board)
    where
      count_on_board : (k : ℕ) → k < p.count → ltb k (board_of p).terms.count ≡ true
      count_on_board k l = counted_on_board p k l

  -- A row's bit is set exactly if the answer is a conflict.
  pub row_is_answer : bit (get_or (board_of p).rows i 0) j ≡ eqb (shared_query (board_of p) i j).conflict.number 1
  unfolding in_conflict conflict
  row_is_answer =
      conflict_on_board p few i j
      ∙ ap₂ (λ t u. t && u && not (eqb (shared (counted_entries p) (entry_at p i) (entry_at p j)) 0))
      (lt-ltb i p.count li) (lt-ltb j p.count lj)
      ∙ sym (ap (λ (s : SharedSaid). eqb s.conflict.number 1) query_on_board ∙ over_is _)

-- A write with itself: what it shares is its widened set.
pub write_with_itself : (p : Plan) (i : ℕ) → is_write (entry_at p i) ≡ true
    → shared (counted_entries p) (entry_at p i) (entry_at p i) ≡ widened_set (counted_entries p) (entry_at p i)
unfolding shared
write_with_itself p i w = rw (w, bits.and_self (widened_set (counted_entries p) (entry_at p i)))
