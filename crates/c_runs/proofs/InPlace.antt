-- A query on the lent parts of a board and a state is the query on the board and the state: none reads any other part.
-- Assumes nothing.
use Prim.Native.Nat.{ℕ, zero, suc}
use mathlib.Core.Path.{◌≡◌, refl, ap, fun_ext}
use mathlib.Core.Bool.{Bool, ◌&&◌, ◌||◌}
use mathlib.Core.List.{List, []}
use Rattle.masks.specs.Sets.{some, mask_of}
use Rattle.refusals.specs.Due.{as_numbers}
use Rattle.encoding.specs.Buffers.{buffer_after}
use Rattle.plans.specs.Entries.{max_processors}
use Rattle.rules.specs.declared.states.Board.{Board}
use Rattle.rules.specs.declared.states.State.{State}
use Rattle.rules.specs.InPlace.{board_by, state_by}
use Rattle.queries.specs.Words.{word_count, words_of}
use Rattle.queries.specs.Parts.{board_with, state_with}
use Rattle.queries.specs.Queries.{state_number, phase_query, waits_for, waits_query, chained, reaches, mask_size_of}
use Rattle.queries.specs.Queries.{reach_bytes, reach_fault, reach_query, reach_scratch}
use Rattle.queries.specs.WholeBoard.{board_part, board_query, board_buffer}

module _ (b : Board) (s : State) where
  pub phase_in_place : (p : ℕ)
      → phase_query (board_with b.terms []) (state_with s.requested [] s.phases) p ≡ phase_query b s p
  unfolding state_number
  phase_in_place p = refl

  -- What direct waits and reach are lent.
  abbrev board_lent : Board
  board_lent = board_with b.terms b.rows

  abbrev state_lent : State
  state_lent = state_with s.requested s.earlier s.phases

  pub waits_in_place : (p : ℕ) → waits_query board_lent state_lent p ≡ waits_query b s p
  unfolding waits_for
  waits_in_place p = refl

  same_chains : (n p q : ℕ) → chained board_lent state_lent n p q ≡ chained b s n p q
  unfolding chained waits_for
  same_chains zero p q = refl
  same_chains (suc n) p q =
      ap (λ (f : ℕ → Bool). waits_for b s p q || some max_processors (λ r. waits_for b s p r && f r))
      (fun_ext (λ r. same_chains n r q))

  same_reach : (p : ℕ) → mask_of max_processors (reaches board_lent state_lent p) ≡ mask_of max_processors (reaches b s p)
  unfolding reaches
  same_reach p = ap (mask_of max_processors) (fun_ext (same_chains max_processors p))

  same_rows : reach_bytes board_lent state_lent ≡ reach_bytes b s
  unfolding reach_bytes
  same_rows = ap (words_of (mask_size_of b) (word_count (mask_size_of b))) (fun_ext same_reach)

  pub reach_in_place : (p : ℕ) (scratch : List ℕ)
      → reach_query board_lent state_lent p scratch ≡ reach_query b s p scratch
  unfolding reach_fault
  reach_in_place p scratch = ap (as_numbers (reach_fault b p scratch)) (same_reach p)

  pub scratch_in_place : (p : ℕ) (scratch : List ℕ)
      → reach_scratch board_lent state_lent p scratch ≡ reach_scratch b s p scratch
  unfolding reach_fault reach_scratch
  scratch_in_place p scratch = ap (λ bytes. buffer_after (reach_fault b p scratch) bytes scratch 0) same_rows

  pub list_in_place : (buffer : List ℕ)
      → board_query (board_by b.terms b.rows []) buffer ≡ board_query b buffer
  list_in_place buffer = refl

  pub listed_in_place : (buffer : List ℕ)
      → board_buffer (board_by b.terms b.rows [])
      (state_by (record { last = s.last; phases = s.phases }) s.requested s.since s.earlier) buffer
      ≡ board_buffer b s buffer
  unfolding state_number waits_for board_part
  listed_in_place buffer = refl
