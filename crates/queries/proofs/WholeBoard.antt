-- The whole board: each processor's part is what the single queries answer for it, and the code makes these parts.
-- Assumes nothing.
use Prim.Native.Nat.{ℕ, suc, ◌+◌, ◌*◌, ◌<◌}
use mathlib.Core.Path.{◌≡◌, ap, ◌∙◌}
use mathlib.Core.List.{List}
use native.Mathlib.Omega.{arith}
use lib.ListN.{take, drop, get_or}
use borrow.Author.Tests.{lt-ltb}
use Rattle.masks.specs.Sets.{mask_of}
use Rattle.plans.specs.Entries.{max_processors}
use Rattle.masks.proofs.Tabulate.{get_d_tabulate}
use Rattle.rules.specs.declared.states.Phases.{Phases}
use Rattle.rules.specs.declared.states.Board.{Board}
use Rattle.rules.specs.declared.states.State.{State}
use Rattle.rules.specs.Faults.{processor_fault}
use Rattle.rules.specs.Calls.{phases_of}
use Rattle.board_list.specs.Fields.{entry_shown, waited_in}
use Rattle.board_list.specs.Sizes.{part_size}
use Rattle.board_list.specs.Parts.{part_bytes}
use Rattle.board_list.proofs.Parts.{length_part}
use Rattle.board_list.specs.Listing.{part_in, list_bytes, list_buffer}
use Rattle.encoding.proofs.InTurn.{part_at}
use Rattle.board_list.proofs.Stores.{list_agree}
use Rattle.queries.specs.Queries.{state_number, phase_query, waits_for, waits_query, mask_size_of}
use Rattle.queries.specs.WholeBoard.{listed, board_part, board_bytes, board_buffer}
use Rattle.queries.specs.inner.Rows.{direct_rows}

module _ (b : Board) (s : State) where
  abbrev k : ℕ
  k = mask_size_of b

  -- The part of p comes after the count and the parts of the processors before p.
  pub part_in_list : (p : ℕ) → p < listed b
      → take (part_size k) (drop (1 + part_size k * p) (board_bytes b s)) ≡ board_part b s p
  unfolding board_part list_bytes
  part_in_list p l =
      let place : 1 + part_size k * p ≡ suc (part_size k * p) = omega arith in
      rw place (part_at (part_size k) (board_part b s) (λ q. length_part k _ _ _ _) (listed b) p l)

  listed_counted : (p : ℕ) → p < listed b → processor_fault b.terms p ≡ 0
  listed_counted p l =
      let slot : p < max_processors = omega arith in
      let plans : p < b.terms.processors = omega arith in
      rw (lt-ltb p max_processors slot, lt-ltb p b.terms.processors plans)

  -- For a processor that is listed, the single queries refuse nothing, and its part contains their answers.
  pub part_is_queries : (p : ℕ) → p < listed b
      → ((phase_query b s p).number ≡ 0) × ((waits_query b s p).number ≡ 0)
      × (take (part_size k) (drop (1 + part_size k * p) (board_bytes b s))
      ≡ part_bytes k (phase_query b s p).value (entry_shown (phases_of b s) s.requested p)
      (waited_in (phases_of b s) s.last s.since p)
      (waits_query b s p).value)
  unfolding board_part
  part_is_queries p l =
      let none = listed_counted p l in
      (none, none, rw none (part_in_list p l))

  -- The parts as the code makes them, from the phases that count and the direct waits of all processors.
  module _ (ph : Phases) (waits : List ℕ) (counted : ph ≡ phases_of b s) (direct : waits ≡ direct_rows b s) where
    part_found : (p : ℕ) → p < listed b → part_in k ph s.last s.requested s.since waits p ≡ board_part b s p
    unfolding part_in board_part state_number
    part_found p l =
        let mask : get_or waits p 0 ≡ mask_of max_processors (waits_for b s p) =
        ap (λ ws. get_or ws p 0) direct ∙ get_d_tabulate max_processors (λ q. mask_of max_processors (waits_for b s q)) p 0
        (omega arith) in
        rw (mask, counted)

    pub board_found : (buffer : List ℕ)
        → list_buffer k (listed b) (part_in k ph s.last s.requested s.since waits) buffer
        ≡ board_buffer b s buffer
    board_found buffer = list_agree k (listed b) _ _ buffer part_found
