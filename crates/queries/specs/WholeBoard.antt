-- The whole board in one buffer: a list of what the single queries answer. Specification, section 7.
use Rattle.std.specs.Prelude.{ℕ, List}
use Rattle.masks.specs.Sets.{mask_of}
use Rattle.refusals.specs.Due.{AsNumbers, as_numbers}
use Rattle.plans.specs.Entries.{max_processors}
use Rattle.rules.specs.declared.states.Board.{Board}
use Rattle.rules.specs.declared.states.State.{State}
use Rattle.rules.specs.Calls.{phases_of}
use Rattle.board_list.specs.Fields.{entry_shown, waited_in}
use Rattle.board_list.specs.Sizes.{listed_of, list_size}
use Rattle.board_list.specs.Parts.{part_bytes}
use Rattle.board_list.specs.Listing.{list_bytes, list_fault, list_buffer}
use Rattle.queries.specs.Queries.{state_number, waits_for, mask_size_of}

-- Clauses 7.7 and 4.10: how many processors are listed.
abbrev pub listed : Board → ℕ
listed b = listed_of b.terms.processors

-- Clauses 7.7 and 7.8: the part of processor p. Its state and its direct waits are those of the single queries.
unfoldable pub board_part : Board → State → ℕ → List ℕ
board_part b s p =
    part_bytes (mask_size_of b) (state_number b s p) (entry_shown (phases_of b s) s.requested p)
    (waited_in (phases_of b s) s.last s.since p)
    (mask_of max_processors (waits_for b s p))

-- Clause 7.7: the list.
abbrev pub board_bytes : Board → State → List ℕ
board_bytes b s = list_bytes (listed b) (board_part b s)

-- Clause 7.9: 16 for a buffer that is too short; nothing else is refused.
abbrev pub board_fault : Board → List ℕ → ℕ
board_fault b buffer = list_fault (mask_size_of b) (listed b) buffer

-- Clause 7.9: how many bytes the list takes.
abbrev pub board_query : Board → List ℕ → AsNumbers
board_query b buffer = as_numbers (board_fault b buffer) (list_size (mask_size_of b) (listed b))

-- Clause 7.9: the buffer after the query. Bytes after the list stay, and after a refusal all bytes do.
abbrev pub board_buffer : Board → State → List ℕ → List ℕ
board_buffer b s buffer = list_buffer (mask_size_of b) (listed b) (board_part b s) buffer
