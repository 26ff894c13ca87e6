-- The state of a processor, its direct waits, and its reach. Specification, section 7.
use Rattle.std.specs.Prelude.{ℕ, zero, suc, Bool, true, false, ◌&&◌, ◌||◌, List, ◌≡◌, length}
use Rattle.masks.specs.Sets.{some, mask_of}
use Rattle.refusals.specs.Due.{AsNumbers, first_of, as_numbers}
use Rattle.encoding.specs.Buffers.{room_fault, buffer_after}
use Rattle.plans.specs.Entries.{max_processors, mask_size_for}
use Rattle.rules.specs.declared.states.Board.{Board}
use Rattle.rules.specs.declared.states.State.{State}
use Rattle.rules.specs.Faults.{processor_fault}
use Rattle.rules.specs.Calls.{facts_of, phases_of}
use Rattle.board_list.specs.Fields.{state_in}
use Rattle.queries.specs.Words.{word_count, words_of, words_size}
use Rattle.waits.specs.Waits.{waits_in}

-- Clauses 7.1 and 4.10: the state of processor p is the state of its request, if that counts; otherwise p is idle.
unfoldable pub state_number : Board → State → ℕ → ℕ
state_number b s p = state_in (phases_of b s) p

-- Clause 7.5: 11 for a processor that is not the plan's, otherwise the state.
abbrev pub phase_query : Board → State → ℕ → AsNumbers
phase_query b s p = as_numbers (processor_fault b.terms p) (state_number b s p)

-- Clauses 7.2, 7.5 and 4.10: processor p waits directly for q, on any state value.
unfoldable pub waits_for : Board → State → ℕ → ℕ → Bool
waits_for b s p q = waits_in (facts_of b s) (phases_of b s) p q

-- Clauses 7.2 and 7.5: the mask of direct waits; 11 for a processor that is not the plan's.
abbrev pub waits_query : Board → State → ℕ → AsNumbers
waits_query b s p = as_numbers (processor_fault b.terms p) (mask_of max_processors (waits_for b s p))

-- Clause 7.3: a chain of direct waits, of any length, from p to q.
pub data Chain (b : Board) (s : State) : ℕ → ℕ → Type 0 where
  direct : {p q : ℕ} → waits_for b s p q ≡ true → Chain b s p q
  through : {p r q : ℕ} → waits_for b s p r ≡ true → Chain b s r q → Chain b s p q

-- A chain of at most n direct waits leads from p to q.
unfoldable pub chained : Board → State → ℕ → ℕ → ℕ → Bool
chained b s zero p q = false
chained b s (suc n) p q = waits_for b s p q || some max_processors (λ r. waits_for b s p r && chained b s n r q)

-- Clause 7.3: p reaches q. Among so many processors no chain needs more waits. proofs/Chains.antt proves that this is
-- the same as a `Chain` of any length.
unfoldable pub reaches : Board → State → ℕ → ℕ → Bool
reaches b s p q = chained b s max_processors p q

-- Clauses 7.4 and 7.7: the bytes of a mask, on a board.
abbrev pub mask_size_of : Board → ℕ
mask_size_of b = mask_size_for b.terms.processors

-- Clause 7.4: how many bytes of scratch m processors need: 32 for up to 16 processors, 128 for more.
abbrev pub scratch_size : ℕ → ℕ
scratch_size m = words_size (mask_size_for m)

-- Clause 7.4: the scratch contains a word for each processor that has a bit in a word, and a word has as many bytes as
-- a mask. Bit q of word p is set if p reaches q, and clear if not.
unfoldable pub reach_bytes : Board → State → List ℕ
reach_bytes b s = words_of (mask_size_of b) (word_count (mask_size_of b)) (λ p. mask_of max_processors (reaches b s p))

-- Clauses 7.5, 7.4 and 8.2: first 11 for the processor, then 16 for a scratch that is too short.
unfoldable pub reach_fault : Board → ℕ → List ℕ → ℕ
reach_fault b p scratch =
    first_of (processor_fault b.terms p) (room_fault (scratch_size b.terms.processors) (length scratch) 0)

-- Clause 7.3: the mask of all processors that p reaches.
abbrev pub reach_query : Board → State → ℕ → List ℕ → AsNumbers
reach_query b s p scratch = as_numbers (reach_fault b p scratch) (mask_of max_processors (reaches b s p))

-- Clauses 7.4 and 7.5: the scratch after the query. Bytes after the words stay, and after a refusal all bytes do.
unfoldable pub reach_scratch : Board → State → ℕ → List ℕ → List ℕ
reach_scratch b s p scratch = buffer_after (reach_fault b p scratch) (reach_bytes b s) scratch 0
