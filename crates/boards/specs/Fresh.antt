-- The fresh arbiter of a plan, and when the plan is refused: with 3 to 8. Specification, section 4.
use Rattle.std.specs.Prelude.{ℕ, Result, Ok, Err, cond, ◌&&◌, eqb, ltb, replicate}
use Rattle.masks.specs.Sets.{mask_of}
use Rattle.refusals.specs.declared.Refusal.{Refusal}
use Rattle.refusals.specs.Number.{number_of}
use Rattle.plans.specs.declared.Plan.{Plan}
use Rattle.plans.specs.Entries.{max_processors, max_entries, is_write, entry_at}
use Rattle.plans.specs.Acceptance.{plan_fault}
use Rattle.conflicts.specs.Conflict.{conflicts_of}
use Rattle.masks.specs.Tabulation.{tabulate}
use Rattle.rules.specs.declared.states.Board.{Board}
use Rattle.rules.specs.declared.states.State.{State}
use Rattle.boards.specs.declared.Fresh.{Fresh}

-- Clauses 4.3 and 1.5: no request is active, and the last accepted tick is 0. A processor has room for one request.
abbrev pub fresh_state : State
fresh_state =
    record {
      last = 0;
      phases = record { waiting = 0; entitled = 0; holding = 0 };
      since = replicate max_processors 0;
      earlier = replicate max_processors 0;
      requested = replicate max_processors 0;
    }

-- Clause 3.3: the board of a plan: its counts, which entries are writes, their lengths, and the conflicts, computed
-- once, with the names and widened sets that they were computed from.
unfoldable pub board_of : Plan → Board
board_of p =
    record {
      terms =
          record {
            processors = p.processors;
            count = p.count;
            writes = mask_of max_entries (λ i. ltb i p.count && is_write (entry_at p i));
          };
      lengths = tabulate max_entries (λ i. (entry_at p i).length);
      names = (conflicts_of p).names;
      widened = (conflicts_of p).widened;
      rows = (conflicts_of p).rows;
    }

-- The board that is returned with the refusal of a plan.
abbrev pub blank_board : Board
blank_board =
    record {
      terms = record { processors = 0; count = 0; writes = 0 };
      lengths = replicate max_entries 0;
      names = replicate max_entries 0;
      widened = replicate max_entries 0;
      rows = replicate max_entries 0;
    }

-- Clauses 4.3 and 2.10: for a plan value that is not accepted, the board is blank.
unfoldable pub fresh_board : Plan → Board
fresh_board p = cond (eqb (plan_fault p) 0) (board_of p) blank_board

-- The answer to the question for a fresh arbiter, in parts: the number of the plan's refusal, or 0; the board, which is
-- blank for a refusal; and the state.
abbrev pub fresh_number : Result Fresh Refusal → ℕ
fresh_number (Ok fresh) = 0
fresh_number (Err r) = number_of r

abbrev pub board_made : Result Fresh Refusal → Board
board_made (Ok fresh) = fresh.board
board_made (Err r) = blank_board

abbrev pub state_made : Result Fresh Refusal → State
state_made (Ok fresh) = fresh.state
state_made (Err r) = fresh_state
