-- The three demands, each with the definitions that state it and the theorem or promise that meets it. Theorems of
-- other files are passed on from here: the round trips of demand 2, what a handover does, demand 3, freedom from
-- deadlock, that a withdrawn request never holds, what the list of the whole board contains for each processor, runs of
-- steps on a register block, and runs from C or Rust. Assumes nothing.
pub use Rattle.plans.proofs.RoundTrip.{written_in_buffer, written_back}
pub use Rattle.runs.proofs.Handover.{leaves_what_both_leave, grants_of_both, entitlements_of_both}
pub use Rattle.demands.proofs.Handover.{handover_grants, handover_entitles}
pub use Rattle.runs.proofs.refinement.WholeRuns.{whole_runs}
pub use Rattle.runs.proofs.Freedom.{no_deadlock}
pub use Rattle.runs.proofs.NeverHolds.{withdrawn_never_holds}
pub use Rattle.runs.proofs.InPlace.{in_place_is_by_value}
pub use Rattle.queries.proofs.WholeBoard.{part_is_queries}
pub use Rattle.register_runs.proofs.Runs.{pending_are_grants, grant_stays, line_is_right, calls_of_run, register_runs}
pub use Rattle.register_runs.proofs.Lent.{lent_write_is_write}
pub use Rattle.c_runs.proofs.InPlace.{phase_in_place, waits_in_place, reach_in_place, scratch_in_place}
pub use Rattle.c_runs.proofs.InPlace.{list_in_place, listed_in_place}
pub use Rattle.c_runs.proofs.Runs.{run_from_c}
pub use Rattle.c_runs.proofs.Queries.{queries_from_c}
use Prim.Native.Nat.{ℕ, ◌<◌}
use mathlib.Core.Path.{◌≡◌, refl, ◌∙◌}
use mathlib.Core.List.{List}
use lib.ListN.{length}
use Rattle.refusals.specs.Due.{as_numbers}
use Rattle.refusals.proofs.Numbers.{positive_not_zero, said_refusal}
use Rattle.encoding.specs.Buffers.{overwritten}
use Rattle.plans.specs.declared.Plan.{Plan}
use Rattle.plans.specs.Acceptance.{plan_fault}
use Rattle.plans.specs.Reading.{read_fault, read_as_numbers, plan_in, plan_read, blank_plan}
use Rattle.plans.specs.Writing.{plan_bytes, write_fault, write_as_numbers, written_buffer}
use Rattle.rules.specs.declared.calls.Call.{Call}
use Rattle.rules.specs.Replies.{refused_with}
use Rattle.rules.specs.declared.states.Board.{Board}
use Rattle.rules.specs.declared.states.State.{State}
use Rattle.rules.specs.Faults.{processor_fault, issue_fault, complete_fault, withdraw_fault, handover_fault}
use Rattle.rules.specs.Calls.{Answer, phases_of, put_state, taken_state, settled_done, late_mark, ruled, issued, left}
use Rattle.rules.specs.Calls.{completed, withdrawn, both, handed_over, answered}
use Rattle.boards.specs.Fresh.{board_of, blank_board, fresh_board}
use Rattle.queries.specs.Queries.{reach_fault, reach_bytes, reach_query, reach_scratch}
use Rattle.board_list.specs.Listing.{list_buffer}
use Rattle.queries.specs.WholeBoard.{board_bytes, board_fault, board_query, board_buffer}
use Rattle.logs.specs.Verbs.{no_fields}
use Rattle.logs.specs.Records.{fields_in, record_fault, read_record}

-- Demand 1. What meets no refusal condition is carried out to the end; everything else is refused with the number that
-- is due in that case alone, with the state and all lent buffers unchanged.
--
-- These definitions give the number that is due, or 0 if none is: read_fault, write_fault, plan_fault, issue_fault,
-- complete_fault, withdraw_fault, handover_fault, processor_fault, reach_fault, list_fault, pair_fault, record_fault and
-- tail_fault. The functions promise, for every value:
--   plan_bytes::read          `taken_as_numbers` r ≡ `read_as_numbers` bytes, and plan_taken r ≡ plan_read bytes
--   plan_bytes::write         `outcome_as_numbers` r ≡ `write_as_numbers` plan buffer at,
--                             and the buffer after it ≡ written_buffer plan buffer at
--   plan_checks::check        verdict_number r ≡ plan_fault plan
--   boards::fresh_of          fresh_number r ≡ plan_fault plan, board_made r ≡ fresh_board plan,
--                             state_made r ≡ fresh_state
--   arbiter::answer           answer_of r ≡ answered board state call
--   arbiter::issue            answer_of r ≡ issued board state processor entry tick
--   arbiter::complete         answer_of r ≡ completed board state processor tick
--   arbiter::withdraw         answer_of r ≡ withdrawn board state processor tick
--   arbiter::handover         answer_of r ≡ handed_over board state processor entry tick
--   arbiter::answer_on        answer_of r ≡ answered, for the board whose terms, rows and lengths it is lent
--   calls_in_place::answer_in_place    answer_by r and the arrays after it ≡ answered, for the board and the state
--                                      that it is lent
--   calls_in_place::issue_in_place     the same with issued
--   calls_in_place::complete_in_place  the same with completed
--   calls_in_place::withdraw_in_place  the same with withdrawn
--   calls_in_place::handover_in_place  the same with handed_over
--   queries::phase_of         `phase_as_numbers` r ≡ phase_query board state processor
--   queries::direct_waits     `outcome_as_numbers` r ≡ waits_query board state processor
--   reach::reach              `outcome_as_numbers` r ≡ reach_query board state processor scratch,
--                             and the scratch after it ≡ reach_scratch ..
--   queries::list_board       `outcome_as_numbers` r ≡ board_query board buffer, and the buffer after it ≡ board_buffer ..
--   queries::list_board_in_place       the same, for the board and the state that it is lent
--   queries::shared_by        `shared_as_numbers` r ≡ shared_query board first second;
--                             Contention.antt says what that is on a plan's board
--   registers::read           `outcome_as_numbers` r ≡ register_read block offset
--                             (register_block::read_register: the same, for the block that it is lent)
--   register_block::write     `change_as_numbers` r block state ≡ register_write board state block offset value,
--                             in which a refused command changes offset 3 alone
--                             (register_block::write_register: `written_as_numbers` r and the block after it
--                             ≡ register_write ..)
--   logs::read_count          `count_as_numbers` r ≡ read_count bytes
--   logs::read_record         `record_as_numbers` r ≡ read_record bytes
--   logs::check_tail          verdict_number r ≡ tail_fault bytes
-- and for the lines of listings and replay: `line_as_numbers` and line_buffer of first_line, call_line and refusal_line.

pub refused_reading_gives_number_only : (s : List ℕ) → 0 < read_fault s
    → (read_as_numbers s ≡ record { number = read_fault s; value = 0 }) × (plan_read s ≡ blank_plan)
unfolding plan_read
refused_reading_gives_number_only s due = (said_refusal (read_fault s) _ due, rw (positive_not_zero (read_fault s) due))

pub accepted_reading_gives_plan : (s : List ℕ) → read_fault s ≡ 0 → plan_read s ≡ plan_in s
unfolding plan_read
accepted_reading_gives_plan s ok = rw ok

module _ (p : Plan) (buffer : List ℕ) (at : ℕ) where
  pub refused_writing_changes_nothing : 0 < write_fault p (length buffer) at
      → (write_as_numbers p buffer at ≡ record { number = write_fault p (length buffer) at; value = 0 })
      × (written_buffer p buffer at ≡ buffer)
  unfolding written_buffer
  refused_writing_changes_nothing due = (
    said_refusal (write_fault p (length buffer) at) _ due,
    rw
        (positive_not_zero (write_fault p (length buffer) at) due),
  )

  pub accepted_writing_puts_plan : write_fault p (length buffer) at ≡ 0
      → written_buffer p buffer at ≡ overwritten buffer at (plan_bytes p)
  unfolding written_buffer
  accepted_writing_puts_plan ok = rw ok

pub refused_plan_has_no_board : (p : Plan) → 0 < plan_fault p → fresh_board p ≡ blank_board
unfolding fresh_board
refused_plan_has_no_board p due = rw (positive_not_zero (plan_fault p) due)

pub accepted_plan_has_its_board : (p : Plan) → plan_fault p ≡ 0 → fresh_board p ≡ board_of p
unfolding fresh_board
accepted_plan_has_its_board p ok = rw ok

-- The number that is due for a call, and the answer to an accepted one.
abbrev pub call_fault : Board → State → Call → ℕ
call_fault b s (Call.Issue p e t) = issue_fault b.terms s.last (phases_of b s) p e t
call_fault b s (Call.Complete p t) = complete_fault b.terms s.last (phases_of b s) p t
call_fault b s (Call.Withdraw p t) = withdraw_fault b.terms s.last (phases_of b s) p t
call_fault b s (Call.Handover p e t) = handover_fault b.terms s.last (phases_of b s) p e t

abbrev pub carried_out : Board → State → Call → Answer
carried_out b s (Call.Issue p e t) = settled_done b (put_state b s p e t) 0
carried_out b s (Call.Complete p t) = settled_done b (taken_state b s p t) (late_mark b s p t)
carried_out b s (Call.Withdraw p t) = settled_done b (taken_state b s p t) 0
carried_out b s (Call.Handover p e t) = both (completed b s p t) (issued b (completed b s p t).state p e t)

module _ (b : Board) (s : State) where
  call_is_ruled : (c : Call) → answered b s c ≡ ruled (call_fault b s c) s (carried_out b s c)
  unfolding issued left completed withdrawn handed_over
  call_is_ruled (Call.Issue p e t) = refl
  call_is_ruled (Call.Complete p t) = refl
  call_is_ruled (Call.Withdraw p t) = refl
  call_is_ruled (Call.Handover p e t) = refl

  pub refused_call_changes_nothing : (c : Call) → 0 < call_fault b s c
      → answered b s c ≡ record { reply = refused_with (call_fault b s c); state = s }
  refused_call_changes_nothing c due = call_is_ruled c ∙ rw (positive_not_zero (call_fault b s c) due)

  pub accepted_call_is_carried_out : (c : Call) → call_fault b s c ≡ 0 → answered b s c ≡ carried_out b s c
  accepted_call_is_carried_out c ok = call_is_ruled c ∙ rw ok

  -- This also covers the state of a processor and its direct waits: each answer is made of the number that is due and
  -- the value.
  pub refused_query_gives_number_only : (p value : ℕ) → 0 < processor_fault b.terms p
      → as_numbers (processor_fault b.terms p) value ≡ record { number = processor_fault b.terms p; value = 0 }
  refused_query_gives_number_only p value due = said_refusal (processor_fault b.terms p) value due

  pub refused_reach_changes_nothing : (p : ℕ) (scratch : List ℕ) → 0 < reach_fault b p scratch
      → (reach_query b s p scratch ≡ record { number = reach_fault b p scratch; value = 0 })
      × (reach_scratch b s p scratch ≡ scratch)
  unfolding reach_scratch
  refused_reach_changes_nothing p scratch due =
      (said_refusal (reach_fault b p scratch) _ due, rw (positive_not_zero (reach_fault b p scratch) due))

  pub accepted_reach_fills_scratch : (p : ℕ) (scratch : List ℕ) → reach_fault b p scratch ≡ 0
      → reach_scratch b s p scratch ≡ overwritten scratch 0 (reach_bytes b s)
  unfolding reach_scratch
  accepted_reach_fills_scratch p scratch ok = rw ok

  -- The list of the whole board: only 16 refuses it. Each processor's part is what the single queries answer for it:
  -- `part_is_queries`, above.
  pub refused_list_changes_nothing : (buffer : List ℕ) → 0 < board_fault b buffer
      → (board_query b buffer ≡ record { number = board_fault b buffer; value = 0 })
      × (board_buffer b s buffer ≡ buffer)
  unfolding list_buffer
  refused_list_changes_nothing buffer due =
      (said_refusal (board_fault b buffer) _ due, rw (positive_not_zero (board_fault b buffer) due))

  pub accepted_list_fills_buffer : (buffer : List ℕ) → board_fault b buffer ≡ 0
      → board_buffer b s buffer ≡ overwritten buffer 0 (board_bytes b s)
  unfolding list_buffer
  accepted_list_fills_buffer buffer ok = rw ok

pub refused_record_gives_number_only : (s : List ℕ) → 0 < record_fault s
    → read_record s ≡ record { number = record_fault s; fields = no_fields }
unfolding read_record
refused_record_gives_number_only s due = rw (positive_not_zero (record_fault s) due)

pub accepted_record_is_read : (s : List ℕ) → record_fault s ≡ 0 → read_record s
    ≡ record { number = 0; fields = fields_in s }
unfolding read_record
accepted_record_is_read s ok = rw ok

-- Demand 2. Each accepted call grants and entitles exactly the processors that the rules name; late marks, byte counts,
-- waits and figures are the ones defined; a plan that is written and then read is the same plan, and an accepted plan
-- is written back as the same bytes.
--
-- The rules are `settled` and its four steps (rules/specs/Settling.antt), `put_in`, `taken_out` and `stamped`
-- (rules/specs/Acts.antt) and `done` (rules/specs/Calls.antt); runs/proofs/PlanF.antt computes plan F's twelve calls
-- with them. The functions promise: settling::settle ≡ settled, conflicts::conflicts_of ≡ conflicts_of,
-- figures::figures_of ≡ figures_of; and the calls as above.

-- A handover does what a completion and then an issue would do: `leaves_what_both_leave`, `grants_of_both` and
-- `entitlements_of_both`, above, on every state value. After any calls its masks are what changed from the state before
-- it to the state after it: `handover_grants` and `handover_entitles`.

-- The round trips are `written_in_buffer` (a plan written into a buffer reads back as the same plan, and takes as many
-- bytes as were written) and written_back (a plan that was read is written as the bytes that it was read from), above.

-- Demand 3, for whole lists of calls: `whole_runs`, above, is the claim `WholeRuns` of runs/specs/Claim.antt, over the
-- answers of `answered`, for every accepted plan and every list of calls. In addition to the three demands,
-- `no_deadlock`: nobody waits in a circle. The commands of a register block and the calls that do not go through it are
-- such a list: `register_runs`. So is every list of calls from C or Rust on memory that a plan was stored in:
-- `run_from_c`.
