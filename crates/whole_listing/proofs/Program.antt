-- What `lockreplay` writes for an input that arrives in pieces: the listing of the pieces together, and before the
-- input ends the lines that the pieces decide. Assumes nothing.
use Prim.Native.Nat.{ℕ, suc, ◌≤◌}
use mathlib.Core.Path.{◌≡◌, refl, ap, sym, ◌∙◌}
use mathlib.Core.Bool.{Bool, true, false, cond, not}
use mathlib.Core.List.{List, [], ◌++◌, append-nil}
use native.Mathlib.Omega.{arith}
use borrow.Author.Tests.{leb-true, le-leb, eqb-true, not-false}
use lib.Dec.{eqb}
use lib.ListN.{length, drop, length-append, length-drop}
use lib.Seq.{take-append-le, drop-append-le}
use Rattle.masks.proofs.Truth.{or_right}
use Rattle.refusals.specs.Due.{AsNumbers}
use Rattle.encoding.proofs.Room.{enough_at}
use Rattle.plans.specs.declared.Plan.{Plan}
use Rattle.plans.specs.Reading.{read_fault, read_as_numbers, plan_read}
use Rattle.plans.proofs.RoundTrip.{read_is_accepted}
use Rattle.rules.specs.declared.states.Board.{Board}
use Rattle.rules.specs.declared.states.State.{State}
use Rattle.boards.specs.Fresh.{board_of, fresh_board, fresh_state}
use Rattle.logs.specs.Records.{count_size, read_count}
use Rattle.listings.specs.PlainLines.{refusal_line}
use Rattle.listings.specs.Lines.{first_line}
use Rattle.log_input.specs.Stages.{is_short}
use Rattle.whole_listing.specs.Rooms.{plan_room, block_room}
use Rattle.whole_listing.specs.Listing.{listing_of}
use Rattle.whole_listing.specs.SoFar.{listing_so_far}
use Rattle.whole_listing.specs.Arrivals.{together, Arrived, fed, waited, plan_there, count_there, call_there}
use Rattle.whole_listing.specs.Arrivals.{in_blocks, from_count, from_plan, program_listing}
use Rattle.whole_listing.proofs.Waits.{Fed, fed_until_enough, after_wait, all_at_hand}
use Rattle.whole_listing.proofs.Calls.{calls_by}
use Rattle.whole_listing.proofs.Blocks.{waits_for_call, in_blocks_law}
use Rattle.whole_listing.proofs.Plans.{full_plan, fault_decided, size_decided, plan_inside, plan_decided}
use Rattle.whole_listing.proofs.Stages.{counted_by, accepted_by, listed_by, closed_listing, open_listing}

-- ---- the number of calls

-- A number of calls that is there is read from there, whatever follows.
count_in_front : (s t : List ℕ) → count_size ≤ length s → read_count (s ++ t) ≡ read_count s
count_in_front s t h =
    let longer : 2 ≤ length (s ++ t) = simp length-append (omega arith) in
    rw (le-leb 2 (length (s ++ t)) longer, le-leb 2 (length s) h, take-append-le 2 s t h)

module _ (closed : Bool) (b : Board) (st : State) where
  -- What is written from a block that begins with the number of calls is what its bytes give.
  written_from : (s : List ℕ) (t : List (List ℕ)) → (read_count s).number ≡ 0
      → from_count closed b st s t
      ≡ waited closed (call_there (read_count s).value)
      (fed block_room (call_there (read_count s).value) (drop count_size s) t)
      (λ s' t'. in_blocks closed (suc (read_count s).value) b st (read_count s).value s' t')
  written_from s t none = rw none

  pub counted_from : (s u : List ℕ) → count_size ≤ length s → (read_count s).number ≡ 0
      → counted_by closed b st (s ++ u) ≡ calls_by closed b st (read_count s).value (drop count_size s ++ u)
  counted_from s u two none =
      let longer : 2 ≤ length (s ++ u) = simp length-append (omega arith) in
      ap (λ c. cond c (by (read_count (s ++ u)) (s ++ u)) [])
      (or_right closed (count_there (s ++ u)) (le-leb 2 (length (s ++ u)) longer))
      ∙ ap (λ x. by x (s ++ u)) (count_in_front s u two)
      ∙ ap (λ k. cond (eqb k 0) (calls_by closed b st (read_count s).value (drop count_size (s ++ u))) (refusal_line k))
      none
      ∙ ap (calls_by closed b st (read_count s).value) (drop-append-le 2 s u two)
    where
      by : AsNumbers → List ℕ → List ℕ
      by x v = cond (eqb x.number 0) (calls_by closed b st x.value (drop count_size v)) (refusal_line x.number)

  counted : (s : List ℕ) (t : List (List ℕ)) → length s ≤ block_room → count_there s ≡ true → from_count closed b st s t
      ≡ counted_by closed b st (s ++ together t)
  counted s t holds there =
      let two : 2 ≤ length s = leb-true 2 (length s) there in
      let none : (read_count s).number ≡ 0 = enough_at count_size s two in
      let fits : length (drop 2 s) ≤ block_room = omega (arith, length-drop 2 s) in
      let n = (read_count s).value in
      written_from s t none
      ∙ waits_for_call closed b n st (drop 2 s) t _ fits
      (λ s' t' fits' ends. in_blocks_law closed (suc n) b st n s' t' (omega arith) fits' ends)
      ∙ sym (counted_from s (together t) two none)

  -- The input ends without a number of calls.
  not_counted : (s : List ℕ) (t : List (List ℕ)) → count_there s ≡ false → from_count closed b st s t
      ≡ counted_by true b st s
  not_counted s t few = rw (few, append-nil)

  -- The wait for the number of calls, from the bytes after the plan.
  pub waits_for_count : (s : List ℕ) (t : List (List ℕ)) → length s ≤ block_room
      → waited closed count_there (fed block_room count_there s t) (λ s' t'. from_count closed b st s' t')
      ≡ counted_by closed b st (s ++ together t)
  waits_for_count s t fits =
      after_wait closed count_there a (λ s' t'. from_count closed b st s' t') (counted_by closed b st (s ++ together t))
      (λ there. counted a.bytes a.later f.holds there ∙ ap (counted_by closed b st) f.whole)
      (λ c few. not_counted a.bytes a.later few ∙ rw (c, all few))
      (λ c few. rw (c, all few, few))
    where
      a : Arrived
      a = fed block_room count_there s t

      f : Fed block_room count_there s t a
      f = fed_until_enough block_room count_there (λ u h. le-leb 2 (length u) (omega arith)) s t fits

      all : count_there a.bytes ≡ false → s ++ together t ≡ a.bytes
      all few = all_at_hand a.bytes (together a.later) (s ++ together t) f.whole (f.ended few)

-- ---- the plan

module _ (closed : Bool) (s : List ℕ) (t : List (List ℕ)) where
  -- A plan that is there and is refused gives its line.
  pub listed_refused : (u : List ℕ) → plan_there s ≡ true → eqb (read_fault s) 0 ≡ false → listed_by closed (s ++ u)
      ≡ refusal_line (read_fault s)
  unfolding listed_by
  listed_refused u there faulty = rw (← fault_decided s u there, or_right closed (plan_there s) there, faulty)

  refused : plan_there s ≡ true → eqb (read_fault s) 0 ≡ false → from_plan closed s t ≡ listed_by closed (s ++ together t)
  refused there faulty = written ∙ sym (listed_refused (together t) there faulty)
    where
      written : from_plan closed s t ≡ refusal_line (read_fault s)
      written = rw (faulty, append-nil)

  -- A plan that is there and is accepted gives the first line, and then what follows.
  written_after : read_fault s ≡ 0
      → from_plan closed s t
      ≡ first_line (plan_read s)
      ++ waited closed count_there (fed block_room count_there (drop (read_as_numbers s).value s) t)
      (λ s' t'. from_count closed (board_of (plan_read s)) fresh_state s' t')
  unfolding fresh_board
  written_after none = rw (read_is_accepted s none, none)

  pub listed_after : (u : List ℕ) → plan_there s ≡ true → read_fault s ≡ 0
      → listed_by closed (s ++ u)
      ≡ first_line (plan_read s) ++ counted_by closed (board_of (plan_read s)) fresh_state
      (drop (read_as_numbers s).value s ++ u)
  unfolding listed_by
  listed_after u there none =
      let same : read_fault (s ++ u) ≡ read_fault s = sym (fault_decided s u there) in
      let size = (read_as_numbers s).value in
      ap (λ c. cond c (cond (eqb (read_fault (s ++ u)) 0) (accepted_by closed (s ++ u))
      (refusal_line (read_fault (s ++ u)))) [])
      (or_right closed (plan_there (s ++ u)) (ap (λ f. not (eqb f 1)) same ∙ there))
      ∙ ap (λ f. cond (eqb f 0) (accepted_by closed (s ++ u)) (refusal_line f)) (same ∙ none)
      ∙ ap (λ v. from v (plan_read (s ++ u)) (s ++ u)) (size_decided s u there none)
      ∙ ap (λ p. from size p (s ++ u)) (plan_decided s u there none)
      ∙ ap (λ r. first_line (plan_read s) ++ counted_by closed (board_of (plan_read s)) fresh_state r)
      (drop-append-le size s u (plan_inside s u there none))
    where
      from : ℕ → Plan → List ℕ → List ℕ
      from v p w = first_line p ++ counted_by closed (board_of p) fresh_state (drop v w)

  accepted : length s ≤ plan_room → plan_there s ≡ true → read_fault s ≡ 0 → from_plan closed s t
      ≡ listed_by closed (s ++ together t)
  accepted holds there none =
      let size = (read_as_numbers s).value in
      let fits : length (drop size s) ≤ block_room = omega (arith, length-drop size s) in
      written_after none
      ∙ ap (λ l. first_line (plan_read s) ++ l)
      (waits_for_count closed (board_of (plan_read s)) fresh_state (drop size s) t fits)
      ∙ sym (listed_after (together t) there none)

  there_listed : length s ≤ plan_room → plan_there s ≡ true → from_plan closed s t ≡ listed_by closed (s ++ together t)
  there_listed holds there = go (eqb (read_fault s) 0) refl
    where
      go : (none : Bool) → eqb (read_fault s) 0 ≡ none → from_plan closed s t ≡ listed_by closed (s ++ together t)
      go true e = accepted holds there (eqb-true (read_fault s) 0 e)
      go false e = refused there e

  -- If the input ends without a plan: refusal 1.
  short_listed : plan_there s ≡ false → from_plan closed s t ≡ listed_by true s
  unfolding listed_by
  short_listed few =
      let one : read_fault s ≡ 1 = eqb-true (read_fault s) 1 (not-false (is_short s) few) in
      rw (one, append-nil)

-- What the program writes is what the bytes of all pieces give.
pub program_lists : (closed : Bool) (pieces : List (List ℕ)) → program_listing closed pieces
    ≡ listed_by closed (together pieces)
unfolding program_listing listed_by
program_lists closed pieces =
    after_wait closed plan_there a (λ s t. from_plan closed s t) (listed_by closed (together pieces))
    (λ there. there_listed closed a.bytes a.later f.holds there ∙ ap (listed_by closed) f.whole)
    (λ c few. short_listed closed a.bytes a.later few ∙ rw (c, all few))
    (λ c few. rw (c, all few, few))
  where
    a : Arrived
    a = fed plan_room plan_there [] pieces

    f : Fed plan_room plan_there [] pieces a
    f = fed_until_enough plan_room plan_there full_plan [] pieces (omega arith)

    all : plan_there a.bytes ≡ false → together pieces ≡ a.bytes
    all few = all_at_hand a.bytes (together a.later) (together pieces) f.whole (f.ended few)

-- For an input in any pieces, the program writes the listing of the pieces together.
pub program_writes_listing : (pieces : List (List ℕ)) → program_listing true pieces ≡ listing_of (together pieces)
program_writes_listing pieces = program_lists true pieces ∙ closed_listing (together pieces)

-- Before the input ends, or if a read fails, the program writes the lines that the pieces so far decide: all of them
-- and no others.
pub program_writes_so_far : (pieces : List (List ℕ)) → program_listing false pieces ≡ listing_so_far (together pieces)
program_writes_so_far pieces = program_lists false pieces ∙ open_listing (together pieces)
