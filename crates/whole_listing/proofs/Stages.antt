-- What the bytes of a log give, with the input closed after them or still open: the whole listing, or the lines so far.
-- Assumes nothing.
use Prim.Native.Nat.{ℕ}
use mathlib.Core.Path.{◌≡◌, refl}
use mathlib.Core.Bool.{Bool, true, false, cond, not, ◌||◌}
use mathlib.Core.List.{List, [], ◌++◌}
use lib.Dec.{eqb, leb}
use lib.ListN.{length, drop}
use Rattle.plans.specs.Reading.{read_fault, read_as_numbers, plan_read}
use Rattle.rules.specs.declared.states.Board.{Board}
use Rattle.rules.specs.declared.states.State.{State}
use Rattle.boards.specs.Fresh.{board_of, fresh_state}
use Rattle.logs.specs.Records.{count_size, read_count}
use Rattle.listings.specs.PlainLines.{refusal_line}
use Rattle.listings.specs.Lines.{first_line}
use Rattle.log_input.specs.Stages.{is_short}
use Rattle.whole_listing.specs.Listing.{listing_of}
use Rattle.whole_listing.specs.SoFar.{counted_so_far, listing_so_far}
use Rattle.whole_listing.specs.Arrivals.{plan_there, count_there}
use Rattle.whole_listing.proofs.Calls.{calls_by, closed_calls, open_calls}

-- From the number of calls on, and from the plan on.
abbrev pub counted_by : Bool → Board → State → List ℕ → List ℕ
counted_by closed b st s =
    cond (closed || count_there s)
    (cond (eqb (read_count s).number 0) (calls_by closed b st (read_count s).value (drop count_size s))
    (refusal_line (read_count s).number))
    []

abbrev pub accepted_by : Bool → List ℕ → List ℕ
accepted_by closed s =
    first_line (plan_read s) ++ counted_by closed (board_of (plan_read s)) fresh_state (drop (read_as_numbers s).value s)

unfoldable pub listed_by : Bool → List ℕ → List ℕ
listed_by closed s =
    cond (closed || plan_there s) (cond (eqb (read_fault s) 0) (accepted_by closed s) (refusal_line (read_fault s))) []

pub closed_listing : (s : List ℕ) → listed_by true s ≡ listing_of s
unfolding listed_by listing_of
closed_listing s =
    let rest = drop (read_as_numbers s).value s in
    rw (closed_calls (board_of (plan_read s)) (read_count rest).value fresh_state (drop count_size rest))

open_count : (b : Board) (st : State) (s : List ℕ) → counted_by false b st s ≡ counted_so_far b st s
open_count b st s = go (leb count_size (length s)) refl
  where
    go : (there : Bool) → leb count_size (length s) ≡ there → counted_by false b st s ≡ counted_so_far b st s
    go true e = rw (open_calls b (read_count s).value st (drop count_size s), e)
    go false e = rw e

pub open_listing : (s : List ℕ) → listed_by false s ≡ listing_so_far s
unfolding listed_by listing_so_far
open_listing s = rw (open_count (board_of (plan_read s)) fresh_state (drop (read_as_numbers s).value s)) (go (is_short s) _)
  where
    go : (short : Bool) (x : List ℕ) → cond (not short) x [] ≡ cond short [] x
    go true x = refl
    go false x = refl
