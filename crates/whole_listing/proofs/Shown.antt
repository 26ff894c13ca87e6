-- Every line has room in the program's buffer for lines, so that the part of the buffer that is shown is the line.
-- Assumes nothing.
use Prim.Native.Nat.{ℕ, ◌+◌, ◌≤◌}
use mathlib.Core.Path.{◌≡◌}
use mathlib.Core.Bool.{Bool, true, false, cond}
use mathlib.Core.List.{List, []}
use native.Mathlib.Omega.{arith}
use lib.Dec.{eqb}
use lib.ListN.{length, take, drop}
use lib.Seq.{take-append_seam}
use Rattle.encoding.specs.Buffers.{overwritten}
use Rattle.encoding.proofs.Room.{fits_room}
use Rattle.plans.specs.Reading.{read_fault, plan_read}
use Rattle.logs.specs.Records.{read_count}
use Rattle.listings.specs.PlainLines.{refusal_line, line_as_numbers, line_buffer}
use Rattle.listings.proofs.LongestFirst.{any_first}
use Rattle.listings.proofs.LongestCall.{any_refusal}
use Rattle.replay.specs.Blocks.{Ran, ran_block}
use Rattle.replay.specs.Openings.{opening_line}
use Rattle.replay.specs.Ends.{fault_line, count_line, end_fault, end_line}
use Rattle.whole_listing.specs.Rooms.{lines_room}

-- For a line that has room, the part that is shown is the line.
pub shown_line : (line out : List ℕ) → length line ≤ length out
    → take (line_as_numbers line (length out) 0).value (line_buffer line out 0) ≡ line
shown_line line out h =
    let room : 0 + length line ≤ length out = omega arith in
    rw (fits_room (length line) (length out) 0 room) (take-append_seam line (drop (0 + length line) out))

-- The same for a block's lines.
pub shown_block : (r : Ran) (out : List ℕ) → take (ran_block r).written (overwritten out 0 r.lines) ≡ r.lines
shown_block r out = take-append_seam r.lines (drop (0 + length r.lines) out)

-- The line that opens the listing has room, and so do the lines of the count and of the end.
one_of : (t : Bool) (x y : List ℕ) (n : ℕ) → length x ≤ n → length y ≤ n → length (cond t x y) ≤ n
one_of true x y n h k = h
one_of false x y n h k = k

pub opening_has_room : (s : List ℕ) → length (opening_line s) ≤ lines_room
opening_has_room s =
    one_of (eqb (read_fault s) 0) _ _ lines_room (omega (arith, any_first (plan_read s)))
    (omega (arith, any_refusal (read_fault s)))

fault_has_room : (n : ℕ) → length (fault_line n) ≤ lines_room
fault_has_room n = one_of (eqb n 0) [] (refusal_line n) lines_room (omega arith) (omega (arith, any_refusal n))

pub count_has_room : (s : List ℕ) → length (count_line s) ≤ lines_room
count_has_room s = fault_has_room (read_count s).number

pub end_has_room : (left : ℕ) (s : List ℕ) → length (end_line left s) ≤ lines_room
end_has_room left s = fault_has_room (end_fault left s)
