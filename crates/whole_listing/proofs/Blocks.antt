-- What is written block by block is what the bytes of all blocks give: a block's lines have room, and a block that
-- carries out no call is the last. Assumes nothing.
use Prim.Native.Nat.{ℕ, zero, suc, ◌-◌, ◌*◌, ◌/◌, ◌≤◌, ◌<◌, min}
use mathlib.Core.Path.{◌≡◌, refl, ap, sym, ◌∙◌}
use mathlib.Core.Bool.{Bool, true, false, cond}
use mathlib.Core.List.{List, [], ◌++◌}
use native.Mathlib.Omega.{arith}
use borrow.Author.Tests.{eqb-true, eqb-false, leb-true, leb-false, le-leb}
use lib.Dec.{eqb, leb}
use lib.ListN.{length, drop, length-drop}
use Rattle.rules.specs.declared.states.Board.{Board}
use Rattle.rules.specs.declared.states.State.{State}
use Rattle.logs.specs.Records.{record_size}
use Rattle.log_input.specs.Stages.{due_size}
use Rattle.replay.specs.Blocks.{Ran, ran, budget, going_on}
use Rattle.replay.specs.Ends.{end_line}
use Rattle.whole_listing.specs.Rooms.{block_room, lines_room}
use Rattle.whole_listing.specs.Arrivals.{together, Arrived, fed, waited, call_there, in_blocks}
use Rattle.whole_listing.proofs.Waits.{Fed, fed_until_enough, after_wait, all_at_hand}
use Rattle.whole_listing.proofs.Calls.{calls_by, piece_then_rest, all_carried_out, end_of_input, still_open}
use Rattle.whole_listing.proofs.Calls.{tail_is_told, record_due_law}

-- How many records the bytes s contain while n calls are left.
abbrev whole_records : ℕ → List ℕ → ℕ
whole_records n s = min n (length s / record_size)

-- In the program's buffers all whole records have room for their lines: there are at most 512 records, and room for 744
-- lines.
block_has_room : (n : ℕ) (s : List ℕ) → length s ≤ block_room → budget n s lines_room ≡ whole_records n s
block_has_room n s h = omega arith

-- A full block contains more bytes than the program waits for.
full_block : (n : ℕ) (s : List ℕ) → block_room ≤ length s → call_there n s ≡ true
full_block zero s h = le-leb 1 (length s) (omega arith)
full_block (suc n) s h = le-leb (due_size (suc n)) (length s) (omega (arith, record_due_law n))

-- If fewer bytes are at hand than the program waits for, the input is closed and nothing more will come.
abbrev Ended : Bool → ℕ → List ℕ → List (List ℕ) → Type 0
Ended closed n s t = length s < due_size n → (closed ≡ true) × (together t ≡ [])

-- A wait for a call continues with what the bytes give.
pub waits_for_call : (closed : Bool) (b : Board) (n : ℕ) (st : State) (s : List ℕ) (t : List (List ℕ))
    (next : List ℕ → List (List ℕ) → List ℕ)
    → length s ≤ block_room
    → ((s' : List ℕ) (t' : List (List ℕ)) → length s' ≤ block_room → Ended closed n s' t' → next s' t'
    ≡ calls_by closed b st n (s' ++ together t'))
    → waited closed (call_there n) (fed block_room (call_there n) s t) next ≡ calls_by closed b st n (s ++ together t)
waits_for_call closed b n st s t next fits goes =
    after_wait closed (call_there n) a next (calls_by closed b st n (s ++ together t))
    (λ there. goes a.bytes a.later f.holds
    (λ few. absurd (omega (arith, leb-true (due_size n) (length a.bytes) there))) ∙ whole)
    (λ c few. goes a.bytes a.later f.holds (λ few'. (c, f.ended few)) ∙ whole)
    (λ c few. sym (rw (c, all_at_hand a.bytes (together a.later) (s ++ together t) f.whole (f.ended few))
    (still_open b n st a.bytes (leb-false (due_size n) (length a.bytes) few))))
  where
    a : Arrived
    a = fed block_room (call_there n) s t

    f : Fed block_room (call_there n) s t a
    f = fed_until_enough block_room (call_there n) (full_block n) s t fits

    whole : calls_by closed b st n (a.bytes ++ together a.later) ≡ calls_by closed b st n (s ++ together t)
    whole = ap (calls_by closed b st n) f.whole

-- A block without a whole record that is due gives the line that ends the listing, if any.
last_block : (closed : Bool) (b : Board) (st : State) (n : ℕ) (s : List ℕ) (t : List (List ℕ)) → whole_records n s ≡ 0
    → Ended closed n s t
    → calls_by closed b st n (s ++ together t) ≡ end_line n s
last_block closed b st zero s t none ends = go (leb 1 (length s)) refl
  where
    go : (some : Bool) → leb 1 (length s) ≡ some → calls_by closed b st 0 (s ++ together t) ≡ end_line 0 s
    go true e = tail_is_told closed b st s (together t) (leb-true 1 (length s) e)
    go false e =
        let few : length s < 1 = leb-false 1 (length s) e in
        rw ((ends few).0, all_at_hand s (together t) (s ++ together t) refl (ends few).1) (end_of_input b 0 st s few)
last_block closed b st (suc n) s t none ends =
    let few : length s < due_size (suc n) = omega (arith, record_due_law n) in
    rw ((ends few).0, all_at_hand s (together t) (s ++ together t) refl (ends few).1) (end_of_input b (suc n) st s few)

same_rest : (r : Ran) (f g : State → List ℕ) → (r.ended ≡ false → f r.state ≡ g r.state) → going_on r f
    ≡ going_on r g
same_rest r f g h = go r.ended h
  where
    go : (e : Bool) → (e ≡ false → f r.state ≡ g r.state) → cond e r.lines (r.lines ++ f r.state)
        ≡ cond e r.lines (r.lines ++ g r.state)
    go true same = refl
    go false same = ap (λ l. r.lines ++ l) (same refl)

-- The calls, block by block, give the lines of all calls.
pub in_blocks_law : (closed : Bool) (turns : ℕ) (b : Board) (st : State) (n : ℕ) (s : List ℕ) (t : List (List ℕ))
    → n < turns → length s ≤ block_room
    → Ended closed n s t
    → in_blocks closed turns b st n s t ≡ calls_by closed b st n (s ++ together t)
unfolding in_blocks
in_blocks_law closed zero b st n s t enough holds ends = absurd (omega arith)
in_blocks_law closed (suc turns) b st n s t enough holds ends =
    same_rest r turn rest (λ e. rw (all_carried_out b k st s e)
    (go (eqb k 0) refl r.state (λ m s' t' less fits done. in_blocks_law closed turns b
    r.state m s' t' less fits done)))
    ∙ sym (piece_then_rest closed b k n st s (together t) (omega arith) (omega arith))
  where
    k : ℕ
    k = budget n s lines_room

    r : Ran
    r = ran b st k s

    next : ℕ → State → List ℕ
    next calls st' =
        waited closed (call_there (n - calls)) (fed block_room (call_there (n - calls)) (drop (8 * calls) s) t)
        (λ s' t'. in_blocks closed turns b st' (n - calls) s' t')

    turn : State → List ℕ
    turn st' = cond (eqb r.calls 0) (end_line n s) (next r.calls st')

    rest : State → List ℕ
    rest st' = calls_by closed b st' (n - k) (drop (8 * k) s ++ together t)

    go : (none : Bool) → eqb k 0 ≡ none → (st' : State)
        → ((m : ℕ) (s' : List ℕ) (t' : List (List ℕ)) → m < turns → length s' ≤ block_room → Ended closed m s' t'
        → in_blocks closed turns b st' m s' t' ≡ calls_by closed b st' m (s' ++ together t'))
        → cond none (end_line n s) (next k st') ≡ rest st'
    go true e st' later =
        let zero_due : k ≡ 0 = eqb-true k 0 e in
        let same : n - 0 ≡ n = omega arith in
        rw (zero_due, same) (sym (last_block closed b st' n s t (sym (block_has_room n s holds) ∙ zero_due) ends))
    go false e st' later =
        let some : k ≡ 0 → ⊥ = eqb-false k 0 e in
        let less : n - k < turns = omega arith in
        let fits : length (drop (8 * k) s) ≤ block_room = simp length-drop (omega arith) in
        waits_for_call closed b (n - k) st' (drop (8 * k) s) t _ fits
        (λ s' t' fits' done. later (n - k) s' t' less fits' done)
