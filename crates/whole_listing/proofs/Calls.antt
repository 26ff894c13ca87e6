-- The lines of a log's calls, with the input closed after the bytes or still open: some records and then the rest, and
-- what fewer bytes than a record give. Assumes nothing.
use Prim.Native.Nat.{ℕ, zero, suc, ◌+◌, ◌-◌, ◌*◌, ◌≤◌, ◌<◌}
use mathlib.Core.Path.{◌≡◌, refl, ap, sym, ◌∙◌}
use mathlib.Core.Bool.{Bool, true, false, cond, ◌||◌}
use mathlib.Core.List.{List, [], ◌∷◌, ◌++◌, append_assoc}
use native.Mathlib.Nat.{zero-add, suc-add, add-sub_of_le}
use native.Mathlib.Omega.{arith}
use borrow.Author.Tests.{lt-leb, le-leb, ne_eqb}
use lib.Dec.{eqb, leb}
use lib.ListN.{length, drop, length-append, length-drop, get_or-append}
use lib.Seq.{slice, drop-drop, drop-append-le, take-append-le}
use Rattle.masks.proofs.Truth.{or_right}
use Rattle.rules.specs.declared.states.Board.{Board}
use Rattle.rules.specs.declared.states.State.{State}
use Rattle.logs.specs.Records.{record_size, fields_in, record_fault, tail_fault}
use Rattle.listings.specs.PlainLines.{refusal_line}
use Rattle.log_input.specs.Stages.{due_size}
use Rattle.replay.specs.Blocks.{ran, going_on}
use Rattle.replay.specs.Ends.{fault_line, end_fault, end_line}
use Rattle.replay.proofs.Records.{Found, found, line_in, state_in, ran_call, ran_refused}
use Rattle.whole_listing.specs.Listing.{calls_listing}
use Rattle.whole_listing.specs.SoFar.{calls_so_far}

-- The lines of n calls in the bytes s, with the input closed after them or still open.
unfoldable pub calls_by : Bool → Board → State → ℕ → List ℕ → List ℕ
calls_by closed b st zero s = fault_line (tail_fault s)
calls_by closed b st (suc n) s =
    cond (closed || leb record_size (length s))
    (cond (eqb (record_fault s) 0) (line_in b st s ++ calls_by closed b (state_in b st s) n (drop record_size s))
    (refusal_line (record_fault s)))
    []

pub closed_calls : (b : Board) (n : ℕ) (st : State) (s : List ℕ) → calls_by true b st n s ≡ calls_listing b st n s
unfolding calls_by calls_listing
closed_calls b zero st s = refl
closed_calls b (suc n) st s = rw (closed_calls b n (state_in b st s) (drop record_size s))

pub open_calls : (b : Board) (n : ℕ) (st : State) (s : List ℕ) → calls_by false b st n s ≡ calls_so_far b st n s
unfolding calls_by calls_so_far
open_calls b zero st s = refl
open_calls b (suc n) st s = rw (open_calls b n (state_in b st s) (drop record_size s))

-- A record that is whole gives a call's line and what follows it, or a refusal's line.
module _ (closed : Bool) (b : Board) (st : State) (s : List ℕ) (k : ℕ) (there : record_size ≤ length s) where
  looked_at : (closed || leb record_size (length s)) ≡ true
  looked_at = or_right closed (leb record_size (length s)) (le-leb record_size (length s) there)

  pub listed_call : record_fault s ≡ 0
      → calls_by closed b st (suc k) s ≡ line_in b st s ++ calls_by closed b (state_in b st s) k (drop record_size s)
  unfolding calls_by
  listed_call e = rw (looked_at, e)

  pub listed_refused : eqb (record_fault s) 0 ≡ false → calls_by closed b st (suc k) s ≡ refusal_line (record_fault s)
  unfolding calls_by
  listed_refused e = rw (looked_at, e)

-- A line in front of what some records and the rest give.
line_in_front : (line : List ℕ) (e : Bool) (x y : List ℕ) → line ++ cond e x (x ++ y)
    ≡ cond e (line ++ x) ((line ++ x) ++ y)
line_in_front line true x y = refl
line_in_front line false x y = sym (append_assoc line x y)

-- The bytes after one more record.
drop_record : (k : ℕ) (s : List ℕ) → drop (record_size * suc k) s ≡ drop (record_size * k) (drop record_size s)
drop_record k s =
    let e : 8 * suc k ≡ 8 + 8 * k = omega arith in
    ap (λ (n : ℕ). drop n s) e ∙ sym (drop-drop (8 * k) 8 s)

-- The lines of k records that are there and of m more are the lines of the k records, and then what follows them.
records_then_rest : (closed : Bool) (b : Board) (k m : ℕ) (st : State) (s : List ℕ) → record_size * k ≤ length s
    → calls_by closed b st (k + m) s ≡ going_on (ran b st k s) (λ st'. calls_by closed b st' m (drop (record_size * k) s))
unfolding ran
records_then_rest closed b zero m st s whole = rw zero-add
records_then_rest closed b (suc k) m st s whole =
    let later = ran b (state_in b st s) k (drop record_size s) in
    let there : 8 ≤ length s = omega arith in
    let rest : 8 * k ≤ length (drop 8 s) = simp length-drop (omega arith) in
    elim (found s) [
      | Found.call e ↦ rw (
        suc-add,
        drop_record,
        listed_call closed b st s
            (k + m) there e,
        ran_call b st s k e,
        records_then_rest closed b k m (state_in b st s)
            (drop record_size s) rest,
      )
          (line_in_front (line_in b st s) later.ended later.lines _)
      | Found.refused e ↦ rw (suc-add, listed_refused closed b st s (k + m) there e, ran_refused b st s k e)
    ]

-- If no refusal ended the records, all of them were carried out.
pub all_carried_out : (b : Board) (k : ℕ) (st : State) (s : List ℕ) → (ran b st k s).ended ≡ false → (ran b st k s).calls
    ≡ k
unfolding ran
all_carried_out b zero st s e = refl
all_carried_out b (suc k) st s e =
    elim (found s) [
      | Found.call h ↦ rw (ran_call b st s k h)
          (ap suc (all_carried_out b k (state_in b st s) (drop record_size s) (rw (ran_call b st s k h) at e)))
      | Found.refused h ↦ absurd (no_end (rw (ran_refused b st s k h) at e))
    ]
  where
    no_end : true ≡ false → ⊥
    no_end h = let z : ◌≡◌ {A = ℕ} 0 1 = cc in omega arith

-- A record that is whole in s is read from s, whatever follows.
module _ (s t : List ℕ) (h : record_size ≤ length s) where
  pub fields_in_front : fields_in (s ++ t) ≡ fields_in s
  unfolding fields_in
  fields_in_front =
      let h0 : 0 < length s = omega arith in
      let h1 : 1 < length s = omega arith in
      let h2 : 2 < length s = omega arith in
      let tick : slice 3 8 (s ++ t) ≡ slice 3 8 s = ap (drop 3) (take-append-le 8 s t h) in
      rw (get_or-append s t 0 0 h0, get_or-append s t 0 1 h1, get_or-append s t 0 2 h2, tick)

  pub fault_in_front : record_fault (s ++ t) ≡ record_fault s
  unfolding record_fault
  fault_in_front =
      let longer : 8 ≤ length (s ++ t) = simp length-append (omega arith) in
      rw (fields_in_front, le-leb 8 (length (s ++ t)) longer, le-leb 8 (length s) h)

-- The same for several records.
records_in_front : (b : Board) (k : ℕ) (st : State) (s t : List ℕ) → record_size * k ≤ length s → ran b st k (s ++ t)
    ≡ ran b st k s
unfolding ran
records_in_front b zero st s t h = refl
records_in_front b (suc k) st s t h =
    let one : 8 ≤ length s = omega arith in
    let later : 8 * k ≤ length (drop 8 s) = simp length-drop (omega arith) in
    rw (
      fault_in_front s t one,
      fields_in_front s t one,
      drop-append-le 8 s t one,
      records_in_front b k (state_in b st s)
          (drop 8 s) t later,
    )

-- For the bytes s that have arrived and t that are still to come: the lines of the records in s, and then those of the
-- rest of s with t.
pub piece_then_rest : (closed : Bool) (b : Board) (k n : ℕ) (st : State) (s t : List ℕ) → k ≤ n
    → record_size * k ≤ length s
    → calls_by closed b st n (s ++ t) ≡ going_on (ran b st k s)
    (λ st'. calls_by closed b st' (n - k) (drop (record_size * k) s ++ t))
piece_then_rest closed b k n st s t h w =
    let longer : 8 * k ≤ length (s ++ t) = simp length-append (omega arith) in
    ap (λ (m : ℕ). calls_by closed b st m (s ++ t)) (sym (add-sub_of_le h))
    ∙ rw (
      records_then_rest closed b k (n - k) st (s ++ t) longer,
      records_in_front b k st s t w,
      drop-append-le
          (8 * k) s t w,
    )

-- While a call is left, the program waits for a record.
pub record_due_law : (n : ℕ) → due_size (suc n) ≡ record_size
record_due_law n = rw (ne_eqb (suc n) 0 (λ e. omega arith))

-- With fewer bytes than the program waits for: at the end of the input the line that ends the listing, if any, and
-- otherwise nothing.
pub end_of_input : (b : Board) (n : ℕ) (st : State) (s : List ℕ) → length s < due_size n → calls_by true b st n s
    ≡ end_line n s
unfolding calls_by end_fault record_fault
end_of_input b zero st s h = refl
end_of_input b (suc n) st s h =
    let few : length s < 8 = omega (arith, record_due_law n) in
    rw (lt-leb 8 (length s) few, ne_eqb (suc n) 0 (λ e. omega arith))

pub still_open : (b : Board) (n : ℕ) (st : State) (s : List ℕ) → length s < due_size n → calls_by false b st n s ≡ []
unfolding calls_by
still_open b zero st [] h = refl
still_open b zero st (x ∷ s) h = absurd (omega arith)
still_open b (suc n) st s h =
    let few : length s < 8 = omega (arith, record_due_law n) in
    rw (lt-leb 8 (length s) few)

-- A byte after the last call gives its line, whatever follows it.
pub tail_is_told : (closed : Bool) (b : Board) (st : State) (s t : List ℕ) → 0 < length s
    → calls_by closed b st 0 (s ++ t) ≡ end_line 0 s
unfolding calls_by end_fault
tail_is_told closed b st [] t h = absurd (omega arith)
tail_is_told closed b st (x ∷ s) t h =
    rw (ne_eqb (length (x ∷ (s ++ t))) 0 (λ e. omega arith), ne_eqb (length (x ∷ s)) 0 (λ e. omega arith))
