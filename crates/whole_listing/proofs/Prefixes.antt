-- What is written before a piece arrives stays at the front of what is written after it: it depends on the earlier
-- pieces alone. Assumes nothing.
use Prim.Native.Nat.{ℕ, zero, suc, ◌≤◌}
use mathlib.Core.Path.{◌≡◌, refl, ap, sym, ◌∙◌}
use mathlib.Core.Bool.{Bool, true, false}
use mathlib.Core.List.{List, [], ◌∷◌, ◌++◌, append_assoc, append-nil}
use native.Mathlib.Omega.{arith}
use borrow.Author.Tests.{leb-true, leb-false, eqb-true}
use lib.Dec.{eqb, leb}
use lib.ListN.{length, drop, length-append}
use lib.Seq.{drop-append-le}
use Rattle.encoding.proofs.Room.{enough_at}
use Rattle.plans.specs.Reading.{read_fault, read_as_numbers, plan_read}
use Rattle.rules.specs.declared.states.Board.{Board}
use Rattle.rules.specs.declared.states.State.{State}
use Rattle.rules.specs.CallNumbers.{Fields, call_of}
use Rattle.rules.specs.Calls.{answered}
use Rattle.boards.specs.Fresh.{board_of, fresh_state}
use Rattle.logs.specs.Records.{count_size, record_size, read_count}
use Rattle.listings.specs.Lines.{first_line, call_line}
use Rattle.replay.proofs.Records.{Found, found, line_in, state_in}
use Rattle.whole_listing.specs.SoFar.{Begins}
use Rattle.whole_listing.specs.Arrivals.{together, plan_there, count_there, program_listing}
use Rattle.whole_listing.proofs.Calls.{calls_by, listed_call, listed_refused, fields_in_front, fault_in_front}
use Rattle.whole_listing.proofs.Calls.{still_open, tail_is_told, record_due_law}
use Rattle.whole_listing.proofs.Stages.{counted_by, listed_by}
use Rattle.whole_listing.proofs.Program as program

-- ---- beginnings

same : (x y : List ℕ) → x ≡ y → Begins x y
same x y e = record { rest = []; is = e ∙ sym (append-nil y) }

nothing : (x y : List ℕ) → y ≡ [] → Begins x y
nothing x y e = record { rest = x; is = ap (λ l. l ++ x) (sym e) }

begins_by : (x x' y y' : List ℕ) → x ≡ x' → y ≡ y' → Begins x' y' → Begins x y
begins_by x x' y y' ex ey b = record { rest = b.rest; is = ex ∙ b.is ∙ ap (λ l. l ++ b.rest) (sym ey) }

behind : (line x y : List ℕ) → Begins x y → Begins (line ++ x) (line ++ y)
behind line x y b = record { rest = b.rest; is = ap (λ l. line ++ l) b.is ∙ sym (append_assoc line y b.rest) }

-- ---- the calls

module _ (closed : Bool) (b : Board) where
  calls_begin : (n : ℕ) (st : State) (s u : List ℕ) → Begins (calls_by closed b st n (s ++ u)) (calls_by false b st n s)
  calls_begin zero st [] u = nothing _ _ (still_open b 0 st [] (omega arith))
  calls_begin zero st (x ∷ s) u =
      same _ _ (tail_is_told closed b st (x ∷ s) u (omega arith)
      ∙ sym (tail_is_told false b st (x ∷ s) [] (omega arith)) ∙ ap (calls_by false b st 0) (append-nil (x ∷ s)))
  calls_begin (suc n) st s u = go (leb record_size (length s)) refl
      (calls_begin n (state_in b st s) (drop record_size s) u)
    where
      go : (there : Bool) → leb record_size (length s) ≡ there
          → Begins (calls_by closed b (state_in b st s) n (drop record_size s ++ u))
          (calls_by false b (state_in b st s) n (drop record_size s))
          → Begins (calls_by closed b st (suc n) (s ++ u)) (calls_by false b st (suc n) s)
      go false e later = nothing _ _ (still_open b (suc n) st s
          (omega (arith, leb-false record_size (length s) e, record_due_law n)))
      go true e later =
          let one : 8 ≤ length s = leb-true 8 (length s) e in
          let longer : 8 ≤ length (s ++ u) = simp length-append (omega arith) in
          elim (found s) [
            | Found.call h ↦ begins_by _ _ _ _
                (listed_call closed b st (s ++ u) n longer (fault_in_front s u one ∙ h)
                ∙ ap (λ (f : Fields). call_line b.terms.processors (call_of f)
                (answered b st (call_of f)).reply ++ calls_by closed b (answered b st (call_of f)).state n
                (drop 8 (s ++ u))) (fields_in_front s u one)
                ∙ ap (λ d. line_in b st s ++ calls_by closed b (state_in b st s) n d) (drop-append-le 8 s u one))
                (listed_call false b st s n one h)
                (behind (line_in b st s) _ _ later)
            | Found.refused h ↦ same _ _
                (listed_refused closed b st (s ++ u) n longer (ap (λ f. eqb f 0) (fault_in_front s u one) ∙ h)
                ∙ rw (fault_in_front s u one) (sym (listed_refused false b st s n one h)))
          ]

  counted_begin : (st : State) (s u : List ℕ) → Begins (counted_by closed b st (s ++ u)) (counted_by false b st s)
  counted_begin st s u = go (count_there s) refl
    where
      go : (there : Bool) → count_there s ≡ there → Begins (counted_by closed b st (s ++ u)) (counted_by false b st s)
      go false e = nothing _ _ (rw e)
      go true e =
          let two : 2 ≤ length s = leb-true 2 (length s) e in
          let none : (read_count s).number ≡ 0 = enough_at count_size s two in
          begins_by _ _ _ _ (program.counted_from closed b st s u two none)
          (ap (counted_by false b st) (sym (append-nil s)) ∙ program.counted_from false b st s [] two none
          ∙ ap (calls_by false b st (read_count s).value) (append-nil (drop count_size s)))
          (calls_begin (read_count s).value st (drop count_size s) u)

-- ---- a whole log

listed_begin : (closed : Bool) (s u : List ℕ) → Begins (listed_by closed (s ++ u)) (listed_by false s)
unfolding listed_by
listed_begin closed s u = go (plan_there s) refl (eqb (read_fault s) 0) refl
  where
    alone : (x : List ℕ) → listed_by false (s ++ []) ≡ x → listed_by false s ≡ x
    alone x e = ap (listed_by false) (sym (append-nil s)) ∙ e

    rest : List ℕ
    rest = drop (read_as_numbers s).value s

    board : Board
    board = board_of (plan_read s)

    go : (there : Bool) → plan_there s ≡ there → (none : Bool) → eqb (read_fault s) 0 ≡ none
        → Begins (listed_by closed (s ++ u)) (listed_by false s)
    go false e none h = nothing _ _ (rw e)
    go true e false h = same _ _ (program.listed_refused closed s [] u e h
        ∙ sym (alone _ (program.listed_refused false s [] [] e h)))
    go true e true h =
        let fine : read_fault s ≡ 0 = eqb-true (read_fault s) 0 h in
        begins_by _ _ _ _ (program.listed_after closed s [] u e fine)
        (alone _ (program.listed_after false s [] [] e fine)
        ∙ ap (λ r. first_line (plan_read s) ++ counted_by false board fresh_state r) (append-nil rest))
        (behind (first_line (plan_read s)) _ _ (counted_begin closed board fresh_state rest u))

together_more : (now later : List (List ℕ)) → together (now ++ later) ≡ together now ++ together later
unfolding together
together_more [] later = refl
together_more (piece ∷ now) later =
    ap (λ l. piece ++ l) (together_more now later) ∙ sym (append_assoc piece (together now) (together later))

-- This holds whatever comes later, and whether or not the input is closed then.
pub written_stays : (closed : Bool) (now later : List (List ℕ))
    → Begins (program_listing closed (now ++ later)) (program_listing false now)
written_stays closed now later =
    begins_by _ _ _ _
    (program.program_lists closed (now ++ later) ∙ ap (listed_by closed) (together_more now later))
    (program.program_lists false now)
    (listed_begin closed (together now) (together later))
