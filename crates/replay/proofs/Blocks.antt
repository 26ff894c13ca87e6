-- The loop over a block's records: its invariant, that each turn keeps it, and what it gives at the end. Assumes
-- nothing.
use Prim.Native.Nat.{ℕ, suc, ◌+◌, ◌-◌, ◌*◌, ◌≤◌, ◌<◌}
use mathlib.Core.Path.{◌≡◌, refl, ap, sym, ◌∙◌}
use mathlib.Core.Bool.{Bool, true, false, cond, not}
use mathlib.Core.List.{List, [], ◌++◌}
use native.Mathlib.Nat.{add-zero, le_refl}
use native.Mathlib.Omega.{arith}
use mir.Val.{bool_byte}
use lib.Dec.{eqb}
use lib.ListN.{length, take, drop, length-append, length-drop, take-append-drop}
use lib.Seq.{drop-drop, take_all}
use Rattle.rules.specs.declared.states.Board.{Board}
use Rattle.rules.specs.declared.states.State.{State}
use Rattle.encoding.specs.Buffers.{overwritten}
use Rattle.digits.specs.Digits.{hex_pairs}
use Rattle.listings.specs.PlainLines.{line_fault, line_buffer}
use Rattle.listings.proofs.Room.{fitting_line, fitting_buffer}
use Rattle.replay.specs.Steps.{Stands, stands}
use Rattle.replay.specs.Records.{record_step}
use Rattle.replay.specs.Budgets.{line_room}
use Rattle.replay.specs.declared.RanBlock.{RanBlock}
use Rattle.replay.specs.Blocks.{Ran, ran, ran_block}
use Rattle.replay.proofs.Records.{step, step_room, front, remaining, step_then_more}
use Rattle.replay.proofs.Turns.{over_over}

-- Before a record, or after one that ended the replay: what is left, from the state st and the bytes after the calls so
-- far, still gives the whole block.
pub record Leaves (whole : Ran) (b : Board) (due : ℕ) (s out₀ : List ℕ) (st : State) (calls at : ℕ) (ended : Bool)
    (out : List ℕ) : Type 0 where
  pub some : calls ≤ due
  pub room : ended ≡ false → at ≤ line_room * calls
  pub long : length out ≡ length out₀
  pub stands : overwritten out at (remaining ended b st (due - calls) (drop (8 * calls) s)).lines
      ≡ overwritten out₀ 0 whole.lines
  pub size : at + length (remaining ended b st (due - calls) (drop (8 * calls) s)).lines ≡ length whole.lines
  pub after : (remaining ended b st (due - calls) (drop (8 * calls) s)).state ≡ whole.state
  pub counts : calls + (remaining ended b st (due - calls) (drop (8 * calls) s)).calls ≡ whole.calls
  pub ends : (remaining ended b st (due - calls) (drop (8 * calls) s)).ended ≡ whole.ended

-- A record is one call, or it ends the replay and is no call.
at_most_one : (ended : Bool) → bool_byte (not ended) ≤ 1
at_most_one true = omega arith
at_most_one false = omega arith

-- A line takes no more bytes than its room, wherever it is written.
pub written_room : (pairs : List ℕ) (b : Board) (st : State) (s : List ℕ) (size at : ℕ) (r : Stands) → pairs ≡ hex_pairs
    → r ≡ stands (record_step pairs b st s) size at
    → r.written ≤ line_room
unfolding stands
written_room pairs b st s size at r table told =
    let e : r ≡ stands (step b st s) size at = rw table at told in
    omega (
      arith,
      ap (λ (x : Stands). x.written) e,
      at_most (eqb (line_fault (step b st s).line size at) 0)
          (length (step b st s).line),
      step_room b st s,
    )
  where
    at_most : (t : Bool) (n : ℕ) → cond t n 0 ≤ n
    at_most true n = omega arith
    at_most false n = omega arith

-- After the last call, and after a refusal, nothing is left.
module _ (whole : Ran) (b : Board) (due : ℕ) (s out₀ : List ℕ) (st : State) (calls at : ℕ) (out : List ℕ) where
  all_done : (ended : Bool) → Leaves whole b due s out₀ st calls at ended out
      → remaining ended b st (due - calls) (drop (8 * calls) s)
      ≡ record { lines = []; state = st; calls = 0; ended = ended }
      → (◌≡◌ {A = RanBlock} (record { state = st; calls = calls; written = at; ended = ended }) (ran_block whole))
      × (out ≡ overwritten out₀ 0 whole.lines)
  all_done ended h none =
      let size : at + 0 ≡ length whole.lines = rw none at h.size in
      let counts : calls + 0 ≡ whole.calls = rw none at h.counts in
      let after : st ≡ whole.state = rw none at h.after in
      let ends : ended ≡ whole.ended = rw none at h.ends in
      let stands : overwritten out at [] ≡ overwritten out₀ 0 whole.lines = rw none at h.stands in
      let w : at ≡ length whole.lines = omega arith in
      let n : calls ≡ whole.calls = omega arith in (
        λ i. record { state = after i; calls = n i; written = w i; ended = ends i },
        rw (add-zero, take-append-drop) at stands,
      )

  pub after_refusal : Leaves whole b due s out₀ st calls at true out
      → (◌≡◌ {A = RanBlock} (record { state = st; calls = calls; written = at; ended = true }) (ran_block whole))
      × (out ≡ overwritten out₀ 0 whole.lines)
  after_refusal h = all_done true h refl

  pub after_last : due ≤ calls → Leaves whole b due s out₀ st calls at false out
      → (◌≡◌ {A = RanBlock} (record { state = st; calls = due; written = at; ended = false }) (ran_block whole))
      × (out ≡ overwritten out₀ 0 whole.lines)
  unfolding ran
  after_last e h =
      let none : due - calls ≡ 0 = omega arith in
      let all : due ≡ calls = omega (arith, h.some) in
      let both = all_done false h (rw none refl) in
      (ap (λ (n : ℕ). record { state = st; calls = n; written = at; ended = false }) all ∙ both.0, both.1)

module _ (whole : Ran) (b : Board) (due : ℕ) (s out₀ : List ℕ) (st : State) (calls at : ℕ) (out : List ℕ)
    (h : Leaves whole b due s out₀ st calls at false out) (more : calls < due) (fits : line_room * due ≤ length out₀)
  where
    -- The bytes after the calls so far, and the step of the record at their start.
    abbrev rest : List ℕ
    rest = drop (8 * calls) s

    line_fits : at + length (step b st rest).line ≤ length out
    line_fits = omega (arith, h.room refl, h.long, step_room b st rest)

    module _ (pairs : List ℕ) (table : pairs ≡ hex_pairs) (r : Stands) (out' : List ℕ)
        (told : r ≡ stands (record_step pairs b st (take (length s - 8 * calls) (drop (8 * calls) s))) (length out) at)
        (put : out' ≡ line_buffer (record_step pairs b st (take (length s - 8 * calls) (drop (8 * calls) s))).line out
        at) (kept : length out' ≡ length out) where
      -- All bytes from the position on are lent.
      lent : take (length s - 8 * calls) (drop (8 * calls) s) ≡ drop (8 * calls) s
      lent = take_all (length s - 8 * calls) (drop (8 * calls) s) (rw length-drop (le_refl _))

      e : r ≡ stands (step b st rest) (length out) at
      e = rw (table, lent) at told

      eo : out' ≡ overwritten out at (step b st rest).line
      eo = (rw (table, lent) at put) ∙ fitting_buffer (step b st rest).line out at line_fits

      one_written : r.written ≡ length (step b st rest).line
      unfolding stands
      one_written = ap (λ (x : Stands). x.written) e
          ∙ ap (λ x. x.value) (fitting_line (step b st rest).line out at line_fits)

      module _ (n : ℕ) (one : n ≡ bool_byte (not r.ended)) where
        one_call : r.ended ≡ false → n ≡ 1
        one_call k = one ∙ rw k refl

        abbrev later : Ran
        later = remaining r.ended b r.state (due - (calls + n)) (drop (8 * (calls + n)) s)

        behind : (t : Bool) → n ≡ bool_byte (not t)
            → remaining t b r.state (due - (calls + 1)) (drop 8 rest)
            ≡ remaining t b r.state (due - (calls + n)) (drop (8 * (calls + n)) s)
        behind true k = refl
        behind false k =
            let eight : 8 * calls + 8 ≡ 8 * (calls + 1) = omega arith in
            rw (k, drop-drop 8 (8 * calls) s, eight) refl

        split : remaining false b st (due - calls) rest ≡ front (step b st rest).line n later
        unfolding stands
        split =
            let left_over : due - calls ≡ suc (due - (calls + 1)) = omega (arith, more) in
            let state : r.state ≡ (step b st rest).state = ap (λ (x : Stands). x.state) e in
            let end : r.ended ≡ (step b st rest).ended = ap (λ (x : Stands). x.ended) e in
            rw (
              left_over,
              step_then_more b st (due - (calls + 1)) rest,
              ← end,
              ← state,
              ← one,
              behind
                  r.ended one,
            ) refl

        -- After a record.
        next_turn : Leaves whole b due s out₀ r.state (calls + n) (at + r.written) r.ended out'
        next_turn =
            let lines : (remaining false b st (due - calls) rest).lines
            ≡ (step b st rest).line ++ later.lines = ap (λ (x : Ran). x.lines) split in
            record {
              some = omega (arith, more, one, at_most_one r.ended);
              room = λ k. omega (arith, h.room refl, one_call k, one_written, step_room b st rest);
              long = kept ∙ h.long;
              stands = rw (eo, one_written) (over_over out at (step b st rest).line later.lines line_fits
                  ∙ ap (overwritten out at) (sym lines) ∙ h.stands);
              size = omega (
                arith,
                one_written,
                h.size,
                ap length lines
                    ∙ length-append (step b st rest).line later.lines,
              );
              after = sym (ap (λ (x : Ran). x.state) split) ∙ h.after;
              counts = omega (arith, ap (λ (x : Ran). x.calls) split, h.counts);
              ends = sym (ap (λ (x : Ran). x.ended) split) ∙ h.ends;
            }

      pub after_call : r.ended ≡ false → Leaves whole b due s out₀ r.state (calls + 1) (at + r.written) false out'
      after_call go_on = rw go_on at (next_turn 1 (rw go_on refl))

      pub at_refusal : r.ended ≡ true → Leaves whole b due s out₀ r.state calls (at + r.written) true out'
      at_refusal stop = rw (stop, add-zero) at (next_turn 0 (rw stop refl))
