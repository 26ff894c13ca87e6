-- Every run of reads, writes and direct calls from a block of zeros: what is pending, the interrupt line, and the
-- calls. Assumes nothing.
use Prim.Native.Nat.{ℕ, suc, ◌+◌, ◌/◌, ◌%◌, ◌<◌}
use mathlib.Core.Path.{◌≡◌, refl, sym, ap, ap₂, subst, ◌∙◌}
use mathlib.Core.Bool.{Bool, true, false, cond, not, ◌&&◌, ◌||◌, and-true, or-false, or-true, true≢false}
use mathlib.Core.List.{List, [], ◌∷◌, ◌++◌}
use native.Mathlib.Omega.{arith}
use lib.Dec.{eqb, lit<}
use lib.ListN.{length, get_or}
use Rattle.masks.specs.Sets.{bit, some}
use Rattle.masks.proofs.Places.{bit_zero}
use Rattle.encoding.specs.Numbers.{number}
use Rattle.encoding.proofs.Bytes.{AreBytes, bytes_none, bytes_cons}
use Rattle.plans.specs.declared.Plan.{Plan}
use Rattle.plans.specs.Acceptance.{plan_fault}
use Rattle.rules.specs.declared.calls.Call.{Call}
use Rattle.rules.specs.Replies.{Response}
use Rattle.rules.specs.declared.states.Board.{Board}
use Rattle.rules.specs.declared.states.State.{State}
use Rattle.rules.specs.Calls.{answered}
use Rattle.boards.specs.Fresh.{board_of}
use Rattle.registers.specs.Registers.{pending_in, raised, line_of}
use Rattle.register_block.specs.Calls.{command_call}
use Rattle.register_block.specs.Commands.{WriteAnswer, register_write}
use Rattle.runs.specs.Events.{events, state_after}
use Rattle.runs.proofs.refinement.WholeRuns.{whole_runs}
use Rattle.register_runs.specs.Steps.{Step, reads, writes, calls, Device, fresh_device, stepped, after, carries}
use Rattle.register_runs.specs.Steps.{grants, clears, unanswered, calls_in, calls_of, reply_in, seen_in, seen_of}
use Rattle.register_runs.specs.Claim.{PendingAreGrants, GrantStays, LineIsRight, CallsOfRun}
use Rattle.register_runs.specs.Claim.{RegisterRuns}
use Rattle.register_runs.proofs.Replies.{answer_holdable}
use Rattle.register_runs.proofs.Blocks.{Whole, stored_whole, stored_line, stored_pending, replied_whole}
use Rattle.register_runs.proofs.Blocks.{replied_line, replied_pending, replied_reply}
use Rattle.register_runs.proofs.Writes.{Wrote, unchanged, kept, carried, wrote}

-- What is true of every block of a run.
record Sound (d : Device) : Type 0 where
  whole : Whole d.block.bytes
  line : get_or d.block.bytes 28 0 ≡ line_of d.block.bytes

-- ---- one step

step_sound : (b : Board) (d : Device) (s : Step) → Sound d → Sound (stepped b d s)
step_sound b d (reads o) h = h
step_sound b d (calls c) h = record { whole = h.whole; line = h.line }
step_sound b d (writes o v) h = go (wrote b d.state d.block v o)
  where
    go : Wrote b d.state d.block o v → Sound (stepped b d (writes o v))
    go (unchanged n c free e) =
        record {
          whole = subst (λ (w : WriteAnswer). Whole w.block.bytes) (sym e) h.whole;
          line = subst (λ (w : WriteAnswer). get_or w.block.bytes 28 0 ≡ line_of w.block.bytes) (sym e) h.line;
        }
    go (kept c e) =
        record {
          whole = subst (λ (w : WriteAnswer). Whole w.block.bytes) (sym e)
              (stored_whole d.block.bytes h.whole o v);
          line = subst (λ (w : WriteAnswer). get_or w.block.bytes 28 0 ≡ line_of w.block.bytes) (sym e)
              (stored_line d.block.bytes h.whole o v);
        }
    go (carried c free e) =
        let a = (answered b d.state (command_call d.block.bytes v)).reply in
        let held = answer_holdable b d.state (command_call d.block.bytes v) in
        record {
          whole = subst (λ (w : WriteAnswer). Whole w.block.bytes) (sym e)
              (replied_whole d.block.bytes h.whole a held);
          line = subst (λ (w : WriteAnswer). get_or w.block.bytes 28 0 ≡ line_of w.block.bytes) (sym e)
              (replied_line d.block.bytes h.whole a held h.line);
        }

-- A grant sets a bit, a 1 that is written to the bit clears it, and nothing else changes it.
step_pending : (b : Board) (d : Device) (s : Step) → Sound d → (p : ℕ) → p < 32
    → bit (pending_in (stepped b d s).block.bytes) p
    ≡ ((bit (pending_in d.block.bytes) p || grants b d s p) && not (clears s p))
step_pending b d (reads o) h p few = sym (and-true _ ∙ or-false _)
step_pending b d (calls c) h p few = sym (and-true _ ∙ or-false _)
step_pending b d (writes o v) h p few = go (wrote b d.state d.block v o)
  where
    was : Bool
    was = bit (pending_in d.block.bytes) p

    granted : Bool
    granted = bit (answered b d.state (command_call d.block.bytes v)).reply.granted p

    byte : p / 8 < 4
    byte = omega arith

    go : Wrote b d.state d.block o v
        → bit (pending_in (register_write b d.state d.block o v).block.bytes) p
        ≡ ((was || (carries o v && granted)) && not (eqb o (20 + p / 8) && bit v (p % 8)))
    go (unchanged n c free e) =
        ap (λ (w : WriteAnswer). bit (pending_in w.block.bytes) p) e
        ∙ sym (ap₂ (λ t u. (was || (t && granted)) && not (u && bit v (p % 8))) c (free (p / 8) byte) ∙ and-true _
        ∙ or-false _)
    go (kept c e) =
        ap (λ (w : WriteAnswer). bit (pending_in w.block.bytes) p) e
        ∙ stored_pending d.block.bytes h.whole o v p few
        ∙ sym (ap (λ t. (was || (t && granted)) && not (eqb o (20 + p / 8) && bit v (p % 8))) c
        ∙ ap (λ t. t && not (eqb o (20 + p / 8) && bit v (p % 8))) (or-false was))
    go (carried c free e) =
        ap (λ (w : WriteAnswer). bit (pending_in w.block.bytes) p) e
        ∙ replied_pending d.block.bytes h.whole _
        (answer_holdable b d.state (command_call d.block.bytes v)) p few
        ∙ sym (ap₂ (λ t u. (was || (t && granted)) && not (u && bit v (p % 8))) c (free (p / 8) byte) ∙ and-true _)

-- The replies that are seen are those of the calls, and so is the state.
step_seen : (b : Board) (d : Device) (s : Step) → Sound d → seen_in b d s ≡ events b d.state (calls_in d s)
unfolding events
step_seen b d (reads o) h = refl
step_seen b d (calls c) h = refl
step_seen b d (writes o v) h = go (wrote b d.state d.block v o)
  where
    call : Call
    call = command_call d.block.bytes v

    none : carries o v ≡ false → seen_in b d (writes o v) ≡ events b d.state (calls_in d (writes o v))
    none c =
        ap (λ t. cond t (record {
          call = call;
          reply = reply_in
              (register_write b d.state d.block o v).block.bytes;
        } ∷ []) []) c
        ∙ sym (ap (λ t. events b d.state (cond t (call ∷ []) [])) c)

    go : Wrote b d.state d.block o v → seen_in b d (writes o v) ≡ events b d.state (calls_in d (writes o v))
    go (unchanged n c free e) = none c
    go (kept c e) = none c
    go (carried c free e) =
        ap (λ t. cond t (record {
          call = call;
          reply = reply_in
              (register_write b d.state d.block o v).block.bytes;
        } ∷ []) []) c
        ∙ ap (λ (r : Response). record { call = call; reply = r } ∷ [])
        (ap (λ (w : WriteAnswer). reply_in w.block.bytes) e
        ∙ replied_reply d.block.bytes h.whole _ (answer_holdable b d.state call))
        ∙ sym (ap (λ t. events b d.state (cond t (call ∷ []) [])) c)

step_state : (b : Board) (d : Device) (s : Step) → (stepped b d s).state ≡ state_after b d.state (calls_in d s)
unfolding state_after
step_state b d (reads o) = refl
step_state b d (calls c) = refl
step_state b d (writes o v) = go (wrote b d.state d.block v o)
  where
    call : Call
    call = command_call d.block.bytes v

    go : Wrote b d.state d.block o v → (register_write b d.state d.block o v).state
        ≡ state_after b d.state (cond (carries o v) (call ∷ []) [])
    go (unchanged n c free e) = ap (λ (w : WriteAnswer). w.state) e
        ∙ sym (ap (λ t. state_after b d.state (cond t (call ∷ []) [])) c)
    go (kept c e) = ap (λ (w : WriteAnswer). w.state) e
        ∙ sym (ap (λ t. state_after b d.state (cond t (call ∷ []) [])) c)
    go (carried c free e) = ap (λ (w : WriteAnswer). w.state) e
        ∙ sym (ap (λ t. state_after b d.state (cond t (call ∷ []) [])) c)

-- ---- lists of calls, in two parts

events_append : (b : Board) (s : State) (first later : List Call) → events b s (first ++ later)
    ≡ events b s first ++ events b (state_after b s first) later
unfolding events state_after
events_append b s [] later = refl
events_append b s (c ∷ first) later = ap (λ r. record { call = c; reply = (answered b s c).reply } ∷ r)
    (events_append b (answered b s c).state first later)

state_append : (b : Board) (s : State) (first later : List Call) → state_after b s (first ++ later)
    ≡ state_after b (state_after b s first) later
unfolding state_after
state_append b s [] later = refl
state_append b s (c ∷ first) later = state_append b (answered b s c).state first later

-- ---- runs

after_sound : (b : Board) (d : Device) (steps : List Step) → Sound d → Sound (after b d steps)
unfolding after
after_sound b d [] h = h
after_sound b d (s ∷ later) h = after_sound b (stepped b d s) later (step_sound b d s h)

after_pending : (b : Board) (d : Device) (steps : List Step) → Sound d → (p : ℕ) → p < 32
    → bit (pending_in (after b d steps).block.bytes) p ≡ unanswered b d (bit (pending_in d.block.bytes) p) steps p
unfolding after unanswered
after_pending b d [] h p few = refl
after_pending b d (s ∷ later) h p few =
    after_pending b (stepped b d s) later (step_sound b d s h) p few
    ∙ ap (λ t. unanswered b (stepped b d s) t later p) (step_pending b d s h p few)

after_seen : (b : Board) (d : Device) (steps : List Step) → Sound d → seen_of b d steps
    ≡ events b d.state (calls_of b d steps)
unfolding seen_of calls_of events
after_seen b d [] h = refl
after_seen b d (s ∷ later) h =
    ap₂ ◌++◌ (step_seen b d s h)
    (after_seen b (stepped b d s) later (step_sound b d s h)
    ∙ ap (λ x. events b x (calls_of b (stepped b d s) later)) (step_state b d s))
    ∙ sym (events_append b d.state (calls_in d s) (calls_of b (stepped b d s) later))

after_state : (b : Board) (d : Device) (steps : List Step) → (after b d steps).state
    ≡ state_after b d.state (calls_of b d steps)
unfolding after calls_of state_after
after_state b d [] = refl
after_state b d (s ∷ later) =
    after_state b (stepped b d s) later
    ∙ ap (λ x. state_after b x (calls_of b (stepped b d s) later)) (step_state b d s)
    ∙ sym (state_append b d.state (calls_in d s) (calls_of b (stepped b d s) later))

after_append : (b : Board) (d : Device) (first later : List Step) → after b d (first ++ later)
    ≡ after b (after b d first) later
unfolding after
after_append b d [] later = refl
after_append b d (s ∷ first) later = after_append b (stepped b d s) first later

-- ---- from a block of zeros

fresh_sound : Sound fresh_device
unfolding raised some bit number
fresh_sound =
    record {
      whole =
          record {
            full = refl;
            small = zeros;
          };
      line = refl;
    }
  where
    zeros : AreBytes (0 ∷ 0 ∷ 0 ∷ 0 ∷ [])
    zeros =
        bytes_cons 0 (0 ∷ 0 ∷ 0 ∷ []) (lit< tt)
        (bytes_cons 0 (0 ∷ 0 ∷ []) (lit< tt) (bytes_cons 0 (0 ∷ []) (lit< tt) (bytes_cons 0 [] (lit< tt) bytes_none)))

none_pending : (p : ℕ) → bit (pending_in fresh_device.block.bytes) p ≡ false
unfolding number
none_pending p = bit_zero p

pub pending_are_grants : (b : Board) (steps : List Step) → PendingAreGrants b steps
pending_are_grants b steps p few =
    after_pending b fresh_device steps fresh_sound p few ∙ ap (λ t. unanswered b fresh_device t steps p) (none_pending p)

pub line_is_right : (b : Board) (steps : List Step) → LineIsRight b steps
line_is_right b steps = (after_sound b fresh_device steps fresh_sound).line

pub calls_of_run : (b : Board) (steps : List Step) → CallsOfRun b steps
calls_of_run b steps = record {
  replies = after_seen b fresh_device steps fresh_sound;
  state = after_state b fresh_device
      steps;
}

-- ---- a grant's bit

-- A command that grants writes no 1 to a pending bit.
grant_clears_none : (b : Board) (d : Device) (s : Step) (p : ℕ) → p < 32 → grants b d s p ≡ true → clears s p ≡ false
grant_clears_none b d (reads o) p few g = refl
grant_clears_none b d (calls c) p few g = refl
grant_clears_none b d (writes o v) p few g = go (wrote b d.state d.block v o)
  where
    granted : Bool
    granted = bit (answered b d.state (command_call d.block.bytes v)).reply.granted p

    byte : p / 8 < 4
    byte = omega arith

    go : Wrote b d.state d.block o v → (eqb o (20 + p / 8) && bit v (p % 8)) ≡ false
    go (unchanged n c free e) = ap (λ t. t && bit v (p % 8)) (free (p / 8) byte)
    go (kept c e) = absurd (true≢false (sym g ∙ ap (λ t. t && granted) c))
    go (carried c free e) = ap (λ t. t && bit v (p % 8)) (free (p / 8) byte)

-- If no 1 is written to the bit, it stays.
stays : (b : Board) (d : Device) (other : Step) (later : List Step) (p : ℕ)
    → ((i : ℕ) → i < length later → clears (get_or later i other) p ≡ false)
    → unanswered b d true later p ≡ true
unfolding unanswered
stays b d other [] p none = refl
stays b d other (s ∷ later) p none =
    ap (λ t. unanswered b (stepped b d s) (not t) later p) (none 0 (omega arith))
    ∙ stays b (stepped b d s) other later p (λ i l. none (suc i) (omega arith))

pub grant_stays : (b : Board) (before : List Step) (command : Step) (later : List Step)
    → GrantStays b before command later
unfolding after
grant_stays b before command later p few g none =
    ap (λ (d : Device). bit (pending_in d.block.bytes) p) (after_append b fresh_device before (command ∷ later))
    ∙ after_pending b (stepped b d command) later (step_sound b d command h) p few
    ∙ ap (λ t. unanswered b (stepped b d command) t later p) (step_pending b d command h p few ∙ set)
    ∙ stays b (stepped b d command) command later p none
  where
    d : Device
    d = after b fresh_device before

    h : Sound d
    h = after_sound b fresh_device before fresh_sound

    set : ((bit (pending_in d.block.bytes) p || grants b d command p) && not (clears command p)) ≡ true
    set =
        ap₂ (λ t u. (bit (pending_in d.block.bytes) p || t) && not u) g (grant_clears_none b d command p few g)
        ∙ and-true _
        ∙ or-true (bit (pending_in d.block.bytes) p)

-- ---- all of it

-- For every accepted plan and every run, with demand 3 for the calls of the run.
pub register_runs : (p : Plan) → plan_fault p ≡ 0 → (steps : List Step) → RegisterRuns p steps
register_runs p taken steps =
    record {
      pending = pending_are_grants (board_of p) steps;
      line = line_is_right (board_of p) steps;
      calls = calls_of_run (board_of p) steps;
      whole = whole_runs p taken (calls_of (board_of p) fresh_device steps);
    }
