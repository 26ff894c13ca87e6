-- Who waits for whom: the four ways. Both are processors of the plan and have a place in a state, on every board and
-- state. Assumes nothing.
use Prim.Native.Nat.{ℕ, ◌<◌}
use mathlib.Core.Path.{◌≡◌, sym, ◌∙◌}
use mathlib.Core.Bool.{Bool, true, not, ◌&&◌, ◌||◌}
use mathlib.Core.Logic.{⊎_elim}
use lib.Dec.{ltb}
use lib.ListN.{get_or}
use borrow.Author.Tests.{ltb-true}
use Rattle.masks.specs.Sets.{bit, mask_of}
use Rattle.masks.proofs.Masks.{bit_mask}
use Rattle.masks.proofs.Truth.{and_left, and_right, and_three, and_all_three, or_cases, or_left, or_right}
use Rattle.plans.specs.Entries.{max_processors}
use Rattle.rules.specs.declared.states.Phases.{Phases}
use Rattle.rules.specs.Requests.{Facts, is_writer, is_earlier, conflicts, unsatisfied, active, holding_read, holding_write}
use Rattle.rules.specs.Requests.{entitled_read, entitled_write, waiting_read, waiting_write}
use Rattle.rules.specs.declared.states.Board.{Board}
use Rattle.rules.specs.declared.states.State.{State}
use Rattle.rules.specs.CountedRequests.{has_processor, in_plan, is_holding, is_entitled, is_waiting, cleaned}
use Rattle.rules.specs.Calls.{facts_of, phases_of}
use Rattle.waits.specs.Waits.{waits_in}
use Rattle.queries.specs.Queries.{waits_for}

-- Clause 7.2: why p waits for q.
pub data Reason (f : Facts) (ph : Phases) (p q : ℕ) : Type 0 where
  entitled_read_law : entitled_read f ph p ≡ true → holding_write f ph q ≡ true → conflicts f p q ≡ true → Reason f ph p q
  waiting_read_law : waiting_read f ph p ≡ true → entitled_write f ph q ≡ true → conflicts f p q ≡ true → Reason f ph p q
  entitled_write_law : entitled_write f ph p ≡ true → holding_read f ph q ≡ true → conflicts f p q ≡ true → Reason f ph p q
  waiting_write_law : waiting_write f ph p ≡ true → is_earlier f q p ≡ true → active ph q ≡ true → is_writer f q ≡ true
      → conflicts f p q ≡ true → Reason f ph p q

module _ (f : Facts) (ph : Phases) (p q : ℕ) where
  abbrev c : Bool
  c = conflicts f p q

  -- The four cases of the definition, in its order.
  abbrev way1 : Bool
  way1 = entitled_read f ph p && (holding_write f ph q && c)

  abbrev way2 : Bool
  way2 = waiting_read f ph p && (entitled_write f ph q && c)

  abbrev way3 : Bool
  way3 = entitled_write f ph p && (holding_read f ph q && c)

  abbrev earlier_write : Bool
  earlier_write = is_earlier f q p && (active ph q && is_writer f q)

  abbrev way4 : Bool
  way4 = waiting_write f ph p && (earlier_write && c)

  pub waits_reason : waits_in f ph p q ≡ true → Reason f ph p q
  unfolding waits_in
  waits_reason e =
      ⊎_elim one (λ g. ⊎_elim two (λ h. ⊎_elim three four (or_cases way3 way4 h)) (or_cases way2 (way3 || way4) g))
      (or_cases way1 (way2 || (way3 || way4)) e)
    where
      one : way1 ≡ true → Reason f ph p q
      one h = let t = and_three (entitled_read f ph p) (holding_write f ph q) c h in entitled_read_law t.0 t.1 t.2

      two : way2 ≡ true → Reason f ph p q
      two h = let t = and_three (waiting_read f ph p) (entitled_write f ph q) c h in waiting_read_law t.0 t.1 t.2

      three : way3 ≡ true → Reason f ph p q
      three h = let t = and_three (entitled_write f ph p) (holding_read f ph q) c h in entitled_write_law t.0 t.1 t.2

      four : way4 ≡ true → Reason f ph p q
      four h =
          let t = and_three (waiting_write f ph p) earlier_write c h in
          let u = and_three (is_earlier f q p) (active ph q) (is_writer f q) t.1 in
          waiting_write_law t.0 u.0 u.1 u.2 t.2

  pub reason_waits : Reason f ph p q → waits_in f ph p q ≡ true
  unfolding waits_in
  reason_waits (entitled_read_law h k x) = or_left way1 _
      (and_all_three (entitled_read f ph p) (holding_write f ph q) c h k x)
  reason_waits (waiting_read_law h k x) =
      or_right way1 _ (or_left way2 _ (and_all_three (waiting_read f ph p) (entitled_write f ph q) c h k x))
  reason_waits (entitled_write_law h k x) =
      or_right way1 _ (or_right way2 _ (or_left way3 way4
      (and_all_three (entitled_write f ph p) (holding_read f ph q) c h k x)))
  reason_waits (waiting_write_law h before a w x) =
      let earlier : earlier_write ≡ true = and_all_three (is_earlier f q p) (active ph q) (is_writer f q) before a w in
      or_right way1 _ (or_right way2 _ (or_right way3 way4
      (and_all_three (waiting_write f ph p) earlier_write c h earlier x)))

-- ---- both are the plan's, and have a place in a state

marked_passes : (w : ℕ) (test : ℕ → Bool) (k : ℕ) → bit (mask_of w test) k ≡ true → test k ≡ true
marked_passes w test k e = and_right (ltb k w) (test k) (sym (bit_mask w test k) ∙ e)

module _ (b : Board) (s : State) where
  abbrev f : Facts
  f = facts_of b s

  abbrev ph : Phases
  ph = phases_of b s

  abbrev pub Counted : ℕ → Type 0
  Counted p = has_processor b.terms p ≡ true

  in_plan_counted : (p : ℕ) (t : Bool) → (in_plan b.terms s.requested p && t) ≡ true → Counted p
  in_plan_counted p t e =
      and_left (has_processor b.terms p) (ltb (get_or s.requested p 0) b.terms.count)
      (and_left (in_plan b.terms s.requested p) t e)

  waiting_counted : (p : ℕ) → bit ph.waiting p ≡ true → Counted p
  unfolding cleaned is_waiting
  waiting_counted p e = in_plan_counted p _
      (marked_passes max_processors (is_waiting b.terms s.requested s.phases) p e)

  entitled_counted : (p : ℕ) → bit ph.entitled p ≡ true → Counted p
  unfolding cleaned is_entitled
  entitled_counted p e = in_plan_counted p _
      (marked_passes max_processors (is_entitled b.terms s.requested s.phases) p e)

  holding_counted : (p : ℕ) → bit ph.holding p ≡ true → Counted p
  unfolding cleaned is_holding
  holding_counted p e = in_plan_counted p _
      (marked_passes max_processors (is_holding b.terms s.requested s.phases) p e)

  unsatisfied_counted : (p : ℕ) → unsatisfied ph p ≡ true → Counted p
  unsatisfied_counted p e =
      ⊎_elim (waiting_counted p) (entitled_counted p) (or_cases (bit ph.waiting p) (bit ph.entitled p) e)

  active_counted : (p : ℕ) → active ph p ≡ true → Counted p
  active_counted p e =
      ⊎_elim (unsatisfied_counted p) (holding_counted p) (or_cases (unsatisfied ph p) (bit ph.holding p) e)

  pub waits_counted : (p q : ℕ) → waits_for b s p q ≡ true → Counted p × Counted q
  unfolding waits_for
  waits_counted p q e = go (waits_reason f ph p q e)
    where
      go : Reason f ph p q → Counted p × Counted q
      go (entitled_read_law h k c) =
          (entitled_counted p (and_left _ (not (is_writer f p)) h), holding_counted q (and_left _ (is_writer f q) k))
      go (waiting_read_law h k c) =
          (waiting_counted p (and_left _ (not (is_writer f p)) h), entitled_counted q (and_left _ (is_writer f q) k))
      go (entitled_write_law h k c) =
          (entitled_counted p (and_left _ (is_writer f p) h), holding_counted q (and_left _ (not (is_writer f q)) k))
      go (waiting_write_law h before a w c) = (waiting_counted p (and_left _ (is_writer f p) h), active_counted q a)

  counted_below : (p : ℕ) → Counted p → p < max_processors
  counted_below p e = ltb-true p max_processors (and_left (ltb p max_processors) (ltb p b.terms.processors) e)

  pub unsatisfied_below : (p : ℕ) → unsatisfied (phases_of b s) p ≡ true → p < max_processors
  unsatisfied_below p e = counted_below p (unsatisfied_counted p e)

  pub waits_below : (p q : ℕ) → waits_for b s p q ≡ true → (p < max_processors) × (q < max_processors)
  waits_below p q e = (counted_below p (waits_counted p q e).0, counted_below q (waits_counted p q e).1)
