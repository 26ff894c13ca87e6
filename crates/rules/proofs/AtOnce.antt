-- A new read that nothing stops may hold before step 1: settling gives the same phases. Assumes nothing.
use mathlib.Core.Path.{◌≡◌, refl, sym, ap, ap₂, subst, ◌∙◌}
use mathlib.Core.Bool.{Bool, true, false, not, ◌&&◌, ◌||◌, and-true, and-false, or-false}
use Prim.Native.Nat.{ℕ, ◌<◌}
use lib.Dec.{eqb}
use borrow.Author.Tests.{eqb-true, not-true}
use Rattle.masks.specs.Sets.{bit}
use Rattle.masks.proofs.Truth.{and_left, and_right}
use Rattle.masks.proofs.Some.{some_agree}
use Rattle.masks.proofs.Masks.{mask_agree, bit_mask_at}
use Rattle.plans.specs.Entries.{max_processors}
use Rattle.rules.specs.Requests.{Facts, is_writer, conflicts, against, holding_write, entitled_write}
use Rattle.rules.specs.Settling.{hold, test1, step1, step2, step3, step4, settled, holds_at_once, admitted}
use Rattle.rules.specs.declared.states.Phases.{Phases}

-- For one processor: w, e and h are its bits in the three phases, t is whether it holds at once, r is whether its
-- request is a read, and a and b are whether an entitled write and a holding write conflict with it.
module _ (w e h t r a b : Bool) where
  abbrev passes : Bool
  passes = (e && r || w && r && not a) && not b

  abbrev passes_after : Bool
  passes_after = (e && not t && r || w && not t && r && not a) && not b

  -- Its bits after step 1 are the same.
  record Same : Type 0 where
    pub waits : (w && not t && not passes_after) ≡ (w && not passes)
    pub entitles : (e && not t && not passes_after) ≡ (e && not passes)
    pub holds : ((h || t) || passes_after) ≡ (h || passes)

let_to_hold : (e h : Bool) → Same true e h true true false false
let_to_hold true true = record { waits = refl; entitles = refl; holds = refl }
let_to_hold true false = record { waits = refl; entitles = refl; holds = refl }
let_to_hold false true = record { waits = refl; entitles = refl; holds = refl }
let_to_hold false false = record { waits = refl; entitles = refl; holds = refl }

same : (w e h t r a b : Bool) → (t ≡ true → (w ≡ true) × (r ≡ true) × (a ≡ false) × (b ≡ false)) → Same w e h t r a b
same w e h true r a b i =
    let k = i refl in
    subst (λ w. Same w e h true r a b) (sym k.0)
    (subst (λ r. Same true e h true r a b) (sym k.1)
    (subst (λ a. Same true e h true true a b) (sym k.2)
    (subst (λ b. Same true e h true true false b) (sym k.3) (let_to_hold e h))))
same w e h false r a b i = subst (λ u. Same u e h false r a b) refl (plain w e h r a b)
  where
    plain : (w e h r a b : Bool) → Same w e h false r a b
    plain w e h r a b =
        let test : passes_after w e h false r a b ≡ passes w e h false r a b =
        λ k. (and-true e k && r || and-true w k && r && not a) && not b in
        record {
          waits = λ k. and-true w k && not (test k);
          entitles = λ k. and-true e k && not (test k);
          holds = λ k. or-false h k || test k;
        }

out : (x t w : Bool) → (t ≡ true → w ≡ false) → (x && not t && w) ≡ (x && w)
out x true w i = ap (λ u. x && false && u) (i refl) ∙ and-false (x && false)
    ∙ sym (ap (λ u. x && u) (i refl) ∙ and-false x)
out x false w i = ap (λ u. u && w) (and-true x)

into : (x t w : Bool) → (t ≡ true → w ≡ false) → ((x || t) && w) ≡ (x && w)
into x true w i = ap (λ u. (x || true) && u) (i refl) ∙ and-false (x || true)
    ∙ sym (ap (λ u. x && u) (i refl) ∙ and-false x)
into x false w i = ap (λ u. u && w) (or-false x)

module _ (f : Facts) (ph : Phases) (p : ℕ) (waits : bit ph.waiting p ≡ true) where
  -- Processor q is p, and its request holds at once.
  abbrev newcomer : ℕ → Bool
  newcomer q = eqb q p && holds_at_once f ph p

  abbrev after : Phases
  after = hold ph newcomer

  -- The new request waits and is a read, and no entitled and no holding write conflicts with it.
  newcomer_free : (q : ℕ) → newcomer q ≡ true
      → (bit ph.waiting q ≡ true) × (not (is_writer f q) ≡ true)
      × (against f q (entitled_write f ph) ≡ false) × (against f q (holding_write f ph) ≡ false)
  unfolding holds_at_once
  newcomer_free q t =
      let here : p ≡ q = sym (eqb-true q p (and_left (eqb q p) _ t)) in
      let once = and_right (eqb q p) _ t in
      let free = and_right (not (is_writer f p)) _ once in
      subst
      (λ (q : ℕ). (bit ph.waiting q ≡ true) × (not (is_writer f q) ≡ true)
      × (against f q (entitled_write f ph) ≡ false) × (against f q (holding_write f ph) ≡ false)) here (
        waits,
        and_left (not (is_writer f p)) _ once,
        not-true _ (and_left (not (against f p (entitled_write f ph))) _ free),
        not-true _ (and_right (not (against f p (entitled_write f ph))) _ free),
      )

  newcomer_reads : (q : ℕ) → newcomer q ≡ true → is_writer f q ≡ false
  newcomer_reads q t = not-true _ (newcomer_free q t).1

  -- So the writes of each phase are the same.
  same_entitled : (q : ℕ) → against f q (entitled_write f after) ≡ against f q (entitled_write f ph)
  same_entitled q =
      some_agree max_processors _ _
      (λ k l. ap (λ u. u && conflicts f q k)
      (ap (λ u. u && is_writer f k) (bit_mask_at max_processors (λ k. bit ph.entitled k && not (newcomer k)) k l)
      ∙ out (bit ph.entitled k) (newcomer k) (is_writer f k) (newcomer_reads k)))

  same_holding : (q : ℕ) → against f q (holding_write f after) ≡ against f q (holding_write f ph)
  same_holding q =
      some_agree max_processors _ _
      (λ k l. ap (λ u. u && conflicts f q k)
      (ap (λ u. u && is_writer f k) (bit_mask_at max_processors (λ k. bit ph.holding k || newcomer k) k l)
      ∙ into (bit ph.holding k) (newcomer k) (is_writer f k) (newcomer_reads k)))

  module _ (q : ℕ) (l : q < max_processors) where
    abbrev w : Bool
    w = bit ph.waiting q

    abbrev e : Bool
    e = bit ph.entitled q

    abbrev a : Bool
    a = against f q (entitled_write f ph)

    abbrev b : Bool
    b = against f q (holding_write f ph)

    at_w : bit after.waiting q ≡ (w && not (newcomer q))
    at_w = bit_mask_at max_processors (λ k. bit ph.waiting k && not (newcomer k)) q l

    at_e : bit after.entitled q ≡ (e && not (newcomer q))
    at_e = bit_mask_at max_processors (λ k. bit ph.entitled k && not (newcomer k)) q l

    at_h : bit after.holding q ≡ (bit ph.holding q || newcomer q)
    at_h = bit_mask_at max_processors (λ k. bit ph.holding k || newcomer k) q l

    test_after : test1 f after q ≡ passes_after w e (bit ph.holding q) (newcomer q) (not (is_writer f q)) a b
    unfolding test1
    test_after =
        λ k.
        (at_e k && not (is_writer f q) || at_w k && not (is_writer f q) && not (same_entitled q k))
        && not (same_holding q k)

    moves : Same w e (bit ph.holding q) (newcomer q) (not (is_writer f q)) a b
    moves = same w e (bit ph.holding q) (newcomer q) (not (is_writer f q)) a b (newcomer_free q)

  pub held_before_step_1 : step1 f (admitted f ph p) ≡ step1 f ph
  unfolding test1 step1 admitted
  held_before_step_1 =
      λ i. record {
        waiting = mask_agree max_processors _ _
            (λ q l. ap₂ (λ u v. u && not v) (at_w q l) (test_after q l) ∙ (moves q l).waits) i;
        entitled = mask_agree max_processors _ _
            (λ q l. ap₂ (λ u v. u && not v) (at_e q l) (test_after q l) ∙ (moves q l).entitles) i;
        holding = mask_agree max_processors _ _
            (λ q l. ap₂ (λ u v. u || v) (at_h q l) (test_after q l) ∙ (moves q l).holds) i;
      }

-- Clause 5.1: if a new request that may hold at once did so before step 1, nothing would change.
pub at_once_is_step_1 : (f : Facts) (ph : Phases) (p : ℕ) → bit ph.waiting p ≡ true
    → settled f (admitted f ph p) ≡ settled f ph
unfolding settled
at_once_is_step_1 f ph p waits = ap (λ ph. settled_from ph) (held_before_step_1 f ph p waits)
  where
    settled_from : Phases → Phases
    settled_from ph = step4 f (step3 f (step2 f ph))
