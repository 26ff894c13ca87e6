-- The four settling steps on tidy phases as relations between their columns, processor by processor: what a search
-- finds or does not find is the reason for moving or staying. Each step leaves the phases tidy. Assumes nothing.
use Prim.Native.Nat.{ℕ, ◌<◌}
use mathlib.Core.Path.{◌≡◌, refl, sym, ap, ap₂, ◌∙◌}
use mathlib.Core.Bool.{Bool, true, false, cond, not, ◌&&◌, ◌||◌, false≢true, or-true, or-false, and-true, and-false}
use mathlib.Core.Logic.{◌⊎◌, inl, inr, ⊎_elim}
use borrow.Author.Tests.{not-true, not-false}
use Rattle.masks.specs.Sets.{bit, mask_of}
use Rattle.masks.proofs.Masks.{mask_below, bit_mask_at}
use Rattle.masks.proofs.Some.{some_found, some_none_at}
use Rattle.masks.proofs.Truth.{and_left, and_right, and_both, or_cases, or_left, or_right}
use Rattle.plans.specs.Entries.{max_processors}
use Rattle.rules.specs.declared.states.Phases.{Phases}
use Rattle.rules.specs.Requests.{Facts, is_earlier, is_writer, conflicts, against, unsatisfied, unsatisfied_write}
use Rattle.rules.specs.Requests.{holding_read, holding_write, entitled_read, entitled_write, waiting_read, waiting_write}
use Rattle.rules.specs.Settling.{hold, entitle, test1, test2, test3, test4, step1, step2, step3, step4}
use Rattle.runs.proofs.columns.Columns.{Phase, waiting, entitled, holding, Requests, Exists, None, In}
use Rattle.runs.proofs.columns.Columns.{EarlierUnsatisfied, Step1, Step2, Step3, Step4}
use Rattle.runs.proofs.columns.Phases.{clash, true_not_false}
use Rattle.runs.proofs.refinement.First.{Stopped}
use Rattle.runs.proofs.refinement.State.{requests_of, phase_of, three, bits_of, Tidy, bits_in, Becomes, moved, kept}
use Rattle.runs.proofs.refinement.State.{becomes_tidy, Marks, marks_holding, marks_entitled, marks_waiting}
use Rattle.runs.proofs.refinement.State.{entitled_phase, waiting_phase, unsatisfied_phase, unsatisfied_bit}

-- ---- searches among the requests that conflict with p's

-- P means that the request conflicts with p's and passes the test.
pub record Says (f : Facts) (p : ℕ) (test : ℕ → Bool) (P : ℕ → Type 0) : Type 0 where
  pub into : (q : ℕ) → q < max_processors → test q ≡ true → conflicts f p q ≡ true → P q
  pub passes : (q : ℕ) → q < max_processors → P q → test q ≡ true
  pub conflict : (q : ℕ) → q < max_processors → P q → conflicts f p q ≡ true

module _ {f : Facts} {p : ℕ} {test : ℕ → Bool} {P : ℕ → Type 0} (says : Says f p test P) where
  pub found : against f p test ≡ true → Exists max_processors P
  found h =
      let r = some_found max_processors (λ q. test q && conflicts f p q) h in
      (r.0, r.1, says.into r.0 r.1 (and_left (test r.0) _ r.2) (and_right (test r.0) _ r.2))

  pub not_found : against f p test ≡ false → None max_processors P
  not_found h q l x =
      true_not_false (and_both (test q) (conflicts f p q) (says.passes q l x) (says.conflict q l x))
      (some_none_at max_processors (λ q. test q && conflicts f p q) q h l)

module _ (f : Facts) (G : ℕ → Bool) (ph : Phases) (p : ℕ) where
  says_write : (mask : ℕ) (phase : Phase) → Marks ph mask phase
      → Says f p (λ q. bit mask q && is_writer f q) (In (requests_of f G) (phase_of ph) phase true p)
  says_write mask phase marks =
      record {
        into = λ q l t x.
            record {
              phase_is = marks.into q l (and_left (bit mask q) _ t);
              write_is = and_right
                  (bit mask q) _ t;
              conflict = x;
            };
        passes = λ q l x. and_both (bit mask q) (is_writer f q) (marks.from q l x.phase_is) x.write_is;
        conflict = λ q l x. x.conflict;
      }

  says_read : (mask : ℕ) (phase : Phase) → Marks ph mask phase
      → Says f p (λ q. bit mask q && not (is_writer f q)) (In (requests_of f G) (phase_of ph) phase false p)
  says_read mask phase marks =
      record {
        into = λ q l t x.
            record {
              phase_is = marks.into q l (and_left (bit mask q) _ t);
              write_is = not-true (is_writer f q) (and_right (bit mask q) _ t);
              conflict = x;
            };
        passes =
            λ q l x. and_both (bit mask q) (not (is_writer f q)) (marks.from q l x.phase_is) (ap not x.write_is);
        conflict = λ q l x. x.conflict;
      }

  module _ (c : Tidy ph) where
    pub says_holding_write : Says f p (holding_write f ph) (In (requests_of f G) (phase_of ph) holding true p)
    says_holding_write = says_write ph.holding holding (marks_holding ph)

    pub says_holding_read : Says f p (holding_read f ph) (In (requests_of f G) (phase_of ph) holding false p)
    says_holding_read = says_read ph.holding holding (marks_holding ph)

    pub says_entitled_write : Says f p (entitled_write f ph) (In (requests_of f G) (phase_of ph) entitled true p)
    says_entitled_write = says_write ph.entitled entitled (marks_entitled ph c)

    pub says_entitled_read : Says f p (entitled_read f ph) (In (requests_of f G) (phase_of ph) entitled false p)
    says_entitled_read = says_read ph.entitled entitled (marks_entitled ph c)

    pub says_earlier : Says f p (λ q. is_earlier f q p && unsatisfied_write f ph q)
        (EarlierUnsatisfied (requests_of f G) (phase_of ph) p)
    says_earlier =
        record {
          into = λ q l t x.
              let u = and_right (is_earlier f q p) (unsatisfied_write f ph q) t in
              record {
                unsatisfied = unsatisfied_phase ph q c l (and_left (unsatisfied ph q) (is_writer f q) u);
                write_is = and_right (unsatisfied ph q) (is_writer f q) u;
                before = and_left (is_earlier f q p) _ t;
                conflict = x;
              };
          passes = λ q l x.
              and_both (is_earlier f q p) (unsatisfied_write f ph q) x.before
              (and_both (unsatisfied ph q) (is_writer f q) (unsatisfied_bit ph q c l x.unsatisfied) x.write_is);
          conflict = λ q l x. x.conflict;
        }

-- ---- who moves

hold_bits : (w e h t : Bool) → three (w && not t) (e && not t) (h || t) ≡ cond t (bits_of holding) (three w e h)
hold_bits w e h true = λ i. three (and-false w i) (and-false e i) (or-true h i)
hold_bits w e h false = λ i. three (and-true w i) (and-true e i) (or-false h i)

entitle_bits : (w e h t : Bool) → (t ≡ true → three w e h ≡ bits_of waiting)
    → three (w && not t) (e || t) h ≡ cond t (bits_of entitled) (three w e h)
entitle_bits w e h true from = ap (λ b. three (b.0 && false) (b.1 || true) b.2) (from refl)
entitle_bits w e h false from = λ i. three (and-true w i) (or-false e i) h

module _ (ph : Phases) (test : ℕ → Bool) (c : Tidy ph) where
  holds_by : Becomes holding test ph (hold ph test)
  holds_by =
      let w : ℕ → Bool = λ p. bit ph.waiting p && not (test p) in
      let e : ℕ → Bool = λ p. bit ph.entitled p && not (test p) in
      let h : ℕ → Bool = λ p. bit ph.holding p || test p in
      record {
        waiting_below = mask_below max_processors w;
        entitled_below = mask_below max_processors e;
        holding_below = mask_below max_processors h;
        bits = λ q l.
            ap₂ (λ u v. three u v (bit (mask_of max_processors h) q)) (bit_mask_at max_processors w q l)
            (bit_mask_at max_processors e q l)
            ∙ ap (three (w q) (e q)) (bit_mask_at max_processors h q l)
            ∙ hold_bits _ _ _ (test q);
      }

  entitled_by : ((q : ℕ) → q < max_processors → test q ≡ true → phase_of ph q ≡ waiting)
      → Becomes entitled test ph (entitle ph test)
  entitled_by from =
      let w : ℕ → Bool = λ p. bit ph.waiting p && not (test p) in
      let e : ℕ → Bool = λ p. bit ph.entitled p || test p in
      record {
        waiting_below = mask_below max_processors w;
        entitled_below = mask_below max_processors e;
        holding_below = c.holding_below;
        bits = λ q l.
            ap₂ (λ u v. three u v (bit ph.holding q)) (bit_mask_at max_processors w q l)
            (bit_mask_at max_processors e q l)
            ∙ entitle_bits _ _ _ (test q) (λ t. bits_in ph q c l waiting (from q l t));
      }

module _ (f : Facts) (ph : Phases) (c : Tidy ph) where
  step1_moves : Becomes holding (test1 f ph) ph (step1 f ph)
  unfolding step1
  step1_moves = holds_by ph (test1 f ph) c

  pub step1_tidy : Tidy (step1 f ph)
  step1_tidy = becomes_tidy step1_moves c

  step2_moves : Becomes entitled (test2 f ph) ph (step2 f ph)
  unfolding step2 test2
  step2_moves =
      entitled_by ph (test2 f ph) c
      (λ q l h. waiting_phase ph q c l (and_left _ _ (and_left (waiting_write f ph q) _ h)))

  pub step2_tidy : Tidy (step2 f ph)
  step2_tidy = becomes_tidy step2_moves c

  step3_moves : Becomes holding (test3 f ph) ph (step3 f ph)
  unfolding step3
  step3_moves = holds_by ph (test3 f ph) c

  pub step3_tidy : Tidy (step3 f ph)
  step3_tidy = becomes_tidy step3_moves c

  step4_moves : Becomes entitled (test4 f ph) ph (step4 f ph)
  unfolding step4 test4
  step4_moves =
      entitled_by ph (test4 f ph) c (λ q l h. waiting_phase ph q c l (and_left _ _ (and_left (waiting_read f ph q) _ h)))

  pub step4_tidy : Tidy (step4 f ph)
  step4_tidy = becomes_tidy step4_moves c

-- ---- why a test fails

-- A failed conjunction whose first part holds fails in its second.
pub second_fails : (a b : Bool) → (a && b) ≡ false → a ≡ true → b ≡ false
second_fails true b h k = h
second_fails false b h k = absurd (false≢true k)

pub one_fails : (a b : Bool) → (a && b) ≡ false → (a ≡ false) ⊎ (b ≡ false)
one_fails true b h = inr h
one_fails false b h = inl refl

-- ---- the steps

module _ (f : Facts) (G : ℕ → Bool) (ph : Phases) (c : Tidy ph) (i : ℕ) (l : i < max_processors) where
  abbrev R : Requests
  R = requests_of f G

  pub first_step : Step1 max_processors R (phase_of ph) (phase_of (step1 f ph)) i
  unfolding step1 test1
  first_step = go (test1 f ph i) refl
    where
      held : Bool
      held = against f i (holding_write f ph)

      next : Bool
      next = against f i (entitled_write f ph)

      grants : test1 f ph i ≡ true → (entitled_read f ph i ≡ true) ⊎ ((waiting_read f ph i && not next) ≡ true)
          → Step1 max_processors R (phase_of ph) (phase_of (step1 f ph)) i
      grants e (inl r) =
          Step1.grants (not-true _ (and_right (bit ph.entitled i) _ r))
          (entitled_phase ph i c l (and_left (bit ph.entitled i) _ r))
          (not_found (says_holding_write f G ph i c)
          (not-true _ (and_right (entitled_read f ph i || waiting_read f ph i && not next) _ e)))
          (moved (step1_moves f ph c) i l e)
      grants e (inr r) =
          let w = and_left (waiting_read f ph i) _ r in
          Step1.grants_waiting (not-true _ (and_right (bit ph.waiting i) _ w))
          (waiting_phase ph i c l (and_left (bit ph.waiting i) _ w))
          (not_found (says_holding_write f G ph i c)
          (not-true _ (and_right (entitled_read f ph i || waiting_read f ph i && not next) _ e)))
          (not_found (says_entitled_write f G ph i c) (not-true _ (and_right (waiting_read f ph i) _ r)))
          (moved (step1_moves f ph c) i l e)

      go : (t : Bool) → test1 f ph i ≡ t → Step1 max_processors R (phase_of ph) (phase_of (step1 f ph)) i
      go true e = grants e (or_cases (entitled_read f ph i) _
          (and_left (entitled_read f ph i || waiting_read f ph i && not next) _ e))
      go false e =
          Step1.stays
          (λ k w.
          found (says_holding_write f G ph i c)
          (not-false _
          (second_fails (entitled_read f ph i || waiting_read f ph i && not next) _ e
          (or_left (entitled_read f ph i) _ (and_both _ _ ((marks_entitled ph c).from i l k) (ap not w))))))
          (kept (step1_moves f ph c) i l e)

  -- What a read that step 1 leaves waiting waits for.
  pub first_leaves : is_writer f i ≡ false → phase_of (step1 f ph) i ≡ waiting → Stopped max_processors R (phase_of ph) i
  unfolding test1
  first_leaves read w = go (test1 f ph i) refl
    where
      next : Bool
      next = against f i (entitled_write f ph)

      reason : waiting_read f ph i ≡ true → test1 f ph i ≡ false → (t : Bool) → next ≡ t
          → Stopped max_processors R (phase_of ph) i
      reason r e true k = inr (found (says_entitled_write f G ph i c) k)
      reason r e false k =
          inl
          (found (says_holding_write f G ph i c)
          (not-false _
          (second_fails (entitled_read f ph i || waiting_read f ph i && not next) _ e
          (or_right (entitled_read f ph i) _ (and_both _ _ r (ap not k))))))

      go : (t : Bool) → test1 f ph i ≡ t → Stopped max_processors R (phase_of ph) i
      go true e = absurd (clash (moved (step1_moves f ph c) i l e) w tt)
      go false e =
          let waits = sym (kept (step1_moves f ph c) i l e) ∙ w in
          reason (and_both _ _ ((marks_waiting ph c).from i l waits) (ap not read)) e next refl

  pub second_step : Step2 max_processors R (phase_of ph) (phase_of (step2 f ph)) i
  unfolding step2 test2
  second_step = go (test2 f ph i) refl
    where
      earlier : Bool
      earlier = against f i (λ q. is_earlier f q i && unsatisfied_write f ph q)

      held : Bool
      held = against f i (holding_write f ph)

      read : Bool
      read = against f i (entitled_read f ph)

      reason : (not earlier && (not held && not read)) ≡ false
          → Exists max_processors (EarlierUnsatisfied R (phase_of ph) i)
          ⊎ (Exists max_processors (In R (phase_of ph) holding true i)
          ⊎ Exists max_processors (In R (phase_of ph) entitled false i))
      reason e =
          ⊎_elim (λ h. inl (found (says_earlier f G ph i c) (not-false _ h)))
          (λ h.
          inr
          (⊎_elim (λ k. inl (found (says_holding_write f G ph i c) (not-false _ k)))
          (λ k. inr (found (says_entitled_read f G ph i c) (not-false _ k))) (one_fails (not held) (not read) h)))
          (one_fails (not earlier) (not held && not read) e)

      go : (t : Bool) → test2 f ph i ≡ t → Step2 max_processors R (phase_of ph) (phase_of (step2 f ph)) i
      go true e =
          let w = and_left (waiting_write f ph i) _ e in
          let k = waiting_phase ph i c l (and_left (bit ph.waiting i) _ w) in
          let free = and_right (waiting_write f ph i) _ e in
          let rest = and_right (not earlier) _ free in
          Step2.entitles (and_right (bit ph.waiting i) _ w) k
          (not_found (says_earlier f G ph i c) (not-true _ (and_left (not earlier) _ free)))
          (not_found (says_holding_write f G ph i c) (not-true _ (and_left (not held) _ rest)))
          (not_found (says_entitled_read f G ph i c) (not-true _ (and_right (not held) _ rest)))
          (moved (step2_moves f ph c) i l e)
      go false e =
          Step2.stays (λ k w. reason (second_fails (waiting_write f ph i) _ e
          (and_both _ _ ((marks_waiting ph c).from i l k) w)))
          (kept (step2_moves f ph c) i l e)

  pub third_step : Step3 max_processors R (phase_of ph) (phase_of (step3 f ph)) i
  unfolding step3 test3
  third_step = go (test3 f ph i) refl
    where
      go : (t : Bool) → test3 f ph i ≡ t → Step3 max_processors R (phase_of ph) (phase_of (step3 f ph)) i
      go true e =
          let w = and_left (entitled_write f ph i) _ e in
          Step3.grants (and_right (bit ph.entitled i) _ w)
          (entitled_phase ph i c l (and_left (bit ph.entitled i) _ w))
          (not_found (says_holding_read f G ph i c) (not-true _ (and_right (entitled_write f ph i) _ e)))
          (moved (step3_moves f ph c) i l e)
      go false e =
          Step3.stays
          (λ k w.
          found (says_holding_read f G ph i c)
          (not-false _ (second_fails (entitled_write f ph i) _ e (and_both _ _ ((marks_entitled ph c).from i l k) w))))
          (kept (step3_moves f ph c) i l e)

  pub fourth_step : Step4 max_processors R (phase_of ph) (phase_of (step4 f ph)) i
  unfolding step4 test4
  fourth_step = go (test4 f ph i) refl
    where
      held : Bool
      held = against f i (holding_write f ph)

      next : Bool
      next = against f i (entitled_write f ph)

      reason : (held ≡ false) ⊎ (not next ≡ false)
          → None max_processors (In R (phase_of ph) holding true i)
          ⊎ Exists max_processors (In R (phase_of ph) entitled true i)
      reason (inl h) = inl (not_found (says_holding_write f G ph i c) h)
      reason (inr h) = inr (found (says_entitled_write f G ph i c) (not-false _ h))

      go : (t : Bool) → test4 f ph i ≡ t → Step4 max_processors R (phase_of ph) (phase_of (step4 f ph)) i
      go true e =
          let r = and_left (waiting_read f ph i) _ e in
          let k = waiting_phase ph i c l (and_left (bit ph.waiting i) _ r) in
          let free = and_right (waiting_read f ph i) _ e in
          Step4.entitles (not-true _ (and_right (bit ph.waiting i) _ r)) k
          (found (says_holding_write f G ph i c) (and_left held _ free))
          (not_found (says_entitled_write f G ph i c) (not-true _ (and_right held _ free)))
          (moved (step4_moves f ph c) i l e)
      go false e =
          Step4.stays
          (λ k w.
          let read = and_both _ _ ((marks_waiting ph c).from i l k) (ap not w) in
          reason (one_fails held (not next) (second_fails (waiting_read f ph i) _ e read)))
          (kept (step4_moves f ph c) i l e)
