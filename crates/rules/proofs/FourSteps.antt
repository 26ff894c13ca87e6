-- The masks that the code computes, step by step, are those of the four settling steps. Assumes nothing.
use mathlib.Core.Path.{◌≡◌, refl, sym, ap, ap₂, ◌∙◌}
use mathlib.Core.Bool.{Bool, true, false, not, ◌&&◌, ◌||◌, and-true, and-false, and-or_distrib_right}
use Prim.Native.Nat.{ℕ, ◌≤◌}
use native.Mathlib.Omega.{arith}
use lib.Bits.{bit_and, bit_or}
use Rattle.masks.specs.Sets.{bit, without, mask_of}
use Rattle.masks.proofs.Some.{some_agree, some_or}
use Rattle.masks.proofs.Masks.{mask_below, mask_of_bits, mask_agree}
use Rattle.masks.proofs.Truth.{or_right}
use Rattle.masks.proofs.Tests.{Mask, bit_is, agree_is, places_is, and_is, or_is, without_is}
use Rattle.plans.specs.Entries.{max_processors}
use Rattle.rules.specs.Requests.{Facts, active, is_writer, conflicts, against, is_earlier, waiting_read}
use Rattle.rules.specs.Requests.{waiting_write, unsatisfied_write, entitled_read, entitled_write, holding_write}
use Rattle.rules.specs.Settling.{hold, entitle, test1, step1, test2, step2, test3, step3, test4, step4, settled}
use Rattle.rules.specs.inner.Moves.{Follows, unopposed_in, first_in_line}
use Rattle.rules.specs.declared.states.Phases.{Phases}
use Rattle.rules.proofs.Active.{unsatisfied_active, waiting_active, entitled_active, holding_active, within_and}
use Rattle.rules.proofs.Active.{within_not, active_held, active_entitled}

-- A mask of processors fits the code's word.
pub fit : max_processors ≤ 32
fit = omega arith

-- Processor p is active and its request is a write.
abbrev pub active_write : Facts → Phases → ℕ → Bool
active_write f ph p = active ph p && is_writer f p

-- The masks that the code has reached: the active writes and the three phases.
pub record At (f : Facts) (ph : Phases) (w x e h : ℕ) : Type 0 where
  pub writes : Mask max_processors (active_write f ph) w
  pub waits : Mask max_processors (bit ph.waiting) x
  pub entitles : Mask max_processors (bit ph.entitled) e
  pub holds : Mask max_processors (bit ph.holding) h

pub at_first : {f : Facts} {ph : Phases} {w x e h : ℕ} → Follows ph x e h
    → w ≡ mask_of max_processors (λ p. bit (bit_or (bit_or x e) h) p && is_writer f p) → At f ph w x e h
at_first {f} {ph} {w} {x} {e} {h} given are =
    record {
      writes = record {
        is = are ∙ mask_agree max_processors _ _
            (λ p l. ap (λ t. t && is_writer f p) (bit_is (or_is (or_is waits entitles) holds) p l));
      };
      waits = waits;
      entitles = entitles;
      holds = holds;
    }
  where
    waits : Mask max_processors (bit ph.waiting) x
    waits = record { is = given.waits }

    entitles : Mask max_processors (bit ph.entitled) e
    entitles = record { is = given.entitles }

    holds : Mask max_processors (bit ph.holding) h
    holds = record { is = given.holds }

-- ---- conflict with the processors in a mask

module _ (f : Facts) where
  unopposed_is : {P Q : ℕ → Bool} {c o g : ℕ} → Mask max_processors P c → Mask max_processors Q o → g ≡ unopposed_in f c o
      → Mask max_processors (λ p. P p && not (against f p Q)) g
  unopposed_is mc mo e =
      record {
        is =
            e ∙ mask_agree max_processors _ _ (λ p l. ap₂ (λ t u. t && not u) (bit_is mc p l)
            (some_agree max_processors _ _ (λ q m. ap (λ t. t && conflicts f p q) (bit_is mo q m))));
      }

  -- The same for the earlier ones among the others.
  first_is : {P Q : ℕ → Bool} {c o g : ℕ} → Mask max_processors P c → Mask max_processors Q o → g ≡ first_in_line f c o
      → Mask max_processors (λ p. P p && not (against f p (λ q. is_earlier f q p && Q q))) g
  first_is mc mo e =
      record {
        is =
            e ∙ mask_agree max_processors _ _ (λ p l. ap₂ (λ t u. t && not u) (bit_is mc p l)
            (some_agree max_processors _ _ (λ q m. ap (λ t. is_earlier f q p && t && conflicts f p q) (bit_is mo q m))));
      }

  against_either : (p : ℕ) (P Q : ℕ → Bool) → against f p (λ q. P q || Q q) ≡ (against f p P || against f p Q)
  against_either p P Q =
      some_agree max_processors _ _ (λ q l. and-or_distrib_right (P q) (Q q) (conflicts f p q))
      ∙ some_or max_processors (λ q. P q && conflicts f p q) (λ q. Q q && conflicts f p q)

first_of_law : (a b c : Bool) → (a && b && c) ≡ true → a ≡ true
first_of_law true b c e = refl
first_of_law false b c e = e

-- A request that begins to hold in step 1 was waiting or entitled.
one_of : (e x w a b : Bool) → ((e && not w || (x && not w && not a)) && not b) ≡ true → (x || e) ≡ true
one_of e true w a b k = refl
one_of true false w a b k = refl
one_of false false w a b k = k

-- The conditions of step 2 in the code's order and in the definition's.
clauses2 : (w a b c : Bool) → (w && not (b || c) && not a) ≡ (w && (not a && (not b && not c)))
clauses2 false a b c = refl
clauses2 true true b c = and-false (not (b || c))
clauses2 true false true c = refl
clauses2 true false false c = and-true (not c)

-- Step 4: a request that is not free of conflicts has one.
clauses4 : (r a e : Bool) → (r && not (r && not a) && not e) ≡ (r && (a && not e))
clauses4 false a e = refl
clauses4 true true e = refl
clauses4 true false e = refl

-- ---- the four steps

module _ {f : Facts} {ph : Phases} {w x e h : ℕ} (at : At f ph w x e h) where
  -- The writes and the reads of a phase.
  writes_of : {P : ℕ → Bool} {a : ℕ} → ((p : ℕ) → P p ≡ true → active ph p ≡ true) → Mask max_processors P a
      → Mask max_processors (λ p. P p && is_writer f p) (bit_and a w)
  writes_of {P} i m = agree_is (λ p l. within_and (P p) (active ph p) (is_writer f p) (i p)) (and_is m at.writes)

  reads_of : {P : ℕ → Bool} {a : ℕ} → ((p : ℕ) → P p ≡ true → active ph p ≡ true) → Mask max_processors P a
      → Mask max_processors (λ p. P p && not (is_writer f p)) (without 32 a w)
  reads_of {P} i m = agree_is (λ p l. within_not (P p) (active ph p) (is_writer f p) (i p))
      (without_is 32 fit m at.writes)

  -- Those that pass a test move on.
  held : {test : ℕ → Bool} {g : ℕ} → ((p : ℕ) → test p ≡ true → (bit ph.waiting p || bit ph.entitled p) ≡ true)
      → Mask max_processors test g → At f (hold ph test) w (without 32 x g) (without 32 e g) (bit_or h g)
  held {test} i m =
      record {
        writes = agree_is (λ p l. ap (λ t. t && is_writer f p) (sym (active_held ph test p l (i p)))) at.writes;
        waits = places_is (without_is 32 fit at.waits m);
        entitles = places_is (without_is 32 fit at.entitles m);
        holds = places_is (or_is at.holds m);
      }

  entitled : {test : ℕ → Bool} {g : ℕ} → ((p : ℕ) → test p ≡ true → bit ph.waiting p ≡ true)
      → Mask max_processors test g
      → At f (entitle ph test) w (without 32 x g) (bit_or e g) h
  entitled {test} i m =
      record {
        writes = agree_is (λ p l. ap (λ t. t && is_writer f p) (sym (active_entitled ph test p l (i p)))) at.writes;
        waits = places_is (without_is 32 fit at.waits m);
        entitles = places_is (or_is at.entitles m);
        holds = at.holds;
      }

  pub after1 : {o g : ℕ} → o ≡ unopposed_in f (without 32 x w) (bit_and e w)
      → g ≡ unopposed_in f (bit_or (without 32 e w) o) (bit_and h w)
      → At f (step1 f ph) w (without 32 x g) (without 32 e g) (bit_or h g)
  unfolding test1 step1
  after1 eo eg =
      let entitledReads = reads_of (entitled_active ph) at.entitles in
      let ahead =
      unopposed_is f (reads_of (waiting_active ph) at.waits) (writes_of (entitled_active ph) at.entitles) eo in
      held
      (λ p.
      one_of (bit ph.entitled p) (bit ph.waiting p) (is_writer f p) (against f p (entitled_write f ph))
      (against f p (holding_write f ph)))
      (unopposed_is f (or_is entitledReads ahead) (writes_of (holding_active ph) at.holds) eg)

  pub after2 : {o g : ℕ} → o ≡ unopposed_in f (bit_and x w) (bit_or (bit_and h w) (without 32 e w))
      → g ≡ first_in_line f o (bit_and (bit_or x e) w) → At f (step2 f ph) w (without 32 x g) (bit_or e g) h
  unfolding test2 step2
  after2 eo eg =
      let clear =
      unopposed_is f (writes_of (waiting_active ph) at.waits)
      (or_is (writes_of (holding_active ph) at.holds) (reads_of (entitled_active ph) at.entitles)) eo in
      entitled (λ p. first_of_law (bit ph.waiting p) _ _)
      (agree_is
      (λ p l. ap (λ t. waiting_write f ph p && not t && not (before p))
      (against_either f p (holding_write f ph) (entitled_read f ph))
      ∙ clauses2 (waiting_write f ph p) (before p) (against f p (holding_write f ph)) (against f p (entitled_read f ph)))
      (first_is f clear (writes_of (unsatisfied_active ph) (or_is at.waits at.entitles)) eg))
    where
      before : ℕ → Bool
      before p = against f p (λ q. is_earlier f q p && unsatisfied_write f ph q)

  pub after3 : {g : ℕ} → g ≡ unopposed_in f (bit_and e w) (without 32 h w)
      → At f (step3 f ph) w (without 32 x g) (without 32 e g) (bit_or h g)
  unfolding test3 step3
  after3 eg =
      held (λ p k. or_right (bit ph.waiting p) (bit ph.entitled p) (first_of_law (bit ph.entitled p) _ _ k))
      (unopposed_is f (writes_of (entitled_active ph) at.entitles) (reads_of (holding_active ph) at.holds) eg)

  pub after4 : {o g : ℕ} → o ≡ unopposed_in f (without 32 x w) (bit_and h w)
      → g ≡ unopposed_in f (without 32 (without 32 x w) o) (bit_and e w)
      → At f (step4 f ph) w (without 32 x g) (bit_or e g) h
  unfolding test4 step4
  after4 eo eg =
      let reads = reads_of (waiting_active ph) at.waits in
      let free = unopposed_is f reads (writes_of (holding_active ph) at.holds) eo in
      entitled (λ p. first_of_law (bit ph.waiting p) _ _)
      (agree_is (λ p l. clauses4 (waiting_read f ph p) (against f p (holding_write f ph))
      (against f p (entitled_write f ph)))
      (unopposed_is f (without_is 32 fit reads free) (writes_of (entitled_active ph) at.entitles) eg))

-- ---- settled

settled_mask : {a : ℕ} (P : ℕ → Bool) → Mask max_processors (bit (mask_of max_processors P)) a → a ≡ mask_of max_processors P
settled_mask P m = m.is ∙ mask_of_bits max_processors (mask_of max_processors P) (mask_below max_processors P)

pub at_last : {f : Facts} {w : ℕ} (ph after : Phases)
    → At f (settled f ph) w after.waiting after.entitled after.holding → after ≡ settled f ph
unfolding step1 step2 step3 step4 settled
at_last ph after at =
    let x = settled_mask _ at.waits in
    let e = settled_mask _ at.entitles in
    let h = settled_mask _ at.holds in
    λ i. record { waiting = x i; entitled = e i; holding = h i }
