-- The columns of phases: from the three masks, the phase of each processor; and the facts that settling uses, as the
-- requests of the columns. In tidy phases the bits are exactly the phases. Assumes nothing.
use Prim.Native.Nat.{ℕ, ◌<◌, ◌^◌}
use mathlib.Core.Path.{◌≡◌, refl, sym, ap, ◌∙◌}
use mathlib.Core.Bool.{Bool, true, false, cond, ◌||◌, true≢false, false≢true}
use mathlib.Core.Logic.{inl, inr, ⊎_elim}
use Rattle.masks.specs.Sets.{bit}
use Rattle.masks.proofs.Truth.{or_cases, or_left, or_right}
use Rattle.plans.specs.Entries.{max_processors}
use Rattle.rules.specs.declared.states.Phases.{Phases}
use Rattle.rules.specs.Requests.{Facts, entry_of, is_writer, is_earlier, conflicts, unsatisfied, active}
use Rattle.runs.proofs.columns.Columns.{Phase, Requests}
use Rattle.runs.proofs.columns.Phases.{clash, Unsatisfied}

-- What does not change while a call settles, with a group G of entries.
abbrev pub requests_of : Facts → (ℕ → Bool) → Requests
requests_of f G =
    record {
      write = λ i. is_writer f i;
      group = λ i. G (entry_of f i);
      against = λ i j. conflicts f i j;
      earlier = λ j i. is_earlier f j i;
    }

-- The phase that a processor's bits in the masks waiting, entitled and holding mean.
abbrev pub phase_by : Bool → Bool → Bool → Phase
phase_by w e true = Phase.holding
phase_by w true false = Phase.entitled
phase_by true false false = Phase.waiting
phase_by false false false = Phase.idle

abbrev pub phase_of : Phases → ℕ → Phase
phase_of ph i = phase_by (bit ph.waiting i) (bit ph.entitled i) (bit ph.holding i)

-- The three bits of processor q, and those of a phase: at most one of them is set.
abbrev pub three : Bool → Bool → Bool → Bool × Bool × Bool
three w e h = (w, e, h)

abbrev pub bits_at : Phases → ℕ → Bool × Bool × Bool
bits_at ph q = three (bit ph.waiting q) (bit ph.entitled q) (bit ph.holding q)

abbrev pub bits_of : Phase → Bool × Bool × Bool
bits_of Phase.idle = three false false false
bits_of Phase.waiting = three true false false
bits_of Phase.entitled = three false true false
bits_of Phase.holding = three false false true

-- Phases processor by processor, with nothing past the last processor.
pub record Tidy (ph : Phases) : Type 0 where
  pub waiting_below : ph.waiting < 2 ^ max_processors
  pub entitled_below : ph.entitled < 2 ^ max_processors
  pub holding_below : ph.holding < 2 ^ max_processors
  pub bits : (q : ℕ) → q < max_processors → bits_at ph q ≡ bits_of (phase_of ph q)

-- ---- three bits

phase_of_bits : (a : Phase) → phase_by (bits_of a).0 (bits_of a).1 (bits_of a).2 ≡ a
phase_of_bits Phase.idle = refl
phase_of_bits Phase.waiting = refl
phase_of_bits Phase.entitled = refl
phase_of_bits Phase.holding = refl

holding_bit : (w e h : Bool) → (bits_of (phase_by w e h)).2 ≡ h
holding_bit w e true = refl
holding_bit w true false = refl
holding_bit true false false = refl
holding_bit false false false = refl

is_waiting_law : (a : Phase) → (bits_of a).0 ≡ true → a ≡ Phase.waiting
is_waiting_law Phase.idle k = absurd (false≢true k)
is_waiting_law Phase.waiting k = refl
is_waiting_law Phase.entitled k = absurd (false≢true k)
is_waiting_law Phase.holding k = absurd (false≢true k)

is_entitled_law : (a : Phase) → (bits_of a).1 ≡ true → a ≡ Phase.entitled
is_entitled_law Phase.idle k = absurd (false≢true k)
is_entitled_law Phase.waiting k = absurd (false≢true k)
is_entitled_law Phase.entitled k = refl
is_entitled_law Phase.holding k = absurd (false≢true k)

idle_bits : (w e h : Bool) → phase_by w e h ≡ Phase.idle → (w || e || h) ≡ false
idle_bits w e true k = absurd (clash refl k tt)
idle_bits w true false k = absurd (clash refl k tt)
idle_bits true false false k = absurd (clash refl k tt)
idle_bits false false false k = refl

bits_idle : (w e h : Bool) → (w || e || h) ≡ false → phase_by w e h ≡ Phase.idle
bits_idle true e h k = absurd (true≢false k)
bits_idle false true h k = absurd (true≢false k)
bits_idle false false true k = absurd (true≢false k)
bits_idle false false false k = refl

-- ---- one processor

module _ (ph : Phases) (i : ℕ) where
  abbrev w : Bool
  w = bit ph.waiting i

  abbrev e : Bool
  e = bit ph.entitled i

  abbrev h : Bool
  h = bit ph.holding i

  pub idle_inactive : phase_of ph i ≡ Phase.idle → active ph i ≡ false
  idle_inactive = idle_bits w e h

  pub inactive_idle : active ph i ≡ false → phase_of ph i ≡ Phase.idle
  inactive_idle = bits_idle w e h

  pub active_not_idle : active ph i ≡ true → phase_of ph i ≡ Phase.idle → ⊥
  active_not_idle a k = false≢true (sym (idle_inactive k) ∙ a)

  pub not_idle_active : (phase_of ph i ≡ Phase.idle → ⊥) → active ph i ≡ true
  not_idle_active a = go (active ph i) refl
    where
      go : (t : Bool) → active ph i ≡ t → active ph i ≡ true
      go true k = k
      go false k = absurd (a (inactive_idle k))

  pub held_phase : bit ph.holding i ≡ true → phase_of ph i ≡ Phase.holding
  held_phase k = ap (phase_by w e) k

  pub held_bit : phase_of ph i ≡ Phase.holding → bit ph.holding i ≡ true
  held_bit k = sym (holding_bit w e h) ∙ ap (λ a. (bits_of a).2) k

  module _ (c : Tidy ph) (l : i < max_processors) where
    pub bits_in : (a : Phase) → phase_of ph i ≡ a → bits_at ph i ≡ bits_of a
    bits_in a k = c.bits i l ∙ ap bits_of k

    pub waiting_phase : bit ph.waiting i ≡ true → phase_of ph i ≡ Phase.waiting
    waiting_phase k = is_waiting_law (phase_of ph i) (sym (ap (λ b. b.0) (c.bits i l)) ∙ k)

    pub entitled_phase : bit ph.entitled i ≡ true → phase_of ph i ≡ Phase.entitled
    entitled_phase k = is_entitled_law (phase_of ph i) (sym (ap (λ b. b.1) (c.bits i l)) ∙ k)

    pub unsatisfied_phase : unsatisfied ph i ≡ true → Unsatisfied (phase_of ph i)
    unsatisfied_phase k = ⊎_elim (λ x. inl (waiting_phase x)) (λ x. inr (entitled_phase x)) (or_cases w e k)

    pub unsatisfied_bit : Unsatisfied (phase_of ph i) → unsatisfied ph i ≡ true
    unsatisfied_bit (inl k) = or_left w e (ap (λ b. b.0) (bits_in Phase.waiting k))
    unsatisfied_bit (inr k) = or_right w e (ap (λ b. b.1) (bits_in Phase.entitled k))

-- The processors of the mask are those in the phase.
pub record Marks (ph : Phases) (mask : ℕ) (phase : Phase) : Type 0 where
  pub into : (i : ℕ) → i < max_processors → bit mask i ≡ true → phase_of ph i ≡ phase
  pub from : (i : ℕ) → i < max_processors → phase_of ph i ≡ phase → bit mask i ≡ true

pub marks_holding : (ph : Phases) → Marks ph ph.holding Phase.holding
marks_holding ph = record { into = λ i l. held_phase ph i; from = λ i l. held_bit ph i }

pub marks_entitled : (ph : Phases) → Tidy ph → Marks ph ph.entitled Phase.entitled
marks_entitled ph c =
    record { into = λ i. entitled_phase ph i c; from = λ i l k. ap (λ b. b.1) (bits_in ph i c l Phase.entitled k) }

pub marks_waiting : (ph : Phases) → Tidy ph → Marks ph ph.waiting Phase.waiting
marks_waiting ph c =
    record { into = λ i. waiting_phase ph i c; from = λ i l k. ap (λ b. b.0) (bits_in ph i c l Phase.waiting k) }

-- ---- the processors that pass a test move to one phase

pub record Becomes (a : Phase) (test : ℕ → Bool) (ph ph' : Phases) : Type 0 where
  pub waiting_below : ph'.waiting < 2 ^ max_processors
  pub entitled_below : ph'.entitled < 2 ^ max_processors
  pub holding_below : ph'.holding < 2 ^ max_processors
  pub bits : (q : ℕ) → q < max_processors → bits_at ph' q ≡ cond (test q) (bits_of a) (bits_at ph q)

module _ {a : Phase} {test : ℕ → Bool} {ph ph' : Phases} (m : Becomes a test ph ph') where
  bits_moved : (q : ℕ) → q < max_processors → test q ≡ true → bits_at ph' q ≡ bits_of a
  bits_moved q l t = m.bits q l ∙ ap (λ u. cond u (bits_of a) (bits_at ph q)) t

  bits_kept : (q : ℕ) → q < max_processors → test q ≡ false → bits_at ph' q ≡ bits_at ph q
  bits_kept q l t = m.bits q l ∙ ap (λ u. cond u (bits_of a) (bits_at ph q)) t

  pub moved : (q : ℕ) → q < max_processors → test q ≡ true → phase_of ph' q ≡ a
  moved q l t = ap (λ b. phase_by b.0 b.1 b.2) (bits_moved q l t) ∙ phase_of_bits a

  pub kept : (q : ℕ) → q < max_processors → test q ≡ false → phase_of ph' q ≡ phase_of ph q
  kept q l t = ap (λ b. phase_by b.0 b.1 b.2) (bits_kept q l t)

  pub becomes_tidy : Tidy ph → Tidy ph'
  becomes_tidy c =
      record {
        waiting_below = m.waiting_below;
        entitled_below = m.entitled_below;
        holding_below = m.holding_below;
        bits = λ q l. go q l (test q) refl;
      }
    where
      go : (q : ℕ) → q < max_processors → (t : Bool) → test q ≡ t → bits_at ph' q ≡ bits_of (phase_of ph' q)
      go q l true t = bits_moved q l t ∙ ap bits_of (sym (moved q l t))
      go q l false t = bits_kept q l t ∙ c.bits q l ∙ ap bits_of (sym (kept q l t))
