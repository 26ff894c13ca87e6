-- The masks of an act, and of one request removed and another of its processor added, in terms of the states before and
-- after. Assumes nothing.
use Prim.Native.Nat.{ℕ, ◌<◌}
use mathlib.Core.Path.{◌≡◌, refl, sym, ap, ap₂, subst, ◌∙◌}
use mathlib.Core.Bool.{Bool, true, false, not, ◌&&◌, ◌||◌, and-true, or-false, false≢true}
use mathlib.Core.Logic.{inl, inr}
use lib.Dec.{eqb}
use borrow.Author.Tests.{eq-eqb, ne_eqb}
use Rattle.masks.specs.Sets.{bit}
use Rattle.masks.proofs.Masks.{bit_mask_at}
use Rattle.plans.specs.Entries.{max_processors}
use Rattle.rules.specs.declared.states.Board.{Board}
use Rattle.rules.specs.declared.states.State.{State}
use Rattle.rules.specs.Acts.{began, became}
use Rattle.rules.specs.Calls.{facts_of, both}
use Rattle.runs.specs.History.{Act, puts, takes}
use Rattle.runs.specs.Claim.{every_entry}
use Rattle.runs.proofs.history.Cases.{by_processor}
use Rattle.runs.proofs.history.Frame.{entitles_in, BothAllowed, both_answer}
use Rattle.runs.proofs.columns.Columns.{idle, waiting}
use Rattle.runs.proofs.columns.Phases.{Rises, clash, idle_stays, holding_stays, entitled_or_holding_stays}
use Rattle.runs.proofs.columns.Phases.{EntitledOrHolding}
use Rattle.runs.proofs.refinement.State.{bits_at, bits_of, held_phase, held_bit, entitled_phase, marks_entitled}
use Rattle.runs.proofs.refinement.State.{bits_in}
use Rattle.runs.proofs.refinement.Clean.{phase_in, Clean}
use Rattle.runs.proofs.refinement.Acts.{caller_of, start_of, state_after_act, phases_after, grants_in, Allowed, begun}
use Rattle.runs.proofs.refinement.Acts.{start_tidy, settled_rises, act_done}

-- Processor q holds, or is entitled, in the state.
abbrev pub holds_at : State → ℕ → Bool
holds_at s q = bit s.phases.holding q

abbrev pub entitled_at : State → ℕ → Bool
entitled_at s q = bit s.phases.entitled q

-- ---- two rises, bit by bit

-- A bit that is set stays set: what either rise set, the two together set.
set_by_either : (a b c : Bool) → (a ≡ true → b ≡ true) → (b ≡ true → c ≡ true)
    → ((b && not a) || (c && not b)) ≡ (c && not a)
set_by_either true true true h k = refl
set_by_either true true false h k = absurd (false≢true (k refl))
set_by_either true false c h k = absurd (false≢true (h refl))
set_by_either false true true h k = refl
set_by_either false true false h k = absurd (false≢true (k refl))
set_by_either false false true h k = refl
set_by_either false false false h k = refl

-- A bit that is set at both ends was set in between.
set_at_the_end : (a b c : Bool) → (a ≡ true → c ≡ true → b ≡ true)
    → (((b && not a) || (c && not b)) && c) ≡ (c && not a)
set_at_the_end true true true h = refl
set_at_the_end true true false h = refl
set_at_the_end true false true h = absurd (false≢true (h refl refl))
set_at_the_end true false false h = refl
set_at_the_end false true true h = refl
set_at_the_end false true false h = refl
set_at_the_end false false true h = refl
set_at_the_end false false false h = refl

-- ---- one act

module _ (b : Board) (s : State) (t : ℕ) (a : Act) (c : Clean b s) (k : Allowed b s t a) (q : ℕ)
    (l : q < max_processors) where
  granted_at : bit (grants_in b s t a) q ≡ (holds_at (state_after_act b s t a) q && not (holds_at (start_of s t a) q))
  granted_at = bit_mask_at max_processors (began (start_of s t a).phases (phases_after b s t a)) q l

  entitled_at_law : bit (entitles_in b s t a) q
      ≡ (entitled_at (state_after_act b s t a) q && not (entitled_at (start_of s t a) q))
  entitled_at_law = bit_mask_at max_processors (became (start_of s t a).phases (phases_after b s t a)) q l

  own_rises : Rises (phase_in (start_of s t a) q) (phase_in (state_after_act b s t a) q)
  own_rises = settled_rises (facts_of b (start_of s t a)) every_entry (start_of s t a).phases (start_tidy b s t c a k) q l

  -- A processor whose request the act leaves alone.
  module _ (other : q ≡ caller_of a → ⊥) where
    untouched : bits_at (start_of s t a).phases q ≡ bits_at s.phases q
    untouched =
        (start_tidy b s t c a k).bits q l ∙ ap bits_of ((begun b s t c a k).others q l other).phase
        ∙ sym (c.tidy.bits q l)

    other_rises : Rises (phase_in s q) (phase_in (state_after_act b s t a) q)
    other_rises =
        subst (λ x. Rises x (phase_in (state_after_act b s t a) q)) ((begun b s t c a k).others q l other).phase own_rises

    other_granted : bit (grants_in b s t a) q ≡ (holds_at (state_after_act b s t a) q && not (holds_at s q))
    other_granted = granted_at ∙ ap (λ x. holds_at (state_after_act b s t a) q && not x.2) untouched

    other_entitled : bit (entitles_in b s t a) q
        ≡ (entitled_at (state_after_act b s t a) q && not (entitled_at s q))
    other_entitled = entitled_at_law ∙ ap (λ x. entitled_at (state_after_act b s t a) q && not x.1) untouched

-- ---- one act and then another of the same processor

twice : (a : Bool) → ((a && true) && a) ≡ a
twice true = refl
twice false = refl

or-true : (a : Bool) → (a || true) ≡ true
or-true true = refl
or-true false = refl

module _ (b : Board) (s : State) (t p e late : ℕ) (c : Clean b s) (k : BothAllowed b s t p e) where
  abbrev s₁ : State
  s₁ = state_after_act b s t (takes p)

  abbrev s₂ : State
  s₂ = state_after_act b s₁ t (puts p e)

  clean₁ : Clean b (state_after_act b s t (takes p))
  clean₁ = (act_done b s t (takes p) c k.first).clean

  clean₂ : Clean b (state_after_act b (state_after_act b s t (takes p)) t (puts p e))
  clean₂ = (act_done b s₁ t (puts p e) clean₁ k.second).clean

  -- ---- another processor

  module _ (q : ℕ) (l : q < max_processors) (other : q ≡ p → ⊥) where
    rises₁ : Rises (phase_in s q) (phase_in (state_after_act b s t (takes p)) q)
    rises₁ = other_rises b s t (takes p) c k.first q l other

    rises₂ : Rises (phase_in (state_after_act b s t (takes p)) q)
        (phase_in (state_after_act b (state_after_act b s t (takes p)) t (puts p e)) q)
    rises₂ = other_rises b s₁ t (puts p e) clean₁ k.second q l other

    entitled_between : entitled_at s q ≡ true → entitled_at s₂ q ≡ true → entitled_at s₁ q ≡ true
    entitled_between at_first at_last =
        go (entitled_or_holding_stays rises₁ (inl (entitled_phase s.phases q c.tidy l at_first)))
      where
        go : EntitledOrHolding (phase_in s₁ q) → entitled_at s₁ q ≡ true
        go (inl is) = (marks_entitled s₁.phases clean₁.tidy).from q l is
        go (inr is) =
            absurd (clash (holding_stays rises₂ is) (entitled_phase s₂.phases q clean₂.tidy l at_last) tt)

    granted_other : bit (both_answer b s t p e late).reply.granted q ≡ (holds_at s₂ q && not (holds_at s q))
    unfolding both
    granted_other =
        bit_mask_at max_processors _ q l
        ∙ ap₂ ◌||◌ (other_granted b s t (takes p) c k.first q l other)
        (other_granted b s₁ t (puts p e) clean₁ k.second q l other)
        ∙ set_by_either (holds_at s q) (holds_at s₁ q) (holds_at s₂ q)
        (λ h. held_bit s₁.phases q (holding_stays rises₁ (held_phase s.phases q h)))
        (λ h. held_bit s₂.phases q (holding_stays rises₂ (held_phase s₁.phases q h)))

    entitled_other : bit (both_answer b s t p e late).reply.entitled q ≡ (entitled_at s₂ q && not (entitled_at s q))
    unfolding both
    entitled_other =
        bit_mask_at max_processors _ q l
        ∙ ap₂ (λ x y. (x || y) && entitled_at s₂ q) (other_entitled b s t (takes p) c k.first q l other)
        (other_entitled b s₁ t (puts p e) clean₁ k.second q l other)
        ∙ set_at_the_end (entitled_at s q) (entitled_at s₁ q) (entitled_at s₂ q) entitled_between

  -- ---- the processor itself: idle in between, and then waiting

  idle_between : bits_at (state_after_act b s t (takes p)).phases p ≡ bits_of idle
  idle_between =
      bits_in s₁.phases p clean₁.tidy k.first.below idle
      (idle_stays (own_rises b s t (takes p) c k.first p k.first.below)
      (begun b s t c (takes p) k.first).own.now_idle)

  waiting_then : bits_at (start_of (state_after_act b s t (takes p)) t (puts p e)).phases p ≡ bits_of waiting
  waiting_then =
      bits_in (start_of s₁ t (puts p e)).phases p (start_tidy b s₁ t clean₁ (puts p e) k.second) k.second.below
      waiting
      (begun b s₁ t clean₁ (puts p e) k.second).own.now_waiting

  granted_own : bit (both_answer b s t p e late).reply.granted p ≡ holds_at s₂ p
  unfolding both
  granted_own =
      bit_mask_at max_processors _ p k.first.below
      ∙ ap₂ ◌||◌
      (granted_at b s t (takes p) c k.first p k.first.below
      ∙ ap (λ x. x.2 && not (holds_at (start_of s t (takes p)) p)) idle_between)
      (granted_at b s₁ t (puts p e) clean₁ k.second p k.second.below
      ∙ ap (λ x. holds_at s₂ p && not x.2) waiting_then)
      ∙ and-true (holds_at s₂ p)

  entitled_own : bit (both_answer b s t p e late).reply.entitled p ≡ entitled_at s₂ p
  unfolding both
  entitled_own =
      bit_mask_at max_processors _ p k.first.below
      ∙ ap₂ (λ x y. (x || y) && entitled_at s₂ p)
      (entitled_at_law b s t (takes p) c k.first p k.first.below
      ∙ ap (λ x. x.1 && not (entitled_at (start_of s t (takes p)) p)) idle_between)
      (entitled_at_law b s₁ t (puts p e) clean₁ k.second p k.second.below
      ∙ ap (λ x. entitled_at s₂ p && not x.1) waiting_then)
      ∙ twice (entitled_at s₂ p)

  -- ---- every processor

  pub granted_by_both : (q : ℕ) → q < max_processors
      → bit (both_answer b s t p e late).reply.granted q
      ≡ (holds_at (both_answer b s t p e late).state q && (not (holds_at s q) || eqb q p))
  unfolding both
  granted_by_both q l =
      by_processor q p
      (λ same.
      ap (λ (r : ℕ). bit (both_answer b s t p e late).reply.granted r) same ∙ granted_own ∙ ap (holds_at s₂) (sym same)
      ∙ sym (and-true (holds_at s₂ q))
      ∙ ap (λ x. holds_at s₂ q && x)
      (sym (ap (λ x. not (holds_at s q) || x) (eq-eqb q p same) ∙ or-true (not (holds_at s q)))))
      (λ other.
      granted_other q l other
      ∙ ap (λ x. holds_at s₂ q && x)
      (sym (ap (λ x. not (holds_at s q) || x) (ne_eqb q p other) ∙ or-false (not (holds_at s q)))))

  pub entitled_by_both : entitled_at s p ≡ false → (q : ℕ) → q < max_processors
      → bit (both_answer b s t p e late).reply.entitled q
      ≡ (entitled_at (both_answer b s t p e late).state q && not (entitled_at s q))
  unfolding both
  entitled_by_both held q l =
      by_processor q p
      (λ same.
      ap (λ (r : ℕ). bit (both_answer b s t p e late).reply.entitled r) same ∙ entitled_own
      ∙ ap (entitled_at s₂) (sym same)
      ∙ sym (and-true (entitled_at s₂ q))
      ∙ ap (λ x. entitled_at s₂ q && not x) (sym (ap (entitled_at s) same ∙ held)))
      (λ other. entitled_other q l other)
