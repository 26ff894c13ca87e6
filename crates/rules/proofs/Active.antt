-- Settling moves requests from phase to phase and does not change which are active. So one mask of the active writes
-- serves all four steps. Assumes nothing.
use mathlib.Core.Path.{◌≡◌, refl, ap, ap₂, ◌∙◌}
use mathlib.Core.Bool.{Bool, true, false, not, ◌&&◌, ◌||◌, false≢true, and-true, or-true, or-false}
use Prim.Native.Nat.{ℕ, ◌<◌}
use Rattle.masks.specs.Sets.{bit}
use Rattle.masks.proofs.Masks.{bit_mask_at}
use Rattle.masks.proofs.Truth.{or_left, or_right}
use Rattle.plans.specs.Entries.{max_processors}
use Rattle.rules.specs.Requests.{active}
use Rattle.rules.specs.Settling.{hold, entitle}
use Rattle.rules.specs.declared.states.Phases.{Phases}

-- ---- a phase is within the active ones

pub unsatisfied_active : (ph : Phases) (p : ℕ) → (bit ph.waiting p || bit ph.entitled p) ≡ true → active ph p
    ≡ true
unsatisfied_active ph p e = or_left (bit ph.waiting p || bit ph.entitled p) (bit ph.holding p) e

pub waiting_active : (ph : Phases) (p : ℕ) → bit ph.waiting p ≡ true → active ph p ≡ true
waiting_active ph p e = unsatisfied_active ph p (or_left (bit ph.waiting p) (bit ph.entitled p) e)

pub entitled_active : (ph : Phases) (p : ℕ) → bit ph.entitled p ≡ true → active ph p ≡ true
entitled_active ph p e = unsatisfied_active ph p (or_right (bit ph.waiting p) (bit ph.entitled p) e)

pub holding_active : (ph : Phases) (p : ℕ) → bit ph.holding p ≡ true → active ph p ≡ true
holding_active ph p e = or_right (bit ph.waiting p || bit ph.entitled p) (bit ph.holding p) e

-- So the active writes in a phase are the writes of the phase.
pub within_and : (p a w : Bool) → (p ≡ true → a ≡ true) → (p && (a && w)) ≡ (p && w)
within_and false a w h = refl
within_and true a w h = ap (λ t. t && w) (h refl)

pub within_not : (p a w : Bool) → (p ≡ true → a ≡ true) → (p && not (a && w)) ≡ (p && not w)
within_not false a w h = refl
within_not true a w h = ap (λ t. not (t && w)) (h refl)

-- ---- a move from phase to phase

held_same : (x e h t : Bool) → (t ≡ true → (x || e) ≡ true) → (((x && not t) || (e && not t)) || (h || t))
    ≡ ((x || e) || h)
held_same x e h false i = λ k. ((and-true x k || and-true e k) || or-false h k)
held_same true e h true i = ap (λ u. (e && false) || u) (or-true h) ∙ or-true (e && false)
held_same false true h true i = or-true h
held_same false false h true i = absurd (false≢true (i refl))

entitled_same : (x e h t : Bool) → (t ≡ true → x ≡ true) → (x && not t || (e || t) || h) ≡ (x || e || h)
entitled_same x e h false i = ap₂ (λ u v. u || v || h) (and-true x) (or-false e)
entitled_same true e h true i = ap (λ u. u || h) (or-true e)
entitled_same false e h true i = absurd (false≢true (i refl))

module _ (ph : Phases) (test : ℕ → Bool) (p : ℕ) (l : p < max_processors) where
  pub active_held : (test p ≡ true → (bit ph.waiting p || bit ph.entitled p) ≡ true) → active (hold ph test) p
      ≡ active ph p
  active_held i =
      (λ k.
      ((bit_mask_at max_processors (λ q. bit ph.waiting q && not (test q)) p l k
      || bit_mask_at max_processors (λ q. bit ph.entitled q && not (test q)) p l k)
      || bit_mask_at max_processors (λ q. bit ph.holding q || test q) p l k))
      ∙ held_same (bit ph.waiting p) (bit ph.entitled p) (bit ph.holding p) (test p) i

  pub active_entitled : (test p ≡ true → bit ph.waiting p ≡ true) → active (entitle ph test) p ≡ active ph p
  active_entitled i =
      ap₂ (λ u v. u || v || bit ph.holding p)
      (bit_mask_at max_processors (λ q. bit ph.waiting q && not (test q)) p l)
      (bit_mask_at max_processors (λ q. bit ph.entitled q || test q) p l)
      ∙ entitled_same (bit ph.waiting p) (bit ph.entitled p) (bit ph.holding p) (test p) i
