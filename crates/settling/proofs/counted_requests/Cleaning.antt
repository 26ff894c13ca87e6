-- The requests that count, in masks. Assumes nothing.
use mathlib.Core.Path.{◌≡◌, sym, ap, ◌∙◌}
use mathlib.Core.Bool.{Bool, not, ◌&&◌}
use mathlib.Core.List.{List}
use Prim.Native.Nat.{ℕ, ◌-◌, ◌^◌, ◌<◌, ◌≤◌}
use lib.Bits.{bit_and, bit_or}
use lib.Dec.{ltb}
use lib.ListN.{get_or}
use borrow.Author.Tests.{lt-ltb}
use Rattle.masks.specs.Sets.{bit, without, mask_of}
use Rattle.masks.proofs.Places.{bit_or_law, bit_without, or_below}
use Rattle.masks.proofs.Tests.{Mask, bit_is, agree_is, first_is, and_any}
use Rattle.plans.specs.Entries.{max_processors}
use Rattle.rules.specs.declared.states.Phases.{Phases}
use Rattle.rules.specs.declared.states.Terms.{Terms}
use Rattle.rules.specs.CountedRequests.{has_processor, in_plan, is_waiting, is_entitled, is_holding, cleaned}

-- The first n places are the plan's processors, if n and the plan's count agree on every processor.
pub processors_are : (terms : Terms) (n : ℕ) → n ≤ max_processors
    → ((k : ℕ) → k < max_processors → ltb k n ≡ ltb k terms.processors)
    → 2 ^ n - 1 ≡ mask_of max_processors (has_processor terms)
processors_are terms n h same =
    (agree_is (λ k l. same k l ∙ ap (λ t. t && ltb k terms.processors) (sym (lt-ltb k max_processors l)))
    (first_is max_processors n h)).is

module _ (terms : Terms) (entry : List ℕ) (ph : Phases) where
  pub cleaned_masks : ph.waiting < 2 ^ 32 → ph.entitled < 2 ^ 32 → ph.holding < 2 ^ 32
      → (first among waiting entitled : ℕ)
      → first ≡ mask_of max_processors (has_processor terms) → among
      ≡ mask_of max_processors (λ p. bit first p && ltb (get_or entry p 0) terms.count)
      → waiting ≡ without 32 ph.waiting (bit_or ph.entitled ph.holding) → entitled
      ≡ without 32 ph.entitled ph.holding
      → ◌≡◌ {A = Phases}
      (record {
        waiting = bit_and among waiting;
        entitled = bit_and among entitled;
        holding = bit_and among
            ph.holding;
      })
      (cleaned terms entry ph)
  unfolding is_waiting is_entitled is_holding cleaned
  cleaned_masks hw he hh first among waiting entitled ef ea ew ee =
      λ i. record { waiting = w.is i; entitled = e.is i; holding = (and_any counted ph.holding).is i }
    where
      counted : Mask max_processors (in_plan terms entry) among
      counted =
          agree_is (λ k l. ap (λ t. t && ltb (get_or entry k 0) terms.count) (bit_is (record { is = ef }) k l))
          (record { is = ea })

      kept : (n : ℕ) (Q : ℕ → Bool) → ((k : ℕ) → bit n k ≡ Q k)
          → Mask max_processors (λ k. in_plan terms entry k && Q k) (bit_and among n)
      kept n Q same = agree_is (λ k l. ap (λ t. in_plan terms entry k && t) (same k)) (and_any counted n)

      w : Mask max_processors (is_waiting terms entry ph) (bit_and among waiting)
      w =
          kept waiting _
          (λ k. ap (λ (x : ℕ). bit x k) ew ∙ bit_without 32 ph.waiting (bit_or ph.entitled ph.holding) k hw
          (or_below 32 ph.entitled ph.holding he hh)
          ∙ ap (λ t. bit ph.waiting k && not t) (bit_or_law ph.entitled ph.holding k))

      e : Mask max_processors (is_entitled terms entry ph) (bit_and among entitled)
      e = kept entitled _ (λ k. ap (λ (x : ℕ). bit x k) ee ∙ bit_without 32 ph.entitled ph.holding k he hh)
