-- Two effects merged into one: the masks of both. Assumes nothing.
use mathlib.Core.Path.{◌≡◌}
use mathlib.Core.Bool.{◌&&◌, ◌||◌}
use mathlib.Core.List.{List}
use Prim.Native.Nat.{ℕ, ◌^◌, ◌<◌}
use lib.Bits.{bit_and, bit_or}
use Rattle.masks.specs.Sets.{bit}
use Rattle.masks.proofs.Tests.{Mask, own_is, or_is, and_is}
use Rattle.plans.specs.Entries.{max_processors}
use Rattle.rules.specs.Calls.{Answer, both}
use Rattle.rules.specs.InPlace.{state_by}
use Rattle.requests.specs.declared.effects.Effect.{Effect}
use Rattle.requests.specs.Effect.{effect_as_numbers}

pub merged_both : (first second : Effect) (tick : ℕ) (entry entry₂ since since₂ earlier earlier₂ : List ℕ)
    → first.done.granted < 2 ^ 32 → second.done.granted < 2 ^ 32 → first.done.entitled < 2 ^ 32
    → second.done.entitled < 2 ^ 32 → second.phases.entitled < 2 ^ 32
    → ◌≡◌ {A = Answer}
    (effect_as_numbers
    (record {
      done = record {
        granted = bit_or first.done.granted second.done.granted;
        entitled = bit_and (bit_or first.done.entitled second.done.entitled) second.phases.entitled;
        late = first.done.late;
      };
      phases = second.phases;
    })
    tick entry₂ since₂ earlier₂)
    (both (effect_as_numbers first tick entry since earlier) (effect_as_numbers second tick entry₂ since₂ earlier₂))
unfolding both
merged_both first second tick entry entry₂ since since₂ earlier earlier₂ g₁ g₂ e₁ e₂ e =
    λ i. record {
      reply = record { number = 0; granted = granted.is i; entitled = entitled.is i; late = first.done.late };
      state = state_by (record { last = tick; phases = second.phases }) entry₂ since₂ earlier₂;
    }
  where
    own : (n : ℕ) → n < 2 ^ 32 → Mask max_processors (bit n) n
    own = own_is max_processors

    granted : Mask max_processors (λ q. bit first.done.granted q || bit second.done.granted q)
        (bit_or first.done.granted second.done.granted)
    granted = or_is (own _ g₁) (own _ g₂)

    entitled : Mask max_processors (λ q. (bit first.done.entitled q || bit second.done.entitled q)
        && bit second.phases.entitled q)
        (bit_and (bit_or first.done.entitled second.done.entitled) second.phases.entitled)
    entitled = and_is (or_is (own _ e₁) (own _ e₂)) (own _ e)
