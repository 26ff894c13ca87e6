-- The effect of a request that enters or leaves, built from the two masks and the ticks of grants. Assumes nothing.
use mathlib.Core.Path.{◌≡◌, ap, ◌∙◌}
use mathlib.Core.Bool.{cond, not, ◌&&◌}
use mathlib.Core.List.{List}
use Prim.Native.Nat.{ℕ, ◌^◌, ◌<◌}
use native.Mathlib.Omega.{arith}
use lib.ListN.{get_or}
use Rattle.masks.specs.Sets.{bit, without, mask_of}
use Rattle.masks.proofs.Places.{bit_without, and_below, wider}
use Rattle.masks.proofs.Tests.{Mask, by_bits, bit_is}
use Rattle.plans.specs.Entries.{max_processors}
use Rattle.masks.specs.Tabulation.{tabulate}
use Rattle.masks.proofs.Tabulate.{tabulate_agree}
use Rattle.rules.specs.declared.states.Phases.{Phases}
use Rattle.rules.specs.Acts.{began, stamped}
use Rattle.rules.specs.Calls.{Answer, done}
use Rattle.rules.specs.InPlace.{state_by}
use Rattle.requests.specs.Effect.{effect_as_numbers}

-- The processors in the second mask that are not in the first.
new_is : (before after : ℕ) → after < 2 ^ max_processors → before < 2 ^ 32
    → Mask max_processors (λ k. bit after k && not (bit before k)) (without 32 after before)
new_is before after la lb =
    by_bits (and_below max_processors after _ la)
    (λ k l. bit_without 32 after before k (wider {w = max_processors} {W = 32} (omega arith) la) lb)

pub carried_done : (tick : ℕ) (before after : Phases) (late granted entitled : ℕ) (entry since earlier stamps : List ℕ)
    → after.entitled < 2 ^ max_processors → after.holding < 2 ^ max_processors → before.entitled < 2 ^ 32
    → before.holding < 2 ^ 32
    → granted ≡ without 32 after.holding before.holding → entitled
    ≡ without 32 after.entitled before.entitled
    → stamps ≡ tabulate max_processors (λ p. cond (bit granted p) tick (get_or since p 0))
    → ◌≡◌ {A = Answer}
    (effect_as_numbers (record {
      done = record { granted = granted; entitled = entitled; late = late };
      phases = after;
    }) tick entry stamps earlier)
    (done (state_by (record { last = tick; phases = before }) entry since earlier) after late)
unfolding stamped done
carried_done tick before after late granted entitled entry since earlier stamps ae ah le lh eg ee es =
    λ i. record {
      reply = record { number = 0; granted = g i; entitled = (ee ∙ (new_is _ _ ae le).is) i; late = late };
      state = state_by (record { last = tick; phases = after }) entry (s i) earlier;
    }
  where
    g : granted ≡ mask_of max_processors (began before after)
    g = eg ∙ (new_is before.holding after.holding ah lh).is

    s : stamps ≡ tabulate max_processors (λ p. cond (began before after p) tick (get_or since p 0))
    s = es ∙ tabulate_agree max_processors _ _
        (λ k l. ap (λ t. cond t tick (get_or since k 0)) (bit_is (record { is = g }) k l))
