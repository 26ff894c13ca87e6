-- Clean states: they contain just the requests that count, as calls leave them. The fresh state is clean. Assumes
-- nothing.
use Prim.Native.Nat.{ℕ, ◌≤◌, ◌<◌}
use mathlib.Core.Path.{◌≡◌, refl, sym, ap, ap₂, ◌∙◌}
use mathlib.Core.Bool.{Bool, true, not, ◌&&◌, ◌||◌, and-false}
use lib.ListN.{length, get_or}
use lib.Pow.{pow_pos}
use borrow.Author.Tests.{lt-ltb}
use Rattle.masks.proofs.Masks.{is_mask}
use Rattle.masks.proofs.Places.{bit_zero}
use Rattle.plans.specs.Entries.{max_processors}
use Rattle.rules.specs.declared.states.Board.{Board}
use Rattle.rules.specs.declared.states.State.{State}
use Rattle.rules.specs.CountedRequests.{in_plan, is_holding, is_entitled, is_waiting, cleaned}
use Rattle.rules.specs.Calls.{phases_of}
use Rattle.boards.specs.Fresh.{fresh_state}
use Rattle.runs.proofs.columns.Columns.{Phase, idle}
use Rattle.runs.proofs.columns.Phases.{clash}
use Rattle.runs.proofs.refinement.State.{three, bits_at, bits_of, phase_of, Tidy, inactive_idle}

-- Processor q's request in a state: its phase, its entry, and the tick of its issue, or of its grant while it holds.
abbrev pub phase_in : State → ℕ → Phase
phase_in s q = phase_of s.phases q

abbrev pub entry_for : State → ℕ → ℕ
entry_for s q = get_or s.requested q 0

abbrev pub since_in : State → ℕ → ℕ
since_in s q = get_or s.since q 0

-- A state that calls lead to, seen one processor at a time: tidy phases, requests of the plan, arrays of the declared
-- lengths, and no tick after the last accepted one.
pub record Clean (b : Board) (s : State) : Type 0 where
  pub tidy : Tidy s.phases
  pub in_plan_law : (q : ℕ) → q < max_processors → (phase_in s q ≡ idle → ⊥)
      → (q < b.terms.processors) × (entry_for s q < b.terms.count)
  pub entry_length : length s.requested ≡ max_processors
  pub since_length : length s.since ≡ max_processors
  pub dated : (q : ℕ) → q < max_processors → (phase_in s q ≡ idle → ⊥) → since_in s q ≤ s.last

-- ---- every request counts

-- What is left of the three bits of a request, where n says whether the request counts.
abbrev counted : Bool → Bool × Bool × Bool → Bool × Bool × Bool
counted n b = three (n && (b.0 && not (b.1 || b.2))) (n && (b.1 && not b.2)) (n && b.2)

all_counted : (a : Phase) (n : Bool) → ((a ≡ idle → ⊥) → n ≡ true) → bits_of a ≡ counted n (bits_of a)
all_counted Phase.idle n counts = ap (λ u. three u u u) (sym (and-false n))
all_counted Phase.waiting n counts = ap (λ u. counted u (bits_of Phase.waiting)) (sym (counts (λ k. clash refl k tt)))
all_counted Phase.entitled n counts = ap (λ u. counted u (bits_of Phase.entitled)) (sym (counts (λ k. clash refl k tt)))
all_counted Phase.holding n counts = ap (λ u. counted u (bits_of Phase.holding)) (sym (counts (λ k. clash refl k tt)))

pub clean_phases : (b : Board) (s : State) → Clean b s → phases_of b s ≡ s.phases
unfolding cleaned is_holding is_entitled is_waiting
clean_phases b s c =
    λ i. record {
      waiting =
          sym (is_mask max_processors s.phases.waiting _ c.tidy.waiting_below (λ q l. ap (λ b. b.0) (same q l)))
          i;
      entitled =
          sym (is_mask max_processors s.phases.entitled _ c.tidy.entitled_below
          (λ q l. ap (λ b. b.1) (same q l))) i;
      holding =
          sym (is_mask max_processors s.phases.holding _ c.tidy.holding_below (λ q l. ap (λ b. b.2) (same q l)))
          i;
    }
  where
    counts : (q : ℕ) → q < max_processors → (phase_in s q ≡ idle → ⊥) → in_plan b.terms s.requested q ≡ true
    counts q l a =
        let p = c.in_plan_law q l a in
        ap₂ ◌&&◌ (ap₂ ◌&&◌ (lt-ltb q max_processors l) (lt-ltb q b.terms.processors p.0))
        (lt-ltb (entry_for s q) b.terms.count p.1)

    same : (q : ℕ) → q < max_processors → bits_at s.phases q
        ≡ counted (in_plan b.terms s.requested q) (bits_at s.phases q)
    same q l =
        let is = c.tidy.bits q l in
        is ∙ all_counted (phase_in s q) _ (counts q l) ∙ ap (counted (in_plan b.terms s.requested q)) (sym is)

-- ---- the fresh state

pub fresh_idle : (q : ℕ) → phase_in fresh_state q ≡ idle
fresh_idle q = inactive_idle fresh_state.phases q (ap (λ u. u || u || u) (bit_zero q))

pub fresh_clean : (b : Board) → Clean b fresh_state
fresh_clean b =
    record {
      tidy =
          record {
            waiting_below = pow_pos max_processors;
            entitled_below = pow_pos max_processors;
            holding_below = pow_pos max_processors;
            bits = λ q l. ap (λ u. three u u u) (bit_zero q) ∙ ap bits_of (sym (fresh_idle q));
          };
      in_plan_law = λ q l a. absurd (a (fresh_idle q));
      entry_length = refl;
      since_length = refl;
      dated = λ q l a. absurd (a (fresh_idle q));
    }
