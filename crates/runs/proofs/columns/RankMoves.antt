-- What a call does to ranks: no write that stays gets a higher rank, and the first stays the first. Assumes nothing.
use Prim.Native.Nat.{ℕ, ◌<◌, ◌≤◌}
use native.Mathlib.Omega.{arith}
use native.Mathlib.Decide.{ℕ_discrete}
use mathlib.Core.Path.{◌≡◌, refl, sym, ap, ◌∙◌}
use mathlib.Core.Bool.{false}
use mathlib.Core.Logic.{◌⊎◌, inl, inr}
use Rattle.runs.proofs.columns.Columns.{Phase, idle, waiting, entitled, holding, Requests, Start, puts_in}
use Rattle.runs.proofs.columns.Columns.{takes_out, Called}
use Rattle.runs.proofs.columns.Phases.{clash, true_not_false}
use Rattle.runs.proofs.columns.Moves.{same_write, same_group, same_earlier, active_untouched, active_before}
use Rattle.runs.proofs.columns.Rank.{GroupWrite, Ahead, rank, NoneNew, rank_at_most, rank_less, First}

pub idle_or_active : (x : Phase) → (x ≡ idle) ⊎ (x ≡ idle → ⊥)
idle_or_active idle = inl refl
idle_or_active waiting = inr (λ e. clash refl e tt)
idle_or_active entitled = inr (λ e. clash refl e tt)
idle_or_active holding = inr (λ e. clash refl e tt)

-- A new request is earlier than no other.
newcomer_earlier_than_none : {n : ℕ} {R R' : Requests} {ph ph₀ : ℕ → Phase} → Start n R R' ph ph₀ → (j i : ℕ) → j < n
    → i < n → ph j ≡ idle
    → (ph₀ j ≡ idle → ⊥) → R'.earlier j i ≡ false
newcomer_earlier_than_none {R' = R'} (puts_in p s) j i lj li was now = go (ℕ_discrete j p)
  where
    go : Dec (j ≡ p) → R'.earlier j i ≡ false
    go (yes e) = ap (λ k. R'.earlier k i) e ∙ s.earlier_than_none i li
    go (no d) = absurd (now (s.others j lj d ∙ was))
newcomer_earlier_than_none {ph₀ = ph₀} (takes_out p s) j i lj li was now = absurd
    (now (s.others j lj (λ e. now (ap ph₀ e ∙ s.now_idle)) ∙ was))

module _ {n t : ℕ} {R R' : Requests} {ph ph' : ℕ → Phase} {si si' : ℕ → ℕ} (c : Called n t R R' ph ph' si si') where
  pub was_group_write : (i : ℕ) → i < n → (ph i ≡ idle → ⊥) → GroupWrite R' ph' i → GroupWrite R ph i
  was_group_write i l a g =
      let d = active_untouched c i l a g.active in
      record {
        active = a;
        write_is = sym (same_write c.start i l d) ∙ g.write_is;
        group_is = sym (same_group c.start i l d) ∙ g.group_is;
      }

  pub is_group_write : (i : ℕ) → i < n → (ph' i ≡ idle → ⊥) → GroupWrite R ph i → GroupWrite R' ph' i
  is_group_write i l b g =
      let d = active_untouched c i l g.active b in
      record {
        active = b;
        write_is = same_write c.start i l d ∙ g.write_is;
        group_is = same_group c.start i l d ∙ g.group_is;
      }

  -- Every write that is ahead of a request that stays was ahead of it before.
  pub nothing_new_ahead : (i : ℕ) → i < n → (ph i ≡ idle → ⊥) → (ph' i ≡ idle → ⊥) → NoneNew n R' ph' i R ph i
  nothing_new_ahead i l a b j lj x = go (idle_or_active (ph j))
    where
      go : (ph j ≡ idle) ⊎ (ph j ≡ idle → ⊥) → Ahead R ph i j
      go (inl e) = absurd (true_not_false x.before
          (newcomer_earlier_than_none c.start j i lj l e (active_before c j lj x.member.active)))
      go (inr d) =
          record {
            member = was_group_write j lj d x.member;
            before =
                sym (same_earlier c.start j i lj l (active_untouched c j lj d x.member.active)
                (active_untouched c i l a b))
                ∙ x.before;
          }

  pub rank_does_not_rise : (i : ℕ) → i < n → (ph i ≡ idle → ⊥) → (ph' i ≡ idle → ⊥) → rank n R' ph' i ≤ rank n R ph i
  rank_does_not_rise i l a b = rank_at_most n R' ph' i R ph i (nothing_new_ahead i l a b)

  -- If a write that was ahead leaves, the rank falls.
  pub rank_falls : (i : ℕ) → i < n → (ph i ≡ idle → ⊥) → (ph' i ≡ idle → ⊥) → (j : ℕ) → j < n → Ahead R ph i j → ph' j
      ≡ idle
      → rank n R' ph' i < rank n R ph i
  rank_falls i l a b j lj ahead gone = rank_less n R' ph' i R ph i (nothing_new_ahead i l a b) j lj ahead
      (λ x. x.member.active gone)

  pub first_stays_first : (f : ℕ) → First n R ph f → (ph' f ≡ idle → ⊥) → First n R' ph' f
  first_stays_first f first b =
      record {
        below = first.below;
        member = is_group_write f first.below b first.member;
        rank_zero = omega (arith, rank_does_not_rise f first.below first.member.active b, first.rank_zero);
      }
