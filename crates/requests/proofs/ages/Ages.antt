-- Who is earlier after a new request, in lists with a place for each processor. Assumes nothing.
use mathlib.Core.Path.{◌≡◌, refl, sym, ap, ap₂, ◌∙◌}
use mathlib.Core.Bool.{Bool, true, false, cond, not, ◌&&◌}
use mathlib.Core.List.{List}
use Prim.Native.Nat.{ℕ, ◌^◌, ◌<◌, ◌≤◌}
use native.Mathlib.Omega.{arith}
use lib.Bits.{bit_and, bit_or}
use lib.Dec.{eqb, ltb}
use lib.ListN.{length, get_or, set, length-set}
use lib.Seq.{ext_get_or}
use Rattle.std.proofs.lemmas.List.{set_past}
use borrow.Author.Tests.{ne_eqb, ltb-true, ltb-false}
use Rattle.masks.specs.Sets.{bit, mask_of}
use Rattle.masks.proofs.Tests.{Mask, own_is, or_is, any_and}
use Rattle.masks.proofs.Stores.{stored_at}
use Rattle.plans.specs.Entries.{max_processors}
use Rattle.masks.specs.Tabulation.{tabulate}
use Rattle.masks.proofs.Tabulate.{length_tabulate, get_d_tabulate}
use Rattle.rules.specs.declared.states.Phases.{Phases}
use Rattle.rules.specs.Requests.{active}
use Rattle.rules.specs.Acts.{put_last}

-- A list with these elements.
pub is_tabulate : (n : ℕ) (f : ℕ → ℕ) (xs : List ℕ) → length xs ≡ n → ((k : ℕ) → k < n → get_or xs k 0 ≡ f k) → xs
    ≡ tabulate n f
is_tabulate n f xs full same =
    ext_get_or 0 xs (tabulate n f) (full ∙ sym (length_tabulate n f))
    (λ k l. let here : k < n = omega (arith, full) in same k here ∙ sym (get_d_tabulate n f k 0 here))

-- Every processor but p.
abbrev pub others : ℕ → ℕ → Bool
others p q = not (eqb q p)

active_is : (ph : Phases) → ph.waiting < 2 ^ 32 → ph.entitled < 2 ^ 32 → ph.holding < 2 ^ 32
    → Mask max_processors (active ph) (bit_or (bit_or ph.waiting ph.entitled) ph.holding)
active_is ph hw he hh =
    or_is (or_is (own_is max_processors ph.waiting hw) (own_is max_processors ph.entitled he))
    (own_is max_processors ph.holding hh)

module _ (earlier kept : List ℕ) (ph : Phases) (p keep : ℕ) (ek : keep ≡ mask_of max_processors (others p))
    (et : kept ≡ tabulate max_processors (λ q. bit_and (get_or earlier q 0) keep)) where
  full : length kept ≡ max_processors
  full = ap length et ∙ length_tabulate max_processors (λ q. bit_and (get_or earlier q 0) keep)

  -- What is kept in the others' sets.
  kept_at : (k : ℕ) → k < max_processors → get_or kept k 0
      ≡ mask_of max_processors (λ r. bit (get_or earlier k 0) r && not (eqb r p))
  kept_at k m =
      ap (λ xs. get_or xs k 0) et ∙ get_d_tabulate max_processors (λ q. bit_and (get_or earlier q 0) keep) k 0 m
      ∙ (any_and (get_or earlier k 0) (record { is = ek })).is

  last_put : (active_mask : ℕ) → Mask max_processors (active ph) active_mask → p < max_processors
      → set kept p active_mask ≡ put_last earlier ph p
  unfolding put_last
  last_put active_mask m l =
      is_tabulate max_processors _ _ (length-set kept p _ ∙ full)
      (λ k h. stored_at kept p _ k (omega (arith, full))
      ∙ ap₂ (λ (x y : ℕ). cond (eqb k p) x y) m.is (kept_at k h))

  -- A processor that a state has no place for is added nowhere.
  none_put : max_processors ≤ p → kept ≡ put_last earlier ph p
  unfolding put_last
  none_put l =
      is_tabulate max_processors _ _ full
      (λ k m. kept_at k m
      ∙ ap (λ t. cond t (mask_of max_processors (active ph))
      (mask_of max_processors (λ r. bit (get_or earlier k 0) r && not (eqb r p))))
      (sym (ne_eqb k p (λ e. omega (arith, e)))))

  pub any_put : ph.waiting < 2 ^ 32 → ph.entitled < 2 ^ 32 → ph.holding < 2 ^ 32
      → set kept p (bit_or (bit_or ph.waiting ph.entitled) ph.holding) ≡ put_last earlier ph p
  any_put hw he hh = go (ltb p max_processors) refl
    where
      go : (t : Bool) → ltb p max_processors ≡ t
          → set kept p (bit_or (bit_or ph.waiting ph.entitled) ph.holding) ≡ put_last earlier ph p
      go true e = last_put _ (active_is ph hw he hh) (ltb-true p max_processors e)
      go false e =
          let past : max_processors ≤ p = ltb-false p max_processors e in
          set_past kept p _ (omega (arith, full)) ∙ none_put past
