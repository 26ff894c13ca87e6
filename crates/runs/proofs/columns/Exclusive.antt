-- What a settled state rules out: two conflicting requests never hold together, and of the writes that conflict with
-- one active read at most one is entitled or holding. Assumes nothing.
use Prim.Native.Nat.{ℕ, ◌<◌}
use native.Mathlib.Decide.{ℕ_discrete}
use mathlib.Core.Path.{◌≡◌, refl}
use mathlib.Core.Bool.{Bool, true, false}
use mathlib.Core.Logic.{◌⊎◌, inl, inr}
use Rattle.runs.proofs.columns.Columns.{Phase, idle, holding, Requests, Lawful, Ordered, Settled}
use Rattle.runs.proofs.columns.Phases.{true_not_false, EntitledOrHolding, entitled_or_holding_active}
use Rattle.runs.proofs.columns.Phases.{entitled_or_holding_not_waiting}

module _ {n : ℕ} {R : Requests} {ph : ℕ → Phase} (settled : Settled n R ph) (ordered : Ordered n R ph)
    (lawful : Lawful n R ph) where
  -- Two writes that are entitled or holding do not conflict.
  pub writes_past_waiting : (v w : ℕ) → v < n → w < n → (v ≡ w → ⊥) → R.write v ≡ true → R.write w ≡ true
      → EntitledOrHolding (ph v) → EntitledOrHolding (ph w) → R.against v w ≡ true → ⊥
  writes_past_waiting v w hv hw d wv ww a b x = go (ordered.total v w hv hw av aw d)
    where
      av : ph v ≡ idle → ⊥
      av = entitled_or_holding_active a

      aw : ph w ≡ idle → ⊥
      aw = entitled_or_holding_active b

      go : (R.earlier v w ≡ true) ⊎ (R.earlier w v ≡ true) → ⊥
      go (inl e) = entitled_or_holding_not_waiting b (settled.i1 v w hv hw wv ww av aw x e)
      go (inr e) = entitled_or_holding_not_waiting a
          (settled.i1 w v hw hv ww wv aw av (lawful.symmetric v w hv hw x) e)

  pub one_write_against_a_read : (r v w : ℕ) → r < n → v < n → w < n → R.write r ≡ false → (ph r ≡ idle → ⊥)
      → R.write v ≡ true → EntitledOrHolding (ph v) → R.against r v ≡ true
      → R.write w ≡ true → EntitledOrHolding (ph w) → R.against r w ≡ true → v ≡ w
  one_write_against_a_read r v w hr hv hw read active wv a x ww b y = go (ℕ_discrete v w)
    where
      go : Dec (v ≡ w) → v ≡ w
      go (yes e) = e
      go (no d) =
          absurd
          (writes_past_waiting v w hv hw d wv ww a b
          (lawful.bridge r v w hr hv hw d active (entitled_or_holding_active a)
          (entitled_or_holding_active b) read wv ww x y))

  -- Clause 6.8: conflicting requests do not hold together.
  pub exclusive : ((i j : ℕ) → i < n → j < n → R.write i ≡ false → R.write j ≡ false → R.against i j ≡ false)
      → (i j : ℕ) → i < n → j < n → (i ≡ j → ⊥) → ph i ≡ holding → ph j ≡ holding → R.against i j ≡ false
  exclusive reads i j hi hj d a b = go (R.against i j) refl
    where
      together : R.against i j ≡ true → (wi wj : Bool) → R.write i ≡ wi → R.write j ≡ wj → ⊥
      together x true true wi wj = writes_past_waiting i j hi hj d wi wj (inr a) (inr b) x
      together x true false wi wj = settled.i2 j i hj hi wj wi (lawful.symmetric i j hi hj x) b a
      together x false true wi wj = settled.i2 i j hi hj wi wj x a b
      together x false false wi wj = true_not_false x (reads i j hi hj wi wj)

      go : (x : Bool) → R.against i j ≡ x → R.against i j ≡ false
      go true x = absurd (together x (R.write i) (R.write j) refl refl)
      go false x = x
