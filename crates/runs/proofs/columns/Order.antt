-- Being earlier stays an order on the active requests through a call, and it is one on the empty arbiter. Assumes
-- nothing.
use Prim.Native.Nat.{ℕ, ◌<◌}
use native.Mathlib.Decide.{ℕ_discrete}
use mathlib.Core.Path.{◌≡◌, sym, ◌∙◌, subst, ap}
use mathlib.Core.Bool.{true, false}
use mathlib.Core.Logic.{◌⊎◌, inl, inr}
use Rattle.runs.proofs.columns.Columns.{Phase, idle, Requests, PutIn, Start, puts_in, takes_out, Called, Ordered}
use Rattle.runs.proofs.columns.Phases.{true_not_false}
use Rattle.runs.proofs.columns.Moves.{active_before}

-- An order on some requests is also one on fewer.
pub ordered_among_fewer : {n : ℕ} {R : Requests} {ph ph' : ℕ → Phase}
    → ((i : ℕ) → i < n → (ph' i ≡ idle → ⊥) → ph i ≡ idle → ⊥) → Ordered n R ph → Ordered n R ph'
ordered_among_fewer fewer o =
    record {
      never_itself = λ i hi a. o.never_itself i hi (fewer i hi a);
      one_way = λ i j hi hj a b. o.one_way i j hi hj (fewer i hi a) (fewer j hj b);
      total = λ i j hi hj a b. o.total i j hi hj (fewer i hi a) (fewer j hj b);
      transitive = λ i j k hi hj hk a b d. o.transitive i j k hi hj hk (fewer i hi a) (fewer j hj b) (fewer k hk d);
    }

pub ordered_fresh : {n : ℕ} {R : Requests} {ph : ℕ → Phase} → ((i : ℕ) → i < n → ph i ≡ idle) → Ordered n R ph
ordered_fresh all-idle =
    record {
      never_itself = λ i hi a. absurd (a (all-idle i hi));
      one_way = λ i j hi hj a b e. absurd (a (all-idle i hi));
      total = λ i j hi hj a b d. absurd (a (all-idle i hi));
      transitive = λ i j k hi hj hk a b d e f. absurd (a (all-idle i hi));
    }

-- A new request is later than all others.
module _ {n : ℕ} {R R' : Requests} {ph ph₀ : ℕ → Phase} {p : ℕ} (s : PutIn n R R' ph ph₀ p) (o : Ordered n R ph) where
  was_active : (i : ℕ) → i < n → (i ≡ p → ⊥) → (ph₀ i ≡ idle → ⊥) → ph i ≡ idle → ⊥
  was_active i hi d a e = a (s.others i hi d ∙ e)

  before_newcomer : (i j : ℕ) → i < n → j ≡ p → (i ≡ p → ⊥) → (ph₀ i ≡ idle → ⊥) → R'.earlier i j ≡ true
  before_newcomer i j hi e d a = ap (R'.earlier i) e ∙ s.active_earlier i hi (was_active i hi d a)

  newcomer_last : (i j : ℕ) → j < n → i ≡ p → R'.earlier i j ≡ false
  newcomer_last i j hj e = ap (λ x. R'.earlier x j) e ∙ s.earlier_than_none j hj

  put_never_itself : (i : ℕ) → i < n → (ph₀ i ≡ idle → ⊥) → R'.earlier i i ≡ false
  put_never_itself i hi a = go (ℕ_discrete i p)
    where
      go : Dec (i ≡ p) → R'.earlier i i ≡ false
      go (yes e) = newcomer_last i i hi e
      go (no d) = s.same_earlier i i hi hi d d ∙ o.never_itself i hi (was_active i hi d a)

  put_one_way : (i j : ℕ) → i < n → j < n → (ph₀ i ≡ idle → ⊥) → (ph₀ j ≡ idle → ⊥) → R'.earlier i j ≡ true
      → R'.earlier j i ≡ false
  put_one_way i j hi hj a b h = go (ℕ_discrete i p) (ℕ_discrete j p)
    where
      go : Dec (i ≡ p) → Dec (j ≡ p) → R'.earlier j i ≡ false
      go (yes e) f = absurd (true_not_false h (newcomer_last i j hj e))
      go (no d) (yes e) = newcomer_last j i hi e
      go (no d) (no f) =
          s.same_earlier j i hj hi f d
          ∙ o.one_way i j hi hj (was_active i hi d a) (was_active j hj f b) (sym (s.same_earlier i j hi hj d f) ∙ h)

  put_total : (i j : ℕ) → i < n → j < n → (ph₀ i ≡ idle → ⊥) → (ph₀ j ≡ idle → ⊥) → (i ≡ j → ⊥)
      → (R'.earlier i j ≡ true) ⊎ (R'.earlier j i ≡ true)
  put_total i j hi hj a b d = go (ℕ_discrete i p) (ℕ_discrete j p)
    where
      old : (i ≡ p → ⊥) → (j ≡ p → ⊥) → (R.earlier i j ≡ true) ⊎ (R.earlier j i ≡ true)
          → (R'.earlier i j ≡ true) ⊎ (R'.earlier j i ≡ true)
      old di dj (inl h) = inl (s.same_earlier i j hi hj di dj ∙ h)
      old di dj (inr h) = inr (s.same_earlier j i hj hi dj di ∙ h)

      go : Dec (i ≡ p) → Dec (j ≡ p) → (R'.earlier i j ≡ true) ⊎ (R'.earlier j i ≡ true)
      go (yes e) (yes f) = absurd (d (e ∙ sym f))
      go (yes e) (no f) = inr (before_newcomer j i hj e f b)
      go (no e) (yes f) = inl (before_newcomer i j hi f e a)
      go (no e) (no f) = old e f (o.total i j hi hj (was_active i hi e a) (was_active j hj f b) d)

  put_transitive : (i j k : ℕ) → i < n → j < n → k < n → (ph₀ i ≡ idle → ⊥) → (ph₀ j ≡ idle → ⊥) → (ph₀ k ≡ idle → ⊥)
      → R'.earlier i j ≡ true → R'.earlier j k ≡ true → R'.earlier i k ≡ true
  put_transitive i j k hi hj hk a b d h h' = go (ℕ_discrete i p) (ℕ_discrete j p) (ℕ_discrete k p)
    where
      go : Dec (i ≡ p) → Dec (j ≡ p) → Dec (k ≡ p) → R'.earlier i k ≡ true
      go (yes e) f g = absurd (true_not_false h (newcomer_last i j hj e))
      go (no e) (yes f) g = absurd (true_not_false h' (newcomer_last j k hk f))
      go (no e) (no f) (yes g) = before_newcomer i k hi g e a
      go (no e) (no f) (no g) =
          s.same_earlier i k hi hk e g
          ∙ o.transitive i j k hi hj hk (was_active i hi e a) (was_active j hj f b) (was_active k hk g d)
          (sym (s.same_earlier i j hi hj e f) ∙ h)
          (sym (s.same_earlier j k hj hk f g) ∙ h')

pub started_ordered : {n : ℕ} {R R' : Requests} {ph ph₀ : ℕ → Phase} → Start n R R' ph ph₀ → Ordered n R ph
    → Ordered n R' ph₀
started_ordered (puts_in p s) o =
    record {
      never_itself = put_never_itself s o;
      one_way = put_one_way s o;
      total = put_total s o;
      transitive = put_transitive s o;
    }
started_ordered {n} {R} {R'} {ph} {ph₀} (takes_out p s) o =
    ordered_among_fewer fewer (subst (λ Q. Ordered n Q ph) (sym s.same) o)
  where
    go : (i : ℕ) → i < n → (ph₀ i ≡ idle → ⊥) → Dec (i ≡ p) → ph i ≡ idle → ⊥
    go i hi a (yes e) k = a (ap ph₀ e ∙ s.now_idle)
    go i hi a (no d) k = a (s.others i hi d ∙ k)

    fewer : (i : ℕ) → i < n → (ph₀ i ≡ idle → ⊥) → ph i ≡ idle → ⊥
    fewer i hi a = go i hi a (ℕ_discrete i p)

pub called_keeps_order : {n t : ℕ} {R R' : Requests} {ph ph' : ℕ → Phase} {si si' : ℕ → ℕ}
    → Ordered n R ph → Called n t R R' ph ph' si si' → Ordered n R' ph'
called_keeps_order o c = ordered_among_fewer (active_before c) (started_ordered c.start o)
