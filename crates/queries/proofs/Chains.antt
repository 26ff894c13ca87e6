-- If a chain of direct waits leads from p to q, however long, then so does one with at most as many waits as a state
-- has places. So p reaches q exactly if there is a chain, on every board and state. Assumes nothing.
use Prim.Native.Nat.{ℕ, zero, suc, ◌≤◌}
use mathlib.Core.Path.{◌≡◌, refl, subst}
use mathlib.Core.Bool.{Bool, true, false, ◌&&◌, false≢true}
use mathlib.Core.Logic.{◌↔◌, ⊎_elim}
use native.Mathlib.Nat.{eq-or-lt_of_le, le_of_suc-le-suc, not-suc-le-zero}
use Rattle.masks.specs.Sets.{some}
use Rattle.masks.proofs.Some.{some_found, some_at}
use Rattle.masks.proofs.Truth.{and_left, and_right, and_both, or_cases, or_left, or_right, never_true}
use Rattle.plans.specs.Entries.{max_processors}
use Rattle.rules.specs.declared.states.Board.{Board}
use Rattle.rules.specs.declared.states.State.{State}
use Rattle.queries.specs.Queries.{waits_for, Chain, direct, through, chained, reaches}
use Rattle.queries.proofs.wait_queries.Growing.{Within, stops}
use Rattle.queries.proofs.Waits.{waits_below}

module _ (b : Board) (s : State) where
  abbrev next : ℕ → ℕ → ℕ → ℕ → Bool
  next n p q r = waits_for b s p r && chained b s n r q

  -- One wait and a chain after it.
  chained_direct : (n p q : ℕ) → waits_for b s p q ≡ true → chained b s (suc n) p q ≡ true
  unfolding chained
  chained_direct n p q e = or_left (waits_for b s p q) _ e

  chained_through : (n p r q : ℕ) → waits_for b s p r ≡ true → chained b s n r q ≡ true → chained b s (suc n) p q ≡ true
  unfolding chained
  chained_through n p r q e f =
      or_right (waits_for b s p q) _ (some_at max_processors (next n p q) r (waits_below b s p r e).1
      (and_both (waits_for b s p r) _ e f))

  pub chained_cases : {A : Type 0} (n p q : ℕ) → chained b s (suc n) p q ≡ true → (waits_for b s p q ≡ true → A)
      → ((r : ℕ) → waits_for b s p r ≡ true → chained b s n r q ≡ true → A) → A
  unfolding chained
  chained_cases n p q e at_once later =
      ⊎_elim at_once
      (λ f.
      let r = some_found max_processors (next n p q) f in
      later r.0 (and_left (waits_for b s p r.0) _ r.2) (and_right (waits_for b s p r.0) _ r.2))
      (or_cases (waits_for b s p q) (some max_processors (next n p q)) e)

  chained_nothing : (p q : ℕ) → chained b s zero p q ≡ true → ⊥
  unfolding chained
  chained_nothing p q e = false≢true e

  pub chained_chain : (n p q : ℕ) → chained b s n p q ≡ true → Chain b s p q
  chained_chain zero p q e = absurd (chained_nothing p q e)
  chained_chain (suc n) p q e = chained_cases n p q e direct (λ r w f. through w (chained_chain n r q f))

  -- A chain of at most n waits is also one of at most n + 1.
  chained_more : (n p q : ℕ) → chained b s n p q ≡ true → chained b s (suc n) p q ≡ true
  chained_more zero p q e = absurd (chained_nothing p q e)
  chained_more (suc n) p q e =
      chained_cases n p q e (chained_direct (suc n) p q)
      (λ r w f. chained_through (suc n) p r q w (chained_more n r q f))

  chained_up_to : (m n p q : ℕ) → m ≤ n → chained b s m p q ≡ true → chained b s n p q ≡ true
  chained_up_to m zero p q l e = absurd (chained_nothing p q (subst (λ k. chained b s k p q ≡ true) (zero_only m l) e))
    where
      zero_only : (k : ℕ) → k ≤ 0 → k ≡ 0
      zero_only zero h = refl
      zero_only (suc k) h = absurd (not-suc-le-zero h)
  chained_up_to m (suc n) p q l e =
      ⊎_elim (λ same. subst (λ k. chained b s k p q ≡ true) same e)
      (λ less. chained_more n p q (chained_up_to m n p q (le_of_suc-le-suc less) e))
      (eq-or-lt_of_le l)

  -- If m + 1 waits lead to q from no more processors than m waits do, then m waits are enough for every chain to q.
  enough : (m q : ℕ) → Within max_processors (λ p. chained b s (suc m) p q) (λ p. chained b s m p q) → (p : ℕ)
      → Chain b s p q → chained b s m p q ≡ true
  enough m q stable p (direct e) = stable p (waits_below b s p q e).0 (chained_direct m p q e)
  enough m q stable p (through {r = r} e c) = stable p (waits_below b s p r e).0
      (chained_through m p r q e (enough m q stable r c))

  pub chain_reaches : (p q : ℕ) → Chain b s p q → reaches b s p q ≡ true
  unfolding reaches
  chain_reaches p q c =
      let stop = stops max_processors (λ n r. chained b s n r q) (λ n r l. chained_more n r q) in
      chained_up_to stop.0 max_processors p q stop.1 (enough stop.0 q stop.2 p c)

  pub reaches_chain : (p q : ℕ) → reaches b s p q ≡ true → Chain b s p q
  unfolding reaches
  reaches_chain p q = chained_chain max_processors p q

  -- Clause 7.3: to reach is to have a chain, of any length.
  pub reaches_is_chain : (p q : ℕ) → (reaches b s p q ≡ true) ↔ Chain b s p q
  reaches_is_chain p q = (reaches_chain p q, chain_reaches p q)

  pub no_chain_not_reached : (p q : ℕ) → (Chain b s p q → ⊥) → reaches b s p q ≡ false
  no_chain_not_reached p q none = never_true (reaches b s p q) (λ e. none (reaches_chain p q e))
