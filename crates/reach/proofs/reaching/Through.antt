-- Rows through numbers below k, for any relation: as tests of pairs, and as paths that pass only numbers below k. If
-- paths may also pass k, a path that does is two paths below k, one to k and one from k. Assumes nothing.
use Prim.Native.Nat.{ℕ, zero, suc, ◌≤◌, ◌<◌}
use mathlib.Core.Path.{◌≡◌, refl, sym, ap, ap₂, subst, ◌∙◌}
use mathlib.Core.Bool.{Bool, true, false, cond, ◌&&◌, ◌||◌, or-false}
use mathlib.Core.List.{List}
use mathlib.Core.Logic.{◌⊎◌, inl, inr, ⊎_elim}
use native.Mathlib.Nat.{eq-or-lt_of_le, le_of_suc-le-suc, not-suc-le-zero}
use native.Mathlib.Omega.{arith}
use lib.Bits.{bit_or}
use lib.ListN.{get_or}
use Rattle.masks.specs.Sets.{bit, mask_of}
use Rattle.masks.proofs.Masks.{bit_mask_at, mask_agree, mask_or}
use Rattle.masks.proofs.Truth.{and_left, and_right, and_both, or_cases, or_left, or_right}
use Rattle.plans.specs.Entries.{max_processors}
use Rattle.masks.specs.Tabulation.{tabulate}
use Rattle.masks.proofs.Tabulate.{get_d_tabulate, tabulate_agree}
use Rattle.reach.specs.Rows.{joined_row, rows_through}

-- A row, joined with another or not.
join_if : (w : ℕ) (row other : ℕ → Bool) (t : Bool)
    → mask_of w (λ q. row q || (t && other q)) ≡ cond t (bit_or (mask_of w row) (mask_of w other)) (mask_of w row)
join_if w row other true = sym (mask_or w row other)
join_if w row other false = mask_agree w (λ q. row q || false) row (λ q l. or-false (row q))

module _ (W : ℕ → ℕ → Bool) where
  -- The rows' tests: row p contains q once the rows of the numbers below k are joined.
  unfoldable pub via : ℕ → ℕ → ℕ → Bool
  via zero p q = W p q
  via (suc k) p q = via k p q || (via k p k && via k k q)

  -- ---- as rows

  abbrev pub via_rows : ℕ → List ℕ
  via_rows k = tabulate max_processors (λ p. mask_of max_processors (via k p))

  row_joined : (k p : ℕ) → k < max_processors → p < max_processors → joined_row (via_rows k) k p
      ≡ mask_of max_processors (via (suc k) p)
  unfolding joined_row via
  row_joined k p l m =
      let mine : get_or (via_rows k) p 0 ≡ mask_of max_processors (via k p) =
      get_d_tabulate max_processors (λ r. mask_of max_processors (via k r)) p 0 m in
      let other : get_or (via_rows k) k 0 ≡ mask_of max_processors (via k k) =
      get_d_tabulate max_processors (λ r. mask_of max_processors (via k r)) k 0 l in
      ap₂ (λ (x y : ℕ). cond (bit x k) (bit_or x y) x) mine other
      ∙ ap (λ t. cond t (bit_or (mask_of max_processors (via k p)) (mask_of max_processors (via k k)))
      (mask_of max_processors (via k p)))
      (bit_mask_at max_processors (via k p) k l)
      ∙ sym (join_if max_processors (via k p) (via k k) (via k p k))

  pub rows_via : (k : ℕ) → k ≤ max_processors → rows_through k (tabulate max_processors (λ p. mask_of max_processors (W p)))
      ≡ via_rows k
  unfolding rows_through via
  rows_via zero l = refl
  rows_via (suc k) l =
      let before : k ≤ max_processors = omega arith in
      ap (λ (rows : List ℕ). tabulate max_processors (joined_row rows k)) (rows_via k before)
      ∙ tabulate_agree max_processors (joined_row (via_rows k) k) (λ p. mask_of max_processors (via (suc k) p))
      (λ p m. row_joined k p l m)

  -- ---- as paths

  -- A path from p to q that passes only numbers below k.
  pub data Path (k : ℕ) : ℕ → ℕ → Type 0 where
    step : {p q : ℕ} → W p q ≡ true → Path k p q
    over : {p r q : ℕ} → W p r ≡ true → r < k → Path k r q → Path k p q

  -- A path that may also pass k either does not, or is a path to k and a path from k.
  path_parts : (k p q : ℕ) → Path (suc k) p q → Path k p q ⊎ (Path k p k × Path k k q)
  path_parts k p q (step e) = inl (step e)
  path_parts k p q (over {r = r} e l c) = go (eq-or-lt_of_le (le_of_suc-le-suc l)) (path_parts k r q c)
    where
      go : (r ≡ k) ⊎ (r < k) → Path k r q ⊎ (Path k r k × Path k k q) → Path k p q ⊎ (Path k p k × Path k k q)
      go (inl same) (inl d) = inr (step (subst (λ x. W p x ≡ true) same e), subst (λ x. Path k x q) same d)
      go (inl same) (inr d) = inr (step (subst (λ x. W p x ≡ true) same e), d.1)
      go (inr less) (inl d) = inl (over e less d)
      go (inr less) (inr d) = inr (over e less d.0, d.1)

  pub path_via : (k p q : ℕ) → Path k p q → via k p q ≡ true
  unfolding via
  path_via zero p q (step e) = e
  path_via zero p q (over e l c) = absurd (not-suc-le-zero l)
  path_via (suc k) p q c =
      ⊎_elim (λ d. or_left (via k p q) _ (path_via k p q d))
      (λ d. or_right (via k p q) _ (and_both (via k p k) _ (path_via k p k d.0) (path_via k k q d.1)))
      (path_parts k p q c)

  -- A property of the relation's pairs that carries over when two pairs are chained is true of the pairs in the rows.
  pub via_gives : (C : ℕ → ℕ → Type 0) → ((p q : ℕ) → W p q ≡ true → C p q) → ((p r q : ℕ) → C p r → C r q → C p q)
      → (k p q : ℕ) → via k p q ≡ true → C p q
  unfolding via
  via_gives C base join zero p q e = base p q e
  via_gives C base join (suc k) p q e =
      ⊎_elim (via_gives C base join k p q)
      (λ f.
      join p k q (via_gives C base join k p k (and_left (via k p k) _ f))
      (via_gives C base join k k q (and_right (via k p k) _ f)))
      (or_cases (via k p q) (via k p k && via k k q) e)
