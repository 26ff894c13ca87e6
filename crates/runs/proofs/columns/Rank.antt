-- The rank of a write in the group: how many active writes in the group are ahead of it, that is, earlier. The first
-- write is the one of rank 0: there is exactly one. Assumes nothing.
use Prim.Native.Nat.{ℕ, zero, suc, ◌<◌, ◌≤◌, ◌+◌}
use native.Mathlib.Omega.{arith}
use native.Mathlib.Nat.{le_refl}
use native.Mathlib.Decide.{ℕ_discrete}
use mathlib.Core.Path.{◌≡◌, refl, ap}
use mathlib.Core.Bool.{Bool, true, false, ◌&&◌}
use mathlib.Core.Logic.{⊎_elim}
use Rattle.masks.proofs.Truth.{and_left, and_right, and_both}
use Rattle.runs.proofs.columns.Columns.{Phase, idle, waiting, entitled, holding, Requests, Ordered}
use Rattle.runs.proofs.columns.Phases.{true_not_false}
use Rattle.runs.proofs.columns.Counting.{count, Within, count_grows, count_less, count_found, count_positive}
use Rattle.runs.proofs.columns.Counting.{count_below}

-- Processor i has an active write in the group.
pub record GroupWrite (R : Requests) (ph : ℕ → Phase) (i : ℕ) : Type 0 where
  pub active : ph i ≡ idle → ⊥
  pub write_is : R.write i ≡ true
  pub group_is : R.group i ≡ true

-- Processor j has an active write in the group that is earlier than i's request.
pub record Ahead (R : Requests) (ph : ℕ → Phase) (i j : ℕ) : Type 0 where
  pub member : GroupWrite R ph j
  pub before : R.earlier j i ≡ true

-- The same as tests, which can be counted.

is_active : Phase → Bool
is_active idle = false
is_active waiting = true
is_active entitled = true
is_active holding = true

active_at : (ℕ → Phase) → ℕ → Bool
active_at ph i = is_active (ph i)

group_write_at : Requests → (ℕ → Phase) → ℕ → Bool
group_write_at R ph i = is_active (ph i) && (R.write i && R.group i)

ahead_at : Requests → (ℕ → Phase) → ℕ → ℕ → Bool
ahead_at R ph i j = group_write_at R ph j && R.earlier j i

pub rank : ℕ → Requests → (ℕ → Phase) → ℕ → ℕ
rank n R ph i = count n (ahead_at R ph i)

passes_active : (x : Phase) → is_active x ≡ true → x ≡ idle → ⊥
unfolding is_active
passes_active x h e = true_not_false h (ap is_active e)

active_passes : (x : Phase) → (x ≡ idle → ⊥) → is_active x ≡ true
unfolding is_active
active_passes idle h = absurd (h refl)
active_passes waiting h = refl
active_passes entitled h = refl
active_passes holding h = refl

not-true : (b : Bool) → (b ≡ true → ⊥) → b ≡ false
not-true true h = absurd (h refl)
not-true false h = refl

module _ (R : Requests) (ph : ℕ → Phase) where
  group_write_passes : (i : ℕ) → GroupWrite R ph i → group_write_at R ph i ≡ true
  unfolding group_write_at
  group_write_passes i g =
      and_both (is_active (ph i)) (R.write i && R.group i) (active_passes (ph i) g.active)
      (and_both (R.write i) (R.group i) g.write_is g.group_is)

  passes_group_write : (i : ℕ) → group_write_at R ph i ≡ true → GroupWrite R ph i
  unfolding group_write_at
  passes_group_write i e =
      let r = and_right (is_active (ph i)) (R.write i && R.group i) e in
      record {
        active = passes_active (ph i) (and_left (is_active (ph i)) (R.write i && R.group i) e);
        write_is = and_left (R.write i) (R.group i) r;
        group_is = and_right (R.write i) (R.group i) r;
      }

  ahead_passes : (i j : ℕ) → Ahead R ph i j → ahead_at R ph i j ≡ true
  unfolding ahead_at
  ahead_passes i j a = and_both (group_write_at R ph j) (R.earlier j i) (group_write_passes j a.member) a.before

  passes_ahead : (i j : ℕ) → ahead_at R ph i j ≡ true → Ahead R ph i j
  unfolding ahead_at
  passes_ahead i j e =
      record {
        member = passes_group_write j (and_left (group_write_at R ph j) (R.earlier j i) e);
        before = and_right (group_write_at R ph j) (R.earlier j i) e;
      }

  not_ahead_fails : (i j : ℕ) → (Ahead R ph i j → ⊥) → ahead_at R ph i j ≡ false
  not_ahead_fails i j h = not-true (ahead_at R ph i j) (λ e. h (passes_ahead i j e))

-- Two ranks, of i in one state and of i' in another: nothing is ahead of i' that is not ahead of i.

abbrev pub NoneNew : ℕ → (R' : Requests) → (ℕ → Phase) → ℕ → (R : Requests) → (ℕ → Phase) → ℕ → Type 0
NoneNew n R' ph' i' R ph i = (j : ℕ) → j < n → Ahead R' ph' i' j → Ahead R ph i j

module _ (n : ℕ) (R' : Requests) (ph' : ℕ → Phase) (i' : ℕ) (R : Requests) (ph : ℕ → Phase) (i : ℕ)
    (none : NoneNew n R' ph' i' R ph i) where
  none_new_passes : Within n (ahead_at R' ph' i') (ahead_at R ph i)
  none_new_passes j l e = ahead_passes R ph i j (none j l (passes_ahead R' ph' i' j e))

  pub rank_at_most : rank n R' ph' i' ≤ rank n R ph i
  unfolding rank
  rank_at_most = count_grows n (ahead_at R' ph' i') (ahead_at R ph i) none_new_passes

  -- The rank is less if a write that is ahead of i is not ahead of i'.
  pub rank_less : (k : ℕ) → k < n → Ahead R ph i k → (Ahead R' ph' i' k → ⊥) → rank n R' ph' i' < rank n R ph i
  unfolding rank
  rank_less k l was gone =
      count_less n (ahead_at R' ph' i') (ahead_at R ph i) k l (not_ahead_fails R' ph' i' k gone)
      (ahead_passes R ph i k was) none_new_passes

pub ahead_ranks_above_zero : {R : Requests} {ph : ℕ → Phase} {i j : ℕ} → (n : ℕ) → j < n → Ahead R ph i j
    → 0 < rank n R ph i
unfolding rank
ahead_ranks_above_zero {R} {ph} {i} {j} n l a = count_positive n (ahead_at R ph i) j l (ahead_passes R ph i j a)

rank_finds : (n : ℕ) (R : Requests) (ph : ℕ → Phase) (i : ℕ) → 0 < rank n R ph i → (j : ℕ) × (j < n) × Ahead R ph i j
unfolding rank
rank_finds n R ph i h = let r = count_found n (ahead_at R ph i) h in (r.0, r.1, passes_ahead R ph i r.0 r.2)

pub record First (n : ℕ) (R : Requests) (ph : ℕ → Phase) (f : ℕ) : Type 0 where
  pub below : f < n
  pub member : GroupWrite R ph f
  pub rank_zero : rank n R ph f ≡ 0

pub nothing_ahead_of_first : {n : ℕ} {R : Requests} {ph : ℕ → Phase} {f j : ℕ} → First n R ph f → j < n → Ahead R ph f j
    → ⊥
nothing_ahead_of_first {n} first l a = omega (arith, ahead_ranks_above_zero n l a, first.rank_zero)

-- Every active processor is below m.
abbrev pub Below : ℕ → ℕ → (ℕ → Phase) → Type 0
Below n m ph = (i : ℕ) → i < n → (ph i ≡ idle → ⊥) → i < m

module _ {n : ℕ} {R : Requests} {ph : ℕ → Phase} (o : Ordered n R ph) where
  not_ahead_of_itself : (i : ℕ) → i < n → Ahead R ph i i → ⊥
  not_ahead_of_itself i l a = true_not_false a.before (o.never_itself i l a.member.active)

  ahead_of_ahead : (i j : ℕ) → i < n → j < n → (ph i ≡ idle → ⊥) → Ahead R ph i j → NoneNew n R ph j R ph i
  ahead_of_ahead i j li lj active a k lk b =
      record {
        member = b.member;
        before = o.transitive k j i lk lj li b.member.active a.member.active active b.before a.before;
      }

  pub ahead_has_lower_rank : (i j : ℕ) → i < n → j < n → (ph i ≡ idle → ⊥) → Ahead R ph i j
      → rank n R ph j < rank n R ph i
  ahead_has_lower_rank i j li lj active a =
      rank_less n R ph j R ph i (ahead_of_ahead i j li lj active a) j lj a (not_ahead_of_itself j lj)

  -- Recursion on a bound of the rank.
  first_by_rank : (k i : ℕ) → i < n → GroupWrite R ph i → rank n R ph i ≤ k → (f : ℕ) × First n R ph f
  first_by_rank zero i l g h = (i, record { below = l; member = g; rank_zero = omega arith })
  first_by_rank (suc k) i l g h = go (rank n R ph i) refl (first_by_rank k)
    where
      go : (r : ℕ) → rank n R ph i ≡ r → ((j : ℕ) → j < n → GroupWrite R ph j → rank n R ph j ≤ k → (f : ℕ)
          × First n R ph f)
          → (f : ℕ) × First n R ph f
      go zero e lower = (i, record { below = l; member = g; rank_zero = e })
      go (suc r) e lower =
          let a = rank_finds n R ph i (omega (arith, e)) in
          lower a.0 a.1 a.2.member (omega
          (arith, h, ahead_has_lower_rank i a.0 l a.1 g.active a.2))

  pub first_exists : (i : ℕ) → i < n → GroupWrite R ph i → (f : ℕ) × First n R ph f
  first_exists i l g = first_by_rank (rank n R ph i) i l g (le_refl (rank n R ph i))

  -- The first is ahead of every other write in the group.
  pub first_is_ahead : (f i : ℕ) → First n R ph f → i < n → GroupWrite R ph i → (f ≡ i → ⊥) → Ahead R ph i f
  first_is_ahead f i first l g other =
      ⊎_elim (λ e. record { member = first.member; before = e })
      (λ e. absurd (nothing_ahead_of_first first l (record { member = g; before = e })))
      (o.total f i first.below l first.member.active g.active other)

  pub first_is_one : (f g : ℕ) → First n R ph f → First n R ph g → f ≡ g
  first_is_one f g first second = go (ℕ_discrete f g)
    where
      go : Dec (f ≡ g) → f ≡ g
      go (yes e) = e
      go (no d) = absurd (nothing_ahead_of_first second first.below
          (first_is_ahead f g first second.below second.member d))

  -- A write is not ahead of itself.
  rank_below_writes : (i : ℕ) → i < n → GroupWrite R ph i → rank n R ph i < count n (group_write_at R ph)
  unfolding rank
  rank_below_writes i l g =
      count_less n (ahead_at R ph i) (group_write_at R ph) i l
      (not_ahead_fails R ph i i (not_ahead_of_itself i l))
      (group_write_passes R ph i g)
      (λ j lj e. group_write_passes R ph j (passes_ahead R ph i j e).member)

  pub rank_below : (m i : ℕ) → Below n m ph → i < n → GroupWrite R ph i → rank n R ph i < m
  rank_below m i below l g =
      omega (
        arith,
        rank_below_writes i l g,
        count_below n m (group_write_at R ph) (λ j lj e. below j lj (passes_group_write R ph j e).active),
      )

  -- An active read takes one more of the m places.
  pub rank_below_with_read : (m i q : ℕ) → Below n m ph → i < n → GroupWrite R ph i → q < n → (ph q ≡ idle → ⊥)
      → R.write q ≡ false
      → rank n R ph i + 1 < m
  unfolding active_at
  rank_below_with_read m i q below l g lq active read =
      omega (
        arith,
        rank_below_writes i l g,
        count_less n (group_write_at R ph) (active_at ph) q lq
            (not-true (group_write_at R ph q) (λ e. true_not_false (passes_group_write R ph q e).write_is read))
            (active_passes (ph q) active)
            (λ j lj e. active_passes (ph j) (passes_group_write R ph j e).active),
        count_below n m (active_at ph) (λ j lj e. below j lj (passes_active (ph j) e)),
      )
