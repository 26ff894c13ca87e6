-- Writes of the group wait at most (m − 1) × (Lr + Lw) while the group's holders keep to their lengths, where m is
-- above every active processor. Each write ahead takes at most one span Lr + Lw, counted from when the first of them
-- holds. This is true of the empty arbiter, and each accepted call keeps it. Assumes nothing.
use Prim.Native.Nat.{ℕ, suc, ◌<◌, ◌≤◌, ◌+◌, ◌*◌, ◌-◌}
use native.Mathlib.Omega.{arith}
use native.Mathlib.Nat.{mul-le-mul_right}
use native.Mathlib.Decide.{ℕ_discrete}
use mathlib.Core.Path.{◌≡◌, refl, sym, ap, ◌∙◌, subst}
use mathlib.Core.Bool.{true, false}
use mathlib.Core.Logic.{◌⊎◌, inl, inr, ⊎_elim}
use Rattle.runs.proofs.columns.Columns.{Phase, idle, entitled, holding, Requests, In, Called, Lawful, Ordered}
use Rattle.runs.proofs.columns.Columns.{Settled}
use Rattle.runs.proofs.columns.Phases.{clash, is_active_law, Unsatisfied, EntitledOrHolding, unsatisfied_active}
use Rattle.runs.proofs.columns.Phases.{unsatisfied_not_holding, unsatisfied_or_holding, holding_stays}
use Rattle.runs.proofs.columns.Moves.{active_untouched, rises_throughout, held_keeps_tick}
use Rattle.runs.proofs.columns.Moves.{unsatisfied_keeps_tick, newcomer_has_tick, begun_has_tick, ticks_past}
use Rattle.runs.proofs.columns.Moves.{nothing_added, same_against, same_write}
use Rattle.runs.proofs.columns.Lengths.{Prompt, read_holds_at_most, write_holds_at_most}
use Rattle.runs.proofs.columns.Rank.{GroupWrite, rank, First, Below, rank_below, rank_below_with_read}
use Rattle.runs.proofs.columns.Rank.{first_exists, first_is_ahead, first_is_one, nothing_ahead_of_first}
use Rattle.runs.proofs.columns.Rank.{ahead_ranks_above_zero}
use Rattle.runs.proofs.columns.RankMoves.{idle_or_active, was_group_write, is_group_write, rank_does_not_rise}
use Rattle.runs.proofs.columns.RankMoves.{rank_falls, first_stays_first}

-- The first write f holds from tick x on at the latest: either it has held since x, or it is entitled, and a read that
-- has held since x − Lr is in its way.
pub data HoldsBy (n Lr : ℕ) (R : Requests) (ph : ℕ → Phase) (si : ℕ → ℕ) (f x : ℕ) : Type 0 where
  holds : ph f ≡ holding → x ≡ si f → HoldsBy n Lr R ph si f x
  waits_for_law : (q : ℕ) → q < n → ph f ≡ entitled → In R ph holding false f q → x ≡ si q + Lr → HoldsBy n Lr R ph si f x

-- An unsatisfied write in the group.
pub record WaitingWrite (n : ℕ) (R : Requests) (ph : ℕ → Phase) (w : ℕ) : Type 0 where
  pub below : w < n
  pub group_is : R.group w ≡ true
  pub write_is : R.write w ≡ true
  pub unsatisfied : Unsatisfied (ph w)

-- W1 if the first write holds, W2 if it is entitled.
pub record WriteTimed (n m Lr Lw : ℕ) (R : Requests) (ph : ℕ → Phase) (si : ℕ → ℕ) : Type 0 where
  pub timed : (w f x : ℕ) → WaitingWrite n R ph w → First n R ph f → HoldsBy n Lr R ph si f x
      → x + rank n R ph w * (Lr + Lw) ≤ si w + (m - 1) * (Lr + Lw)

pub write_timed_fresh : {n m Lr Lw : ℕ} {R : Requests} {ph : ℕ → Phase} {si : ℕ → ℕ} → ((i : ℕ) → i < n → ph i ≡ idle)
    → WriteTimed n m Lr Lw R ph si
write_timed_fresh all-idle = record {
  timed = λ w f x u first by. absurd
      (unsatisfied_active u.unsatisfied (all-idle w u.below));
}

-- What holds between calls.
pub record Standing (n : ℕ) (R : Requests) (ph : ℕ → Phase) : Type 0 where
  pub settled : Settled n R ph
  pub ordered : Ordered n R ph
  pub lawful : Lawful n R ph

waiting_group_write : {n : ℕ} {R : Requests} {ph : ℕ → Phase} {w : ℕ} → WaitingWrite n R ph w → GroupWrite R ph w
waiting_group_write u = record {
  active = unsatisfied_active
      u.unsatisfied;
  write_is = u.write_is;
  group_is = u.group_is;
}

-- Because of I6, a waiting write has another one ahead of it.
first_entitled_or_holding : {n : ℕ} {R : Requests} {ph : ℕ → Phase} {f : ℕ} → Standing n R ph → First n R ph f
    → EntitledOrHolding (ph f)
first_entitled_or_holding {ph = ph} {f} s first = go (unsatisfied_or_holding (ph f) first.member.active)
  where
    go : Unsatisfied (ph f) ⊎ (ph f ≡ holding) → EntitledOrHolding (ph f)
    go (inl (inl e)) =
        let b = s.settled.i6 f first.below first.member.write_is e in
        let g = s.lawful.closed f b.0 first.below b.1 b.5 first.member.group_is in
        absurd
        (nothing_ahead_of_first first b.1 (record
        { member = record { active = b.3; write_is = b.2; group_is = g }; before = b.4 }))
    go (inl (inr e)) = inl e
    go (inr e) = inr e

-- The bound, at a tick t up to which the group's holders keep to their lengths.

last_span : (t x r Lr Lw b : ℕ) → t ≤ x + Lw → 0 < r → x + r * (Lr + Lw) ≤ b → t ≤ b
last_span t x r Lr Lw b h k l = omega (arith, mul-le-mul_right (Lr + Lw) k)

module _ {n t Lr Lw : ℕ} {R : Requests} {ph : ℕ → Phase} {si len : ℕ → ℕ} (s : Standing n R ph)
    (prompt : Prompt n t Lr Lw R ph si len) where
  -- When the first write holds at the latest. It leaves at most Lw after this tick, and the tick is not past while the
  -- write does not hold.
  record Due (f : ℕ) : Type 0 where
    pub tick : ℕ
    pub by : HoldsBy n Lr R ph si f tick
    pub leaves_by : t ≤ tick + Lw
    pub not_past : (ph f ≡ holding → ⊥) → t ≤ tick

  first_due : (f : ℕ) → First n R ph f → Due f
  first_due f first = go (first_entitled_or_holding s first)
    where
      go : EntitledOrHolding (ph f) → Due f
      go (inl e) =
          let b = s.settled.i7 f first.below first.member.write_is e in
          let g = s.lawful.closed f b.0 first.below b.1 b.2.conflict first.member.group_is in
          let l = read_holds_at_most prompt b.0 b.1 g b.2.write_is b.2.phase_is in
          record {
            tick = si b.0 + Lr;
            by = waits_for_law b.0 b.1 e b.2 refl;
            leaves_by = omega
                (arith, l);
            not_past = λ h. l;
          }
      go (inr e) =
          record {
            tick = si f;
            by = holds e refl;
            leaves_by = write_holds_at_most prompt f first.below first.member.group_is
                first.member.write_is e;
            not_past = λ h. absurd (h e);
          }

  -- Clause 6.9: the write figure bounds the wait of every write.
  pub write_wait_bounded : {m : ℕ} → WriteTimed n m Lr Lw R ph si → (w : ℕ) → WaitingWrite n R ph w
      → t ≤ si w + (m - 1) * (Lr + Lw)
  write_wait_bounded {m} timed w u = go (first_exists s.ordered w u.below (waiting_group_write u))
    where
      behind : (f : ℕ) → First n R ph f → Due f → Dec (f ≡ w) → t ≤ si w + (m - 1) * (Lr + Lw)
      behind f first due (yes e) =
          omega (
            arith,
            timed.timed w f due.tick u first due.by,
            due.not_past (λ h. unsatisfied_not_holding u.unsatisfied (ap ph (sym e) ∙ h)),
          )
      behind f first due (no d) =
          last_span t due.tick (rank n R ph w) Lr Lw (si w + (m - 1) * (Lr + Lw)) due.leaves_by
          (ahead_ranks_above_zero n first.below
          (first_is_ahead s.ordered f w first u.below (waiting_group_write u) d))
          (timed.timed w f due.tick u first due.by)

      go : (f : ℕ) × First n R ph f → t ≤ si w + (m - 1) * (Lr + Lw)
      go (f, first) = behind f first (first_due f first) (ℕ_discrete f w)

-- A new request at t, behind a first write that holds, or that is entitled and waits for a read.

newcomer_behind_holder : (t x r m Lr Lw : ℕ) → x ≤ t → r < m → x + r * (Lr + Lw) ≤ t + (m - 1) * (Lr + Lw)
newcomer_behind_holder t x r m Lr Lw h k =
    let l : r ≤ m - 1 = omega arith in
    omega (arith, mul-le-mul_right (Lr + Lw) l)

newcomer_behind_reader : (t x r m Lr Lw : ℕ) → x ≤ t + Lr → r + 1 < m → x + r * (Lr + Lw) ≤ t + (m - 1) * (Lr + Lw)
newcomer_behind_reader t x r m Lr Lw h k =
    let l : suc r ≤ m - 1 = omega arith in
    omega (arith, mul-le-mul_right (Lr + Lw) l)

-- The first write stays, and holds no later than was due.
no_later : (x x' r r' S b : ℕ) → x' ≤ x → r' ≤ r → x + r * S ≤ b → x' + r' * S ≤ b
no_later x x' r r' S b h k l = omega (arith, mul-le-mul_right S k)

-- The first write leaves at t, and the next one holds at most Lr later.
one_span_later : (t x x' r r' Lr Lw b : ℕ) → t ≤ x + Lw → x' ≤ t + Lr → r' < r → x + r * (Lr + Lw) ≤ b
    → x' + r' * (Lr + Lw) ≤ b
one_span_later t x x' r r' Lr Lw b h i k l = omega (arith, mul-le-mul_right (Lr + Lw) k)

-- One call at t.
module _ {n m t Lr Lw : ℕ} {R R' : Requests} {ph ph' : ℕ → Phase} {si si' len : ℕ → ℕ}
    (c : Called n t R R' ph ph' si si')
    (s : Standing n R ph) (s' : Standing n R' ph') (below : Below n m ph')
    (past : (i : ℕ) → i < n → (ph i ≡ idle → ⊥) → si i ≤ t)
    (prompt : Prompt n t Lr Lw R ph si len) where
  due_soon : (f x : ℕ) → First n R' ph' f → HoldsBy n Lr R' ph' si' f x → x ≤ t + Lr
  due_soon f x first (holds h e) = omega (arith, ticks_past c past f first.below first.member.active)
  due_soon f x first (waits_for_law q l h b e) = omega (arith, ticks_past c past q l (is_active_law b.phase_is tt))

  newcomer_timed : (w f x : ℕ) → WaitingWrite n R' ph' w → ph w ≡ idle → First n R' ph' f → HoldsBy n Lr R' ph' si' f x
      → x + rank n R' ph' w * (Lr + Lw) ≤ si' w + (m - 1) * (Lr + Lw)
  newcomer_timed w f x u new first by = rw (newcomer_has_tick c w u.below new (unsatisfied_active u.unsatisfied))
      (go by)
    where
      go : HoldsBy n Lr R' ph' si' f x → x + rank n R' ph' w * (Lr + Lw) ≤ t + (m - 1) * (Lr + Lw)
      go (holds h e) =
          newcomer_behind_holder t x (rank n R' ph' w) m Lr Lw
          (omega (arith, e, ticks_past c past f first.below first.member.active))
          (rank_below s'.ordered m w below u.below (waiting_group_write u))
      go (waits_for_law q l h b e) =
          newcomer_behind_reader t x (rank n R' ph' w) m Lr Lw
          (due_soon f x first (waits_for_law q l h b e))
          (rank_below_with_read s'.ordered m w q below u.below (waiting_group_write u) l
          (is_active_law b.phase_is tt) b.write_is)

  was_waiting_write : (w : ℕ) → (ph w ≡ idle → ⊥) → WaitingWrite n R' ph' w → WaitingWrite n R ph w
  was_waiting_write w a u =
      let g = was_group_write c w u.below a (waiting_group_write u) in
      record {
        below = u.below;
        group_is = g.group_is;
        write_is = g.write_is;
        unsatisfied = go
            (unsatisfied_or_holding (ph w) a);
      }
    where
      go : Unsatisfied (ph w) ⊎ (ph w ≡ holding) → Unsatisfied (ph w)
      go (inl h) = h
      go (inr h) =
          absurd
          (unsatisfied_not_holding u.unsatisfied
          (holding_stays (rises_throughout c w u.below a (unsatisfied_active u.unsatisfied)) h))

  -- A read in the way of a write that stays entitled was in its way before.
  was_in_the_way : (f q : ℕ) → f < n → q < n → R'.write f ≡ true → ph f ≡ entitled → (ph' f ≡ idle → ⊥)
      → In R' ph' holding false f q
      → In R ph holding false f q × (si' q ≡ si q)
  was_in_the_way f q lf lq w e b x =
      let held = nothing_added c s.settled s'.lawful f q lf lq w e b x in
      let df = active_untouched c f lf (is_active_law e tt) b in
      let dq = active_untouched c q lq (is_active_law held.0 tt) (is_active_law x.phase_is tt) in (
        record {
          phase_is = held.0;
          write_is = sym (same_write c.start q lq dq) ∙ x.write_is;
          conflict = sym (same_against c.start f q lf lq df dq) ∙ x.conflict;
        },
        held.1,
      )

  -- A first write that stays holds no later than was due.
  kept_due : (f x' : ℕ) → First n R ph f → (ph' f ≡ idle → ⊥) → HoldsBy n Lr R' ph' si' f x'
      → (x : ℕ) × HoldsBy n Lr R ph si f x × (x' ≤ x)
  kept_due f x' first b by = go (first_entitled_or_holding s first) by
    where
      go : EntitledOrHolding (ph f) → HoldsBy n Lr R' ph' si' f x' → (x : ℕ) × HoldsBy n Lr R ph si f x × (x' ≤ x)
      go (inr h) (holds h' e) = (si f, holds h refl, omega (arith, e, held_keeps_tick c f first.below h))
      go (inr h) (waits_for_law q l h' y e) =
          absurd (clash (holding_stays (rises_throughout c f first.below first.member.active b) h) h' tt)
      go (inl h) (holds h' e) =
          let due = first_due s prompt f first in
          let not_held : (ph f ≡ holding → ⊥) = λ k. clash h k tt in
          (due.tick, due.by, omega (arith, e, due.not_past not_held, begun_has_tick c f first.below not_held h'))
      go (inl h) (waits_for_law q l h' y e) =
          let was = was_in_the_way f q first.below l
          (is_group_write c f first.below b first.member).write_is h b y in
          (si q + Lr, waits_for_law q l h was.0 refl, omega (arith, e, was.1))

  -- A write that was there before the call, when f was the first.
  old_timed : WriteTimed n m Lr Lw R ph si → (w f f' x' : ℕ) → WaitingWrite n R' ph' w → (ph w ≡ idle → ⊥)
      → First n R ph f
      → First n R' ph' f' → HoldsBy n Lr R' ph' si' f' x'
      → x' + rank n R' ph' w * (Lr + Lw) ≤ si' w + (m - 1) * (Lr + Lw)
  old_timed timed w f f' x' u a first first' by =
      rw (unsatisfied_keeps_tick c w u.below a (unsatisfied_not_holding u.unsatisfied))
      (go (idle_or_active (ph' f)))
    where
      b : ph' w ≡ idle → ⊥
      b = unsatisfied_active u.unsatisfied

      was : WaitingWrite n R ph w
      was = was_waiting_write w a u

      go : (ph' f ≡ idle) ⊎ (ph' f ≡ idle → ⊥) → x' + rank n R' ph' w * (Lr + Lw) ≤ si w + (m - 1) * (Lr + Lw)
      go (inl gone) =
          let due = first_due s prompt f first in
          let ahead = first_is_ahead s.ordered f w first u.below (waiting_group_write was)
          (λ e. b (ap ph' (sym e) ∙ gone)) in
          one_span_later t due.tick x' (rank n R ph w) (rank n R' ph' w) Lr Lw (si w + (m - 1) * (Lr + Lw))
          due.leaves_by
          (due_soon f' x' first' by)
          (rank_falls c w u.below a b f first.below ahead gone)
          (timed.timed w f due.tick was first due.by)
      go (inr there) =
          let same = first_is_one s'.ordered f' f first' (first_stays_first c f first there) in
          let due = kept_due f x' first there (subst (λ k. HoldsBy n Lr R' ph' si' k x') same by) in
          no_later due.0 x' (rank n R ph w) (rank n R' ph' w) (Lr + Lw) (si w + (m - 1) * (Lr + Lw))
          due.2
          (rank_does_not_rise c w u.below a b)
          (timed.timed w f due.0 was first due.1)

  pub called_keeps_write_timed : WriteTimed n m Lr Lw R ph si → WriteTimed n m Lr Lw R' ph' si'
  called_keeps_write_timed timed =
      record {
        timed =
            λ w f x u first by.
            ⊎_elim (λ new. newcomer_timed w f x u new first by)
            (λ a.
            let old = first_exists s.ordered w u.below (waiting_group_write (was_waiting_write w a u)) in
            old_timed timed w old.0 f x u a old.1 first by)
            (idle_or_active (ph w));
      }
