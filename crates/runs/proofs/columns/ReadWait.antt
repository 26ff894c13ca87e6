-- Reads of the group wait at most Lr + Lw while the group's holders keep to their lengths. T1 and T2 hold for the empty
-- arbiter, and each accepted call keeps them; with I4, I5 and I7 they bound the wait. Assumes nothing.
use Prim.Native.Nat.{ℕ, ◌<◌, ◌≤◌, ◌+◌}
use native.Mathlib.Omega.{arith}
use mathlib.Core.Path.{◌≡◌, refl, sym, ◌∙◌, subst, ap}
use mathlib.Core.Bool.{Bool, true, false}
use mathlib.Core.Logic.{◌⊎◌, inl, inr}
use Rattle.runs.proofs.columns.Columns.{Phase, idle, waiting, entitled, holding, Requests, Exists, In, Step1}
use Rattle.runs.proofs.columns.Columns.{Called, Lawful, Ordered, Settled}
use Rattle.runs.proofs.columns.Phases.{clash, Unsatisfied, EntitledOrHolding, is_active_law, holding_stays}
use Rattle.runs.proofs.columns.Phases.{entitled_or_holding_stays, waiting_was_waiting}
use Rattle.runs.proofs.columns.Moves.{touched, same_phase, same_write, same_group, same_against}
use Rattle.runs.proofs.columns.Moves.{past_waiting_untouched, was_holding, rises, rises_after1, rises_throughout}
use Rattle.runs.proofs.columns.Moves.{active_untouched, kept_phase, write_first, held_keeps_tick}
use Rattle.runs.proofs.columns.Moves.{unsatisfied_keeps_tick, newcomer_has_tick, ticks_past, nothing_added}
use Rattle.runs.proofs.columns.Lengths.{Prompt, read_holds_at_most, write_holds_at_most}
use Rattle.runs.proofs.columns.Exclusive.{one_write_against_a_read}

-- T1: what is in the way of the entitled write that a waiting read waits for began to hold no later than that read was
-- issued. T2: the holding write that an entitled read waits for began at most Lr after that read was issued.
pub record ReadTimed (n Lr : ℕ) (R : Requests) (ph : ℕ → Phase) (si : ℕ → ℕ) : Type 0 where
  pub t1 : (r w q : ℕ) → r < n → w < n → q < n → R.group r ≡ true → R.write r ≡ false → ph r ≡ waiting
      → In R ph entitled true r w → In R ph holding false w q → si q ≤ si r
  pub t2 : (r w : ℕ) → r < n → w < n → R.group r ≡ true → R.write r ≡ false → ph r ≡ entitled
      → In R ph holding true r w → si w ≤ si r + Lr

pub read_timed_fresh : {n Lr : ℕ} {R : Requests} {ph : ℕ → Phase} {si : ℕ → ℕ} → ((i : ℕ) → i < n → ph i ≡ idle)
    → ReadTimed n Lr R ph si
read_timed_fresh all-idle =
    record {
      t1 = λ r w q hr hw hq g read k x y. absurd (clash (all-idle r hr) k tt);
      t2 = λ r w hr hw g read k x. absurd (clash (all-idle r hr) k tt);
    }

-- The bound, at a tick up to which the group's holders keep to their lengths.

module _ {n t Lr Lw : ℕ} {R : Requests} {ph : ℕ → Phase} {si len : ℕ → ℕ}
    (settled : Settled n R ph) (lawful : Lawful n R ph) (timed : ReadTimed n Lr R ph si)
    (prompt : Prompt n t Lr Lw R ph si len) where
  -- A waiting read waits for an entitled write, and that write waits for a read that has held at least as long as ours
  -- has waited.
  waiting_read_bounded : (r : ℕ) → r < n → R.group r ≡ true → R.write r ≡ false → ph r ≡ waiting → t ≤ si r + Lr
  waiting_read_bounded r hr g read k = go (settled.i5 r hr read k)
    where
      behind : (w : ℕ) → w < n → In R ph entitled true r w → Exists n (In R ph holding false w) → t ≤ si r + Lr
      behind w hw x (q, hq, y) =
          let in_group = lawful.closed w q hw hq y.conflict (lawful.closed r w hr hw x.conflict g) in
          omega (
            arith,
            timed.t1 r w q hr hw hq g read k x y,
            read_holds_at_most prompt q hq in_group y.write_is
                y.phase_is,
          )

      go : Exists n (In R ph entitled true r) → t ≤ si r + Lr
      go (w, hw, x) = behind w hw x (settled.i7 w hw x.write_is x.phase_is)

  entitled_read_bounded : (r : ℕ) → r < n → R.group r ≡ true → R.write r ≡ false → ph r ≡ entitled
      → t ≤ si r + (Lr + Lw)
  entitled_read_bounded r hr g read k = go (settled.i4 r hr read k)
    where
      go : Exists n (In R ph holding true r) → t ≤ si r + (Lr + Lw)
      go (w, hw, x) =
          omega (
            arith,
            timed.t2 r w hr hw g read k x,
            write_holds_at_most prompt w hw (lawful.closed r w hr hw x.conflict g) x.write_is x.phase_is,
          )

  -- Clause 6.9: the read figure bounds the wait of every read.
  pub read_wait_bounded : (r : ℕ) → r < n → R.group r ≡ true → R.write r ≡ false → Unsatisfied (ph r)
      → t ≤ si r + (Lr + Lw)
  read_wait_bounded r hr g read (inl k) = omega (arith, waiting_read_bounded r hr g read k)
  read_wait_bounded r hr g read (inr k) = entitled_read_bounded r hr g read k

-- What is required of a call at tick t: I1 to I7 before and after it, and T1, T2, past ticks and kept lengths before
-- it.
pub record Timely (n t Lr Lw : ℕ) (R R' : Requests) (ph ph' : ℕ → Phase) (si len : ℕ → ℕ) : Type 0 where
  pub settled : Settled n R ph
  pub ordered : Ordered n R ph
  pub lawful : Lawful n R ph
  pub settled' : Settled n R' ph'
  pub ordered' : Ordered n R' ph'
  pub lawful' : Lawful n R' ph'
  pub timed : ReadTimed n Lr R ph si
  pub past : (i : ℕ) → i < n → (ph i ≡ idle → ⊥) → si i ≤ t
  pub prompt : Prompt n t Lr Lw R ph si len

module _ {n t Lr Lw : ℕ} {R R' : Requests} {ph ph' : ℕ → Phase} {si si' len : ℕ → ℕ}
    (c : Called n t R R' ph ph' si si') (h : Timely n t Lr Lw R R' ph ph' si len) where
  -- For requests that are active before and after the call, group, kind and conflict are as they were.
  was_in_group : (i : ℕ) → i < n → (ph i ≡ idle → ⊥) → (ph' i ≡ idle → ⊥) → R'.group i ≡ true → R.group i ≡ true
  was_in_group i hi a b g = sym (same_group c.start i hi (active_untouched c i hi a b)) ∙ g

  was_read : (i : ℕ) → i < n → (ph i ≡ idle → ⊥) → (ph' i ≡ idle → ⊥) → R'.write i ≡ false → R.write i ≡ false
  was_read i hi a b g = sym (same_write c.start i hi (active_untouched c i hi a b)) ∙ g

  was_in : {phase phase' : Phase} {is_write : Bool} (i j : ℕ) → i < n → j < n → (ph i ≡ idle → ⊥) → (ph' i ≡ idle → ⊥)
      → (ph j ≡ idle → ⊥) → (ph' j ≡ idle → ⊥) → In R' ph' phase' is_write i j → ph j ≡ phase → In R ph phase is_write i j
  was_in i j hi hj a b d e x k =
      let di = active_untouched c i hi a b in
      let dj = active_untouched c j hj d e in
      record {
        phase_is = k;
        write_is = sym (same_write c.start j hj dj) ∙ x.write_is;
        conflict = sym (same_against c.start i j hi hj di dj) ∙ x.conflict;
      }

  -- The entitled write that a read waits for is the same before and after a call that leaves the read waiting.
  same_write_in_the_way : (r w : ℕ) → r < n → w < n → R'.write r ≡ false → ph r ≡ waiting → ph' r ≡ waiting
      → In R' ph' entitled true r w → ph w ≡ entitled
  same_write_in_the_way r w hr hw read k k' x = go (c.left r hr read (waiting_was_waiting (rises_after1 c r hr) k'))
    where
      a : ph r ≡ idle → ⊥
      a = is_active_law k tt

      a' : ph' r ≡ idle → ⊥
      a' = is_active_law k' tt

      found : (v j : ℕ) → v < n → j < n → In R ph entitled true r v → R'.write j ≡ true → R'.against r j ≡ true
          → EntitledOrHolding (c.ph₁ j) → ph w ≡ entitled
      found v j hv hj y wj z e = ap ph (sym j_is_w ∙ sym v_is_j) ∙ y.phase_is
        where
          after : EntitledOrHolding (ph' j)
          after = entitled_or_holding_stays (rises_after1 c j hj) e

          started : EntitledOrHolding (c.ph₀ j)
          started = subst EntitledOrHolding (write_first c j hj wj) e

          untouched : j ≡ touched c.start → ⊥
          untouched = past_waiting_untouched c.start j started

          before : EntitledOrHolding (ph j)
          before = subst EntitledOrHolding (same_phase c.start j hj untouched) started

          v_is_j : v ≡ j
          v_is_j =
              one_write_against_a_read h.settled h.ordered h.lawful r v j hr hv hj (was_read r hr a a' read) a
              y.write_is
              (inl y.phase_is)
              y.conflict
              (sym (same_write c.start j hj untouched) ∙ wj)
              before
              (sym (same_against c.start r j hr hj (active_untouched c r hr a a') untouched) ∙ z)

          j_is_w : j ≡ w
          j_is_w =
              one_write_against_a_read h.settled' h.ordered' h.lawful' r j w hr hj hw read a' wj after z
              x.write_is
              (inl x.phase_is)
              x.conflict

      waited_for : Exists n (In R ph entitled true r)
      waited_for = h.settled.i5 r hr (was_read r hr a a' read) k

      go : Exists n (In R' c.ph₁ holding true r) ⊎ Exists n (In R' c.ph₁ entitled true r) → ph w ≡ entitled
      go (inl (j, hj, y)) = found waited_for.0 j waited_for.1 hj waited_for.2 y.write_is y.conflict
          (inr y.phase_is)
      go (inr (j, hj, y)) = found waited_for.0 j waited_for.1 hj waited_for.2 y.write_is y.conflict
          (inl y.phase_is)

  -- T1. A read that has waited since before the call: nothing is added in the way of the write that it waits for.
  waited_t1 : (r w q : ℕ) → r < n → w < n → q < n → R'.group r ≡ true → R'.write r ≡ false → ph r ≡ waiting → ph' r
      ≡ waiting
      → In R' ph' entitled true r w → In R' ph' holding false w q → si' q ≤ si' r
  waited_t1 r w q hr hw hq g read k k' x y =
      omega (
        arith,
        held.1,
        unsatisfied_keeps_tick c r hr a (λ z. clash k' z tt),
        h.timed.t1 r w q hr hw hq (was_in_group r hr a a' g) (was_read r hr a a' read) k
            (was_in r w hr hw a a' (is_active_law e tt) (is_active_law x.phase_is tt) x e)
            (was_in w q hw hq (is_active_law e tt) (is_active_law x.phase_is tt) (is_active_law held.0 tt)
            (is_active_law y.phase_is tt) y held.0),
      )
    where
      a : ph r ≡ idle → ⊥
      a = is_active_law k tt

      a' : ph' r ≡ idle → ⊥
      a' = is_active_law k' tt

      e : ph w ≡ entitled
      e = same_write_in_the_way r w hr hw read k k' x

      held : (ph q ≡ holding) × (si' q ≡ si q)
      held = nothing_added c h.settled h.lawful' w q hw hq x.write_is e (is_active_law x.phase_is tt) y

  after_t1 : (r w q : ℕ) → r < n → w < n → q < n → R'.group r ≡ true → R'.write r ≡ false → ph' r ≡ waiting
      → In R' ph' entitled true r w → In R' ph' holding false w q → si' q ≤ si' r
  after_t1 r w q hr hw hq g read k x y = go (ph r) refl
    where
      waited : (ph r ≡ idle → ⊥) → ph r ≡ waiting
      waited a = waiting_was_waiting (rises_throughout c r hr a (is_active_law k tt)) k

      go : (b : Phase) → ph r ≡ b → si' q ≤ si' r
      go idle e =
          omega (
            arith,
            newcomer_has_tick c r hr e (is_active_law k tt),
            ticks_past c h.past q hq
                (is_active_law y.phase_is tt),
          )
      go waiting e = waited_t1 r w q hr hw hq g read e k x y
      go entitled e = absurd (clash (waited (is_active_law e tt)) e tt)
      go holding e = absurd (clash (waited (is_active_law e tt)) e tt)

  -- T2. A read that was entitled before the call waits for the same holding write as then.
  same_holder_in_the_way : (r w : ℕ) → r < n → w < n → R'.write r ≡ false → ph r ≡ entitled → ph' r ≡ entitled
      → In R' ph' holding true r w → ph w ≡ holding
  same_holder_in_the_way r w hr hw read k k' x = go (c.first r hr)
    where
      started : c.ph₀ r ≡ entitled
      started = kept_phase c r hr (is_active_law k tt) (is_active_law k' tt) ∙ k

      found : Exists n (In R' c.ph₀ holding true r) → ph w ≡ holding
      found (j, hj, y) = ap ph (sym j_is_w) ∙ was_holding c.start j hj y.phase_is
        where
          j_is_w : j ≡ w
          j_is_w =
              one_write_against_a_read h.settled' h.ordered' h.lawful' r j w hr hj hw read (is_active_law k' tt)
              y.write_is
              (inr (holding_stays (rises c j hj) y.phase_is))
              y.conflict
              x.write_is
              (inr x.phase_is)
              x.conflict

      go : Step1 n R' c.ph₀ c.ph₁ r → ph w ≡ holding
      go (Step1.grants r' e none d) = absurd (clash (holding_stays (rises_after1 c r hr) d) k' tt)
      go (Step1.grants_waiting r' e none none' d) = absurd (clash started e tt)
      go (Step1.stays why e) = found (why started read)

  after_t2 : (r w : ℕ) → r < n → w < n → R'.group r ≡ true → R'.write r ≡ false → ph' r ≡ entitled
      → In R' ph' holding true r w → si' w ≤ si' r + Lr
  after_t2 r w hr hw g read k x = go (ph r) refl
    where
      a' : ph' r ≡ idle → ⊥
      a' = is_active_law k tt

      begun_by_now : si' w ≤ t
      begun_by_now = ticks_past c h.past w hw (is_active_law x.phase_is tt)

      same_tick : (ph r ≡ idle → ⊥) → si' r ≡ si r
      same_tick a = unsatisfied_keeps_tick c r hr a (λ z. clash k z tt)

      go : (b : Phase) → ph r ≡ b → si' w ≤ si' r + Lr
      go idle e = omega (arith, newcomer_has_tick c r hr e a', begun_by_now)
      go waiting e =
          let a = is_active_law e tt in
          omega (
            arith,
            begun_by_now,
            same_tick a,
            waiting_read_bounded h.settled h.lawful h.timed h.prompt r hr (was_in_group r hr a a' g)
                (was_read r hr a a' read) e,
          )
      go entitled e =
          let a = is_active_law e tt in
          let held = same_holder_in_the_way r w hr hw read e k x in
          omega (
            arith,
            same_tick a,
            held_keeps_tick c w hw held,
            h.timed.t2 r w hr hw (was_in_group r hr a a' g) (was_read r hr a a' read) e
                (was_in r w hr hw a a' (is_active_law held tt) (is_active_law x.phase_is tt) x held),
          )
      go holding e = absurd (clash (holding_stays (rises_throughout c r hr (is_active_law e tt) a') e) k tt)

  pub called_keeps_read_timed : ReadTimed n Lr R' ph' si'
  called_keeps_read_timed = record { t1 = after_t1; t2 = after_t2 }
