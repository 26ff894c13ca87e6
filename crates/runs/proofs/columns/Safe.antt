-- I1 to I7 hold for the empty arbiter, and each accepted call keeps them. Assumes nothing.
use Prim.Native.Nat.{ℕ, ◌<◌}
use native.Mathlib.Decide.{ℕ_discrete}
use mathlib.Core.Path.{◌≡◌, sym, ◌∙◌, ap}
use mathlib.Core.Bool.{Bool, true, false}
use mathlib.Core.Logic.{◌⊎◌, inl, inr}
use Rattle.runs.proofs.columns.Columns.{Phase, idle, waiting, entitled, holding, Requests, Exists, None, In}
use Rattle.runs.proofs.columns.Columns.{EarlierUnsatisfied, Step1, Step2, Step3, Step4, Start, puts_in}
use Rattle.runs.proofs.columns.Columns.{takes_out, Called, Lawful, Ordered, Settled}
use Rattle.runs.proofs.columns.Phases.{clash, true_not_false, Unsatisfied, EntitledOrHolding, is_active_law}
use Rattle.runs.proofs.columns.Phases.{unsatisfied_active, entitled_or_holding_active, unsatisfied_or_holding}
use Rattle.runs.proofs.columns.Phases.{holding_stays, waiting_was_waiting, entitled_or_holding_stays}
use Rattle.runs.proofs.columns.Moves.{Excludes, touched, same_phase, same_write, same_against, same_earlier}
use Rattle.runs.proofs.columns.Moves.{still_excludes, rises_after1, rises_after2, rises, active_before}
use Rattle.runs.proofs.columns.Moves.{active_after, active_after1, active_at1, write_first, write_fourth}
use Rattle.runs.proofs.columns.Moves.{read_second, read_third, read_holds_after1, write_held_before2}
use Rattle.runs.proofs.columns.Order.{called_keeps_order}

pub settled_fresh : {n : ℕ} {R : Requests} {ph : ℕ → Phase} → ((i : ℕ) → i < n → ph i ≡ idle) → Settled n R ph
settled_fresh {n} {R} {ph} all-idle =
    record {
      i1 = λ i j hi hj wi wj a b x e. absurd (a (all-idle i hi));
      i2 = λ i j hi hj r w x k l. clash (all-idle i hi) k tt;
      i3 = λ i j hi hj r w x k l. clash (all-idle i hi) k tt;
      i4 = λ i hi r k. absurd (clash (all-idle i hi) k tt);
      i5 = λ i hi r k. absurd (clash (all-idle i hi) k tt);
      i6 = λ i hi w k. absurd (clash (all-idle i hi) k tt);
      i7 = λ i hi w k. absurd (clash (all-idle i hi) k tt);
    }

-- What remains of I1 to I7 when a request has been added or removed, before the call settles.
record Begun (n : ℕ) (R : Requests) (ph : ℕ → Phase) : Type 0 where
  i1 : (i j : ℕ) → i < n → j < n → R.write i ≡ true → R.write j ≡ true → (ph i ≡ idle → ⊥) → (ph j ≡ idle → ⊥)
      → R.against i j ≡ true → R.earlier i j ≡ true → ph j ≡ waiting
  i2 : Excludes n R ph holding
  i3 : Excludes n R ph entitled

module _ {n : ℕ} {R R' : Requests} {ph ph₀ : ℕ → Phase} (settled : Settled n R ph) where
  -- The new request is waiting, and earlier than no other.
  touched_later_waits : (s : Start n R R' ph ph₀) (j : ℕ) → j ≡ touched s → (ph₀ j ≡ idle → ⊥) → ph₀ j ≡ waiting
  touched_later_waits (puts_in p s) j e b = ap ph₀ e ∙ s.now_waiting
  touched_later_waits (takes_out p s) j e b = absurd (b (ap ph₀ e ∙ s.now_idle))

  touched_not_earlier : (s : Start n R R' ph ph₀) (i j : ℕ) → j < n → i ≡ touched s → (ph₀ i ≡ idle → ⊥)
      → R'.earlier i j ≡ true → ⊥
  touched_not_earlier (puts_in p s) i j hj e a h = true_not_false h
      (ap (λ x. R'.earlier x j) e ∙ s.earlier_than_none j hj)
  touched_not_earlier (takes_out p s) i j hj e a h = a (ap ph₀ e ∙ s.now_idle)

  begun_i1 : (s : Start n R R' ph ph₀) (i j : ℕ) → i < n → j < n → R'.write i ≡ true → R'.write j ≡ true
      → (ph₀ i ≡ idle → ⊥) → (ph₀ j ≡ idle → ⊥) → R'.against i j ≡ true → R'.earlier i j ≡ true → ph₀ j ≡ waiting
  begun_i1 s i j hi hj wi wj a b x e = go (ℕ_discrete i (touched s)) (ℕ_discrete j (touched s))
    where
      go : Dec (i ≡ touched s) → Dec (j ≡ touched s) → ph₀ j ≡ waiting
      go (yes k) l = absurd (touched_not_earlier s i j hj k a e)
      go (no k) (yes l) = touched_later_waits s j l b
      go (no k) (no l) =
          same_phase s j hj l
          ∙ settled.i1 i j hi hj
          (sym (same_write s i hi k) ∙ wi)
          (sym (same_write s j hj l) ∙ wj)
          (λ z. a (same_phase s i hi k ∙ z))
          (λ z. b (same_phase s j hj l ∙ z))
          (sym (same_against s i j hi hj k l) ∙ x)
          (sym (same_earlier s i j hi hj k l) ∙ e)

  begun : Start n R R' ph ph₀ → Begun n R' ph₀
  begun s =
      record {
        i1 = begun_i1 s;
        i2 = still_excludes s (λ i k. inr k) settled.i2;
        i3 = still_excludes s (λ i k. inl k) settled.i3;
      }

-- The same request in another state, in its phase there.
in_phase : {R : Requests} {ph ph' : ℕ → Phase} {a b : Phase} {is_write : Bool} {i j : ℕ} → ph' j ≡ b
    → In R ph a is_write i j → In R ph' b is_write i j
in_phase e x = record { phase_is = e; write_is = x.write_is; conflict = x.conflict }

-- The four steps, from what remains after the start.

module _ {n t : ℕ} {R R' : Requests} {ph ph' : ℕ → Phase} {si si' : ℕ → ℕ}
    (c : Called n t R R' ph ph' si si') (lawful : Lawful n R' ph') (ordered : Ordered n R' ph')
    (b : Begun n R' c.ph₀) where
  -- I1.
  after_i1 : (i j : ℕ) → i < n → j < n → R'.write i ≡ true → R'.write j ≡ true → (ph' i ≡ idle → ⊥)
      → (ph' j ≡ idle → ⊥)
      → R'.against i j ≡ true → R'.earlier i j ≡ true → ph' j ≡ waiting
  after_i1 i j hi hj wi wj ai aj x e = write_fourth c j hj wj ∙ third (c.third j hj) (second (c.second j hj))
    where
      active : c.ph₁ i ≡ idle → ⊥
      active = active_at1 c i hi (active_before c i hi ai)

      waits : c.ph₁ j ≡ waiting
      waits = write_first c j hj wj ∙ b.i1 i j hi hj wi wj (active_before c i hi ai) (active_before c j hj aj) x e

      blocked : None n (EarlierUnsatisfied R' c.ph₁ j) → None n (In R' c.ph₁ holding true j)
          → Unsatisfied (c.ph₁ i) ⊎ (c.ph₁ i ≡ holding) → ⊥
      blocked none none' (inl u) =
          none i hi (record { unsatisfied = u; write_is = wi; before = e; conflict = lawful.symmetric i j hi hj x })
      blocked none none' (inr h) = none' i hi
          (record { phase_is = h; write_is = wi; conflict = lawful.symmetric i j hi hj x })

      second : Step2 n R' c.ph₁ c.ph₂ j → c.ph₂ j ≡ waiting
      second (Step2.entitles w h none none' none'' k) = absurd
          (blocked none none' (unsatisfied_or_holding (c.ph₁ i) active))
      second (Step2.stays why k) = k ∙ waits

      third : Step3 n R' c.ph₂ c.ph₃ j → c.ph₂ j ≡ waiting → c.ph₃ j ≡ waiting
      third (Step3.grants w h none k) l = absurd (clash h l tt)
      third (Step3.stays why k) l = k ∙ l

  -- I2.
  after_i2 : Excludes n R' ph' holding
  after_i2 i j hi hj r w x k l = third (c.third j hj)
    where
      held : c.ph₁ i ≡ holding
      held = read_holds_after1 c i hi r k

      first : Step1 n R' c.ph₀ c.ph₁ i → c.ph₀ j ≡ holding → ⊥
      first (Step1.grants r' e none h) m = none j hj (record { phase_is = m; write_is = w; conflict = x })
      first (Step1.grants_waiting r' e none none' h) m = none j hj (record { phase_is = m; write_is = w; conflict = x })
      first (Step1.stays why e) m = b.i2 i j hi hj r w x (sym e ∙ held) m

      third : Step3 n R' c.ph₂ c.ph₃ j → ⊥
      third (Step3.grants w' e none h) =
          none i hi
          (record { phase_is = read_second c i hi r ∙ held; write_is = r; conflict = lawful.symmetric i j hi hj x })
      third (Step3.stays why e) = first (c.first i hi)
          (write_held_before2 c j hj w (sym e ∙ (sym (write_fourth c j hj w) ∙ l)))

  -- I3.
  after_i3 : Excludes n R' ph' entitled
  after_i3 i j hi hj r w x k l = fourth (c.fourth i hi)
    where
      entitled3 : c.ph₃ j ≡ entitled
      entitled3 = sym (write_fourth c j hj w) ∙ l

      first : Step1 n R' c.ph₀ c.ph₁ i → c.ph₁ i ≡ entitled → c.ph₀ j ≡ entitled → ⊥
      first (Step1.grants r' e none h) m p = clash h m tt
      first (Step1.grants_waiting r' e none none' h) m p = clash h m tt
      first (Step1.stays why e) m p = b.i3 i j hi hj r w x (sym e ∙ m) p

      second : Step2 n R' c.ph₁ c.ph₂ j → c.ph₁ i ≡ entitled → c.ph₂ j ≡ entitled → ⊥
      second (Step2.entitles w' e none none' none'' h) m p =
          none'' i hi (record { phase_is = m; write_is = r; conflict = lawful.symmetric i j hi hj x })
      second (Step2.stays why e) m p = first (c.first i hi) m (sym (write_first c j hj w) ∙ (sym e ∙ p))

      third : Step3 n R' c.ph₂ c.ph₃ j → c.ph₁ i ≡ entitled → ⊥
      third (Step3.grants w' e none h) m = clash h entitled3 tt
      third (Step3.stays why e) m = second (c.second j hj) m (sym e ∙ entitled3)

      fourth : Step4 n R' c.ph₃ ph' i → ⊥
      fourth (Step4.entitles r' e some none h) = none j hj (record { phase_is = entitled3; write_is = w; conflict = x })
      fourth (Step4.stays why e) = third (c.third j hj) (sym (read_third c i hi r) ∙ (sym e ∙ k))

  -- I4, after step 1 and after the call.
  first_i4 : (i : ℕ) → i < n → R'.write i ≡ false → c.ph₁ i ≡ entitled → Exists n (In R' c.ph₀ holding true i)
  first_i4 i hi r k = go (c.first i hi)
    where
      go : Step1 n R' c.ph₀ c.ph₁ i → Exists n (In R' c.ph₀ holding true i)
      go (Step1.grants r' e none h) = absurd (clash h k tt)
      go (Step1.grants_waiting r' e none none' h) = absurd (clash h k tt)
      go (Step1.stays why e) = why (sym e ∙ k) r

  after_i4 : (i : ℕ) → i < n → R'.write i ≡ false → ph' i ≡ entitled → Exists n (In R' ph' holding true i)
  after_i4 i hi r k = go (c.fourth i hi)
    where
      from0 : Exists n (In R' c.ph₀ holding true i) → Exists n (In R' ph' holding true i)
      from0 (j, hj, x) = (j, hj, in_phase (holding_stays (rises c j hj) x.phase_is) x)

      from3 : Exists n (In R' c.ph₃ holding true i) → Exists n (In R' ph' holding true i)
      from3 (j, hj, x) = (j, hj, in_phase (write_fourth c j hj x.write_is ∙ x.phase_is) x)

      go : Step4 n R' c.ph₃ ph' i → Exists n (In R' ph' holding true i)
      go (Step4.entitles r' e some none h) = from3 some
      go (Step4.stays why e) = from0 (first_i4 i hi r (sym (read_third c i hi r) ∙ (sym e ∙ k)))

  -- I5: a write that is entitled or holding after step 1 still is after the call.
  after_i5 : (i : ℕ) → i < n → R'.write i ≡ false → ph' i ≡ waiting → Exists n (In R' ph' entitled true i)
  after_i5 i hi r k = fourth (c.fourth i hi)
    where
      found : (j : ℕ) → j < n → R'.write j ≡ true → R'.against i j ≡ true → None n (In R' c.ph₃ holding true i)
          → EntitledOrHolding (ph' j) → Exists n (In R' ph' entitled true i)
      found j hj w x none (inl e) = (j, hj, record { phase_is = e; write_is = w; conflict = x })
      found j hj w x none (inr h) =
          absurd (none j hj (record { phase_is = sym (write_fourth c j hj w) ∙ h; write_is = w; conflict = x }))

      from1 : None n (In R' c.ph₃ holding true i)
          → Exists n (In R' c.ph₁ holding true i) ⊎ Exists n (In R' c.ph₁ entitled true i)
          → Exists n (In R' ph' entitled true i)
      from1 none (inl (j, hj, x)) =
          found j hj x.write_is x.conflict none
          (entitled_or_holding_stays (rises_after1 c j hj) (inr x.phase_is))
      from1 none (inr (j, hj, x)) =
          found j hj x.write_is x.conflict none
          (entitled_or_holding_stays (rises_after1 c j hj) (inl x.phase_is))

      from3 : None n (In R' c.ph₃ holding true i) ⊎ Exists n (In R' c.ph₃ entitled true i) → c.ph₁ i ≡ waiting
          → Exists n (In R' ph' entitled true i)
      from3 (inl none) m = from1 none (c.left i hi r m)
      from3 (inr (j, hj, x)) m = (j, hj, in_phase (write_fourth c j hj x.write_is ∙ x.phase_is) x)

      fourth : Step4 n R' c.ph₃ ph' i → Exists n (In R' ph' entitled true i)
      fourth (Step4.entitles r' e some none h) = absurd (clash h k tt)
      fourth (Step4.stays why e) = from3 (why (sym e ∙ k) r) (sym (read_third c i hi r) ∙ (sym e ∙ k))

  -- I6: each reason why step 2 leaves a write waiting leads to an earlier active write.
  abbrev Behind : ℕ → Type 0
  Behind i = (j : ℕ) × (j < n) × (R'.write j ≡ true) × (ph' j ≡ idle → ⊥) × (R'.earlier j i ≡ true)
      × (R'.against i j ≡ true)

  behind_holding : (i j : ℕ) → i < n → j < n → R'.write i ≡ true → R'.write j ≡ true → c.ph₀ i ≡ waiting → c.ph₀ j
      ≡ holding
      → R'.against i j ≡ true → Behind i
  behind_holding i j hi hj wi wj k l x = go
      (ordered.total i j hi hj (active_after c i hi ai) (active_after c j hj aj) differ)
    where
      ai : c.ph₀ i ≡ idle → ⊥
      ai = is_active_law k tt

      aj : c.ph₀ j ≡ idle → ⊥
      aj = is_active_law l tt

      differ : i ≡ j → ⊥
      differ e = clash k (ap c.ph₀ e ∙ l) tt

      go : (R'.earlier i j ≡ true) ⊎ (R'.earlier j i ≡ true) → Behind i
      go (inl e) = absurd (clash (b.i1 i j hi hj wi wj ai aj x e) l tt)
      go (inr e) = (j, hj, wj, active_after c j hj aj, e, x)

  after_i6 : (i : ℕ) → i < n → R'.write i ≡ true → ph' i ≡ waiting → Behind i
  after_i6 i hi w k = second (c.second i hi)
    where
      waits1 : c.ph₁ i ≡ waiting
      waits1 = waiting_was_waiting (rises_after1 c i hi) k

      waits0 : c.ph₀ i ≡ waiting
      waits0 = waiting_was_waiting (rises c i hi) k

      -- An entitled read conflicts with a holding write, and the bridge leads from that write to ours.
      bridged : (r : ℕ) → r < n → In R' c.ph₁ entitled false i r → Exists n (In R' c.ph₀ holding true r)
          → Behind i
      bridged r hr x (v, hv, y) = behind_holding i v hi hv w y.write_is waits0 y.phase_is conflict
        where
          entitled_active : ph' r ≡ idle → ⊥
          entitled_active = entitled_or_holding_active
              (entitled_or_holding_stays (rises_after1 c r hr) (inl x.phase_is))

          differ : i ≡ v → ⊥
          differ e = clash waits0 (ap c.ph₀ e ∙ y.phase_is) tt

          conflict : R'.against i v ≡ true
          conflict =
              lawful.bridge r i v hr hi hv differ entitled_active (is_active_law k tt)
              (is_active_law (holding_stays (rises c v hv) y.phase_is) tt)
              x.write_is w y.write_is (lawful.symmetric i r hi hr x.conflict) y.conflict

      reason : Exists n (EarlierUnsatisfied R' c.ph₁ i)
          ⊎ (Exists n (In R' c.ph₁ holding true i) ⊎ Exists n (In R' c.ph₁ entitled false i)) → Behind i
      reason (inl (j, hj, x)) = (
        j,
        hj,
        x.write_is,
        active_after1 c j hj
            (unsatisfied_active x.unsatisfied),
        x.before,
        x.conflict,
      )
      reason (inr (inl (j, hj, x))) =
          behind_holding i j hi hj w x.write_is waits0 (sym (write_first c j hj x.write_is) ∙ x.phase_is)
          x.conflict
      reason (inr (inr (r, hr, x))) = bridged r hr x (first_i4 r hr x.write_is x.phase_is)

      second : Step2 n R' c.ph₁ c.ph₂ i → Behind i
      second (Step2.entitles w' e none none' none'' h) = absurd
          (clash h (waiting_was_waiting (rises_after2 c i hi) k) tt)
      second (Step2.stays why e) = reason (why waits1 w)

  -- I7.
  after_i7 : (i : ℕ) → i < n → R'.write i ≡ true → ph' i ≡ entitled → Exists n (In R' ph' holding false i)
  after_i7 i hi w k = third (c.third i hi)
    where
      entitled3 : c.ph₃ i ≡ entitled
      entitled3 = sym (write_fourth c i hi w) ∙ k

      from2 : Exists n (In R' c.ph₂ holding false i) → Exists n (In R' ph' holding false i)
      from2 (j, hj, x) = (j, hj, in_phase (holding_stays (rises_after2 c j hj) x.phase_is) x)

      third : Step3 n R' c.ph₂ c.ph₃ i → Exists n (In R' ph' holding false i)
      third (Step3.grants w' e none h) = absurd (clash h entitled3 tt)
      third (Step3.stays why e) = from2 (why (sym e ∙ entitled3) w)

pub called_keeps_settled : {n t : ℕ} {R R' : Requests} {ph ph' : ℕ → Phase} {si si' : ℕ → ℕ}
    → Settled n R ph → Ordered n R ph → Lawful n R' ph' → Called n t R R' ph ph' si si' → Settled n R' ph'
called_keeps_settled {n} {t} {R} {R'} {ph} {ph'} settled ordered lawful c =
    record {
      i1 = after_i1 c lawful o b;
      i2 = after_i2 c lawful o b;
      i3 = after_i3 c lawful o b;
      i4 = after_i4 c lawful o b;
      i5 = after_i5 c lawful o b;
      i6 = after_i6 c lawful o b;
      i7 = after_i7 c lawful o b;
    }
  where
    o : Ordered n R' ph'
    o = called_keeps_order ordered c

    b : Begun n R' c.ph₀
    b = begun settled c.start
