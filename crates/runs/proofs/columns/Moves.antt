-- How an accepted call moves phases: what its start leaves unchanged, which steps move reads and which move writes,
-- that phases only rise in settling, and that no read begins to hold while a write that conflicts with it is entitled.
-- Assumes nothing.
use Prim.Native.Nat.{ℕ, ◌<◌, ◌≤◌}
use native.Mathlib.Omega.{arith}
use mathlib.Core.Path.{◌≡◌, sym, ◌∙◌, subst, ap}
use mathlib.Core.Bool.{true, false}
use mathlib.Core.Logic.{inl, inr}
use Rattle.runs.proofs.columns.Columns.{Phase, idle, entitled, holding, Requests, In, Step1, Step2, Step3, Step4}
use Rattle.runs.proofs.columns.Columns.{Start, puts_in, takes_out, Stamp, begins, arrives, keeps, Called, Lawful}
use Rattle.runs.proofs.columns.Columns.{Settled}
use Rattle.runs.proofs.columns.Phases.{clash, true_not_false, EntitledOrHolding, Rises, same, becomes_entitled}
use Rattle.runs.proofs.columns.Phases.{begins_to_hold, rises_rises, is_active_law, idle_stays, idle_was_idle}

-- No read and write that conflict are both in the phase.
abbrev pub Excludes : ℕ → Requests → (ℕ → Phase) → Phase → Type 0
Excludes n R ph a =
    (i j : ℕ) → i < n → j < n → R.write i ≡ false → R.write j ≡ true → R.against i j ≡ true → ph i ≡ a → ph j ≡ a → ⊥

-- The start: one request is added or removed, and every other is as it was.

module _ {n : ℕ} {R R' : Requests} {ph ph₀ : ℕ → Phase} where
  -- The one processor whose request is added or removed: the touched one.
  abbrev pub touched : Start n R R' ph ph₀ → ℕ
  touched (puts_in p s) = p
  touched (takes_out p s) = p

  pub same_phase : (s : Start n R R' ph ph₀) (i : ℕ) → i < n → (i ≡ touched s → ⊥) → ph₀ i ≡ ph i
  same_phase (puts_in p s) i hi d = s.others i hi d
  same_phase (takes_out p s) i hi d = s.others i hi d

  pub same_write : (s : Start n R R' ph ph₀) (i : ℕ) → i < n → (i ≡ touched s → ⊥) → R'.write i ≡ R.write i
  same_write (puts_in p s) i hi d = s.same_write i hi d
  same_write (takes_out p s) i hi d = ap (λ Q. Q.write i) s.same

  pub same_group : (s : Start n R R' ph ph₀) (i : ℕ) → i < n → (i ≡ touched s → ⊥) → R'.group i ≡ R.group i
  same_group (puts_in p s) i hi d = s.same_group i hi d
  same_group (takes_out p s) i hi d = ap (λ Q. Q.group i) s.same

  pub same_against : (s : Start n R R' ph ph₀) (i j : ℕ) → i < n → j < n → (i ≡ touched s → ⊥) → (j ≡ touched s → ⊥)
      → R'.against i j ≡ R.against i j
  same_against (puts_in p s) i j hi hj di dj = s.same_against i j hi hj di dj
  same_against (takes_out p s) i j hi hj di dj = ap (λ Q. Q.against i j) s.same

  pub same_earlier : (s : Start n R R' ph ph₀) (i j : ℕ) → i < n → j < n → (i ≡ touched s → ⊥) → (j ≡ touched s → ⊥)
      → R'.earlier i j ≡ R.earlier i j
  same_earlier (puts_in p s) i j hi hj di dj = s.same_earlier i j hi hj di dj
  same_earlier (takes_out p s) i j hi hj di dj = ap (λ Q. Q.earlier i j) s.same

  -- The touched processor is idle before or after, and if it is active after, it is waiting.
  pub active_throughout_untouched : (s : Start n R R' ph ph₀) (i : ℕ) → (ph i ≡ idle → ⊥) → (ph₀ i ≡ idle → ⊥) → i
      ≡ touched s → ⊥
  active_throughout_untouched (puts_in p s) i a b e = a (ap ph e ∙ s.was_idle)
  active_throughout_untouched (takes_out p s) i a b e = b (ap ph₀ e ∙ s.now_idle)

  pub past_waiting_untouched : (s : Start n R R' ph ph₀) (i : ℕ) → EntitledOrHolding (ph₀ i) → i ≡ touched s → ⊥
  past_waiting_untouched (puts_in p s) i (inl h) e = clash h (ap ph₀ e ∙ s.now_waiting) tt
  past_waiting_untouched (puts_in p s) i (inr h) e = clash h (ap ph₀ e ∙ s.now_waiting) tt
  past_waiting_untouched (takes_out p s) i (inl h) e = clash h (ap ph₀ e ∙ s.now_idle) tt
  past_waiting_untouched (takes_out p s) i (inr h) e = clash h (ap ph₀ e ∙ s.now_idle) tt

  pub was_holding : (s : Start n R R' ph ph₀) (i : ℕ) → i < n → ph₀ i ≡ holding → ph i ≡ holding
  was_holding s i hi h = sym (same_phase s i hi (past_waiting_untouched s i (inr h))) ∙ h

  -- I2 and I3 still hold: the request that is added is waiting.
  pub still_excludes : {a : Phase} (s : Start n R R' ph ph₀) → ((i : ℕ) → ph₀ i ≡ a → EntitledOrHolding (ph₀ i))
      → Excludes n R ph a → Excludes n R' ph₀ a
  still_excludes s past excludes i j hi hj r w x k l =
      let di = past_waiting_untouched s i (past i k) in
      let dj = past_waiting_untouched s j (past j l) in
      excludes i j hi hj
      (sym (same_write s i hi di) ∙ r)
      (sym (same_write s j hj dj) ∙ w)
      (sym (same_against s i j hi hj di dj) ∙ x)
      (sym (same_phase s i hi di) ∙ k)
      (sym (same_phase s j hj dj) ∙ l)

-- Each step raises phases: steps 1 and 4 those of reads, steps 2 and 3 those of writes.

module _ {n : ℕ} {R : Requests} {ph ph' : ℕ → Phase} {i : ℕ} where
  pub rises1 : Step1 n R ph ph' i → Rises (ph i) (ph' i)
  rises1 (Step1.grants r e none h) = begins_to_hold (inr e) h
  rises1 (Step1.grants_waiting r w none none' h) = begins_to_hold (inl w) h
  rises1 (Step1.stays why e) = same e

  pub rises2 : Step2 n R ph ph' i → Rises (ph i) (ph' i)
  rises2 (Step2.entitles w h a b c e) = becomes_entitled h e
  rises2 (Step2.stays why e) = same e

  pub rises3 : Step3 n R ph ph' i → Rises (ph i) (ph' i)
  rises3 (Step3.grants w e none h) = begins_to_hold (inr e) h
  rises3 (Step3.stays why e) = same e

  pub rises4 : Step4 n R ph ph' i → Rises (ph i) (ph' i)
  rises4 (Step4.entitles r h a b e) = becomes_entitled h e
  rises4 (Step4.stays why e) = same e

  pub write_kept1 : Step1 n R ph ph' i → R.write i ≡ true → ph' i ≡ ph i
  write_kept1 (Step1.grants r e none h) w = absurd (true_not_false w r)
  write_kept1 (Step1.grants_waiting r h none none' e) w = absurd (true_not_false w r)
  write_kept1 (Step1.stays why e) w = e

  read_kept2 : Step2 n R ph ph' i → R.write i ≡ false → ph' i ≡ ph i
  read_kept2 (Step2.entitles w h a b c e) r = absurd (true_not_false w r)
  read_kept2 (Step2.stays why e) r = e

  read_kept3 : Step3 n R ph ph' i → R.write i ≡ false → ph' i ≡ ph i
  read_kept3 (Step3.grants w e none h) r = absurd (true_not_false w r)
  read_kept3 (Step3.stays why e) r = e

  write_kept4 : Step4 n R ph ph' i → R.write i ≡ true → ph' i ≡ ph i
  write_kept4 (Step4.entitles r h a b e) w = absurd (true_not_false w r)
  write_kept4 (Step4.stays why e) w = e

  -- Step 2 makes nothing hold, and neither does step 4.
  holding_before2 : Step2 n R ph ph' i → ph' i ≡ holding → ph i ≡ holding
  holding_before2 (Step2.entitles w h a b c e) k = absurd (clash e k tt)
  holding_before2 (Step2.stays why e) k = sym e ∙ k

  holding_before4 : Step4 n R ph ph' i → ph' i ≡ holding → ph i ≡ holding
  holding_before4 (Step4.entitles r h a b e) k = absurd (clash e k tt)
  holding_before4 (Step4.stays why e) k = sym e ∙ k

-- One call.

module _ {n t : ℕ} {R R' : Requests} {ph ph' : ℕ → Phase} {si si' : ℕ → ℕ} (c : Called n t R R' ph ph' si si') where
  pub rises_after2 : (i : ℕ) → i < n → Rises (c.ph₂ i) (ph' i)
  rises_after2 i h = rises_rises (rises3 (c.third i h)) (rises4 (c.fourth i h))

  pub rises_after1 : (i : ℕ) → i < n → Rises (c.ph₁ i) (ph' i)
  rises_after1 i h = rises_rises (rises2 (c.second i h)) (rises_after2 i h)

  -- Phases only go up in settling.
  pub rises : (i : ℕ) → i < n → Rises (c.ph₀ i) (ph' i)
  rises i h = rises_rises (rises1 (c.first i h)) (rises_after1 i h)

  -- Settling does not change who is active.
  pub active_after : (i : ℕ) → i < n → (c.ph₀ i ≡ idle → ⊥) → ph' i ≡ idle → ⊥
  active_after i h a e = a (idle_was_idle (rises i h) e)

  pub active_after1 : (i : ℕ) → i < n → (c.ph₁ i ≡ idle → ⊥) → ph' i ≡ idle → ⊥
  active_after1 i h a e = a (idle_was_idle (rises_after1 i h) e)

  pub active_before : (i : ℕ) → i < n → (ph' i ≡ idle → ⊥) → c.ph₀ i ≡ idle → ⊥
  active_before i h a e = a (idle_stays (rises i h) e)

  pub active_at1 : (i : ℕ) → i < n → (c.ph₀ i ≡ idle → ⊥) → c.ph₁ i ≡ idle → ⊥
  active_at1 i h a e = a (idle_was_idle (rises1 (c.first i h)) e)

  -- A write moves only in steps 2 and 3, and a read only in steps 1 and 4.
  pub write_first : (i : ℕ) → i < n → R'.write i ≡ true → c.ph₁ i ≡ c.ph₀ i
  write_first i h w = write_kept1 (c.first i h) w

  pub write_fourth : (i : ℕ) → i < n → R'.write i ≡ true → ph' i ≡ c.ph₃ i
  write_fourth i h w = write_kept4 (c.fourth i h) w

  pub read_second : (i : ℕ) → i < n → R'.write i ≡ false → c.ph₂ i ≡ c.ph₁ i
  read_second i h r = read_kept2 (c.second i h) r

  pub read_third : (i : ℕ) → i < n → R'.write i ≡ false → c.ph₃ i ≡ c.ph₁ i
  read_third i h r = read_kept3 (c.third i h) r ∙ read_second i h r

  -- A read that holds after the call holds from step 1 on.
  pub read_holds_after1 : (i : ℕ) → i < n → R'.write i ≡ false → ph' i ≡ holding → c.ph₁ i ≡ holding
  read_holds_after1 i h r k = sym (read_third i h r) ∙ holding_before4 (c.fourth i h) k

  -- A write that holds after step 2 held before the steps.
  pub write_held_before2 : (i : ℕ) → i < n → R'.write i ≡ true → c.ph₂ i ≡ holding → c.ph₀ i ≡ holding
  write_held_before2 i h w k = sym (write_first i h w) ∙ holding_before2 (c.second i h) k

  -- A processor that is active before and after the call, or past waiting when it settles, is not the touched one.
  pub active_untouched : (i : ℕ) → i < n → (ph i ≡ idle → ⊥) → (ph' i ≡ idle → ⊥) → i ≡ touched c.start → ⊥
  active_untouched i h a b = active_throughout_untouched c.start i a (active_before i h b)

  pub kept_phase : (i : ℕ) → i < n → (ph i ≡ idle → ⊥) → (ph' i ≡ idle → ⊥) → c.ph₀ i ≡ ph i
  kept_phase i h a b = same_phase c.start i h (active_untouched i h a b)

  pub rises_throughout : (i : ℕ) → i < n → (ph i ≡ idle → ⊥) → (ph' i ≡ idle → ⊥) → Rises (ph i) (ph' i)
  rises_throughout i h a b = subst (λ x. Rises x (ph' i)) (kept_phase i h a b) (rises i h)

  -- Ticks.
  pub held_keeps_tick : (i : ℕ) → i < n → ph i ≡ holding → si' i ≡ si i
  held_keeps_tick i h k = go (c.stamps i h)
    where
      go : Stamp t (ph i) (ph' i) (si i) (si' i) → si' i ≡ si i
      go (begins a b e) = absurd (b k)
      go (arrives a e) = absurd (clash a k tt)
      go (keeps a b e) = e

  pub unsatisfied_keeps_tick : (i : ℕ) → i < n → (ph i ≡ idle → ⊥) → (ph' i ≡ holding → ⊥) → si' i ≡ si i
  unsatisfied_keeps_tick i h a k = go (c.stamps i h)
    where
      go : Stamp t (ph i) (ph' i) (si i) (si' i) → si' i ≡ si i
      go (begins b d e) = absurd (k b)
      go (arrives b e) = absurd (a b)
      go (keeps b d e) = e

  pub newcomer_has_tick : (i : ℕ) → i < n → ph i ≡ idle → (ph' i ≡ idle → ⊥) → si' i ≡ t
  newcomer_has_tick i h a b = go (c.stamps i h)
    where
      go : Stamp t (ph i) (ph' i) (si i) (si' i) → si' i ≡ t
      go (begins x d e) = e
      go (arrives x e) = e
      go (keeps x d e) = absurd (b (d a))

  pub begun_has_tick : (i : ℕ) → i < n → (ph i ≡ holding → ⊥) → ph' i ≡ holding → si' i ≡ t
  begun_has_tick i h a b = go (c.stamps i h)
    where
      go : Stamp t (ph i) (ph' i) (si i) (si' i) → si' i ≡ t
      go (begins x d e) = e
      go (arrives x e) = e
      go (keeps x d e) = absurd (a (x b))

  pub ticks_past : ((i : ℕ) → i < n → (ph i ≡ idle → ⊥) → si i ≤ t) → (i : ℕ) → i < n → (ph' i ≡ idle → ⊥) → si' i ≤ t
  ticks_past past i h a = go (c.stamps i h)
    where
      go : Stamp t (ph i) (ph' i) (si i) (si' i) → si' i ≤ t
      go (begins x d e) = omega (arith, e)
      go (arrives x e) = omega (arith, e)
      go (keeps x d e) = omega (arith, e, past i h (λ k. a (d k)))

  -- No read is added in the way of an entitled write.
  pub read_held_before : Settled n R ph → (q w : ℕ) → q < n → w < n → R'.write q ≡ false → R'.write w ≡ true
      → R'.against q w ≡ true → c.ph₀ w ≡ entitled → ph' q ≡ holding → ph q ≡ holding
  read_held_before settled q w hq hw r wr qw e k = go (c.first q hq)
    where
      go : Step1 n R' c.ph₀ c.ph₁ q → ph q ≡ holding
      go (Step1.grants r' x none y) = absurd (still_excludes c.start (λ i k. inl k)
          settled.i3 q w hq hw r wr qw x e)
      go (Step1.grants_waiting r' x none none' y) = absurd
          (none' w hw (record { phase_is = e; write_is = wr; conflict = qw }))
      go (Step1.stays why x) = was_holding c.start q hq (sym x ∙ read_holds_after1 q hq r k)

  pub nothing_added : Settled n R ph → Lawful n R' ph' → (w q : ℕ) → w < n → q < n → R'.write w ≡ true → ph w
      ≡ entitled
      → (ph' w ≡ idle → ⊥) → In R' ph' holding false w q → (ph q ≡ holding) × (si' q ≡ si q)
  nothing_added settled lawful w q hw hq wr e active x = (held, held_keeps_tick q hq held)
    where
      held : ph q ≡ holding
      held =
          read_held_before settled q w hq hw x.write_is wr (lawful.symmetric w q hw hq x.conflict)
          (kept_phase w hw (is_active_law e tt) active ∙ e)
          x.phase_is
