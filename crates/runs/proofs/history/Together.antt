-- A request is removed and another of its processor added, at one tick: the grants of both acts, counted together after
-- both, are those counted after each act. Assumes nothing.
use Prim.Native.Nat.{ℕ}
use mathlib.Core.Path.{◌≡◌, refl, sym, ap, ap₂, ◌∙◌}
use mathlib.Core.Bool.{Bool, true, false, ◌&&◌, ◌||◌}
use mathlib.Core.List.{List, [], ◌∷◌, ◌++◌, map}
use lib.Dec.{ltb}
use Rattle.masks.specs.Sets.{bit, mask_of}
use Rattle.masks.proofs.Masks.{bit_mask}
use Rattle.plans.specs.Entries.{max_processors}
use Rattle.rules.specs.declared.states.Board.{Board}
use Rattle.rules.specs.declared.states.State.{State}
use Rattle.runs.specs.History.{When, never, at, Request, History, Act, puts, takes, arrival, all_acting, granting}
use Rattle.runs.specs.History.{ending}
use Rattle.runs.proofs.history.Spans.{timed}
use Rattle.runs.proofs.history.Related.{after_act}
use Rattle.runs.proofs.columns.Phases.{clash, idle_stays}
use Rattle.runs.proofs.refinement.Clean.{Clean}
use Rattle.runs.proofs.refinement.Acts.{grants_in, state_after_act, Allowed, Marked, begins, keeps, ActDone}
use Rattle.runs.proofs.refinement.Acts.{act_done}

-- The processors of either mask.
abbrev pub either : ℕ → ℕ → ℕ
either g₁ g₂ = mask_of max_processors (λ q. bit g₁ q || bit g₂ q)

-- Nothing is lost past the last processor, where the masks are empty.
both_below : (l a b : Bool) → (l && ((l && a) || (l && b))) ≡ ((l && a) || (l && b))
both_below true a b = refl
both_below false a b = refl

pub bit_either : (f₁ f₂ : ℕ → Bool) (q : ℕ)
    → bit (either (mask_of max_processors f₁) (mask_of max_processors f₂)) q
    ≡ (bit (mask_of max_processors f₁) q || bit (mask_of max_processors f₂) q)
bit_either f₁ f₂ q =
    let in_either = bit_mask max_processors (λ q. bit (mask_of max_processors f₁) q || bit (mask_of max_processors f₂) q)
    q in
    let masks = ap₂ ◌||◌ (bit_mask max_processors f₁ q) (bit_mask max_processors f₂ q) in
    in_either ∙ ap (λ u. ltb q max_processors && u) masks ∙ both_below (ltb q max_processors) (f₁ q) (f₂ q) ∙ sym masks

module _ (g g₁ g₂ t : ℕ) (all : (q : ℕ) → bit g q ≡ (bit g₁ q || bit g₂ q)) where
  -- One request: what the first mask grants, the second does not grant again.
  granted_together : (r : Request) → granting g t r ≡ granting g₂ t (granting g₁ t r)
  granted_together r = go r.grant r.end
    where
      open_together : (u : Bool) → bit g₁ r.processor ≡ u
          → granting g t (timed r never never) ≡ granting g₂ t (granting g₁ t (timed r never never))
      open_together true e = rw (all r.processor, e)
      open_together false e = rw (all r.processor, e)

      go : (grant end : When) → granting g t (timed r grant end) ≡ granting g₂ t (granting g₁ t (timed r grant end))
      go never never = open_together (bit g₁ r.processor) refl
      go never (at d) = refl
      go (at k) never = refl
      go (at k) (at d) = refl

  module _ (p e : ℕ) (not_before : bit g₁ p ≡ false) where
    -- The new request: the first mask does not contain its processor.
    arrival_granted : granting g t (arrival p e t) ≡ granting g₂ t (arrival p e t)
    arrival_granted = rw (all p, not_before)

    pub counted_together : (rs : List Request)
        → map (granting g t) (map (ending p t) rs ++ (arrival p e t ∷ []))
        ≡ map (granting g₂ t) (map (granting g₁ t) (map (ending p t) rs) ++ (arrival p e t ∷ []))
    counted_together [] = ap (λ r. r ∷ []) arrival_granted
    counted_together (r ∷ rs) = ap₂ ◌∷◌ (granted_together (ending p t r)) (counted_together rs)

-- What is counted for a call at t that carries out these acts, with the mask g of grants.
abbrev pub after_acts : History → ℕ → List Act → ℕ → History
after_acts h t acts g = record { requests = map (granting g t) (all_acting t acts h.requests); last = t }

-- What is counted for a call at t that removes p's request and adds one of p for entry e.
abbrev pub after_both : Board → State → History → ℕ → ℕ → ℕ → History
after_both b s h t p e =
    after_acts h t (takes p ∷ puts p e ∷ [])
    (either (grants_in b s t (takes p)) (grants_in b (state_after_act b s t (takes p)) t (puts p e)))

module _ (b : Board) (s : State) (t p : ℕ) (c : Clean b s) (k : Allowed b s t (takes p)) where
  -- A processor whose request is removed does not begin to hold in that act.
  pub gone_not_granted : bit (grants_in b s t (takes p)) p ≡ false
  gone_not_granted = go (done.settles.marked p k.below)
    where
      done : ActDone b s t (takes p) (state_after_act b s t (takes p)) (grants_in b s t (takes p))
      done = act_done b s t (takes p) c k

      go : Marked done.start (state_after_act b s t (takes p)) (grants_in b s t (takes p)) p
          → bit (grants_in b s t (takes p)) p ≡ false
      go (begins m held d since) =
          absurd (clash (idle_stays (done.settles.rises p k.below) done.begun.own.now_idle) held tt)
      go (keeps m held since) = m

  pub both_counted : (h : History) (e : ℕ) → after_both b s h t p e
      ≡ after_act (after_act h t (takes p) (grants_in b s t (takes p))) t (puts p e)
      (grants_in b (state_after_act b s t (takes p)) t (puts p e))
  unfolding all_acting
  both_counted h e =
      let g₁ = grants_in b s t (takes p) in
      let g₂ = grants_in b (state_after_act b s t (takes p)) t (puts p e) in
      ap (λ rs. record { requests = rs; last = t })
      (counted_together (either g₁ g₂) g₁ g₂ t (bit_either _ _) p e gone_not_granted h.requests)
