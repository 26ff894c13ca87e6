-- A request that is added, and one that is removed in whatever phase, in columns. Assumes nothing.
use Prim.Native.Nat.{ℕ, ◌<◌}
use mathlib.Core.Path.{◌≡◌, refl, ap, ap₂, ◌∙◌}
use mathlib.Core.Bool.{Bool, true, false, cond, not, ◌&&◌, ◌||◌, and-true, and-false, or-false}
use mathlib.Core.List.{List}
use native.Mathlib.Omega.{arith}
use lib.Dec.{eqb}
use lib.ListN.{length, get_or, set}
use borrow.Author.Tests.{eqb-true, eq-eqb, ne_eqb}
use Rattle.masks.specs.Sets.{bit, mask_of}
use Rattle.masks.proofs.Masks.{mask_below, bit_mask_at}
use Rattle.plans.specs.Entries.{max_processors}
use Rattle.masks.proofs.Tabulate.{get_d_tabulate}
use Rattle.rules.specs.declared.states.Phases.{Phases}
use Rattle.rules.specs.Requests.{Facts, facts_by, is_earlier, active}
use Rattle.rules.specs.Acts.{put_in, put_last, taken_out}
use Rattle.runs.proofs.history.Cases.{by_processor, get_d_set}
use Rattle.runs.proofs.columns.Columns.{idle, waiting, Requests, PutIn, TakenOut}
use Rattle.runs.proofs.refinement.State.{requests_of, phase_of, three, bits_of, Tidy, idle_inactive}
use Rattle.runs.proofs.refinement.State.{not_idle_active, bits_in, Becomes, moved, kept}

-- ---- added

put_bits : (w e h t : Bool) → (t ≡ true → three w e h ≡ bits_of idle)
    → three (w || t) e h ≡ cond t (bits_of waiting) (three w e h)
put_bits w e h true from = ap (λ b. three (b.0 || true) b.1 b.2) (from refl)
put_bits w e h false from = λ i. three (or-false w i) e h

module _ (ph : Phases) (p : ℕ) (c : Tidy ph) (was_idle : phase_of ph p ≡ idle) where
  pub put_moves : Becomes waiting (λ q. eqb q p) ph (put_in ph p)
  unfolding put_in
  put_moves =
      let w : ℕ → Bool = λ q. bit ph.waiting q || eqb q p in
      record {
        waiting_below = mask_below max_processors w;
        entitled_below = c.entitled_below;
        holding_below = c.holding_below;
        bits = λ q l.
            ap (λ u. three u (bit ph.entitled q) (bit ph.holding q)) (bit_mask_at max_processors w q l)
            ∙ put_bits _ _ _ (eqb q p) (λ t. bits_in ph q c l idle (ap (phase_of ph) (eqb-true q p t) ∙ was_idle));
      }

-- Which requests are earlier than q's: for the new one all that are active, for another the same as before without p's.
module _ (earlier : List ℕ) (ph : Phases) (p j q : ℕ) (lj : j < max_processors) (lq : q < max_processors) where
  abbrev new : ℕ
  new = mask_of max_processors (active ph)

  abbrev old : ℕ
  old = mask_of max_processors (λ r. bit (get_or earlier q 0) r && not (eqb r p))

  put_earlier : get_or (put_last earlier ph p) q 0 ≡ cond (eqb q p) new old
  unfolding put_last
  put_earlier =
      get_d_tabulate max_processors
      (λ q. cond (eqb q p) (mask_of max_processors (active ph))
      (mask_of max_processors (λ r. bit (get_or earlier q 0) r && not (eqb r p)))) q 0 lq

  put_earlier_new : q ≡ p → bit (get_or (put_last earlier ph p) q 0) j ≡ active ph j
  put_earlier_new same =
      ap (λ (m : ℕ). bit m j) (put_earlier ∙ ap (λ u. cond u new old) (eq-eqb q p same))
      ∙ bit_mask_at max_processors (active ph) j lj

  put_earlier_other : (q ≡ p → ⊥)
      → bit (get_or (put_last earlier ph p) q 0) j ≡ (bit (get_or earlier q 0) j && not (eqb j p))
  put_earlier_other other =
      ap (λ (m : ℕ). bit m j) (put_earlier ∙ ap (λ u. cond u new old) (ne_eqb q p other))
      ∙ bit_mask_at max_processors (λ r. bit (get_or earlier q 0) r && not (eqb r p)) j lj

module _ (rows : List ℕ) (writes : ℕ) (entry earlier : List ℕ) (ph : Phases) (p e : ℕ) (G : ℕ → Bool) where
  abbrev before : Facts
  before = facts_by rows writes entry earlier

  abbrev after : Facts
  after = facts_by rows writes (set entry p e) (put_last earlier ph p)

  pub put_in_law : length entry ≡ max_processors → Tidy ph → p < max_processors → phase_of ph p ≡ idle
      → PutIn max_processors (requests_of (facts_by rows writes entry earlier) G)
      (requests_of (facts_by rows writes (set entry p e) (put_last earlier ph p)) G) (phase_of ph) (phase_of (put_in ph p)) p
  put_in_law full c below was_idle =
      record {
        below = below;
        was_idle = was_idle;
        now_waiting = moved (put_moves ph p c was_idle) p below (eq-eqb p p refl);
        others = λ i l d. kept (put_moves ph p c was_idle) i l (ne_eqb i p d);
        same_write = λ i l d. ap (λ (k : ℕ). bit writes k) (entry_kept i d);
        same_group = λ i l d. ap G (entry_kept i d);
        same_against = λ i j l m d g. ap₂ (λ (k k' : ℕ). bit (get_or rows k 0) k') (entry_kept i d) (entry_kept j g);
        same_earlier = λ j i m l g d.
            put_earlier_other earlier ph p j i m l d ∙ ap (λ u. is_earlier before j i && not u) (ne_eqb j p g)
            ∙ and-true (is_earlier before j i);
        active_earlier = λ j m a. put_earlier_new earlier ph p j p m below refl ∙ not_idle_active ph j a;
        earlier_than_none = λ i l.
            by_processor i p (λ same. put_earlier_new earlier ph p p i below l same ∙ idle_inactive ph p was_idle)
            (λ other.
            put_earlier_other earlier ph p p i below l other ∙ ap (λ u. is_earlier before p i && not u) (eq-eqb p p refl)
            ∙ and-false (is_earlier before p i));
      }
    where
      entry_kept : (i : ℕ) → (i ≡ p → ⊥) → get_or (set entry p e) i 0 ≡ get_or entry i 0
      entry_kept i d = get_d_set entry p e i 0 (omega (arith, full)) ∙ ap (λ u. cond u e (get_or entry i 0)) (ne_eqb i p d)

-- ---- removed

take_bits : (w e h t : Bool) → three (w && not t) (e && not t) (h && not t) ≡ cond t (bits_of idle) (three w e h)
take_bits w e h true = λ i. three (and-false w i) (and-false e i) (and-false h i)
take_bits w e h false = λ i. three (and-true w i) (and-true e i) (and-true h i)

module _ (ph : Phases) (p : ℕ) where
  pub take_moves : Becomes idle (λ q. eqb q p) ph (taken_out ph p)
  unfolding taken_out
  take_moves =
      let left : ℕ → ℕ → Bool = λ mask q. bit mask q && not (eqb q p) in
      let at : (mask q : ℕ) → q < max_processors → bit (mask_of max_processors (left mask)) q ≡ left mask q =
      λ mask. bit_mask_at max_processors (left mask) in
      record {
        waiting_below = mask_below max_processors (left ph.waiting);
        entitled_below = mask_below max_processors (left ph.entitled);
        holding_below = mask_below max_processors (left ph.holding);
        bits = λ q l.
            ap₂ (λ u v. three u v (bit (taken_out ph p).holding q)) (at ph.waiting q l) (at ph.entitled q l)
            ∙ ap (three (left ph.waiting q) (left ph.entitled q)) (at ph.holding q l)
            ∙ take_bits _ _ _ (eqb q p);
      }

  pub taken_out_law : (R : Requests) → p < max_processors → (phase_of ph p ≡ idle → ⊥)
      → TakenOut max_processors R R (phase_of ph) (phase_of (taken_out ph p)) p
  taken_out_law R below was_active =
      record {
        below = below;
        was_active = was_active;
        now_idle = moved take_moves p below (eq-eqb p p refl);
        others = λ i l d. kept take_moves i l (ne_eqb i p d);
        same = refl;
      }
