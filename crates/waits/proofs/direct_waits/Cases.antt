-- The masks that the code joins, with the row of conflicts, are the direct waits. Assumes nothing.
use Prim.Native.Nat.{ℕ, ◌^◌, ◌<◌}
use mathlib.Core.Path.{◌≡◌, refl, sym, ap, ap₂, ◌∙◌}
use mathlib.Core.Bool.{Bool, true, false, cond, not, ◌&&◌, ◌||◌, and-true, and-false, or_assoc, true≢false}
use lib.Bits.{bit_and, bit_or}
use lib.ListN.{get_or}
use Rattle.masks.specs.Sets.{bit, without, mask_of}
use Rattle.masks.proofs.Places.{bit_zero, bit_and_law, bit_or_law, bit_or_if, bit_without}
use Rattle.masks.proofs.Masks.{bit_mask_at, mask_agree, mask_none}
use Rattle.plans.specs.Entries.{max_processors}
use Rattle.rules.specs.declared.states.Phases.{Phases}
use Rattle.rules.specs.Requests.{Facts, active, is_earlier, is_writer, entry_of, conflicts}
use Rattle.rules.proofs.Active.{waiting_active, entitled_active, holding_active, within_and, within_not}
use Rattle.waits.specs.Waits.{waits_in}
use Rattle.waits.specs.inner.Writers.{writers_in}

-- The active processors, as the code joins the masks of the phases.
pub bit_active : (ph : Phases) (q : ℕ) → bit (bit_or (bit_or ph.waiting ph.entitled) ph.holding) q ≡ active ph q
bit_active ph q = bit_or_law _ ph.holding q ∙ ap (λ t. t || bit ph.holding q) (bit_or_law ph.waiting ph.entitled q)

joined_place : (before set after k : ℕ) (t u v : Bool) → after ≡ cond t (bit_or before set) before → bit before k ≡ u
    → bit set k ≡ v
    → bit after k ≡ (u || (t && v))
joined_place before set after k t u v e f g =
    ap (λ (x : ℕ). bit x k) e ∙ bit_or_if before set k t ∙ ap₂ (λ x y. x || (t && y)) f g

pub left_to_right : (a b c d : Bool) → (a || b || c || d) ≡ (a || (b || (c || d)))
left_to_right a b c d = or_assoc (a || b) c d ∙ or_assoc a b (c || d)

each_way : (a x b y c z d u k : Bool)
    → ((a && x || (b && y || (c && z || d && u))) && k)
    ≡ (a && (x && k) || (b && (y && k) || (c && (z && k) || d && (u && k))))
each_way a x b y c z d u true = simp and-true
each_way a x b y c z d u false = simp and-false

-- The code searches only the active writers. Every test of a writer also tests a phase, so the result is the same.
pub active_sides : (ep wp ap eq hq aq Wp Wq before k : Bool) → (ep ≡ true → ap ≡ true) → (wp ≡ true → ap ≡ true)
    → (eq ≡ true → aq ≡ true) → (hq ≡ true → aq ≡ true)
    → (ep && not (ap && Wp) && (hq && (aq && Wq) && k) || (wp && not (ap && Wp) && (eq && (aq && Wq) && k)
    || (ep && (ap && Wp) && (hq && not (aq && Wq) && k) || wp && (ap && Wp) && (before && (aq && Wq) && k))))
    ≡ (ep && not Wp && (hq && Wq && k) || (wp && not Wp && (eq && Wq && k)
    || (ep && Wp && (hq && not Wq && k) || wp && Wp && (before && (aq && Wq) && k))))
active_sides ep wp ap eq hq aq Wp Wq before k e w f h =
    rw (
      within_not ep ap Wp e,
      within_not wp ap Wp w,
      within_and ep ap Wp e,
      within_and wp ap Wp w,
      within_and hq aq Wq h,
      within_not hq aq Wq h,
      within_and eq aq Wq f,
    )

-- A processor whose request neither waits nor is entitled waits for nobody.
neither_phase : (a b : Bool) → (a || b) ≡ false → (a ≡ false) × (b ≡ false)
neither_phase false b e = (refl, e)
neither_phase true b e = absurd (true≢false e)

pub waits_for_none : (f : Facts) (ph : Phases) (p : ℕ) → bit (bit_or ph.waiting ph.entitled) p ≡ false
    → 0 ≡ mask_of max_processors (waits_in f ph p)
unfolding waits_in
waits_for_none f ph p e =
    let none = neither_phase (bit ph.waiting p) (bit ph.entitled p) (sym (bit_or_law ph.waiting ph.entitled p) ∙ e) in
    sym (mask_none max_processors)
    ∙ mask_agree max_processors (λ q. false) (waits_in f ph p) (λ q l. rw (none.0, none.1) refl)

-- The places of the mask of writers.
pub is_writer_law : (f : Facts) (ph : Phases) (writers : ℕ) → writers ≡ writers_in f ph → (k : ℕ) → k < max_processors
    → bit writers k ≡ (active ph k && is_writer f k)
is_writer_law f ph writers are k l =
    ap (λ (x : ℕ). bit x k) are ∙ bit_mask_at max_processors (λ q. active ph q && is_writer f q) k l

module _ (f : Facts) (ph : Phases) (writers p : ℕ) (are : writers ≡ writers_in f ph) (below : p < max_processors)
    (h : ph.holding < 2 ^ 32) (hw : writers < 2 ^ 32) where
  module _ (first second third others : ℕ) (waiting entitled write : Bool)
      (ew : waiting ≡ bit ph.waiting p) (ee : entitled ≡ bit ph.entitled p) (er : write ≡ bit writers p)
      (e1 : first ≡ cond (entitled && not write) (bit_or 0 (bit_and ph.holding writers)) 0)
      (e2 : second ≡ cond (waiting && not write) (bit_or first (bit_and ph.entitled writers)) first)
      (e3 : third ≡ cond (entitled && write) (bit_or second (without 32 ph.holding writers)) second)
      (e4 : others ≡ cond (waiting && write) (bit_or third (bit_and (get_or f.earlier p 0) writers)) third) where
    bit_others : (q : ℕ) → bit others q
        ≡ (entitled && not write && (bit ph.holding q && bit writers q)
        || (waiting && not write && (bit ph.entitled q && bit writers q)
        || (entitled && write && (bit ph.holding q && not (bit writers q)) || waiting && write
        && (is_earlier f q p && bit writers q))))
    bit_others q =
        joined_place third _ others q (waiting && write) _ _ e4
        (joined_place second _ third q (entitled && write) _ _ e3
        (joined_place first _ second q (waiting && not write) _ _ e2
        (joined_place 0 _ first q (entitled && not write) _ _ e1 (bit_zero q) (bit_and_law ph.holding writers q))
        (bit_and_law ph.entitled writers q))
        (bit_without 32 ph.holding writers q h hw))
        (bit_and_law (get_or f.earlier p 0) writers q)
        ∙ left_to_right
        (entitled && not write && (bit ph.holding q && bit writers q))
        (waiting && not write && (bit ph.entitled q && bit writers q))
        (entitled && write && (bit ph.holding q && not (bit writers q)))
        (waiting && write && (is_earlier f q p && bit writers q))

    waits_place : (q : ℕ) → q < max_processors → (bit others q && conflicts f p q) ≡ waits_in f ph p q
    unfolding waits_in
    waits_place q l =
        ap (λ t. t && conflicts f p q) (bit_others q)
        ∙ each_way (entitled && not write) (bit ph.holding q && bit writers q) (waiting && not write)
        (bit ph.entitled q && bit writers q)
        (entitled && write) (bit ph.holding q && not (bit writers q)) (waiting && write)
        (is_earlier f q p && bit writers q) (conflicts f p q)
        ∙ rw (ew, ee, er, is_writer_law f ph writers are p below, is_writer_law f ph writers are q l)
        (active_sides (bit ph.entitled p) (bit ph.waiting p) (active ph p) (bit ph.entitled q)
        (bit ph.holding q) (active ph q)
        (is_writer f p) (is_writer f q) (is_earlier f q p) (conflicts f p q) (entitled_active ph p) (waiting_active ph p)
        (entitled_active ph q)
        (holding_active ph q))

    pub waits_mask : (row r : ℕ) → row ≡ get_or f.rows (entry_of f p) 0 → r
        ≡ mask_of max_processors (λ q. bit others q && bit row (entry_of f q))
        → r ≡ mask_of max_processors (waits_in f ph p)
    waits_mask row r conflicting e =
        e
        ∙ mask_agree max_processors _ _ (λ q l. ap (λ (x : ℕ). bit others q && bit x (entry_of f q)) conflicting
        ∙ waits_place q l)
