-- The known processors: those whose requests' entries have a row. Masks of them alone, and that the steps ignore the
-- others. Assumes nothing.
use mathlib.Core.Path.{◌≡◌, refl, sym, ap, ◌∙◌}
use mathlib.Core.Bool.{Bool, true, false, not, ◌&&◌, ◌||◌, and-true, and-false}
use mathlib.Core.List.{List}
use mathlib.Core.Logic.{⊎_elim}
use Prim.Native.Nat.{ℕ, ◌^◌, ◌<◌}
use native.Mathlib.Omega.{arith}
use native.Mathlib.Nat.{lt_of_le_of_lt}
use lib.Bits.{bit_and, bit_or, and_le_r}
use lib.Dec.{ltb}
use lib.ListN.{get_or, get_or-eq_default}
use borrow.Author.Tests.{ltb-true, ltb-false}
use Rattle.masks.specs.Sets.{bit, without, mask_of}
use Rattle.masks.proofs.Truth.{and_left, and_right, or_cases}
use Rattle.masks.proofs.Places.{bit_past, bit_zero, bit_and_law, bit_or_law, and_below, or_below}
use Rattle.masks.proofs.Some.{some_agree, some_none}
use Rattle.masks.proofs.Masks.{mask_below, mask_agree, bit_mask}
use Rattle.masks.proofs.Tests.{Mask, bit_is, agree_is, same_is, and_is, or_is, without_is}
use Rattle.plans.specs.Entries.{max_processors, max_entries}
use Rattle.rules.specs.Requests.{Facts, entry_of, is_writer, conflicts, against}
use Rattle.rules.specs.inner.Moves.{Table, Known, known_in, unopposed_in}
use Rattle.rules.proofs.FourSteps.{fit}

-- ---- masks of such processors alone

module _ {entry : List ℕ} where
  pub known_kept : {a b : ℕ} (P : ℕ → Bool) → Known entry a → b ≡ mask_of max_processors (λ p. bit a p && P p)
      → Known entry b
  known_kept {a} {b} P h e =
      record {
        within = rw e (mask_below max_processors _);
        entries = λ p i.
            h.entries p (and_left (bit a p) (P p) (and_right (ltb p max_processors) (bit a p && P p)
            (sym (bit_mask max_processors (λ p. bit a p && P p) p) ∙ ap (λ (x : ℕ). bit x p) (sym e) ∙ i)));
      }

  pub known_all : {k : ℕ} → k ≡ known_in entry → Known entry k
  known_all {k} e =
      record {
        within = rw e (mask_below max_processors _);
        entries = λ p i.
            ltb-true (get_or entry p 0) max_entries (and_right (ltb p max_processors) (ltb (get_or entry p 0) max_entries)
            (sym (bit_mask max_processors (λ p. ltb (get_or entry p 0) max_entries) p) ∙ ap (λ (x : ℕ). bit x p) (sym e)
            ∙ i));
      }

  pub and_known : {b : ℕ} (a : ℕ) → Known entry b → Known entry (bit_and a b)
  and_known {b} a h =
      record {
        within = lt_of_le_of_lt (and_le_r a b) h.within;
        entries = λ p i. h.entries p (and_right (bit a p) (bit b p) (sym (bit_and_law a b p) ∙ i));
      }

  pub known_and : {a : ℕ} (b : ℕ) → Known entry a → Known entry (bit_and a b)
  known_and {a} b h =
      record {
        within = and_below max_processors a b h.within;
        entries = λ p i. h.entries p (and_left (bit a p) (bit b p) (sym (bit_and_law a b p) ∙ i));
      }

  pub known_or : {a b : ℕ} → Known entry a → Known entry b → Known entry (bit_or a b)
  known_or {a} {b} h g =
      record {
        within = or_below max_processors a b h.within g.within;
        entries = λ p i. ⊎_elim (h.entries p) (g.entries p) (or_cases (bit a p) (bit b p) (sym (bit_or_law a b p) ∙ i));
      }

-- ---- the others' requests are not writes and conflict with none

abbrev has_row : Facts → ℕ → Bool
has_row f p = ltb (entry_of f p) max_entries

module _ (f : Facts) (small : f.writes < 2 ^ max_entries) where
  pub unknown_read : (p : ℕ) → has_row f p ≡ false → is_writer f p ≡ false
  unknown_read p e = bit_past max_entries f.writes (entry_of f p) small (ltb-false (entry_of f p) max_entries e)

  -- A test that the others fail selects the same processors from a mask and from its known processors.
  known_alone : {k : ℕ} (a : ℕ) (P : ℕ → Bool) → k ≡ known_in f.requested
      → ((p : ℕ) → has_row f p ≡ false → P p ≡ false)
      → (p : ℕ) → p < max_processors → (bit (bit_and a k) p && P p) ≡ (bit a p && P p)
  known_alone {k} a P e none p l =
      ap (λ t. t && P p) (bit_and_law a k p ∙ ap (λ t. bit a p && t) (bit_is {P = has_row f} (record { is = e }) p l))
      ∙ at (bit a p) (has_row f p) (P p) (none p)
    where
      at : (b k t : Bool) → (k ≡ false → t ≡ false) → (b && k && t) ≡ (b && t)
      at b true t h = ap (λ u. u && t) (and-true b)
      at true false t h = sym (h refl)
      at false false t h = refl

  pub known_writers : {k : ℕ} (a : ℕ) → k ≡ known_in f.requested
      → mask_of max_processors (λ p. bit (bit_and a k) p && is_writer f p)
      ≡ mask_of max_processors (λ p. bit a p && is_writer f p)
  known_writers a e = mask_agree max_processors _ _ (known_alone a (is_writer f) e unknown_read)

module _ (f : Facts) (table : Table f.rows) where
  pub unknown_row : (p : ℕ) → has_row f p ≡ false → get_or f.rows (entry_of f p) 0 ≡ 0
  unknown_row p e =
      get_or-eq_default f.rows 0 (omega (arith, table.count, ltb-false (entry_of f p) max_entries e))

  pub unknown_against : (p : ℕ) (test : ℕ → Bool) → has_row f p ≡ false → against f p test ≡ false
  unknown_against p test e =
      some_none max_processors _ (λ q l. ap (λ (row : ℕ). test q && bit row (entry_of f q)) (unknown_row p e)
      ∙ ap (λ t. test q && t) (bit_zero (entry_of f q)) ∙ and-false (test q))

  unknown_opposes_none : (p q : ℕ) → has_row f q ≡ false → conflicts f p q ≡ false
  unknown_opposes_none p q e =
      bit_past max_entries _ (entry_of f q) (table.places (entry_of f p)) (ltb-false (entry_of f q) max_entries e)

  -- So among the opposing processors only the known ones matter.
  unopposed_same : {P Q : ℕ → Bool} {x y : ℕ} (c : ℕ) → ((q : ℕ) → has_row f q ≡ true → P q ≡ Q q)
      → Mask max_processors P x → Mask max_processors Q y
      → unopposed_in f c x ≡ unopposed_in f c y
  unopposed_same {P} {Q} {x} {y} c same mx my =
      mask_agree max_processors _ _ (λ p l. ap (λ t. bit c p && not t)
      (some_agree max_processors _ _ (λ q m. at p q m (has_row f q) refl)))
    where
      at : (p q : ℕ) → q < max_processors → (t : Bool) → has_row f q ≡ t → (bit x q && conflicts f p q)
          ≡ (bit y q && conflicts f p q)
      at p q m true e = ap (λ t. t && conflicts f p q) (bit_is mx q m ∙ same q e ∙ sym (bit_is my q m))
      at p q m false e =
          let none = unknown_opposes_none p q e in
          ap (λ t. bit x q && t) none ∙ and-false (bit x q) ∙ sym (ap (λ t. bit y q && t) none ∙ and-false (bit y q))

unopposed_of : (f : Facts) {P : ℕ → Bool} {c : ℕ} (o : ℕ) → Mask max_processors P c
    → Mask max_processors (λ p. P p && not (against f p (bit o))) (unopposed_in f c o)
unopposed_of f o m =
    record { is = mask_agree max_processors _ _ (λ p l. ap (λ t. t && not (against f p (bit o))) (bit_is m p l)) }

-- ---- the masks of each step, with the known reads in place of the reads

clauses1_unknown : (e x a b : Bool)
    → ((x || e) && true || (e && false || x && false && not a) && not b) ≡ ((e && true || x && true && true) && true)
clauses1_unknown true true a b = refl
clauses1_unknown true false a b = refl
clauses1_unknown false true a b = refl
clauses1_unknown false false a b = refl

clauses1 : (e x k w a b : Bool) → (k ≡ false → (w ≡ false) × (a ≡ false) × (b ≡ false))
    → ((x || e) && not k || (e && (k && not w) || x && (k && not w) && not a) && not b)
    ≡ ((e && not w || x && not w && not a) && not b)
clauses1 e x true w a b h = ap (λ t. t || (e && not w || x && not w && not a) && not b) (and-false (x || e))
clauses1 e x false w a b h =
    clauses1_unknown e x a b
    ∙ sym (λ i. (e && not ((h refl).0 i) || x && not ((h refl).0 i) && not ((h refl).1 i)) && not ((h refl).2 i))

clauses4 : (x k w a b : Bool) → (k ≡ false → a ≡ false)
    → (x && (k && not w) && not (x && (k && not w) && not a) && not b)
    ≡ (x && not w && not (x && not w && not a) && not b)
clauses4 true true w a b h = refl
clauses4 true false true a b h = refl
clauses4 true false false a b h = sym (ap (λ t. not (not t) && not b) (h refl))
clauses4 false k w a b h = refl

module _ (f : Facts) (table : Table f.rows) {W : ℕ → Bool} {k w : ℕ} (all : k ≡ known_in f.requested)
    (writes : Mask max_processors W w)
    (none : (p : ℕ) → has_row f p ≡ false → W p ≡ false) where
  known_reads : {P : ℕ → Bool} {a : ℕ} → Mask max_processors P a
      → Mask max_processors (λ p. P p && (has_row f p && not (W p))) (bit_and a (without 32 k w))
  known_reads m = and_is m (without_is {P = has_row f} 32 fit (record { is = all }) writes)

  reads : {P : ℕ → Bool} {a : ℕ} → Mask max_processors P a → Mask max_processors (λ p. P p && not (W p)) (without 32 a w)
  reads m = without_is 32 fit m writes

  pub known1 : {P Q : ℕ → Bool} {x e o g : ℕ} (u v : ℕ) → Mask max_processors Q x → Mask max_processors P e
      → o ≡ unopposed_in f (bit_and x (without 32 k w)) u → g ≡ unopposed_in f (bit_or (bit_and e (without 32 k w)) o) v
      → bit_or (without 32 (bit_or x e) k) g ≡ unopposed_in f (bit_or (without 32 e w) (unopposed_in f (without 32 x w) u)) v
  known1 {P} {Q} {x} {e} u v mx me eo eg =
      ap (bit_or (without 32 (bit_or x e) k))
      (eg ∙ ap (λ (o : ℕ). unopposed_in f (bit_or (bit_and e (without 32 k w)) o) v) eo)
      ∙ same_is
      (agree_is
      (λ p l. clauses1 (P p) (Q p) (has_row f p) (W p) (against f p (bit u)) (against f p (bit v))
      (λ n. (none p n, unknown_against f table p (bit u) n, unknown_against f table p (bit v) n)))
      (or_is (without_is {Q = has_row f} 32 fit (or_is mx me) (record { is = all }))
      (unopposed_of f v (or_is (known_reads me) (unopposed_of f u (known_reads mx))))))
      (unopposed_of f v (or_is (reads me) (unopposed_of f u (reads mx))))

  pub known2 : {P Q : ℕ → Bool} {b e : ℕ} (c : ℕ) → Mask max_processors Q b → Mask max_processors P e
      → unopposed_in f c (bit_or b (bit_and e (without 32 k w))) ≡ unopposed_in f c (bit_or b (without 32 e w))
  known2 {P} {Q} c mb m =
      unopposed_same f table c (λ q n. ap (λ t. Q q || P q && (t && not (W q))) n) (or_is mb (known_reads m))
      (or_is mb (reads m))

  pub known3 : {P : ℕ → Bool} {h : ℕ} (c : ℕ) → Mask max_processors P h → unopposed_in f c (bit_and h (without 32 k w))
      ≡ unopposed_in f c (without 32 h w)
  known3 {P} c m = unopposed_same f table c (λ q n. ap (λ t. P q && (t && not (W q))) n) (known_reads m) (reads m)

  pub known4 : {P : ℕ → Bool} {x : ℕ} (o b : ℕ) → Mask max_processors P x
      → unopposed_in f (without 32 (bit_and x (without 32 k w)) (unopposed_in f (bit_and x (without 32 k w)) o)) b
      ≡ unopposed_in f (without 32 (without 32 x w) (unopposed_in f (without 32 x w) o)) b
  known4 {P} o b m =
      same_is
      (agree_is
      (λ p l. clauses4 (P p) (has_row f p) (W p) (against f p (bit o)) (against f p (bit b))
      (unknown_against f table p (bit o)))
      (unopposed_of f b (without_is 32 fit (known_reads m) (unopposed_of f o (known_reads m)))))
      (unopposed_of f b (without_is 32 fit (reads m) (unopposed_of f o (reads m))))
