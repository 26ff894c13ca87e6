-- A request that enters while no other is active holds, read or write. Assumes nothing.
use mathlib.Core.Path.{◌≡◌, refl, sym, ap, ap₂, ◌∙◌}
use mathlib.Core.Bool.{Bool, true, false, not, ◌&&◌, and-true}
use Prim.Native.Nat.{ℕ, ◌^◌, ◌<◌}
use lib.Bits.{and_self, or_zero_l, or_zero_r}
use lib.Dec.{eqb}
use lib.ListN.{get_or}
use lib.Pow.{pow_pos, pow-lt}
use borrow.Author.Tests.{eqb-true}
use Rattle.masks.specs.Sets.{bit, without, mask_of}
use Rattle.masks.proofs.Places.{bit_zero, bit_single}
use Rattle.masks.proofs.Some.{some_none}
use Rattle.masks.proofs.Tests.{agree_is, same_is, own_is, none_is, one_is, without_is}
use Rattle.plans.specs.Entries.{max_processors}
use Rattle.rules.specs.Requests.{Facts, is_writer, is_earlier, conflicts, against}
use Rattle.rules.specs.Settling.{settled}
use Rattle.rules.specs.inner.Moves.{Follows, unopposed_in, first_in_line}
use Rattle.rules.specs.declared.states.Phases.{Phases}
use Rattle.rules.proofs.FourSteps.{fit, At, at_first, after1, after2, after3, after4, at_last}
use Rattle.rules.proofs.Quiet.{none_unopposed, none_first}

abbrev alone_waiting : ℕ → Phases
alone_waiting p = record { waiting = 2 ^ p; entitled = 0; holding = 0 }

abbrev pub alone_holding : ℕ → Phases
alone_holding p = record { waiting = 0; entitled = 0; holding = 2 ^ p }

-- ---- no conflict with anybody

no_opponent : (f : Facts) (p : ℕ) (test : ℕ → Bool) → ((q : ℕ) → test q ≡ false) → against f p test ≡ false
no_opponent f p test none = some_none max_processors _ (λ q l. ap (λ t. t && conflicts f p q) (none q))

-- A test of processor p alone keeps p if p passes it.
kept_alone : (p : ℕ) (T : ℕ → Bool) → p < max_processors → T p ≡ true → 2 ^ p
    ≡ mask_of max_processors (λ k. bit (2 ^ p) k && T k)
kept_alone p T l yes' = (agree_is (λ k m. at k (eqb k p) refl) (one_is max_processors p l)).is
  where
    at : (k : ℕ) (t : Bool) → eqb k p ≡ t → eqb k p ≡ (bit (2 ^ p) k && T k)
    at k true e = e ∙ sym (ap₂ ◌&&◌ (bit_single p k ∙ e) (ap T (eqb-true k p e) ∙ yes'))
    at k false e = e ∙ ap (λ t. t && T k) (sym (bit_single p k ∙ e))

-- It keeps nobody if p fails it.
left_alone : (p : ℕ) (T : ℕ → Bool) → p < max_processors → T p ≡ false → 0
    ≡ mask_of max_processors (λ k. bit (2 ^ p) k && T k)
left_alone p T l no' = (agree_is (λ k m. at k (eqb k p) refl) (none_is max_processors)).is
  where
    at : (k : ℕ) (t : Bool) → eqb k p ≡ t → false ≡ (bit (2 ^ p) k && T k)
    at k true e = sym (ap₂ ◌&&◌ (bit_single p k ∙ e) (ap T (eqb-true k p e) ∙ no'))
    at k false e = sym (ap (λ t. t && T k) (bit_single p k ∙ e))

-- Removing nothing from a mask leaves the mask.
kept : (p : ℕ) → p < max_processors → without 32 (2 ^ p) 0 ≡ 2 ^ p
kept p l = same_is (agree_is (λ k m. and-true (eqb k p))
    (without_is 32 fit (one_is max_processors p l) (none_is max_processors))) (one_is max_processors p l)

-- Removing a mask from itself leaves nothing.
gone : (p : ℕ) → p < max_processors → without 32 (2 ^ p) (2 ^ p) ≡ 0
gone p l = same_is (agree_is (λ k m. never (eqb k p))
    (without_is 32 fit (one_is max_processors p l) (one_is max_processors p l))) (none_is max_processors)
  where
    never : (t : Bool) → (t && not t) ≡ false
    never true = refl
    never false = refl

-- ---- a request alone

-- A request that waits alone, in the masks that the code has reached.
module _ (f : Facts) (ph : Phases) (p : ℕ) (l : p < max_processors) where
  all : (c : ℕ) → c ≡ 2 ^ p → 2 ^ p ≡ unopposed_in f c 0
  all c e =
      kept_alone p _ l (ap not (no_opponent f p (bit 0) bit_zero)) ∙ ap (λ (c : ℕ). unopposed_in f c 0) (sym e)

  write_alone : is_writer f p ≡ true → get_or f.earlier p 0 ≡ 0 → Follows ph (2 ^ p) 0 0 → alone_holding p ≡ settled f ph
  unfolding settled
  write_alone write first given =
      let none = none_unopposed f in
      let zero : At f ph (2 ^ p) (2 ^ p) 0 0 = at_first given
      (rw (or_zero_r, or_zero_r) (kept_alone p (is_writer f) l write)) in
      let one = rw (kept p l) at (after1 zero (rw (gone p l) (none _)) (none _)) in
      let two = rw (gone p l, or_zero_l (2 ^ p)) at (after2 one (all _ (and_self (2 ^ p))) (next _)) in
      let three = rw (gone p l, or_zero_l (2 ^ p)) at (after3 two (all _ (and_self (2 ^ p)))) in
      at_last ph (alone_holding p) (after4 three (none _) (none _))
    where
      next : (others : ℕ) → 2 ^ p ≡ first_in_line f (2 ^ p) others
      next others =
          kept_alone p _ l
          (ap not (no_opponent f p (λ q. is_earlier f q p && bit others q)
          (λ q. ap (λ t. t && bit others q) (ap (λ (x : ℕ). bit x q) first ∙ bit_zero q))))

  read_alone : is_writer f p ≡ false → Follows ph (2 ^ p) 0 0 → alone_holding p ≡ settled f ph
  unfolding settled
  read_alone read given =
      let none = none_unopposed f in
      let zero : At f ph 0 (2 ^ p) 0 0 = at_first given
      (rw (or_zero_r, or_zero_r) (left_alone p (is_writer f) l read)) in
      let one = rw (gone p l, or_zero_l (2 ^ p)) at (after1 zero (all _ (kept p l)) (all _ (or_zero_l (2 ^ p)))) in
      let two = after2 one (none _) (none_first f _) in
      let three = rw or_zero_r at (after3 two (none _)) in
      at_last ph (alone_holding p) (after4 three (none _) (none _))

module _ (f : Facts) (p : ℕ) (l : p < max_processors) where
  alone_follows : Follows (alone_waiting p) (2 ^ p) 0 0
  alone_follows =
      record {
        waits = (own_is max_processors (2 ^ p) (pow-lt l)).is;
        entitles = (own_is max_processors 0 (pow_pos max_processors)).is;
        holds = (own_is max_processors 0 (pow_pos max_processors)).is;
      }

  alone : get_or f.earlier p 0 ≡ 0 → (t : Bool) → is_writer f p ≡ t → alone_holding p ≡ settled f (alone_waiting p)
  alone first true e = write_alone f (alone_waiting p) p l e first alone_follows
  alone first false e = read_alone f (alone_waiting p) p l e alone_follows

  pub alone_holds : (ph : Phases) → ph.waiting ≡ 2 ^ p → ph.entitled ≡ 0 → ph.holding ≡ 0 → get_or f.earlier p 0 ≡ 0
      → alone_holding p ≡ settled f ph
  alone_holds ph waits none nobody first =
      let same : alone_waiting p ≡ ph = λ i. record
      { waiting = sym waits i; entitled = sym none i; holding = sym nobody i } in
      alone first (is_writer f p) refl ∙ ap (settled f) same
