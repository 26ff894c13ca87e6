-- Parts of one size, one after the other: their total length, one more part, the place of each part, and storing one
-- more part. Assumes nothing.
use Prim.Native.Nat.{ℕ, zero, suc, ◌+◌, ◌*◌, ◌≤◌, ◌<◌}
use mathlib.Core.Path.{◌≡◌, refl, sym, ap, ap₂, ◌∙◌}
use mathlib.Core.List.{List, ◌++◌}
use mathlib.Core.Logic.{⊎_elim}
use native.Mathlib.Nat.{le_refl, le_step, le_of_suc-le-suc, not-suc-le-zero, eq-or-lt_of_le, mul-le-mul_left}
use native.Mathlib.Numerals.{add-one}
use native.Mathlib.Omega.{arith}
use lib.ListN.{length, take, drop, length-append, length-drop}
use lib.Seq.{sets, length-sets, take-append-le, drop-append-le, take_all, drop_at}
use Rattle.encoding.specs.Buffers.{room_fault, buffer_after}
use Rattle.encoding.proofs.Room.{stored_where_fits}
use Rattle.encoding.proofs.Stores.{sets_append}
use Rattle.encoding.specs.InTurn.{in_turn}

pub in_turn_more : (n : ℕ) (f : ℕ → List ℕ) → in_turn (n + 1) f ≡ in_turn n f ++ f n
unfolding in_turn
in_turn_more n f = ap (λ (m : ℕ). in_turn m f) (add-one n)

pub in_turn_agree : (n : ℕ) (f g : ℕ → List ℕ) → ((p : ℕ) → p < n → f p ≡ g p) → in_turn n f ≡ in_turn n g
unfolding in_turn
in_turn_agree zero f g same = refl
in_turn_agree (suc n) f g same =
    ap₂ ◌++◌ (in_turn_agree n f g (λ p l. same p (le_step l))) (same n (le_refl (suc n)))

module _ (c : ℕ) (f : ℕ → List ℕ) (size : (p : ℕ) → length (f p) ≡ c) where
  pub length_in_turn : (n : ℕ) → length (in_turn n f) ≡ c * n
  unfolding in_turn
  length_in_turn zero = omega arith
  length_in_turn (suc n) = omega (arith, length-append (in_turn n f) (f n), length_in_turn n, size n)

  -- Part p is the c bytes from c * p on. It is the last part, or it is before the last.
  last_part : (n p : ℕ) → p ≡ n → take c (drop (c * p) (in_turn n f ++ f n)) ≡ f p
  last_part n p e =
      let here : c * p ≡ length (in_turn n f) = ap (λ (x : ℕ). c * x) e ∙ sym (length_in_turn n) in
      let whole : length (f n) ≤ c = omega (arith, size n) in
      ap (take c) (drop_at (in_turn n f) (f n) (c * p) (sym here)) ∙ take_all c (f n) whole ∙ ap f (sym e)

  part_before : (n p : ℕ) → p < n → take c (drop (c * p) (in_turn n f ++ f n)) ≡ take c (drop (c * p) (in_turn n f))
  part_before n p h =
      let more : c * p + c ≤ length (in_turn n f) = omega (arith, mul-le-mul_left c h, length_in_turn n) in
      let inside : c * p ≤ length (in_turn n f) = omega arith in
      let enough : c ≤ length (drop (c * p) (in_turn n f)) = omega (arith, length-drop (c * p) (in_turn n f)) in
      ap (take c) (drop-append-le (c * p) (in_turn n f) (f n) inside)
      ∙ take-append-le c (drop (c * p) (in_turn n f)) (f n) enough

  pub part_at : (n p : ℕ) → p < n → take c (drop (c * p) (in_turn n f)) ≡ f p
  unfolding in_turn
  part_at zero p l = absurd (not-suc-le-zero l)
  part_at (suc n) p l =
      ⊎_elim (last_part n p) (λ h. part_before n p h ∙ part_at n p h) (eq-or-lt_of_le (le_of_suc-le-suc l))

  -- A turn stores the next part, if the first part is at `at` and there is room for all m parts.
  pub turn_stores : (at m n : ℕ) (l now next : List ℕ) → n < m → at + c * m ≤ length l → length now ≡ length l
      → now ≡ sets l at (in_turn n f)
      → next ≡ buffer_after (room_fault c (length now) (at + c * n)) (f n) now (at + c * n)
      → (length next ≡ length l) × (next ≡ sets l at (in_turn (n + 1) f))
  turn_stores at m n l now next low room same so_far written =
      let fits : at + c * n + c ≤ length now = omega (arith, mul-le-mul_left c low) in
      let stored = written ∙ stored_where_fits now (at + c * n) (f n) c (size n) fits in
      let place : at + length (in_turn n f) ≡ at + c * n = ap (λ (x : ℕ). at + x) (length_in_turn n) in (
        ap length stored ∙ length-sets now (at + c * n) (f n) ∙ same,
        stored
            ∙ ap (λ x. sets x (at + c * n) (f n)) so_far
            ∙ ap (λ (x : ℕ). sets (sets l at (in_turn n f)) x (f n)) (sym place)
            ∙ sym (sets_append l at (in_turn n f) (f n))
            ∙ ap (sets l at) (sym (in_turn_more n f)),
      )
