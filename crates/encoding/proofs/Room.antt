-- What the tests for bytes and for room mean in numbers, and the answer of a write with room and without.
-- Assumes nothing.
use Prim.Native.Nat.{ℕ, ◌+◌, ◌-◌, ◌≤◌}
use native.Mathlib.Omega.{arith}
use mathlib.Core.Path.{◌≡◌, refl, sym, ◌∙◌}
use mathlib.Core.Bool.{true, false}
use mathlib.Core.List.{List}
use lib.Dec.{leb, lit<}
use lib.ListN.{length}
use lib.Seq.{sets}
use borrow.Author.Tests.{leb-true, le-leb}
use Rattle.masks.proofs.Truth.{and_left, and_right}
use Rattle.refusals.proofs.Numbers.{due_accepted}
use Rattle.refusals.specs.Due.{as_numbers}
use Rattle.encoding.specs.Buffers.{short_fault, has_room, room_fault, buffer_after}
use Rattle.encoding.proofs.Stores.{sets_overwritten}

-- ---- bytes that do not end early

pub enough_at : (n : ℕ) (s : List ℕ) → n ≤ length s → short_fault n s ≡ 0
enough_at n s h = rw (le-leb n (length s) h)

pub enough_length : (n : ℕ) (s : List ℕ) → short_fault n s ≡ 0 → n ≤ length s
enough_length n s e = leb-true n (length s) (due_accepted (leb n (length s)) 1 (lit< tt) e)

-- ---- room

pub there_is_room : (needed size at : ℕ) → has_room needed size at ≡ true → at + needed ≤ size
there_is_room needed size at test =
    let reached : at ≤ size = leb-true _ _ (and_left (leb at size) (leb needed (size - at)) test) in
    let enough : needed ≤ size - at = leb-true _ _ (and_right (leb at size) (leb needed (size - at)) test) in
    omega arith

pub room_fits : (needed size at : ℕ) → room_fault needed size at ≡ 0 → at + needed ≤ size
room_fits needed size at e = there_is_room needed size at (due_accepted (has_room needed size at) 16 (lit< tt) e)

-- If the bytes fit, no refusal is due.
pub fits_room : (needed size at : ℕ) → at + needed ≤ size → room_fault needed size at ≡ 0
fits_room needed size at h =
    let reached : at ≤ size = omega arith in
    let enough : needed ≤ size - at = omega arith in
    rw (le-leb at size reached, le-leb needed (size - at) enough)

-- Bytes that fit are stored.
pub stored_where_fits : (l : List ℕ) (at : ℕ) (new : List ℕ) (n : ℕ) → length new ≡ n → at + n ≤ length l
    → buffer_after (room_fault n (length l) at) new l at ≡ sets l at new
stored_where_fits l at new n size h =
    let fits : at + length new ≤ length l = omega arith in
    rw (fits_room n (length l) at h) (sym (sets_overwritten l at new fits))

-- With room and without: the answer, and the content of the buffer.
module _ (needed at : ℕ) (l new : List ℕ) where
  pub with_room : length new ≡ needed → has_room needed (length l) at ≡ true → (after : List ℕ) → after ≡ sets l at new
      → (as_numbers 0 needed ≡ as_numbers (room_fault needed (length l) at) needed)
      × (after ≡ buffer_after (room_fault needed (length l) at) new l at)
  with_room h e after stored =
      let fits : at + length new ≤ length l = omega (arith, there_is_room needed (length l) at e) in
      rw e (refl, stored ∙ sets_overwritten l at new fits)

  pub without_room : has_room needed (length l) at ≡ false
      → (as_numbers 16 needed ≡ as_numbers (room_fault needed (length l) at) needed)
      × (l ≡ buffer_after (room_fault needed (length l) at) new l at)
  without_room e = rw e (refl, refl)
