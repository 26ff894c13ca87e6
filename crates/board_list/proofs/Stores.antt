-- The stores of the whole list, and of one more part. Assumes nothing.
use Prim.Native.Nat.{ℕ, ◌+◌, ◌*◌, ◌≤◌, ◌<◌}
use mathlib.Core.Path.{◌≡◌, sym, ap, ◌∙◌}
use mathlib.Core.List.{List, ◌∷◌}
use native.Mathlib.Nat.{mul-le-mul_left}
use native.Mathlib.Omega.{arith}
use lib.ListN.{length, set}
use lib.Seq.{sets}
use Rattle.encoding.specs.Buffers.{overwritten, buffer_after}
use Rattle.encoding.proofs.Room.{stored_where_fits}
use Rattle.encoding.proofs.Stores.{sets_overwritten}
use Rattle.board_list.specs.Sizes.{part_size, list_size}
use Rattle.encoding.specs.InTurn.{in_turn}
use Rattle.encoding.proofs.InTurn.{in_turn_agree, length_in_turn, turn_stores}
use Rattle.board_list.specs.Listing.{list_bytes, list_fault, list_buffer}

module _ (k : ℕ) (f : ℕ → List ℕ) (size : (p : ℕ) → length (f p) ≡ part_size k) (l : List ℕ) where
  -- If there is room for them, the count and all parts are the list.
  pub list_stores : (m : ℕ) → list_size k m ≤ length l → sets (set l 0 m) 1 (in_turn m f)
      ≡ overwritten l 0 (list_bytes m f)
  unfolding list_bytes
  list_stores m room =
      let whole : 0 + length (m ∷ in_turn m f) ≤ length l = omega (arith, length_in_turn (part_size k) f size m) in
      sets_overwritten l 0 (m ∷ in_turn m f) whole

-- One more part stored behind the others.
pub part_turn : (k m i : ℕ) (f : ℕ → List ℕ) → ((p : ℕ) → length (f p) ≡ part_size k) → (l now next : List ℕ) → i < m
    → list_size k m ≤ length l → length now ≡ length l → now ≡ sets l 1 (in_turn i f)
    → next ≡ sets now (1 + part_size k * i) (f i) → (length next ≡ length l) × (next ≡ sets l 1 (in_turn (i + 1) f))
part_turn k m i f size l now next low room same so_far stored =
    let fits : 1 + part_size k * i + part_size k ≤ length now = omega (arith, mul-le-mul_left (part_size k) low) in
    turn_stores (part_size k) f size 1 m i l now next low room same so_far
    (stored ∙ sym (stored_where_fits now (1 + part_size k * i) (f i) (part_size k) (size i) fits))

-- Lists with the same parts leave the same buffer.
pub list_agree : (k m : ℕ) (f g : ℕ → List ℕ) (l : List ℕ) → ((p : ℕ) → p < m → f p ≡ g p) → list_buffer k m f l
    ≡ list_buffer k m g l
unfolding list_bytes list_buffer
list_agree k m f g l same =
    ap (λ parts. buffer_after (list_fault k m l) (m ∷ parts) l 0) (in_turn_agree m f g same)
