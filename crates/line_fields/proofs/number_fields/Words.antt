-- The bytes of a word are stored one after the other, in front of the digits that are stored already. Assumes nothing.
use Prim.Native.Nat.{ℕ, ◌+◌, ◌≤◌}
use native.Mathlib.Omega.{arith}
use mathlib.Core.Bool.{false}
use mathlib.Core.Path.{◌≡◌, refl, ◌∙◌}
use mathlib.Core.List.{List, ◌++◌}
use lib.ListN.{length, length-append}
use lib.Seq.{sets}
use Rattle.encoding.specs.Buffers.{has_room}
use Rattle.encoding.proofs.Room.{there_is_room}
use Rattle.digits.specs.Placed.{placed_size, placed_buffer, field_size, field_buffer}
use Rattle.digits.specs.inner.Stored.{Stored}
use Rattle.digits.proofs.Placed.{placed, not_placed, all_placed, placed_stored, stored_length}
use Rattle.digits.proofs.Begun.{room_where_fits, less_room, not_begun, begun}
use Rattle.digits.proofs.Stores.{last_first}

-- A word and the digits after it, if both fit with `more` bytes.
module _ (word digits buffer : List ℕ) (at more : ℕ) where
  none_placed : has_room (length (word ++ digits) + more) (length buffer) at ≡ false
      → (◌≡◌ {A = ℕ} 0 (placed_size (length (word ++ digits) + more) (word ++ digits) (length buffer) at))
      × (buffer ≡ placed_buffer (length (word ++ digits) + more) (word ++ digits) buffer at)
  none_placed full =
      not_placed (word ++ digits) buffer at (length (word ++ digits) + more) (omega arith) _ refl _ refl full

  pub no_word : has_room (length word) (length buffer) at ≡ false
      → (◌≡◌ {A = ℕ} 0 (placed_size (length (word ++ digits) + more) (word ++ digits) (length buffer) at))
      × (buffer ≡ placed_buffer (length (word ++ digits) + more) (word ++ digits) buffer at)
  no_word full = none_placed (less_room _ _ (length buffer) at at (omega (arith, length-append word digits)) full)

  module _ (some : 1 ≤ length digits) {told : ℕ}
      (e : told ≡ placed_size (length digits + more) digits (length buffer) (at + length word))
      {part : List ℕ} (put : part ≡ placed_buffer (length digits + more) digits buffer (at + length word)) where
    pub no_digits : told ≡ 0
        → (◌≡◌ {A = ℕ} 0 (placed_size (length (word ++ digits) + more) (word ++ digits) (length buffer) at))
        × (part ≡ placed_buffer (length (word ++ digits) + more) (word ++ digits) buffer at)
    no_digits none =
        let full = not_begun digits (length buffer) (at + length word) (length digits + more) some e none in
        let neither = none_placed (less_room _ _ (length buffer) (at + length word) at
        (omega (arith, length-append word digits)) full) in
        (neither.0, put ∙ rw full neither.1)

    module _ (h : told ≡ 0 → ⊥) where
      pub all_fit : at + length word + (length digits + more) ≤ length buffer
      all_fit =
          there_is_room (length digits + more) (length buffer) (at + length word)
          (begun digits (length buffer) (at + length word) (length digits + more) some e h)

      digits_stored : Stored digits buffer (at + length word) (at + length word + told) part
      digits_stored =
          placed_stored digits buffer (at + length word) (length digits + more) (omega arith) all_fit e put

      pub told_all : told ≡ length digits
      told_all =
          all_placed digits buffer (at + length word) (length digits + more) (omega arith) all_fit e

      pub same_buffer : length part ≡ length buffer
      same_buffer = stored_length digits_stored

      pub word_placed : {after : List ℕ} → after ≡ sets part at word
          → (length word + told ≡ placed_size (length (word ++ digits) + more) (word ++ digits) (length buffer) at)
          × (after ≡ placed_buffer (length (word ++ digits) + more) (word ++ digits) buffer at)
      word_placed s =
          let yes = room_where_fits (length (word ++ digits) + more) (length buffer) at
          (omega (arith, all_fit, length-append word digits)) in
          placed (word ++ digits) buffer at (length (word ++ digits) + more) (omega arith) _ refl _ refl _ yes
          (omega (arith, told_all, length-append word digits))
          (record { place = refl; stores = s ∙ rw digits_stored.stores (last_first buffer at word digits) })

-- A field with nothing after it.
pub alone : (bytes buffer : List ℕ) (at : ℕ) {told : ℕ} {after : List ℕ}
    → (told ≡ placed_size (length bytes + 0) bytes (length buffer) at)
    × (after ≡ placed_buffer (length bytes + 0) bytes buffer at)
    → (told ≡ field_size bytes (length buffer) at) × (after ≡ field_buffer bytes buffer at)
alone bytes buffer at both = let none : length bytes + 0 ≡ length bytes = omega arith in rw none at both
