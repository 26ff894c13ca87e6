-- A line is written into the buffer if it fits, and nothing is written if it does not. Assumes nothing.
use Rattle.std.specs.Prelude.{Ok, Err}
use Prim.Native.Nat.{ℕ, ◌+◌, ◌≤◌}
use native.Mathlib.Omega.{arith}
use mathlib.Core.Path.{◌≡◌, refl, sym, ◌∙◌}
use mathlib.Core.Bool.{Bool, true, false}
use mathlib.Core.List.{List, ◌++◌}
use lib.ListN.{length, length-append}
use Rattle.refusals.specs.declared.Refusal.{Refusal}
use Rattle.refusals.specs.Due.{as_numbers}
use Rattle.encoding.specs.Buffers.{has_room, overwritten, outcome_as_numbers}
use Rattle.encoding.proofs.Room.{with_room, without_room, fits_room, there_is_room}
use Rattle.listings.specs.PlainLines.{line_as_numbers, line_buffer}
use Rattle.digits.specs.Placed.{placed_size, placed_buffer, field_size, field_buffer}
use Rattle.digits.specs.inner.Stored.{Stored}
use Rattle.digits.proofs.Placed.{all_placed, placed_stored, then_stored, stored_length}
use Rattle.digits.proofs.Begun.{not_begun, begun}

module _ (bytes buffer : List ℕ) (at needed : ℕ) (flag : Bool) (size : needed ≡ length bytes)
    (test : flag ≡ has_room needed (length buffer) at) where
  fits : flag ≡ has_room (length bytes) (length buffer) at
  fits = rw size at test

  pub no_room : flag ≡ false
      → (outcome_as_numbers (Err Refusal.Room) ≡ line_as_numbers bytes (length buffer) at)
      × (buffer ≡ line_buffer bytes buffer at)
  no_room left = without_room (length bytes) at buffer bytes (sym fits ∙ left)

  pub room : (next : ℕ) (after : List ℕ) → flag ≡ true → Stored bytes buffer at next after
      → (outcome_as_numbers (Ok needed) ≡ line_as_numbers bytes (length buffer) at)
      × (after ≡ line_buffer bytes buffer at)
  room next after taken s = rw size (with_room (length bytes) at buffer bytes refl (sym fits ∙ taken) after s.stores)

-- The lead of a line is stored only if the whole line has room.
module _ (lead tail buffer : List ℕ) (at more led : ℕ) (some : 1 ≤ length lead) (rest : more ≡ length tail)
    (size : led ≡ placed_size (length lead + more) lead (length buffer) at) where
  whole : length lead + more ≡ length (lead ++ tail)
  whole = simp length-append (omega arith)

  pub no_line : led ≡ 0 → (b : List ℕ) → b ≡ placed_buffer (length lead + more) lead buffer at
      → (outcome_as_numbers (Err Refusal.Room) ≡ line_as_numbers (lead ++ tail) (length buffer) at)
      × (b ≡ line_buffer (lead ++ tail) buffer at)
  no_line none b put =
      let full = not_begun lead (length buffer) at (length lead + more) some size none in
      let stays : b ≡ buffer = put ∙ rw full refl in
      let none_written = no_room (lead ++ tail) buffer at (length lead + more) _ whole refl full in
      (none_written.0, stays ∙ none_written.1)

  module _ (h : led ≡ 0 → ⊥) where
    room_is_there : has_room (length lead + more) (length buffer) at ≡ true
    room_is_there = begun lead (length buffer) at (length lead + more) some size h

    pub line_fits : at + (length lead + more) ≤ length buffer
    line_fits = there_is_room (length lead + more) (length buffer) at room_is_there

    pub led_all : led ≡ length lead
    led_all = all_placed lead buffer at (length lead + more) (omega arith) line_fits size

    module _ (b : List ℕ) (put : b ≡ placed_buffer (length lead + more) lead buffer at) where
      lead_stored : Stored lead buffer at (at + led) b
      lead_stored = placed_stored lead buffer at (length lead + more) (omega arith) line_fits size put

      -- The rest of the line has room after the lead.
      pub rest_fits : at + led + length tail ≤ length b
      rest_fits = omega (arith, line_fits, led_all, rest, stored_length lead_stored)

      pub whole_line : (next : ℕ) (after : List ℕ) → Stored tail b (at + led) next after
          → (outcome_as_numbers (Ok (led + more)) ≡ line_as_numbers (lead ++ tail) (length buffer) at)
          × (after ≡ line_buffer (lead ++ tail) buffer at)
      whole_line next after s =
          rw led_all
          (room (lead ++ tail) buffer at (length lead + more) _ whole refl next after room_is_there
          (then_stored lead_stored s))

-- A line of one field.
module _ (line buffer after : List ℕ) (at size : ℕ) (some : 1 ≤ length line)
    (e : size ≡ field_size line (length buffer) at)
    (put : after ≡ field_buffer line buffer at) where
  pub no_field_line : size ≡ 0
      → (outcome_as_numbers (Err Refusal.Room) ≡ line_as_numbers line (length buffer) at)
      × (after ≡ line_buffer line buffer at)
  no_field_line none = (
    (no_room line buffer at (length line) _ refl refl
        (not_begun line (length buffer) at (length line) some e none)).0,
    put,
  )

  pub field_line : (size ≡ 0 → ⊥)
      → (outcome_as_numbers (Ok size) ≡ line_as_numbers line (length buffer) at)
      × (after ≡ line_buffer line buffer at)
  field_line more =
      let yes = begun line (length buffer) at (length line) some e more in
      (rw (e, yes) refl, put)

-- A line that fits is written.
module _ (bytes buffer : List ℕ) (at : ℕ) (h : at + length bytes ≤ length buffer) where
  pub fitting_line : line_as_numbers bytes (length buffer) at ≡ as_numbers 0 (length bytes)
  fitting_line = rw (fits_room (length bytes) (length buffer) at h)

  pub fitting_buffer : line_buffer bytes buffer at ≡ overwritten buffer at bytes
  fitting_buffer = rw (fits_room (length bytes) (length buffer) at h)
