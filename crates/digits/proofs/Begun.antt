-- A field is begun only if all of it fits: what the size of its first part implies, and both parts together.
-- Assumes nothing.
use Prim.Native.Nat.{ℕ, ◌+◌, ◌≤◌}
use native.Mathlib.Omega.{arith}
use mathlib.Core.Path.{◌≡◌, refl, sym, ◌∙◌}
use mathlib.Core.Bool.{Bool, true, false}
use mathlib.Core.List.{List, ◌++◌}
use lib.Dec.{lit<}
use lib.ListN.{length, length-append}
use Rattle.refusals.proofs.Numbers.{due_accepted}
use Rattle.encoding.specs.Buffers.{has_room}
use Rattle.encoding.proofs.Room.{there_is_room, fits_room}
use Rattle.digits.specs.Placed.{placed_size, placed_buffer}
use Rattle.digits.specs.inner.Stored.{Stored}
use Rattle.digits.proofs.Placed.{placed, not_placed, all_placed, placed_stored, then_stored, stored_length}

pub room_where_fits : (needed size at : ℕ) → at + needed ≤ size → has_room needed size at ≡ true
room_where_fits needed size at h =
    due_accepted (has_room needed size at) 16 (lit< tt) (fits_room needed size at h)

-- If there is no room for some bytes, there is none for bytes that end later.
pub less_room : (a b size at from : ℕ) → at + a ≤ from + b → has_room a size at ≡ false → has_room b size from ≡ false
less_room a b size at from h none = go (has_room b size from) refl
  where
    go : (t : Bool) → has_room b size from ≡ t → t ≡ false
    go false e = refl
    go true e =
        sym (room_where_fits a size at (omega (arith, there_is_room b size from e))) ∙ none

-- A field that is not empty was stored exactly if the size that is returned is not 0.
module _ (bytes : List ℕ) (size at needed : ℕ) (some : 1 ≤ length bytes) {told : ℕ}
    (e : told ≡ placed_size needed bytes size at) where
  pub not_begun : told ≡ 0 → has_room needed size at ≡ false
  not_begun none = go (has_room needed size at) refl
    where
      go : (t : Bool) → has_room needed size at ≡ t → t ≡ false
      go false h = refl
      go true h = absurd (let all : told ≡ length bytes = rw h at e in omega arith)

  pub begun : (told ≡ 0 → ⊥) → has_room needed size at ≡ true
  begun more = go (has_room needed size at) refl
    where
      go : (t : Bool) → has_room needed size at ≡ t → t ≡ true
      go true h = refl
      go false h = absurd (more (rw h at e))

-- A field in two parts. The first part is stored if both fit with the bytes after them.
module _ (first second buffer : List ℕ) (at behind more : ℕ) (some : 1 ≤ length first)
    (rest : behind ≡ length second + more)
    {told : ℕ} (e : told ≡ placed_size (length first + behind) first (length buffer) at)
    {part : List ℕ} (put : part ≡ placed_buffer (length first + behind) first buffer at) where
  whole : length first + behind ≡ length (first ++ second) + more
  whole = simp length-append (omega arith)

  pub nothing_placed : told ≡ 0
      → (◌≡◌ {A = ℕ} 0 (placed_size (length (first ++ second) + more) (first ++ second) (length buffer) at))
      × (part ≡ placed_buffer (length (first ++ second) + more) (first ++ second) buffer at)
  nothing_placed none =
      let full = not_begun first (length buffer) at (length first + behind) some e none in
      let neither = not_placed (first ++ second) buffer at (length (first ++ second) + more)
      (omega arith) _ whole _ refl full in
      (neither.0, put ∙ rw full neither.1)

  module _ (h : told ≡ 0 → ⊥) where
    first_room : has_room (length first + behind) (length buffer) at ≡ true
    first_room = begun first (length buffer) at (length first + behind) some e h

    both_fit : at + (length first + behind) ≤ length buffer
    both_fit = there_is_room (length first + behind) (length buffer) at first_room

    first_placed : Stored first buffer at (at + told) part
    first_placed = placed_stored first buffer at (length first + behind) (omega arith) both_fit e put

    pub second_fits : at + told + (length second + more) ≤ length part
    second_fits =
        omega (
          arith,
          both_fit,
          rest,
          all_placed first buffer at (length first + behind)
              (omega arith) both_fit e,
          stored_length first_placed,
        )

    pub both_placed : (size : ℕ) → size ≡ told + length second → {next : ℕ} {after : List ℕ}
        → Stored second part (at + told) next after
        → (size ≡ placed_size (length (first ++ second) + more) (first ++ second) (length buffer) at)
        × (after ≡ placed_buffer (length (first ++ second) + more) (first ++ second) buffer at)
    both_placed size same s =
        placed (first ++ second) buffer at (length (first ++ second) + more)
        (omega arith) _ whole _ refl size first_room
        (simp length-append (omega (
          arith,
          all_placed first buffer at (length first + behind)
              (omega arith) both_fit e,
        )))
        (then_stored first_placed s)
