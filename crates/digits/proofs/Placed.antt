-- Fields stored one after the other, if there is room for them. Assumes nothing.
use Prim.Native.Nat.{ℕ, ◌+◌, ◌≤◌}
use native.Mathlib.Omega.{arith}
use mathlib.Core.Path.{◌≡◌, refl, sym, ◌∙◌}
use mathlib.Core.Bool.{Bool, true, false}
use mathlib.Core.List.{List, [], ◌∷◌, ◌++◌}
use lib.Dec.{lit<}
use lib.ListN.{length, set, length-append}
use lib.Seq.{sets, length-sets}
use Rattle.refusals.proofs.Numbers.{due_accepted}
use Rattle.encoding.specs.Buffers.{has_room}
use Rattle.encoding.proofs.Room.{there_is_room, fits_room}
use Rattle.encoding.proofs.Stores.{sets_append, sets_overwritten}
use Rattle.digits.specs.Placed.{placed_size, placed_buffer, field_size, field_buffer}
use Rattle.digits.specs.inner.Stored.{Stored}

pub one_stored : (l : List ℕ) (at x : ℕ) → Stored (x ∷ []) l at (at + 1) (set l at x)
one_stored l at x = record { place = refl; stores = refl }

module _ {a b l m k : List ℕ} {at next end : ℕ} where
  -- One run of stores after another.
  pub then_stored : Stored a l at next m → Stored b m next end k → Stored (a ++ b) l at end k
  then_stored s t =
      let p : next ≡ at + length a = s.place in
      let q : end ≡ next + length b = t.place in
      record {
        place = simp length-append (omega arith);
        stores = t.stores ∙ rw (s.stores, p) (sym (sets_append l at a b));
      }

module _ (bytes buffer : List ℕ) (at needed : ℕ) (within : length bytes ≤ needed) where
  -- The stores after the test for room, and the unchanged buffer without room.
  module _ (tested : ℕ) (same : tested ≡ needed) (flag : Bool) (test : flag ≡ has_room tested (length buffer) at) where
    asked : flag ≡ has_room needed (length buffer) at
    asked = rw same at test

    pub placed : (size : ℕ) {next : ℕ} {after : List ℕ} → flag ≡ true → size ≡ length bytes
        → Stored bytes buffer at next after
        → (size ≡ placed_size needed bytes (length buffer) at) × (after ≡ placed_buffer needed bytes buffer at)
    placed size taken e s =
        let yes : has_room needed (length buffer) at ≡ true = sym asked ∙ taken in
        let fits : at + length bytes ≤ length buffer = omega (arith, there_is_room needed (length buffer) at yes) in
        rw yes (e, s.stores ∙ sets_overwritten buffer at bytes fits)

    pub not_placed : flag ≡ false → (◌≡◌ {A = ℕ} 0 (placed_size needed bytes (length buffer) at))
        × (buffer ≡ placed_buffer needed bytes buffer at)
    not_placed left = rw (sym asked ∙ left) (refl, refl)

  -- What fits is stored.
  module _ (fits : at + needed ≤ length buffer) {size : ℕ} (e : size ≡ placed_size needed bytes (length buffer) at) where
    room_is_there : has_room needed (length buffer) at ≡ true
    room_is_there = due_accepted (has_room needed (length buffer) at) 16 (lit< tt) (fits_room needed (length buffer) at fits)

    pub all_placed : size ≡ length bytes
    all_placed = e ∙ rw room_is_there refl

    pub placed_stored : {after : List ℕ} → after ≡ placed_buffer needed bytes buffer at
        → Stored bytes buffer at (at + size) after
    placed_stored p =
        let inside : at + length bytes ≤ length buffer = omega arith in
        record {
          place = rw all_placed refl;
          stores = p ∙ rw room_is_there (sym (sets_overwritten buffer at bytes inside));
        }

-- The same for a single field.
module _ (bytes buffer : List ℕ) (at tested : ℕ) (same : tested ≡ length bytes) (flag : Bool)
    (test : flag ≡ has_room tested (length buffer) at) where
  pub field_placed : {next : ℕ} {after : List ℕ} → flag ≡ true → Stored bytes buffer at next after
      → (tested ≡ field_size bytes (length buffer) at) × (after ≡ field_buffer bytes buffer at)
  field_placed taken s = placed bytes buffer at (length bytes) (omega arith) tested same flag test tested taken same s

  pub field_not_placed : flag ≡ false → (◌≡◌ {A = ℕ} 0 (field_size bytes (length buffer) at))
      × (buffer ≡ field_buffer bytes buffer at)
  field_not_placed left = not_placed bytes buffer at (length bytes) (omega arith) tested same flag test left

pub field_stored : (bytes buffer : List ℕ) (at : ℕ) → at + length bytes ≤ length buffer → {size : ℕ} {after : List ℕ}
    → size ≡ field_size bytes (length buffer) at → after ≡ field_buffer bytes buffer at
    → Stored bytes buffer at (at + size) after
field_stored bytes buffer at fits e p = placed_stored bytes buffer at (length bytes) (omega arith) fits e p

pub stored_length : {bytes l m : List ℕ} {at next : ℕ} → Stored bytes l at next m → length m ≡ length l
stored_length {bytes} {l} {m} {at} s = rw s.stores (length-sets l at bytes)

-- Two fields, one after the other, if both fit.
pub fields_stored : (a b l : List ℕ) (at : ℕ) → at + length (a ++ b) ≤ length l → {n k : ℕ} {m r : List ℕ}
    → n ≡ field_size a (length l) at → m ≡ field_buffer a l at → k ≡ field_size b (length m) (at + n) → r
    ≡ field_buffer b m (at + n)
    → Stored (a ++ b) l at (at + n + k) r
fields_stored a b l at fits {n} {k} {m} {r} en em ek er =
    let first : Stored a l at (at + n) m = field_stored a l at (omega (arith, length-append a b)) en em in
    let inside : at + n + length b ≤ length m = omega (arith, first.place, stored_length first, length-append a b) in
    then_stored first (field_stored b m (at + n) inside ek er)

-- Three fields, one after the other, if all fit.
module _ (a b c l : List ℕ) (at : ℕ) (fits : at + length (a ++ (b ++ c)) ≤ length l) where
  first_fits : at + length a + (length b + length c) ≤ length l
  first_fits = omega (arith, length-append a (b ++ c), length-append b c)

  module _ {n : ℕ} (en : n ≡ field_size a (length l) at) where
    pub first_end : at + n + (length b + length c) ≤ length l
    first_end = omega (arith, first_fits, all_placed a l at (length a) (omega arith) (omega (arith, first_fits)) en)

    module _ {m : List ℕ} (em : m ≡ field_buffer a l at) {k : ℕ} (ek : k ≡ field_size b (length m) (at + n)) where
      first_stored : Stored a l at (at + n) m
      first_stored = field_stored a l at (omega (arith, first_fits)) en em

      second_fits : at + n + length b + length c ≤ length m
      second_fits = omega (arith, first_end, stored_length first_stored)

      pub second_end : at + n + k + length c ≤ length l
      second_end =
          omega (arith, first_end, all_placed b m (at + n) (length b) (omega arith) (omega (arith, second_fits)) ek)

      module _ {o : List ℕ} (eo : o ≡ field_buffer b m (at + n)) where
        second_stored : Stored b m (at + n) (at + n + k) o
        second_stored = field_stored b m (at + n) (omega (arith, second_fits)) ek eo

        pub third_fits : at + n + k + length c ≤ length o
        third_fits = omega (arith, second_end, stored_length first_stored, stored_length second_stored)

        pub then_third : {r : List ℕ} → r ≡ sets o (at + n + k) c → r ≡ sets l at (a ++ (b ++ c))
        then_third {r} er =
            let third : Stored c o (at + n + k) (at + n + k + length c) r = record { place = refl; stores = er } in
            (then_stored first_stored (then_stored second_stored third)).stores

        pub three_stored : {r : List ℕ} {j : ℕ} → j ≡ field_size c (length o) (at + n + k) → r
            ≡ field_buffer c o (at + n + k) → r ≡ sets l at (a ++ (b ++ c))
        three_stored ej er = then_third (field_stored c o (at + n + k) third_fits ej er).stores
