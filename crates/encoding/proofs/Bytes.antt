-- Lists of bytes, and parts of such a list. Assumes nothing.
use Prim.Native.Nat.{ℕ, zero, suc, ◌+◌, ◌^◌, ◌<◌}
use native.Mathlib.Nat.{zero-add, suc-add}
use native.Mathlib.Omega.{arith}
use mathlib.Core.Path.{◌≡◌}
use mathlib.Core.List.{List, [], ◌∷◌, ◌++◌}
use lib.ListN.{length, take, drop, get_or, length-take, length-drop}
use lib.Seq.{get_or-take, get_or-drop, take-nil, slice}

-- All elements are bytes, as in a slice of u8.
abbrev pub AreBytes : List ℕ → Type 0
AreBytes s = (i : ℕ) → i < length s → get_or s i 0 < 2 ^ 8

pub bytes_tail : (b : ℕ) (s : List ℕ) → AreBytes (b ∷ s) → AreBytes s
bytes_tail b s h i l = h (suc i) (omega arith)

pub bytes_none : AreBytes []
bytes_none i l = absurd (omega arith)

pub bytes_cons : (b : ℕ) (s : List ℕ) → b < 2 ^ 8 → AreBytes s → AreBytes (b ∷ s)
bytes_cons b s first h zero l = first
bytes_cons b s first h (suc i) l = h i (omega arith)

pub bytes_append : (s t : List ℕ) → AreBytes s → AreBytes t → AreBytes (s ++ t)
bytes_append [] t hs ht = ht
bytes_append (b ∷ s) t hs ht =
    bytes_cons b (s ++ t) (hs 0 (omega arith)) (bytes_append s t (bytes_tail b s hs) ht)

pub bytes_drop : (n : ℕ) (s : List ℕ) → AreBytes s → AreBytes (drop n s)
bytes_drop n s h i l = rw get_or-drop (h (n + i) (omega (arith, length-drop n s)))

pub bytes_take : (n : ℕ) (s : List ℕ) → AreBytes s → AreBytes (take n s)
bytes_take n s h i l =
    let inside : i < n = omega (arith, length-take n s) in
    rw get_or-take (h i (omega (arith, length-take n s)))

pub bytes_slice : (f t : ℕ) (s : List ℕ) → AreBytes s → AreBytes (slice f t s)
bytes_slice f t s h = bytes_drop f (take t s) (bytes_take t s h)

-- n bytes from a on, as the code slices them.
pub take_drop_slice : (a n : ℕ) (s : List ℕ) → take n (drop a s) ≡ slice a (a + n) s
take_drop_slice zero n s = rw zero-add
take_drop_slice (suc a) n [] = rw (take-nil n, take-nil (suc a + n))
take_drop_slice (suc a) n (b ∷ s) = rw suc-add (take_drop_slice a n s)
