-- Runs of stores into a list: in two parts, of the bytes of a number, and as overwriting. Assumes nothing.
use Prim.Native.Nat.{ℕ, suc, ◌+◌, ◌-◌, ◌/◌, ◌%◌, ◌≤◌, ◌<◌}
use native.Mathlib.Numerals.{add-one}
use native.Mathlib.Omega.{arith}
use mathlib.Core.Path.{◌≡◌, ◌∙◌}
use mathlib.Core.List.{List, [], ◌∷◌, ◌++◌, append_assoc, append-nil}
use lib.ListN.{length, take, drop, set, drop_of_length-le}
use lib.Seq.{sets, sets-eq}
use Rattle.encoding.specs.Numbers.{bytes_of}
use Rattle.encoding.specs.Buffers.{overwritten}

pub sets_append : (l : List ℕ) (i : ℕ) (a b : List ℕ) → sets l i (a ++ b) ≡ sets (sets l i a) (i + length a) b
sets_append l i [] b = let e : i + 0 ≡ i = omega arith in rw e
sets_append l i (x ∷ a) b =
    let e : i + suc (length a) ≡ suc i + length a = omega arith in
    rw e (sets_append (set l i x) (suc i) a b)

-- If there is room for them, stores overwrite a part of the list.
pub sets_overwritten : (l : List ℕ) (at : ℕ) (new : List ℕ) → at + length new ≤ length l → sets l at new
    ≡ overwritten l at new
sets_overwritten l at new h = sets-eq new l at h ∙ append_assoc (take at l) new (drop (at + length new) l)

-- A turn stores the lowest byte of the rest of a number.
pub number_turn : (l : List ℕ) (size i rest : ℕ) → i < size
    → sets (set l i (rest % 256)) (i + 1) (bytes_of (size - (i + 1)) (rest / 256)) ≡ sets l i (bytes_of (size - i) rest)
unfolding bytes_of
number_turn l size i rest h =
    let e : size - i ≡ suc (size - (i + 1)) = omega arith in
    rw (e, add-one i)

-- When no bytes of a number are left, there is nothing more to store.
pub number_end : (l : List ℕ) (size i rest : ℕ) → size ≤ i → sets l i (bytes_of (size - i) rest) ≡ l
unfolding bytes_of
number_end l size i rest h = let e : size - i ≡ 0 = omega arith in rw e

-- Stores into every place of a list leave what is stored.
pub all_stored : (l new : List ℕ) → length new ≡ length l → sets l 0 new ≡ new
all_stored l new e = sets-eq new l 0 (omega arith) ∙ rw (drop_of_length-le l {i = 0 + length new} (omega arith)) (append-nil new)
