-- Writing a number as bytes, low byte first, and reading it are inverse to each other. Assumes nothing.
use Prim.Native.Nat.{ℕ, zero, suc, ◌+◌, ◌*◌, ◌/◌, ◌%◌, ◌^◌, ◌≤◌, ◌<◌}
use native.Mathlib.Nat.{pow-succ'}
use native.Mathlib.Omega.{arith}
use mathlib.Core.Path.{◌≡◌, refl, ap}
use mathlib.Core.List.{List, [], ◌∷◌}
use lib.ListN.{length, take, drop, length-take}
use lib.Seq.{slice, take_all}
use Rattle.encoding.specs.Numbers.{number, bytes_of}
use Rattle.encoding.proofs.Bytes.{AreBytes, bytes_tail, bytes_none, bytes_cons, take_drop_slice}

-- ---- a number, written and read

pub length_bytes_of : (n x : ℕ) → length (bytes_of n x) ≡ n
unfolding bytes_of
length_bytes_of zero x = refl
length_bytes_of (suc n) x = ap suc (length_bytes_of n (x / 256))

pub bytes_bytes_of : (n x : ℕ) → AreBytes (bytes_of n x)
unfolding bytes_of
bytes_bytes_of zero x = bytes_none
bytes_bytes_of (suc n) x = bytes_cons (x % 256) (bytes_of n (x / 256)) (omega arith) (bytes_bytes_of n (x / 256))

pub number_bytes_of : (n x : ℕ) → x < 256 ^ n → number (bytes_of n x) ≡ x
unfolding number bytes_of
number_bytes_of zero x h = omega arith
number_bytes_of (suc n) x h =
    let below : x / 256 < 256 ^ n = omega (arith, pow-succ' 256 n) in
    omega (arith, number_bytes_of n (x / 256) below)

-- ---- bytes, read as a number and written

pub bytes_of_number : (s : List ℕ) → AreBytes s → bytes_of (length s) (number s) ≡ s
unfolding number bytes_of
bytes_of_number [] h = refl
bytes_of_number (b ∷ s) h =
    let byte : b < 256 = h 0 (omega arith) in
    let low : (b + 256 * number s) % 256 ≡ b = omega arith in
    let high : (b + 256 * number s) / 256 ≡ number s = omega arith in
    rw (low, high, bytes_of_number s (bytes_tail b s h))

-- The same for a known length.
pub bytes_of_number_at : (n : ℕ) (s : List ℕ) → AreBytes s → length s ≡ n → bytes_of n (number s) ≡ s
bytes_of_number_at n s h e = rw (← e) (bytes_of_number s h)

pub number_below : (s : List ℕ) → AreBytes s → number s < 256 ^ length s
unfolding number
number_below [] h = omega arith
number_below (b ∷ s) h =
    let byte : b < 256 = h 0 (omega arith) in
    omega (arith, number_below s (bytes_tail b s h), pow-succ' 256 (length s))

pub number_below_at : (n : ℕ) (s : List ℕ) → AreBytes s → length s ≡ n → number s < 256 ^ n
number_below_at n s h e = rw (← e) (number_below s h)

-- ---- a part of at most eight bytes, as it is read

pub part_number : (a n : ℕ) (s : List ℕ) → n ≤ 8 → number (take 8 (take n (drop a s))) ≡ number (slice a (a + n) s)
part_number a n s few =
    rw (take_all 8 (take n (drop a s)) (omega (arith, length-take n (drop a s))), take_drop_slice a n s)
