-- Bits of a number in bytes, and lists whose elements are all known. Assumes nothing.
use Prim.Native.Nat.{ℕ, zero, suc, ◌+◌, ◌-◌, ◌*◌, ◌/◌, ◌%◌, ◌^◌, ◌≤◌, ◌<◌}
use mathlib.Core.Path.{◌≡◌, refl, sym, ap, ap₂, subst, ◌∙◌}
use mathlib.Core.Bool.{Bool, true, false}
use mathlib.Core.List.{List, [], ◌∷◌}
use native.Mathlib.Nat.{pow-suc, mul_comm, mul_assoc}
use native.Mathlib.Numerals.{one-add}
use native.Mathlib.Omega.{arith}
use lib.Dec.{eqb, ltb}
use lib.ListN.{length, get_or, take}
use lib.Pow.{shr-shr}
use lib.Seq.{slice, get_or-take, get_or-drop}
use borrow.Author.Tests.{ltb-true, ltb-false}
use Rattle.masks.specs.Sets.{bit}
use Rattle.masks.proofs.Places.{bit_zero}
use Rattle.encoding.specs.Numbers.{number}
use Rattle.encoding.proofs.Bytes.{AreBytes, bytes_tail}

-- ---- the bits of a number

-- The first w bits are those of the low part.
double : (w n : ℕ) → 2 ^ suc w * n ≡ 2 * (2 ^ w * n)
double w n =
    ap (λ (x : ℕ). x * n) (pow-suc 2 w ∙ mul_comm (2 ^ w) 2) ∙ mul_assoc 2 (2 ^ w) n

bit_half : (m p : ℕ) → bit m (suc p) ≡ bit (m / 2) p
unfolding bit
bit_half m p =
    ap (λ (x : ℕ). eqb (m / 2 ^ x % 2) 1) (sym (one-add p)) ∙ ap (λ (x : ℕ). eqb (x % 2) 1) (sym (shr-shr m 1 p))

bit_low : (w b n p : ℕ) → p < w → bit (b + 2 ^ w * n) p ≡ bit b p
unfolding bit
bit_low zero b n p few = absurd (omega arith)
bit_low (suc w) b n zero few =
    let e : (b + 2 ^ suc w * n) / 1 % 2 ≡ b / 1 % 2 = omega (arith, double w n) in
    ap (λ (x : ℕ). eqb x 1) e
bit_low (suc w) b n (suc p) few =
    let half : (b + 2 ^ suc w * n) / 2 ≡ b / 2 + 2 ^ w * n = omega (arith, double w n) in
    bit_half (b + 2 ^ suc w * n) p
    ∙ ap (λ (x : ℕ). bit x p) half
    ∙ bit_low w (b / 2) n p (omega arith)
    ∙ sym (bit_half b p)

-- The others are those of the rest.
bit_high : (b n j : ℕ) → b < 256 → bit (b + 256 * n) (8 + j) ≡ bit n j
unfolding bit
bit_high b n j small =
    let rest : (b + 256 * n) / 2 ^ 8 ≡ n = omega arith in
    ap (λ (x : ℕ). eqb (x % 2) 1) (sym (shr-shr (b + 256 * n) 8 j) ∙ ap (λ (x : ℕ). x / 2 ^ j) rest)

-- Bit p of a number is bit p % 8 of its byte p / 8.
pub bit_number : (s : List ℕ) → AreBytes s → (p : ℕ) → bit (number s) p ≡ bit (get_or s (p / 8) 0) (p % 8)
unfolding number
bit_number [] h p = bit_zero p ∙ sym (bit_zero (p % 8))
bit_number (b ∷ s) h p = go (ltb p 8) refl (bit_number s (bytes_tail b s h))
  where
    go : (t : Bool) → ltb p 8 ≡ t → ((j : ℕ) → bit (number s) j ≡ bit (get_or s (j / 8) 0) (j % 8))
        → bit (b + 256 * number s) p ≡ bit (get_or (b ∷ s) (p / 8) 0) (p % 8)
    go true e ih =
        let few : p < 8 = ltb-true p 8 e in
        let first : 0 ≡ p / 8 = omega arith in
        let place : p ≡ p % 8 = omega arith in
        bit_low 8 b (number s) p few ∙ ap₂ (λ (i k : ℕ). bit (get_or (b ∷ s) i 0) k) first place
    go false e ih =
        let most : 8 ≤ p = ltb-false p 8 e in
        let split : p ≡ 8 + (p - 8) = omega arith in
        let next : suc ((p - 8) / 8) ≡ p / 8 = omega arith in
        let place : (p - 8) % 8 ≡ p % 8 = omega arith in
        ap (bit (b + 256 * number s)) split
        ∙ bit_high b (number s) (p - 8) (h 0 (omega arith))
        ∙ ih (p - 8)
        ∙ ap₂ (λ (i k : ℕ). bit (get_or (b ∷ s) i 0) k) next place

-- ---- parts

pub get_d_slice : (f t : ℕ) (l : List ℕ) (k : ℕ) → f + k < t → get_or (slice f t l) k 0 ≡ get_or l (f + k) 0
get_d_slice f t l k h = get_or-drop f (take t l) k 0 ∙ get_or-take t l (f + k) 0 h

-- ---- a list, element by element

unfoldable pub listed : ℕ → (ℕ → ℕ) → List ℕ
listed zero f = []
listed (suc n) f = f 0 ∷ listed n (λ i. f (suc i))

is_listed : (l : List ℕ) → l ≡ listed (length l) (λ i. get_or l i 0)
unfolding listed
is_listed [] = refl
is_listed (x ∷ l) = ap (λ r. x ∷ r) (is_listed l)

-- What is true of all lists of n elements, each written out, is true of every list of that length.
pub by_elements : (n : ℕ) (P : List ℕ → Type 0) → ((f : ℕ → ℕ) → P (listed n f)) → (l : List ℕ) → length l ≡ n → P l
by_elements n P h l e =
    subst P (sym (is_listed l ∙ ap (λ (m : ℕ). listed m (λ i. get_or l i 0)) e)) (h (λ i. get_or l i 0))
