-- A number read from the high byte down: no byte yet, one more byte, and all bytes. Assumes nothing.
use Prim.Native.Nat.{ℕ, suc, ◌+◌, ◌*◌, ◌^◌, ◌≤◌, ◌<◌}
use native.Mathlib.Nat.{pow-succ', pow-le-pow_right, lt_of_lt_of_le}
use native.Mathlib.Omega.{arith}
use mathlib.Core.Path.{◌≡◌, refl, sym, ap, ◌∙◌}
use mathlib.Core.List.{List, [], ◌∷◌, ◌++◌, append_assoc, append-nil}
use lib.Dec.{lit<}
use lib.ListN.{length, length-append}
use Rattle.encoding.specs.Numbers.{number}

-- The bytes s are those that are left and then the high ones, and x is the number in the high ones.
pub record IsTop (s left : List ℕ) (x : ℕ) : Type 0 where
  pub high : List ℕ
  pub whole : left ++ high ≡ s
  pub value : x ≡ number high
  pub bound : x < 256 ^ length high

pub no_byte : (s : List ℕ) → IsTop s s 0
unfolding number
no_byte s = record { high = []; whole = append-nil s; value = refl; bound = lit< tt }

module _ {s left : List ℕ} {x : ℕ} (fewer : List ℕ) (b : ℕ) (last : left ≡ fewer ++ (b ∷ [])) (h : IsTop s left x) where
  whole : fewer ++ (b ∷ h.high) ≡ s
  whole = rw (← append_assoc fewer (b ∷ []) h.high, ← last) h.whole

  -- The last byte that is left is the next lower one.
  pub one_byte_more : b < 256 → IsTop s fewer (b + 256 * x)
  unfolding number
  one_byte_more small =
      let bound : x < 256 ^ length h.high = h.bound in
      record { high = b ∷ h.high; whole = whole; value = rw h.value; bound = rw pow-succ' (omega arith) }

  -- Where a byte is left, the high ones are fewer than all.
  pub below_all : (n : ℕ) → length s ≤ suc n → x < 256 ^ n
  below_all n few =
      let all : length fewer + suc (length h.high) ≡ length s = sym (length-append fewer (b ∷ h.high)) ∙ ap length whole in
      let size : length h.high ≤ n = omega arith in
      lt_of_lt_of_le h.bound (pow-le-pow_right (lit< tt) size)

pub all_bytes : {s : List ℕ} {x : ℕ} (left : List ℕ) → length left ≡ 0 → IsTop s left x → (x ≡ number s)
    × (x < 256 ^ length s)
all_bytes [] none h = (rw (← h.whole) h.value, rw (← h.whole) h.bound)
all_bytes (b ∷ left) none h = absurd (omega arith)
