-- Words of one size, one after the other: their total length, and the store of one more word. Assumes nothing.
use Prim.Native.Nat.{ℕ, ◌+◌, ◌*◌, ◌≤◌, ◌<◌}
use mathlib.Core.Path.{◌≡◌, ap, ◌∙◌}
use mathlib.Core.List.{List}
use native.Mathlib.Omega.{arith}
use lib.ListN.{length}
use lib.Seq.{sets}
use Rattle.encoding.specs.Numbers.{bytes_of}
use Rattle.encoding.specs.Buffers.{room_fault, buffer_after}
use Rattle.encoding.proofs.Numbers.{length_bytes_of}
use Rattle.encoding.proofs.InTurn.{in_turn_agree, length_in_turn, turn_stores}
use Rattle.queries.specs.Words.{words_of}

module _ (k : ℕ) (f : ℕ → ℕ) where
  pub length_words : (n : ℕ) → length (words_of k n f) ≡ k * n
  unfolding words_of
  length_words = length_in_turn k (λ p. bytes_of k (f p)) (λ p. length_bytes_of k (f p))

  -- The scratch after `write_number` stores word n, if there is room for all m words.
  pub word_stored : (m n : ℕ) (l now next : List ℕ) → n < m → k * m ≤ length l → length now ≡ length l
      → now ≡ sets l 0 (words_of k n f)
      → next ≡ buffer_after (room_fault k (length now) (k * n)) (bytes_of k (f n)) now (k * n)
      → (length next ≡ length l) × (next ≡ sets l 0 (words_of k (n + 1) f))
  unfolding words_of
  word_stored m n l now next low room size so_far written =
      let place : k * n ≡ 0 + k * n = omega arith in
      let whole : 0 + k * m ≤ length l = omega arith in
      turn_stores k (λ p. bytes_of k (f p)) (λ p. length_bytes_of k (f p)) 0 m n l now next low whole size so_far
      (written ∙ ap (λ (at : ℕ). buffer_after (room_fault k (length now) at) (bytes_of k (f n)) now at) place)

pub words_agree : (k n : ℕ) (f g : ℕ → ℕ) → ((p : ℕ) → p < n → f p ≡ g p) → words_of k n f ≡ words_of k n g
unfolding words_of
words_agree k n f g same =
    in_turn_agree n (λ p. bytes_of k (f p)) (λ p. bytes_of k (g p)) (λ p l. ap (bytes_of k) (same p l))
