-- Rows as the words of a scratch. Specification, clause 7.4.
use Rattle.std.specs.Prelude.{ℕ, ◌*◌, List, length, get_or}
use Rattle.encoding.specs.Numbers.{bytes_of}
use Rattle.encoding.specs.Buffers.{room_fault, buffer_after}
use Rattle.encoding.specs.InTurn.{in_turn}

-- Clause 7.4: the numbers f 0, f 1, .. below n as words of k bytes, one after the other.
unfoldable pub words_of : ℕ → ℕ → (ℕ → ℕ) → List ℕ
words_of k n f = in_turn n (λ p. bytes_of k (f p))

-- Clause 7.4: how many words of k bytes: one for each processor that has a bit in a word.
abbrev pub word_count : ℕ → ℕ
word_count k = 8 * k

-- Clause 7.4: how many bytes these words take: 32 for words of two bytes, 128 for words of four.
abbrev pub words_size : ℕ → ℕ
words_size k = k * word_count k

-- Clauses 7.4 and 8.1: 16 for a scratch that is too short for these words.
abbrev pub words_fault : ℕ → List ℕ → ℕ
words_fault k scratch = room_fault (words_size k) (length scratch) 0

-- Clause 7.4: the scratch with the rows. Bytes after them stay, and after a refusal all bytes do.
abbrev pub words_scratch : ℕ → List ℕ → List ℕ → List ℕ
words_scratch k rows scratch =
    buffer_after (words_fault k scratch) (words_of k (word_count k) (λ p. get_or rows p 0)) scratch 0
