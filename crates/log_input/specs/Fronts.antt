-- Bytes at the front of a buffer. The next ones are read in after them.
use Rattle.std.specs.Prelude.{ℕ, ◌-◌, min, List, length, drop}
use Rattle.std.proofs.Math.Seq.{paste}

-- The buffer with the bytes at its front, as many as fit.
abbrev pub copied_in : List ℕ → List ℕ → List ℕ
copied_in bytes buffer = paste buffer 0 bytes (min (length bytes) (length buffer))

-- The buffer with its bytes between two positions moved to its front. The bytes after them stay.
abbrev pub brought_front : ℕ → ℕ → List ℕ → List ℕ
brought_front from have buffer = paste buffer 0 (drop from buffer) (min have (length buffer) - from)
