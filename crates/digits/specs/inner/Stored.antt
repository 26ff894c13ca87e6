-- The effect of writing a part of a listing line.
use Rattle.std.specs.Prelude.{ℕ, ◌+◌, ◌≡◌, List, length}
use Rattle.std.proofs.lemmas.List.Edits.{sets}

-- The bytes are in the buffer from a position on, and the next position is after them.
pub record Stored (bytes before : List ℕ) (at next : ℕ) (after : List ℕ) : Type 0 where
  pub place : next ≡ at + length bytes
  pub stores : after ≡ sets before at bytes
