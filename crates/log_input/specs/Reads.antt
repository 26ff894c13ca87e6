-- What every choice of a read has in common. No contract can say which bytes a read returns, or how many. The C library
-- promises nothing about the lent bytes after a read, even one that fails: so nothing is said about the bytes after
-- those at hand.
use Rattle.std.specs.Prelude.{ℕ, ◌≤◌, ◌<◌, min, ◌≡◌, true, List, length, take, Option, OnSome}
use Rattle.std.specs.declared.io.Error.{Error}
use Rattle.log_input.specs.Stages.{is_short}

-- How many bytes are at hand before the first read: no more than the buffer has.
abbrev pub at_hand : ℕ → List ℕ → ℕ
at_hand first buffer = min first (length buffer)

-- Clause 9.10: how many bytes to wait for: those that are needed, as far as the buffer goes.
abbrev pub awaited : ℕ → List ℕ → ℕ
awaited needed buffer = min needed (length buffer)

-- Clause 9.10: if enough bytes are at hand, none are read: the buffer stays, and the count is theirs.
abbrev pub EnoughIsLeft : ℕ → ℕ → List ℕ → List ℕ → ℕ → Type 0
EnoughIsLeft first needed before after have =
    awaited needed before ≤ at_hand first before → (after ≡ before) × (have ≡ at_hand first before)

-- Clause 9.11: a failure is reported only while bytes are still waited for.
abbrev pub FailsShort : ℕ → List ℕ → ℕ → Option Error → Type 0
FailsShort needed before have failure = OnSome failure (have < awaited needed before)

-- Clauses 9.10 and 9.11: a failure is reported only while the bytes so far decide nothing and the buffer has room.
abbrev pub FailsUndecided : List ℕ → ℕ → Option Error → Type 0
FailsUndecided after have failure = OnSome failure ((have < length after) × (is_short (take have after) ≡ true))
