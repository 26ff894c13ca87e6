-- An input as it arrives.
use Rattle.std.specs.Prelude.{ℕ, List, take}
use Rattle.probe_io.specs.declared.inputs.Input.{Input}

-- The bytes that were read and not yet used.
abbrev pub unread : {R : Type 0} → Input R → List ℕ
unread input = take input.have input.bytes
