-- What a write that is not a command leaves in a register block. Specification, section 10.
use Rattle.std.specs.Prelude.{ℕ, not, ◌&&◌, get_or, set}
use Rattle.masks.specs.Sets.{bit, mask_of}
use Rattle.registers.specs.declared.Register.{Register}
use Rattle.registers.specs.declared.Register.TheVariants.{Command, Argument, Answer, Pending, Enabled, Line}
use Rattle.registers.specs.declared.Register.TheVariants.{Unlisted}
use Rattle.registers.specs.declared.Block.{Block}
use Rattle.registers.specs.Registers.{register_at, with_line}

-- Clause 10.6: of w bits, writing a one clears that bit, writing a zero does not.
unfoldable pub cleared : ℕ → ℕ → ℕ → ℕ
cleared w old value = mask_of w (λ i. bit old i && not (bit value i))

-- Clause 10.6: the byte that a write leaves: pending bits are cleared, every other register takes the value.
abbrev pub new_byte : Register → ℕ → ℕ → ℕ
new_byte Command old value = value
new_byte Argument old value = value
new_byte Answer old value = value
new_byte Pending old value = cleared 8 old value
new_byte Enabled old value = value
new_byte Line old value = value
new_byte Unlisted old value = value

-- Clause 10.6: the block after a write of a value to an argument, to pending or to enabled.
unfoldable pub stored : Block → ℕ → ℕ → Block
stored block offset value =
    with_line (set block.bytes offset (new_byte (register_at offset) (get_or block.bytes offset 0) value))
