-- The register block: which register is at which offset, and what a read returns. Specification, section 10.
use Rattle.std.specs.Prelude.{ℕ, Bool, cond, ◌&&◌, ◌||◌, List, eqb, leb, get_or, set}
use Rattle.std.proofs.Math.Seq.{slice}
use Rattle.masks.specs.Sets.{bit, some}
use Rattle.refusals.specs.Due.{AsNumbers, as_numbers}
use Rattle.encoding.specs.Numbers.{number}
use Rattle.registers.specs.declared.Register.{Register}
use Rattle.registers.specs.declared.Register.TheVariants.{Command, Argument, Answer, Pending, Enabled, Line}
use Rattle.registers.specs.declared.Register.TheVariants.{Unlisted}
use Rattle.registers.specs.declared.Block.{Block}

abbrev between : ℕ → ℕ → ℕ → Bool
between first last offset = leb first offset && leb offset last

-- Clause 10.2: 0 is the command; 1 the processor, 2 the entry and 4 to 8 the tick are its arguments; 3 the last
-- refusal, 9 late, 12 to 15 granted and 16 to 19 entitled are its answer; 20 to 23 are pending, 24 to 27 enabled, 28
-- the interrupt line. No other offset is listed.
unfoldable pub register_at : ℕ → Register
register_at offset =
    cond (eqb offset 0) Command
    (cond (between 1 2 offset || between 4 8 offset) Argument
    (cond (eqb offset 3 || (eqb offset 9 || between 12 19 offset)) Answer
    (cond (between 20 23 offset) Pending (cond (between 24 27 offset) Enabled (cond (eqb offset 28) Line Unlisted)))))

-- Clause 10.2: the numbers in the registers, low byte first, from the bytes of a block.
abbrev pub processor_in : List ℕ → ℕ
processor_in bytes = get_or bytes 1 0

abbrev pub requested_in : List ℕ → ℕ
requested_in bytes = get_or bytes 2 0

abbrev pub refusal_in : List ℕ → ℕ
refusal_in bytes = get_or bytes 3 0

abbrev pub tick_in : List ℕ → ℕ
tick_in bytes = number (slice 4 9 bytes)

abbrev pub late_in : List ℕ → ℕ
late_in bytes = get_or bytes 9 0

abbrev pub granted_in : List ℕ → ℕ
granted_in bytes = number (slice 12 16 bytes)

abbrev pub entitled_in : List ℕ → ℕ
entitled_in bytes = number (slice 16 20 bytes)

abbrev pub pending_in : List ℕ → ℕ
pending_in bytes = number (slice 20 24 bytes)

abbrev pub enabled_in : List ℕ → ℕ
enabled_in bytes = number (slice 24 28 bytes)

-- Clause 10.3: of w bits, some bit is both pending and enabled.
unfoldable pub raised : ℕ → List ℕ → Bool
raised w bytes = some w (λ p. bit (pending_in bytes) p && bit (enabled_in bytes) p)

-- Clause 10.3: the interrupt line is 1 if it is raised, else 0.
abbrev pub line_of : List ℕ → ℕ
line_of bytes = cond (raised 32 bytes) 1 0

-- Clause 10.3: the block with these bytes and its interrupt line at offset 28.
unfoldable pub with_line : List ℕ → Block
with_line bytes = record { bytes = set bytes 28 (line_of bytes) }

-- Clause 10.4: 18 for a read of an offset that is not listed.
abbrev pub register_fault : Register → ℕ
register_fault Command = 0
register_fault Argument = 0
register_fault Answer = 0
register_fault Pending = 0
register_fault Enabled = 0
register_fault Line = 0
register_fault Unlisted = 18

-- Clause 10.4: the command reads as 0, the interrupt line as 1 if it is raised, every other register as its byte.
abbrev pub shown_at : Register → List ℕ → ℕ → ℕ
shown_at Command bytes offset = 0
shown_at Argument bytes offset = get_or bytes offset 0
shown_at Answer bytes offset = get_or bytes offset 0
shown_at Pending bytes offset = get_or bytes offset 0
shown_at Enabled bytes offset = get_or bytes offset 0
shown_at Line bytes offset = line_of bytes
shown_at Unlisted bytes offset = 0

-- Clause 10.4: reading an offset of a block.
unfoldable pub register_read : Block → ℕ → AsNumbers
register_read block offset = as_numbers (register_fault (register_at offset))
    (shown_at (register_at offset) block.bytes offset)
