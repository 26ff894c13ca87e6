-- What the reply to a command leaves in the registers. Specification, section 10.
use Rattle.std.specs.Prelude.{ℕ, cond, ◌||◌, List, eqb, set}
use Rattle.masks.specs.Sets.{bit, mask_of}
use Rattle.encoding.specs.Numbers.{bytes_of}
use Rattle.encoding.specs.Buffers.{overwritten}
use Rattle.rules.specs.Replies.{Response}
use Rattle.registers.specs.declared.Block.{Block}
use Rattle.registers.specs.Registers.{pending_in, with_line}

-- Clause 2.1: the bytes with a mask stored in four of them.
abbrev pub with_mask : ℕ → ℕ → List ℕ → List ℕ
with_mask at mask bytes = overwritten bytes at (bytes_of 4 mask)

-- Clause 10.8: of w processors, the granted ones are added to the pending ones.
unfoldable pub joined : ℕ → ℕ → ℕ → ℕ
joined w pending granted = mask_of w (λ p. bit pending p || bit granted p)

-- Clause 10.8: an accepted command leaves 0 as the last refusal, its late, its two masks, and the pending bit of each
-- granted processor.
unfoldable pub accepted_block : List ℕ → Response → Block
accepted_block bytes reply =
    with_line
    (with_mask 20 (joined 32 (pending_in bytes) reply.granted)
    (with_mask 16 reply.entitled (with_mask 12 reply.granted (set (set bytes 3 0) 9 reply.late))))

-- Clause 10.9: a refused command leaves the number of its refusal as the last refusal, and every other byte as it was.
abbrev pub refused_block : List ℕ → Response → Block
refused_block bytes reply = record { bytes = set bytes 3 reply.number }

abbrev pub replied_block : List ℕ → Response → Block
replied_block bytes reply = cond (eqb reply.number 0) (accepted_block bytes reply) (refused_block bytes reply)
