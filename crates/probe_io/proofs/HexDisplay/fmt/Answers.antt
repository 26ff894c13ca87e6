use Rattle.std.proofs.Common.{◌≡◌, ℕ, ◌+◌, ◌-◌, ◌^◌, ◌<◌, false, List, [], ◌++◌, length, take, get_or, rules}
use Rattle.std.proofs.Output.{has_written_append, has_written_of_eq}
use Rattle.std.proofs.lemmas.Fmt.{hex_byte}
use Rattle.std.proofs.lemmas.List.{take_more, flat_map_more}
use Rattle.std.specs.Fmt.{digits, padded_integral, format_spec}
use Rattle.probe_io.specs.Texts.{hex_pair, hex_of}
use Rattle.probe_io.proofs.HexDisplay.fmt.Goals as goal

-- The digits of one more byte, as a format writes them.
hex_more : (bytes : List ℕ) (i : ℕ) → i < length bytes → get_or bytes i 0 < 256
    → hex_of (take i bytes)
    ++ padded_integral (format_spec 32 0 4 2 (2 ^ 64 - 1)) false [] (digits 16 false (get_or bytes i 0))
    ≡ hex_of (take (i + 1) bytes)
hex_more bytes i h small =
    rw (hex_byte false (get_or bytes i 0) small, take_more bytes i 0 h)
    (flat_map_more hex_pair [] (take i bytes) (get_or bytes i 0))

pub loop-byte-preserved : goal.loop-byte-preserved
loop-byte-preserved g c p =
    has_written_of_eq _ _ _ _ _ (hex_more _ _ c.loop-byte-test.true (search rules))
    (has_written_append _ _ _ _ _ _ (c.loop-byte.invariant p) (search rules))
