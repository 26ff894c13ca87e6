-- `fmt` writes the digits of all bytes. The invariant: those of the bytes so far are written. Assumes nothing.
use Rattle.std.proofs.Common.{take}
use Rattle.std.specs.Fmt.{HasWritten, IsPlainFormatter}
use Rattle.probe_io.specs.Texts.{hex_of}
use Rattle.probe_io.proofs.HexDisplay.fmt.Given as goal

abbrev pub invariant-loop-byte : goal.invariant-loop-byte
invariant-loop-byte g l =
    IsPlainFormatter l.initial.f
    → HasWritten g.W.Write.write_str_gives l.initial.f (hex_of (take l.byte-index l.byte-items)) l.f
