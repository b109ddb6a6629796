use Rattle.std.proofs.Common.{take}
use Rattle.std.specs.Fmt.{HasWritten, IsPlainFormatter}
use Rattle.eng_value.specs.Functions.{hex_of_bytes}
use Rattle.eng_value.proofs.display.HexadecimalDisplay.fmt.Given as goal

-- the digits of the bytes in front
abbrev pub invariant-loop-byte : goal.invariant-loop-byte
invariant-loop-byte g l =
    IsPlainFormatter l.initial.f → HasWritten g.W.Write.write_str_gives l.initial.f (hex_of_bytes (take l.byte-index l.self.0.now)) l.f
