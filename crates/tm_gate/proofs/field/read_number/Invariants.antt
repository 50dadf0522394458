use Rattle.std.proofs.Common.{◌≡◌, ◌<◌, ◌^◌, take}
use Rattle.tm_gate.specs.Fields.{number}
use Rattle.tm_gate.proofs.field.read_number.Given as goal

abbrev pub invariant-loop-byte : goal.invariant-loop-byte
invariant-loop-byte l = record { is : l.value ≡ number (take l.byte-index l.bytes); fits : l.value < 2 ^ 64 }
