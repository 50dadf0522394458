use Rattle.std.proofs.Common.{◌≡◌, ◌∷◌, take}
use Rattle.std.specs.List.{flat_map}
use Rattle.std.specs.String.{string_bytes}
use Rattle.tm_reply.specs.Escapes.{printed_word}
use Rattle.tm_reply.proofs.words.encode_path.Given as goal

abbrev pub invariant-loop-name : goal.invariant-loop-name
invariant-loop-name l = string_bytes l.text ≡ flat_map (λ n. 0x2F ∷ printed_word n) (take l.name-index l.names)
