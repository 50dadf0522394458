use Rattle.std.proofs.Common.{◌≤◌, ◌+◌, ◌^◌, arith}
use Rattle.std.specs.Map.{keys_of}
use Rattle.tm_store_records.proofs.Reading.{no_next}
use Rattle.tm_store_records.proofs.draft.key_after.Goals as goal

pub returns-in-None : goal.returns-in-None
returns-in-None c =
    let last : 2 ^ 64 ≤ c.args.key + 1 = omega (arith, c.in-None.ensures) in
    no_next c.args.key (keys_of c.args.image.now.records) last c.total.ensures.sound.keys
