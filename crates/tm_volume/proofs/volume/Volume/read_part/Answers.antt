use Rattle.std.proofs.Common.{length}
use Rattle.std.proofs.lemmas.Result.{on_ok_weaker}
use Rattle.tm_world.specs.Log.{now}
use Rattle.tm_world.specs.Outside.{disk}
use Rattle.tm_world.specs.declared.world.Side.{Side}
use Rattle.tm_volume.proofs.Rows.{key_there}
use Rattle.tm_volume.proofs.Finding.{on_shelf, found_there}
use Rattle.tm_volume.proofs.Parting.{there_seen, range_seen, part_seen, file_is_found}
use Rattle.tm_volume.proofs.volume.Volume.read_part.Goals as goal

pub overflow_add-number : goal.overflow_add-number
overflow_add-number g c = key_there c.self.inside.image.records c.in-Ok.number (found_there _ c.args.self.now c.self.view_is c.args.path.now c.in-Ok.number c.in-Ok.ensures.found)

pub read_part-requires-clause-there : goal.read_part-requires-clause-there
read_part-requires-clause-there g c = there_seen _ c.args.self.now c.self.view_is c.total.ensures.sound.rising c.args.path.now c.in-Ok.number c.in-Ok.ensures.found

pub read_part-requires-clause-range : goal.read_part-requires-clause-range
read_part-requires-clause-range g c =
    range_seen _ c.args.self.now c.self.view_is c.total.ensures.sound.rising c.args.path.now c.in-Ok.number c.in-Ok.ensures.found
    c.args.at (length c.args.into.now) c.requires.file

pub unreachable-requires : goal.unreachable-requires
unreachable-requires g c =
    file_is_found c.args.self.now _ (on_shelf _ c.args.self.now _ c.self.view_is c.self.invariant c.total.ensures.sound)
    c.args.path.now c.args.at (length c.args.into.now) c.in-Err.field-0 c.requires.file c.in-Err.ensures.refused

pub returns-clause-bytes : goal.returns-clause-bytes
returns-clause-bytes g c told = on_ok_weaker c.read_part.result
    (λ read. part_seen _ c.args.self.now c.self.view_is c.total.ensures.sound.rising c.args.path.now c.in-Ok.number c.in-Ok.ensures.found
    c.args.at (length c.args.into.now) c.requires.file c.self.inside.image.side (λ (s : Side). disk s (now (g.W.World.log c.args.world.now))) c.read_part.new.into
    c.self.invariant.side read)
    (c.read_part.ensures.bytes told)
