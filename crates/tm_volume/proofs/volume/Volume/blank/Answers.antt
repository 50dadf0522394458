use Rattle.std.proofs.Common.{Err, ap, arith}
use Rattle.tm_world.specs.Outside.{disk}
use Rattle.tm_world.specs.Log.{now}
use Rattle.tm_world.specs.declared.world.Side.TheVariants.{Volume as OfVolume}
use Rattle.tm_world.proofs.Going.{Runs-none}
use Rattle.tm_volume.proofs.Blanking.{IsMade, made_puts, made_fits, made_run, made_shelf, made_stands, made_stored}
use Rattle.tm_volume.proofs.volume.Volume.blank.Goals as goal

pub returns-then-blocks-lt-MIN_BLOCKS-clause-any_moment : goal.returns-then-blocks-lt-MIN_BLOCKS-clause-any_moment
returns-then-blocks-lt-MIN_BLOCKS-clause-any_moment g c told = Runs-none _ _ _

pub returns-in_err-head-clause-any_moment : goal.returns-in_err-head-clause-any_moment
returns-in_err-head-clause-any_moment g c told = Runs-none _ _ _

pub returns-in_err-put-clause-any_moment : goal.returns-in_err-put-clause-any_moment
returns-in_err-put-clause-any_moment g c told = Runs-none _ _ _

pub blank-requires-clause-put : goal.blank-requires-clause-put
blank-requires-clause-put g c =
    let made : IsMade c.args.name.now c.args.id c.args.events c.args.moment c.in_ok-head.head c.in_ok-put.put.items c.write_tag-tag.result = record {
      head_is = c.in_ok-head.ensures.head;
      rules = c.in_ok-head.ensures.rules;
      low = c.in_ok-put.ensures.low;
      few = c.requires.events;
      puts = c.in_ok-put.ensures.puts;
      tag_is = c.write_tag-tag.ensures;
    } in
    made_puts c.args.name.now c.args.id c.args.events c.args.moment c.in_ok-head.head c.in_ok-put.put.items c.write_tag-tag.result made

pub returns-in-Err-Fault-clause-any_moment : goal.returns-in-Err-Fault-clause-any_moment
returns-in-Err-Fault-clause-any_moment g c told =
    let made : IsMade c.args.name.now c.args.id c.args.events c.args.moment c.in_ok-head.head c.in_ok-put.put.items c.write_tag-tag.result = record {
      head_is = c.in_ok-head.ensures.head;
      rules = c.in_ok-head.ensures.rules;
      low = c.in_ok-put.ensures.low;
      few = c.requires.events;
      puts = c.in_ok-put.ensures.puts;
      tag_is = c.write_tag-tag.ensures;
    } in
    made_run c.args.name.now c.args.id c.args.events c.args.moment c.in_ok-head.head c.in_ok-put.put.items c.write_tag-tag.result made (disk OfVolume (now (g.W.World.log c.args.world.now))).bytes (g.W.World.log c.args.world.now) (g.W.World.log c.blank.new.world) (c.blank.ensures.any_moment told)

pub unreachable-requires : goal.unreachable-requires
unreachable-requires g c =
    let made : IsMade c.args.name.now c.args.id c.args.events c.args.moment c.in_ok-head.head c.in_ok-put.put.items c.write_tag-tag.result = record {
      head_is = c.in_ok-head.ensures.head;
      rules = c.in_ok-head.ensures.rules;
      low = c.in_ok-put.ensures.low;
      few = c.requires.events;
      puts = c.in_ok-put.ensures.puts;
      tag_is = c.write_tag-tag.ensures;
    } in
    made_fits c.args.name.now c.args.id c.args.events c.args.moment c.in_ok-head.head c.in_ok-put.put.items c.write_tag-tag.result made c.args.blocks c.in-Err-Full.field-0-0 c.in-Err-Full.field-0-1 (omega arith) (c.in-Err-Full.ensures.full c.in-Err-Full.field-0-0 c.in-Err-Full.field-0-1 (ap (λ e. Err e) c.in-Err-Full.field-0-is))

pub invariant_of-result : goal.invariant_of-result
invariant_of-result g c =
    let made : IsMade c.args.name.now c.args.id c.args.events c.args.moment c.in_ok-head.head c.in_ok-put.put.items c.write_tag-tag.result = record {
      head_is = c.in_ok-head.ensures.head;
      rules = c.in_ok-head.ensures.rules;
      low = c.in_ok-put.ensures.low;
      few = c.requires.events;
      puts = c.in_ok-put.ensures.puts;
      tag_is = c.write_tag-tag.ensures;
    } in
    made_shelf c.args.name.now c.args.id c.args.events c.args.moment c.in_ok-head.head c.in_ok-put.put.items c.write_tag-tag.result made c.in-Ok.image c.in-Ok.ensures.records c.none.result c.none.ensures c.new.result c.new.ensures c.in-Ok.ensures.side c.in-Ok.ensures.tag

pub returns-clause-any_moment : goal.returns-clause-any_moment
returns-clause-any_moment g c told =
    let made : IsMade c.args.name.now c.args.id c.args.events c.args.moment c.in_ok-head.head c.in_ok-put.put.items c.write_tag-tag.result = record {
      head_is = c.in_ok-head.ensures.head;
      rules = c.in_ok-head.ensures.rules;
      low = c.in_ok-put.ensures.low;
      few = c.requires.events;
      puts = c.in_ok-put.ensures.puts;
      tag_is = c.write_tag-tag.ensures;
    } in
    made_run c.args.name.now c.args.id c.args.events c.args.moment c.in_ok-head.head c.in_ok-put.put.items c.write_tag-tag.result made (disk OfVolume (now (g.W.World.log c.args.world.now))).bytes (g.W.World.log c.args.world.now) (g.W.World.log c.blank.new.world) (c.blank.ensures.any_moment told)

pub returns-clause-stands : goal.returns-clause-stands
returns-clause-stands g c told =
    let made : IsMade c.args.name.now c.args.id c.args.events c.args.moment c.in_ok-head.head c.in_ok-put.put.items c.write_tag-tag.result = record {
      head_is = c.in_ok-head.ensures.head;
      rules = c.in_ok-head.ensures.rules;
      low = c.in_ok-put.ensures.low;
      few = c.requires.events;
      puts = c.in_ok-put.ensures.puts;
      tag_is = c.write_tag-tag.ensures;
    } in
    made_stands c.args.name.now c.args.id c.args.events c.args.moment c.in_ok-head.head c.in_ok-put.put.items c.write_tag-tag.result made c.in-Ok.image c.in-Ok.ensures.records c.none.result c.none.ensures (disk OfVolume (now (g.W.World.log c.blank.new.world))) (c.in-Ok.ensures.stands told)

pub returns-clause-new : goal.returns-clause-new
returns-clause-new g c told =
    let made : IsMade c.args.name.now c.args.id c.args.events c.args.moment c.in_ok-head.head c.in_ok-put.put.items c.write_tag-tag.result = record {
      head_is = c.in_ok-head.ensures.head;
      rules = c.in_ok-head.ensures.rules;
      low = c.in_ok-put.ensures.low;
      few = c.requires.events;
      puts = c.in_ok-put.ensures.puts;
      tag_is = c.write_tag-tag.ensures;
    } in
    made_stored c.args.name.now c.args.id c.args.events c.args.moment c.in_ok-head.head c.in_ok-put.put.items c.write_tag-tag.result made c.in-Ok.image c.in-Ok.ensures.records c.none.result c.none.ensures (disk OfVolume (now (g.W.World.log c.blank.new.world))).bytes
