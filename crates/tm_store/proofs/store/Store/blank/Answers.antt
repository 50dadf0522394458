use Rattle.std.proofs.Common.{None, Err, refl, ◌∙◌, ap, arith}
use Rattle.tm_world.specs.Outside.{disk}
use Rattle.tm_world.specs.Log.{now}
use Rattle.tm_world.specs.declared.world.Side.TheVariants.{Store}
use Rattle.tm_world.proofs.Going.{Runs-none}
use Rattle.tm_store.proofs.Blanking.{made_puts, made_fits, made_run, made_store, made_whole}
use Rattle.tm_store_records.specs.Tags.{FitsTag}
use Rattle.tm_store.proofs.Tagging.{tag_fits}
use Rattle.tm_store.proofs.store.Store.blank.Goals as goal
use Rattle.tm_nodes.proofs.Fields.{name_had}

pub returns-then-blocks-lt-MIN_BLOCKS-clause-any_moment : goal.returns-then-blocks-lt-MIN_BLOCKS-clause-any_moment
returns-then-blocks-lt-MIN_BLOCKS-clause-any_moment g c told = Runs-none _ _ _

pub returns-in_err-put-clause-any_moment : goal.returns-in_err-put-clause-any_moment
returns-in_err-put-clause-any_moment g c told = Runs-none _ _ _

pub returns-in_err-name-clause-any_moment : goal.returns-in_err-name-clause-any_moment
returns-in_err-name-clause-any_moment g c told = Runs-none _ _ _

pub blank-requires-clause-put : goal.blank-requires-clause-put
blank-requires-clause-put g c =
    made_puts c.args.machine.now (name_had c.args.machine.now c.in_ok-name.ensures.rules) c.in_ok-put.put.items c.write_tag-tag.result c.in_ok-put.ensures c.write_tag-tag.ensures.tag

pub blank-requires-clause-tag : goal.blank-requires-clause-tag
blank-requires-clause-tag g c =
    let fits : FitsTag None 1 = record { date = tt; least = omega arith; most = omega arith } in
    tag_fits None 1 c.write_tag-tag.result c.write_tag-tag.ensures.tag fits

pub returns-in-Err-Fault-clause-any_moment : goal.returns-in-Err-Fault-clause-any_moment
returns-in-Err-Fault-clause-any_moment g c told =
    made_run c.args.machine.now (name_had c.args.machine.now c.in_ok-name.ensures.rules) c.in_ok-put.put.items c.write_tag-tag.result c.in_ok-put.ensures c.write_tag-tag.ensures.tag
    (disk Store (now (g.W.World.log c.args.world.now))).bytes (g.W.World.log c.args.world.now) (g.W.World.log c.blank.new.world) (c.blank.ensures.any_moment told)

pub unreachable-requires : goal.unreachable-requires
unreachable-requires g c =
    made_fits c.args.machine.now (name_had c.args.machine.now c.in_ok-name.ensures.rules) c.in_ok-put.put.items c.write_tag-tag.result c.in_ok-put.ensures c.write_tag-tag.ensures.tag
    c.args.blocks _ _ (omega arith) (c.in-Err-Full.ensures.full _ _ (ap (λ e. Err e) c.in-Err-Full.field-0-is))

pub returns-clause-any_moment : goal.returns-clause-any_moment
returns-clause-any_moment g c told =
    made_run c.args.machine.now (name_had c.args.machine.now c.in_ok-name.ensures.rules) c.in_ok-put.put.items c.write_tag-tag.result c.in_ok-put.ensures c.write_tag-tag.ensures.tag
    (disk Store (now (g.W.World.log c.args.world.now))).bytes (g.W.World.log c.args.world.now) (g.W.World.log c.blank.new.world) (c.blank.ensures.any_moment told)

pub returns-clause-state : goal.returns-clause-state
returns-clause-state g c = λ bytes. made_store c.args.machine.now _ _ _ _ c.in_ok-name.ensures.same (c.of.ensures ∙ c.new-2.ensures.items) bytes

pub returns-clause-whole : goal.returns-clause-whole
returns-clause-whole g c =
    made_whole c.args.machine.now (name_had c.args.machine.now c.in_ok-name.ensures.rules) c.in_ok-put.put.items c.write_tag-tag.result c.in_ok-put.ensures c.write_tag-tag.ensures.tag
    _ c.in-Ok.ensures.records c.in-Ok.ensures.side c.in-Ok.ensures.sound c.in-Ok.ensures.settled c.in-Ok.ensures.space c.in-Ok.ensures.tag c.in-Ok.ensures.unstaged
    c.in_ok-name.ensures.same c.new.ensures (c.of.ensures ∙ c.new-2.ensures.items) refl refl refl c.new-3.ensures.items
