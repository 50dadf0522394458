use Rattle.std.proofs.Common.{[], sym, ◌∙◌}
use Rattle.tm_tree.specs.States.{new_store}
use Rattle.tm_world.specs.Log.{now}
use Rattle.tm_world.specs.Outside.{disk}
use Rattle.tm_world.specs.declared.world.Side.TheVariants.{Store as StoreSide}
use Rattle.tm_world.proofs.Going.{Runs-weaker}
use Rattle.tm_machine.specs.Steps.{at_rest}
use Rattle.tm_machine.proofs.Exits.{exit_is}
use Rattle.tm_machine.proofs.Resting.{volume_rests}
use Rattle.tm_machine.proofs.StoreLines.{blank_unrefused, format_does, format_fails}
use Rattle.tm_machine.proofs.VolumeLines.{does_rows}
use Rattle.tm_machine.proofs.session.Session.new_store.Goals as goal

pub returns-in_err-store-clause-does : goal.returns-in_err-store-clause-does
returns-in_err-store-clause-does g c told =
    let s = c.self.inside in
    let start = g.W.World.log c.args.world.now in
    format_fails c.args.self.now s.volume_blocks s.store_blocks s.volume s.store s.moment c.args.machine.now start (g.W.World.log c.blank.new.world)
    c.self.view_is (sym c.is_some.ensures ∙ c.if-is_some.false) c.if-self-lt-MIN_BLOCKS.false (c.requires.standing told)
    (volume_rests (record { volume_stands = c.standing_volume_is_left.ensures; volume_blank = c.blank_is_left.ensures; store_stands = c.held_reads.ensures; store_blank = c.blank_is_left-2.ensures }) c.args.self.now (g.W.World.blocks c.args.world.now) (now start) c.requires.open (c.requires.standing told))
    (Runs-weaker StoreSide _ _ start (g.W.World.log c.blank.new.world) (c.none_or_store.ensures (at_rest (new_store c.args.machine.now))) (c.blank.ensures.any_moment told)) c.args.self.now c.from_residual.result c.in_err-store.field-0.0 (exit_is c.from_residual.result c.in_err-store.field-0.0 c.from_residual.ensures.1)
    (blank_unrefused s.store_blocks c.in_err-store.field-0.0 c.if-self-lt-MIN_BLOCKS.false c.in_err-store.ensures.refused)

pub returns-clause-does : goal.returns-clause-does
returns-clause-does g c told =
    let s = c.self.inside in
    let start = g.W.World.log c.args.world.now in
    does_rows _ _ _ _ _ [] c.new.result
    (format_does c.args.self.now s.volume_blocks s.store_blocks s.volume s.store s.moment c.args.machine.now start (g.W.World.log c.blank.new.world)
    c.self.view_is (sym c.is_some.ensures ∙ c.if-is_some.false) c.if-self-lt-MIN_BLOCKS.false (c.requires.standing told)
    (volume_rests (record { volume_stands = c.standing_volume_is_left.ensures; volume_blank = c.blank_is_left.ensures; store_stands = c.held_reads.ensures; store_blank = c.blank_is_left-2.ensures }) c.args.self.now (g.W.World.blocks c.args.world.now) (now start) c.requires.open (c.requires.standing told))
    (Runs-weaker StoreSide _ _ start (g.W.World.log c.blank.new.world) (c.none_or_store.ensures (at_rest (new_store c.args.machine.now))) (c.blank.ensures.any_moment told)) c.in_ok-store.store
    (c.in_ok-store.ensures.stands told) (λ i. record { store = c.in_ok-store.ensures.state (disk StoreSide (now (g.W.World.log c.blank.new.world))).bytes i; running = c.in_ok-store.ensures.idle.1 i }))
    c.new.ensures
