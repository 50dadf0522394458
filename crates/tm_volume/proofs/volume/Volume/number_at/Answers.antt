use Rattle.std.proofs.Common.{length, ap, arith}
use Rattle.tm_volume.proofs.Finding.{on_shelf, stands_on_way, blocked_on_way, misses_on_way, goes_on_way, ends_on_way, name_at}
use Rattle.tm_volume.proofs.volume.Volume.number_at.Goals as goal

pub is_folder-requires : goal.is_folder-requires
is_folder-requires c =
    stands_on_way _ c.args.self.now c.self.view_is _ (on_shelf _ c.args.self.now _ c.self.view_is c.self.invariant c.total.ensures.sound)
    c.args.path.now c.loop-name.name-index c.loop-name.number c.loop-name.invariant

pub returns-then-not-is_folder-clause-refused : goal.returns-then-not-is_folder-clause-refused
returns-then-not-is_folder-clause-refused c =
    blocked_on_way _ c.args.self.now c.self.view_is _ (on_shelf _ c.args.self.now _ c.self.view_is c.self.invariant c.total.ensures.sound)
    c.args.path.now c.loop-name.name-index c.loop-name.number c.loop-name.invariant
    (omega (arith, c.loop-name-test.true, ap length c.names-name-items.ensures.names)) c.is_folder.result c.is_folder.ensures c.if-not-is_folder.true

pub returns-in-None-clause-refused : goal.returns-in-None-clause-refused
returns-in-None-clause-refused c =
    misses_on_way _ c.args.self.now c.self.view_is _ (on_shelf _ c.args.self.now _ c.self.view_is c.self.invariant c.total.ensures.sound)
    c.args.path.now c.loop-name.name-index c.loop-name.number c.loop-name.invariant c.name-item.result
    (name_at c.names-name-items.result.now c.args.path.now c.loop-name.name-index c.name-item.result c.names-name-items.ensures.names c.loop-name-test.true c.name-item.is)
    c.is_folder.result c.is_folder.ensures c.if-not-is_folder.false c.in-None.ensures

pub loop-name-preserved : goal.loop-name-preserved
loop-name-preserved c =
    goes_on_way _ c.args.self.now c.self.view_is _ (on_shelf _ c.args.self.now _ c.self.view_is c.self.invariant c.total.ensures.sound)
    c.args.path.now c.loop-name.name-index c.loop-name.number c.loop-name.invariant c.name-item.result c.in-Some.next
    (name_at c.names-name-items.result.now c.args.path.now c.loop-name.name-index c.name-item.result c.names-name-items.ensures.names c.loop-name-test.true c.name-item.is)
    c.in-Some.ensures

pub returns-clause-found : goal.returns-clause-found
returns-clause-found c =
    ends_on_way _ c.args.self.now c.self.view_is _ (on_shelf _ c.args.self.now _ c.self.view_is c.self.invariant c.total.ensures.sound)
    c.args.path.now c.loop-name.name-index c.loop-name.number c.loop-name.invariant
    (omega (arith, c.loop-name-test.false, c.loop-name.auto.name-index-end, ap length c.names-name-items.ensures.names))
