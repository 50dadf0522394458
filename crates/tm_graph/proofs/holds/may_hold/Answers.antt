use Rattle.std.proofs.Common.{◌≡◌, arith, refl}
use Rattle.std.specs.Option.{unwrap_or}
use Rattle.std.specs.Ordering.{nat_cmp}
use Rattle.std.specs.BTreeMap.{get}
use Rattle.tm_graph.proofs.Room.{holds_by_room}
use Rattle.tm_graph.proofs.holds.may_hold.Goals as goal

pub returns : goal.returns
returns c = holds_by_room c.args.nodes.now.entries (λ q. unwrap_or (get nat_cmp c.count_all.new.counts q) 0) c.args.children.now c.all_have_room.result
    (c.if-not-names_rise.ensures.0 refl)
    (λ q. let none : unwrap_or (get nat_cmp c.new-counts.result q) 0 ≡ 0 = rw c.new-counts.ensures.empty refl in omega (arith, c.in_ok-count_all.ensures q, none))
    c.all_have_room.ensures
