use Rattle.std.proofs.Common.{◌≡◌, ◌+◌, ◌-◌, arith, subst}
use Rattle.tm_store_records.specs.Found.{roots_of}
use Rattle.tm_store_records.specs.Located.{Comes, DoneFrom, LocationsTell}
use Rattle.tm_store_records.proofs.Walking.{locations_of, ids_of}
use Rattle.tm_store_records.proofs.Rooting.{all_tell}
use Rattle.tm_store_records.proofs.locations.find_locations.Goals as goal

pub loop-place-preserved : goal.loop-place-preserved
loop-place-preserved c =
    let g = c.args.nodes.now in
    let roots = roots_of c.args.snapshots.now in
    let back : c.loop-place.place ≡ c.loop-place.place - 1 + 1 = omega arith in
    record {
      within = omega (arith, c.loop-place.invariant.within);
      tell = c.in_ok-pass.ensures roots (subst (λ n. LocationsTell g roots (Comes g roots (DoneFrom g n)) c.loop-place.locations) back c.loop-place.invariant.tell);
    }

pub returns : goal.returns
returns c =
    let g = c.args.nodes.now in
    let roots = roots_of c.args.snapshots.now in
    let none : c.loop-place.place ≡ 0 = omega arith in
    let s = c.loop-place.locations in
    all_tell g roots (locations_of s) (ids_of s) s.count c.requires.sorted (subst (λ n. LocationsTell g roots (Comes g roots (DoneFrom g n)) s) none c.loop-place.invariant.tell)
