use Rattle.tm_volume.specs.Seen.{tree_on}
use Rattle.tm_machine.proofs.ListingLemmas.{pushed_none, pushed_some, pushed_unrefused, unlooked_tree}
use Rattle.tm_machine.proofs.listing.push_listing.Goals as goal

pub returns-in_default-clause-ok : goal.returns-in_default-clause-ok
returns-in_default-clause-ok c bytes e here =
    pushed_none (tree_on c.args.volume.now bytes) c.args.path.now e c.args.rows.now c.in_ok-listing.field-0 here (c.in_ok-listing.ensures.listing bytes) c.in_default.is

pub returns-clause-ok : goal.returns-clause-ok
returns-clause-ok c bytes e here =
    pushed_some (tree_on c.args.volume.now bytes) (tree_on c.list.new.self bytes) c.args.path.now e c.in-Some.listing c.in_ok-listing.field-0 c.as_slice.result.now c.args.rows.now c.push_entries.new.rows c.push_entries.result
    (unlooked_tree c.args.volume.now c.list.new.self _ bytes c.in_ok-listing.ensures.looks) here (c.in_ok-listing.ensures.listing bytes) c.in-Some.is c.as_slice.ensures (c.push_entries.ensures.ok bytes)

pub returns-clause-refused : goal.returns-clause-refused
returns-clause-refused c bytes e why here is =
    pushed_unrefused (tree_on c.args.volume.now bytes) (tree_on c.list.new.self bytes) c.args.path.now e c.in-Some.listing c.in_ok-listing.field-0 c.as_slice.result.now why c.push_entries.result
    (unlooked_tree c.args.volume.now c.list.new.self _ bytes c.in_ok-listing.ensures.looks) here (c.in_ok-listing.ensures.listing bytes) c.in-Some.is c.as_slice.ensures (c.push_entries.ensures.refused bytes) is
