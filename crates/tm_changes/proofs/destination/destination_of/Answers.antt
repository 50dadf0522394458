use Rattle.std.proofs.Common.{sym, ◌∙◌}
use Rattle.tm_volume.specs.Seen.{items_on, tree_on}
use Rattle.tm_changes.proofs.Destinations.{found_stands, into_is}
use Rattle.tm_changes.proofs.destination.destination_of.Goals as goal

pub is_folder-requires : goal.is_folder-requires
is_folder-requires c = λ bytes.
    found_stands (items_on c.args.volume.now bytes) (tree_on c.args.volume.now bytes) _ c.in-Ok.number (c.in-Ok.ensures.found bytes)

pub returns-then-is_folder : goal.returns-then-is_folder
returns-then-is_folder c = λ bytes.
    let yes = sym (c.is_folder.ensures bytes) ∙ c.if-is_folder.true in
    into_is (items_on c.args.volume.now bytes) (tree_on c.args.volume.now bytes) c.args.path.now _ c.in-Ok.number c.in_ok-folder.ensures (c.in-Ok.ensures.found bytes) yes
