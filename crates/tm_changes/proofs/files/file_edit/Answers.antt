use Rattle.std.proofs.Common.{[], subst}
use Rattle.tm_changes.specs.declared.destination.Destination.{Destination}
use Rattle.tm_changes.specs.declared.target.Target.{Target}
use Rattle.tm_volume.specs.Seen.{items_on, tree_on}
use Rattle.tm_changes.specs.Destinations.{MeetsDestination}
use Rattle.tm_changes.specs.Targets.{MeetsTarget}
use Rattle.tm_changes.proofs.Written.{is_file_row}
use Rattle.tm_changes.proofs.files.file_edit.Goals as goal

pub rewrite_edit-requires-clause-file : goal.rewrite_edit-requires-clause-file
rewrite_edit-requires-clause-file c = λ bytes.
    let m = c.args.volume.now in
    (subst (λ (t : Target). MeetsTarget (items_on m bytes) (tree_on m bytes) c.args.path.now t) c.in-File.is (c.requires.meets bytes)).1

pub rewrite_edit-requires-clause-is_file : goal.rewrite_edit-requires-clause-is_file
rewrite_edit-requires-clause-is_file c =
    let m = c.args.volume.now in
    is_file_row (items_on m (λ _. [])) (tree_on m (λ _. [])) c.args.path.now c.in-File.number c.in-File.row
    (subst (λ (t : Target). MeetsTarget (items_on m (λ _. [])) (tree_on m (λ _. [])) c.args.path.now t) c.in-File.is (c.requires.meets (λ _. [])))

pub new_file_edit-requires-clause-into : goal.new_file_edit-requires-clause-into
new_file_edit-requires-clause-into c = λ bytes.
    let m = c.args.volume.now in
    subst (λ (i : Destination). MeetsDestination (items_on m bytes) (tree_on m bytes) c.args.path.now i) c.in-Folder.is (c.requires.goes bytes)
