use Rattle.std.proofs.Common.{◌≡◌, [], ap, ◌∙◌}
use Rattle.tm_base.specs.declared.refused.LineFault.TheVariants as fault
use Rattle.tm_tree.specs.declared.node.LeafRow.{LeafRow}
use Rattle.tm_tree.specs.declared.record.ItemBody.TheVariants as body
use Rattle.tm_tree.specs.Walks.{walk}
use Rattle.tm_volume.specs.Seen.{tree_on}
use Rattle.tm_world.specs.Log.{now}
use Rattle.tm_world.specs.Outside.{disk}
use Rattle.tm_world.specs.declared.world.Side.TheVariants.{Volume as VolumeSide}
use Rattle.tm_machine.specs.Answers.{AnswersReading}
use Rattle.tm_machine.specs.Queries.{content_rows}
use Rattle.tm_machine.specs.Steps.{content_tests}
use Rattle.tm_machine.proofs.Exits.{after_err, err_met}
use Rattle.tm_machine.proofs.ListingLemmas.{finds_no_fault, shows_missing, shows_file, shows_link, shows_folder, file_there}
use Rattle.tm_machine.proofs.volume.show_contents.Goals as goal

pub returns-in_err-body-clause-answer : goal.returns-in_err-body-clause-answer
returns-in_err-body-clause-answer g c told =
    let t = tree_on c.args.volume.now (disk VolumeSide (now (g.W.World.log c.args.world.now))).bytes in
    let why = c.in_err-body.field-0.0 in
    after_err (AnswersReading (content_tests t c.args.path.now) (content_rows t c.args.path.now)) why c.from_residual.result c.from_residual.ensures.1
    (shows_missing t c.args.path.now why (c.in_err-body.ensures (disk VolumeSide (now (g.W.World.log c.args.world.now))).bytes))

pub returns-in_err-body-clause-fault : goal.returns-in_err-body-clause-fault
returns-in_err-body-clause-fault g c side is =
    let why = c.in_err-body.field-0.0 in
    absurd (finds_no_fault (walk (tree_on c.args.volume.now (λ _. [])) c.args.path.now) why side (c.in_err-body.ensures (λ _. [])) (err_met c.from_residual.result why (fault.Fault side) c.from_residual.ensures.1 is))

pub returns-in-Folder-clause-answer : goal.returns-in-Folder-clause-answer
returns-in-Folder-clause-answer g c told =
    let t = tree_on c.args.volume.now (disk VolumeSide (now (g.W.World.log c.args.world.now))).bytes in
    shows_folder t c.args.path.now c.in_ok-body.field-0 c.in-Folder.attrs (c.in_ok-body.ensures (disk VolumeSide (now (g.W.World.log c.args.world.now))).bytes) c.in-Folder.is

pub read_file-requires-clause-file : goal.read_file-requires-clause-file
read_file-requires-clause-file g c bytes =
    let is = c.in-Leaf-File.is ∙ ap (λ (x : LeafRow). body.Leaf x) c.in-Leaf-File.field-0-is in
    file_there (tree_on c.args.volume.now bytes) c.args.path.now c.in_ok-body.field-0 c.in-Leaf-File.field-0-0 c.in-Leaf-File.field-0-1 c.in-Leaf-File.length (c.in_ok-body.ensures bytes) is

pub returns-in-Leaf-File-clause-answer : goal.returns-in-Leaf-File-clause-answer
returns-in-Leaf-File-clause-answer g c told =
    let t = tree_on c.args.volume.now (disk VolumeSide (now (g.W.World.log c.args.world.now))).bytes in
    let is = c.in-Leaf-File.is ∙ ap (λ (x : LeafRow). body.Leaf x) c.in-Leaf-File.field-0-is in
    shows_file t c.args.path.now c.in_ok-body.field-0 c.in-Leaf-File.field-0-0 c.in-Leaf-File.field-0-1 c.in-Leaf-File.length c.in_ok-bytes-in-Leaf-File.bytes c.one_row.result
    (c.in_ok-body.ensures (disk VolumeSide (now (g.W.World.log c.args.world.now))).bytes) is (c.in_ok-bytes-in-Leaf-File.ensures.bytes told) c.one_row.ensures

pub returns-clause-answer : goal.returns-clause-answer
returns-clause-answer g c told =
    let t = tree_on c.args.volume.now (disk VolumeSide (now (g.W.World.log c.args.world.now))).bytes in
    let is = c.in-Leaf-Link.is ∙ ap (λ (x : LeafRow). body.Leaf x) c.in-Leaf-Link.field-0-is in
    shows_link t c.args.path.now c.in_ok-body.field-0 c.in-Leaf-Link.field-0-0 c.in-Leaf-Link.field-0-1 c.in-Leaf-Link.target c.one_row-in-Leaf-Link.result
    (c.in_ok-body.ensures (disk VolumeSide (now (g.W.World.log c.args.world.now))).bytes) is c.one_row-in-Leaf-Link.ensures
