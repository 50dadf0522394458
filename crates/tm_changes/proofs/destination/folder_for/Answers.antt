use Rattle.std.proofs.Common.{sym, ◌∙◌, subst, arith}
use Rattle.tm_tree.specs.Trees.{item_at}
use Rattle.tm_changes.specs.declared.destination.Destination.{Destination}
use Rattle.tm_volume.specs.Seen.{items_on, tree_on}
use Rattle.tm_changes.specs.Destinations.{MeetsDestination}
use Rattle.tm_changes.proofs.Destinations.{folder_tests_are, folder_tests_pass, folder_tests_count, none_of}
use Rattle.tm_changes.proofs.destination.folder_for.Goals as goal

pub returns-in-Some-clause-finds : goal.returns-in-Some-clause-finds
returns-in-Some-clause-finds c = λ bytes good.
    folder_tests_are (items_on c.args.volume.now bytes) (tree_on c.args.volume.now bytes) c.args.path.now c.in_ok-destination.destination c.has-there.result c.item_count-count.result c.args.moment (c.in_ok-destination.ensures bytes) (c.has-there.ensures bytes)
    (c.item_count-count.ensures.tree bytes good) ∙ sym c.in-Some.ensures

pub returns-in-Folder-clause-finds : goal.returns-in-Folder-clause-finds
returns-in-Folder-clause-finds c = λ bytes.
    let passes = folder_tests_pass c.in_ok-destination.destination c.has-there.result c.item_count-count.result c.args.moment c.in-None.ensures in
    let goes = subst (λ (i : Destination). MeetsDestination (items_on c.args.volume.now bytes) (tree_on c.args.volume.now bytes) c.args.path.now i) c.in-Folder.is (c.in_ok-destination.ensures bytes) in (
      goes,
      none_of (item_at (tree_on c.args.volume.now bytes) c.args.path.now) (sym (c.has-there.ensures bytes) ∙ passes.1),
      passes.2,
      λ good. folder_tests_are (items_on c.args.volume.now bytes) (tree_on c.args.volume.now bytes) c.args.path.now c.in_ok-destination.destination c.has-there.result c.item_count-count.result c.args.moment (c.in_ok-destination.ensures bytes)
          (c.has-there.ensures bytes) (c.item_count-count.ensures.tree bytes good) ∙ sym c.in-None.ensures,
    )

pub returns-in-Folder-clause-fewer : goal.returns-in-Folder-clause-fewer
returns-in-Folder-clause-fewer c = omega (arith, folder_tests_count c.in_ok-destination.destination c.has-there.result c.item_count-count.result c.args.moment c.in-None.ensures, c.item_count-count.ensures.records)
