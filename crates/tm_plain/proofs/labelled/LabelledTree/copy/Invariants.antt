use Rattle.std.proofs.Common.{◌≡◌, []}
use Rattle.tm_tree.specs.Copies.{with_labels, copied_label, copy}
use Rattle.tm_tree.specs.Trees.{put_all}
use Rattle.tm_plain.proofs.labelled.LabelledTree.copy.Given as goal

abbrev pub invariant-loop-path : goal.invariant-loop-path
invariant-loop-path l = put_all l.items.entries (with_labels (copied_label l.label l.self l.now) l.path-iterator) ≡ put_all [] (copy l.label l.self l.now)
