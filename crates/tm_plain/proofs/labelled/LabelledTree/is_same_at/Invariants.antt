use Rattle.std.proofs.Common.{◌≡◌, length}
use Rattle.tm_tree.specs.Copies.{bare, same_tree, is_same_at}
use Rattle.tm_plain.specs.Runs.{run_beneath}
use Rattle.tm_plain.proofs.labelled.LabelledTree.is_same_at.Given as goal

abbrev pub invariant-loop-at : goal.invariant-loop-at
invariant-loop-at l = same_tree (bare (run_beneath l.path l.olds)) (run_beneath l.path l.news) ≡ is_same_at l.self l.now l.path

abbrev pub decreases-loop-at : goal.decreases-loop-at
decreases-loop-at l = length (run_beneath l.path l.news)
