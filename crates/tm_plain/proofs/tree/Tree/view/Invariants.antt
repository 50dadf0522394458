use Rattle.std.proofs.Common.{◌≡◌, []}
use Rattle.tm_tree.specs.Trees.{put_all}
use Rattle.tm_tree.specs.Views.{shown, view}
use Rattle.tm_plain.proofs.tree.Tree.view.Given as goal

abbrev pub invariant-loop-path : goal.invariant-loop-path
invariant-loop-path g l = put_all l.items.entries (shown l.hidden.items l.path-iterator) ≡ put_all [] (view (g.F.FixedPaths.paths l.fixed) l.self)
