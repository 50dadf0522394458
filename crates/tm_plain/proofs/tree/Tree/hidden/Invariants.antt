use Rattle.std.proofs.Common.{◌≡◌, ◌++◌}
use Rattle.tm_tree.specs.Views.{hidden_paths}
use Rattle.tm_plain.proofs.tree.Tree.hidden.Given as goal

abbrev pub invariant-loop-path : goal.invariant-loop-path
invariant-loop-path g l = l.hidden.items ++ hidden_paths (g.F.FixedPaths.paths l.fixed) l.path-iterator ≡ hidden_paths (g.F.FixedPaths.paths l.fixed) l.self
