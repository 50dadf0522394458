use Rattle.std.proofs.Common.{◌≡◌, take}
use Rattle.std.specs.List.{flat_map}
use Rattle.tm_nodes.specs.Paths.{path_text}
use Rattle.tm_nodes.proofs.path.paths_data.Given as goal

abbrev pub invariant-loop-path : goal.invariant-loop-path
invariant-loop-path l = l.out.items ≡ flat_map path_text (take l.path-index l.path-items)
