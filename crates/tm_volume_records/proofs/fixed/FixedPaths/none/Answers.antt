use Rattle.std.proofs.Common.{subst, sym, ◌∙◌}
use Rattle.tm_nodes.specs.Paths.{ArePaths}
use Rattle.tm_volume_records.proofs.FixedRules.{no_paths}
use Rattle.tm_volume_records.proofs.fixed.FixedPaths.none.Goals as goal

pub invariant_of-result : goal.invariant_of-result
invariant_of-result c = subst ArePaths (sym (c.of.ensures ∙ c.new.ensures.items)) no_paths
