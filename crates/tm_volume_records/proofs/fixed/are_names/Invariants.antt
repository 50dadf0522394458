use Rattle.std.specs.List.{AllWithin}
use Rattle.tm_base.specs.IsName.{IsName}
use Rattle.tm_volume_records.proofs.fixed.are_names.Given as goal

abbrev pub invariant-loop-name : goal.invariant-loop-name
invariant-loop-name l = AllWithin IsName l.names 0 l.name-index
