use Rattle.std.proofs.Common.{sym, subst}
use Rattle.tm_volume_records.specs.Records.{IsThere}
use Rattle.tm_volume.specs.Seen.{Seen}
use Rattle.tm_volume.proofs.volume.Volume.item_row.Goals as goal

pub item_row-requires : goal.item_row-requires
item_row-requires c = subst (λ (s : Seen). IsThere s.image.records c.args.number) (sym c.self.view_is) c.requires
