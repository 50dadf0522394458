use Rattle.std.proofs.Common.{◌≡◌, sym, subst}
use Rattle.tm_items.specs.Rules.{is_folder_placed}
use Rattle.tm_volume_records.specs.Records.{items_in, IsThere}
use Rattle.tm_volume.specs.Seen.{Seen}
use Rattle.tm_volume.proofs.volume.Volume.is_folder.Goals as goal

pub is_folder-requires : goal.is_folder-requires
is_folder-requires c = subst (λ (s : Seen). IsThere s.image.records c.args.number) (sym c.self.view_is) c.requires

pub returns : goal.returns
returns c = λ bytes. subst (λ (s : Seen). c.is_folder.result ≡ is_folder_placed (items_in s.image.records bytes c.args.number)) c.self.view_is (c.is_folder.ensures bytes)
