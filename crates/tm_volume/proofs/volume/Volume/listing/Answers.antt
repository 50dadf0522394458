use Rattle.tm_volume.proofs.Finding.{on_shelf, found_there}
use Rattle.tm_volume.proofs.Listing.{nothing_listed, entries_there, listing_is}
use Rattle.tm_volume.proofs.volume.Volume.listing.Goals as goal

pub returns-in_default : goal.returns-in_default
returns-in_default c = nothing_listed c.args.self.now _ (on_shelf _ c.args.self.now _ c.self.view_is c.self.invariant c.total.ensures.sound) c.args.path.now c.in_default.field-0 c.in_default.ensures.refused

pub item_row-requires : goal.item_row-requires
item_row-requires c = found_there _ c.args.self.now c.self.view_is c.args.path.now c.in-Ok.number c.in-Ok.ensures.found

pub folder_rows-requires : goal.folder_rows-requires
folder_rows-requires c = λ es entries. entries_there _ c.args.self.now c.self.view_is _ (on_shelf _ c.args.self.now _ c.self.view_is c.self.invariant c.total.ensures.sound) c.in-Ok.number es entries

pub returns-in-Folder : goal.returns-in-Folder
returns-in-Folder c = listing_is _ c.args.self.now c.self.view_is _ (on_shelf _ c.args.self.now _ c.self.view_is c.self.invariant c.total.ensures.sound)
    c.args.path.now c.in-Ok.number c.in-Ok.ensures.found c.in_ok-body.field-0 c.in-Folder.attrs c.in_ok-folder_rows-in-Folder.field-0
    c.in_ok-body.ensures c.in-Folder.is c.in_ok-folder_rows-in-Folder.ensures
