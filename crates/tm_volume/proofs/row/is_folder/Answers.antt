use Rattle.std.proofs.Common.{Some, sym, ◌∙◌, ap}
use Rattle.tm_volume.proofs.Rows.{number_low, folder_told, other_told}
use Rattle.tm_volume.proofs.row.is_folder.Goals as goal

pub item_entry-requires : goal.item_entry-requires
item_entry-requires c = number_low c.args.image.now.records c.args.number c.requires

pub returns-in-Some-Folder : goal.returns-in-Some-Folder
returns-in-Some-Folder c = λ bytes. folder_told c.spellings_are_found.ensures.items c.in-Some.meta.now c.in-Some.field-0-1 c.kind_of.result _ (c.requires bytes) c.kind_of.ensures.item (c.in-Some.ensures.some bytes)
    (c.in-Some-Folder.is ∙ ap Some c.in-Some-Folder.field-0-is)

pub returns-in-Some-File : goal.returns-in-Some-File
returns-in-Some-File c = λ bytes. other_told c.spellings_are_found.ensures.items c.in-Some.meta.now c.in-Some.field-0-1 c.kind_of.result _ (c.requires bytes) c.kind_of.ensures.item (c.in-Some.ensures.some bytes)
    (λ folder. let clash = sym folder ∙ c.in-Some-File.is ∙ ap Some c.in-Some-File.field-0-is in cc)

pub returns-in-Some-Link : goal.returns-in-Some-Link
returns-in-Some-Link c = λ bytes. other_told c.spellings_are_found.ensures.items c.in-Some.meta.now c.in-Some.field-0-1 c.kind_of.result _ (c.requires bytes) c.kind_of.ensures.item (c.in-Some.ensures.some bytes)
    (λ folder. let clash = sym folder ∙ c.in-Some-Link.is ∙ ap Some c.in-Some-Link.field-0-is in cc)

pub returns-in-None : goal.returns-in-None
returns-in-None c = λ bytes. other_told c.spellings_are_found.ensures.items c.in-Some.meta.now c.in-Some.field-0-1 c.kind_of.result _ (c.requires bytes) c.kind_of.ensures.item (c.in-Some.ensures.some bytes)
    (λ folder. let clash = sym folder ∙ c.in-None.is in cc)
