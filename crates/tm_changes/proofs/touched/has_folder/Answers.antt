use Rattle.std.proofs.Common.{◌≡◌, false, refl, sym, Option, Some, None, is_some}
use Rattle.tm_tree.specs.declared.item.Item.{Item}
use Rattle.tm_tree.specs.Trees.{item_at, is_some_folder}
use Rattle.tm_volume.specs.Seen.{items_on, tree_on}
use Rattle.tm_volume.proofs.Finding.{are_on}
use Rattle.tm_changes.proofs.Results.{on_shelf_of}
use Rattle.tm_volume.proofs.Counting.{nothing_at}
use Rattle.tm_changes.proofs.touched.has_folder.Goals as goal

no_folder : (o : Option Item) → is_some o ≡ false → is_some_folder o ≡ false
no_folder None is = refl
no_folder (Some e) is = cc

pub returns-in-Err : goal.returns-in-Err
returns-in-Err c = λ bytes.
    let m = c.args.volume.now in
    let s = c.rules.ensures.shelved in
    sym (no_folder (item_at (tree_on m bytes) c.args.path.now)
    (nothing_at (items_on m bytes) (tree_on m bytes) c.args.path.now c.in-Err.field-0 (are_on m s.numbers (on_shelf_of m s) bytes) (c.in-Err.ensures.refused bytes)))
