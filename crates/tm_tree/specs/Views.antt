-- The view: the tree without its exclusions.
use Rattle.std.specs.Prelude.{Bool, not, ◌&&◌, ◌||◌, List, filter, map}
use Rattle.std.specs.List.{list_any}
use Rattle.tm_base.specs.Paths.{Names, is_prefix, is_root}
use Rattle.tm_tree.specs.declared.item.Item.{Item}
use Rattle.tm_tree.specs.Items.{is_excluded}
use Rattle.tm_tree.specs.Contents.{is_fixed}
use Rattle.tm_tree.specs.Trees.{Tree}

-- an item other than the root that carries the exclusion attribute or stands at a fixed path
abbrev pub hides : List Names → Names → Item → Bool
hides fixed p e = not (is_root p) && (is_excluded e || is_fixed fixed p)

abbrev pub hidden_paths : List Names → Tree → List Names
hidden_paths fixed t = map (λ row. row.0) (filter (λ row. hides fixed row.0 row.1) t)

-- whether p is one of these or lies beneath one
abbrev pub is_hidden : List Names → Names → Bool
is_hidden hidden p = list_any (λ over. is_prefix over p) hidden

abbrev pub shown : List Names → Tree → Tree
shown hidden t = filter (λ row. not (is_hidden hidden row.0)) t

-- the tree without the items that are excluded, and without all that is beneath them
abbrev pub view : List Names → Tree → Tree
view fixed t = shown (hidden_paths fixed t) t
