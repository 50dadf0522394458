-- How much room a volume takes: arithmetic on what it holds, wherever its blocks lie.
use Rattle.std.specs.Prelude.{ℕ, ◌+◌, ◌-◌, ◌*◌, Option, List, length}
use Rattle.std.specs.List.{sum_by}
use Rattle.std.specs.Option.{option_map_or}
use Rattle.tm_chain.specs.Blob.{blob_len}
use Rattle.tm_image.specs.Layout.{blocks_for}
use Rattle.tm_items.specs.Computed.{last_name}
use Rattle.tm_items.specs.Placings.{Placed}
use Rattle.tm_nodes.specs.declared.volume.VolumeHead.{VolumeHead}
use Rattle.tm_nodes.specs.Headers.{volume_text}
use Rattle.tm_nodes.specs.Items.{item_text}
use Rattle.tm_nodes.specs.Paths.{paths_text}
use Rattle.tm_tree.specs.declared.item.Item.{Item}
use Rattle.tm_tree.specs.declared.item.Item.TheVariants as item
use Rattle.tm_tree.specs.declared.node.LeafRow.TheVariants as leaf
use Rattle.tm_tree.specs.declared.record.ItemBody.{ItemBody}
use Rattle.tm_tree.specs.declared.record.ItemBody.TheVariants as body
use Rattle.tm_tree.specs.declared.record.ItemRow.{ItemRow}
use Rattle.tm_tree.specs.Items.{bytes_of}
use Rattle.tm_tree.specs.States.{VolumeState}
use Rattle.tm_volume.specs.Stored.{StoredVolume}

-- an item's record without its data
abbrev pub body_of : Item → ItemBody
body_of (item.Folder attrs) = body.Folder attrs
body_of (item.File attrs stamp bytes) = body.Leaf (leaf.File attrs stamp (length bytes))
body_of (item.Link attrs stamp target) = body.Leaf (leaf.Link attrs stamp target)

-- what the record of a numbered item says
abbrev pub placed_row : Placed → ItemRow
placed_row x = record { parent = x.parent; name = x.name; body = body_of x.item }

-- in any folder: the parent's number always takes as many bytes
abbrev pub row_of : Option (List ℕ) → Item → ItemRow
row_of name e = record { parent = 0; name = name; body = body_of e }

-- what a record takes of the table's text
abbrev pub record_len : ℕ → ℕ → ℕ
record_len meta_len data_len = 20 + meta_len + 4 * blob_len data_len

abbrev pub item_len : Option (List ℕ) → Item → ℕ
item_len name e = record_len (length (item_text (row_of name e))) (length (bytes_of e))

abbrev pub head_of : VolumeState → VolumeHead
head_of v = record { id = v.id; capacity = v.capacity; name = v.name }

abbrev pub head_len : VolumeState → ℕ
head_len v = record_len (length (volume_text (head_of v))) (length (paths_text v.contents.fixed))

-- how many bytes the text of the table has
abbrev pub text_len : StoredVolume → ℕ
text_len s = head_len s.volume + option_map_or (record_len 0) s.journal 0 + sum_by (λ row. item_len (last_name row.0) row.1) s.volume.contents.tree

-- how many blocks the table takes
abbrev pub table_len : StoredVolume → ℕ
table_len s = blocks_for (text_len s)

-- how many blocks the data take
abbrev pub data_len : StoredVolume → ℕ
data_len s = blob_len (length (paths_text s.volume.contents.fixed)) + option_map_or blob_len s.journal 0
    + sum_by (λ row. blob_len (length (bytes_of row.1))) s.volume.contents.tree

-- how many blocks of an image of so many are free
abbrev pub free_of : ℕ → StoredVolume → ℕ
free_of blocks s = blocks - (3 + table_len s + data_len s)
