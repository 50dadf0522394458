-- How long the meta of an item can be.
use Rattle.std.proofs.Common.{◌≡◌, ℕ, suc, ◌*◌, ◌^◌, ◌<◌, ◌≤◌, List, [], ◌∷◌, ◌++◌, length, Option, Some, None, arith, length-append}
use Rattle.std.specs.Option.{IfSome}
use Rattle.std.specs.List.{All, sum_by, flat_map}
use Rattle.std.proofs.lemmas.List.Sums.{sum_by-cons}
use Rattle.std.proofs.lemmas.List.Concat.{length-flat_map}
use Rattle.tm_base.specs.IsName.{IsName}
use Rattle.tm_codec.specs.Fields.{u8_text, u16_text, u32_text, u64_text, short_text, long_text}
use Rattle.tm_codec.proofs.Fields.{length-u8_text, length-u16_text, length-u32_text, length-u64_text, length-short_text, length-long_text}
use Rattle.tm_tree.specs.declared.attrs.Attrs.{Attrs}
use Rattle.tm_tree.specs.declared.record.ItemBody.{ItemBody}
use Rattle.tm_tree.specs.declared.record.ItemBody.TheVariants as body
use Rattle.tm_tree.specs.declared.node.LeafRow.TheVariants as leaf
use Rattle.tm_tree.specs.declared.record.ItemRow.{ItemRow}
use Rattle.tm_nodes.specs.declared.kind.Kind.{Kind}
use Rattle.tm_nodes.specs.Attrs.{extra_text, attrs_text, IsExtra, IsAttrs}
use Rattle.tm_nodes.specs.Items.{item_text, item_kind, item_attrs, item_tail, item_name, IsItemRow, IsItemTail}
use Rattle.tm_nodes.specs.Kinds.{kind_text, kind_number}
use Rattle.tm_volume.proofs.Rooms.{part_len}
use Rattle.tm_nodes.proofs.Lengths.{attrs_length, sum_bounded}

name_len : (o : Option (List ℕ)) → IfSome o IsName → length (short_text (item_name o)) ≤ 256
name_len None h = omega (arith, length-short_text [])
name_len (Some name) h = omega (arith, length-short_text name, h.short)

tail_len : (b : ItemBody) → IsItemTail b → length (item_tail b) ≤ 2000
tail_len (body.Folder attrs) h = omega arith
tail_len (body.Leaf (leaf.File attrs stamp size)) h = omega (arith, length-u64_text stamp)
tail_len (body.Leaf (leaf.Link attrs stamp target)) h = omega (arith, length-append (u64_text stamp) (long_text target), length-u64_text stamp, length-long_text target, h.1.short)

kind_len : (k : Kind) → length (kind_text k) ≡ 1
unfolding kind_text
kind_len k = length-u8_text (kind_number k)

-- it can be spelled in a table
pub meta_short : (row : ItemRow) → IsItemRow row → length (item_text row) < 2 ^ 32
meta_short row is = omega (arith, part_len row, kind_len (item_kind row.body), name_len row.name is.name, attrs_length (item_attrs row.body) is.attrs, tail_len row.body is.tail)
