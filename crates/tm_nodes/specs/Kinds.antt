-- The first byte of an item's or a node's record.
use Rattle.std.specs.Prelude.{ℕ, List}
use Rattle.tm_nodes.specs.declared.kind.Kind.{Kind}
use Rattle.tm_nodes.specs.declared.kind.Kind.TheVariants.{Folder, File, Link}
use Rattle.tm_codec.specs.Fields.{u8_text}

-- 1, 2 or 3
abbrev pub kind_number : Kind → ℕ
kind_number Folder = 1
kind_number File = 2
kind_number Link = 3

-- in one byte
unfoldable pub kind_text : Kind → List ℕ
kind_text kind = u8_text (kind_number kind)
