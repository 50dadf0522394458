-- The text of a table.
use Rattle.std.specs.Prelude.{ℕ, List, ◌++◌, length}
use Rattle.std.specs.List.{flat_map}
use Rattle.tm_codec.specs.Fields.{u32_text, u64_text}
use Rattle.tm_records.specs.declared.record.Record.{Record}
use Rattle.tm_records.specs.Records.{Records}

-- a number for each block
abbrev pub numbers : List ℕ → List ℕ
numbers blocks = flat_map u32_text blocks

-- a meta after its length
unfoldable pub meta_text : List ℕ → List ℕ
meta_text meta = u32_text (length meta) ++ meta

-- the key, the meta, the length of the data and its blocks
unfoldable pub record_text : ℕ × Record → List ℕ
record_text e = u64_text e.0 ++ meta_text e.1.meta ++ u64_text e.1.length ++ numbers e.1.blocks

-- one record after another
unfoldable pub table_text : Records → List ℕ
table_text records = flat_map record_text records
