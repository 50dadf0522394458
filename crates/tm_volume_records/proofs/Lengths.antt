-- Items that keep their own rules are no longer than files may be.
use Rattle.std.proofs.Common.{◌≤◌, ℕ, Option, Some, None, IfSome, arith}
use Rattle.tm_records.specs.declared.record.Record.{Record}
use Rattle.tm_records.specs.Records.{Records, at}
use Rattle.tm_tree.specs.declared.node.LeafRow.TheVariants as leaf
use Rattle.tm_tree.specs.declared.record.ItemBody.{ItemBody}
use Rattle.tm_tree.specs.declared.record.ItemBody.TheVariants as body
use Rattle.tm_volume_records.specs.Loads.{IsOwn, KeepsOwn}
use Rattle.tm_volume_records.specs.Records.{item_key}
use Rattle.tm_volume_records.specs.Rules.{AreShort, HasData}
use Rattle.tm_base.specs.Limits.{max_items, max_file_bytes}

data_short : (b : ItemBody) (size : ℕ) → HasData b size → size ≤ max_file_bytes
data_short (body.Folder attrs) size h = omega (arith, h)
data_short (body.Leaf (leaf.File attrs stamp count)) size h = h
data_short (body.Leaf (leaf.Link attrs stamp target)) size h = omega (arith, h)

record_short : (next : ℕ) (o : Option Record) → IfSome o (IsOwn next) → IfSome o (λ r. r.length ≤ max_file_bytes)
record_short next None own = tt
record_short next (Some r) own = data_short own.row.body r.length own.bytes

pub own_short : (records : Records) (next : ℕ) → ((n : ℕ) → 1 ≤ n → n ≤ max_items → KeepsOwn records next n) → AreShort records
own_short records next own = λ n least most. record_short next (at (item_key n) records) (own n least most)
