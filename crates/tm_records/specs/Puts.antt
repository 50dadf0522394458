-- What puts make of the records.
use Rattle.std.specs.Prelude.{ℕ, List, [], ◌∷◌, IsSome, Option, Some, None}
use Rattle.std.specs.Ordering.{nat_cmp}
use Rattle.std.specs.BTreeMap.{insert_entry}
use Rattle.tm_records.specs.declared.record.Record.{Record}
use Rattle.tm_records.specs.declared.record.Put.{Put}
use Rattle.tm_records.specs.declared.record.Body.{Body}
use Rattle.tm_records.specs.declared.record.Body.TheVariants.{Kept, Empty, New}
use Rattle.tm_records.specs.Records.{Records, at}

-- data can be kept only where a record stands
abbrev pub CanPut : Body → Option Record → Type 0
CanPut Kept old = IsSome old
CanPut Empty old = Unit {0}
CanPut (New blob) old = Unit {0}

-- the record that a put makes: its meta is the put's, and its data is kept, none, or the blob's
abbrev pub put_record : Body → List ℕ → Option Record → Record
put_record Kept meta None = record { meta = meta; length = 0; blocks = [] }
put_record Kept meta (Some old) = record { meta = meta; length = old.length; blocks = old.blocks }
put_record Empty meta old = record { meta = meta; length = 0; blocks = [] }
put_record (New blob) meta old = record { meta = meta; length = blob.length; blocks = blob.blocks }

-- the records with these puts more, one after another
abbrev pub with_puts : List Put → Records → Records
with_puts [] records = records
with_puts (p ∷ ps) records = with_puts ps (insert_entry nat_cmp records p.key (put_record p.body p.meta (at p.key records)))

-- the blocks that a put brings
abbrev pub brought : Body → List ℕ
brought Kept = []
brought Empty = []
brought (New blob) = blob.blocks
