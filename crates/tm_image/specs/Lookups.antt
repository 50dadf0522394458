-- What stands at a key, and what changes make of it.
use Rattle.std.specs.Prelude.{◌==◌, ℕ, List, [], Option, Some, None, if◌then◌else◌, find}
use Rattle.std.specs.List.{list_any}
use Rattle.std.specs.Ordering.{nat_cmp}
use Rattle.std.specs.BTreeMap.{is_at}
use Rattle.std.specs.Map.{lookup}
use Rattle.tm_chain.specs.Blob.{bytes_in}
use Rattle.tm_records.specs.declared.record.Record.{Record}
use Rattle.tm_records.specs.declared.record.Put.{Put}
use Rattle.tm_records.specs.declared.record.Body.{Body}
use Rattle.tm_records.specs.declared.record.Body.TheVariants.{Kept, Empty, New}
use Rattle.tm_records.specs.Puts.{put_record}
use Rattle.tm_image.specs.Reads.{Entry, Entries}

-- the entry at a key
abbrev pub entry_at : ℕ → Entries → Option Entry
entry_at k entries = lookup (is_at (nat_cmp k)) entries

-- the put at a key, if there is one
abbrev pub put_at : ℕ → List Put → Option Put
put_at k puts = find (λ p. p.key == k) puts

-- a record where this is put at its key
abbrev pub record_with : Option Put → Option Record → Option Record
record_with None old = old
record_with (Some p) old = Some (put_record p.body p.meta old)

-- the data that a put gives an entry, the blob's read from its blocks
abbrev pub body_bytes : (ℕ → List ℕ) → Body → Option Entry → List ℕ
body_bytes bytes Kept None = []
body_bytes bytes Kept (Some old) = old.bytes
body_bytes bytes Empty old = []
body_bytes bytes (New blob) old = bytes_in blob.blocks bytes 0 blob.length

-- an entry where this is put at its key
abbrev pub entry_with : (ℕ → List ℕ) → Option Put → Option Entry → Option Entry
entry_with bytes None old = old
entry_with bytes (Some p) old = Some (record { meta = p.meta; bytes = body_bytes bytes p.body old })

-- none where a key is removed
abbrev pub unless_removed : {T : Type 0} → ℕ → List ℕ → Option T → Option T
unless_removed k remove found = if list_any (λ j. j == k) remove then None else found
